-- One message more, and what is kept of the streamed transactions that are open.
use Rattle.std.proofs.Common.{◌≡◌, ℕ, ℤ, List, [], ◌∷◌, ◌++◌, Bool, true, false, cond, eqb, Option}
use Rattle.std.proofs.Common.{Some, None, Result, Ok, Err, refl, sym, ap, subst, ◌∙◌}
use Rattle.std.specs.Prelude.{◌+◌, unwrap_or}
use Rattle.pglogical.specs.declared.message.Item.{Item}
use Rattle.pglogical.specs.declared.message.Item.TheVariants as item
use Rattle.pglogical.specs.declared.message.Message.{Message}
use Rattle.pglogical.specs.declared.message.Message.TheVariants as message
use Rattle.pgorder.specs.declared.Version.{Version}
use Rattle.pgorder.specs.declared.Version.TheVariants.{One, Two}
use Rattle.pgorder.specs.declared.Event.TheVariants as event
use Rattle.pgorder.specs.declared.fault.OrderFault.{OrderFault}
use Rattle.pgorder.specs.declared.fault.OrderFault.TheVariants as fault
use Rattle.pgorder.specs.OpenXids.{OpenXids, is_open, with_open, without, is_open-opened}
use Rattle.pgorder.specs.OpenXids.{two_xids}
use Rattle.pgorder.specs.States.{StreamOrder}
use Rattle.pgorder.specs.Steps.{Context, Outside, InPair, InBlock, OrderState}
use Rattle.pgorder.specs.Steps.{order_step, in_version_2, step_stream_start}
use Rattle.pgsub_core.specs.Server.Streamed.{Change, SubtransactionAbort}
use Rattle.pgsub_core.specs.Server.Stream.{block_of, streamed_since_first_segment, is_block}
use Rattle.pgsub_core.specs.Server.Stream.{with_item}
use Rattle.pgwatch.specs.Known.{is_known, with_known}
use Rattle.pgwatch.specs.declared.fault.Breach.{Breach}
use Rattle.pgwatch.specs.declared.fault.Breach.TheVariants as breach
use Rattle.pgwatch.specs.declared.facts.Facts.{Facts}
use Rattle.pgwatch.specs.declared.noted.Noted.{Noted}
use Rattle.pgwatch.specs.declared.noted.What.TheVariants as what
use Rattle.pgwatch.specs.declared.watch.Watch.{Watch}
use Rattle.pgwatch.specs.Nesting.{Nesting, at_end, nest, of_xid}
use Rattle.pgwatch.specs.Hearing.{by_order, with_facts, commit_judged, item_noted, is_full}
use Rattle.pgwatch.specs.Hearing.{what_of, then_watch, replayed, nest_judged, closed, begun}
use Rattle.pgwatch.specs.Hearing.{commits}
use Rattle.pgwatched.specs.Nested.{marks}
use Rattle.pgwatched.proofs.Streams.{Keeps, unchanged, opens, closes, notes, same_number}
use Rattle.pgwatched.proofs.Replays.{all_alike}

abbrev pub block_in : Context → Option ℕ
block_in Outside = None
block_in (InPair lsn xid) = None
block_in (InBlock xid) = Some xid

abbrev pub IsOpenBlock : Context → OpenXids → Type 0
IsOpenBlock Outside o = Unit {0}
IsOpenBlock (InPair lsn xid) o = Unit {0}
IsOpenBlock (InBlock xid) o = is_open xid o ≡ true

pub record IsKept (c : Context) (o : OpenXids) (s : List Noted) (before : List Message) : Type 0 where
  pub keeps : Keeps s o before
  pub block : block_of before ≡ block_in c
  pub in_it : IsOpenBlock c o

abbrev pub OrderKeeps : StreamOrder → List Noted → List Message → Type 0
OrderKeeps r s before = IsKept r.state.context r.state.open_xids s before

abbrev pub WatchKeeps : Watch → List Message → Type 0
WatchKeeps w before = OrderKeeps w.order w.streams before

abbrev done : Watch → Result Watch Breach
done w = Ok w

abbrev of_ok : Watch → Result Watch Breach → Watch
of_ok w (Ok x) = x
of_ok w (Err b) = w

abbrev state_at : Context → OpenXids → OrderState
state_at c o = record { context = c; open_xids = o }

same_kept : (w u : Watch) (before : List Message) → w.order ≡ u.order → w.streams ≡ u.streams → WatchKeeps w before → WatchKeeps u before
same_kept w u before order streams k =
    subst (λ r. OrderKeeps r u.streams before) order (subst (λ s. OrderKeeps w.order s before) streams k)

-- ---- what leaves the order and what is kept as they were

pub record Leaves (w u : Watch) : Type 0 where
  pub order : w.order ≡ u.order
  pub streams : w.streams ≡ u.streams

left : (w : Watch) → Leaves w w
left w = record { order = refl; streams = refl }

relation_leaves : (w u : Watch) (n oid : ℕ) (there full : Bool)
    → cond there (Ok w) (cond full (Err (breach.Full n)) (Ok (record w { known = with_known oid w.known; held = w.held + 1 }))) ≡ Ok u
    → Leaves w u
relation_leaves w u n oid true full e = subst (Leaves w) (ap (of_ok w) e) (left w)
relation_leaves w u n oid false true e = absurd (cc)
relation_leaves w u n oid false false e = subst (Leaves w) (ap (of_ok w) e) (record { order = refl; streams = refl })

pub item_leaves : (w u : Watch) (n : ℕ) (i : Item) → item_noted w n i ≡ Ok u → Leaves w u
item_leaves w u n (item.Relation def) e = relation_leaves w u n def.oid (is_known def.oid w.known) (is_full w) e
item_leaves w u n (item.Insert oid row) e = subst (Leaves w) (ap (of_ok w) e) (record { order = refl; streams = refl })
item_leaves w u n (item.Update oid prior row) e = subst (Leaves w) (ap (of_ok w) e) (record { order = refl; streams = refl })
item_leaves w u n (item.Delete oid kind row) e = subst (Leaves w) (ap (of_ok w) e) (record { order = refl; streams = refl })
item_leaves w u n (item.Truncate options oids) e = subst (Leaves w) (ap (of_ok w) e) (record { order = refl; streams = refl })

pub commit_leaves : (w u : Watch) (r : Result Facts Breach) → with_facts w r ≡ Ok u → Leaves w u
commit_leaves w u (Ok facts) e = subst (Leaves w) (ap (of_ok w) e) (record { order = refl; streams = refl })
commit_leaves w u (Err b) e = absurd (cc)

then_leaves : (w u : Watch) (n lsn end : ℕ) (r : Result Watch Breach) → ((v : Watch) → r ≡ Ok v → Leaves w v)
    → then_watch r (λ new. commits new n lsn end) ≡ Ok u → Leaves w u
then_leaves w u n lsn end (Err b) l e = absurd (cc)
then_leaves w u n lsn end (Ok v) l e =
    let a = l v refl in
    let b = commit_leaves v u (commit_judged v.facts n lsn end) e in
    record { order = a.order ∙ b.order; streams = a.streams ∙ b.streams }

pub judged_leaves : (w u : Watch) (n lsn end : ℕ) (r : Result Nesting Noted) → nest_judged w n lsn end r ≡ Ok u → Leaves w u
judged_leaves w u n lsn end (Err x) e = absurd (cc)
judged_leaves w u n lsn end (Ok g) e =
    let v : Watch = record w { facts = begun w.facts } in
    then_leaves w u n lsn end (replayed v n g.surviving)
    (λ x is. let a = all_alike g.surviving v x n is in record { order = a.order; streams = a.streams }) e

-- ---- one message

module _ (v : Version) (n : ℕ) (before : List Message) (w : Watch) where
  abbrev with_state : Watch → OrderState → Watch
  with_state u s = record u { order = record { version = v; state = s } }

  abbrev Goes : Message → Type 0
  Goes m = WatchKeeps w (m ∷ before)

  alike : (m : Message) (u : Watch) → WatchKeeps u (m ∷ before) → done u ≡ Ok w → Goes m
  alike m u k e = subst (λ (x : Watch). WatchKeeps x (m ∷ before)) (ap (of_ok w) e) k

  no_fault : (u : Watch) (m : Message) (why : OrderFault) (x : Version) → by_order u n m (in_version_2 x (Err why)) ≡ Ok w → Goes m
  no_fault u m why One e = absurd (cc)
  no_fault u m why Two e = absurd (cc)

  module _ (u : Watch) (o : OpenXids) where
    -- outside pairs and blocks
    module _ (k : IsKept Outside o u.streams before) where
      begins : (lsn : ℕ) (time : ℤ) (xid : ℕ) (b : Bool)
          → by_order u n (message.Begin lsn time xid)
          (cond b (Err fault.NestedBegin) (Ok (state_at (InPair lsn xid) o, event.Begin xid))) ≡ Ok w
          → Goes (message.Begin lsn time xid)
      begins lsn time xid true e = absurd (cc)
      begins lsn time xid false e =
          alike (message.Begin lsn time xid)
          (record u { order = record { version = u.order.version; state = state_at (InPair lsn xid) o }; facts = begun u.facts })
          (record { keeps = unchanged u.streams o before k.keeps (message.Begin lsn time xid) (λ x. refl); block = k.block; in_it = tt }) e

      logical : (xid : Option ℕ) (transactional : Bool) (lsn : ℕ) (prefix content : List ℕ)
          → done (record u { order = record { version = u.order.version; state = state_at Outside o } }) ≡ Ok w
          → Goes (message.Logical xid transactional lsn prefix content)
      logical xid transactional lsn prefix content e =
          alike (message.Logical xid transactional lsn prefix content)
          (record u { order = record { version = u.order.version; state = state_at Outside o } })
          (record {
            keeps = unchanged u.streams o before k.keeps (message.Logical xid transactional lsn prefix content) (λ x. refl);
            block = k.block;
            in_it = tt;
          }) e

      first_block : (xid : ℕ) → is_open xid o ≡ false → (full : Bool)
          → (let t : Watch = record u { order = record { version = u.order.version; state = state_at (InBlock xid) (with_open xid o) } } in
          cond full (Err (breach.Full n)) (Ok (record t { held = t.held + 1 })) ≡ Ok w)
          → Goes (message.StreamStart xid true)
      first_block xid new true e = absurd (cc)
      first_block xid new false e =
          alike (message.StreamStart xid true)
          (record u {
            order = record { version = u.order.version; state = state_at (InBlock xid) (with_open xid o) };
            held = u.held + 1;
          })
          (record {
            keeps = opens u.streams o before k.keeps (message.StreamStart xid true) xid new (λ x. refl);
            block = refl;
            in_it = is_open-opened xid o;
          }) e

      starts : (xid : ℕ) (x : Version) (first there : Bool) → is_open xid o ≡ there
          → by_order u n (message.StreamStart xid first)
          (in_version_2 x (step_stream_start (state_at Outside o) Outside xid first)) ≡ Ok w
          → Goes (message.StreamStart xid first)
      starts xid One first there is e = absurd (cc)
      starts xid Two true there is e =
          go there is (subst (λ b. by_order u n (message.StreamStart xid true)
          (cond b (Err fault.FirstFlagOnOpen) (Ok (state_at (InBlock xid) (with_open xid o), event.Open xid))) ≡ Ok w) is e)
        where
          go : (b : Bool) → is_open xid o ≡ b → by_order u n (message.StreamStart xid true)
              (cond b (Err fault.FirstFlagOnOpen) (Ok (state_at (InBlock xid) (with_open xid o), event.Open xid))) ≡ Ok w
              → Goes (message.StreamStart xid true)
          go true is e = absurd (cc)
          go false is e = first_block xid is (is_full u) e
      starts xid Two false there is e =
          go there is (subst (λ b. by_order u n (message.StreamStart xid false)
          (cond b (Ok (state_at (InBlock xid) o, event.Reopen xid)) (Err fault.LaterFlagOnUnknown)) ≡ Ok w) is e)
        where
          go : (b : Bool) → is_open xid o ≡ b → by_order u n (message.StreamStart xid false)
              (cond b (Ok (state_at (InBlock xid) o, event.Reopen xid)) (Err fault.LaterFlagOnUnknown)) ≡ Ok w
              → Goes (message.StreamStart xid false)
          go true is e =
              alike (message.StreamStart xid false)
              (record u { order = record { version = u.order.version; state = state_at (InBlock xid) o } })
              (record {
                keeps = unchanged u.streams o before k.keeps (message.StreamStart xid false) (λ x. refl);
                block = refl;
                in_it = is;
              }) e
          go false is e = absurd (cc)

      aborts : (xid label : ℕ) (x : Version) (there same : Bool) → is_open xid o ≡ there
          → by_order u n (message.StreamAbort xid label)
          (in_version_2 x (cond there (cond same (Ok (state_at Outside (without xid o), event.Drop xid))
          (Ok (state_at Outside o, event.Cut xid label)))
          (Ok (state_at Outside o, event.Ignore)))) ≡ Ok w
          → Goes (message.StreamAbort xid label)
      aborts xid label One there same is e = absurd (cc)
      aborts xid label Two true true is e =
          alike (message.StreamAbort xid label)
          (closed (record u { order = record { version = u.order.version; state = state_at Outside (without xid o) } }) xid)
          (record {
            keeps = closes u.streams o before k.keeps (message.StreamAbort xid label) xid
                (λ x other. ap (λ b. cond b (streamed_since_first_segment x before ++ SubtransactionAbort label ∷ [])
                (streamed_since_first_segment x before)) other);
            block = k.block;
            in_it = tt;
          }) e
      aborts xid label Two true false is e =
          go (is_full u) e
        where
          go : (full : Bool)
              → (let t : Watch = record u { order = record { version = u.order.version; state = state_at Outside o } } in
              cond full (Err (breach.Full n))
              (Ok (record t { streams = t.streams ++ record { xid = xid; subxid = label; at = n; what = what.Abort } ∷ [] })) ≡ Ok w)
              → Goes (message.StreamAbort xid label)
          go true e = absurd (cc)
          go false e =
              alike (message.StreamAbort xid label)
              (record u {
                order = record { version = u.order.version; state = state_at Outside o };
                streams = u.streams ++ record { xid = xid; subxid = label; at = n; what = what.Abort } ∷ [];
              })
              (record {
                keeps = notes u.streams o before k.keeps (message.StreamAbort xid label) xid is
                    (record { xid = xid; subxid = label; at = n; what = what.Abort }) (SubtransactionAbort label) refl refl (λ x. refl);
                block = k.block;
                in_it = tt;
              }) e
      aborts xid label Two false same is e =
          alike (message.StreamAbort xid label)
          (record u { order = record { version = u.order.version; state = state_at Outside o } })
          (record {
            keeps = record {
              of_open = λ x open_is. k.keeps.of_open x open_is
                  ∙ ap (λ b. marks (cond b (streamed_since_first_segment x before ++ SubtransactionAbort label ∷ [])
                  (streamed_since_first_segment x before))) (sym (other x open_is));
              of_others = k.keeps.of_others;
            };
            block = k.block;
            in_it = tt;
          }) e
        where
          other : (x : ℕ) → is_open x o ≡ true → eqb xid x ≡ false
          other x open_is = two_xids x xid o open_is is

      stream_commits : (xid lsn end : ℕ) (time : ℤ) (x : Version) (there : Bool) → is_open xid o ≡ there
          → by_order u n (message.StreamCommit xid lsn end time)
          (in_version_2 x (cond there (Ok (state_at Outside (without xid o), event.CommitStream xid lsn end)) (Err fault.CommitOfUnknown)))
          ≡ Ok w
          → Goes (message.StreamCommit xid lsn end time)
      stream_commits xid lsn end time One there is e = absurd (cc)
      stream_commits xid lsn end time Two false is e = absurd (cc)
      stream_commits xid lsn end time Two true is e =
          let t : Watch =
          closed (record u { order = record { version = u.order.version; state = state_at Outside (without xid o) } }) xid in
          let l = judged_leaves t w n lsn end (nest (at_end xid) (of_xid xid u.streams)) e in
          same_kept t w (message.StreamCommit xid lsn end time ∷ before) l.order l.streams
          (record {
            keeps = closes u.streams o before k.keeps (message.StreamCommit xid lsn end time) xid (λ x other. refl);
            block = k.block;
            in_it = tt;
          })

    -- in a pair
    module _ (l x : ℕ) (k : IsKept (InPair l x) o u.streams before) where
      in_pair : (m : Message) (t : Watch) → t.order.state.context ≡ InPair l x → t.order.state.open_xids ≡ o → t.streams ≡ u.streams
          → ((y : ℕ) → streamed_since_first_segment y (m ∷ before) ≡ streamed_since_first_segment y before)
          → block_of (m ∷ before) ≡ block_of before → WatchKeeps t (m ∷ before)
      in_pair m t c opens_are streams_are same block =
          subst (λ c. IsKept c t.order.state.open_xids t.streams (m ∷ before)) (sym c)
          (subst (λ o. IsKept (InPair l x) o t.streams (m ∷ before)) (sym opens_are)
          (subst (λ s. IsKept (InPair l x) o s (m ∷ before)) (sym streams_are)
          (record { keeps = unchanged u.streams o before k.keeps m same; block = block ∙ k.block; in_it = tt })))

      commits_pair : (lsn end : ℕ) (time : ℤ) (b : Bool)
          → by_order u n (message.Commit lsn end time)
          (cond b (Ok (state_at Outside o, event.CommitPair x lsn end)) (Err fault.CommitLsnDiffers)) ≡ Ok w
          → Goes (message.Commit lsn end time)
      commits_pair lsn end time true e =
          let t : Watch = record u { order = record { version = u.order.version; state = state_at Outside o } } in
          let l = commit_leaves t w (commit_judged u.facts n lsn end) e in
          same_kept t w (message.Commit lsn end time ∷ before) l.order l.streams
          (record {
            keeps = unchanged u.streams o before k.keeps (message.Commit lsn end time) (λ y. refl);
            block = k.block;
            in_it = tt;
          })
      commits_pair lsn end time false e = absurd (cc)

      ignored : (m : Message) → ((y : ℕ) → streamed_since_first_segment y (m ∷ before) ≡ streamed_since_first_segment y before)
          → block_of (m ∷ before) ≡ block_of before
          → done (record u { order = record { version = u.order.version; state = state_at (InPair l x) o } }) ≡ Ok w → Goes m
      ignored m same block e =
          let t : Watch = record u { order = record { version = u.order.version; state = state_at (InPair l x) o } } in
          alike m t (in_pair m t refl refl refl same block) e

      item_in_pair : (label : Option ℕ) (i : Item)
          → (let t : Watch = record u { order = record { version = u.order.version; state = state_at (InPair l x) o } } in
          item_noted t n i ≡ Ok w)
          → Goes (message.Item label i)
      item_in_pair label i e =
          let t : Watch = record u { order = record { version = u.order.version; state = state_at (InPair l x) o } } in
          let left = item_leaves t w n i e in
          same_kept t w (message.Item label i ∷ before) left.order left.streams
          (in_pair (message.Item label i) t refl refl refl
          (λ y. ap (λ b. with_item (is_block y b) (unwrap_or label y) i (streamed_since_first_segment y before)) k.block) refl)

    -- in a block
    module _ (x : ℕ) (k : IsKept (InBlock x) o u.streams before) where
      skipped : (m : Message) → ((y : ℕ) → streamed_since_first_segment y (m ∷ before) ≡ streamed_since_first_segment y before)
          → block_of (m ∷ before) ≡ block_of before
          → done (record u { order = record { version = u.order.version; state = state_at (InBlock x) o } }) ≡ Ok w → Goes m
      skipped m same block e =
          alike m (record u { order = record { version = u.order.version; state = state_at (InBlock x) o } })
          (record { keeps = unchanged u.streams o before k.keeps m same; block = block ∙ k.block; in_it = k.in_it }) e

      item_in_block : (label : Option ℕ) (i : Item) (full : Bool)
          → (let t : Watch = record u { order = record { version = u.order.version; state = state_at (InBlock x) o } } in
          cond full (Err (breach.Full n))
          (Ok (record t { streams = t.streams ++ record { xid = x; subxid = unwrap_or label x; at = n; what = what_of i } ∷ [] })) ≡ Ok w)
          → Goes (message.Item label i)
      item_in_block label i true e = absurd (cc)
      item_in_block label i false e =
          let new : Noted = record { xid = x; subxid = unwrap_or label x; at = n; what = what_of i } in
          alike (message.Item label i)
          (record u {
            order = record { version = u.order.version; state = state_at (InBlock x) o };
            streams = u.streams ++ new ∷ [];
          })
          (record {
            keeps = notes u.streams o before k.keeps (message.Item label i) x k.in_it new (Change (unwrap_or label x) i) refl refl under;
            block = k.block;
            in_it = k.in_it;
          }) e
        where
          under : (y : ℕ) → streamed_since_first_segment y (message.Item label i ∷ before)
              ≡ cond (eqb x y) (streamed_since_first_segment y before ++ Change (unwrap_or label x) i ∷ [])
              (streamed_since_first_segment y before)
          under y =
              ap (λ b. with_item (is_block y b) (unwrap_or label y) i (streamed_since_first_segment y before)) k.block
              ∙ (elim (eqb x y) as (λ b. eqb x y ≡ b
              → with_item b (unwrap_or label y) i (streamed_since_first_segment y before)
              ≡ cond b (streamed_since_first_segment y before ++ Change (unwrap_or label x) i ∷ [])
              (streamed_since_first_segment y before)) [
                | true ↦ λ is.
                    ap (λ z. streamed_since_first_segment y before ++ Change (unwrap_or label z) i ∷ []) (sym (same_number x y is))
                | false ↦ λ _. refl
              ] refl)

      stops : (z : Version)
          → by_order u n message.StreamStop (in_version_2 z (Ok (state_at Outside o, event.Close))) ≡ Ok w → Goes message.StreamStop
      stops One e = absurd (cc)
      stops Two e =
          alike message.StreamStop (record u { order = record { version = u.order.version; state = state_at Outside o } })
          (record { keeps = unchanged u.streams o before k.keeps message.StreamStop (λ y. refl); block = refl; in_it = tt }) e

  pub kept : (u : Watch) (c : Context) (o : OpenXids) (m : Message) → IsKept c o u.streams before
      → by_order u n m (order_step v (state_at c o) m) ≡ Ok w → Goes m
  kept u Outside o (message.Begin lsn time xid) k e = begins u o k lsn time xid (is_open xid o) e
  kept u Outside o (message.Commit lsn end time) k e = absurd (cc)
  kept u Outside o (message.Origin lsn name) k e = absurd (cc)
  kept u Outside o (message.TypeName xid oid namespace name) k e = absurd (cc)
  kept u Outside o (message.Logical xid transactional lsn prefix content) k e = logical u o k xid transactional lsn prefix content e
  kept u Outside o (message.Item label i) k e = absurd (cc)
  kept u Outside o (message.StreamStart xid first) k e = starts u o k xid v first (is_open xid o) refl e
  kept u Outside o message.StreamStop k e = no_fault u message.StreamStop fault.StopWithoutStart v e
  kept u Outside o (message.StreamCommit xid lsn end time) k e = stream_commits u o k xid lsn end time v (is_open xid o) refl e
  kept u Outside o (message.StreamAbort xid label) k e = aborts u o k xid label v (is_open xid o) (eqb xid label) refl e
  kept u (InPair l x) o (message.Begin lsn time xid) k e = absurd (cc)
  kept u (InPair l x) o (message.Commit lsn end time) k e = commits_pair u o l x k lsn end time (eqb lsn l) e
  kept u (InPair l x) o (message.Origin lsn name) k e = ignored u o l x k (message.Origin lsn name) (λ y. refl) refl e
  kept u (InPair l x) o (message.TypeName xid oid namespace name) k e =
      ignored u o l x k (message.TypeName xid oid namespace name) (λ y. refl) refl e
  kept u (InPair l x) o (message.Logical xid transactional lsn prefix content) k e =
      ignored u o l x k (message.Logical xid transactional lsn prefix content) (λ y. refl) refl e
  kept u (InPair l x) o (message.Item label i) k e = item_in_pair u o l x k label i e
  kept u (InPair l x) o (message.StreamStart xid first) k e = no_fault u (message.StreamStart xid first) fault.NestedStart v e
  kept u (InPair l x) o message.StreamStop k e = no_fault u message.StreamStop fault.StopWithoutStart v e
  kept u (InPair l x) o (message.StreamCommit xid lsn end time) k e =
      no_fault u (message.StreamCommit xid lsn end time) fault.CommitMisplaced v e
  kept u (InPair l x) o (message.StreamAbort xid label) k e = no_fault u (message.StreamAbort xid label) fault.AbortMisplaced v e
  kept u (InBlock x) o (message.Begin lsn time xid) k e = absurd (cc)
  kept u (InBlock x) o (message.Commit lsn end time) k e = absurd (cc)
  kept u (InBlock x) o (message.Origin lsn name) k e = skipped u o x k (message.Origin lsn name) (λ y. refl) refl e
  kept u (InBlock x) o (message.TypeName xid oid namespace name) k e =
      skipped u o x k (message.TypeName xid oid namespace name) (λ y. refl) refl e
  kept u (InBlock x) o (message.Logical xid transactional lsn prefix content) k e =
      skipped u o x k (message.Logical xid transactional lsn prefix content) (λ y. refl) refl e
  kept u (InBlock x) o (message.Item label i) k e = item_in_block u o x k label i (is_full u) e
  kept u (InBlock x) o (message.StreamStart xid first) k e = no_fault u (message.StreamStart xid first) fault.NestedStart v e
  kept u (InBlock x) o message.StreamStop k e = stops u o x k v e
  kept u (InBlock x) o (message.StreamCommit xid lsn end time) k e =
      no_fault u (message.StreamCommit xid lsn end time) fault.CommitMisplaced v e
  kept u (InBlock x) o (message.StreamAbort xid label) k e = no_fault u (message.StreamAbort xid label) fault.AbortMisplaced v e
