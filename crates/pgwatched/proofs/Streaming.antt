-- A streamed transaction that commits.
use Rattle.std.proofs.Common.{◌≡◌, ◌<◌, ◌≤◌, ℕ, ℤ, List, [], ◌∷◌}
use Rattle.std.proofs.Common.{true, false, cond, Option, Some, None, Result, Ok, Err, refl}
use Rattle.std.proofs.Common.{sym, ap, subst, ◌∙◌}
use Rattle.pglogical.specs.declared.message.RelationDef.{RelationDef}
use Rattle.pglogical.specs.declared.message.Item.{Item}
use Rattle.pglogical.specs.declared.message.Message.{Message}
use Rattle.pglogical.specs.declared.message.Message.TheVariants as message
use Rattle.pgorder.specs.States.{StreamOrder}
use Rattle.pgorder.specs.Steps.{Outside}
use Rattle.pgapply.specs.Apply.{Change as RowChange}
use Rattle.pgsub_core.specs.Server.Work.{xids_of, AllDiffer}
use Rattle.pgsub_core.specs.Server.Described.{relations_after, described}
use Rattle.pgsub_core.specs.Server.History.{Transaction}
use Rattle.pgsub_core.specs.Server.Streamed.{StreamedItem, IsStreamOf}
use Rattle.pgsub_core.specs.Server.Stream.{pair_of, StreamedCommit, streamed_since_first_segment}
use Rattle.pgsub_core.proofs.Surviving.{stream_survives}
use Rattle.pgwatch.specs.Known.{is_known, with_known}
use Rattle.pgwatch.specs.declared.fault.Breach.{Breach}
use Rattle.pgwatch.specs.declared.facts.Facts.{Facts}
use Rattle.pgwatch.specs.declared.noted.Noted.{Noted}
use Rattle.pgwatch.specs.declared.noted.What.{What}
use Rattle.pgwatch.specs.declared.noted.What.TheVariants as what
use Rattle.pgwatch.specs.declared.watch.Watch.{Watch}
use Rattle.pgwatch.specs.Nesting.{Nesting, at_end, path_with, survived, item_nested, abort_nested}
use Rattle.pgwatch.specs.Nesting.{nested_as, nested, or_misfit, then_nested, nest, of_xid}
use Rattle.pgwatch.specs.Hearing.{begun, with_facts, commit_judged, closed, then_watch, replayed}
use Rattle.pgwatch.specs.Hearing.{commits, nest_judged}
use Rattle.pgwatched.specs.Watched.{IsOfRule}
use Rattle.pgwatched.specs.Nested.{marks, whats, IsStreamed}
use Rattle.pgwatched.proofs.Describing.{Knows, any-none}
use Rattle.pgwatched.proofs.Steps.{IsAt, IsCommit, IsRefusal, missing_none, good, bad, refused_for}
use Rattle.pgwatched.proofs.Nested.{IsNested, is_nested}
use Rattle.pgwatched.proofs.Fitting.{misfit_is_not_streamed}
use Rattle.pgwatched.proofs.Streams.{erase, erased}
use Rattle.pgwatched.proofs.Replays.{all_read, full_only}

-- ---- nested without regard to transactions and frames

abbrev pub erase_nest : Nesting → Nesting
erase_nest n = record { path = n.path; seen = n.seen; undone = n.undone; surviving = erased n.surviving }

abbrev erase_some : Option Nesting → Option Nesting
erase_some None = None
erase_some (Some n) = Some (erase_nest n)

abbrev pub erase_result : Result Nesting Noted → Result Nesting Noted
erase_result (Ok n) = Ok (erase_nest n)
erase_result (Err x) = Err (erase x)

survived-erase : (n : Nesting) (x : Noted) (path : Option (List ℕ))
    → survived (erase_nest n) (erase x) path ≡ erase_some (survived n x path)
survived-erase n x None = refl
survived-erase n x (Some path) = refl

item-erase : (n : Nesting) (x : Noted) → item_nested (erase_nest n) (erase x) ≡ erase_some (item_nested n x)
item-erase n x =
    elim (is_known x.subxid n.undone) as
    (λ b. cond b (Some (erase_nest n)) (survived (erase_nest n) (erase x) (path_with n x.subxid))
    ≡ erase_some (cond b (Some n) (survived n x (path_with n x.subxid)))) [
      | true ↦ refl
      | false ↦ survived-erase n x (path_with n x.subxid)
    ]

abort-erase : (n : Nesting) (xid : ℕ) → abort_nested (erase_nest n) xid ≡ erase_some (abort_nested n xid)
abort-erase n xid =
    elim (is_known xid n.undone) as
    (λ b. cond b (Some (erase_nest n)) (cond (is_known xid n.seen) None
    (Some (record (erase_nest n) { seen = with_known xid n.seen; undone = with_known xid n.undone })))
    ≡ erase_some (cond b (Some n) (cond (is_known xid n.seen) None
    (Some (record n { seen = with_known xid n.seen; undone = with_known xid n.undone }))))) [
      | true ↦ refl
      | false ↦ elim (is_known xid n.seen) as
          (λ b. cond b None
          (Some (record (erase_nest n) { seen = with_known xid n.seen; undone = with_known xid n.undone }))
          ≡ erase_some (cond b None
          (Some (record n { seen = with_known xid n.seen; undone = with_known xid n.undone })))) [
            | true ↦ refl
            | false ↦ refl
          ]
    ]

as-erase : (n : Nesting) (x : Noted) (h : What) → nested_as (erase_nest n) (erase x) h ≡ erase_some (nested_as n x h)
as-erase n x (what.Relation oid) = item-erase n x
as-erase n x (what.Change oid) = item-erase n x
as-erase n x (what.Truncate oids) = item-erase n x
as-erase n x what.Abort = abort-erase n x.subxid

or-erase : (x : Noted) (o : Option Nesting) → or_misfit (erase x) (erase_some o) ≡ erase_result (or_misfit x o)
or-erase x None = refl
or-erase x (Some n) = refl

then-erase : (x : Noted) (r : Result Nesting Noted) → then_nested (erase x) (erase_result r) ≡ erase_result (then_nested x r)
then-erase x (Ok n) = ap (or_misfit (erase x)) (as-erase n x x.what) ∙ or-erase x (nested n x)
then-erase x (Err y) = refl

nest-erase : (xs : List Noted) (n : Nesting) → nest (erase_nest n) (erased xs) ≡ erase_result (nest n xs)
nest-erase [] n = refl
nest-erase (x ∷ xs) n = ap (then_nested (erase x)) (nest-erase xs n) ∙ then-erase x (nest n xs)

whats-erased : (xs : List Noted) → whats (erased xs) ≡ whats xs
whats-erased [] = refl
whats-erased (x ∷ xs) = ap (λ r. x.what ∷ r) (whats-erased xs)

-- what is kept of a transaction and what came of it
module _ (xid : ℕ) (kept : List Noted) (streamed : List StreamedItem) (same : erased kept ≡ marks streamed) where
  nest_of_it : (r : Result Nesting Noted) → nest (at_end xid) kept ≡ r → nest (at_end xid) (marks streamed) ≡ erase_result r
  nest_of_it r is = ap (nest (at_end xid)) (sym same) ∙ nest-erase kept (at_end xid) ∙ ap erase_result is

  is_nested_too : (n : Nesting) → nest (at_end xid) kept ≡ Ok n → IsNested xid streamed n.surviving
  is_nested_too n is =
      let k = is_nested xid streamed (erase_nest n) (nest_of_it (Ok n) is) in
      record { items = k.items; same = k.same ∙ whats-erased n.surviving; some = k.some; any = k.any }

-- ---- the commit

module _ (n : ℕ) (before : List Message) (earlier : List RelationDef) (t : Watch) (xid lsn end : ℕ) (time : ℤ)
    (outside : t.order.state.context ≡ Outside) (pair : pair_of before ≡ None) (knows : Knows t.known earlier)
    (same : erased (of_xid xid t.streams) ≡ marks (streamed_since_first_segment xid before)) where
  abbrev m : Message
  m = message.StreamCommit xid lsn end time

  abbrev streamed : List StreamedItem
  streamed = streamed_since_first_segment xid before

  abbrev again : Watch
  again = record (closed t xid) { facts = begun t.facts }

  only_these : (k : (items : List Item) × (changes : List RowChange) × IsStreamed xid streamed items changes)
      → (tr : Transaction) (surviving : List Item) → AllDiffer (tr.xid ∷ xids_of tr.work) → xid ≡ tr.xid
      → IsStreamOf tr.work xid streamed surviving → surviving ≡ k.0
  only_these k tr surviving differ its stream =
      sym (stream_survives tr.work xid streamed surviving (subst (λ x. AllDiffer (x ∷ xids_of tr.work)) (sym its) differ) stream)
      ∙ stream_survives k.2.0 xid streamed k.0 k.2.2 k.2.4

  module _ (w : Watch) where
    good_commit : (noted : List Noted) → IsNested xid streamed noted → (u : Watch) → replayed again n noted ≡ Ok u
        → (g : Facts) → commit_judged u.facts n lsn end ≡ Ok g → record u { facts = g } ≡ w → IsCommit t.facts w before earlier m
    good_commit noted k u read g judged is =
        let r = all_read n earlier noted k.items [] again u k.same knows ([], refl, refl) read in
        let ok = good u.facts n lsn end g judged in
        let p = missing_none u.facts.missing u.facts.changes (described earlier k.items) ok.described r.pair in
        let made = k.some earlier p.0 p.1 in
        subst (λ (w : Watch). IsCommit t.facts w before earlier m) is (record {
          completed = StreamedCommit xid lsn end time streamed;
          xid = xid;
          lsn = lsn;
          end = end;
          time = time;
          items = k.items;
          changes = p.0;
          one = refl;
          described = p.1;
          some = (made.0, made.1, made.2, made.3, (refl, refl, refl, refl, made.4));
          only = λ tr surviving differ h.
              (h.1, h.2, only_these (k.items, k.any.0, k.any.1) tr surviving differ h.0 h.4);
          behind = subst (λ x. x ≤ lsn) (sym r.alike.last) ok.behind;
          ends = ok.ends;
          after = subst (λ x. x < end) (sym r.alike.start) ok.after;
          above = λ some. subst (λ x. x < end) (sym r.alike.told) (ok.above (sym p.2 ∙ any-none p.0 some));
          start = ok.start ∙ sym r.alike.start;
          last = ok.last;
          told = ok.told ∙ sym r.alike.told;
          goes = subst (λ c. IsAt c u.known g (m ∷ before) (relations_after earlier k.items))
              (sym outside ∙ ap (λ (o : StreamOrder). o.state.context) r.alike.order) (pair, r.knows);
        })

    by_facts : (noted : List Noted) → IsNested xid streamed noted → (u : Watch) → replayed again n noted ≡ Ok u
        → (r : Result Facts Breach) → commit_judged u.facts n lsn end ≡ r → with_facts u r ≡ Ok w → IsCommit t.facts w before earlier m
    by_facts noted k u read (Err b) judged e = absurd (cc)
    by_facts noted k u read (Ok g) judged e = good_commit noted k u read g judged (let it : record u { facts = g } ≡ w = cc in it)

    by_replay : (noted : List Noted) → IsNested xid streamed noted → (r : Result Watch Breach) → replayed again n noted ≡ r
        → then_watch r (λ new. commits new n lsn end) ≡ Ok w → IsCommit t.facts w before earlier m
    by_replay noted k (Err b) read e = absurd (cc)
    by_replay noted k (Ok u) read e = by_facts noted k u read (commit_judged u.facts n lsn end) refl e

    by_nest : (r : Result Nesting Noted) → nest (at_end xid) (of_xid xid t.streams) ≡ r
        → nest_judged (closed t xid) n lsn end r ≡ Ok w → IsCommit t.facts w before earlier m
    by_nest (Err x) is e = absurd (cc)
    by_nest (Ok g) is e =
        by_replay g.surviving (is_nested_too xid (of_xid xid t.streams) streamed same g is) (replayed again n g.surviving) refl e

    pub stream_commit : nest_judged (closed t xid) n lsn end (nest (at_end xid) (of_xid xid t.streams)) ≡ Ok w
        → IsCommit t.facts w before earlier m
    stream_commit e = by_nest (nest (at_end xid) (of_xid xid t.streams)) refl e

  -- one that is refused
  module _ (b : Breach) (rule : IsOfRule b) where
    misfits : (x : Noted) → nest (at_end xid) (of_xid xid t.streams) ≡ Err x → IsRefusal t.facts before earlier m
    misfits x is = record {
      completed = StreamedCommit xid lsn end time streamed;
      one = refl;
      none = λ tr surviving differ h behind ends after above made.
          misfit_is_not_streamed xid streamed (erase x) (nest_of_it xid (of_xid xid t.streams) streamed same (Err x) is) tr.work surviving
          (subst (λ y. AllDiffer (y ∷ xids_of tr.work)) (sym h.0) differ) h.4;
    }

    refused_facts : (noted : List Noted) → IsNested xid streamed noted → (u : Watch) → replayed again n noted ≡ Ok u
        → (why : Breach) → commit_judged u.facts n lsn end ≡ Err why → IsRefusal t.facts before earlier m
    refused_facts noted k u read why judged =
        let r = all_read n earlier noted k.items [] again u k.same knows ([], refl, refl) read in
        record {
          completed = StreamedCommit xid lsn end time streamed;
          one = refl;
          none = λ tr surviving differ h behind ends after above made.
              refused_for u.facts lsn end tr.lsn tr.end (described earlier k.items) _ h.1 h.2
              (subst (λ x. x ≤ tr.lsn) r.alike.last behind) ends
              (subst (λ x. x < tr.end) r.alike.start after) (λ changes. subst (λ x. x < tr.end) r.alike.told (above changes))
              (ap (described earlier) (sym (only_these (k.items, k.any.0, k.any.1) tr surviving differ h.0 h.4)) ∙ made)
              (bad u.facts n lsn end why (described earlier k.items) r.pair judged);
        }

    facts_refused : (noted : List Noted) → IsNested xid streamed noted → (u : Watch) → replayed again n noted ≡ Ok u
        → (r : Result Facts Breach) → commit_judged u.facts n lsn end ≡ r → with_facts u r ≡ Err b → IsRefusal t.facts before earlier m
    facts_refused noted k u read (Ok g) judged e = absurd (cc)
    facts_refused noted k u read (Err why) judged e = refused_facts noted k u read why judged

    replay_refused : (noted : List Noted) → IsNested xid streamed noted → (r : Result Watch Breach) → replayed again n noted ≡ r
        → then_watch r (λ new. commits new n lsn end) ≡ Err b → IsRefusal t.facts before earlier m
    replay_refused noted k (Err why) read e =
        absurd (subst IsOfRule (sym (full_only noted again why n read ∙ (let it : why ≡ b = cc in it))) rule)
    replay_refused noted k (Ok u) read e = facts_refused noted k u read (commit_judged u.facts n lsn end) refl e

    nest_refused : (r : Result Nesting Noted) → nest (at_end xid) (of_xid xid t.streams) ≡ r
        → nest_judged (closed t xid) n lsn end r ≡ Err b → IsRefusal t.facts before earlier m
    nest_refused (Err x) is e = misfits x is
    nest_refused (Ok g) is e =
        replay_refused g.surviving (is_nested_too xid (of_xid xid t.streams) streamed same g is) (replayed again n g.surviving) refl e

    pub stream_refused : nest_judged (closed t xid) n lsn end (nest (at_end xid) (of_xid xid t.streams)) ≡ Err b
        → IsRefusal t.facts before earlier m
    stream_refused e = nest_refused (nest (at_end xid) (of_xid xid t.streams)) refl e
