-- The causes of breaches.
use Rattle.std.proofs.Common.{◌≡◌, ◌⊎◌, inl, inr, ℕ, List}
use Rattle.std.proofs.Common.{[], ◌∷◌, Bool, true, false, cond}
use Rattle.std.proofs.Common.{eqb, nat_lt, Option, Some, None}
use Rattle.std.proofs.Common.{Result, Ok, Err, refl, sym, ap, subst, ◌∙◌, ◌++◌}
use Rattle.std.proofs.Common.{ℤ}
use Rattle.std.specs.Prelude.{◌+◌}
use Rattle.pglogical.specs.Named.{named}
use Rattle.pglogical.specs.declared.message.RelationDef.{RelationDef}
use Rattle.pglogical.specs.declared.message.Item.{Item}
use Rattle.pglogical.specs.declared.message.Item.TheVariants as item
use Rattle.pglogical.specs.declared.message.Message.{Message}
use Rattle.pglogical.specs.declared.message.Message.TheVariants as message
use Rattle.pgorder.specs.declared.Event.{Event}
use Rattle.pgorder.specs.declared.Event.TheVariants as event
use Rattle.pgorder.specs.States.{is_in_block}
use Rattle.pgorder.specs.Steps.{Context, Outside, InPair, InBlock, OrderState, StepResult}
use Rattle.pgorder.specs.Steps.{order_step, step_item, in_version_2}
use Rattle.pgorder.specs.OpenXids.{OpenXids, is_open, without}
use Rattle.pgorder.specs.declared.Version.{Version}
use Rattle.pgorder.specs.declared.Version.TheVariants.{One, Two}
use Rattle.pgorder.specs.declared.fault.OrderFault.TheVariants as fault
use Rattle.pgwatch.specs.Known.{OidSet, is_known, with_known}
use Rattle.pgwatch.specs.declared.fault.Breach.{Breach}
use Rattle.pgwatch.specs.declared.fault.Breach.TheVariants as breach
use Rattle.pgwatch.specs.declared.facts.Facts.{Facts}
use Rattle.pgwatch.specs.declared.facts.Missing.{Missing}
use Rattle.pgwatch.specs.declared.watch.Watch.{Watch}
use Rattle.pgwatch.specs.declared.noted.Noted.{Noted}
use Rattle.pgwatch.specs.declared.noted.What.TheVariants as what
use Rattle.pgwatch.specs.Nesting.{Nesting, at_end, nest}
use Rattle.pgwatch.specs.Nesting.{of_xid, without_xid}
use Rattle.pgwatch.specs.Hearing.{hear, at_start, by_order, meant, with_facts, commit_judged}
use Rattle.pgwatch.specs.Hearing.{misplaced, item_noted, begun}
use Rattle.pgwatch.specs.Hearing.{first_unknown, first_missing, closed, keepalive_noted, is_full}
use Rattle.pgwatch.specs.Hearing.{what_of, block_noted, aborted}
use Rattle.pgwatch.specs.Hearing.{replayed, then_watch, commits, nest_judged}
use Rattle.pgwatch.specs.Hearing as hearing
use Rattle.pgsub_core.specs.Server.Stream.{Sent, Data, Keepalive}
use Rattle.pgwatched.specs.Watched.{Framed, heard_of, then_hear, hear_all}
use Rattle.pgwatched.specs.Causes.{IsCommitAt, IsChangeOf, IsKeepaliveAt, Came, IsCaused}
use Rattle.pgwatched.specs.Causes.{BreachesAreCaused, EndsAt, IsPart, IsPartSent}
use Rattle.pgsub_core.proofs.Surviving.{all_append, all_weaker}
use Rattle.pgwatched.proofs.Replays.{full_only}
use Rattle.pgwatched.proofs.Kept.{item_leaves, commit_leaves, judged_leaves}
use Rattle.pgwatched.proofs.KnownCauses.{KnowsCauses, MissingCame, earlier, missing_earlier, more}
use Rattle.pgwatched.proofs.KnownCauses.{commit_moves, placed, commit_caused, done, IsNotedAs}
use Rattle.pgwatched.proofs.KnownCauses.{IsNoted, AreNoted, part_came, of_all, without_all}
use Rattle.pgwatched.proofs.KnownCauses.{nested_all, misfit_in, unknown_named, replays_known}

-- ---- one message

abbrev watch_breach : Breach → Result Watch Breach → Breach
watch_breach b (Ok w) = b
watch_breach b (Err why) = why

abbrev watch_facts : Facts → Result Watch Breach → Facts
watch_facts f (Ok w) = w.facts
watch_facts f (Err b) = f

module _ (n : ℕ) (s e : ℕ) (clock : ℤ) (seen : List Framed) where
  abbrev framed : Message → Framed
  framed m = record { at = n; sent = Data s e clock m }

  change_known : (f : Facts) (known : OidSet) (label : Option ℕ) (i : Item) (o : Option Missing) (u : Option ℕ)
      → first_unknown known (named i) ≡ u → MissingCame o seen
      → MissingCame (first_missing o n u) (framed (message.Item label i) ∷ seen)
  change_known f known label i (Some missing) u is came = inr came
  change_known f known label i None None is came = tt
  change_known f known label i None (Some oid) is came = inl (refl, unknown_named known (named i) oid is)

  -- where nothing changes of what is known
  alike : (f g : Facts) (m : Message) → KnowsCauses f seen → f ≡ g → KnowsCauses g (framed m ∷ seen)
  alike f g m k same = subst (λ (g : Facts). KnowsCauses g (framed m ∷ seen)) same (more f (framed m) seen k)

  -- a commit that goes well is the last one
  commit_known : (f g : Facts) (m : Message) (lsn end : ℕ) → EndsAt end m → KnowsCauses f seen → commit_judged f n lsn end ≡ Ok g
      → KnowsCauses g (framed m ∷ seen)
  commit_known f g m lsn end ends k is =
      subst (λ (g : Facts). KnowsCauses g (framed m ∷ seen)) (commit_moves f n lsn end g (misplaced f n lsn end) is)
      (record {
        last = inr (inl (refl, ends));
        told = earlier (framed m) f.told_at (IsKeepaliveAt f.told) f.told seen k.told;
        missing = missing_earlier (framed m) f.missing seen k.missing;
      })

  module _ (w u : Watch) (k : KnowsCauses w.facts seen) where
    commit_goes : (m : Message) (lsn end : ℕ) → EndsAt end m → (r : Result Facts Breach) → commit_judged w.facts n lsn end ≡ r
        → with_facts w r ≡ Ok u → KnowsCauses u.facts (framed m ∷ seen)
    commit_goes m lsn end ends (Err b) is e = absurd (cc)
    commit_goes m lsn end ends (Ok g) is e =
        subst (λ (g : Facts). KnowsCauses g (framed m ∷ seen)) (ap (watch_facts w.facts) e)
        (commit_known w.facts g m lsn end ends k is)

    relation_goes : (label : Option ℕ) (def : RelationDef) (there full : Bool)
        → cond there (Ok w) (cond full (Err (breach.Full n)) (Ok (record w { known = with_known def.oid w.known; held = w.held + 1 })))
        ≡ Ok u
        → KnowsCauses u.facts (framed (message.Item label (item.Relation def)) ∷ seen)
    relation_goes label def true full e = alike w.facts u.facts (message.Item label (item.Relation def)) k (ap (watch_facts w.facts) e)
    relation_goes label def false true e = absurd (cc)
    relation_goes label def false false e = alike w.facts u.facts (message.Item label (item.Relation def)) k (ap (watch_facts w.facts) e)

    change_goes : (label : Option ℕ) (i : Item) → done (hearing.changed_by w n (named i)) ≡ Ok u
        → KnowsCauses u.facts (framed (message.Item label i) ∷ seen)
    change_goes label i e =
        subst (λ (g : Facts). KnowsCauses g (framed (message.Item label i) ∷ seen)) (ap (watch_facts w.facts) e)
        (record {
          last = earlier (framed (message.Item label i)) w.facts.last_at (IsCommitAt w.facts.last_end) w.facts.last_end seen k.last;
          told = earlier (framed (message.Item label i)) w.facts.told_at (IsKeepaliveAt w.facts.told) w.facts.told seen k.told;
          missing = change_known w.facts w.known label i w.facts.missing (first_unknown w.known (named i)) refl k.missing;
        })

    item_goes : (label : Option ℕ) (i : Item) → item_noted w n i ≡ Ok u → KnowsCauses u.facts (framed (message.Item label i) ∷ seen)
    item_goes label (item.Relation def) e = relation_goes label def (is_known def.oid w.known) (is_full w) e
    item_goes label (item.Insert oid row) e = change_goes label (item.Insert oid row) e
    item_goes label (item.Update oid prior row) e = change_goes label (item.Update oid prior row) e
    item_goes label (item.Delete oid kind row) e = change_goes label (item.Delete oid kind row) e
    item_goes label (item.Truncate options oids) e = change_goes label (item.Truncate options oids) e

    -- where the facts stay
    stays : (m : Message) (v : Watch) → w.facts ≡ v.facts → (full : Bool) → cond full (Err (breach.Full n)) (Ok v) ≡ Ok u
        → KnowsCauses u.facts (framed m ∷ seen)
    stays m v same true e = absurd (cc)
    stays m v same false e = alike w.facts u.facts m k (same ∙ ap (watch_facts w.facts) e)

    block_goes : (label : Option ℕ) (i : Item) (event : Event) → block_noted w n i event ≡ Ok u
        → KnowsCauses u.facts (framed (message.Item label i) ∷ seen)
    block_goes label i (event.Hold xid subxid) e =
        stays (message.Item label i)
        (record w { streams = w.streams ++ record { xid = xid; subxid = subxid; at = n; what = what_of i } ∷ [] }) refl (is_full w) e
    block_goes label i event.Ignore e = stays (message.Item label i) w refl false e
    block_goes label i (event.Begin xid) e = stays (message.Item label i) w refl false e
    block_goes label i (event.Open xid) e = stays (message.Item label i) w refl false e
    block_goes label i (event.Reopen xid) e = stays (message.Item label i) w refl false e
    block_goes label i event.Close e = stays (message.Item label i) w refl false e
    block_goes label i (event.Cut xid subxid) e = stays (message.Item label i) w refl false e
    block_goes label i (event.Drop xid) e = stays (message.Item label i) w refl false e
    block_goes label i (event.CommitPair xid lsn end) e = stays (message.Item label i) w refl false e
    block_goes label i (event.CommitStream xid lsn end) e = stays (message.Item label i) w refl false e

    item_or_block_goes : (label : Option ℕ) (i : Item) (event : Event) (block : Bool)
        → cond block (block_noted w n i event) (item_noted w n i) ≡ Ok u
        → KnowsCauses u.facts (framed (message.Item label i) ∷ seen)
    item_or_block_goes label i event true e = block_goes label i event e
    item_or_block_goes label i event false e = item_goes label i e

    abort_goes : (m : Message) (event : Event) → aborted w n event ≡ Ok u → KnowsCauses u.facts (framed m ∷ seen)
    abort_goes m (event.Cut xid label) e =
        stays m (record w { streams = w.streams ++ record { xid = xid; subxid = label; at = n; what = what.Abort } ∷ [] }) refl
        (is_full w) e
    abort_goes m (event.Drop xid) e = stays m (closed w xid) refl false e
    abort_goes m event.Ignore e = stays m w refl false e
    abort_goes m (event.Begin xid) e = stays m w refl false e
    abort_goes m (event.Hold top label) e = stays m w refl false e
    abort_goes m (event.Open xid) e = stays m w refl false e
    abort_goes m (event.Reopen xid) e = stays m w refl false e
    abort_goes m event.Close e = stays m w refl false e
    abort_goes m (event.CommitPair xid lsn end) e = stays m w refl false e
    abort_goes m (event.CommitStream xid lsn end) e = stays m w refl false e

    open_goes : (xid : ℕ) (full : Bool) → cond full (Err (breach.Full n)) (Ok (record w { held = w.held + 1 })) ≡ Ok u
        → KnowsCauses u.facts (framed (message.StreamStart xid true) ∷ seen)
    open_goes xid full e = stays (message.StreamStart xid true) (record w { held = w.held + 1 }) refl full e

    -- a streamed transaction commits
    read_goes : (m : Message) (lsn end : ℕ) → EndsAt end m → (r : Result Watch Breach)
        → ((v : Watch) → r ≡ Ok v → KnowsCauses v.facts seen) → then_watch r (λ new. commits new n lsn end) ≡ Ok u
        → KnowsCauses u.facts (framed m ∷ seen)
    read_goes m lsn end ends (Err b) knows e = absurd (cc)
    read_goes m lsn end ends (Ok v) knows e = by_facts v (knows v refl) (commit_judged v.facts n lsn end) refl e
      where
        by_facts : (v : Watch) → KnowsCauses v.facts seen → (r : Result Facts Breach) → commit_judged v.facts n lsn end ≡ r
            → with_facts v r ≡ Ok u → KnowsCauses u.facts (framed m ∷ seen)
        by_facts v k (Err b) is e = absurd (cc)
        by_facts v k (Ok g) is e =
            subst (λ (g : Facts). KnowsCauses g (framed m ∷ seen)) (ap (watch_facts v.facts) e)
            (commit_known v.facts g m lsn end ends k is)

    stream_goes : (xid lsn end : ℕ) (time : ℤ) → AreNoted w.streams seen → (r : Result Nesting Noted)
        → nest (at_end xid) (of_xid xid w.streams) ≡ r → nest_judged (closed w xid) n lsn end r ≡ Ok u
        → KnowsCauses u.facts (framed (message.StreamCommit xid lsn end time) ∷ seen)
    stream_goes xid lsn end time noted (Err x) is e = absurd (cc)
    stream_goes xid lsn end time noted (Ok g) is e =
        let again : Watch = record (closed w xid) { facts = begun w.facts } in
        read_goes (message.StreamCommit xid lsn end time) lsn end refl (replayed again n g.surviving)
        (λ v read. replays_known seen n g.surviving
        (nested_all (IsNoted seen) (of_xid xid w.streams) (at_end xid) g (of_all (IsNoted seen) xid w.streams noted) tt is)
        again v (record { last = k.last; told = k.told; missing = tt }) read) e

    goes : (m : Message) (event : Event) → AreNoted w.streams seen → meant w n m event ≡ Ok u → KnowsCauses u.facts (framed m ∷ seen)
    goes (message.Begin lsn time xid) event noted e =
        subst (λ (g : Facts). KnowsCauses g (framed (message.Begin lsn time xid) ∷ seen)) (ap (watch_facts w.facts) e)
        (record {
          last = earlier (framed (message.Begin lsn time xid)) w.facts.last_at (IsCommitAt w.facts.last_end) w.facts.last_end seen k.last;
          told = earlier (framed (message.Begin lsn time xid)) w.facts.told_at (IsKeepaliveAt w.facts.told) w.facts.told seen k.told;
          missing = tt;
        })
    goes (message.Commit lsn end time) event noted e =
        commit_goes (message.Commit lsn end time) lsn end refl (commit_judged w.facts n lsn end) refl e
    goes (message.Origin lsn name) event noted e = alike w.facts u.facts (message.Origin lsn name) k (ap (watch_facts w.facts) e)
    goes (message.TypeName xid oid namespace name) event noted e =
        alike w.facts u.facts (message.TypeName xid oid namespace name) k (ap (watch_facts w.facts) e)
    goes (message.Logical xid transactional lsn prefix content) event noted e =
        alike w.facts u.facts (message.Logical xid transactional lsn prefix content) k (ap (watch_facts w.facts) e)
    goes (message.Item label i) event noted e =
        item_or_block_goes label i event (is_in_block w.order.state.context) e
    goes (message.StreamStart xid true) event noted e = open_goes xid (is_full w) e
    goes (message.StreamStart xid false) event noted e =
        alike w.facts u.facts (message.StreamStart xid false) k (ap (watch_facts w.facts) e)
    goes message.StreamStop event noted e = alike w.facts u.facts message.StreamStop k (ap (watch_facts w.facts) e)
    goes (message.StreamCommit xid lsn end time) event noted e =
        stream_goes xid lsn end time noted (nest (at_end xid) (of_xid xid w.streams)) refl e
    goes (message.StreamAbort xid label) event noted e = abort_goes (message.StreamAbort xid label) event e

  module _ (w : Watch) (b : Breach) (k : KnowsCauses w.facts seen) where
    here_is : breach.Full n ≡ b → IsCaused b seen n
    here_is e = subst (λ b. IsCaused b seen n) e refl

    commit_breaks : (v : Watch) → KnowsCauses v.facts seen → (lsn end : ℕ) (r : Result Facts Breach) → commit_judged v.facts n lsn end ≡ r
        → with_facts v r ≡ Err b → IsCaused b seen n
    commit_breaks v k lsn end (Ok g) is e = absurd (cc)
    commit_breaks v k lsn end (Err why) is e =
        subst (λ b. IsCaused b seen n) (ap (watch_breach b) e)
        (commit_caused v.facts n lsn end seen k why (misplaced v.facts n lsn end) (placed v.facts n lsn end seen k) is)

    relation_breaks : (def : RelationDef) (there full : Bool)
        → cond there (Ok w) (cond full (Err (breach.Full n)) (Ok (record w { known = with_known def.oid w.known; held = w.held + 1 })))
        ≡ Err b
        → IsCaused b seen n
    relation_breaks def true full e = absurd (cc)
    relation_breaks def false true e = here_is (ap (watch_breach b) e)
    relation_breaks def false false e = absurd (cc)

    item_breaks : (i : Item) → item_noted w n i ≡ Err b → IsCaused b seen n
    item_breaks (item.Relation def) e = relation_breaks def (is_known def.oid w.known) (is_full w) e
    item_breaks (item.Insert oid row) e = absurd (cc)
    item_breaks (item.Update oid prior row) e = absurd (cc)
    item_breaks (item.Delete oid kind row) e = absurd (cc)
    item_breaks (item.Truncate options oids) e = absurd (cc)

    stays_full : (v : Watch) (full : Bool) → cond full (Err (breach.Full n)) (Ok v) ≡ Err b → IsCaused b seen n
    stays_full v true e = here_is (ap (watch_breach b) e)
    stays_full v false e = absurd (cc)

    block_breaks : (i : Item) (event : Event) → block_noted w n i event ≡ Err b → IsCaused b seen n
    block_breaks i (event.Hold xid subxid) e =
        stays_full (record w { streams = w.streams ++ record { xid = xid; subxid = subxid; at = n; what = what_of i } ∷ [] }) (is_full w) e
    block_breaks i event.Ignore e = absurd (cc)
    block_breaks i (event.Begin xid) e = absurd (cc)
    block_breaks i (event.Open xid) e = absurd (cc)
    block_breaks i (event.Reopen xid) e = absurd (cc)
    block_breaks i event.Close e = absurd (cc)
    block_breaks i (event.Cut xid subxid) e = absurd (cc)
    block_breaks i (event.Drop xid) e = absurd (cc)
    block_breaks i (event.CommitPair xid lsn end) e = absurd (cc)
    block_breaks i (event.CommitStream xid lsn end) e = absurd (cc)

    item_or_block_breaks : (i : Item) (event : Event) (block : Bool)
        → cond block (block_noted w n i event) (item_noted w n i) ≡ Err b → IsCaused b seen n
    item_or_block_breaks i event true e = block_breaks i event e
    item_or_block_breaks i event false e = item_breaks i e

    abort_breaks : (event : Event) → aborted w n event ≡ Err b → IsCaused b seen n
    abort_breaks (event.Cut xid label) e =
        stays_full (record w { streams = w.streams ++ record { xid = xid; subxid = label; at = n; what = what.Abort } ∷ [] }) (is_full w) e
    abort_breaks event.Ignore e = absurd (cc)
    abort_breaks (event.Begin xid) e = absurd (cc)
    abort_breaks (event.Hold top label) e = absurd (cc)
    abort_breaks (event.Open xid) e = absurd (cc)
    abort_breaks (event.Reopen xid) e = absurd (cc)
    abort_breaks event.Close e = absurd (cc)
    abort_breaks (event.Drop xid) e = absurd (cc)
    abort_breaks (event.CommitPair xid lsn end) e = absurd (cc)
    abort_breaks (event.CommitStream xid lsn end) e = absurd (cc)

    read_breaks : (noted : List Noted) (again : Watch) → KnowsCauses again.facts seen → AreNoted noted seen → (lsn end : ℕ)
        → (r : Result Watch Breach) → replayed again n noted ≡ r → then_watch r (λ new. commits new n lsn end) ≡ Err b → IsCaused b seen n
    read_breaks noted again k came lsn end (Err why) is e = here_is (full_only noted again why n is ∙ ap (watch_breach b) e)
    read_breaks noted again k came lsn end (Ok v) is e =
        commit_breaks v (replays_known seen n noted came again v k is) lsn end (commit_judged v.facts n lsn end) refl e

    stream_breaks : (xid lsn end : ℕ) → AreNoted w.streams seen → (r : Result Nesting Noted)
        → nest (at_end xid) (of_xid xid w.streams) ≡ r → nest_judged (closed w xid) n lsn end r ≡ Err b
        → IsCaused b seen n
    stream_breaks xid lsn end noted (Err x) is e =
        subst (λ b. IsCaused b seen n) (ap (watch_breach b) e) (
          refl,
          part_came x seen
              (misfit_in (IsNoted seen) (of_xid xid w.streams) (at_end xid) x (of_all (IsNoted seen) xid w.streams noted) is),
        )
    stream_breaks xid lsn end noted (Ok g) is e =
        read_breaks g.surviving (record (closed w xid) { facts = begun w.facts })
        (record { last = k.last; told = k.told; missing = tt })
        (nested_all (IsNoted seen) (of_xid xid w.streams) (at_end xid) g (of_all (IsNoted seen) xid w.streams noted) tt is) lsn end
        (replayed (record (closed w xid) { facts = begun w.facts }) n g.surviving) refl e

    breaks : (m : Message) (event : Event) → AreNoted w.streams seen → meant w n m event ≡ Err b → IsCaused b seen n
    breaks (message.Begin lsn time xid) event noted e = absurd (cc)
    breaks (message.Commit lsn end time) event noted e = commit_breaks w k lsn end (commit_judged w.facts n lsn end) refl e
    breaks (message.Origin lsn name) event noted e = absurd (cc)
    breaks (message.TypeName xid oid namespace name) event noted e = absurd (cc)
    breaks (message.Logical xid transactional lsn prefix content) event noted e = absurd (cc)
    breaks (message.Item label i) event noted e =
        item_or_block_breaks i event (is_in_block w.order.state.context) e
    breaks (message.StreamStart xid true) event noted e = stays_full (record w { held = w.held + 1 }) (is_full w) e
    breaks (message.StreamStart xid false) event noted e = absurd (cc)
    breaks message.StreamStop event noted e = absurd (cc)
    breaks (message.StreamCommit xid lsn end time) event noted e =
        stream_breaks xid lsn end noted (nest (at_end xid) (of_xid xid w.streams)) refl e
    breaks (message.StreamAbort xid label) event noted e = abort_breaks event e

-- ---- one frame after the other

-- the event of an item has its xid, and that of an abort
abbrev EventFits : Context → Message → Event → Type 0
EventFits c (message.Item label i) ev =
    (xid subxid : ℕ) → ev ≡ event.Hold xid subxid → is_in_block c ≡ true → IsPart subxid (message.Item label i)
EventFits c (message.StreamAbort x label) ev = (xid subxid : ℕ) → ev ≡ event.Cut xid subxid → label ≡ subxid
EventFits c m ev = Unit {0}

abbrev event_in : Event → StepResult → Event
event_in other (Ok step) = step.1
event_in other (Err why) = other

abbrev context_in : Context → StepResult → Context
context_in other (Ok step) = step.0.context
context_in other (Err why) = other

module _ (o : OpenXids) (step : OrderState × Event) where
  abbrev at_context : Context → OrderState
  at_context c = record { context = c; open_xids = o }

  item_fits : (c : Context) (label : Option ℕ) (i : Item) → step_item (at_context c) c label ≡ Ok step
      → EventFits step.0.context (message.Item label i) step.1
  item_fits Outside label i is = absurd (cc)
  item_fits (InPair l x) label i is = λ xid subxid e block.
      absurd (let never : is_in_block (InPair l x) ≡ true =
      subst (λ c. is_in_block c ≡ true) (sym (ap (context_in Outside) is)) block in cc)
  item_fits (InBlock x) None i is = λ xid subxid e block. tt
  item_fits (InBlock x) (Some label) i is = λ xid subxid e block.
      let held : event.Hold x label ≡ event.Hold xid subxid = ap (event_in event.Ignore) is ∙ e in cc

  abort_fits : (xid label : ℕ) (v : Version) (there same : Bool)
      → in_version_2 v (cond there (cond same (Ok (record { context = Outside; open_xids = without xid o }, event.Drop xid))
      (Ok (at_context Outside, event.Cut xid label)))
      (Ok (at_context Outside, event.Ignore))) ≡ Ok step
      → (x subxid : ℕ) → step.1 ≡ event.Cut x subxid → label ≡ subxid
  abort_fits xid label One there same is x subxid e = absurd (cc)
  abort_fits xid label Two true true is x subxid e =
      absurd (let never : event.Drop xid ≡ event.Cut x subxid = ap (event_in event.Ignore) is ∙ e in cc)
  abort_fits xid label Two true false is x subxid e =
      let same : event.Cut xid label ≡ event.Cut x subxid = ap (event_in event.Ignore) is ∙ e in cc
  abort_fits xid label Two false same is x subxid e =
      absurd (let never : event.Ignore ≡ event.Cut x subxid = ap (event_in event.Close) is ∙ e in cc)

-- what is known behind the frames that were seen
abbrev KnowsAll : Watch → List Framed → Type 0
KnowsAll w seen = KnowsCauses w.facts seen × AreNoted w.streams seen

module _ (n s e : ℕ) (clock : ℤ) (seen : List Framed) where
  abbrev came_with : Message → Framed
  came_with m = record { at = n; sent = Data s e clock m }

  stays_noted : (m : Message) (a b : List Noted) → a ≡ b → AreNoted a seen → AreNoted b (came_with m ∷ seen)
  stays_noted m a b same noted =
      subst (λ t. AreNoted t (came_with m ∷ seen)) same
      (all_weaker (IsNoted seen) (IsNoted (came_with m ∷ seen)) (λ x came. inr came) a noted)

  one_noted : (m : Message) (a : List Noted) (new : Noted) → IsNotedAs new m → new.at ≡ n → AreNoted a seen
      → AreNoted (a ++ new ∷ []) (came_with m ∷ seen)
  one_noted m a new is at noted =
      all_append (IsNoted (came_with m ∷ seen)) a (new ∷ []) (stays_noted m a a refl noted) (inl (sym at, is), tt)

  streams_of : List Noted → Result Watch Breach → List Noted
  streams_of a (Ok w) = w.streams
  streams_of a (Err b) = a

  module _ (w u : Watch) (noted : AreNoted w.streams seen) where
    none_new : (m : Message) (v : Watch) → v.streams ≡ w.streams → (full : Bool) → cond full (Err (breach.Full n)) (Ok v) ≡ Ok u
        → AreNoted u.streams (came_with m ∷ seen)
    none_new m v same true e = absurd (cc)
    none_new m v same false e =
        let it : v ≡ u = cc in stays_noted m w.streams u.streams (sym same ∙ ap (λ (w : Watch). w.streams) it) noted

    one_new : (m : Message) (new : Noted) → IsNotedAs new m → new.at ≡ n → (full : Bool)
        → cond full (Err (breach.Full n)) (Ok (record w { streams = w.streams ++ new ∷ [] })) ≡ Ok u
        → AreNoted u.streams (came_with m ∷ seen)
    one_new m new is at true e = absurd (cc)
    one_new m new is at false e =
        let it : record w { streams = w.streams ++ new ∷ [] } ≡ u = cc in
        subst (λ (v : Watch). AreNoted v.streams (came_with m ∷ seen)) it (one_noted m w.streams new is at noted)

    block_new : (label : Option ℕ) (i : Item) (ev : Event)
        → ((xid subxid : ℕ) → ev ≡ event.Hold xid subxid → IsPart subxid (message.Item label i))
        → block_noted w n i ev ≡ Ok u → AreNoted u.streams (came_with (message.Item label i) ∷ seen)
    block_new label i (event.Hold xid subxid) fits e =
        one_new (message.Item label i) (record { xid = xid; subxid = subxid; at = n; what = what_of i }) (refl, fits xid subxid refl) refl
        (is_full w) e
    block_new label i event.Ignore fits e = none_new (message.Item label i) w refl false e
    block_new label i (event.Begin xid) fits e = none_new (message.Item label i) w refl false e
    block_new label i (event.Open xid) fits e = none_new (message.Item label i) w refl false e
    block_new label i (event.Reopen xid) fits e = none_new (message.Item label i) w refl false e
    block_new label i event.Close fits e = none_new (message.Item label i) w refl false e
    block_new label i (event.Cut xid subxid) fits e = none_new (message.Item label i) w refl false e
    block_new label i (event.Drop xid) fits e = none_new (message.Item label i) w refl false e
    block_new label i (event.CommitPair xid lsn end) fits e = none_new (message.Item label i) w refl false e
    block_new label i (event.CommitStream xid lsn end) fits e = none_new (message.Item label i) w refl false e

    item_new : (label : Option ℕ) (i : Item) (ev : Event) (block : Bool)
        → ((xid subxid : ℕ) → ev ≡ event.Hold xid subxid → block ≡ true → IsPart subxid (message.Item label i))
        → cond block (block_noted w n i ev) (item_noted w n i) ≡ Ok u → AreNoted u.streams (came_with (message.Item label i) ∷ seen)
    item_new label i ev true fits e = block_new label i ev (λ xid subxid is. fits xid subxid is refl) e
    item_new label i ev false fits e = stays_noted (message.Item label i) w.streams u.streams (item_leaves w u n i e).streams noted

    without_noted : (m : Message) (xid : ℕ) → without_xid xid w.streams ≡ u.streams → AreNoted u.streams (came_with m ∷ seen)
    without_noted m xid same =
        stays_noted m (without_xid xid w.streams) u.streams same (without_all (IsNoted seen) xid w.streams noted)

    abort_new : (x l : ℕ) (ev : Event) → ((xid subxid : ℕ) → ev ≡ event.Cut xid subxid → l ≡ subxid) → aborted w n ev ≡ Ok u
        → AreNoted u.streams (came_with (message.StreamAbort x l) ∷ seen)
    abort_new x l (event.Cut xid label) fits e =
        one_new (message.StreamAbort x l) (record { xid = xid; subxid = label; at = n; what = what.Abort }) (refl, fits xid label refl) refl
        (is_full w) e
    abort_new x l (event.Drop xid) fits e =
        let it : closed w xid ≡ u = cc in without_noted (message.StreamAbort x l) xid (ap (λ (w : Watch). w.streams) it)
    abort_new x l event.Ignore fits e = none_new (message.StreamAbort x l) w refl false e
    abort_new x l (event.Begin xid) fits e = none_new (message.StreamAbort x l) w refl false e
    abort_new x l (event.Hold top label) fits e = none_new (message.StreamAbort x l) w refl false e
    abort_new x l (event.Open xid) fits e = none_new (message.StreamAbort x l) w refl false e
    abort_new x l (event.Reopen xid) fits e = none_new (message.StreamAbort x l) w refl false e
    abort_new x l event.Close fits e = none_new (message.StreamAbort x l) w refl false e
    abort_new x l (event.CommitPair xid lsn end) fits e = none_new (message.StreamAbort x l) w refl false e
    abort_new x l (event.CommitStream xid lsn end) fits e = none_new (message.StreamAbort x l) w refl false e

    new_noted : (m : Message) (ev : Event) → EventFits w.order.state.context m ev → meant w n m ev ≡ Ok u
        → AreNoted u.streams (came_with m ∷ seen)
    new_noted (message.Begin lsn time xid) ev fits e =
        none_new (message.Begin lsn time xid) (record w { facts = begun w.facts }) refl false e
    new_noted (message.Commit lsn end time) ev fits e =
        stays_noted (message.Commit lsn end time) w.streams u.streams (commit_leaves w u (commit_judged w.facts n lsn end) e).streams noted
    new_noted (message.Origin lsn name) ev fits e = none_new (message.Origin lsn name) w refl false e
    new_noted (message.TypeName xid oid namespace name) ev fits e = none_new (message.TypeName xid oid namespace name) w refl false e
    new_noted (message.Logical xid transactional lsn prefix content) ev fits e =
        none_new (message.Logical xid transactional lsn prefix content) w refl false e
    new_noted (message.Item label i) ev fits e =
        item_new label i ev (is_in_block w.order.state.context) fits e
    new_noted (message.StreamStart xid true) ev fits e =
        none_new (message.StreamStart xid true) (record w { held = w.held + 1 }) refl (is_full w) e
    new_noted (message.StreamStart xid false) ev fits e = none_new (message.StreamStart xid false) w refl false e
    new_noted message.StreamStop ev fits e = none_new message.StreamStop w refl false e
    new_noted (message.StreamCommit xid lsn end time) ev fits e =
        without_noted (message.StreamCommit xid lsn end time) xid
        (judged_leaves (closed w xid) u n lsn end (nest (at_end xid) (of_xid xid w.streams)) e).streams
    new_noted (message.StreamAbort xid label) ev fits e = abort_new xid label ev fits e

event_fits : (v : Version) (c : Context) (o : OpenXids) (m : Message) (step : OrderState × Event)
    → order_step v (record { context = c; open_xids = o }) m ≡ Ok step → EventFits step.0.context m step.1
event_fits v c o (message.Item label i) step is = item_fits o step c label i is
event_fits v Outside o (message.StreamAbort xid label) step is = abort_fits o step xid label v (is_open xid o) (eqb xid label) is
event_fits v (InPair l x) o (message.StreamAbort xid label) step is = λ x subxid e. never v is
  where
    never : {A : Type 0} (u : Version) → in_version_2 u (Err fault.AbortMisplaced) ≡ Ok step → A
    never One e = absurd (cc)
    never Two e = absurd (cc)
event_fits v (InBlock x) o (message.StreamAbort xid label) step is = λ x subxid e. never v is
  where
    never : {A : Type 0} (u : Version) → in_version_2 u (Err fault.AbortMisplaced) ≡ Ok step → A
    never One e = absurd (cc)
    never Two e = absurd (cc)
event_fits v c o (message.Begin lsn time xid) step is = tt
event_fits v c o (message.Commit lsn end time) step is = tt
event_fits v c o (message.Origin lsn name) step is = tt
event_fits v c o (message.TypeName xid oid namespace name) step is = tt
event_fits v c o (message.Logical xid transactional lsn prefix content) step is = tt
event_fits v c o (message.StreamStart xid first) step is = tt
event_fits v c o message.StreamStop step is = tt
event_fits v c o (message.StreamCommit xid lsn end time) step is = tt

goes_in_order : (n s e : ℕ) (clock : ℤ) (seen : List Framed) (w u : Watch) (m : Message) (r : StepResult)
    → order_step w.order.version w.order.state m ≡ r → KnowsAll w seen
    → by_order w n m r ≡ Ok u → KnowsAll u (record { at = n; sent = Data s e clock m } ∷ seen)
goes_in_order n s e clock seen w u m (Err fault) is k h = absurd (cc)
goes_in_order n s e clock seen w u m (Ok step) is k h =
    let v : Watch = record w { order = record { version = w.order.version; state = step.0 } } in
    let fits = event_fits w.order.version w.order.state.context w.order.state.open_xids m step is in
    (goes n s e clock seen v u k.0 m step.1 k.1 h, new_noted n s e clock seen v u k.1 m step.1 fits h)

breaks_in_order : (n s e : ℕ) (clock : ℤ) (seen : List Framed) (w : Watch) (b : Breach) (m : Message) (r : StepResult)
    → KnowsAll w seen → by_order w n m r ≡ Err b → IsCaused b seen n
breaks_in_order n s e clock seen w b m (Err fault) k h = subst (λ b. IsCaused b seen n) (ap (watch_breach b) h) refl
breaks_in_order n s e clock seen w b m (Ok step) k h =
    breaks n s e clock seen (record w { order = record { version = w.order.version; state = step.0 } }) b k.0 m step.1 k.1 h

keepalive_known : (f : Facts) (n end : ℕ) (clock : ℤ) (reply : Bool) (seen : List Framed) → KnowsCauses f seen → (later : Bool)
    → (let told : Facts = record f { told = end; told_at = n } in
    KnowsCauses (cond later told f) (record { at = n; sent = Keepalive end clock reply } ∷ seen))
keepalive_known f n end clock reply seen k true = record {
  last = earlier (record { at = n; sent = Keepalive end clock reply }) f.last_at (IsCommitAt f.last_end) f.last_end seen k.last;
  told = inr (inl (refl, refl));
  missing = missing_earlier (record { at = n; sent = Keepalive end clock reply }) f.missing seen k.missing;
}
keepalive_known f n end clock reply seen k false = more f (record { at = n; sent = Keepalive end clock reply }) seen k

abbrev onto : List Framed → List Framed → List Framed
onto [] seen = seen
onto (f ∷ fs) seen = onto fs (f ∷ seen)

one_known : (n : ℕ) (s : Sent) (seen : List Framed) (w : Watch) (r : Result Watch Breach) → hear w (heard_of n s) ≡ r
    → KnowsAll w seen → (u : Watch) → r ≡ Ok u → KnowsAll u (record { at = n; sent = s } ∷ seen)
one_known n (Data s e clock m) seen w r is k u same =
    goes_in_order n s e clock seen w u m (order_step w.order.version w.order.state m) refl k (is ∙ same)
one_known n (Keepalive end clock reply) seen w r is k u same =
    let e : done (record w { facts = keepalive_noted w.facts n end }) ≡ Ok u = is ∙ same in
    let it : record w { facts = keepalive_noted w.facts n end } ≡ u = cc in
    let f : Framed = record { at = n; sent = Keepalive end clock reply } in
    subst (λ (v : Watch). KnowsAll v (f ∷ seen)) it (
      keepalive_known w.facts n end clock reply seen k.0 (nat_lt w.facts.told end),
      all_weaker (IsNoted seen) (IsNoted (f ∷ seen)) (λ x came. inr came) w.streams k.1,
    )

all_known : (fs : List Framed) (w u : Watch) (seen : List Framed) → KnowsAll w seen → hear_all w fs ≡ Ok u
    → KnowsAll u (onto fs seen)
all_known [] w u seen k e = subst (λ (v : Watch). KnowsAll v seen) (let it : w ≡ u = cc in it) k
all_known (f ∷ fs) w u seen k e = go (hear w (heard_of f.at f.sent)) refl e (λ v known. all_known fs v u (f ∷ seen) known)
  where
    go : (r : Result Watch Breach) → hear w (heard_of f.at f.sent) ≡ r → then_hear r (λ new. hear_all new fs) ≡ Ok u
        → ((v : Watch) → KnowsAll v (f ∷ seen) → hear_all v fs ≡ Ok u → KnowsAll u (onto fs (f ∷ seen)))
        → KnowsAll u (onto fs (f ∷ seen))
    go (Err b) is e rest = absurd (cc)
    go (Ok v) is e rest = rest v (one_known f.at f.sent seen w (Ok v) is k v refl) e

one_caused : (n : ℕ) (s : Sent) (seen : List Framed) (w : Watch) (b : Breach) → KnowsAll w seen
    → hear w (heard_of n s) ≡ Err b → IsCaused b seen n
one_caused n (Data s e clock m) seen w b k h = breaks_in_order n s e clock seen w b m (order_step w.order.version w.order.state m) k h
one_caused n (Keepalive end clock reply) seen w b k h = absurd (cc)

-- ---- the law

came_in : (at : ℕ) (is : Sent → Type 0) (fs seen : List Framed) → Came at is (onto fs seen) → Came at is fs ⊎ Came at is seen
came_in at is [] seen came = inr came
came_in at is (f ∷ fs) seen came = elim (came_in at is fs (f ∷ seen) came) [
  | inl later ↦ inl (inr later)
  | inr rest ↦ elim rest [ inl here ↦ inl (inl here) | inr before ↦ inr before ]
]

came : (at : ℕ) (is : Sent → Type 0) (fs : List Framed) → Came at is (onto fs []) → Came at is fs
came at is fs c = elim (came_in at is fs [] c) [ inl in_it ↦ in_it | inr none ↦ absurd none ]

forwards : (b : Breach) (before : List Framed) (n : ℕ) → IsCaused b (onto before []) n → IsCaused b before n
forwards (breach.Disordered at fault) before n h = h
forwards (breach.BelowCommit at lsn cause end) before n h = (h.0, h.1, came cause (IsCommitAt end) before h.2)
forwards (breach.EndNotAbove at lsn end) before n h = h
forwards (breach.BelowStart at end start) before n h = h
forwards (breach.Undescribed at cause oid) before n h = (h.0, came cause (IsChangeOf oid) before h.1)
forwards (breach.BelowKeepalive at end cause told) before n h = (h.0, h.1, came cause (IsKeepaliveAt told) before h.2)
forwards (breach.Full at) before n h = h
forwards (breach.Unnested at cause subxid) before n h = (h.0, came cause (IsPartSent subxid) before h.1)
forwards (breach.Memory at) before n h = h

pub breaches_are_caused : BreachesAreCaused
breaches_are_caused v start limit before next w b heard broken =
    forwards b before next.at
    (one_caused next.at next.sent (onto before []) w b
    (all_known before (at_start v start limit) w [] (record { last = inl refl; told = inl refl; missing = tt }, tt) heard) broken)
