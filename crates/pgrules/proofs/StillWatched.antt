-- What a watch hears well doesn't end it.
use Rattle.std.proofs.Common.{◌≡◌, ℕ, List, [], ◌∷◌, Bool, true, false, cond, Option, Result, Ok}
use Rattle.std.proofs.Common.{Err}
use Rattle.std.proofs.Common.{refl, subst}
use Rattle.pglogical.specs.declared.message.Item.{Item}
use Rattle.pglogical.specs.declared.message.Item.TheVariants as item
use Rattle.pglogical.specs.declared.message.Message.{Message}
use Rattle.pglogical.specs.declared.message.Message.TheVariants as message
use Rattle.pgorder.specs.declared.Event.{Event}
use Rattle.pgorder.specs.declared.Event.TheVariants as event
use Rattle.pgorder.specs.Steps.{StepResult, order_step}
use Rattle.pgorder.specs.States.{is_in_block}
use Rattle.pgwatch.specs.Known.{is_known}
use Rattle.pgwatch.specs.Nesting.{Nesting, at_end, nest, of_xid}
use Rattle.pgwatch.specs.declared.fault.Breach.{Breach}
use Rattle.pgwatch.specs.declared.facts.Facts.{Facts}
use Rattle.pgwatch.specs.declared.noted.Noted.{Noted}
use Rattle.pgwatch.specs.declared.noted.What.{What}
use Rattle.pgwatch.specs.declared.noted.What.TheVariants as what
use Rattle.pgwatch.specs.declared.watch.Watch.{Watch}
use Rattle.pgwatch.specs.Hearing.{Heard, hear, by_order, meant, with_facts, commit_judged}
use Rattle.pgwatch.specs.Hearing.{item_noted}
use Rattle.pgwatch.specs.Hearing.{relation_noted, is_full, note, block_noted, aborted, closed}
use Rattle.pgwatch.specs.Hearing.{replayed, replayed_as, then_watch, nest_judged, begun, commits}
use Rattle.pgwatch.specs.Hearing.{what_of}
use Rattle.pgwatch.specs.Hearing as hearing

abbrev Keeps : Option Breach → Result Watch Breach → Type 0
Keeps o (Ok w) = w.ended ≡ o
Keeps o (Err b) = Unit {0}

either : (o : Option Breach) (b : Bool) (x y : Result Watch Breach) → Keeps o x → Keeps o y → Keeps o (cond b x y)
either o true x y p q = p
either o false x y p q = q

relation_keeps : (w : Watch) (n oid : ℕ) → Keeps w.ended (relation_noted w n oid)
relation_keeps w n oid = either w.ended (is_known oid w.known) _ _ refl (either w.ended (is_full w) _ _ tt refl)

facts_keep : (w : Watch) (r : Result Facts Breach) → Keeps w.ended (with_facts w r)
facts_keep w (Ok facts) = refl
facts_keep w (Err b) = tt

item_keeps : (w : Watch) (n : ℕ) (i : Item) → Keeps w.ended (item_noted w n i)
item_keeps w n (item.Relation def) = relation_keeps w n def.oid
item_keeps w n (item.Insert oid row) = refl
item_keeps w n (item.Update oid prior row) = refl
item_keeps w n (item.Delete oid kind row) = refl
item_keeps w n (item.Truncate options oids) = refl

note_keeps : (w : Watch) (n xid subxid : ℕ) (x : What) → Keeps w.ended (note w n xid subxid x)
note_keeps w n xid subxid x = either w.ended (is_full w) _ _ tt refl

block_keeps : (w : Watch) (n : ℕ) (i : Item) (e : Event) → Keeps w.ended (block_noted w n i e)
block_keeps w n i (event.Hold xid subxid) = note_keeps w n xid subxid (what_of i)
block_keeps w n i event.Ignore = refl
block_keeps w n i (event.Begin xid) = refl
block_keeps w n i (event.Open xid) = refl
block_keeps w n i (event.Reopen xid) = refl
block_keeps w n i event.Close = refl
block_keeps w n i (event.Cut xid label) = refl
block_keeps w n i (event.Drop xid) = refl
block_keeps w n i (event.CommitPair xid lsn end) = refl
block_keeps w n i (event.CommitStream xid lsn end) = refl

abort_keeps : (w : Watch) (n : ℕ) (e : Event) → Keeps w.ended (aborted w n e)
abort_keeps w n (event.Cut xid label) = note_keeps w n xid label what.Abort
abort_keeps w n event.Ignore = refl
abort_keeps w n (event.Begin xid) = refl
abort_keeps w n (event.Hold top label) = refl
abort_keeps w n (event.Open xid) = refl
abort_keeps w n (event.Reopen xid) = refl
abort_keeps w n event.Close = refl
abort_keeps w n (event.Drop xid) = refl
abort_keeps w n (event.CommitPair xid lsn end) = refl
abort_keeps w n (event.CommitStream xid lsn end) = refl

one_keeps : (w : Watch) (n cause : ℕ) (x : What) → Keeps w.ended (replayed_as w n cause x)
one_keeps w n cause (what.Relation oid) = relation_keeps w n oid
one_keeps w n cause (what.Change oid) = refl
one_keeps w n cause (what.Truncate oids) = refl
one_keeps w n cause what.Abort = refl

then_keeps : (o : Option Breach) (r : Result Watch Breach) (go : Watch → Result Watch Breach) → Keeps o r
    → ((w : Watch) → w.ended ≡ o → Keeps o (go w)) → Keeps o (then_watch r go)
then_keeps o (Ok w) go k rest = rest w k
then_keeps o (Err b) go k rest = tt

all_keep : (xs : List Noted) (w : Watch) (n : ℕ) (o : Option Breach) → w.ended ≡ o → Keeps o (replayed w n xs)
all_keep [] w n o same = same
all_keep (x ∷ xs) w n o same =
    then_keeps o (replayed_as w n x.at x.what) (λ new. replayed new n xs)
    (subst (λ e. Keeps e (replayed_as w n x.at x.what)) same (one_keeps w n x.at x.what)) (λ u is. all_keep xs u n o is)

judged_keeps : (w : Watch) (n lsn end : ℕ) (r : Result Nesting Noted) → Keeps w.ended (nest_judged w n lsn end r)
judged_keeps w n lsn end (Err x) = tt
judged_keeps w n lsn end (Ok g) =
    then_keeps w.ended (replayed (record w { facts = begun w.facts }) n g.surviving) (λ new. commits new n lsn end)
    (all_keep g.surviving (record w { facts = begun w.facts }) n w.ended refl)
    (λ u is. subst (λ e. Keeps e (commits u n lsn end)) is (facts_keep u (commit_judged u.facts n lsn end)))

meant_keeps : (w : Watch) (n : ℕ) (m : Message) (e : Event) → Keeps w.ended (meant w n m e)
meant_keeps w n (message.Begin lsn time xid) e = refl
meant_keeps w n (message.Commit lsn end time) e = facts_keep w (commit_judged w.facts n lsn end)
meant_keeps w n (message.Origin lsn name) e = refl
meant_keeps w n (message.TypeName xid oid namespace name) e = refl
meant_keeps w n (message.Logical xid transactional lsn prefix content) e = refl
meant_keeps w n (message.Item label i) e =
    either w.ended (is_in_block w.order.state.context) _ _ (block_keeps w n i e) (item_keeps w n i)
meant_keeps w n (message.StreamStart xid true) e = either w.ended (is_full w) _ _ tt refl
meant_keeps w n (message.StreamStart xid false) e = refl
meant_keeps w n message.StreamStop e = refl
meant_keeps w n (message.StreamCommit xid lsn end time) e =
    judged_keeps (closed w xid) n lsn end (nest (at_end xid) (of_xid xid w.streams))
meant_keeps w n (message.StreamAbort xid label) e = abort_keeps w n e

order_keeps : (w : Watch) (n : ℕ) (m : Message) (r : StepResult) → Keeps w.ended (by_order w n m r)
order_keeps w n m (Ok step) = meant_keeps (record w { order = record { version = w.order.version; state = step.0 } }) n m step.1
order_keeps w n m (Err fault) = tt

hear_keeps : (w : Watch) (h : Heard) → Keeps w.ended (hear w h)
hear_keeps w (hearing.Message n m) = order_keeps w n m (order_step w.order.version w.order.state m)
hear_keeps w (hearing.Keepalive n end) = go (hearing.keepalive_noted w.facts n end)
  where
    go : (f : Facts) → Keeps w.ended (Ok (record w { facts = f }))
    go f = refl

pub still_watched : (w u : Watch) (h : Heard) → hear w h ≡ Ok u → u.ended ≡ w.ended
still_watched w u h e = subst (Keeps w.ended) e (hear_keeps w h)
