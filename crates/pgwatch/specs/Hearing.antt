-- Logical Streaming Replication Protocol: what a watch makes of one message after the other. What
-- this means of histories is proved in pgwatched.
use Rattle.std.specs.Prelude.{◌≡◌, ◌≢◌, ◌+◌, ◌-◌, ℕ, List, [], ◌∷◌, Bool, true, false, ◌||◌, ◌&&◌}
use Rattle.std.specs.Prelude.{Option, Some, None, Result, Ok, Err, nat_lt, nat_le}
use Rattle.std.specs.Prelude.{if◌then◌else◌, ◌++◌, length}
use Rattle.pglogical.specs.declared.message.Item.{Item}
use Rattle.pglogical.specs.declared.message.Item.TheVariants as item
use Rattle.pglogical.specs.declared.message.Message.{Message as LogicalMessage}
use Rattle.pglogical.specs.declared.message.Message.TheVariants as message
use Rattle.pgorder.specs.declared.Version.{Version}
use Rattle.pgorder.specs.declared.Event.{Event}
use Rattle.pgorder.specs.declared.Event.TheVariants as event
use Rattle.pgorder.specs.States.{is_in_block}
use Rattle.pgorder.specs.Steps.{StepResult, initial_order, order_step}
use Rattle.pgwatch.specs.Known.{OidSet, none_known, is_known, with_known}
use Rattle.pgwatch.specs.declared.fault.Breach.{Breach}
use Rattle.pgwatch.specs.declared.fault.Breach.TheVariants as breach
use Rattle.pgwatch.specs.declared.facts.Facts.{Facts}
use Rattle.pgwatch.specs.declared.facts.Missing.{Missing}
use Rattle.pgwatch.specs.declared.watch.Watch.{Watch}
use Rattle.pgwatch.specs.declared.noted.Noted.{Noted}
use Rattle.pgwatch.specs.declared.noted.What.{What}
use Rattle.pgwatch.specs.declared.noted.What.TheVariants as what
use Rattle.pgwatch.specs.Nesting.{Nesting, at_end, nest, of_xid, without_xid}

-- a message or a keepalive, with the number of its frame
pub data Heard : Type 0 where
  Message : (at : ℕ) (message : LogicalMessage) → Heard
  Keepalive : (at end : ℕ) → Heard

-- ---- commits, keepalives and the pair that is under way

abbrev pub first_facts : ℕ → Facts
first_facts start =
    record { start = start; last_end = 0; last_at = 0; told = 0; told_at = 0; missing = None; changes = false }

abbrev pub begun : Facts → Facts
begun f = record f { missing = None; changes = false }

abbrev pub first_missing : Option Missing → ℕ → Option ℕ → Option Missing
first_missing (Some missing) at unknown = Some missing
first_missing None at None = None
first_missing None at (Some oid) = Some (record { oid = oid; at = at })

abbrev pub change_noted : Facts → ℕ → Option ℕ → Bool → Facts
change_noted f at unknown names_any =
    record f { missing = first_missing f.missing at unknown; changes = f.changes || names_any }

abbrev pub keepalive_noted : Facts → ℕ → ℕ → Facts
keepalive_noted f at end = if nat_lt f.told end then record f { told = end; told_at = at } else f

-- a commit that changes rows ends above each keepalive
abbrev pub told_judged : Facts → ℕ → ℕ → Result Facts Breach
told_judged f at end = if f.changes && nat_le end f.told then Err (breach.BelowKeepalive at end f.told_at f.told)
    else Ok (record f { last_end = end; last_at = at })

-- each relation that it changes is described
abbrev pub described_judged : Facts → ℕ → ℕ → Option Missing → Result Facts Breach
described_judged f at end (Some missing) = Err (breach.Undescribed at missing.at missing.oid)
described_judged f at end None = told_judged f at end

-- Why a commit isn't in its place: it stands behind the commit before it, and ends behind its own
-- LSN and the start of the session.
abbrev pub misplaced : Facts → ℕ → ℕ → ℕ → Option Breach
misplaced f at lsn end = if nat_lt lsn f.last_end then Some (breach.BelowCommit at lsn f.last_at f.last_end)
    else (if nat_le end lsn then Some (breach.EndNotAbove at lsn end)
    else (if nat_le end f.start then Some (breach.BelowStart at end f.start) else None))

abbrev pub by_place : Facts → ℕ → ℕ → Option Breach → Result Facts Breach
by_place f at end (Some b) = Err b
by_place f at end None = described_judged f at end f.missing

abbrev pub commit_judged : Facts → ℕ → ℕ → ℕ → Result Facts Breach
commit_judged f at lsn end = by_place f at end (misplaced f at lsn end)

-- what is answered where the facts then are these
abbrev pub Judges : {A : Type 0} → Result Facts Breach → Facts → Result A Breach → Type 0
Judges judged new (Ok done) = judged ≡ Ok new
Judges judged new (Err b) = judged ≡ Err b

-- ---- relations and changes

abbrev pub first_unknown : OidSet → List ℕ → Option ℕ
first_unknown known [] = None
first_unknown known (oid ∷ oids) = if is_known oid known then first_unknown known oids else Some oid

abbrev pub names_any : List ℕ → Bool
names_any [] = false
names_any (oid ∷ oids) = true

abbrev pub is_full : Watch → Bool
is_full w = nat_le w.limit (w.held + length w.streams)

-- one more is held, within the limit
abbrev pub relation_noted : Watch → ℕ → ℕ → Result Watch Breach
relation_noted w at oid = if is_known oid w.known then Ok w
    else (if is_full w then Err (breach.Full at)
    else Ok (record w { known = with_known oid w.known; held = w.held + 1 }))

abbrev pub opened : Watch → ℕ → Result Watch Breach
opened w at = if is_full w then Err (breach.Full at) else Ok (record w { held = w.held + 1 })

abbrev pub changed_by : Watch → ℕ → List ℕ → Watch
changed_by w at oids = record w { facts = change_noted w.facts at (first_unknown w.known oids) (names_any oids) }

abbrev pub item_noted : Watch → ℕ → Item → Result Watch Breach
item_noted w at (item.Relation def) = relation_noted w at def.oid
item_noted w at (item.Insert oid row) = Ok (changed_by w at (oid ∷ []))
item_noted w at (item.Update oid prior row) = Ok (changed_by w at (oid ∷ []))
item_noted w at (item.Delete oid kind row) = Ok (changed_by w at (oid ∷ []))
item_noted w at (item.Truncate options oids) = Ok (changed_by w at oids)

-- ---- messages

abbrev pub with_facts : Watch → Result Facts Breach → Result Watch Breach
with_facts w (Ok facts) = Ok (record w { facts = facts })
with_facts w (Err b) = Err b

-- ---- streamed transactions

abbrev pub what_of : Item → What
what_of (item.Relation def) = what.Relation def.oid
what_of (item.Insert oid row) = what.Change oid
what_of (item.Update oid prior row) = what.Change oid
what_of (item.Delete oid kind row) = what.Change oid
what_of (item.Truncate options oids) = what.Truncate oids

abbrev pub note : Watch → ℕ → ℕ → ℕ → What → Result Watch Breach
note w at xid subxid what = if is_full w then Err (breach.Full at)
    else Ok (record w { streams = w.streams ++ record { xid = xid; subxid = subxid; at = at; what = what } ∷ [] })

abbrev pub block_noted : Watch → ℕ → Item → Event → Result Watch Breach
block_noted w at i (event.Hold xid subxid) = note w at xid subxid (what_of i)
block_noted w at i e = Ok w

abbrev pub item_or_noted : Watch → ℕ → Item → Event → Result Watch Breach
item_or_noted w at i e = if is_in_block w.order.state.context then block_noted w at i e else item_noted w at i

abbrev pub closed : Watch → ℕ → Watch
closed w xid = record w { held = w.held - 1; streams = without_xid xid w.streams }

abbrev pub aborted : Watch → ℕ → Event → Result Watch Breach
aborted w at (event.Drop xid) = Ok (closed w xid)
aborted w at (event.Cut xid subxid) = note w at xid subxid what.Abort
aborted w at e = Ok w

abbrev pub replayed_as : Watch → ℕ → ℕ → What → Result Watch Breach
replayed_as w at cause (what.Relation oid) = relation_noted w at oid
replayed_as w at cause (what.Change oid) = Ok (changed_by w cause (oid ∷ []))
replayed_as w at cause (what.Truncate oids) = Ok (changed_by w cause oids)
replayed_as w at cause what.Abort = Ok w

abbrev pub replayed_one : Watch → ℕ → Noted → Result Watch Breach
replayed_one w at x = replayed_as w at x.at x.what

abbrev pub then_watch : Result Watch Breach → (Watch → Result Watch Breach) → Result Watch Breach
then_watch (Ok w) go = go w
then_watch (Err b) go = Err b

-- The items that survive, as if they came in a pair.
abbrev pub replayed : Watch → ℕ → List Noted → Result Watch Breach
replayed w at [] = Ok w
replayed w at (x ∷ xs) = then_watch (replayed_one w at x) (λ new. replayed new at xs)

abbrev pub commits : Watch → ℕ → ℕ → ℕ → Result Watch Breach
commits w at lsn end = with_facts w (commit_judged w.facts at lsn end)

abbrev pub nest_judged : Watch → ℕ → ℕ → ℕ → Result Nesting Noted → Result Watch Breach
nest_judged w at lsn end (Ok n) =
    then_watch (replayed (record w { facts = begun w.facts }) at n.surviving) (λ new. commits new at lsn end)
nest_judged w at lsn end (Err x) = Err (breach.Unnested at x.at x.subxid)

-- A streamed transaction commits: its subtransactions are nested, and what survives is judged.
abbrev pub stream_judged : Watch → ℕ → ℕ → ℕ → ℕ → Result Watch Breach
stream_judged w at xid lsn end = nest_judged (closed w xid) at lsn end (nest (at_end xid) (of_xid xid w.streams))

-- A message that comes in order, and its event.
abbrev pub meant : Watch → ℕ → LogicalMessage → Event → Result Watch Breach
meant w at (message.Begin lsn time xid) e = Ok (record w { facts = begun w.facts })
meant w at (message.Commit lsn end time) e = commits w at lsn end
meant w at (message.Origin lsn name) e = Ok w
meant w at (message.TypeName xid oid namespace name) e = Ok w
meant w at (message.Logical xid transactional lsn prefix content) e = Ok w
meant w at (message.Item xid i) e = item_or_noted w at i e
meant w at (message.StreamStart xid true) e = opened w at
meant w at (message.StreamStart xid false) e = Ok w
meant w at message.StreamStop e = Ok w
meant w at (message.StreamCommit xid lsn end time) e = stream_judged w at xid lsn end
meant w at (message.StreamAbort xid label) e = aborted w at e

abbrev pub by_order : Watch → ℕ → LogicalMessage → StepResult → Result Watch Breach
by_order w at m (Ok step) = meant (record w { order = record { version = w.order.version; state = step.0 } }) at m step.1
by_order w at m (Err fault) = Err (breach.Disordered at fault)

abbrev pub hear : Watch → Heard → Result Watch Breach
hear w (Message at m) = by_order w at m (order_step w.order.version w.order.state m)
hear w (Keepalive at end) = Ok (record w { facts = keepalive_noted w.facts at end })

-- a watch over a session that starts here
abbrev pub at_start : Version → ℕ → ℕ → Watch
at_start v start limit = record {
  order = record { version = v; state = initial_order };
  known = none_known;
  limit = limit;
  held = 0;
  streams = [];
  facts = first_facts start;
  ended = None;
}

abbrev pub frame_of : Heard → ℕ
frame_of (Message at m) = at
frame_of (Keepalive at end) = at

-- what is answered, and the watch then
abbrev pub Hears : {A : Type 0} → Watch → Heard → Watch → Result A Breach → Type 0
Hears old h new (Ok done) = hear old h ≡ Ok new
Hears old h new (Err b) = b ≢ breach.Memory (frame_of h) → hear old h ≡ Err b

abbrev pub IsRelation : Item → Type 0
IsRelation (item.Relation def) = Unit {0}
IsRelation i = ⊥

-- Outside blocks only a relation takes memory.
abbrev pub ItemTakesMemory : Bool → Item → Type 0
ItemTakesMemory true i = Unit {0}
ItemTakesMemory false i = IsRelation i

-- so do items in blocks, a first block, and the end of a streamed transaction
abbrev pub TakesMemory : Bool → LogicalMessage → Type 0
TakesMemory in_block (message.Item xid i) = ItemTakesMemory in_block i
TakesMemory in_block (message.StreamStart xid first) = Unit {0}
TakesMemory in_block (message.StreamCommit xid lsn end time) = Unit {0}
TakesMemory in_block (message.StreamAbort xid label) = Unit {0}
TakesMemory in_block m = ⊥
