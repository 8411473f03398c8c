-- The payload of a frame.
use Rattle.std.proofs.Common.{◌≡◌, ℕ, ℤ, List, [], ◌∷◌, ◌++◌, Bool, true, false, cond, max, Ok}
use Rattle.std.proofs.Common.{refl, ap, subst}
use Rattle.std.specs.List.{AllByRecursion}
use Rattle.pglogical.specs.Reading.{message_at}
use Rattle.pglogical.specs.declared.message.Column.{Column}
use Rattle.pglogical.specs.declared.message.Item.{Item}
use Rattle.pglogical.specs.declared.message.Item.TheVariants as item
use Rattle.pglogical.specs.declared.message.Message.{Message}
use Rattle.pglogical.specs.declared.message.Message.TheVariants as message
use Rattle.pglogical.specs.Spelling.{IsColumn, IsText, IsWire, IsSpellable, IsWireMessage}
use Rattle.pglogical.specs.Spelling.{IsSpellableMessage}
use Rattle.pgorder.specs.States.{is_in_block, is_outside}
use Rattle.pgwire.specs.Frames.{CopyData}
use Rattle.pgwire.specs.Payloads.{XLogData, Keepalive, payload_at}
use Rattle.pgapply.specs.Value.{Tables}
use Rattle.pgsub_core.specs.Server.Stream as sent
use Rattle.pgwire.specs.Statuses.{status_frame}
use Rattle.pgwire.specs.declared.status.Status.{Status}
use Rattle.pgsub_core.specs.declared.fault.Fault.{Fault}
use Rattle.pgsub_core.specs.Machine.Replica.{Outcome, Running, on_keepalive}
use Rattle.pgsub_core.specs.Subscriber.Subscribed.{Subscribed}
use Rattle.pgsub_core.specs.Calls.Committing.{replica_with}
use Rattle.pgsub_core.specs.Machine.Taking.{take, reply, receive, with_state}
use Rattle.pgsub_core.specs.Subscriber.Applied.{Applied, Framing, subscribed, Goes}
use Rattle.pgsub_core.specs.Calls.Framing.{FramesGo}

module _ {C : Type 0} (holds : C → Tables → Type 0) (place : C → ℕ) (now : ℤ) (payload : List ℕ) where
  pub data_goes : (start end : ℕ) (clock : ℤ) (body : List ℕ) (a b : Applied C) → payload_at payload ≡ Ok (XLogData start end clock body)
      → (m : Message) → message_at (is_in_block a.order.context) body ≡ Ok m
      → Goes holds place (λ s. take now s (sent.Data start end clock m)) a b → FramesGo holds place now (CopyData payload ∷ []) a b
  data_goes start end clock body a b is m reads goes framing tables h =
      let done = goes framing tables h in
      (done.0, done.1, rw (is, reads, done.2) refl)

  pub keepalive_goes : (end : ℕ) (clock : ℤ) (asks : Bool) (a b : Applied C) → payload_at payload ≡ Ok (Keepalive end clock asks)
      → Goes holds place (λ s. take now s (sent.Keepalive end clock asks)) a b → FramesGo holds place now (CopyData payload ∷ []) a b
  keepalive_goes end clock asks a b is goes framing tables h =
      let done = goes framing tables h in
      (done.0, done.1, rw is (rw done.2 refl))

-- ---- a keepalive

module _ {C : Type 0} (holds : C → Tables → Type 0) (place : C → ℕ) (end : ℕ) (v a : Applied C) (same : v ≡ a) where
  abbrev end_status : ℤ → ℕ → ℕ → Status
  end_status now confirmed received = record { written = received; flushed = confirmed; applied = confirmed; clock = now; ask = false }

  step : (now : ℤ) (framing : Framing) (tables : Tables) (outside asks : Bool) (confirmed received : ℕ) (replies : List ℕ)
      → confirmed ≡ cond outside (max v.confirmed end) v.confirmed → received ≡ max confirmed (max v.received end)
      → replies ≡ cond asks (v.replies ++ status_frame (end_status now confirmed received)) v.replies
      → reply now asks (receive end
      (with_state (record {
        order = v.order;
        held = v.held;
        replica = on_keepalive (replica_with tables (place v.store) v.confirmed v.relations) end outside;
      })
      (subscribed place framing v tables)))
      ≡ subscribed place framing (record v { confirmed = confirmed; received = received; replies = replies }) tables
  step now framing tables true true confirmed received replies c r p = rw (p, r, c) refl
  step now framing tables true false confirmed received replies c r p = rw (p, r, c) refl
  step now framing tables false true confirmed received replies c r p = rw (p, r, c) refl
  step now framing tables false false confirmed received replies c r p = rw (p, r, c) refl

  pub keepalive_takes : (now clock : ℤ) (asks : Bool) (confirmed received : ℕ) (replies : List ℕ)
      → confirmed ≡ cond (is_outside v.order.context) (max v.confirmed end) v.confirmed → received ≡ max confirmed (max v.received end)
      → replies ≡ cond asks (v.replies ++ status_frame (end_status now confirmed received)) v.replies
      → Goes holds place (λ s. take now s (sent.Keepalive end clock asks)) a
      (record v { confirmed = confirmed; received = received; replies = replies })
  keepalive_takes now clock asks confirmed received replies c r p =
      subst (λ (x : Applied C).
      Goes holds place (λ s. take now s (sent.Keepalive end clock asks)) x
      (record v { confirmed = confirmed; received = received; replies = replies })) same
      (λ framing tables h. (
        tables,
        h,
        ap (λ (s : Subscribed). running s) (step now framing tables (is_outside v.order.context) asks confirmed received replies c r p),
      ))
    where
      running : Subscribed → Outcome Subscribed Fault
      running s = Running s

-- ---- what is read can be spelled

names_spell : (columns : List Column) → AllByRecursion IsColumn columns → AllByRecursion (λ (c : Column). IsText c.name) columns
names_spell [] are = tt
names_spell (column ∷ columns) are = (are.0.0.plain, names_spell columns are.1)

item_spells : (item : Item) → IsWire item → IsSpellable item
item_spells (item.Relation def) is = record {
  namespace = is.1.plain;
  name = is.2.plain;
  letter = is.3;
  count = is.4;
  names = names_spell def.columns is.5;
}
item_spells (item.Insert oid row) is = tt
item_spells (item.Update oid prior row) is = tt
item_spells (item.Delete oid kind row) is = tt
item_spells (item.Truncate options oids) is = (is.0, is.1)

pub message_spells : (m : Message) → IsWireMessage m → IsSpellableMessage m
message_spells (message.Begin lsn time xid) is = tt
message_spells (message.Commit lsn end time) is = tt
message_spells (message.Origin lsn name) is = is.1.plain
message_spells (message.TypeName xid oid namespace name) is = (is.2.plain, is.3.plain)
message_spells (message.Logical xid transactional lsn prefix content) is = (is.2.plain, is.3)
message_spells (message.Item xid item) is = item_spells item is.1
message_spells (message.StreamStart xid first) is = tt
message_spells message.StreamStop is = tt
message_spells (message.StreamCommit xid lsn end time) is = tt
message_spells (message.StreamAbort xid label) is = tt
