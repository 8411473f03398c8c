-- The tally of the frames that are taken: each commit that isn't a repeat, with what its message
-- tells of it, and how many of its changes find no row. PostgreSQL documentation, Logical
-- Replication Message Formats, Commit and Stream Commit; Logical Replication, Conflicts,
-- update_missing and delete_missing.
use Rattle.std.specs.Prelude.{◌≡◌, ◌⊎◌, ℕ, ℤ, List, [], ◌∷◌, ◌++◌, Bool, Option, Result, Ok, Err}
use Rattle.std.specs.Prelude.{nat_lt, if◌then◌else◌}
use Rattle.std.specs.FinMap as map
use Rattle.pglogical.specs.Reading.{message_at}
use Rattle.pglogical.specs.declared.fault.DecodeFault.{DecodeFault}
use Rattle.pglogical.specs.declared.message.Item.{Item}
use Rattle.pglogical.specs.declared.message.Message.{Message}
use Rattle.pgorder.specs.States.{is_in_block}
use Rattle.pgorder.specs.Steps.{OrderState, order_step}
use Rattle.pgorder.specs.declared.Event.{Event}
use Rattle.pgorder.specs.declared.Event.TheVariants as event
use Rattle.pgorder.specs.declared.fault.OrderFault.{OrderFault}
use Rattle.pgspool.specs.Labels.{HeldMap, items_of, held_of}
use Rattle.pgwire.specs.Frames as wire
use Rattle.pgwire.specs.Payloads.{payload_at}
use Rattle.pgwire.specs.declared.fault.WireFault.{WireFault}
use Rattle.pgapply.specs.declared.commit.About.{About}
use Rattle.pgapply.specs.Value.{Tables}
use Rattle.pgapply.specs.Apply.{Change}
use Rattle.pgapply.specs.Tallies.{Tally, with_commit}
use Rattle.pgsub_core.specs.declared.fault.Fault.{Fault}
use Rattle.pgsub_core.specs.Server.Described.{described_from}
use Rattle.pgsub_core.specs.Machine.Replica.{Replica, RelationCache, Outcome, Running, Stopped}
use Rattle.pgsub_core.specs.Subscriber.Subscribed.{Subscribed, replica_of, disconnect}
use Rattle.pgsub_core.specs.Machine.Taking.{take_frame, take_frames}
use Rattle.pgsub_core.specs.Calls.Committing.{replica_with, about_of}
use Rattle.pgsub_core.specs.Subscriber.Applied.{Applied, Framing, subscribed}
use Rattle.pgsub_core.specs.Machine.Feeding.{waiting, done_frames, IsFedWhole}
use Rattle.pgsub_core.specs.Calls.Framing.{framing_of, IsTakenTo}
use Rattle.pgsub_core.specs.Subscriber.SubscriberValue.{SubscriberValue, seen}
use Rattle.pgwire.specs.Deframed.{Deframed}

abbrev pub changes_counted : Tables → ℕ → Option About → Result (List Change) ℕ → Tally → Tally
changes_counted tables end about (Ok changes) m = with_commit m tables end about changes
changes_counted tables end about (Err oid) m = m

-- a commit whose end passes the position
abbrev pub commit_counted : Replica → ℕ → Option About → List Item → Tally → Tally
commit_counted old end about items m = if nat_lt old.position end
    then changes_counted old.tables end about (described_from (λ oid. map.get old.relations oid) items) m else m

-- a message that is this event
abbrev pub event_counted : Replica → HeldMap → Message → Event → Tally → Tally
event_counted replica held message (event.CommitPair xid lsn end) m =
    commit_counted replica end (about_of message xid) (items_of (held_of held xid)) m
event_counted replica held message (event.CommitStream xid lsn end) m =
    commit_counted replica end (about_of message xid) (items_of (held_of held xid)) m
event_counted replica held message _ m = m

abbrev pub step_counted : Replica → HeldMap → Message → Result (OrderState × Event) OrderFault → Tally → Tally
step_counted replica held message (Ok step) m = event_counted replica held message step.1 m
step_counted replica held message (Err fault) m = m

abbrev pub message_counted : Subscribed → Message → Tally → Tally
message_counted s message m = step_counted (replica_of s) s.held message (order_step s.version s.order message) m

abbrev pub decoded_counted : Subscribed → Result Message DecodeFault → Tally → Tally
decoded_counted s (Ok message) m = message_counted s message m
decoded_counted s (Err fault) m = m

abbrev pub payload_counted : Subscribed → Result wire.ServerMessage WireFault → Tally → Tally
payload_counted s (Ok (wire.XLogData start end clock body)) m = decoded_counted s (message_at (is_in_block s.order.context) body) m
payload_counted s (Ok (wire.Keepalive end clock asks)) m = m
payload_counted s (Err fault) m = m

abbrev pub frame_counted : Subscribed → wire.Frame → Tally → Tally
frame_counted s (wire.CopyData bytes) m = payload_counted s (payload_at bytes) m
frame_counted s wire.CopyDone m = m

abbrev pub counted_behind : Outcome Subscribed Fault → (Subscribed → Tally) → Tally → Tally
counted_behind (Running next) more m = more next
counted_behind (Stopped s fault) more m = m

-- frames in order, each over what the ones before it leave
abbrev pub frames_counted : ℤ → Subscribed → List wire.Frame → Tally → Tally
frames_counted now s [] m = m
frames_counted now s (f ∷ fs) m =
    counted_behind (take_frame now s f) (λ next. frames_counted now next fs (frame_counted s f m)) (frame_counted s f m)

-- All frames of a piece that stand whole are counted, with which the position is reached; how the
-- bytes are deframed is said as in IsFedWhole.
pub record IsCountedWhole (now : ℤ) (old : Subscribed) (piece : List ℕ) (position : ℕ) (before behind : Tally) : Type 0 where
  pub fs : List wire.Frame
  pub rest : List ℕ
  pub state : Subscribed
  pub deframed : wire.IsDeframedAs old.max_frame (waiting old piece) (done_frames old ++ fs) rest
  pub takes : take_frames now old fs ≡ Running state
  pub stands : position ≡ state.position
  pub counts : behind ≡ frames_counted now old fs before

-- Frames of a piece are counted, with which the position is reached.
pub record IsCountedFront (now : ℤ) (old : Subscribed) (piece : List ℕ) (position : ℕ) (before behind : Tally) : Type 0 where
  pub fs : List wire.Frame
  pub rest : List ℕ
  pub state : Subscribed
  pub whole : waiting old piece ≡ wire.frames (done_frames old ++ fs) ++ rest
  pub each : wire.AreFrames old.max_frame (done_frames old ++ fs)
  pub takes : take_frames now old fs ≡ Running state
  pub stands : position ≡ state.position
  pub counts : behind ≡ frames_counted now old fs before

-- Sessions are fed whole, each from a disconnection on, and what they count adds up.
abbrev pub AreCountedWhole : ℤ → Subscribed → List (List ℕ) → Subscribed → Tally → Tally → Type 0
AreCountedWhole now old [] new before behind = (new ≡ old) × (behind ≡ before)
AreCountedWhole now old (bytes ∷ sessions) new before behind =
    (mid : Subscribed) × (between : Tally) × IsFedWhole now (disconnect old) bytes mid
    × IsCountedWhole now (disconnect old) bytes mid.position before between × AreCountedWhole now mid sessions new between behind

-- The same of whole sessions and a front of the next, with which the position is reached.
abbrev pub AreCountedFront : ℤ → Subscribed → List (List ℕ) → ℕ → Tally → Tally → Type 0
AreCountedFront now old [] position before behind = (position ≡ old.position) × (behind ≡ before)
AreCountedFront now old (bytes ∷ sessions) position before behind =
    IsCountedFront now (disconnect old) bytes position before behind
    ⊎ ((mid : Subscribed) × (between : Tally) × IsFedWhole now (disconnect old) bytes mid
    × IsCountedWhole now (disconnect old) bytes mid.position before between × AreCountedFront now mid sessions position between behind)

-- What is counted of a piece is determined by its bytes.
abbrev pub PieceHasOneCount : Type 0
PieceHasOneCount =
    (now : ℤ) (old : Subscribed) (piece : List ℕ) (p q : ℕ) (before a b : Tally) → IsCountedWhole now old piece p before a
    → IsCountedWhole now old piece q before b → (a ≡ b) × (p ≡ q)

-- Counting a piece and then another is counting both as one.
abbrev pub CountedPiecesAreOne : Type 0
CountedPiecesAreOne =
    (now : ℤ) (old mid : Subscribed) (piece next : List ℕ) (p q : ℕ) (before between behind : Tally) → IsFedWhole now old piece mid
    → IsCountedWhole now old piece p before between → IsCountedWhole now mid next q between behind
    → IsCountedWhole now old (piece ++ next) q before behind

module _ {C : Type 0} (holds : C → Tables → Type 0) (place : C → ℕ) (count : C → Tally) where
  -- whatever tables the store held, the commit is counted over them,
  abbrev pub CountsCommit : ℕ → Option About → List Item → C → ℕ → RelationCache → C → Type 0
  CountsCommit end about items old confirmed relations new = (tables : Tables) → holds old tables
      → count new ≡ commit_counted (replica_with tables (place old) confirmed relations) end about items (count old)

  -- or the event,
  abbrev pub CountsEvent : Message → Event → Applied C → Applied C → Type 0
  CountsEvent message e old new = (tables : Tables) → holds old.store tables
      → count new.store
      ≡ event_counted (replica_with tables (place old.store) old.confirmed old.relations) old.held message e (count old.store)

  -- or a message or frames
  abbrev pub CountsBy : (Subscribed → Tally → Tally) → Applied C → Applied C → Type 0
  CountsBy by old new = (framing : Framing) (tables : Tables) → holds old.store tables
      → count new.store ≡ by (subscribed place framing old tables) (count old.store)

  module _ (now : ℤ) where
    -- so many bytes of the piece were taken, and the frames in them counted
    pub record IsCountedTo (serves : C → Type 0) (d₀ : Deframed) (a₀ : Applied C) (piece : List ℕ) (d : Deframed) (a : Applied C)
        (taken : ℕ) : Type 0 where
      pub to : IsTakenTo holds place now serves d₀ a₀ piece d a taken
      pub counts : serves a.store → CountsBy (λ s. frames_counted now s to.fs) a₀ a

    -- all of a piece was fed, and the frames in it counted
    abbrev pub FeedCounts : Deframed → Applied C → List ℕ → C → Type 0
    FeedCounts d₀ a₀ piece new = (closed : Bool) (tables : Tables) → holds a₀.store tables
        → IsCountedWhole now (subscribed place (framing_of d₀ closed) a₀ tables) piece (place new) (count a₀.store) (count new)

    -- or what was fed of it
    abbrev pub FeedCountsFront : Deframed → Applied C → List ℕ → C → Type 0
    FeedCountsFront d₀ a₀ piece new = (closed : Bool) (tables : Tables) → holds a₀.store tables
        → IsCountedFront now (subscribed place (framing_of d₀ closed) a₀ tables) piece (place new) (count a₀.store) (count new)

    abbrev pub FeedsCounted : SubscriberValue C → List ℕ → SubscriberValue C → Type 0
    FeedsCounted old piece new =
        (tables : Tables) → holds old.applied.store tables
        → IsCountedWhole now (seen place old tables) piece (place new.applied.store) (count old.applied.store) (count new.applied.store)

    abbrev pub FeedsCountedFront : SubscriberValue C → List ℕ → SubscriberValue C → Type 0
    FeedsCountedFront old piece new =
        (tables : Tables) → holds old.applied.store tables
        → IsCountedFront now (seen place old tables) piece (place new.applied.store) (count old.applied.store) (count new.applied.store)

    -- one session's bytes were fed, from a disconnection on
    abbrev pub CountsSession : SubscriberValue C → List ℕ → SubscriberValue C → Type 0
    CountsSession old bytes new =
        (tables : Tables) → holds old.applied.store tables
        → IsCountedWhole now (disconnect (seen place old tables)) bytes (place new.applied.store) (count old.applied.store)
        (count new.applied.store)

    -- sessions' bytes were fed
    abbrev pub CountsSessions : SubscriberValue C → List (List ℕ) → SubscriberValue C → Type 0
    CountsSessions old sessions new =
        (tables : Tables) → holds old.applied.store tables
        → (tables' : Tables) × holds new.applied.store tables'
        × AreCountedWhole now (seen place old tables) sessions (seen place new tables') (count old.applied.store) (count new.applied.store)

    -- a front of one session's bytes was fed, from a disconnection on
    abbrev pub CountsSessionFront : SubscriberValue C → List ℕ → SubscriberValue C → Type 0
    CountsSessionFront old bytes new =
        (tables : Tables) → holds old.applied.store tables
        → IsCountedFront now (disconnect (seen place old tables)) bytes (place new.applied.store) (count old.applied.store)
        (count new.applied.store)

    -- or a front of sessions' bytes
    abbrev pub CountsSessionsFront : SubscriberValue C → List (List ℕ) → SubscriberValue C → Type 0
    CountsSessionsFront old sessions new =
        (tables : Tables) → holds old.applied.store tables
        → AreCountedFront now (seen place old tables) sessions (place new.applied.store) (count old.applied.store)
        (count new.applied.store)
