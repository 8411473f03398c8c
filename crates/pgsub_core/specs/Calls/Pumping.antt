-- PostgreSQL documentation, Streaming Replication Protocol: what is read of a session's bytes, and
-- fed to a subscriber.
use Rattle.std.specs.Prelude.{◌≡◌, ◌<◌, ◌≤◌, ◌+◌, ◌-◌, ◌^◌, ◌⊎◌, ℕ, ℤ, List, [], ◌∷◌, Option}
use Rattle.std.specs.Prelude.{length}
use Rattle.std.specs.List.{All, flat_map}
use Rattle.std.specs.Io.KnownBytes.{Consumes, IsAtEnd}
use Rattle.pgapply.specs.Tallies.{Tally}
use Rattle.pgapply.specs.Value.{Tables}
use Rattle.pgsub_core.specs.declared.fault.Fault.{Fault}
use Rattle.pgsub_core.specs.Subscriber.SubscriberValue.{SubscriberValue, Feeds, FeedsUntil}
use Rattle.pgsub_core.specs.Machine.Counted.{FeedsCounted, FeedsCountedFront}

-- the bytes that pieces hold, in order
abbrev pub bytes_in : List (List ℕ) → List ℕ
bytes_in pieces = flat_map (λ (piece : List ℕ). piece) pieces

-- Each read gave one of these pieces, in order: 1 to 4096 bytes. The reader lost these bytes and no
-- others.
pub record AreRead (unread rest : Option (List ℕ)) (pieces : List (List ℕ)) : Type 0 where
  pub each : All (λ (piece : List ℕ). (0 < length piece) × (length piece ≤ 4096)) pieces
  pub read : Consumes unread rest (bytes_in pieces)

-- nothing is unread, or 2^64 - 1 reads were made
abbrev pub IsReadOut : Option (List ℕ) → ℕ → Type 0
IsReadOut rest reads = IsAtEnd rest ⊎ (2 ^ 64 - 1 ≤ reads)

module _ {C : Type 0} (holds : C → Tables → Type 0) (place : C → ℕ) (now : ℤ) where
  -- All pieces were fed: their bytes, as one piece. Where there is none, nothing was done.
  abbrev pub FeedsPieces : SubscriberValue C → List (List ℕ) → SubscriberValue C → Type 0
  FeedsPieces old [] new = new ≡ old
  FeedsPieces old (piece ∷ pieces) new = Feeds holds place now old (bytes_in (piece ∷ pieces)) new

  -- So many more reads gave pieces, which were fed.
  pub record Pumps (unread rest : Option (List ℕ)) (reads reads' : ℕ) (old new : SubscriberValue C) : Type 0 where
    pub pieces : List (List ℕ)
    pub are_read : AreRead unread rest pieces
    pub counted : reads' ≡ reads + length pieces
    pub fed : FeedsPieces old pieces new

  -- Pieces were read, and feeding them stopped with this fault, which the last of them has.
  pub record PumpsUntil (unread rest : Option (List ℕ)) (old new : SubscriberValue C) (f : Fault) : Type 0 where
    pub pieces : List (List ℕ)
    pub are_read : AreRead unread rest pieces
    pub stops : FeedsUntil holds place now old (bytes_in pieces) new f

module _ {C : Type 0} (holds : C → Tables → Type 0) (place : C → ℕ) (count : C → Tally) (now : ℤ) where
  -- the changes that find no row were counted, of all pieces; where there is none, nothing was
  abbrev pub CountsPieces : SubscriberValue C → List (List ℕ) → SubscriberValue C → Type 0
  CountsPieces old [] new = count new.applied.store ≡ count old.applied.store
  CountsPieces old (piece ∷ pieces) new = FeedsCounted holds place count now old (bytes_in (piece ∷ pieces)) new

  -- So many more reads gave pieces, which were fed and counted.
  pub record PumpsCounted (unread rest : Option (List ℕ)) (reads reads' : ℕ) (old new : SubscriberValue C) : Type 0 where
    pub pieces : List (List ℕ)
    pub are_read : AreRead unread rest pieces
    pub counted : reads' ≡ reads + length pieces
    pub fed : FeedsPieces holds place now old pieces new
    pub counts : CountsPieces old pieces new

  -- Pieces were read, feeding them stopped with this fault, and a front of them was counted, with
  -- which the position is reached.
  pub record PumpsCountedUntil (unread rest : Option (List ℕ)) (old new : SubscriberValue C) (f : Fault) : Type 0 where
    pub pieces : List (List ℕ)
    pub are_read : AreRead unread rest pieces
    pub stops : FeedsUntil holds place now old (bytes_in pieces) new f
    pub counts : FeedsCountedFront holds place count now old (bytes_in pieces) new
