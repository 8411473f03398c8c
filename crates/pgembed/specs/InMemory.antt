-- A subscriber whose rows are on disks in memory, and what its calls do.
use Rattle.std.specs.Prelude.{◌≡◌, ◌≢◌, ℕ, ℤ, List, Bool, true}
use denote.RattleType.{RattleType}
use Rattle.sqlite.specs.Files.{over_files}
use Rattle.pgorder.specs.declared.Version.{Version}
use Rattle.pgapply.specs.Taken.{Stays}
use Rattle.pgapply.specs.Value.{Tables}
use Rattle.pgstore.specs.StoreValue.{HasTables, Holds, IsHonest, Serves}
use Rattle.pgencoded.specs.DatabaseValue.{nothing_stored}
use Rattle.pgsub_core.specs.Subscriber.Subscribed.{Subscribed, disconnect, newly}
use Rattle.pgsub_core.specs.Subscriber.SubscriberValue.{seen}
use Rattle.pgembed.specs.contracts.embedded.InMemory as in_memory
use Rattle.pgembed.specs.Dumped.{PassesRows}
use Rattle.pgembed.specs.Fed.{AsksOrStays, DropsReplies, PassesFed, position_of}
use Rattle.pgembed.specs.Passed.{IsPassed}

abbrev pub in_memory_row : RattleType
in_memory_row = in_memory.the_row

abbrev pub InMemory : Type 0
InMemory = in_memory_row.Denot

abbrev pub place_of : InMemory → ℕ
place_of held = position_of held.subscriber.applied.store

-- with these tables in its store
abbrev pub seen_of : InMemory → Tables → Subscribed
seen_of held tables = seen position_of held.subscriber tables

-- no rows, as after a disconnection
abbrev pub IsNew : Version → InMemory → Type 0
IsNew version held =
    Serves over_files held.subscriber.applied.store
    × Holds over_files held.subscriber.applied.store nothing_stored
    × ((tables : Tables) → seen_of held tables ≡ newly tables (place_of held) version 16777216 67108864)

-- While the store serves, it was fed this. A fault closes it; a closed one takes nothing, and stays
-- as it was. After 0 the store serves if it did, as long as the disk has returned what was written.
pub record HasFed (clock : ℤ) (old : InMemory) (piece : List ℕ) (new : InMemory) (old_text new_text : List ℕ)
    (told result : ℕ) : Type 0 where
  pub fed : Serves over_files new.subscriber.applied.store
      → PassesFed (HasTables over_files) position_of clock old.subscriber piece new.subscriber old_text new_text told result
  pub closed : old.subscriber.framing.closed ≡ true → (result ≡ 8) × (new ≡ old)
  pub closes : result ≢ 0 → new.subscriber.framing.closed ≡ true
  pub serves : IsHonest over_files new.subscriber.applied.store → Serves over_files old.subscriber.applied.store → result ≡ 0
      → Serves over_files new.subscriber.applied.store

-- a status was appended, or memory was short
abbrev pub HasAsked : ℤ → Bool → InMemory → InMemory → ℕ → Type 0
HasAsked clock ask old new result =
    (new.subscriber.applied.store ≡ old.subscriber.applied.store)
    × AsksOrStays position_of clock ask old.subscriber new.subscriber result

-- the replies were passed and dropped, or there was no room and they go on waiting
pub record HasReplied (old new : InMemory) (old_room new_room : List ℕ) (told result : ℕ) : Type 0 where
  pub passed : IsPassed old.subscriber.applied.replies old_room new_room told result
  pub taken : result ≡ 0 → DropsReplies position_of old.subscriber new.subscriber
  pub kept : result ≢ 0 → new ≡ old

-- While the store serves, its rows were passed, or why not, and they stay. Nothing else changes.
-- After 0 the store serves, as long as the disk has returned what was written.
pub record HasShown (old new : InMemory) (old_room new_room : List ℕ) (told result : ℕ) : Type 0 where
  pub shown : Serves over_files new.subscriber.applied.store
      → PassesRows (HasTables over_files) old.subscriber old_room new_room told result
  pub stays : Serves over_files new.subscriber.applied.store
      → Stays (HasTables over_files) old.subscriber.applied.store new.subscriber.applied.store
  pub same : (tables : Tables) → seen_of new tables ≡ seen_of old tables
  pub serves : IsHonest over_files new.subscriber.applied.store → result ≡ 0 → Serves over_files new.subscriber.applied.store

abbrev pub HasDisconnected : InMemory → InMemory → Type 0
HasDisconnected old new =
    (new.subscriber.applied.store ≡ old.subscriber.applied.store)
    × ((tables : Tables) → seen_of new tables ≡ disconnect (seen_of old tables))
