-- What a call does with a subscriber over any store, and with the room for what it passes.
use Rattle.std.specs.Prelude.{◌≡◌, ◌≢◌, ℕ, ℤ, List, true}
use Rattle.pgapply.specs.Taken.{Stays}
use Rattle.pgapply.specs.Value.{Tables}
use Rattle.pgsub_core.specs.Subscriber.Subscribed.{disconnect}
use Rattle.pgsub_core.specs.Subscriber.SubscriberValue.{SubscriberValue, seen}
use Rattle.pgembed.specs.declared.calls.Call.{Call}
use Rattle.pgembed.specs.declared.calls.Call.TheVariants.{Feed, Status, Replies, Rows, Disconnect}
use Rattle.pgembed.specs.Dumped.{PassesRows}
use Rattle.pgembed.specs.Fed.{AsksOrStays, DropsReplies, PassesFed}
use Rattle.pgembed.specs.Passed.{IsPassed}

module _ {C : Type 0} (serves is_honest : C → Type 0) (holds : C → Tables → Type 0) (place : C → ℕ) where
  pub record DoesFeed (clock : ℤ) (old : SubscriberValue C) (piece : List ℕ) (new : SubscriberValue C) (old_text new_text : List ℕ)
      (told result : ℕ) : Type 0 where
    pub fed : serves new.applied.store → PassesFed holds place clock old piece new old_text new_text told result
    pub closed : old.framing.closed ≡ true → (result ≡ 8) × (new ≡ old)
    pub closes : result ≢ 0 → new.framing.closed ≡ true
    pub still_serves : is_honest new.applied.store → serves old.applied.store → result ≡ 0 → serves new.applied.store

  pub record DoesReply (old new : SubscriberValue C) (old_room new_room : List ℕ) (told result : ℕ) : Type 0 where
    pub passed : IsPassed old.applied.replies old_room new_room told result
    pub taken : result ≡ 0 → DropsReplies place old new
    pub kept : result ≢ 0 → new ≡ old

  pub record DoesShow (old new : SubscriberValue C) (old_room new_room : List ℕ) (told result : ℕ) : Type 0 where
    pub shown : serves new.applied.store → PassesRows holds old old_room new_room told result
    pub stays : serves new.applied.store → Stays holds old.applied.store new.applied.store
    pub same : (tables : Tables) → seen place new tables ≡ seen place old tables
    pub still_serves : is_honest new.applied.store → result ≡ 0 → serves new.applied.store

  abbrev pub Does : Call → SubscriberValue C → SubscriberValue C → List ℕ → List ℕ → ℕ → ℕ → Type 0
  Does (Feed alloc piece clock) old new old_room new_room told result = DoesFeed clock old piece.now new old_room new_room told result
  Does (Status clock ask) old new old_room new_room told result =
      (new.applied.store ≡ old.applied.store) × AsksOrStays place clock ask old new result
  Does Replies old new old_room new_room told result = DoesReply old new old_room new_room told result
  Does (Rows alloc) old new old_room new_room told result = DoesShow old new old_room new_room told result
  Does Disconnect old new old_room new_room told result =
      (new.applied.store ≡ old.applied.store)
      × ((tables : Tables) → seen place new tables ≡ disconnect (seen place old tables))
      × (result ≡ 0)
