-- A subscriber, and what a caller that isn't Rust gets of its calls.
use Rattle.std.specs.Prelude.{◌≡◌, ◌⊎◌, ℕ, ℤ, List, [], Bool}
use Rattle.pgapply.specs.Value.{Tables}
use Rattle.pgsub_core.specs.declared.fault.Fault.{Fault}
use Rattle.pgsub_core.specs.declared.fault.Fault.TheVariants.{Wire, Decode, Order, Relation}
use Rattle.pgsub_core.specs.declared.fault.Fault.TheVariants.{Spool, Store, Read, Closed, Memory}
use Rattle.pgsub_core.specs.Subscriber.Subscribed.{with_status}
use Rattle.pgsub_core.specs.Subscriber.SubscriberValue.{SubscriberValue, seen, Feeds, FeedsUntil}
use Rattle.pgstore.specs.StoreValue.{StoreValue}
use Rattle.pgembed.specs.Passed.{PassesNothing, PassesText}

abbrev pub position_of : {S : Type 0} → StoreValue S → ℕ
position_of store = store.position

-- the number of a fault
abbrev pub stream_number_of : Fault → ℕ
stream_number_of (Wire fault) = 1
stream_number_of (Decode fault) = 2
stream_number_of (Order fault) = 3
stream_number_of (Relation fault) = 4
stream_number_of (Spool fault) = 5
stream_number_of (Store fault) = 6
stream_number_of Read = 7
stream_number_of Closed = 8
stream_number_of Memory = 9

-- It was fed the piece, and 0 is returned; or up to its first fault, whose number is returned and
-- whose text is passed.
abbrev pub PassesFed : {C : Type 0} → (C → Tables → Type 0) → (C → ℕ) → ℤ → SubscriberValue C → List ℕ → SubscriberValue C
    → List ℕ → List ℕ → ℕ → ℕ → Type 0
PassesFed holds place now old piece new old_text new_text told result =
    (Feeds holds place now old piece new × (result ≡ 0) × PassesNothing old_text new_text told)
    ⊎ ((fault : Fault) × FeedsUntil holds place now old piece new fault × (result ≡ stream_number_of fault)
    × PassesText old_text new_text told)

-- a status was appended to the replies and 0 is returned, or nothing was for want of memory
abbrev pub AsksOrStays : {C : Type 0} → (C → ℕ) → ℤ → Bool → SubscriberValue C → SubscriberValue C → ℕ → Type 0
AsksOrStays place now ask old new result =
    ((result ≡ 0) × ((tables : Tables) → seen place new tables ≡ with_status now ask (seen place old tables)))
    ⊎ ((result ≡ 9) × (new ≡ old))

-- all is as it was, but no replies wait
abbrev pub DropsReplies : {C : Type 0} → (C → ℕ) → SubscriberValue C → SubscriberValue C → Type 0
DropsReplies place old new =
    (new.applied.store ≡ old.applied.store)
    × ((tables : Tables) → seen place new tables ≡ record (seen place old tables) { replies = [] })
