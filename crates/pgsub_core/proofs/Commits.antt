-- A commit over a store of which it is said what tables it holds.
use Rattle.std.proofs.Common.{◌≡◌, ◌<◌, ◌⊎◌, inl, inr, ℕ, List, true, false, Result, Ok, Err, max}
use Rattle.std.proofs.Common.{refl}
use Rattle.std.specs.Prelude.{nat_lt}
use Rattle.pglogical.specs.declared.message.Item.{Item}
use Rattle.pgapply.specs.declared.fault.StoreFault.{StoreFault}
use Rattle.pgapply.specs.declared.fault.StoreFault.TheVariants as store
use Rattle.pgapply.specs.Value.{Tables}
use Rattle.pgapply.specs.Apply.{Change, fold_changes}
use Rattle.pgapply.specs.Stored.{IsFault}
use Rattle.pgapply.specs.Taken as held
use Rattle.pgsub_core.specs.declared.fault.Fault.{Fault}
use Rattle.pgsub_core.specs.declared.fault.Fault.TheVariants as fault
use Rattle.pgsub_core.specs.Server.Described.{described_from}
use Rattle.pgsub_core.specs.Calls.Drafts.{known_to, LacksDefinition}
use Rattle.pgsub_core.specs.Machine.Replica.{Replica, RelationCache, UnknownRelation, StoreRefuses}
use Rattle.pgsub_core.specs.Machine.Replica.{Running, Stopped, GoesOrStops, IsOfStore, stored}
use Rattle.pgsub_core.specs.Machine.Replica.{all_cached, on_commit}
use Rattle.pgsub_core.specs.Subscriber.Causes.{cause}
use Rattle.pgsub_core.specs.Machine.Faults.{fault_of_store}
use Rattle.pgsub_core.specs.Calls.Committing.{replica_with, StopsAtCommit, Commits, RefusesCommit}

module _ (tables : Tables) (position confirmed end : ℕ) (relations : RelationCache) (items : List Item) where
  abbrev was : Replica
  was = replica_with tables position confirmed relations

  repeats : nat_lt position end ≡ false → (relations' : RelationCache) → relations' ≡ all_cached relations items
      → on_commit was end items ≡ Running (replica_with tables position confirmed relations')
  repeats not_below relations' cached = rw (not_below, cached) refl

  module _ (below : nat_lt position end ≡ true) where
    takes : (changes : List Change) (next : Tables) (relations' : RelationCache) (position' confirmed' : ℕ)
        → described_from (known_to relations) items ≡ Ok changes → fold_changes tables changes ≡ Ok next
        → relations' ≡ all_cached relations items → position' ≡ end → confirmed' ≡ max confirmed end
        → on_commit was end items ≡ Running (replica_with next position' confirmed' relations')
    takes changes next relations' position' confirmed' described folds cached at raised =
        rw (below, described, folds, cached, at, raised) refl

    refused_by : (changes : List Change) (k : StoreFault) → described_from (known_to relations) items ≡ Ok changes
        → fold_changes tables changes ≡ Err k → on_commit was end items ≡ Stopped was (StoreRefuses end k)
    refused_by changes k described folds = rw (below, described, folds) refl

    stored_reaches : (relations' : RelationCache) (r : Result Tables StoreFault) → GoesOrStops IsOfStore (stored was end relations' r)
    stored_reaches relations' (Ok next) = tt
    stored_reaches relations' (Err k) = tt

    reaches_store : (changes : List Change) → described_from (known_to relations) items ≡ Ok changes
        → GoesOrStops IsOfStore (on_commit was end items)
    reaches_store changes described = rw (below, described) (stored_reaches (all_cached relations items) (fold_changes tables changes))

    pub refuses_changes : position < end → (changes : List Change) (k : StoreFault) → described_from (known_to relations) items ≡ Ok changes
        → IsFault k (fold_changes tables changes)
        → StopsAtCommit was end items (fault_of_store k) (cause (fault_of_store k))
    refuses_changes less changes store.Clash described is =
        (StoreRefuses end store.Clash, refused_by changes store.Clash described is, refl)
    refuses_changes less changes store.NoIdentity described is =
        (StoreRefuses end store.NoIdentity, refused_by changes store.NoIdentity described is, refl)
    refuses_changes less changes store.UnknownIdentity described is =
        (StoreRefuses end store.UnknownIdentity, refused_by changes store.UnknownIdentity described is, refl)
    refuses_changes less changes store.UnchangedInInsert described is =
        (StoreRefuses end store.UnchangedInInsert, refused_by changes store.UnchangedInInsert described is, refl)
    refuses_changes less changes store.Width described is =
        (StoreRefuses end store.Width, refused_by changes store.Width described is, refl)
    refuses_changes less changes store.TooManyCopies described is =
        (StoreRefuses end store.TooManyCopies, refused_by changes store.TooManyCopies described is, refl)
    refuses_changes less changes store.Refused described is = (less, reaches_store changes described)
    refuses_changes less changes store.NotAStore described is =
        (StoreRefuses end store.NotAStore, refused_by changes store.NotAStore described is, refl)
    refuses_changes less changes store.Memory described is = tt

    lacking : (oid : ℕ) → described_from (known_to relations) items ≡ Err oid → on_commit was end items ≡ Stopped was (UnknownRelation oid)
    lacking oid described = rw (below, described) refl

    pub refuses_items : (f : Fault) → (f ≡ fault.Memory) ⊎ LacksDefinition (described_from (known_to relations) items) f
        → StopsAtCommit was end items f (cause f)
    refuses_items f (inl memory) = rw memory tt
    refuses_items f (inr lacks) = rw lacks.1 (UnknownRelation lacks.0, lacking lacks.0 lacks.2, refl)

module _ {C : Type 0} (holds : C → Tables → Type 0) (place : C → ℕ) (end : ℕ) (items : List Item) (old new : C) (confirmed : ℕ)
    (relations relations' : RelationCache) where
  pub commits_again : nat_lt (place old) end ≡ false → relations' ≡ all_cached relations items
      → Commits holds place end items old confirmed relations old confirmed relations'
  commits_again not_below cached tables h =
      (tables, h, repeats tables (place old) confirmed end relations items not_below relations' cached)

  pub commits_changes : nat_lt (place old) end ≡ true → (confirmed' : ℕ) (changes : List Change)
      → described_from (known_to relations) items ≡ Ok changes → relations' ≡ all_cached relations items
      → held.Folds holds old new changes → place new ≡ end → confirmed' ≡ max confirmed end
      → Commits holds place end items old confirmed relations new confirmed' relations'
  commits_changes below confirmed' changes described cached folds at raised tables h =
      let f = folds tables h in (
        f.0,
        f.2,
        takes tables (place old) confirmed end relations items below changes f.0 relations' (place new) confirmed' described f.1
            cached at raised,
      )

  pub refuses_work : nat_lt (place old) end ≡ true → place old < end → (changes : List Change) (k : StoreFault)
      → described_from (known_to relations) items ≡ Ok changes → held.Stays holds old new
      → held.RefusesWork holds old changes k → RefusesCommit holds place end items old confirmed relations new (fault_of_store k)
  refuses_work below less changes k described stays refuses =
      record {
        stays = stays;
        why = λ tables h.
            refuses_changes tables (place old) confirmed end relations items below less changes k described (refuses tables h);
      }

  pub refuses_undescribed : nat_lt (place old) end ≡ true → (f : Fault)
      → (f ≡ fault.Memory) ⊎ LacksDefinition (described_from (known_to relations) items) f
      → RefusesCommit holds place end items old confirmed relations old f
  refuses_undescribed below f why =
      record { stays = λ tables h. h; why = λ tables h. refuses_items tables (place old) confirmed end relations items below f why }
