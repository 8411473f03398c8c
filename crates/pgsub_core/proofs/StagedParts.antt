-- A commit that is staged part after part.
use Rattle.std.proofs.Common.{◌≡◌, ◌<◌, ◌⊎◌, inl, inr, ℕ, List, true, Option, Some, None, Result}
use Rattle.std.proofs.Common.{Ok, Err, IfOk, IfErr, refl, ap, sym, subst, ◌∙◌}
use Rattle.std.specs.Prelude.{IfSome, nat_lt}
use Rattle.pglogical.specs.declared.message.Item.{Item}
use Rattle.pgspool.specs.declared.fault.SpoolFault.{SpoolFault}
use Rattle.pgspool.specs.Failures.{IsFailure}
use Rattle.pgapply.specs.declared.fault.StoreFault.{StoreFault}
use Rattle.pgapply.specs.Value.{Tables}
use Rattle.pgapply.specs.Apply.{Change}
use Rattle.pgapply.specs.Taken.{Stays, RefusesWork}
use Rattle.pgsub_core.specs.declared.fault.Fault.{Fault}
use Rattle.pgsub_core.specs.Server.Described.{described_from}
use Rattle.pgsub_core.specs.Machine.Faults.{IsOfSpools}
use Rattle.pgsub_core.specs.Machine.Replica.{RelationCache, Running}
use Rattle.pgsub_core.specs.Calls.Committing.{replica_with, Commits, RefusesCommit}
use Rattle.pgsub_core.specs.Calls.Drafts.{known_to, LacksDefinition}
use Rattle.pgsub_core.specs.Calls.Parting.{staging_told, StopsStaging}
use Rattle.pgsub_core.proofs.Commits.{refuses_work, refuses_undescribed}
use Rattle.pgsub_core.proofs.Spooling.{of_failure, stops_commit}

pub told_stops : (may_fail : Type 0) (refuses : StoreFault → Type 0) (staged : Result (Unit {0}) StoreFault) (of_spools : Option SpoolFault)
    (result : Result (Unit {0}) Fault) → result ≡ staging_told staged of_spools
    → IfSome of_spools (IsFailure may_fail) → IfErr staged refuses → IfErr result (StopsStaging may_fail refuses)
told_stops may_fail refuses (Ok done) of_spools result is fails why = rw is tt
told_stops may_fail refuses (Err k) None result is fails why = rw is (inr (k, refl, why))
told_stops may_fail refuses (Err k) (Some of_spools) result is fails why = rw is (inl (of_failure may_fail of_spools fails))

module _ {C : Type 0} (holds : C → Tables → Type 0) (place : C → ℕ) (end : ℕ) (items : List Item) (old new : C) (confirmed : ℕ)
    (relations : RelationCache) (may_fail : Type 0) where
  -- the spools failed, or a change has no definition
  pub refuses_check : nat_lt (place old) end ≡ true → (f : Fault)
      → IsOfSpools may_fail f ⊎ LacksDefinition (described_from (known_to relations) items) f
      → RefusesCommit holds place end items old confirmed relations old f
  refuses_check below f (inl of_spools) = record {
    stays = λ tables h. h;
    why = λ tables h. stops_commit may_fail (replica_with tables (place old) confirmed relations) end items f of_spools;
  }
  refuses_check below f (inr lacks) = refuses_undescribed holds place end items old old confirmed relations relations below f (inr lacks)

  -- what stopped the staging refuses the commit
  pub refuses_staging : nat_lt (place old) end ≡ true → place old < end → (changes : List Change) (f : Fault)
      → described_from (known_to relations) items ≡ Ok changes → Stays holds old new
      → StopsStaging may_fail (RefusesWork holds old changes) f → RefusesCommit holds place end items old confirmed relations new f
  refuses_staging below less changes f described stays (inl of_spools) = record {
    stays = stays;
    why = λ tables h. stops_commit may_fail (replica_with tables (place old) confirmed relations) end items f of_spools;
  }
  refuses_staging below less changes f described stays (inr of_store) =
      subst (RefusesCommit holds place end items old confirmed relations new) (sym of_store.1)
      (refuses_work holds place end items old new confirmed relations relations below less changes of_store.0 described stays of_store.2)

-- the store that took a commit holds what it held, where it only learns of the spools
pub commits_noted : {C : Type 0} (holds : C → Tables → Type 0) (place : C → ℕ) (end : ℕ) (items : List Item) (old taken new : C)
    (confirmed : ℕ) (relations relations' : RelationCache) → Stays holds taken new → place new ≡ place taken → (r : Result ℕ Fault)
    → IfOk r (λ confirmed'. Commits holds place end items old confirmed relations taken confirmed' relations')
    → IfOk r (λ confirmed'. Commits holds place end items old confirmed relations new confirmed' relations')
commits_noted holds place end items old taken new confirmed relations relations' stays same (Ok confirmed') commits = λ tables h.
    let done = commits tables h in (
      done.0,
      stays done.0 done.1,
      done.2 ∙ ap (λ p. Running (replica_with done.0 p confirmed' relations')) (sym same),
    )
commits_noted holds place end items old taken new confirmed relations relations' stays same (Err f) commits = tt

pub if_ok : {T E : Type 0} (r : Result T E) (P Q : T → Type 0) → IfOk r P → ((t : T) → P t → Q t) → IfOk r Q
if_ok (Ok t) P Q h go = go t h
if_ok (Err e) P Q h go = tt
