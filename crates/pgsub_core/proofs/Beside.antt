-- A commit whose items were loaded beside the store: whatever leads from there to a new state leads
-- there from the state before.
use Rattle.std.proofs.Common.{◌≡◌, ◌⊎◌, inl, inr, ℕ, List, Option, Result, ap, sym, subst, ◌∙◌}
use Rattle.pglogical.specs.declared.message.Item.{Item}
use Rattle.pgapply.specs.declared.commit.About.{About}
use Rattle.pgapply.specs.Tallies.{Tally}
use Rattle.pgapply.specs.Value.{Tables}
use Rattle.pgapply.specs.Apply.{Change}
use Rattle.pgapply.specs.Taken.{Stays}
use Rattle.pgsub_core.specs.declared.fault.Fault.{Fault}
use Rattle.pgsub_core.specs.declared.fault.Fault.TheVariants as fault
use Rattle.pgsub_core.specs.Calls.Committing.{replica_with, StopsAtCommit, Commits, RefusesCommit}
use Rattle.pgsub_core.specs.Calls.Drafts.{LacksDefinition}
use Rattle.pgsub_core.specs.Machine.Counted.{CountsCommit, commit_counted}
use Rattle.pgsub_core.specs.Machine.Faults.{IsOfFeeding, IsOfSpools}
use Rattle.pgsub_core.specs.Machine.Replica.{RelationCache, on_commit}
use Rattle.pgsub_core.specs.Subscriber.Causes.{cause}
use Rattle.pgsub_core.proofs.Spooling as spooling

module _ {C : Type 0} (holds : C → Tables → Type 0) (place : C → ℕ) (old loaded new : C) (held : Stays holds old loaded)
    (same : place loaded ≡ place old) (end : ℕ) (items : List Item) (confirmed : ℕ) (relations : RelationCache) where
  pub commits_beside : (confirmed' : ℕ) (relations' : RelationCache)
      → Commits holds place end items loaded confirmed relations new confirmed' relations'
      → Commits holds place end items old confirmed relations new confirmed' relations'
  commits_beside confirmed' relations' commits tables h =
      let done = commits tables (held tables h) in (
        done.0,
        done.1,
        ap (λ p. on_commit (replica_with tables p confirmed relations) end items) (sym same) ∙ done.2,
      )

  pub refuses_beside : (f : Fault) → RefusesCommit holds place end items loaded confirmed relations new f
      → RefusesCommit holds place end items old confirmed relations new f
  refuses_beside f refuses = record {
    stays = λ tables h. refuses.stays tables (held tables h);
    why = λ tables h. subst (λ p. StopsAtCommit (replica_with tables p confirmed relations) end items f (cause f)) same
        (refuses.why tables (held tables h));
  }

  pub counts_beside : (about : Option About) (count : C → Tally) → count loaded ≡ count old
      → CountsCommit holds place count end about items loaded confirmed relations new
      → CountsCommit holds place count end about items old confirmed relations new
  counts_beside about count counted counts tables h =
      subst (λ p. count new ≡ commit_counted (replica_with tables p confirmed relations) end about items (count old)) same
      (subst (λ m. count new ≡ commit_counted (replica_with tables (place loaded) confirmed relations) end about items m) counted
      (counts tables (held tables h)))

  -- where they can't be loaded
  pub refuses_load : (may_fail : Type 0) (f : Fault) → IsOfSpools may_fail f
      → RefusesCommit holds place end items old confirmed relations loaded f
  refuses_load may_fail f fails = record {
    stays = held;
    why = λ tables h. spooling.stops_commit may_fail (replica_with tables (place old) confirmed relations) end items f fails;
  }

module _ {C : Type 0} (holds : C → Tables → Type 0) (place : C → ℕ) (old new : C) (end : ℕ) (items : List Item) (confirmed : ℕ)
    (relations : RelationCache) where
  -- what was refused is refused, whatever became of the store
  pub refuses_here : (f : Fault) → RefusesCommit holds place end items old confirmed relations new f
      → RefusesCommit holds place end items old confirmed relations old f
  refuses_here f refuses = record { stays = λ tables h. h; why = refuses.why }

-- with which fault the items of a commit can't be described
pub of_described : (described : Result (List Change) ℕ) (f : Fault) → (f ≡ fault.Memory) ⊎ LacksDefinition described f → IsOfFeeding f
of_described described f (inl memory) = rw memory tt
of_described described f (inr lacks) = rw lacks.1 tt
