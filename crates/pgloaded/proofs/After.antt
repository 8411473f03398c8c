-- What is said of a store behind a load.
use Rattle.std.proofs.Common.{◌≡◌, ◌≢◌, ◌⊎◌, inl, inr, ℕ, zero, suc, List, Option, None, Some}
use Rattle.std.proofs.Common.{IfSome, Result, Err, refl, sym, ap, subst}
use Rattle.std.specs.FinMap as map
use Rattle.pgapply.specs.Value.{Tables}
use Rattle.pgload.specs.declared.fault.InputFault.{InputFault}
use Rattle.pgfollow.specs.declared.link.Link.{Link}
use Rattle.pgloaded.specs.declared.load_plan.LoadPlan.{LoadPlan}
use Rattle.pgloaded.specs.Loaded.{AfterLoad, IsLoaded, KeepsLink, KeepsReader}

pub is_zero : (n : ℕ) → (n ≡ 0) ⊎ (n ≢ 0)
is_zero zero = inl refl
is_zero (suc n) = inr (λ is. let no : ⊥ = cc in no)

pub same_fault : {A : Type 0} (f h : InputFault) → ◌≡◌ {A = Result A InputFault} (Err f) (Err h) → f ≡ h
same_fault f h same = cc

pub if_some_as : {A : Type 0} (o : Option A) (P Q : A → Type 0) → IfSome o P → ((a : A) → P a → Q a) → IfSome o Q
if_some_as None P Q h f = tt
if_some_as (Some a) P Q h f = f a h

module _ {C : Type 0} (holds : C → Tables → Type 0) (place : C → ℕ) (reopens : C → C → Type 0) (serves is_honest : C → Type 0) where
  loaded_serves : (plan : LoadPlan) (unread rest : Option (List ℕ)) (store loaded : C)
      → IsLoaded holds place reopens serves is_honest plan unread rest store loaded → serves store → holds store map.empty
      → is_honest loaded → serves loaded
  loaded_serves plan unread rest store loaded is own none honest = (is.read own none).1.ended.at_end.served honest

  pub followed_after : (plan : Option LoadPlan) (unread begins : Option (List ℕ)) (store mid : C) (Honest : Type 0)
      (Follows : Option (List ℕ) → C → Type 0)
      → AfterLoad holds place reopens serves is_honest plan unread store (λ rest loaded. (rest ≡ begins) × (loaded ≡ mid))
      → (Honest → is_honest mid) → (Honest → serves store) → ((Honest → serves mid) → Follows begins mid)
      → AfterLoad holds place reopens serves is_honest plan unread store Follows
  followed_after None unread begins store mid Honest Follows after honest own follows =
      let at = follows (λ it. subst serves after.1 (own it)) in
      subst (λ s. Follows unread s) (sym after.1) (subst (λ rest. Follows rest mid) (sym after.0) at)
  followed_after (Some plan) unread begins store mid Honest Follows after honest own follows = (
    after.0,
    after.1,
    after.2,
    λ none.
        let same = after.3 none in
        let at = follows (λ it. subst serves same.1 (loaded_serves plan unread after.0 store after.1 after.2 (own it) none
        (subst is_honest (sym same.1) (honest it)))) in
        subst (λ s. Follows after.0 s) (sym same.1) (subst (λ rest. Follows rest mid) (sym same.0) at),
  )

  pub after_as : (plan : Option LoadPlan) (unread : Option (List ℕ)) (store : C) (P Q : Option (List ℕ) → C → Type 0)
      → AfterLoad holds place reopens serves is_honest plan unread store P
      → ((rest : Option (List ℕ)) (loaded : C) → P rest loaded → Q rest loaded)
      → AfterLoad holds place reopens serves is_honest plan unread store Q
  after_as None unread store P Q after f = f unread store after
  after_as (Some plan) unread store P Q after f = (after.0, after.1, after.2, λ none. f after.0 after.1 (after.3 none))

-- a reader was read of a link
pub keeps_link : {R W : Type 0} (plan : Option LoadPlan) (old : Link R W) (reader : R) → KeepsReader plan old.reader reader
    → KeepsLink plan old (record old { reader = reader })
keeps_link None old reader same = ap (λ r. record old { reader = r }) same
keeps_link (Some plan) old reader any = refl
