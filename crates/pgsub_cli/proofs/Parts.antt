-- A store with its ledger is its parts.
use Rattle.std.proofs.Common.{◌≡◌, ℕ, ap, subst}
use Rattle.pgledger.specs.declared.recorded.Recorded.{Recorded}

abbrev pub with_ledger : {S G : Type 0} → S → G → ℕ → Recorded S G
with_ledger store ledger from = record { store = store; ledger = ledger; from = from }

pub of_parts : {S G : Type 0} (r : Recorded S G) (store : S) (ledger : G) (from : ℕ) → r.store ≡ store → r.ledger ≡ ledger
    → r.from ≡ from → r ≡ with_ledger store ledger from
of_parts r store ledger from e f h = λ i. record { store = e i; ledger = f i; from = h i }

pub along : {A : Type 0} (P : A → A → Type 0) (old new : A) {other next : A} → old ≡ other → new ≡ next → P old new → P other next
along {A} P old new {other} {next} e f p = subst (λ (a : A). P a next) e (subst (λ (a : A). P old a) f p)

-- the parts of one that is made of these
module _ {S G : Type 0} (r : Recorded S G) (store : S) (ledger : G) (from : ℕ) where
  pub store_of : r ≡ with_ledger store ledger from → r.store ≡ store
  store_of e = ap (λ (it : Recorded S G). it.store) e

  pub ledger_of : r ≡ with_ledger store ledger from → r.ledger ≡ ledger
  ledger_of e = ap (λ (it : Recorded S G). it.ledger) e

  pub from_of : r ≡ with_ledger store ledger from → r.from ≡ from
  from_of e = ap (λ (it : Recorded S G). it.from) e
