-- What a reader that watches has left, with each read.
use Rattle.std.proofs.Common.{◌≡◌, ◌≤◌, ◌∙◌, ◌-◌, ℕ, List, [], ◌++◌, Bool, Option, None, Some}
use Rattle.std.proofs.Common.{Result, refl, sym, ap, subst, arith, take, drop, length, append-nil}
use Rattle.std.proofs.lemmas.List.{take_at}
use Rattle.std.specs.Io.KnownBytes.{Keeps, ReadConsumes, prepend_known}
use Rattle.pgorder.specs.declared.Version.{Version}
use Rattle.pgrules.specs.declared.findings.Findings.{Findings}
use Rattle.pgrules.specs.declared.live.LiveWatch.{LiveWatch}
use Rattle.pgrules.specs.Guarding.{IsGuarded}
use Rattle.pgrules.proofs.Guards.{behind_part, handed}

-- ---- what is kept back

-- the front of what was written
pub kept_front : (n m : ℕ) (room rest part : List ℕ) → take n room ≡ part → length room ≡ m → take n (take m (room ++ rest)) ≡ part
kept_front n m room rest part is len = ap (λ (xs : List ℕ). take n xs) (take_at room rest m len) ∙ is

module _ {L : Type 0} (hears : L → Findings → L → Type 0) (v : Version) (limit max : ℕ) (first : L) (stops : Bool) (given : List ℕ)
    (now : LiveWatch) (l : L) (buf kept : List ℕ) (safe len : ℕ) (le : safe ≤ len) (is : kept ≡ take (len - safe) (drop safe buf))
    (g : IsGuarded hears v limit max first stops given (take safe buf) (drop safe (take len buf)) now l) where
  kept_back : IsGuarded hears v limit max first stops given (take safe buf) kept now l
  kept_back =
      subst (λ (xs : List ℕ). IsGuarded hears v limit max first stops given (take safe buf) xs now l)
      (sym (is ∙ behind_part safe len buf le)) g

  -- the bytes before are handed on
  pub some_handed : IsGuarded hears v limit max first stops (given ++ take safe buf) [] kept now l
  some_handed =
      handed hears v limit max first stops given (take safe buf) [] kept now l
      (subst (λ (xs : List ℕ). IsGuarded hears v limit max first stops given xs kept now l) (sym (append-nil (take safe buf))) kept_back)

  -- none are
  pub none_handed : safe ≡ 0 → IsGuarded hears v limit max first stops given [] kept now l
  none_handed none = subst (λ k. IsGuarded hears v limit max first stops given (take k buf) kept now l) none kept_back

-- ---- nothing is kept back

pub none_kept : (n : ℕ) (room : List ℕ) → n ≤ 0 → take n room ≡ []
none_kept n room le = let none : n ≡ 0 = omega (arith, le) in ap (λ k. take k room) none

prepend_none : (known : Option (List ℕ)) → prepend_known [] known ≡ known
prepend_none None = refl
prepend_none (Some xs) = refl

same_known : (n : ℕ) (room : List ℕ) (known : Option (List ℕ)) → n ≤ 0 → prepend_known (take n room) known ≡ known
same_known n room known le = ap (λ (xs : List ℕ). prepend_known xs known) (none_kept n room le) ∙ prepend_none known

pub keeps_none : (n : ℕ) (room : List ℕ) (old new : Option (List ℕ)) → n ≤ 0 → Keeps old new → Keeps old (prepend_known (take n room) new)
keeps_none n room old new le h = subst (Keeps old) (sym (same_known n room new le)) h

module _ {E : Type 0} (n : ℕ) (room : List ℕ) (old new : Option (List ℕ)) (r : Result ℕ E) (buf : List ℕ) (le : n ≤ 0)
    (h : ReadConsumes old new r buf) where
  pub reads_from : ReadConsumes (prepend_known (take n room) old) new r buf
  reads_from = subst (λ (x : Option (List ℕ)). ReadConsumes x new r buf) (sym (same_known n room old le)) h

  pub reads_between : ReadConsumes (prepend_known (take n room) old) (prepend_known (take n room) new) r buf
  reads_between =
      subst (λ (x : Option (List ℕ)). ReadConsumes (prepend_known (take n room) old) x r buf) (sym (same_known n room new le)) reads_from
