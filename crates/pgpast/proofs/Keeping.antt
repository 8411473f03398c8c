-- What a reader that compares keeps, with each read.
use Rattle.std.proofs.Common.{◌≡◌, ◌≤◌, ◌-◌, ◌∙◌, ℕ, List, [], ◌∷◌, ◌++◌, Bool, true, false}
use Rattle.std.proofs.Common.{Option, None, Some, is_some, true≢false}
use Rattle.std.proofs.Common.{zero, suc, refl, ap}
use Rattle.std.proofs.Common.{sym, subst, arith, length, take, drop}
use Rattle.std.specs.Prelude.{◌==◌}
use Rattle.std.proofs.lemmas.Bool.Decides.{nat_tests}
use Rattle.std.proofs.lemmas.List.{take-take}
use Rattle.pgorder.specs.declared.Version.{Version}
use Rattle.pgrepeats.specs.declared.past.Past.{Past}
use Rattle.pgcompared.specs.declared.compared.Compared.{Compared}
use Rattle.pgcompared.specs.declared.finding.Finding.{Finding}
use Rattle.pgpast.specs.declared.file.NotesFile as notes_file
use Rattle.pgpast.specs.declared.notes.Notes.{Notes}
use Rattle.pgpast.specs.Handing.{IsAskedFirst, IsHanded, ahead_of, behind_of, part_of}
use Rattle.pgpast.proofs.Handings.{fits_is, handed, part_there}

nothing_is : (rest : List ℕ) → length rest ≡ 0 → rest ≡ []
nothing_is [] none = refl
nothing_is (x ∷ xs) none = absurd (omega (arith, none))

pub none_left : (rest : List ℕ) (b : Bool) → b ≡ (length rest == 0) → b ≡ true → rest ≡ []
none_left rest b same is = nothing_is rest (grind (arith, nat_tests))

take_none : (k : ℕ) → take {A = ℕ} k [] ≡ []
take_none zero = refl
take_none (suc k) = refl

drop_none : (k : ℕ) → drop {A = ℕ} k [] ≡ []
drop_none zero = refl
drop_none (suc k) = refl

-- before the store is asked nothing was handed on, and nothing read
pub unasked : (r : Option ℕ) (bytes : List ℕ) → is_some r ≡ false → IsAskedFirst r bytes → bytes ≡ []
unasked None bytes none asked = asked
unasked (Some reached) bytes none asked = absurd (true≢false none)

pub none_front : (given part : List ℕ) → given ++ part ≡ [] → given ≡ []
none_front [] part none = refl
none_front (x ∷ xs) part none = absurd (omega (arith, ap (λ (bytes : List ℕ). length bytes) none))

pub none_back : (given part : List ℕ) → given ++ part ≡ [] → part ≡ []
none_back [] part none = none
none_back (x ∷ xs) part none = absurd (omega (arith, ap (λ (bytes : List ℕ). length bytes) none))

pub part_read : (room : List ℕ) (len : ℕ) → len ≤ length room → part_of room 0 len ≡ take len room
part_read room len le =
    let all : len - 0 ≡ len = omega arith in
    part_there room 0 len (fits_is room 0 len (omega arith) le) ∙ ap (λ k. take k room) all

module _ {F L : Type 0} {g : notes_file.Ghosts F} (holds : F → List ℕ → Type 0) (hears : L → Finding → L → Type 0)
    (loses : L → L → Type 0) (v : Version) (limit max : ℕ) (past : Past) (reached : ℕ)
    (first : Notes F g × L) (stops : Bool) (given : List ℕ) (now : Compared) (kept : Notes F g × L) where
  -- nothing is ahead, and nothing kept back, where nothing is kept
  pub nothing_ahead : (room : List ℕ) (from safe len : ℕ) → part_of room from len ≡ []
      → IsHanded holds hears loses v limit max past reached first stops given [] [] now kept
      → IsHanded holds hears loses v limit max past reached first stops given (ahead_of room from safe len)
      (behind_of room from safe len) now kept
  nothing_ahead room from safe len none g =
      subst (λ (xs : List ℕ). IsHanded holds hears loses v limit max past reached first stops given (take (safe - from) xs)
      (drop (safe - from) xs) now kept)
      (sym none)
      (subst (λ (xs : List ℕ). IsHanded holds hears loses v limit max past reached first stops given xs (drop (safe - from) []) now kept)
      (sym (take_none (safe - from)))
      (subst (λ (xs : List ℕ). IsHanded holds hears loses v limit max past reached first stops given [] xs now kept)
      (sym (drop_none (safe - from))) g))

  pub was_nothing : (room : List ℕ) (from safe len : ℕ) → part_of room from len ≡ []
      → IsHanded holds hears loses v limit max past reached first stops given (ahead_of room from safe len)
      (behind_of room from safe len) now kept
      → IsHanded holds hears loses v limit max past reached first stops given [] [] now kept
  was_nothing room from safe len none g =
      subst (λ (xs : List ℕ). IsHanded holds hears loses v limit max past reached first stops given [] xs now kept)
      (drop_none (safe - from))
      (subst (λ (xs : List ℕ). IsHanded holds hears loses v limit max past reached first stops given xs (drop (safe - from) []) now kept)
      (take_none (safe - from))
      (subst (λ (xs : List ℕ). IsHanded holds hears loses v limit max past reached first stops given (take (safe - from) xs)
      (drop (safe - from) xs) now kept) none g))

  -- what was read is ahead, up to the frame that is kept back
  pub read_ahead : (room : List ℕ) (safe len : ℕ) → len ≤ length room → safe ≤ len
      → IsHanded holds hears loses v limit max past reached first stops given (take safe room) (drop safe (take len room)) now kept
      → IsHanded holds hears loses v limit max past reached first stops given (ahead_of room 0 safe len)
      (behind_of room 0 safe len) now kept
  read_ahead room safe len le few g =
      let all : safe ≡ safe - 0 = omega arith in
      subst (λ k. IsHanded holds hears loses v limit max past reached first stops given (take k (part_of room 0 len))
      (drop k (part_of room 0 len)) now kept) all
      (subst (λ (xs : List ℕ). IsHanded holds hears loses v limit max past reached first stops given (take safe xs) (drop safe xs) now kept)
      (sym (part_read room len le))
      (subst (λ (xs : List ℕ). IsHanded holds hears loses v limit max past reached first stops given xs (drop safe (take len room))
      now kept)
      (sym (take-take safe len room few)) g))

  pub moved : (front ahead ahead' behind behind' : List ℕ) → ahead ≡ front ++ ahead' → behind' ≡ behind
      → IsHanded holds hears loses v limit max past reached first stops given ahead behind now kept
      → IsHanded holds hears loses v limit max past reached first stops (given ++ front) ahead' behind' now kept
  moved front ahead ahead' behind behind' a b g =
      handed holds hears loses v limit max past reached first stops given front ahead' behind' now kept
      (subst (λ (xs : List ℕ). IsHanded holds hears loses v limit max past reached first stops given (front ++ ahead') xs now kept) (sym b)
      (subst (λ (xs : List ℕ). IsHanded holds hears loses v limit max past reached first stops given xs behind now kept) a g))
