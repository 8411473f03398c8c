-- What is noted of commits, by where they end.
use Rattle.std.specs.Prelude.{◌≡◌, ◌≢◌, ◌<◌, ◌≤◌, ℕ, pos, List, [], ◌∷◌, length, slice_index_or}
use Rattle.std.specs.Prelude.{Option, Some, None, if◌then◌else◌, ◌==◌}
use Rattle.pgrepeats.specs.declared.noted.Noted.{Noted}

abbrev pub Entries : Type 0
Entries = List (ℕ × Noted)

-- what is noted of the one that ends there
abbrev pub noted_in : Entries → ℕ → Option Noted
noted_in [] end = None
noted_in ((k, n) ∷ es) end = if k == end then Some n else noted_in es end

-- where the i-th one ends
abbrev pub blank : ℕ × Noted
blank = (0, record { lsn = 0; xid = 0; time = pos 0; digest = record { changes = 0; crc = 0 }; before = 0 })

abbrev pub end_at : Entries → ℕ → ℕ
end_at es i = let e = slice_index_or es i blank in e.0

-- each ends behind those before it
abbrev pub AreInOrder : Entries → Type 0
AreInOrder es = (i j : ℕ) → i < j → j < length es → end_at es i < end_at es j

-- all end before this
abbrev pub AreBelow : ℕ → Entries → Type 0
AreBelow end es = (i : ℕ) → i < length es → end_at es i < end

-- none ends before this
abbrev pub IsLeast : Entries → ℕ → Type 0
IsLeast es end = (k : ℕ) (n : Noted) → noted_in es k ≡ Some n → end ≤ k

-- of the one that ends there this is noted, of the others what was
abbrev pub Updates : Entries → Entries → ℕ → Option Noted → Type 0
Updates es new end w = (noted_in new end ≡ w) × ((k : ℕ) → k ≢ end → noted_in new k ≡ noted_in es k)

-- the i-th one ends there
pub record IsAt (es : Entries) (end i : ℕ) : Type 0 where
  pub below : i < length es
  pub ends : end_at es i ≡ end

-- none ends there
pub record IsNowhere (es : Entries) (end : ℕ) : Type 0 where
  pub none : (i : ℕ) → i < length es → end_at es i ≢ end
