-- What the definition's answer says of the bytes.
use Rattle.std.proofs.Common.{◌≡◌, ◌≢◌, ◌+◌, ℕ, List, ◌++◌, length, drop, Result, Ok, refl, sym, ap}
use Rattle.std.proofs.Common.{subst, ◌∙◌}
use Rattle.std.specs.List.{flat_map}
use Rattle.std.proofs.lemmas.List.{drop_at}
use Rattle.pgtuple.specs.declared.cell.Cell.{Cell}
use Rattle.pgtuple.specs.declared.fault.TupleFault.{TupleFault}
use Rattle.pgtuple.specs.declared.fault.TupleFault.TheVariants as fault
use Rattle.pgtuple.specs.Limits.{IsWireTuple, IsBytes}
use Rattle.pgtuple.specs.Cells.{cell_spelling, tuple_spelling}
use Rattle.pgtuple.specs.Reading.{Fails, At, tuple_from, tuple_at}
use Rattle.pgtuple.specs.Faults.{HasCellFault, no_kind, bad_kind, short_length, bad_length}
use Rattle.pgtuple.specs.Faults.{short_bytes, not_utf8, HasTupleFault, short_width, bad_width}
use Rattle.pgtuple.specs.Faults.{in_cell}
use Rattle.pgtuple.proofs.Fields.{ok_is}
use Rattle.pgtuple.proofs.Tuples.{tuple_takes, tuple_again}

pub record IsFront (bytes : List ℕ) (cells : List Cell) (at : At) : Type 0 where
  pub fits : IsWireTuple cells
  pub parts : bytes ≡ tuple_spelling cells ++ drop at.0 bytes
  pub place : at.0 ≡ length (tuple_spelling cells)
  pub rest : at.1 ≡ drop at.0 bytes

pub front_is : (bytes : List ℕ) (cells : List Cell) (at : At) → IsBytes bytes → tuple_from (0, bytes) ≡ Ok (cells, at)
    → IsFront bytes cells at
unfolding tuple_at
front_is bytes cells at fits e =
    let t = tuple_takes bytes cells at.0 at.1 fits e in
    let rest : drop at.0 bytes ≡ at.1 = ap (λ (l : List ℕ). drop at.0 l) t.1 ∙ drop_at (tuple_spelling cells) at.1 at.0 (sym t.2) in
    record { fits = t.0; parts = rw rest t.1; place = t.2; rest = sym rest }

pub is_only : (bytes : List ℕ) (cells : List Cell) (at : At) (t : List Cell) (more : List ℕ) → tuple_from (0, bytes) ≡ Ok (cells, at)
    → IsWireTuple t → bytes ≡ tuple_spelling t ++ more
    → (cells ≡ t) × (at.0 ≡ length (tuple_spelling t))
unfolding tuple_at
is_only bytes cells at t more e fits same =
    let again = ap (λ (l : List ℕ). tuple_from (0, l)) same ∙ tuple_again t more fits in
    let made : List Cell × At = (t, (length (tuple_spelling t), more)) in
    let equal : ◌≡◌ {A = List Cell × At} (cells, at) made = ok_is (cells, at) made (sym e ∙ again) in
    (ap (λ (x : List Cell × At). x.0) equal, ap (λ (x : List Cell × At). x.1.0) equal)

only_memory : (f : TupleFault) (x : List Cell × At) → Fails f (Ok x) → f ≡ fault.Memory
only_memory fault.Memory x e = refl
only_memory (fault.Short place) x e = absurd cc
only_memory (fault.BadKind place) x e = absurd cc
only_memory (fault.BadLength place) x e = absurd cc
only_memory (fault.NotUtf8 place) x e = absurd cc
only_memory (fault.TooManyColumns place) x e = absurd cc

pub is_memory : (bytes : List ℕ) (f : TupleFault) (t : List Cell) (more : List ℕ) → Fails f (tuple_from (0, bytes)) → IsWireTuple t
    → bytes ≡ tuple_spelling t ++ more → f ≡ fault.Memory
unfolding tuple_at
is_memory bytes f t more e fits same =
    let again = ap (λ (l : List ℕ). tuple_from (0, l)) same ∙ tuple_again t more fits in
    only_memory f (t, (length (tuple_spelling t), more)) (subst (λ (r : Result (List Cell × At) TupleFault). Fails f r) again e)

no_cell_wants_memory : (bytes : List ℕ) (place : ℕ) → HasCellFault bytes place fault.Memory → ⊥
no_cell_wants_memory bytes place (no_kind e is) = absurd cc
no_cell_wants_memory bytes place (bad_kind kind more e a b c d is) = absurd cc
no_cell_wants_memory bytes place (short_length kind rest e counted short is) = absurd cc
no_cell_wants_memory bytes place (bad_length kind n more e counted long fits is) = absurd cc
no_cell_wants_memory bytes place (short_bytes kind n rest e counted fits short is) = absurd cc
no_cell_wants_memory bytes place (not_utf8 text more e fits bad is) = absurd cc

-- reading asks for no memory
pub no_memory : (bytes : List ℕ) (f : TupleFault) → HasTupleFault bytes f → f ≢ fault.Memory
no_memory bytes f (short_width short is) memory = absurd cc
no_memory bytes f (bad_width n more e wide fits is) memory = absurd cc
no_memory bytes f (in_cell n front rest e fits fewer cells texts at) memory =
    no_cell_wants_memory rest _ (subst (λ (g : TupleFault). HasCellFault rest (2 + length (flat_map cell_spelling front)) g) memory at)
