-- Rows that compare as equal are one.
use Rattle.std.proofs.Common.{◌≡◌, ◌&&◌, ◌==◌, ℕ, List, Bool, true, Decides, refl, ap, sym, ◌∙◌}
use Rattle.std.specs.Cmp.{first_so, second_so, nat_eq_equiv}
use Rattle.std.specs.Cmp.Lexicographic.{pointwise}
use Rattle.std.proofs.lemmas.Slice.Eq.{bytes_eq-Decides, slice_eq-Decides}
use Rattle.std.proofs.lemmas.Bool.{eqb-true}
use Rattle.pgtuple.proofs.Equality.{cells_eq-Decides}
use Rattle.pgapply.specs.declared.rows.DumpRow.{DumpRow}
use Rattle.pgsub_core.specs.Subscriber.Converging.{same_row}

both : (p q : Bool) → p ≡ true → q ≡ true → (p && q) ≡ true
both p q h k = λ i. h i && k i

itself : (n : ℕ) → (n == n) ≡ true
itself n = nat_eq_equiv.refl n

one_row : (a b : DumpRow) → same_row a b ≡ true → a ≡ b
one_row a b h =
    let r₁ = second_so _ _ h in
    let r₂ = second_so _ _ r₁ in
    let r₃ = second_so _ _ r₂ in
    let oid : a.oid ≡ b.oid = eqb-true a.oid b.oid (first_so _ _ h) in
    let namespace : a.namespace ≡ b.namespace = (bytes_eq-Decides a.namespace b.namespace).0 (first_so _ _ r₁) in
    let name : a.name ≡ b.name = (bytes_eq-Decides a.name b.name).0 (first_so _ _ r₂) in
    let cells : a.cells ≡ b.cells = (cells_eq-Decides a.cells b.cells).0 (first_so _ _ r₃) in
    let copies : a.copies ≡ b.copies = eqb-true a.copies b.copies (second_so _ _ r₃) in
    λ i. record { oid = oid i; namespace = namespace i; name = name i; cells = cells i; copies = copies i }

row_itself : (a : DumpRow) → same_row a a ≡ true
row_itself a =
    both _ _ (itself a.oid) (both _ _ ((bytes_eq-Decides a.namespace a.namespace).1 refl)
    (both _ _ ((bytes_eq-Decides a.name a.name).1 refl) (both _ _ ((cells_eq-Decides a.cells a.cells).1 refl) (itself a.copies))))

pub same_row-Decides : (a b : DumpRow) → Decides (same_row a b) (a ≡ b)
same_row-Decides a b = (one_row a b, λ e. ap (λ (x : DumpRow). same_row a x) (sym e) ∙ row_itself a)

pub same_rows-Decides : (a b : List DumpRow) (same : Bool) → same ≡ pointwise same_row a b → Decides same (a ≡ b)
same_rows-Decides a b same is = slice_eq-Decides same_row-Decides a b same is
