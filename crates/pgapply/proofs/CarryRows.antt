-- Rows carried to a definition of another shape, as the definitions give it.
use Rattle.std.proofs.Common.{◌≡◌, ◌∷◌, [], Ok, Err, true, false}
use Rattle.std.specs.FinMap as map
use Rattle.pgtuple.specs.Cells.{tuple_spelling}
use Rattle.pgtuple.specs.declared.cell.Cell.TheVariants.{Null}
use Rattle.pgapply.specs.declared.fault.StoreFault.TheVariants as fault
use Rattle.pgapply.specs.Apply.{carry_rows}
use Rattle.pgapply.proofs.Relations.{text, column, t, t3, tv, f, fk, x, of_cells, place, row_of}
use Rattle.pgapply.proofs.Relations.{lookups}

-- a column that comes is null
new_column : carry_rows t t3 ((place 49, row_of 49 97) ∷ []) map.empty
    ≡ Ok (map.insert map.empty (place 49) (of_cells (text 49 ∷ text 97 ∷ Null ∷ [])))
unfolding carry_rows tuple_spelling
new_column = simp lookups

-- two copies of one row can't stand under a key
copies_clash : carry_rows f fk ((tuple_spelling x, record { cells = x; copies = 2 }) ∷ []) map.empty ≡ Err fault.Clash
unfolding carry_rows tuple_spelling
copies_clash = simp lookups

-- rows that become equal are counted
merged : carry_rows t tv ((place 49, row_of 49 97) ∷ (place 50, row_of 50 97) ∷ []) map.empty
    ≡ Ok (map.insert (map.insert map.empty (place 97) (of_cells (text 97 ∷ []))) (place 97) (record { cells = text 97 ∷ []; copies = 2 }))
unfolding carry_rows tuple_spelling
merged = simp lookups

-- two rows of one new key clash
keys_clash : carry_rows t (record t { columns = column false 105 ∷ column true 118 ∷ [] })
    ((place 49, row_of 49 97) ∷ (place 50, row_of 50 97) ∷ []) map.empty ≡ Err fault.Clash
unfolding carry_rows tuple_spelling
keys_clash = simp lookups

-- copies that would pass the greatest count
too_many : carry_rows (record t { letter = 102 }) tv
    ((place 49, record { cells = text 49 ∷ text 97 ∷ []; copies = 2147483647 }) ∷ (place 50, row_of 50 97) ∷ []) map.empty
    ≡ Err fault.TooManyCopies
unfolding carry_rows tuple_spelling
too_many = simp lookups
