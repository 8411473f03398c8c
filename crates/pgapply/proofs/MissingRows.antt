-- Which changes find no row, as the definitions give it, and how they are counted.
-- PostgreSQL documentation, Logical Replication, Conflicts, update_missing and delete_missing.
use Rattle.std.proofs.Common.{◌≡◌, ◌∷◌, [], ℕ, Some, None, Err, true, false, refl}
use Rattle.std.specs.FinMap as map
use Rattle.pgtuple.specs.Cells.{tuple_spelling}
use Rattle.pgtuple.specs.declared.cell.Cell.TheVariants.{Null, Unchanged}
use Rattle.pglogical.specs.declared.message.OldKind.TheVariants.{Key, Full}
use Rattle.pgapply.specs.declared.op.Op.TheVariants as op
use Rattle.pgapply.specs.declared.fault.StoreFault.TheVariants as fault
use Rattle.pgapply.specs.Apply.{Change, apply, rows_after, carry_rows}
use Rattle.pgapply.specs.Missing.{finds_none, missing_in, all_missing, nothing_missed, with_misses}
use Rattle.pgapply.proofs.Relations.{text, t, f, x, y, rows_1, rows_x, tables_1, lookups, tv, place}
use Rattle.pgapply.proofs.Relations.{row_of}

-- ---- one change

-- the row of another key
updated_none : finds_none t (op.Update None (text 50 ∷ text 98 ∷ [])) rows_1 ≡ true
unfolding tuple_spelling
updated_none = simp lookups

updated_one : finds_none t (op.Update None (text 49 ∷ text 98 ∷ [])) rows_1 ≡ false
unfolding tuple_spelling
updated_one = simp lookups

-- the old key tells which row is meant, and the new one doesn't
updated_by_old_key : finds_none t (op.Update (Some (Key, text 50 ∷ Null ∷ [])) (text 49 ∷ text 98 ∷ [])) rows_1 ≡ true
unfolding tuple_spelling
updated_by_old_key = simp lookups

deleted_none : finds_none t (op.Delete Key (text 50 ∷ Null ∷ [])) rows_1 ≡ true
unfolding tuple_spelling
deleted_none = simp lookups

deleted_one : finds_none t (op.Delete Key (text 49 ∷ Null ∷ [])) rows_1 ≡ false
unfolding tuple_spelling
deleted_one = simp lookups

-- of a table without a key the whole row is searched
other_deleted_of_a_bag : finds_none f (op.Delete Full y) (rows_x 2) ≡ true
unfolding tuple_spelling
other_deleted_of_a_bag = simp lookups

one_deleted_of_a_bag : finds_none f (op.Delete Full x) (rows_x 2) ≡ false
unfolding tuple_spelling
one_deleted_of_a_bag = simp lookups

-- what is inserted and truncated isn't searched
inserted_finds_none : finds_none t (op.Insert (text 50 ∷ text 98 ∷ [])) rows_1 ≡ false
inserted_finds_none = refl

truncated_finds_none : finds_none t op.Truncate map.empty ≡ false
truncated_finds_none = refl

-- a search that is refused finds nothing out
refused_finds_none : finds_none t (op.Delete Key (Unchanged ∷ Null ∷ [])) map.empty ≡ false
refused_finds_none = refl

-- so does a change whose rows can't be carried over
not_carried : missing_in (Err fault.Clash) t (op.Delete Key (text 50 ∷ Null ∷ [])) ≡ None
not_carried = refl

-- rows of another shape are searched as they are carried over: (1, a) of t is (a) of tv
carried_is_found : missing_in (carry_rows t tv ((place 49, row_of 49 97) ∷ []) map.empty) tv (op.Delete Full (text 97 ∷ [])) ≡ None
unfolding carry_rows tuple_spelling
carried_is_found = simp lookups

carried_is_missed : missing_in (carry_rows t tv ((place 49, row_of 49 97) ∷ []) map.empty) tv (op.Delete Full (text 49 ∷ [])) ≡ Some 16384
unfolding carry_rows tuple_spelling
carried_is_missed = simp lookups

-- ---- changes in order

abbrev pub delete_t : ℕ → Change
delete_t key = record { definition = t; op = op.Delete Key (text key ∷ Null ∷ []) }

-- a relation of which nothing came yet
first_change : all_missing map.empty (delete_t 49 ∷ []) ≡ 16384 ∷ []
unfolding all_missing apply rows_after tuple_spelling
first_change = simp lookups

-- the second change finds what the first one left
deleted_twice : all_missing tables_1 (delete_t 49 ∷ delete_t 49 ∷ []) ≡ 16384 ∷ []
unfolding all_missing apply rows_after tuple_spelling
deleted_twice = simp lookups

inserted_before : all_missing map.empty
    (record { definition = t; op = op.Insert (text 49 ∷ text 97 ∷ []) } ∷ delete_t 49 ∷ delete_t 50 ∷ []) ≡ 16384 ∷ []
unfolding all_missing apply rows_after tuple_spelling
inserted_before = simp lookups

-- ---- the count

counted_two : with_misses nothing_missed 304 (16384 ∷ 16385 ∷ []) ≡ record { count = 2; first = Some (record { end = 304; oid = 16384 }) }
counted_two = refl

-- the first one stays the first
first_stays : with_misses (record { count = 2; first = Some (record { end = 304; oid = 16384 }) }) 560 (16386 ∷ [])
    ≡ record { count = 3; first = Some (record { end = 304; oid = 16384 }) }
first_stays = refl

-- at the greatest count it stays
at_the_greatest_count : with_misses (record { count = 18446744073709551615; first = None }) 304 (16384 ∷ [])
    ≡ record { count = 18446744073709551615; first = Some (record { end = 304; oid = 16384 }) }
at_the_greatest_count = refl
