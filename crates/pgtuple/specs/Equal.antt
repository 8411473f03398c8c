-- Equality of cells, by kind and bytes.
use Rattle.std.specs.Prelude.{◌≡◌, Bool, true, false, refl}
use Rattle.std.specs.Str.{bytes_eq}
use Rattle.std.specs.Cmp.{IsEquivalence}
use Rattle.std.specs.Cmp.Lexicographic.{nat_list_eq_equiv}
use Rattle.std.proofs.lemmas.Bool.{false≢true}
use Rattle.pgtuple.specs.declared.cell.Cell.{Cell}
use Rattle.pgtuple.specs.declared.cell.Cell.TheVariants.{Null, Unchanged, Text, Binary}

abbrev pub cell_eq : Cell → Cell → Bool
cell_eq Null Null = true
cell_eq Unchanged Unchanged = true
cell_eq (Text a) (Text b) = bytes_eq a b
cell_eq (Binary a) (Binary b) = bytes_eq a b
cell_eq _ _ = false

same : (a : Cell) → cell_eq a a ≡ true
same Null = refl
same Unchanged = refl
same (Text a) = nat_list_eq_equiv.refl a
same (Binary a) = nat_list_eq_equiv.refl a

turned : (a b : Cell) → cell_eq a b ≡ cell_eq b a
turned Null Null = refl
turned Null Unchanged = refl
turned Null (Text b) = refl
turned Null (Binary b) = refl
turned Unchanged Null = refl
turned Unchanged Unchanged = refl
turned Unchanged (Text b) = refl
turned Unchanged (Binary b) = refl
turned (Text a) Null = refl
turned (Text a) Unchanged = refl
turned (Text a) (Text b) = nat_list_eq_equiv.symm a b
turned (Text a) (Binary b) = refl
turned (Binary a) Null = refl
turned (Binary a) Unchanged = refl
turned (Binary a) (Text b) = refl
turned (Binary a) (Binary b) = nat_list_eq_equiv.symm a b

carried : (a b c : Cell) → cell_eq a b ≡ true → cell_eq a c ≡ cell_eq b c
carried Null Null c e = refl
carried Unchanged Unchanged c e = refl
carried (Text a) (Text b) Null e = refl
carried (Text a) (Text b) Unchanged e = refl
carried (Text a) (Text b) (Text c) e = nat_list_eq_equiv.congr a b c e
carried (Text a) (Text b) (Binary c) e = refl
carried (Binary a) (Binary b) Null e = refl
carried (Binary a) (Binary b) Unchanged e = refl
carried (Binary a) (Binary b) (Text c) e = refl
carried (Binary a) (Binary b) (Binary c) e = nat_list_eq_equiv.congr a b c e
carried Null Unchanged c e = absurd (false≢true e)
carried Null (Text b) c e = absurd (false≢true e)
carried Null (Binary b) c e = absurd (false≢true e)
carried Unchanged Null c e = absurd (false≢true e)
carried Unchanged (Text b) c e = absurd (false≢true e)
carried Unchanged (Binary b) c e = absurd (false≢true e)
carried (Text a) Null c e = absurd (false≢true e)
carried (Text a) Unchanged c e = absurd (false≢true e)
carried (Text a) (Binary b) c e = absurd (false≢true e)
carried (Binary a) Null c e = absurd (false≢true e)
carried (Binary a) Unchanged c e = absurd (false≢true e)
carried (Binary a) (Text b) c e = absurd (false≢true e)

pub cell_eq_equiv : IsEquivalence cell_eq
cell_eq_equiv = record { refl = same; symm = turned; congr = carried }
