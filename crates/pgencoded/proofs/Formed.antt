-- Rows and definitions that a store has written can be read back.
use Rattle.std.proofs.Common.{◌≡◌, ◌≢◌, ◌≤◌, ◌<◌, ◌^◌, ℕ, List, [], ◌∷◌, length, Bool, true, false}
use Rattle.std.proofs.Common.{Option, Some, None, Result, Ok, Err, IfErr, IfSome, refl, sym, ap}
use Rattle.std.proofs.Common.{subst, ◌∙◌, inl, inr, arith}
use Rattle.std.specs.Prelude.{option_map, if◌then◌else◌, IsErrAnd}
use Rattle.std.specs.List.{AllByRecursion}
use Rattle.std.specs.FinMap as finite
use Rattle.std.proofs.lemmas.List.{append-nil}
use Rattle.pgtuple.specs.declared.cell.Cell.{Cell}
use Rattle.pgtuple.specs.declared.fault.TupleFault.{TupleFault}
use Rattle.pgtuple.specs.Limits.{IsWireTuple}
use Rattle.pgtuple.specs.Reading.{Read, tuple_at}
use Rattle.pgtuple.proofs.Tuples.{tuple_again}
use Rattle.pgtuple.specs.Cells.{tuple_spelling}
use Rattle.pglogical.specs.declared.message.RelationDef.{RelationDef}
use Rattle.pglogical.specs.Spelling.{AreColumns, IsColumn, IsDefinition, IsLetter, IsText}
use Rattle.pglogical.specs.Typed.{AreTypedColumns}
use Rattle.pglogical.specs.declared.message.Column.{Column}
use Rattle.pgrel.specs.Identity.{keyed}
use Rattle.pgrows.specs.declared.fault.ReadFault.{ReadFault}
use Rattle.pgrows.specs.declared.fault.ReadFault.TheVariants.{Store, Malformed}
use Rattle.pgtables.specs.Kept as stored
use Rattle.pgtables.specs.Shown.{FitsCopies, FitsDefinition}
use Rattle.pgapply.specs.declared.fault.StoreFault.{StoreFault}
use Rattle.pgapply.specs.Value.{Row, Rows, Table, Tables, most_copies}
use Rattle.pgapply.specs.Stored.{IsOwnFault}
use Rattle.pgencoded.specs.SqlFault.{IsReadFaultOf, IsTreeFaultOf}
use Rattle.pgencoded.specs.Spelled.{IsChanging, IsReadable, IsSpellable, IsStored}
use Rattle.pgencoded.specs.Spelled.{spelled_definition, spelled_row}
use Rattle.pgencoded.proofs.SpelledRows.{own_row}

-- ---- faults

pub own_of_tree : (fault : StoreFault) (error : _) → IsTreeFaultOf error fault → IsOwnFault fault
own_of_tree fault error (inl memory) = inl memory.1
own_of_tree fault error (inr other) = inr other.1

pub own_of_read : (read : ReadFault) (fault : StoreFault) → read ≢ Malformed → IsReadFaultOf read fault → IsOwnFault fault
own_of_read (Store error) fault formed is = own_of_tree fault error is
own_of_read Malformed fault formed is = absurd (formed refl)

-- the refusal that a `?` makes of a fault of reading
pub read_refuses : {X : Type 0} {Q : StoreFault → Type 0} (r : Result X StoreFault) (read : ReadFault) → IsErrAnd r (IsReadFaultOf read)
    → ((fault : StoreFault) → IsReadFaultOf read fault → Q fault) → IfErr r Q
read_refuses (Ok x) read is goes = tt
read_refuses (Err fault) read is goes = goes fault is

-- ---- tuples

pub encoded_read : (cells : List Cell) (bytes : List ℕ) → IsWireTuple cells → bytes ≡ tuple_spelling cells
    → tuple_at bytes ≡ Ok (cells, (length bytes, []))
encoded_read cells bytes fits is =
    ap tuple_at (is ∙ sym (append-nil (tuple_spelling cells))) ∙ tuple_again cells [] fits
    ∙ ap (λ n. Ok (cells, (n, []))) (ap length (sym is))

pub never_unread : (cells : List Cell) (bytes : List ℕ) (f : TupleFault) → IsWireTuple cells → bytes ≡ tuple_spelling cells
    → tuple_at bytes ≡ Err f → ⊥
never_unread cells bytes f fits is bad = let e = sym (encoded_read cells bytes fits is) ∙ bad in cc

pub never_longer : (cells read : List Cell) (bytes : List ℕ) (len : ℕ) (rest : List ℕ) → IsWireTuple cells → bytes ≡ tuple_spelling cells
    → tuple_at bytes ≡ Ok (read, (len, rest)) → len ≡ length bytes
never_longer cells read bytes len rest fits is found = sym (ap read_length (sym (encoded_read cells bytes fits is) ∙ found))
  where
    read_length : Read (List Cell) → ℕ
    read_length (Ok at) = at.1.0
    read_length (Err f) = 0

-- ---- rows

pub few_copies : (def : RelationDef) (copies : ℕ) → copies ≤ (if keyed def then 1 else most_copies) → copies < 2 ^ 32
few_copies def copies = go (keyed def)
  where
    go : (k : Bool) → copies ≤ (if k then 1 else most_copies) → copies < 2 ^ 32
    go true h = omega (arith, h)
    go false h = omega (arith, h)

-- the row at a place has so few copies that they are read
pub row_fits : (v : Tables) (def : RelationDef) (rows : Rows) (t : stored.Tables) → IsChanging v def rows t → (place : List ℕ)
    → IfSome (finite.get t.rows (def.oid ∷ place)) FitsCopies
row_fits v def rows t h place =
    subst (λ o. IfSome o FitsCopies) (sym (own_row v def rows t h.spelled place)) (go (finite.get rows place) refl)
  where
    go : (o : Option Row) → finite.get rows place ≡ o → IfSome (option_map spelled_row o) FitsCopies
    go None is = tt
    go (Some row) is = few_copies def row.copies (h.form place row is).copies

-- ---- definitions

letter_fits : (letter : ℕ) → IsLetter letter → letter < 2 ^ 32
letter_fits letter (inl is) = omega (arith, is)
letter_fits letter (inr (inl is)) = omega (arith, is)
letter_fits letter (inr (inr (inl is))) = omega (arith, is)
letter_fits letter (inr (inr (inr is))) = omega (arith, is)

pub spelled_fits : (table : Table) → IsSpellable table → FitsDefinition (spelled_definition table.definition)
spelled_fits table is = (is.readable.namespace, is.readable.name, letter_fits table.definition.letter is.definition.letter)

pub definition_fits : (v : Tables) (t : stored.Tables) → IsStored v t → (oid : ℕ) → IfSome (finite.get t.defined oid) FitsDefinition
definition_fits v t h oid = subst (λ o. IfSome o FitsDefinition) (sym (h.spelled.defined oid)) (go (finite.get v oid) refl)
  where
    go : (o : Option Table) → finite.get v oid ≡ o
        → IfSome (option_map (λ (table : Table). spelled_definition table.definition) o) FitsDefinition
    go None is = tt
    go (Some table) is = spelled_fits table (h.spellable oid table is)

pub spelled_there : (v : Tables) (t : stored.Tables) → IsStored v t → (oid : ℕ) (there : stored.Definition)
    → finite.get t.defined oid ≡ Some there → (old : RelationDef) × IsDefinition old × IsReadable old × (there ≡ spelled_definition old)
spelled_there v t h oid there at = go (finite.get v oid) refl (sym at ∙ h.spelled.defined oid)
  where
    go : (o : Option Table) → finite.get v oid ≡ o → Some there ≡ option_map (λ (table : Table). spelled_definition table.definition) o
        → (old : RelationDef) × IsDefinition old × IsReadable old × (there ≡ spelled_definition old)
    go None is e = absurd (let no = e in cc)
    go (Some table) is e = (table.definition, (h.spellable oid table is).definition, (h.spellable oid table is).readable, cc)

-- columns within the limits of the wire, as names without a zero byte that their types say more of
its_names : (columns : List Column) → AllByRecursion (λ (c : Column). IsText c.name) columns → AreTypedColumns columns
    → AllByRecursion IsColumn columns
its_names [] names typed = tt
its_names (c ∷ columns) names typed =
    ((record { plain = names.0; utf8 = typed.0.0 }, typed.0.1, typed.0.2), its_names columns names.1 typed.1)

pub its_columns : (def : RelationDef) → IsDefinition def → IsReadable def → AreColumns def.columns
its_columns def is readable = (is.count, its_names def.columns is.names readable.columns)

pub typed_columns : (columns : List Column) → AllByRecursion IsColumn columns → AreTypedColumns columns
typed_columns [] are = tt
typed_columns (c ∷ columns) are = ((are.0.0.utf8, are.0.1, are.0.2), typed_columns columns are.1)
