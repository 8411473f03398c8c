-- What tables of bytes hold is one value: definitions and rows are read again from how they are
-- spelled.
use Rattle.std.proofs.Common.{◌≡◌, ℕ, List, [], ◌∷◌, ◌++◌, false, Option, Some, None, Ok}
use Rattle.std.proofs.Common.{refl, sym, ap, ◌∙◌}
use Rattle.std.specs.Prelude.{option_map, Result}
use Rattle.std.specs.List.{AllByRecursion}
use Rattle.std.specs.Cmp.{nat_cmp_total}
use Rattle.std.specs.FinMap as map
use Rattle.std.proofs.lemmas.Str.{is_utf8-from_IsUtf8}
use Rattle.std.specs.Cmp.Lexicographic.{nat_list_cmp_total}
use Rattle.std.specs.FinMap.{same_map, nat_cmp-IsAntisymmetric, slice_cmp-IsAntisymmetric}
use Rattle.pgtuple.specs.Limits.{IsWireTuple}
use Rattle.pgtuple.proofs.Tuples.{tuples_apart}
use Rattle.pglogical.specs.declared.message.Column.{Column}
use Rattle.pglogical.specs.declared.message.RelationDef.{RelationDef}
use Rattle.pglogical.specs.declared.message.Item.TheVariants as item
use Rattle.pglogical.specs.declared.message.Message.{Message}
use Rattle.pglogical.specs.declared.message.Message.TheVariants as message
use Rattle.pglogical.specs.declared.fault.DecodeFault.{DecodeFault}
use Rattle.pglogical.specs.Reading.{message_at}
use Rattle.pglogical.specs.Spelling.{message_spelling, item_spelling, IsColumn, IsDefinition}
use Rattle.pglogical.specs.Spelling.{IsText}
use Rattle.pglogical.specs.Spelling.{IsWireMessage}
use Rattle.pglogical.specs.Typed.{AreTypedColumns}
use Rattle.pgtables.specs.Kept as stored
use Rattle.pgapply.specs.Value.{IsTable, Row, Table, Tables}
use Rattle.pgencoded.specs.Spelled.{IsReadable, IsSpellable, IsStored, row_in, spelled_definition}
use Rattle.pgencoded.specs.Spelled.{spelled_row}
use Rattle.pgsub_core.proofs.ReadAgain.{read_again}

-- ---- a definition

abbrev told : RelationDef → Message
told def = message.Item None (item.Relation def)

columns_wire : (columns : List Column) → AllByRecursion (λ (c : Column). IsText c.name) columns → AreTypedColumns columns
    → AllByRecursion IsColumn columns
columns_wire [] names typed = tt
columns_wire (c ∷ columns) names typed =
    ((record { plain = names.0; utf8 = typed.0.0 }, typed.0.1, typed.0.2), columns_wire columns names.1 typed.1)

wire : (def : RelationDef) → IsDefinition def → IsReadable def → IsWireMessage (told def)
wire def is readable = (
  tt,
  (
    readable.oid,
    record { plain = is.namespace; utf8 = is_utf8-from_IsUtf8 def.namespace readable.namespace },
    record { plain = is.name; utf8 = is_utf8-from_IsUtf8 def.name readable.name },
    is.letter,
    is.count,
    columns_wire def.columns is.names readable.columns,
  ),
)

abbrev definition_in : RelationDef → Result Message DecodeFault → RelationDef
definition_in def (Ok (message.Item None (item.Relation other))) = other
definition_in def _ = def

one_definition : (a b : RelationDef) → IsDefinition a → IsReadable a → IsDefinition b → IsReadable b → a.oid ≡ b.oid
    → spelled_definition a ≡ spelled_definition b → a ≡ b
unfolding message_spelling item_spelling
one_definition a b da ra db rb oid e =
    let namespace : a.namespace ≡ b.namespace = ap (λ (d : stored.Definition). d.namespace) e in
    let name : a.name ≡ b.name = ap (λ (d : stored.Definition). d.name) e in
    let letter : a.letter ≡ b.letter = ap (λ (d : stored.Definition). d.letter) e in
    let columns = ap (λ (d : stored.Definition). d.columns) e in
    let bytes : message_spelling (told a) ≡ message_spelling (told b) = rw (oid, namespace, name, letter, columns) in
    ap (definition_in a) (sym (read_again false (told a) (wire a da ra) tt) ∙ ap (message_at false) bytes
    ∙ read_again false (told b) (wire b db rb) tt)

-- ---- a row

one_row : (a b : Row) → IsWireTuple a.cells → IsWireTuple b.cells → spelled_row a ≡ spelled_row b → a ≡ b
one_row a b ta tb e =
    let cells : a.cells ≡ b.cells =
    (tuples_apart a.cells b.cells [] [] ta.tuple tb.tuple (ap (λ (c : stored.Copies). c.body ++ []) e)).0 in
    let copies : a.copies ≡ b.copies = ap (λ (c : stored.Copies). c.copies) e in
    λ i. record { cells = cells i; copies = copies i }

-- ---- tables

same_rows : (x y : Option Row) → ((row : Row) → x ≡ Some row → IsWireTuple row.cells) → ((row : Row) → y ≡ Some row → IsWireTuple row.cells)
    → option_map spelled_row x ≡ option_map spelled_row y → x ≡ y
same_rows None None tx ty e = refl
same_rows None (Some b) tx ty e = absurd (cc)
same_rows (Some a) None tx ty e = absurd (cc)
same_rows (Some a) (Some b) tx ty e = ap Some (one_row a b (tx a refl) (ty b refl) (some_is e))
  where
    or_else : stored.Copies → Option stored.Copies → stored.Copies
    or_else other None = other
    or_else other (Some there) = there

    some_is : Some (spelled_row a) ≡ Some (spelled_row b) → spelled_row a ≡ spelled_row b
    some_is e = ap (or_else (spelled_row a)) e

one_table : (a b : Table) → a.definition.oid ≡ b.definition.oid → IsSpellable a → IsSpellable b
    → spelled_definition a.definition ≡ spelled_definition b.definition
    → ((place : List ℕ) → option_map spelled_row (map.get a.rows place) ≡ option_map spelled_row (map.get b.rows place))
    → a ≡ b
one_table a b oid sa sb e rows =
    let definition = one_definition a.definition b.definition sa.definition sa.readable sb.definition sb.readable oid e in
    let all : a.rows ≡ b.rows = same_map nat_list_cmp_total (slice_cmp-IsAntisymmetric nat_cmp-IsAntisymmetric) a.rows b.rows
    (λ place. same_rows (map.get a.rows place) (map.get b.rows place) (λ row there. sa.rows place row there)
    (λ row there. sb.rows place row there) (rows place)) in
    λ i. record { definition = definition i; rows = all i }

same_tables : (oid : ℕ) (x y : Option Table) → ((table : Table) → x ≡ Some table → IsTable oid table × IsSpellable table)
    → ((table : Table) → y ≡ Some table → IsTable oid table × IsSpellable table)
    → option_map (λ (table : Table). spelled_definition table.definition) x
    ≡ option_map (λ (table : Table). spelled_definition table.definition) y
    → ((place : List ℕ) → option_map spelled_row (row_in x place) ≡ option_map spelled_row (row_in y place))
    → x ≡ y
same_tables oid None None tx ty e rows = refl
same_tables oid None (Some b) tx ty e rows = absurd (cc)
same_tables oid (Some a) None tx ty e rows = absurd (cc)
same_tables oid (Some a) (Some b) tx ty e rows =
    let x = tx a refl in
    let y = ty b refl in
    ap Some (one_table a b (x.0.same_oid ∙ sym y.0.same_oid) x.1 y.1 (some_is e) rows)
  where
    or_else : stored.Definition → Option stored.Definition → stored.Definition
    or_else other None = other
    or_else other (Some there) = there

    some_is : Some (spelled_definition a.definition) ≡ Some (spelled_definition b.definition)
        → spelled_definition a.definition ≡ spelled_definition b.definition
    some_is e = ap (or_else (spelled_definition a.definition)) e

pub stored_once : (v w : Tables) (bytes : stored.Tables) → IsStored v bytes → IsStored w bytes → v ≡ w
stored_once v w bytes one other = same_map nat_cmp_total nat_cmp-IsAntisymmetric v w (λ oid.
    same_tables oid (map.get v oid) (map.get w oid) (λ table there. (one.form oid table there, one.spellable oid table there))
    (λ table there. (other.form oid table there, other.spellable oid table there))
    (sym (one.spelled.defined oid) ∙ other.spelled.defined oid)
    (λ place. sym (one.spelled.rows oid place) ∙ other.spelled.rows oid place))
