-- Tables that are some of a store's by their parts are those whole.
use Rattle.std.proofs.Common.{◌≡◌, Bool, true, false, List, [], ◌∷◌, inl, inr, refl, sym, ap, subst}
use Rattle.std.proofs.Common.{◌∙◌}
use Rattle.std.specs.List.{AllByRecursion}
use Rattle.sqlite.specs.Table.{Table}
use Rattle.sqlite.specs.Schema.{Schema}
use Rattle.sqlite_schema.specs.declared.schema.Index.{Index}
use Rattle.sqlite_schema.specs.declared.schema.View.{View}
use Rattle.sqlite_rules.specs.Lists.{Has}
use Rattle.sqlite_rules.proofs.ListLemmas.{all_has}
use Rattle.sqlite_catalog.specs.Listing.{automatic, IsGuarded}
use Rattle.pgtables.specs.Schema.{rel, held_table, held_index, pos_at}
use Rattle.pgtables.specs.declared.remains.Remains.{Remains}
use Rattle.pgtables.specs.Remains.{AreRemains, IsIndexOfRows, listed, schema_of}
use Rattle.pgtables.proofs.Listed.{our_index}

abbrev pub tables_over : Bool → Bool → Bool → List Table
tables_over d h p = listed d rel (listed h held_table (listed p pos_at []))

abbrev pub over : Bool → Bool → Bool → Schema
over d h p = record { tables = tables_over d h p; indexes = listed h held_index []; views = [] }

pub held_listed : (d p : Bool) → Has (tables_over d true p) held_table
held_listed true p = inr (inl refl)
held_listed false p = inl refl

pub pos_listed : (d h : Bool) → Has (tables_over d h true) pos_at
pos_listed true true = inr (inr (inl refl))
pos_listed true false = inr (inl refl)
pos_listed false true = inr (inl refl)
pos_listed false false = inl refl

parts : (d h p : Bool) (tables : List Table) (indexes : List Index) (views : List View) → tables ≡ tables_over d h p
    → indexes ≡ listed h held_index [] → views ≡ []
    → ◌≡◌ {A = Schema} (record { tables = tables; indexes = indexes; views = views }) (over d h p)
parts d h p tables indexes views a b c = λ i. record { tables = a i; indexes = b i; views = c i }

indexed : (d h p : Bool) (schema : Schema) → schema.tables ≡ tables_over d h p → IsIndexOfRows schema.indexes h
    → AllByRecursion (IsGuarded schema.indexes) schema.tables → schema.indexes ≡ listed h held_index []
indexed d false p schema tables none guarded = none
indexed d true p schema tables (index, is, place) guarded =
    let found = all_has (IsGuarded schema.indexes) schema.tables held_table guarded
    (subst (λ ts. Has ts held_table) (sym tables) (held_listed d p)) 0 (1 ∷ 2 ∷ []) refl in
    let there = subst (λ is. Has is (automatic held_table 0 (1 ∷ 2 ∷ []) found.0)) is found.1 in
    is ∙ ap (λ i. i ∷ []) (our_index index found.0 there place)

pub is_schema_of : (schema : Schema) (left : Remains) → AreRemains schema left → AllByRecursion (IsGuarded schema.indexes) schema.tables
    → schema ≡ schema_of left
is_schema_of schema left is guarded =
    let d = left.has_definitions in
    let h = left.has_rows in
    let p = left.has_position in
    parts d h p schema.tables schema.indexes schema.views is.tables (indexed d h p schema is.tables is.indexes guarded) is.views
