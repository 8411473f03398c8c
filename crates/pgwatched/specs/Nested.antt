-- Which streamed items and aborts are those of some transaction's work.
use Rattle.std.specs.Prelude.{◌≡◌, ℕ, List, ◌∷◌, map, Ok, Err}
use Rattle.pglogical.specs.declared.message.RelationDef.{RelationDef}
use Rattle.pglogical.specs.declared.message.Item.{Item}
use Rattle.pgapply.specs.Apply.{Change as RowChange}
use Rattle.pgwatch.specs.declared.noted.Noted.{Noted}
use Rattle.pgwatch.specs.declared.noted.What.{What}
use Rattle.pgwatch.specs.declared.noted.What.TheVariants as what
use Rattle.pgwatch.specs.Hearing.{what_of}
use Rattle.pgwatch.specs.Nesting.{Nesting, at_end, nest}
use Rattle.pgsub_core.specs.Server.Work.{Work, IsWork, surviving_changes, xids_of, AllDiffer}
use Rattle.pgsub_core.specs.Server.Described.{described}
use Rattle.pgsub_core.specs.Server.Streamed.{StreamedItem, Change, SubtransactionAbort, IsStreamOf}

-- what is noted of it, but for its transaction and its frame
abbrev pub mark : StreamedItem → Noted
mark (Change subxid i) = record { xid = 0; subxid = subxid; at = 0; what = what_of i }
mark (SubtransactionAbort subxid) = record { xid = 0; subxid = subxid; at = 0; what = what.Abort }

abbrev pub marks : List StreamedItem → List Noted
marks streamed = map mark streamed

abbrev pub whats : List Noted → List What
whats noted = map (λ (x : Noted). x.what) noted

-- They come of a transaction with this xid, whose work makes these changes.
abbrev pub IsStreamed : ℕ → List StreamedItem → List Item → List RowChange → Type 0
IsStreamed xid streamed surviving changes =
    (work : Work) × IsWork work × AllDiffer (xid ∷ xids_of work) × (surviving_changes work ≡ changes)
    × IsStreamOf work xid streamed surviving

-- Where each item and abort is nested, the items that survive are those of some work, if each
-- change among them is described.
abbrev pub NestedIsStreamed : Type 0
NestedIsStreamed =
    (xid : ℕ) (streamed : List StreamedItem) (n : Nesting) → nest (at_end xid) (marks streamed) ≡ Ok n
    → (surviving : List Item) × (map what_of surviving ≡ whats n.surviving)
    × ((earlier : List RelationDef) (changes : List RowChange) → described earlier surviving ≡ Ok changes
    → IsStreamed xid streamed surviving changes)

-- Where one doesn't fit, they are those of no work.
abbrev pub MisfitIsNotStreamed : Type 0
MisfitIsNotStreamed =
    (xid : ℕ) (streamed : List StreamedItem) (x : Noted) → nest (at_end xid) (marks streamed) ≡ Err x
    → (work : Work) (surviving : List Item) → AllDiffer (xid ∷ xids_of work) → IsStreamOf work xid streamed surviving → ⊥
