-- Worked rows: the bytes that are stored of items, and what is read of them.
use Rattle.std.proofs.Common.{◌≡◌, ◌∷◌, ◌++◌, [], List, ℕ, refl}
use Rattle.std.specs.Prelude.{codes}
use Rattle.pgtuple.specs.Cells.{tuple_spelling}
use Rattle.pgtuple.specs.declared.cell.Cell.TheVariants.{Text}
use Rattle.pglogical.specs.Spelling.{item_spelling}
use Rattle.pglogical.specs.declared.message.Item.TheVariants.{Insert}
use Rattle.pgspool.specs.Labels.{LabelledItem}
use Rattle.pgfilespools.specs.Stored.{stored_item, number_at, size_at, others_at}

-- an Insert of relation 5 with the one cell 'a', of subtransaction 258
abbrev one : LabelledItem
one = (258, Insert 5 (Text (codes "a") ∷ []))

-- 'I', the relation, 'N', one cell, 't', its length, 'a'
abbrev one_stored : List ℕ
one_stored = 0 ∷ 0 ∷ 1 ∷ 2
    ∷ 0 ∷ 0 ∷ 0 ∷ 14
    ∷ 73 ∷ 0 ∷ 0 ∷ 0 ∷ 5 ∷ 78 ∷ 0 ∷ 1 ∷ 116 ∷ 0 ∷ 0 ∷ 0 ∷ 1 ∷ 97 ∷ []

stored-one : stored_item one ≡ one_stored
unfolding item_spelling tuple_spelling
stored-one = refl

label-one : number_at (one_stored ++ one_stored) ≡ 258
label-one = refl

size-one : size_at (one_stored ++ one_stored) ≡ 14
size-one = refl

-- behind the first one the second begins
others-one : others_at (one_stored ++ one_stored) ≡ one_stored
others-one = refl
