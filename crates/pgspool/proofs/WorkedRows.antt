-- Worked rows, as the definitions give them: what items cost, and what cuts leave.
use Rattle.std.proofs.Common.{◌≡◌, ◌∷◌, ◌++◌, [], List, ℕ, true, false, refl, negsuc}
use Rattle.std.specs.Prelude.{codes}
use Rattle.pgtuple.specs.Cells.{tuple_spelling}
use Rattle.pgtuple.specs.declared.cell.Cell.TheVariants.{Text}
use Rattle.pglogical.specs.Spelling.{item_spelling}
use Rattle.pglogical.specs.declared.message.Item.{Item}
use Rattle.pglogical.specs.declared.message.Item.TheVariants.{Relation, Insert}
use Rattle.pgspool.specs.Labels.{LabelledItem, cut, items_of, cost, costs}

-- public.t (id integer key, v text)
abbrev t : Item
t = Relation (record {
  oid = 16384;
  namespace = codes "public";
  name = codes "t";
  letter = 100;
  columns = record { key = true; name = codes "id"; type_oid = 23; modifier = negsuc 0 }
      ∷ record { key = false; name = codes "v"; type_oid = 25; modifier = negsuc 0 } ∷ [];
})

-- public.w (id integer key, v text, w text)
abbrev w : Item
w = Relation (record {
  oid = 16385;
  namespace = codes "public";
  name = codes "w";
  letter = 100;
  columns = record { key = true; name = codes "id"; type_oid = 23; modifier = negsuc 0 }
      ∷ record { key = false; name = codes "v"; type_oid = 25; modifier = negsuc 0 }
      ∷ record { key = false; name = codes "w"; type_oid = 25; modifier = negsuc 0 } ∷ [];
})

abbrev insert_t : List ℕ → List ℕ → Item
insert_t id v = Insert 16384 (Text id ∷ Text v ∷ [])

abbrev insert_w : List ℕ → List ℕ → List ℕ → Item
insert_w id v third = Insert 16385 (Text id ∷ Text v ∷ Text third ∷ [])

-- a Relation message of 40 bytes outside a block, and Inserts of 20 and 26
cost-t : cost t ≡ 48
unfolding item_spelling
cost-t = refl

cost-insert_t : cost (insert_t (codes "1") (codes "a")) ≡ 28
unfolding item_spelling tuple_spelling
cost-insert_t = refl

cost-w : cost w ≡ 59
unfolding item_spelling
cost-w = refl

cost-insert_w : cost (insert_w (codes "1") (codes "p") (codes "q")) ≡ 34
unfolding item_spelling tuple_spelling
cost-insert_w = refl

-- one transaction with two subtransactions, of which one is inside the other's items
abbrev until_22 : List LabelledItem
until_22 = (20, t) ∷ (20, insert_t (codes "1") (codes "a")) ∷ (21, w) ∷ (21, insert_w (codes "1") (codes "p") (codes "q"))
    ∷ (21, insert_t (codes "2") (codes "b")) ∷ []

abbrev behind_22 : List LabelledItem
behind_22 = (22, insert_t (codes "3") (codes "c")) ∷ (21, insert_t (codes "4") (codes "d")) ∷ []

abbrev later : List LabelledItem
later = (20, w) ∷ (20, insert_w (codes "2") (codes "r") (codes "s")) ∷ []

all_held : costs (until_22 ++ behind_22) ≡ 253
unfolding item_spelling tuple_spelling
all_held = refl

before_the_last : costs (until_22 ++ (22, insert_t (codes "3") (codes "c")) ∷ []) ≡ 225
unfolding item_spelling tuple_spelling
before_the_last = refl

cut_22 : cut 22 (until_22 ++ behind_22) ≡ until_22
cut_22 = refl

after_cut_22 : costs (cut 22 (until_22 ++ behind_22)) ≡ 197
unfolding item_spelling tuple_spelling
after_cut_22 = refl

cut_21 : cut 21 until_22 ≡ (20, t) ∷ (20, insert_t (codes "1") (codes "a")) ∷ []
cut_21 = refl

after_cut_21 : costs (cut 21 (cut 22 (until_22 ++ behind_22))) ≡ 76
unfolding item_spelling tuple_spelling
after_cut_21 = refl

at_the_end : costs (cut 21 (cut 22 (until_22 ++ behind_22)) ++ later) ≡ 169
unfolding item_spelling tuple_spelling
at_the_end = refl

surviving : items_of (cut 21 (cut 22 (until_22 ++ behind_22)) ++ later) ≡ t ∷ insert_t (codes "1") (codes "a") ∷ w
    ∷ insert_w (codes "2") (codes "r") (codes "s") ∷ []
surviving = refl

dropped : costs [] ≡ 0
dropped = refl

-- labels that return behind another's items
abbrev returning : List LabelledItem
returning = (51, insert_t (codes "1") (codes "a")) ∷ (52, insert_t (codes "2") (codes "b")) ∷ (51, insert_t (codes "3") (codes "c")) ∷ []

cut_between : cut 52 returning ≡ (51, insert_t (codes "1") (codes "a")) ∷ []
cut_between = refl

cut_from_the_first : cut 51 returning ≡ []
cut_from_the_first = refl

cut_unseen : cut 53 returning ≡ returning
cut_unseen = refl
