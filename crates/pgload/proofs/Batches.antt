-- A batch's rows, one after the other.
use Rattle.std.proofs.Common.{◌≡◌, ◌<◌, ◌+◌, ◌++◌, ℕ, List, [], ◌∷◌, length, take, drop, ◌-◌, Some}
use Rattle.std.proofs.Common.{Result, Ok, Err, refl, sym, ap, subst, ◌∙◌, arith, append-nil}
use Rattle.std.proofs.Common.{append_assoc, length-append, length-drop}
use Rattle.std.proofs.lemmas.List.{take_at}
use Rattle.std.specs.Prelude.{slice_get}
use Rattle.std.specs.List.{flat_map}
use Rattle.pgtuple.specs.declared.cell.Cell.{Cell}
use Rattle.pgtuple.specs.declared.fault.TupleFault.{TupleFault}
use Rattle.pgtuple.specs.Cells.{tuple_spelling}
use Rattle.pgtuple.specs.Reading.{tuple_at}
use Rattle.pgtuple.proofs.Tuples.{tuple_again}
use Rattle.pglogical.specs.declared.message.RelationDef.{RelationDef}
use Rattle.pgapply.specs.declared.op.Op.TheVariants as op
use Rattle.pgapply.specs.Apply.{Change}
use Rattle.pgload.specs.Loads.{inserts}
use Rattle.pgload.specs.Loading.{AreRowsIn}

-- of these rows some were added to the changes, and the others are left
pub record IsAddedTo (definitions : List RelationDef) (def : ℕ) (before after : List Change) (rest : List ℕ) (cells : List (List Cell)) :
    Type 0 where
  pub done : List (List Cell)
  pub left : List (List Cell)
  pub all : cells ≡ done ++ left
  pub rows : AreRowsIn rest left
  pub changes : (definition : RelationDef) → slice_get definitions def ≡ Some definition → after ≡ before ++ inserts definition done

pub none_added : (definitions : List RelationDef) (def : ℕ) (before : List Change) (rest : List ℕ) (cells : List (List Cell))
    → AreRowsIn rest cells → IsAddedTo definitions def before before rest cells
none_added definitions def before rest cells are =
    record { done = []; left = cells; all = refl; rows = are; changes = λ definition _. sym (append-nil before) }

-- what is read of rows that are left
read_first : (row : List Cell) (left : List (List Cell)) (rest : List ℕ) → AreRowsIn rest (row ∷ left)
    → tuple_at rest ≡ Ok (row, (length (tuple_spelling row), flat_map tuple_spelling left))
read_first row left rest are =
    subst (λ bytes. tuple_at bytes ≡ Ok (row, (length (tuple_spelling row), flat_map tuple_spelling left))) (sym are.spelled)
    (tuple_again row (flat_map tuple_spelling left) are.wire.0)

same_read : {A : Type 0} {a b : A} → ◌≡◌ {A = Result A TupleFault} (Ok a) (Ok b) → a ≡ b
same_read e = cc

nothing_read : (len : ℕ) (row : List Cell) (more : List ℕ) → 0 < length (tuple_spelling row) → [] ≡ tuple_spelling row ++ more → ⊥
nothing_read len row more some e = absurd (omega (arith, simp length-append at (ap length e)))

inserts-push : (definition : RelationDef) (done : List (List Cell)) (row : List Cell)
    → inserts definition (done ++ row ∷ []) ≡ inserts definition done ++ record { definition = definition; op = op.Insert row } ∷ []
inserts-push definition [] row = refl
inserts-push definition (first ∷ done) row =
    ap (λ changes. record { definition = definition; op = op.Insert first } ∷ changes) (inserts-push definition done row)

pub inserts-append : (definition : RelationDef) (a b : List (List Cell)) → inserts definition (a ++ b) ≡ inserts definition a ++ inserts
    definition b
inserts-append definition [] b = refl
inserts-append definition (row ∷ a) b = ap (λ changes. record { definition = definition; op = op.Insert row } ∷ changes) (inserts-append
    definition a b)

module _ (definitions : List RelationDef) (def : ℕ) (before middle : List Change) (rest : List ℕ) (cells : List (List Cell)) where
  -- one more was read, and added
  pub one_added : (row : List Cell) (len : ℕ) (after : List Change) → IsAddedTo definitions def before middle rest cells
      → tuple_at rest ≡ Ok (row, (len, drop len rest)) → 0 < length (tuple_spelling row)
      → rest ≡ tuple_spelling row ++ drop len rest
      → ((definition : RelationDef) → slice_get definitions def ≡ Some definition
      → after ≡ middle ++ record { definition = definition; op = op.Insert row } ∷ [])
      → IsAddedTo definitions def before after (drop len rest) cells
  one_added row len after is read some spelled adds = go is.left is.all is.rows
    where
      go : (left : List (List Cell)) → cells ≡ is.done ++ left → AreRowsIn rest left
          → IsAddedTo definitions def before after (drop len rest) cells
      go [] all rows = absurd (nothing_read len row (drop len rest) some (sym rows.spelled ∙ spelled))
      go (first ∷ left) all rows =
          let same = same_read (sym read ∙ read_first first left rest rows) in
          let row_is : row ≡ first = ap (λ (p : List Cell × (ℕ × List ℕ)). p.0) same in
          let rest_is : drop len rest ≡ flat_map tuple_spelling left = ap (λ (p : List Cell × (ℕ × List ℕ)). p.1.1) same in
          record {
            done = is.done ++ row ∷ [];
            left = left;
            all = all ∙ ap (λ r. is.done ++ r ∷ left) (sym row_is) ∙ sym (append_assoc is.done (row ∷ []) left);
            rows = record { spelled = rest_is; wire = rows.wire.1 };
            changes = λ definition at.
                adds definition at ∙ ap (λ changes. changes ++ record { definition = definition; op = op.Insert row } ∷ []) (is.changes
                definition at)
                ∙ append_assoc before (inserts definition is.done) _
                ∙ ap (λ changes. before ++ changes) (sym (inserts-push definition is.done row));
          }

  -- nothing more can be read
  pub all_added : (fault : TupleFault) → IsAddedTo definitions def before middle rest cells → tuple_at rest ≡ Err fault
      → (definition : RelationDef) → slice_get definitions def ≡ Some definition → middle ≡ before ++ inserts definition cells
  all_added fault is read definition at = go is.left is.all is.rows
    where
      go : (left : List (List Cell)) → cells ≡ is.done ++ left → AreRowsIn rest left → middle ≡ before ++ inserts definition cells
      go [] all rows = is.changes definition at ∙ ap (λ rows. before ++ inserts definition rows) (sym (all ∙ append-nil is.done))
      go (first ∷ left) all rows = absurd (let e = sym read ∙ read_first first left rest rows in let no : ⊥ = cc in no)

-- a tuple's encoding has two bytes at least
pub some_spelled : (row : List Cell) → 0 < length (tuple_spelling row)
unfolding tuple_spelling
some_spelled row = omega arith

-- what is left of a slice
pub left_of : (bytes : List ℕ) (len : ℕ) → take (length bytes - len) (drop len bytes) ≡ drop len bytes
left_of bytes len = ap (take (length bytes - len)) (sym (append-nil (drop len bytes)))
    ∙ take_at (drop len bytes) [] (length bytes - len) (length-drop len bytes)

pub is_smaller : (bytes : List ℕ) (row : List Cell) (len : ℕ) → len ≡ length (tuple_spelling row)
    → bytes ≡ tuple_spelling row ++ drop len bytes → length (take (length bytes - len) (drop len bytes)) < length bytes
is_smaller bytes row len is spelled =
    let some : 0 < length (tuple_spelling row) = some_spelled row in
    let all : length bytes ≡ length (tuple_spelling row) + length (drop len bytes) =
    ap length spelled ∙ length-append (tuple_spelling row) (drop len bytes) in
    subst (λ it. length it < length bytes) (sym (left_of bytes len)) (omega (arith, some, all))

-- the one definition of a work
pub first_defined : (none definitions : List RelationDef) (number : ℕ) (def same : RelationDef) → none ≡ [] → number ≡ length none
    → definitions ≡ none ++ def ∷ [] → def ≡ same → slice_get definitions number ≡ Some same
first_defined none definitions number def same n is all e = rw (all, is, n, e) refl

pub work_has : (none middle after : List Change) (definition : RelationDef) (cells : List (List Cell)) → none ≡ [] → middle ≡ none
    → after ≡ middle ++ inserts definition cells → after ≡ inserts definition cells
work_has none middle after definition cells n same e = e ∙ ap (λ before. before ++ inserts definition cells) (same ∙ n)
