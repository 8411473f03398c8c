-- One change after the other.
use Rattle.std.proofs.Common.{◌≡◌, ℕ, List, [], ◌∷◌, ◌++◌, append-nil, Bool, cond, Option, Some, Ok}
use Rattle.std.proofs.Common.{IsTrue, refl, sym, ap, subst, ◌∙◌, arith}
use Rattle.std.specs.Prelude.{slice_get, if◌then◌else◌}
use Rattle.std.specs.FinMap as map
use Rattle.std.specs.Cmp.{unsigned_Decides}
use Rattle.sqlite.specs.Store.{Ghosts}
use Rattle.sqlite.specs.State.{HasCleanDisk}
use Rattle.pglogical.specs.declared.message.RelationDef.{RelationDef}
use Rattle.pgtables.specs.Kept as stored
use Rattle.pgrows.specs.Rows.{state, tables_of}
use Rattle.pgapply.specs.declared.op.Op.{Op}
use Rattle.pgapply.specs.declared.fault.StoreFault.{StoreFault}
use Rattle.pgapply.specs.Value.{Rows, Tables}
use Rattle.pgapply.specs.Apply.{Change, ◌>>=◌, apply, fold_changes, found_rows, rows_after}
use Rattle.pgapply.specs.Stored.{IsFault}
use Rattle.pgapply.specs.declared.misses.Misses.{Misses}
use Rattle.pgapply.specs.Missing.{all_missing, with_miss, with_misses}
use Rattle.pgapply.specs.Works.{change_value, change_values, defined_by}
use Rattle.pgapply.proofs.Working.{values_append}
use Rattle.pglogical.specs.Spelling.{IsDefinition}
use Rattle.pgencoded.specs.Spelled.{IsReadable, IsChanging, IsStored}
use Rattle.pgencoded.specs.Acts.{AreGiven, Changes, CountsFrom, Finds, FoldsOn, Goes, IfOpened}
use Rattle.pgencoded.specs.Acts.{MakesOf, Notes, Refuses, RefusesToFold, RefusesToGive}
use Rattle.pgencoded.specs.Acts.{TellsMissing}
use Rattle.pgstore.specs.Steps.{CountsAll, RefusesAll, StepsAll}
use Rattle.pgledger.specs.declared.image.Image.{Image}
use Rattle.pgledger.specs.Images.{images}
use Rattle.pgencoded.proofs.Going.{goes_then}
use Rattle.pgencoded.proofs.Deciding.{fault_first}
use Rattle.pgchanging.specs.Looks.{StaysOpen, Tells, TellsAll, TellsFrom, told_more}
use Rattle.pgchanging.proofs.ToldImages.{told_one, told_then}
use Rattle.pgstore.proofs.Counting.{counted_more, counted_one}
use Rattle.pgstore.proofs.Applying.{applied, refused_first, refused_then, was_given, given_then}
use Rattle.pgstore.proofs.Applying.{fold_one, fold_append}

fold_first : (v next : Tables) (change : Change) (more : List Change) → apply v change ≡ Ok next
    → fold_changes v (change ∷ more) ≡ fold_changes next more
unfolding fold_changes
fold_first v next change more made = ap (λ r. r >>= λ next. fold_changes next more) made

module _ (definitions : List RelationDef) (number : ℕ) (def : RelationDef) (at : slice_get definitions number ≡ Some def) where
  value_is : (e : ℕ × Op) → e.0 ≡ number → change_value definitions e ≡ record { definition = def; op = e.1 } ∷ []
  value_is e under = ap (λ o. defined_by o e.1) (ap (slice_get definitions) under ∙ at)

  first_refused : (e : ℕ × Op) (more : List (ℕ × Op)) → e.0 ≡ number → (fault : StoreFault) (v : Tables)
      → IsFault fault (apply v (record { definition = def; op = e.1 }))
      → IsFault fault (fold_changes v (change_values definitions (e ∷ more)))
  first_refused e more under fault v refused =
      subst (IsFault fault) (sym (fold_append (change_value definitions e) (change_values definitions more) v))
      (fault_first fault (fold_changes v (change_value definitions e)) (λ next. fold_changes next (change_values definitions more))
      (subst (IsFault fault) (sym (ap (fold_changes v) (value_is e under) ∙ fold_one v (record { definition = def; op = e.1 }))) refused))

  -- its definition is refused
  pub give_refuses : {S : Type 0} (g : Ghosts S) (old : S) (given : ℕ → Option ℕ) (e : ℕ × Op) (more : List (ℕ × Op)) (fault : StoreFault)
      → e.0 ≡ number → RefusesToGive g old def e.1 fault → RefusesAll g old definitions given (e ∷ more) fault
  give_refuses g old given e more fault under refuses v h are =
      first_refused e more under fault v (refused_first v def e.1 fault (refuses v h))

module _ (definitions : List RelationDef) (given after : ℕ → Option ℕ) (number : ℕ) (def : RelationDef)
    (at : slice_get definitions number ≡ Some def) (definition : IsDefinition def) (notes : Notes given def number after) where
  noted : after def.oid ≡ Some number
  noted = notes def.oid ∙ ap (λ b. cond b (Some number) (given def.oid)) ((unsigned_Decides def.oid def.oid).1 refl)

  -- a change is made to the rows that it found under its definition
  first_done : (v : Tables) (t : stored.Tables) (op : Op) (rows : Rows) (next : stored.Tables) → IsStored v t → IsReadable def
      → AreGiven definitions given v
      → found_rows (map.get v def.oid) def op ≡ Ok rows → MakesOf v def (rows_after def op rows) next
      → (v' : Tables) × (apply v (record { definition = def; op = op }) ≡ Ok v') × IsStored v' next × AreGiven definitions after v'
  first_done v t op rows next h readable are found made =
      let one = applied v def op t h (record { definition = definition; readable = readable }) rows next found made in
      (one.0, one.1, one.2, given_then definitions given number def v at are one.0 op after one.1 one.3 notes)

  module _ {S : Type 0} (g : Ghosts S) (old mid new : S) (e : ℕ × Op) (under : e.0 ≡ number) (finds : Finds g old mid given def e) where
    rows_found : (v : Tables) → IsStored v (tables_of g old) → AreGiven definitions given v
        → (rows : Rows) × (found_rows (map.get v def.oid) def e.1 ≡ Ok rows) × IsChanging v def rows (tables_of g mid) × IsReadable def
    rows_found v h are = finds.1 v h (λ is. was_given definitions given number def v at are (is ∙ ap Some under))

    pub one_steps : Changes g mid new def (rows_after def e.1) → StepsAll g old new definitions given (e ∷ []) after
    one_steps changes = (
      record { was_open = finds.0.was_open; is_open = changes.0.is_open },
      λ v h are.
          let found = rows_found v h are in
          let made = changes.1 v found.0 found.2 in
          let one = first_done v (tables_of g old) e.1 found.0 (tables_of g new) h found.3 are found.1 made in (
            one.0,
            ap (fold_changes v) (append-nil (change_value definitions e) ∙ value_is definitions number def at e under)
                ∙ fold_one v (record { definition = def; op = e.1 }) ∙ one.1,
            one.2,
            one.3,
          ),
    )

    -- the change is refused
    pub one_refuses : (fault : StoreFault) (more : List (ℕ × Op)) → Refuses g mid def (rows_after def e.1) fault
        → RefusesAll g old definitions given (e ∷ more) fault
    one_refuses fault more refuses v h are =
        let found = rows_found v h are in
        first_refused definitions number def at e more under fault v
        (refused_then v def e.1 fault found.0 found.1 (refuses v found.0 found.2))

    -- whether it finds no row is counted
    pub one_counts : (end : ℕ) (before behind : Misses) (missed : Bool) → TellsMissing g mid def e.1 missed
        → behind ≡ (if missed then with_miss before end def.oid else before) → CountsAll g old definitions given (e ∷ []) end before behind
    one_counts end before behind missed tells noted v h are =
        let found = rows_found v h are in
        counted_one v def e.1 found.0 found.1 end before behind missed (tells v found.0 found.2) noted
        ∙ ap (λ cs. with_misses before end (all_missing v cs))
        (sym (append-nil (change_value definitions e) ∙ value_is definitions number def at e under))

    -- what it does to one row is told
    pub one_tells : (before after : Option (List Image)) → Tells g mid def e.1 before after
        → TellsAll g old definitions given (e ∷ []) before after
    one_tells before after tells v h are =
        let found = rows_found v h are in
        told_one v def e.1 found.0 found.1 before after (tells v found.0 found.2)
        ∙ ap (λ cs. told_more before (images v cs))
        (sym (append-nil (change_value definitions e) ∙ value_is definitions number def at e under))

-- what was found stands where nothing changes
pub finds_stays : {S : Type 0} (g : Ghosts S) (old mid next : S) (given : ℕ → Option ℕ) (def : RelationDef) (e : ℕ × Op)
    → Finds g old mid given def e → StaysOpen g mid next → Finds g old next given def e
finds_stays g old mid next given def e finds stays = (
  record { was_open = finds.0.was_open; is_open = stays.0.is_open },
  λ v h given. let f = finds.1 v h given in (f.0, f.1, subst (IsChanging v def f.0) (sym stays.1) f.2, f.3),
)

module _ {S : Type 0} (g : Ghosts S) (a b c : S) (definitions : List RelationDef) (entries more : List (ℕ × Op))
    (given after : ℕ → Option ℕ) where
  -- what is folded behind some changes
  folds_then : (v : Tables)
      → fold_changes v (change_values definitions (entries ++ more))
      ≡ (fold_changes v (change_values definitions entries) >>= λ next. fold_changes next (change_values definitions more))
  folds_then v = ap (fold_changes v) (values_append definitions entries more)
      ∙ fold_append (change_values definitions entries) (change_values definitions more) v

  -- some changes more
  pub folds_all : FoldsOn g a b definitions entries given → IfOpened g b c (StepsAll g b c definitions given more after) → Goes g b c
      → FoldsOn g a c definitions (entries ++ more) after
  folds_all one step goes = record {
    goes = goes_then g a b c one.goes goes.keeps goes.survives;
    made = λ clean still.
        let first = one.made (omega (arith, goes.survives.clean)) still in
        let next = step clean first.0.is_open in (
          record { was_open = still; is_open = next.0.is_open },
          λ v h.
              let before = first.1 v h in
              let after = next.1 before.0 before.2 before.3 in (
                after.0,
                folds_then v ∙ ap (λ r. r >>= λ next. fold_changes next (change_values definitions more)) before.1 ∙ after.1,
                after.2,
                after.3,
              ),
        );
  }

  pub folds_refuse : (fault : StoreFault) → FoldsOn g a b definitions entries given → RefusesAll g b definitions given more fault
      → HasCleanDisk (state g b) → IsTrue (state g a).is_open → RefusesToFold (tables_of g a) definitions (entries ++ more) fault
  folds_refuse fault one refuses clean still v h =
      let before = (one.made clean still).1 v h in
      subst (IsFault fault) (sym (folds_then v ∙ ap (λ r. r >>= λ next. fold_changes next (change_values definitions more)) before.1))
      (refuses before.0 before.2 before.3)

  -- and those of all that found no row
  pub folds_count : (end : ℕ) (before between behind : Misses) → FoldsOn g a b definitions entries given
      → CountsFrom (tables_of g a) definitions entries end before between → CountsAll g b definitions given more end between behind
      → HasCleanDisk (state g b) → IsTrue (state g a).is_open → CountsFrom (tables_of g a) definitions (entries ++ more) end before behind
  folds_count end before between behind one first next clean still v h =
      let made = (one.made clean still).1 v h in
      next made.0 made.2 made.3 ∙ ap (λ m. with_misses m end (all_missing made.0 (change_values definitions more))) (first v h)
      ∙ sym (ap (λ cs. with_misses before end (all_missing v cs)) (values_append definitions entries more)
      ∙ counted_more v made.0 (change_values definitions entries) (change_values definitions more) end before made.1)

  -- and what all of them did is told
  pub folds_tell : (before between after : Option (List Image)) → FoldsOn g a b definitions entries given
      → TellsFrom (tables_of g a) definitions entries before between → TellsAll g b definitions given more between after
      → HasCleanDisk (state g b) → IsTrue (state g a).is_open → TellsFrom (tables_of g a) definitions (entries ++ more) before after
  folds_tell before between after one first next clean still v h =
      let made = (one.made clean still).1 v h in
      next made.0 made.2 made.3 ∙ ap (λ m. told_more m (images made.0 (change_values definitions more))) (first v h)
      ∙ told_then v made.0 (change_values definitions entries) (change_values definitions more) before made.1
      ∙ sym (ap (λ cs. told_more before (images v cs)) (values_append definitions entries more))

-- a change that is refused is refused whatever follows it
pub refuses_more : {S : Type 0} (g : Ghosts S) (a : S) (definitions : List RelationDef) (given : ℕ → Option ℕ) (e : ℕ × Op)
    (more : List (ℕ × Op)) (fault : StoreFault) → RefusesAll g a definitions given (e ∷ []) fault
    → RefusesAll g a definitions given (e ∷ more) fault
refuses_more g a definitions given e more fault refuses v h are =
    subst (IsFault fault) (sym
    (ap (fold_changes v) (values_append definitions (e ∷ []) more)
    ∙ fold_append (change_values definitions (e ∷ [])) (change_values definitions more) v))
    (fault_first fault (fold_changes v (change_values definitions (e ∷ []))) (λ next. fold_changes next (change_values definitions more))
    (refuses v h are))
