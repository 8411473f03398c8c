-- Changes that come part after part.
use Rattle.std.proofs.Common.{◌≡◌, ◌≤◌, ◌<◌, ◌^◌, ℕ, zero, suc, List, [], ◌∷◌, ◌++◌, Bool, false}
use Rattle.std.proofs.Common.{IsTrue, refl, sym, ap, subst, ◌∙◌}
use Rattle.std.proofs.Common.{append_assoc}
use Rattle.std.proofs.Common.{arith}
use Rattle.std.specs.Prelude.{◌==◌}
use Rattle.std.proofs.lemmas.List.{append-nil}
use Rattle.sqlite.specs.Effect.{Database}
use Rattle.sqlite.specs.Store.{Ghosts}
use Rattle.sqlite.specs.State.{HasCleanDisk}
use Rattle.sqlite.specs.View.{doubt}
use Rattle.pglogical.specs.declared.message.RelationDef.{RelationDef}
use Rattle.pgtables.specs.Kept.{tables_in}
use Rattle.pgrows.specs.Rows.{Drops, Marks, state, tables_of}
use Rattle.pgapply.specs.declared.op.Op.{Op}
use Rattle.pgapply.specs.declared.fault.StoreFault.{StoreFault}
use Rattle.pgapply.specs.declared.misses.Misses.{Misses}
use Rattle.pgapply.specs.Works.{change_value, change_values}
use Rattle.pgapply.specs.Apply.{Change, ◌>>=◌, fold_changes}
use Rattle.pgapply.specs.Missing.{all_missing, with_misses}
use Rattle.pgapply.specs.Tallies.{Tally}
use Rattle.pgapply.specs.Stored.{IsFault}
use Rattle.pgencoded.specs.Acts.{CountsFrom, Folds, Goes, none_given}
use Rattle.pgencoded.specs.Spelled.{IsStored}
use Rattle.pgencoded.proofs.Deciding.{fault_first}
use Rattle.pgstore.specs.Parted.{HasStagedParts, RefusesChanges, StagesParts, TakesParts}
use Rattle.pgstore.specs.StoreValue.{Group, IsGroup, IsStore, staged_of}
use Rattle.pgstore.proofs.Applying.{fold_append, fold_none, nothing_given}
use Rattle.pgstore.proofs.Behind.{stages}
use Rattle.pgstore.proofs.Counting.{counted_more, counted_none}
use Rattle.pgstore.proofs.Groups.{staged_group}

-- ---- any changes are those of a work: each has a definition of its own

definitions_of : List Change → List RelationDef
definitions_of [] = []
definitions_of (c ∷ cs) = c.definition ∷ definitions_of cs

one_up : List (ℕ × Op) → List (ℕ × Op)
one_up [] = []
one_up (e ∷ es) = (suc e.0, e.1) ∷ one_up es

entries_of : List Change → List (ℕ × Op)
entries_of [] = []
entries_of (c ∷ cs) = (zero, c.op) ∷ one_up (entries_of cs)

values_up : (def : RelationDef) (defs : List RelationDef) (es : List (ℕ × Op))
    → change_values (def ∷ defs) (one_up es) ≡ change_values defs es
unfolding one_up
values_up def defs [] = refl
values_up def defs (e ∷ es) = ap (λ l. change_value defs e ++ l) (values_up def defs es)

values_are : (cs : List Change) → change_values (definitions_of cs) (entries_of cs) ≡ cs
unfolding definitions_of entries_of
values_are [] = refl
values_are (c ∷ cs) = ap (λ l. c ∷ l) (values_up c.definition (definitions_of cs) (entries_of cs) ∙ values_are cs)

-- ---- one part after the other

module _ {S : Type 0} (g : Ghosts S) where
  pub takes_none : (a : S) (is_honest : Type 0) (all : List Change) (end : ℕ) (before : Misses) → IsTrue (state g a).is_open
      → TakesParts g a a is_honest all all end before before
  takes_none a is_honest all end before still = record {
    changes = [];
    are = λ _. refl;
    folds = (record { was_open = still; is_open = still }, λ v h. (v, fold_none v, h));
    counts = λ v h. counted_none v end before;
  }

  -- the changes of a work
  pub takes_part : (a b : S) (definitions : List RelationDef) (entries : List (ℕ × Op)) (is_honest : Type 0) (here : List Change) (end : ℕ)
      (before behind : Misses) → (is_honest → change_values definitions entries ≡ here) → Folds g a b definitions entries none_given
      → CountsFrom (tables_of g a) definitions entries end before behind → TakesParts g a b is_honest here [] end before behind
  takes_part a b definitions entries is_honest here end before behind are folds counts = record {
    changes = change_values definitions entries;
    are = λ honest. sym (append-nil (change_values definitions entries) ∙ are honest);
    folds = (folds.0, λ v h. let f = folds.1 v h in (f.0, f.1, f.2));
    counts = counts;
  }

  module _ (a b : S) (was_honest is_honest : Type 0) (all left here rest : List Change) (end : ℕ) (before between : Misses)
      (was : is_honest → was_honest) (steps : is_honest → left ≡ here ++ rest)
      (one : TakesParts g a b was_honest all left end before between) where
    -- a part more
    pub takes_more : (c : S) (behind : Misses) → TakesParts g b c is_honest here [] end between behind
        → TakesParts g a c is_honest all rest end before behind
    takes_more c behind next = record {
      changes = one.changes ++ next.changes;
      are = λ honest.
          one.are (was honest)
          ∙ ap (λ l. one.changes ++ l) (steps honest ∙ ap (λ l. l ++ rest) (next.are honest ∙ append-nil next.changes))
          ∙ sym (append_assoc one.changes next.changes rest);
      folds = (
        record { was_open = one.folds.0.was_open; is_open = next.folds.0.is_open },
        λ v h.
            let f = one.folds.1 v h in
            let n = next.folds.1 f.0 f.2 in (
              n.0,
              fold_append one.changes next.changes v ∙ ap (λ r. r >>= λ t. fold_changes t next.changes) f.1 ∙ n.1,
              n.2,
            ),
      );
      counts = λ v h.
          let f = one.folds.1 v h in
          next.counts f.0 f.2 ∙ ap (λ m. with_misses m end (all_missing f.0 next.changes)) (one.counts v h)
          ∙ sym (counted_more v f.0 one.changes next.changes end before f.1);
    }

    -- a part is refused
    pub parts_refuse : (fault : StoreFault) → is_honest → RefusesChanges (tables_of g b) here fault
        → RefusesChanges (tables_of g a) all fault
    parts_refuse fault honest refuses v h =
        let f = one.folds.1 v h in
        subst (λ cs. IsFault fault (fold_changes v cs)) (sym (one.are (was honest) ∙ ap (λ l. one.changes ++ l) (steps honest)))
        (subst (IsFault fault) (sym
        (fold_append one.changes (here ++ rest) v ∙ ap (λ r. r >>= λ t. fold_changes t (here ++ rest)) f.1 ∙ fold_append here rest f.0))
        (fault_first fault (fold_changes f.0 here) (λ t. fold_changes t rest) (refuses f.0 f.2)))

  -- none is left
  pub takes_all : (a b : S) (was_honest is_honest : Type 0) (all left : List Change) (end : ℕ) (before behind : Misses)
      → (is_honest → was_honest) → (is_honest → left ≡ []) → TakesParts g a b was_honest all left end before behind
      → TakesParts g a b is_honest all [] end before behind
  takes_all a b was_honest is_honest all left end before behind was none one = record {
    changes = one.changes;
    are = λ honest. one.are (was honest) ∙ ap (λ l. one.changes ++ l) (none honest);
    folds = one.folds;
    counts = one.counts;
  }

  -- ---- behind a savepoint

  pub stages_parts : (old marked made new : S) (is_honest : Type 0) (all : List Change) (end : ℕ) (before behind : Misses)
      → Marks (state g old) (state g marked) → Goes g marked made → HasCleanDisk (state g made)
      → TakesParts g marked made is_honest all [] end before behind → Drops (state g made) (state g new)
      → StagesParts g old new is_honest all end before behind
  stages_parts old marked made new is_honest all end before behind marks goes clean takes drops =
      let cs = takes.changes in
      let are = values_are cs in
      record {
        definitions = definitions_of cs;
        changes = entries_of cs;
        are = λ honest. are ∙ sym (takes.are honest ∙ append-nil cs);
        stages = stages g old marked made new marks goes clean (definitions_of cs) (entries_of cs)
            (record {
              goes = goes;
              made = λ _ _. (
                takes.folds.0,
                λ v h.
                    let f = takes.folds.1 v h in
                    (f.0, ap (fold_changes v) are ∙ f.1, f.2, nothing_given (definitions_of cs) none_given f.0 (λ q. refl)),
              );
            }) drops;
        counts = λ v h.
            takes.counts v (subst (λ (d : Database). IsStored v (tables_in d.trees)) (sym marks.now_is) h)
            ∙ ap (λ l. with_misses before end (all_missing v l)) (sym are);
      }

-- ---- behind what was staged

pub parted_group : {S : Type 0} (g : Ghosts S) (old new : S) (position : ℕ) (group : Group) (is_first : Bool)
    (first : is_first ≡ (group.reach == position)) (doubts : doubt (state g old).is_clean ≤ doubt (state g new).is_clean)
    (is_honest : Type 0) (all : List Change) (end : ℕ) (before misses : Misses) (tally : Tally) → group.reach < end → end < 2 ^ 64
    → group.is_lost ≡ false → IsStore g old position → IsGroup g old position group
    → (HasCleanDisk (state g new) → HasStagedParts g is_first old new is_honest all end before misses)
    → IsGroup g new position (staged_of end tally group)
parted_group g old new position group is_first first doubts is_honest all end before misses tally later range not store is staged =
    let order = is.order in
    record {
      order = omega (arith, order, later);
      range = range;
      counted = λ here. absurd (let never : ⊥ = omega (arith, order, later, here) in never);
      some = λ lost. absurd (let never : ⊥ = cc in never);
      stored = λ more stands clean still.
          let it = staged clean in
          (staged_group g old new position group is_first first doubts it.definitions it.changes _ refl end tally later range not store is
          (λ _. it.staged)).stored more stands clean still;
    }
