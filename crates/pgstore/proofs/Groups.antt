-- What holds of the commits that are staged, and what becomes of them.
use Rattle.std.proofs.Common.{◌≡◌, ◌≢◌, ◌≤◌, ◌<◌, ◌^◌, inl, inr, ℕ, Bool, true, false, List, Ok}
use Rattle.std.proofs.Common.{◌++◌, Option}
use Rattle.std.proofs.Common.{IsTrue, refl, sym, ap, subst, ◌∙◌, arith}
use Rattle.std.specs.Prelude.{◌==◌}
use Rattle.std.specs.Int.{w64, to_be_bytes}
use Rattle.std.specs.Cmp.{unsigned_Decides}
use Rattle.std.proofs.lemmas.Bool.{cases_Bool}
use Rattle.sqlite.specs.Tree.{Trees}
use Rattle.sqlite.specs.Effect.{Database}
use Rattle.sqlite.specs.Store.{Ghosts}
use Rattle.sqlite.specs.View.{doubt}
use Rattle.sqlite.specs.State.{HasCleanDisk, KeepsCommit, Survives}
use Rattle.sqlite.proofs.StateLemmas.{survives_weaker}
use Rattle.pglogical.specs.declared.message.RelationDef.{RelationDef}
use Rattle.pgtables.specs.Kept.{tables_in}
use Rattle.pgrows.specs.Rows.{state, tables_of}
use Rattle.pgapply.specs.declared.commit.About.{About}
use Rattle.pgapply.specs.declared.op.Op.{Op}
use Rattle.pgapply.specs.declared.misses.Misses.{Misses}
use Rattle.pgapply.specs.declared.fault.StoreFault.{StoreFault}
use Rattle.pgapply.specs.Value.{Tables}
use Rattle.pgapply.specs.Works.{change_values}
use Rattle.pgapply.specs.Apply.{Change, fold_changes}
use Rattle.pgapply.specs.Stored.{Stored, IsFault}
use Rattle.pgapply.specs.Missing.{all_missing, with_misses}
use Rattle.pgapply.specs.Tallies.{Counts, Tally, taken_commit}
use Rattle.pgapply.specs.Taken as taken
use Rattle.pgencoded.specs.Spelled.{IsStored}
use Rattle.pgencoded.specs.Acts.{CountsFrom, RefusesToFold, committed_of}
use Rattle.pgstore.specs.Staged.{before_of, HasStaged, KeepsStaged, LeavesSettled, Settles}
use Rattle.pgstore.specs.StoreValue.{Group, IsAtLeast, IsGroup, IsStore, HasTables, Keeps}
use Rattle.pgstore.specs.StoreValue.{LeavesGroup, LeavesSynced, Plans, Serves, StoreValue, begun_at}
use Rattle.pgstore.specs.StoreValue.{lost_of, refused_of, settled_of, staged_of, taken_of}
use Rattle.pgstore.specs.StoreValue.{unstaged_of}
use Rattle.pgstore.proofs.Stores.{IsSettled, at_rest, crash_leaves, open_keeps}

apart : (a b : ℕ) → (a == b) ≡ false → a ≢ b
apart a b differ same = let yes : (a == b) ≡ true = (unsigned_Decides a b).1 same in cc

-- ---- nothing is staged

pub empty_group : {S : Type 0} (g : Ghosts S) (rows : S) (position : ℕ) (group : Group) → position < 2 ^ 64 → group.reach ≡ position
    → group.is_lost ≡ false → group.stages_tally ≡ group.tally → IsGroup g rows position group
empty_group g rows position group range here stands even = record {
  order = omega (arith, here);
  range = omega (arith, here, range);
  counted = λ _. even;
  some = λ lost. absurd (let never : ⊥ = cc in never);
  stored = λ more. absurd (let never : ⊥ = omega (arith, here, more) in never);
}

module _ {S : Type 0} (g : Ghosts S) (rows : S) (position : ℕ) (range : position < 2 ^ 64) (group : Group) where
  pub begun_empty : group ≡ begun_at position → IsGroup g rows position group
  begun_empty is = subst (IsGroup g rows position) (sym is) (empty_group g rows position (begun_at position) range refl refl refl)

  pub unstaged_empty : (before : Group) → group ≡ unstaged_of position before → IsGroup g rows position group
  unstaged_empty before is =
      subst (IsGroup g rows position) (sym is) (empty_group g rows position (unstaged_of position before) range refl refl refl)

  pub taken_empty : (tally : Tally) → group ≡ taken_of position tally → IsGroup g rows position group
  taken_empty tally is = subst (IsGroup g rows position) (sym is)
      (empty_group g rows position (taken_of position tally) range refl refl refl)

module _ {S : Type 0} (g : Ghosts S) (s : StoreValue S) (is : IsGroup g s.rows s.position s.group) (here : s.group.reach ≡ s.position) where
  first_is : (s.group.reach == s.position) ≡ true
  first_is = (unsigned_Decides s.group.reach s.position).1 here

  stands : s.group.is_lost ≡ false
  stands = elim (cases_Bool s.group.is_lost) [
    | inl lost ↦ absurd (let more = is.some lost in let never : ⊥ = omega (arith, here, more) in never)
    | inr not ↦ not
  ]

  pub held_is : taken.Settles (HasTables g) (Plans g) s s
  held_is t plans = subst (λ b. IsStored t (before_of g b s.rows)) first_is (plans stands)

  pub held_begins : taken.Begins (HasTables g) (Plans g) s s
  held_begins t held _ = subst (λ b. IsStored t (before_of g b s.rows)) (sym first_is) held

-- nothing was staged, and nothing is
pub first_group : {S : Type 0} (g : Ghosts S) (old new : S) (position : ℕ) (group : Group) → group.reach ≡ position
    → IsGroup g old position group → IsGroup g new position group
first_group g old new position group here is = record {
  order = is.order;
  range = is.range;
  counted = is.counted;
  some = is.some;
  stored = λ more. absurd (let never : ⊥ = omega (arith, here, more) in never);
}

-- ---- a commit is staged

module _ {S : Type 0} (g : Ghosts S) (old new : S) (position : ℕ) (group : Group) (is_first : Bool)
    (first : is_first ≡ (group.reach == position)) (doubts : doubt (state g old).is_clean ≤ doubt (state g new).is_clean) where
  -- what was staged, by the value of the store
  pub was_planned : (t : Tables) → Plans g (record { rows = old; position = position; group = group }) t → group.is_lost ≡ false
      → IsStored t (before_of g is_first old)
  was_planned t plans not = subst (λ b. IsStored t (before_of g b old)) (sym first) (plans not)

  -- what it is staged behind are tables of a store
  pub before_stored : IsStore g old position → IsGroup g old position group → group.is_lost ≡ false → HasCleanDisk (state g old)
      → IsTrue (state g old).is_open → (v : Tables) × IsStored v (before_of g is_first old)
  before_stored store is not clean still = elim (cases_Bool is_first) [
    | inl one ↦ let v = store.stored clean still in (v.0, subst (λ b. IsStored v.0 (before_of g b old)) (sym one) v.1)
    | inr more ↦
        let order = is.order in
        let other = apart group.reach position (sym first ∙ more) in
        let v = is.stored (omega (arith, order, other)) not clean still in
        (v.0, subst (λ b. IsStored v.0 (before_of g b old)) (sym more) v.1)
  ]

  module _ (definitions : List RelationDef) (entries : List (ℕ × Op)) (changes : List Change)
      (are : change_values definitions entries ≡ changes) where
    pub staged_group : (end : ℕ) (tally : Tally) → group.reach < end → end < 2 ^ 64 → group.is_lost ≡ false → IsStore g old position
        → IsGroup g old position group → (HasCleanDisk (state g new) → HasStaged g is_first old new definitions entries)
        → IsGroup g new position (staged_of end tally group)
    staged_group end tally later range not store is staged =
        let order = is.order in
        record {
          order = omega (arith, order, later);
          range = range;
          counted = λ here. absurd (let never : ⊥ = omega (arith, order, later, here) in never);
          some = λ lost. absurd (let never : ⊥ = cc in never);
          stored = λ _ _ clean still.
              let it = staged clean in
              let v = before_stored store is not (omega (arith, doubts, clean)) it.was_open in
              let f = it.folds v.0 v.1 in
              (f.0, f.2);
        }

    pub stages_folds : (end : ℕ) (tally : Tally) → position ≤ group.reach → group.reach < end → group.is_lost ≡ false
        → HasStaged g is_first old new definitions entries
        → taken.Folds (Plans g) (record { rows = old; position = position; group = group })
        (record { rows = new; position = position; group = staged_of end tally group }) changes
    stages_folds end tally order later not it t plans =
        let f = it.folds t (was_planned t plans not) in
        let other : (end == position) ≡ false = elim (cases_Bool (end == position)) [
          | inl same ↦ absurd (let e = (unsigned_Decides end position).0 same in let never : ⊥ = omega (arith, order, later, e) in never)
          | inr differ ↦ differ
        ] in
        (f.0, subst (λ cs. fold_changes t cs ≡ Ok f.0) are f.1, λ _. subst (λ b. IsStored f.0 (before_of g b new)) (sym other) f.2)

    pub stages_count : (end : ℕ) (about : Option About) (misses : Misses) → group.is_lost ≡ false
        → CountsFrom (before_of g is_first old) definitions entries end group.stages_tally.misses misses
        → Counts (Plans g) (record { rows = old; position = position; group = group }) end about changes group.stages_tally (record {
          misses = misses;
          commits = group.stages_tally.commits ++ taken_commit end about changes;
        })
    stages_count end about misses not counts t plans =
        let counted = subst (λ cs. misses ≡ with_misses group.stages_tally.misses end (all_missing t cs)) are
        (counts t (was_planned t plans not)) in
        λ i. record { misses = counted i; commits = group.stages_tally.commits ++ taken_commit end about changes }

    pub stage_refuses : (fault : StoreFault) → group.is_lost ≡ false → RefusesToFold (before_of g is_first old) definitions entries fault
        → taken.RefusesWork (Plans g) (record { rows = old; position = position; group = group }) changes fault
    stage_refuses fault not refuses t plans = subst (λ cs. IsFault fault (fold_changes t cs)) are (refuses t (was_planned t plans not))

  -- it is refused
  module _ (commit : HasCleanDisk (state g new) → KeepsCommit (state g old) (state g new)) where
    pub unstaged_group : (HasCleanDisk (state g new) → KeepsStaged g is_first old new) → IsGroup g old position group
        → IsGroup g new position group
    unstaged_group kept is = record {
      order = is.order;
      range = is.range;
      counted = is.counted;
      some = is.some;
      stored = λ more not clean still.
          let other : is_first ≡ false = elim (cases_Bool is_first) [
            | inl one ↦ absurd (let e = (unsigned_Decides group.reach position).0 (sym first ∙ one) in
                let never : ⊥ = omega (arith, more, e) in never)
            | inr differ ↦ differ
          ] in
          let v = is.stored more not (omega (arith, doubts, clean)) ((commit clean).was_open still) in
          (v.0, subst (IsStored v.0) (sym (kept clean other)) v.1);
    }

    pub plans_stay : (HasCleanDisk (state g new) → KeepsStaged g is_first old new)
        → Serves g (record { rows = new; position = position; group = group })
        → taken.Stays (Plans g) (record { rows = old; position = position; group = group })
        (record { rows = new; position = position; group = group })
    plans_stay kept now t plans not = elim (cases_Bool is_first) [
      | inl one ↦
          subst (λ b. IsStored t (before_of g b new)) (sym one ∙ first)
          (subst (λ (d : Database). IsStored t (tables_in d.trees)) (sym ((commit now.honest).committed now.is_open))
          (subst (λ b. IsStored t (before_of g b old)) (sym first ∙ one) (plans not)))
      | inr more ↦
          subst (λ b. IsStored t (before_of g b new)) (sym more ∙ first)
          (subst (IsStored t) (sym (kept now.honest more)) (subst (λ b. IsStored t (before_of g b old)) (sym first ∙ more) (plans not)))
    ]

  -- all is lost
  pub lost_group : is_first ≡ false → IsGroup g old position group → IsGroup g new position (lost_of group)
  lost_group more is =
      let order = is.order in
      let other = apart group.reach position (sym first ∙ more) in
      record {
        order = is.order;
        range = is.range;
        counted = is.counted;
        some = λ _. omega (arith, order, other);
        stored = λ _ lost. absurd (let never : ⊥ = cc in never);
      }

  module _ (commit : HasCleanDisk (state g new) → KeepsCommit (state g old) (state g new)) (lost : Bool)
      (kept : HasCleanDisk (state g new) → lost ≡ false → KeepsStaged g is_first old new) where
    pub refused_group : IsGroup g old position group → IsGroup g new position (refused_of lost is_first group)
    refused_group is = go lost is_first refl refl
      where
        go : (l f : Bool) → lost ≡ l → is_first ≡ f → IsGroup g new position (refused_of l f group)
        go false f stands e = unstaged_group commit (λ clean. kept clean stands) is
        go true true l e = first_group g old new position group ((unsigned_Decides group.reach position).0 (sym first ∙ e)) is
        go true false l e = lost_group e is

    pub refused_plans : Serves g (record { rows = new; position = position; group = refused_of lost is_first group })
        → taken.Stays (Plans g) (record { rows = old; position = position; group = group })
        (record { rows = new; position = position; group = refused_of lost is_first group })
    refused_plans now = go lost is_first refl refl
      where
        serving : Serves g (record { rows = new; position = position; group = group })
        serving = record { honest = now.honest; is_open = now.is_open }

        go : (l f : Bool) → lost ≡ l → is_first ≡ f
            → taken.Stays (Plans g) (record { rows = old; position = position; group = group })
            (record { rows = new; position = position; group = refused_of l f group })
        go false f stands e = plans_stay commit (λ clean. kept clean stands) serving
        go true true l e = plans_stay commit (λ clean more. absurd (let never : ⊥ = cc in never)) serving
        go true false l e = λ t plans stands. absurd (let never : ⊥ = cc in never)

-- an open store has tables with what is staged
pub some_planned : {S : Type 0} (g : Ghosts S) (rows : S) (position : ℕ) (group : Group) → IsStore g rows position
    → IsGroup g rows position group → Serves g (record { rows = rows; position = position; group = group })
    → (t : Tables) × Plans g (record { rows = rows; position = position; group = group }) t
some_planned g rows position group store is now = elim (cases_Bool group.is_lost) [
  | inl lost ↦ let v = store.stored now.honest now.is_open in (v.0, λ not. absurd (let never : ⊥ = cc in never))
  | inr not ↦ let v = before_stored g rows rows position group (group.reach == position) refl (omega arith) store is not now.honest
      now.is_open in (v.0, λ _. v.1)
]

-- ---- what is staged is taken

pub some_staged : {S : Type 0} (g : Ghosts S) (rows : S) (position : ℕ) (group : Group) (is_empty : Bool) → IsGroup g rows position group
    → is_empty ≡ (group.reach == position) → is_empty ≡ false → position < group.reach
some_staged g rows position group is_empty is told differ =
    let order = is.order in
    let other = apart group.reach position (sym told ∙ differ) in
    omega (arith, order, other)

module _ {S : Type 0} (g : Ghosts S) (old new : S) (position : ℕ) (group : Group) (more : position < group.reach)
    (stands : group.is_lost ≡ false) (end : ℕ) (here : end ≡ group.reach) where
  behind_it : (group.reach == position) ≡ false
  behind_it = elim (cases_Bool (group.reach == position)) [
    | inl same ↦ absurd (let e = (unsigned_Decides group.reach position).0 same in let never : ⊥ = omega (arith, more, e) in never)
    | inr differ ↦ differ
  ]

  shown : (t : Tables) → Plans g (record { rows = old; position = position; group = group }) t → IsStored t (tables_of g old)
  shown t plans = subst (λ b. IsStored t (before_of g b old)) behind_it (plans stands)

  pub settled_store : doubt (state g old).is_clean ≤ doubt (state g new).is_clean → IsGroup g old position group
      → (HasCleanDisk (state g new) → Settles g old new (to_be_bytes w64 end)) → IsSettled g → IsStore g new end
  settled_store doubts is settled law =
      let far = is.range in
      let range : end < 2 ^ 64 = omega (arith, here, far) in
      let held : HasCleanDisk (state g new) → (v : Tables) × IsStored v (committed_of g new) = λ clean.
      let it = settled clean in
      let v = is.stored more stands (omega (arith, doubts, clean)) it.was_open in
      (v.0, it.holds v.0 v.1) in
      record {
        kept = λ clean still. (settled clean).kept;
        range = range;
        same = λ clean still. (settled clean).position_is;
        stored = λ clean still. held clean;
        crash = crash_leaves g law new;
        keeps = λ clean.
            let it = settled clean in
            let v = held clean in (
              record { tables = v.0; position = end },
              open_keeps g new (record { tables = v.0; position = end }) law it.is_open it.kept v.1 it.position_is range,
            );
      }

  pub settled_empty : IsGroup g old position group → (behind : Group) → behind ≡ settled_of group → IsGroup g new end behind
  settled_empty is behind same =
      let far = is.range in
      subst (IsGroup g new end) (sym same) (empty_group g new end (settled_of group) (omega (arith, here, far)) (sym here) refl refl)

  pub settles_held : Settles g old new (to_be_bytes w64 end) → (t : Tables)
      → Plans g (record { rows = old; position = position; group = group }) t → IsStored t (committed_of g new)
  settles_held it t plans = it.holds t (shown t plans)

  leaves_group : group.reach < 2 ^ 64 → (db : Trees) → LeavesSettled g old (to_be_bytes w64 end) db
      → LeavesGroup g (record { rows = old; position = position; group = group }) db
  leaves_group range db left = (
    left.was_open,
    λ t plans.
        record {
          kept = left.kept;
          stored = left.holds t (shown t plans);
          position = left.position_is ∙ ap (to_be_bytes w64) here;
          range = range;
        },
  )

  pub survives_group : group.reach < 2 ^ 64 → Survives (state g old) (state g new) (LeavesSettled g old (to_be_bytes w64 end))
      → Survives (state g old) (state g new) (LeavesGroup g (record { rows = old; position = position; group = group }))
  survives_group range s = survives_weaker (state g old) (state g new) _ _ (λ _ db h. leaves_group range db h) s

  -- with a ledger
  pub survives_synced : (was_stuck : Bool) (Before After : Type 0) → (Before → After) → group.reach < 2 ^ 64
      → Survives (state g old) (state g new) (λ db. LeavesSettled g old (to_be_bytes w64 end) db × (was_stuck ≡ false) × Before)
      → Survives (state g old) (state g new) (LeavesSynced g was_stuck After (record { rows = old; position = position; group = group }))
  survives_synced was_stuck Before After on range s =
      survives_weaker (state g old) (state g new) _ _ (λ _ db h. (leaves_group range db h.0, h.1, on h.2)) s

  -- what a settling leaves that wasn't answered Ok is at least as far
  pub unsettled_left : IsGroup g old position group → Survives (state g old) (state g new) (LeavesSettled g old (to_be_bytes w64 end))
      → (v : Stored) → v.position ≡ position
      → ((group : Group) → Keeps g (record { rows = old; position = position; group = group }) v) → HasCleanDisk (state g new)
      → (db : Trees) → (state g new).may_leave db → IsAtLeast v db
  unsettled_left is s v at keeps clean db may = elim (s.crash clean db may) [
    | inl before ↦ (keeps at_rest).left db before
    | inr left ↦
        let was : HasCleanDisk (state g old) = let doubts = s.clean in omega (arith, doubts, clean) in
        let t = is.stored more stands was left.was_open in (
          record { tables = t.0; position = group.reach },
          record {
            kept = left.kept;
            stored = left.holds t.0 t.1;
            position = left.position_is ∙ ap (to_be_bytes w64) here;
            range = is.range;
          },
          omega (arith, more, at),
          λ e. absurd (let never : ⊥ = omega (arith, more, at, e) in never),
        )
  ]
