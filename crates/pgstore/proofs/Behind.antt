-- A commit that is put behind others in a transaction, or undone alone.
use Rattle.std.proofs.Common.{◌≡◌, ◌+◌, ◌-◌, ◌++◌, ℕ, List, [], ◌∷◌, length, take, IsTrue, refl}
use Rattle.std.proofs.Common.{sym, ap, subst, ◌∙◌, arith}
use Rattle.sqlite.specs.Effect.{Database}
use Rattle.sqlite.specs.Store.{Ghosts}
use Rattle.sqlite.specs.State.{HasCleanDisk, Savepoint}
use Rattle.pglogical.specs.declared.message.RelationDef.{RelationDef}
use Rattle.pgtables.specs.Kept.{tables_in}
use Rattle.pgrows.specs.Rows.{Drops, Marks, mark_of, state}
use Rattle.pgapply.specs.declared.op.Op.{Op}
use Rattle.pgencoded.specs.Spelled.{IsStored}
use Rattle.pgencoded.specs.Acts.{FoldsOn, Goes, none_given}
use Rattle.pgstore.specs.Staged.{Returns, Stages, Unstages}

one_longer : (older : List Savepoint) (mark : Savepoint) → length (older ++ mark ∷ []) ≡ length older + 1
one_longer [] mark = refl
one_longer (m ∷ older) mark = let e = one_longer older mark in omega (arith, e)

front_taken : (older : List Savepoint) (mark : Savepoint) → take (length older) (older ++ mark ∷ []) ≡ older
front_taken [] mark = refl
front_taken (m ∷ older) mark = ap (λ l. m ∷ l) (front_taken older mark)

older_taken : (older : List Savepoint) (mark : Savepoint) → take (length (older ++ mark ∷ []) - 1) (older ++ mark ∷ []) ≡ older
older_taken older mark =
    let e = one_longer older mark in
    let fewer : length (older ++ mark ∷ []) - 1 ≡ length older = omega (arith, e) in
    ap (λ n. take n (older ++ mark ∷ [])) fewer ∙ front_taken older mark

module _ {S : Type 0} (g : Ghosts S) (old marked made new : S) (marks : Marks (state g old) (state g marked)) (goes : Goes g marked made)
    (clean : HasCleanDisk (state g made)) where
  -- its mark is the newest
  newest : IsTrue (state g made).is_open → (state g made).marks ≡ (state g old).marks ++ mark_of (state g old) ∷ []
  newest still = (goes.keeps clean).marks still ∙ marks.marks_are

  same_commit : IsTrue (state g made).is_open → (state g made).committed ≡ (state g old).committed
  same_commit still = (goes.keeps clean).commit.committed still ∙ marks.committed_is

  -- the transaction goes back to it
  pub unstages : Returns (state g made) (state g new) → Unstages g old new
  unstages returns =
      let still = returns.0 in
      let back = returns.1 (state g old).marks (mark_of (state g old)) (newest still) in
      record {
        over = record {
          was_open = marks.was_open;
          is_open = back.is_open;
          committed_is = back.committed_is ∙ same_commit still;
          marks_are = back.marks_are;
        };
        same = back.now_is;
      }

  -- the changes stay
  pub stages : (definitions : List RelationDef) (changes : List (ℕ × Op)) → FoldsOn g marked made definitions changes none_given
      → Drops (state g made) (state g new) → Stages g old new definitions changes
  stages definitions changes folds drops =
      let still = drops.was_open in
      record {
        over = record {
          was_open = marks.was_open;
          is_open = drops.is_open;
          committed_is = drops.committed_is ∙ same_commit still;
          marks_are = drops.marks_are ∙ ap (λ (l : List Savepoint). take (length l - 1) l) (newest still)
              ∙ older_taken (state g old).marks (mark_of (state g old));
        };
        folds = λ v h.
            let f = (folds.made clean marks.is_open).1 v (subst (λ (d : Database). IsStored v (tables_in d.trees)) (sym marks.now_is) h) in
            (f.0, f.1, subst (λ (d : Database). IsStored f.0 (tables_in d.trees)) (sym drops.now_is) f.2);
      }
