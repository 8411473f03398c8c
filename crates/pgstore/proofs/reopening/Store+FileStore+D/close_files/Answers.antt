use Rattle.std.proofs.Common.{◌≡◌, inl, inr, sym, ap, subst, ◌∙◌, IsTrue, arith}
use Rattle.std.proofs.Math.Logic.{∥∥₁_map}
use Rattle.sqlite_trees.specs.View.{View, IsClean}
use Rattle.sqlite_store.specs.FileStore.{recovers, view}
use Rattle.sqlite.specs.Closing.{HoldsAlone}
use Rattle.sqlite.specs.Effect.{Database}
use Rattle.sqlite.specs.Files.{over_files}
use Rattle.sqlite.specs.Held.{AreDatabases}
use Rattle.sqlite.specs.Recovery.{Image}
use Rattle.sqlite.specs.WalFiles.{outcomes}
use Rattle.pgrows.specs.Rows.{state}
use Rattle.pgencoded.proofs.Formed.{own_of_tree}
use Rattle.pgstore.proofs.Closed.{closed_alone, closed_clean, closed_leaves}
use Rattle.pgstore.proofs.reopening.Store+FileStore+D.close_files.Goals as goal

pub returns-in-Ok-clause-left : goal.returns-in-Ok-clause-left
returns-in-Ok-clause-left g c clean image out =
    let first = c.into_store-store in
    let back = c.rollback.ensures.quiet in
    let last = c.checkpoint.new.self in
    let quiet = c.checkpoint.ensures.quiet in
    let after : IsClean (view last) = closed_clean last c.close.result c.close.ensures clean in
    let early : IsClean (view first.result) = omega (arith, back.clean, quiet.clean, after) in
    let numbered : IsTrue (view last).is_numbered =
    ap (λ (v : View). v.is_numbered) (c.checkpoint.ensures.same (c.in-Ok.ensures.open after))
    ∙ c.rollback.ensures.undone.numbered ∙ first.ensures.numbered early in
    let sound : AreDatabases (recovers last) = λ db left. first.ensures.found early db (back.outcomes db (quiet.outcomes db left)) in
    ∥∥₁_map (closed_leaves last c.close.result c.close.ensures clean numbered sound image out) (λ it. (
      it.0,
      elim (first.ensures.crash.crash early it.0 (back.outcomes it.0 (quiet.outcomes it.0 it.1))) [
        | inl left ↦ left
        | inr none ↦ absurd none
      ],
      it.2,
    ))

pub returns-in-Ok-clause-honest : goal.returns-in-Ok-clause-honest
returns-in-Ok-clause-honest g c clean =
    let after : IsClean (view c.checkpoint.new.self) = closed_clean c.checkpoint.new.self c.close.result c.close.ensures clean in
    omega (arith, c.into_store-store.ensures.crash.clean, c.rollback.ensures.quiet.clean, c.checkpoint.ensures.quiet.clean, after)

pub returns-in-Ok-clause-copied : goal.returns-in-Ok-clause-copied
returns-in-Ok-clause-copied g c clean =
    let stays = g.met.D.Disk.seen_may_stay in
    let first = c.into_store-store in
    let back = c.rollback.ensures.quiet in
    let last = c.checkpoint.new.self in
    let quiet = c.checkpoint.ensures.quiet in
    let after : IsClean (view last) = closed_clean last c.close.result c.close.ensures clean in
    let between : IsClean (view c.rollback.new.self) = omega (arith, quiet.clean, after) in
    let early : IsClean (view first.result) = omega (arith, back.clean, between) in
    let on : IsTrue (view last).is_open = c.in-Ok.ensures.open after in
    let same = c.checkpoint.ensures.same on in
    let still : IsTrue (view c.rollback.new.self).is_open = sym (ap (λ (v : View). v.is_open) same) ∙ on in
    let undone = c.rollback.ensures.undone.kept between in
    let live : IsTrue (view first.result).is_open = undone.was_open still in
    let is = first.ensures.committed early live in
    let numbered : IsTrue (view last).is_numbered = ap (λ (v : View). v.is_numbered) same
    ∙ c.rollback.ensures.undone.numbered ∙ first.ensures.numbered early in
    let sound : AreDatabases (recovers last) = λ db left. first.ensures.found early db (back.outcomes db (quiet.outcomes db left)) in
    let committed : (view last).committed ≡ (state over_files c.args.self.rows).committed.trees =
    ap (λ (v : View). v.committed) same ∙ undone.committed still ∙ ap (λ (d : Database). d.trees) is.1 in
    let each = λ (image : Image) (out : outcomes g.D.Disk c.close.result.log c.close.result.db image).
    subst (HoldsAlone image) committed
    (closed_alone last c.close.result c.close.ensures clean numbered sound image out stays on
    (c.in-Ok.ensures.moved (c.rollback.ensures.logged live))) in
    record {
      served = record { honest = omega (arith, first.ensures.crash.clean, early); is_open = is.0 };
      seen = each _ (stays _, stays _);
      left = each;
      holds = first.ensures.holds early live;
    }

pub returns-in-Err-clause-honest_unclosed : goal.returns-in-Err-clause-honest_unclosed
returns-in-Err-clause-honest_unclosed g c clean =
    omega (arith, c.into_store-store.ensures.crash.clean, c.rollback.ensures.quiet.clean, c.checkpoint.ensures.quiet.clean, clean)

pub returns-in-Err-clause-unclosed : goal.returns-in-Err-clause-unclosed
returns-in-Err-clause-unclosed g c clean db left =
    let back = c.rollback.ensures.quiet in
    let quiet = c.checkpoint.ensures.quiet in
    let early : IsClean (view c.into_store-store.result) = omega (arith, back.clean, quiet.clean, clean) in
    elim (c.into_store-store.ensures.crash.crash early db (back.outcomes db (quiet.outcomes db left))) [
      | inl left ↦ left
      | inr none ↦ absurd none
    ]

pub returns-in-Err-clause-fault : goal.returns-in-Err-clause-fault
returns-in-Err-clause-fault g c = rw c.from-in-Err.ensures (own_of_tree _ _ c.from.ensures)
