use Rattle.std.proofs.Common.{◌≡◌, ◌++◌, ◌+◌, ◌⊎◌, inl, inr, arith, string_bytes, subst, ap, length}
use Rattle.std.specs.List.{AllByRecursion}
use Rattle.pgapply.specs.Works.{IsNumbered}
use Rattle.std.specs.Slice.Iter.{iter_rest}
use Rattle.std.specs.Iterator.Adapters.{enumerate_count, enumerate_source, zip_first, zip_second}
use Rattle.pgfeed.proofs.Bodies.{all_text, all_told, change_step, change_told, line_adds}
use Rattle.pgfeed.proofs.Places.{known_stands, now_stands}
use Rattle.pgfeed.proofs.entries.add_lines.Goals as goal

pub loop-i-preserved : goal.loop-i-preserved
loop-i-preserved c =
    let steps = c.in-Some.ensures.steps in
    let numbered = subst (AllByRecursion (IsNumbered c.args.definitions.now)) steps.0.0 c.loop-i.invariant.numbered in
    let told = c.in_ok-offset.ensures in
    let text = line_adds (string_bytes c.loop-i.piece.text) _ _ (c.args.told.now ++ c.loop-i.piece.told.items) c.in-Some-checked_add.at _ _
    c.defined-def.result.now _ told.text c.in_ok-push_image.ensures told.named in
    let offset : c.in-Some-checked_add.at ≡ c.args.start + length (string_bytes c.loop-i.piece.text) =
    omega (arith, c.in-Some-checked_add.ensures, c.len.ensures) in
    let number : c.in-Some-checked_add-2.n ≡ c.args.count + enumerate_count c.loop-i.i-iterator =
    omega (arith, c.in-Some-checked_add-2.ensures, steps.1) in
    record {
      text = change_step _ _ _ _ _ _ _ _ _ _ _ _ _ _ _ _ _ _ c.loop-i.invariant.text steps.0.0 steps.0.1 c.defined-def.ensures offset
          text told.told number (omega (arith, steps.2));
      told = change_told _ _ _ _ _ _ _ _ _ _ _ _ _ _ _ _ _ _ c.loop-i.invariant.told steps.0.0 steps.0.1 c.defined-def.ensures offset
          text told.told number (omega (arith, steps.2));
      last = now_stands c.args.definitions.now (c.args.told.now ++ c.tell.new.piece.told.items) _ _ _ c.defined-def.ensures told.stands;
      numbered = numbered.1;
    }

pub tell-requires : goal.tell-requires
tell-requires c =
    known_stands c.args.definitions.now (c.args.told.now ++ c.loop-i.piece.told.items) _ _ _ _ c.loop-i.invariant.last
    c.known-known.ensures c.defined-def.ensures

pub returns : goal.returns
returns c =
    let first = zip_first (enumerate_source c.loop-i.i-iterator) in
    let second = iter_rest (zip_second (enumerate_source c.loop-i.i-iterator)) in
    let none : (length first ≡ 0) ⊎ (length second ≡ 0) = elim c.in-None.ensures.steps.0
    [ inl p ↦ inl (ap length p.1.0) | inr p ↦ inr p.1.0 ] in
    record {
      text = all_text _ _ _ _ _ _ first second c.loop-i.invariant.text none;
      told = all_told _ _ _ _ _ first second c.loop-i.invariant.told none;
    }
