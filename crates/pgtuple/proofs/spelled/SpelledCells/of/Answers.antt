use Rattle.std.proofs.Common.{◌≡◌, ℕ, Ok, Err, subst, sym, ◌∙◌}
use Rattle.pgtuple.specs.Reading.{At, Read}
use Rattle.pgtuple.proofs.Fields.{ok_is}
use Rattle.pgtuple.proofs.SpelledReads.{HasWidth, width_read}
use Rattle.pgtuple.proofs.spelled.SpelledCells.of.Goals.{In-Ok}
use Rattle.pgtuple.proofs.spelled.SpelledCells.of.Goals as goal

pub unreachable-requires : goal.unreachable-requires
unreachable-requires c =
    let width = width_read c.args.bytes.now c.requires in
    let never : ◌≡◌ {A = Read ℕ} (Err c.in-Err.field-0) (Ok width.0) = sym (rw c.new-reader.ensures at c.in-Err.ensures) ∙ width.1.number in
    cc

width_is : (c : In-Ok) → HasWidth c.args.bytes.now (c.in-Ok.width, c.u16.new.self)
width_is c =
    let width = width_read c.args.bytes.now c.requires in
    let same : ◌≡◌ {A = ℕ × At} width.0 (c.in-Ok.width, c.u16.new.self) =
    ok_is width.0 (c.in-Ok.width, c.u16.new.self) (sym width.1.number ∙ (rw c.new-reader.ensures at c.in-Ok.ensures)) in
    subst (λ (w : ℕ × At). HasWidth c.args.bytes.now w) same width.1

pub invariant_of-result : goal.invariant_of-result
invariant_of-result c = (width_is (goal.at.invariant_of-result c).In-Ok).there

pub returns : goal.returns
returns c = (width_is (goal.at.returns c).In-Ok).all
