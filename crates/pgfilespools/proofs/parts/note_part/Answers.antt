use Rattle.std.proofs.Common.{ap, arith}
use Rattle.pgspool.specs.declared.first_place.FirstPlace.{FirstPlace}
use Rattle.pgfilespools.proofs.Parting.{parts-note}
use Rattle.pgfilespools.proofs.parts.note_part.Goals as goal

pub returns-in_ok-push : goal.returns-in_ok-push
returns-in_ok-push c held place bytes is =
    let less = c.saturating_sub.ensures in
    let long = c.if-saturating_sub-ge-PART_BYTES.true in
    let same = ap (λ (p : FirstPlace). p.bytes) c.end.view_is in
    rw c.in_ok-push.ensures.items (parts-note held c.args.parts.now.items is c.args.end c.begun.result place bytes (omega arith)
    (rw c.as_slice.ensures.value at c.begun.ensures))
