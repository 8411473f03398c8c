use Rattle.std.proofs.Common.{arith, drop, subst}
use Rattle.pgfilespools.specs.Spans.{IsFirst, IsSpan}
use Rattle.pgfilespools.proofs.Spanning.{one_span}
use Rattle.pgfilespools.proofs.read_items.read_items.Goals as goal

pub loop-taken-preserved : goal.loop-taken-preserved
loop-taken-preserved c =
    let i = c.loop-taken.invariant in
    let e = c.in-Some.ensures in
    one_span c.args.bytes.items c.args.count c.loop-taken._taken c.loop-taken.at c.loop-taken.spans.items c.push.new.self.items
    c.in-Some.span (omega arith) i.1 i.2 (subst (λ b. IsFirst b (drop c.loop-taken.at b) c.in-Some.span) c.as_slice.ensures.value e.first)
    (subst (λ b. IsSpan b c.in-Some.span) c.as_slice.ensures.value e.span) c.in_ok-push.ensures.items
