use Rattle.std.proofs.Common.{◌≡◌, ◌+◌, ◌-◌, arith, drop, suc, subst}
use Rattle.pgfilespools.specs.Stored.{AreItems}
use Rattle.pgfilespools.proofs.Spanning.{one_span, next_item}
use Rattle.pgfilespools.proofs.read_items.copy_items.Goals as goal

pub loop-copied-preserved : goal.loop-copied-preserved
loop-copied-preserved c =
    let i = c.loop-copied.invariant in
    let e = c.in-Some.ensures in
    let left : c.args.count - c.loop-copied._copied ≡ suc (c.args.count - (c.loop-copied._copied + 1)) = omega arith in
    let next = next_item (c.args.count - (c.loop-copied._copied + 1)) c.args.bytes.now (drop c.loop-copied.at c.args.bytes.now)
    c.in-Some.span
    (subst (λ n. AreItems n (drop c.loop-copied.at c.args.bytes.now)) left i.3) e.first e.within in
    let more = one_span c.args.bytes.now c.args.count c.loop-copied._copied c.loop-copied.at c.loop-copied.spans.items
    c.push.new.self.items c.in-Some.span (omega arith) i.1 i.2 e.first next.0 c.in_ok-push.ensures.items in
    (more.0, more.1, more.2, next.1)
