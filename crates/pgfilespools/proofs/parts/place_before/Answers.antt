use Rattle.std.proofs.Common.{◌≡◌, ◌+◌, length, refl, arith}
use Rattle.std.proofs.lemmas.Option.{slice_get_read}
use Rattle.pgfilespools.proofs.parts.place_before.Goals as goal

pub returns-in-Some-clause-place : goal.returns-in-Some-clause-place
returns-in-Some-clause-place c held is =
    let ps = c.args.parts.now in
    let last : c.in-Some.before + 1 ≡ c.args.next = omega (arith, c.in-Some.ensures) in
    is.each c.in-Some.before c.index-parts-before.result
    (slice_get_read ps (length ps) c.in-Some.before c.index-parts-before.result refl (omega (arith, c.requires)) c.index-parts-before.is)

pub returns-in-Some-clause-before : goal.returns-in-Some-clause-before
returns-in-Some-clause-before c held p is there =
    let ps = c.args.parts.now in
    let last : c.in-Some.before + 1 ≡ c.args.next = omega (arith, c.in-Some.ensures) in
    is.order c.in-Some.before c.args.next c.index-parts-before.result p (omega arith)
    (slice_get_read ps (length ps) c.in-Some.before c.index-parts-before.result refl (omega (arith, c.requires)) c.index-parts-before.is)
    there
