use Rattle.std.proofs.Common.{ℤ, Some, ap, sym, subst, ◌∙◌, w64}
use Rattle.std.proofs.lemmas.Int.{to_z-of_z}
use Rattle.pgembed.specs.InMemory.{HasAsked}
use Rattle.pgsub_c.proofs.Called.{called}
use Rattle.pgsub_c.proofs.handle.Handle.status.Goals as goal

pub returns : goal.returns
returns c =
    let was = c.in-Some.ensures.some ∙ ap Some (sym c.deref_mut.ensures.value) in
    let s = c.status-number in
    let asked = subst (λ (z : ℤ). HasAsked z c.args.ask c.deref_mut.result.now s.new.self s.result)
    (to_z-of_z w64 c.args.clock c.ranges.clock) s.ensures in
    called _ _ c.deref_mut.result.now s.new.self was c.put.ensures asked
