use Rattle.std.proofs.Common.{ℤ, subst, w64}
use Rattle.std.proofs.lemmas.Int.{to_z-of_z}
use Rattle.pgembed.specs.InMemory.{HasAsked}
use Rattle.pgembed.proofs.embedded.InMemory.status.Goals as goal

pub returns : goal.returns
returns c =
    let s = c.make_call in
    subst (λ (z : ℤ). HasAsked z c.args.ask c.args.self.now s.new.self s.result) (to_z-of_z w64 c.args.clock c.ranges.clock) s.ensures
