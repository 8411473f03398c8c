use Rattle.std.proofs.Common.{◌≡◌, ℤ, subst, w64}
use Rattle.std.proofs.lemmas.Int.{to_z-of_z}
use Rattle.pgembed.specs.InMemory.{HasAsked}
use Rattle.pgsub_c.specs.Held.{Calls}
use Rattle.pgsub_c.proofs.pgsub_status.Goals as goal

pub returns : goal.returns
returns c =
    let s = c.status in
    subst (λ (z : ℤ). Calls (λ old new. HasAsked z c.args.ask old new s.result) (s.result ≡ 12)
    c.args.handle.now.pointer.value s.new.self.pointer.value) (to_z-of_z w64 c.args.clock c.ranges.clock) s.ensures
