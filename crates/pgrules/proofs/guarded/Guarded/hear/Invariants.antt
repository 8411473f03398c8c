use Rattle.std.proofs.Common.{◌-◌, ◌≡◌, ◌≤◌, ℕ, List, [], take}
use Rattle.pgorder.specs.declared.Version.{Version}
use Rattle.pgrules.specs.Guarding.{IsGuarded}
use Rattle.pgrules.proofs.guarded.Guarded.hear.Given as goal

abbrev pub invariant-loop-taken : goal.invariant-loop-taken
invariant-loop-taken g l =
    (l.taken ≤ l.len) × (l.self ≡ record l.fn.self { watch = l.self.watch; listener = l.self.listener })
    × ((v : Version) (limit max : ℕ) (first : _) (given : List ℕ) → max ≤ 2147483643
    → IsGuarded g.L.FindingListener.hears v limit max first l.fn.self.stops given [] [] l.fn.self.watch l.fn.self.listener
    → IsGuarded g.L.FindingListener.hears v limit max first l.fn.self.stops given (take l.taken l.buf) [] l.self.watch
    l.self.listener)

abbrev pub decreases-loop-taken : goal.decreases-loop-taken
decreases-loop-taken g l = l.len - l.taken
