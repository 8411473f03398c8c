use Rattle.std.proofs.Common.{◌≡◌, take}
use Rattle.pgapply.specs.Noted.{noted}
use Rattle.pgapply.proofs.watched.Watched.note.Given as goal

abbrev pub invariant-loop-def : goal.invariant-loop-def
invariant-loop-def g l =
    (l.self.store ≡ l.initial.self.store)
    × (l.self.changed.items ≡ noted l.initial.self.changed.items (take l.def-index l.def-items))
