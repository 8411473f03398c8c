use Rattle.std.proofs.Common.{◌-◌, ◌≡◌, ◌≤◌, ℕ, List, [], take}
use Rattle.pgorder.specs.declared.Version.{Version}
use Rattle.pgrepeats.specs.declared.past.Past.{Past}
use Rattle.pgpast.specs.Handing.{IsHanded}
use Rattle.pgpast.proofs.comparing.Comparing.hear.Given as goal

abbrev pub invariant-loop-taken : goal.invariant-loop-taken
invariant-loop-taken g l =
    (l.taken ≤ l.len)
    × (l.self ≡ record l.fn.self { compared = l.self.compared; notes = l.self.notes; listener = l.self.listener })
    × ((v : Version) (limit max : ℕ) (past : Past) (reached : ℕ) (first : _) (given : List ℕ)
    → IsHanded g.F.NotesFile.holds g.L.RepeatListener.hears g.L.RepeatListener.loses v limit max past reached first l.fn.self.stops
    given [] [] l.fn.self.compared (l.fn.self.notes, l.fn.self.listener)
    → IsHanded g.F.NotesFile.holds g.L.RepeatListener.hears g.L.RepeatListener.loses v limit max past reached first l.fn.self.stops given
    (take l.taken l.fn.self.room.items) [] l.self.compared (l.self.notes, l.self.listener))

abbrev pub decreases-loop-taken : goal.decreases-loop-taken
decreases-loop-taken g l = l.len - l.taken
