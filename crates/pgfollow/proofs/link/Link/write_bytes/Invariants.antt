use Rattle.std.proofs.Common.{◌≡◌, ◌++◌, ℕ, List, false, length}
use Rattle.std.specs.Io.KnownBytes.{Appends}
use Rattle.pgfollow.proofs.link.Link.write_bytes.Given as goal

abbrev pub invariant-loop-rest : goal.invariant-loop-rest
invariant-loop-rest g l =
    (l.self.write_failed ≡ false) × (l.self.reader ≡ l.fn.self.reader) × (l.self.read_failed ≡ l.fn.self.read_failed)
    × (l.self.reads ≡ l.fn.self.reads)
    × ((front : List ℕ) × (l.bytes ≡ front ++ l.rest)
    × Appends (g.W.Write.contents l.fn.self.writer) (g.W.Write.contents l.self.writer) front)

abbrev pub decreases-loop-rest : goal.decreases-loop-rest
decreases-loop-rest g l = length l.rest
