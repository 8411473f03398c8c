use Rattle.std.proofs.Common.{◌≡◌, ◌≤◌, ◌⊎◌, ◌+◌, ◌-◌, ℕ, List, drop, IsTrue}
use Rattle.pgfeed.specs.declared.mark.Mark.{Mark}
use Rattle.pgfeed.specs.Reading.{Walks}
use Rattle.pgfeed.specs.Segments.{EndsTested}
use Rattle.pgfeed.proofs.opening.find_end.Given as goal

abbrev pub invariant-commits : goal.invariant-commits
invariant-commits g l =
    let seen = g.D.Disk.seen in
    record {
      seen_is : seen l.disk ≡ seen l.fn.disk;
      usable : IsTrue (g.D.Disk.is_usable l.disk);
      crash : (c : List ℕ) → g.D.Disk.may_leave l.disk c → g.D.Disk.may_leave l.fn.disk c;
      clean : IsTrue (g.D.Disk.is_clean l.disk) → IsTrue (g.D.Disk.is_clean l.initial.disk);
      within : l.offset ≤ l.len;
      behind_head : 1024 ≤ l.offset;
      below : l.at ≤ l.position;
      walk : IsTrue (g.D.Disk.is_clean l.disk) → (marks : List Mark) (place rest : ℕ)
          → Walks l.at marks (drop l.offset (seen l.fn.disk)) place rest
          → (all : List Mark) × Walks l.fn.base all (drop 1024 (seen l.fn.disk)) place (l.offset - 1024 + rest);
      tested : IsTrue (g.D.Disk.is_clean l.disk)
          → (l.at ≡ l.fn.base) ⊎ (l.at ≡ l.position → EndsTested l.position (seen l.fn.disk) l.offset);
    }

abbrev pub decreases-commits : goal.decreases-commits
decreases-commits g l = l.position - l.at
