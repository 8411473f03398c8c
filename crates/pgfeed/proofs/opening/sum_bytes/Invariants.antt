use Rattle.std.proofs.Common.{◌≡◌, ◌≤◌, ◌-◌, ◌++◌, ℕ, List, take, drop, IsTrue}
use Rattle.pgcrc.specs.Covering.{Covers}
use Rattle.pgfeed.proofs.opening.sum_bytes.Given as goal

abbrev pub invariant-pieces : goal.invariant-pieces
invariant-pieces g l =
    let seen = g.D.Disk.seen in
    record {
      seen_is : seen l.disk ≡ seen l.fn.disk;
      usable : IsTrue (g.D.Disk.is_usable l.disk);
      crash : (c : List ℕ) → g.D.Disk.may_leave l.disk c → g.D.Disk.may_leave l.fn.disk c;
      clean : IsTrue (g.D.Disk.is_clean l.disk) → IsTrue (g.D.Disk.is_clean l.fn.disk);
      within : l.done ≤ l.count;
      sums : IsTrue (g.D.Disk.is_clean l.disk) → (before : List ℕ) → Covers l.fn.crc before
          → Covers l.sum (before ++ take l.done (drop l.offset (seen l.fn.disk)));
    }

abbrev pub decreases-pieces : goal.decreases-pieces
decreases-pieces g l = l.count - l.done
