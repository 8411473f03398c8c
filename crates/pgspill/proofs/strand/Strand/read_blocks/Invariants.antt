use Rattle.std.proofs.Common.{◌≡◌, ◌≤◌, ◌-◌, ◌++◌, length, take, slice_range, IsTrue}
use Rattle.pgspill.specs.Strands.{spilled_bytes}
use Rattle.pgspill.proofs.strand.Strand.read_blocks.Given as goal

abbrev pub invariant-passed : goal.invariant-passed
invariant-passed g l =
    let seen = g.D.Disk.seen in
    record {
      usable : IsTrue (g.D.Disk.is_usable l.blocks.disk);
      place : l.place ≤ length l.self.pieces.items;
      at : l.at ≡ length (spilled_bytes (seen l.fn.blocks.disk) (take l.place l.self.pieces.items));
      read : IsTrue (g.D.Disk.is_clean l.blocks.disk) → l.out.items ≡ l.fn.out.items
          ++ slice_range (spilled_bytes (seen l.fn.blocks.disk) (take l.place l.self.pieces.items)) l.start l.end;
      seen : seen l.blocks.disk ≡ seen l.fn.blocks.disk;
      owners : l.blocks.owners.items ≡ l.fn.blocks.owners.items;
      key : l.blocks.key ≡ l.fn.blocks.key;
      clean : IsTrue (g.D.Disk.is_clean l.blocks.disk) → IsTrue (g.D.Disk.is_clean l.fn.blocks.disk);
      fair : g.D.Disk.is_fair l.blocks.disk l.fn.blocks.key ≡ g.D.Disk.is_fair l.fn.blocks.disk l.fn.blocks.key;
    }

abbrev pub decreases-passed : goal.decreases-passed
decreases-passed g l = length l.self.pieces.items - l.place
