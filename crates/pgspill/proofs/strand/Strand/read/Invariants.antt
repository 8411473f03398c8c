use Rattle.std.proofs.Common.{◌≡◌, ◌++◌, take, IsTrue}
use Rattle.pgspill.specs.Strands.{spilled_bytes}
use Rattle.pgspill.proofs.strand.Strand.read.Given as goal

abbrev pub invariant-loop-place : goal.invariant-loop-place
invariant-loop-place g l =
    let seen = g.D.Disk.seen in
    record {
      usable : IsTrue (g.D.Disk.is_usable l.blocks.disk);
      read : IsTrue (g.D.Disk.is_clean l.blocks.disk)
          → l.out.items ≡ l.fn.out.items ++ spilled_bytes (seen l.fn.blocks.disk) (take l.place l.self.pieces.items);
      seen : seen l.blocks.disk ≡ seen l.fn.blocks.disk;
      owners : l.blocks.owners.items ≡ l.fn.blocks.owners.items;
      key : l.blocks.key ≡ l.fn.blocks.key;
      clean : IsTrue (g.D.Disk.is_clean l.blocks.disk) → IsTrue (g.D.Disk.is_clean l.fn.blocks.disk);
      fair : g.D.Disk.is_fair l.blocks.disk l.fn.blocks.key ≡ g.D.Disk.is_fair l.fn.blocks.disk l.fn.blocks.key;
    }
