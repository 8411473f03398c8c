use Rattle.std.proofs.Common.{◌≡◌, ◌-◌, length, IsTrue}
use Rattle.pgspill.specs.Pieces.{KeepsPieces}
use Rattle.pgspill.specs.Strands.{IsStrand, strand_bytes}
use Rattle.pgspill.proofs.strand.Strand.spill.Given as goal

abbrev pub invariant-left : goal.invariant-left
invariant-left g l =
    let seen = g.D.Disk.seen in
    record {
      usable : IsTrue (g.D.Disk.is_usable l.blocks.disk);
      bytes : strand_bytes (seen l.blocks.disk) l.self ≡ strand_bytes (seen l.fn.blocks.disk) l.fn.self;
      strand : IsStrand l.blocks.key (seen l.blocks.disk) l.blocks.owners.items l.self;
      others : KeepsPieces l.fn.blocks.key (seen l.fn.blocks.disk) l.fn.blocks.owners.items (seen l.blocks.disk) l.blocks.owners.items;
      xid : l.self.xid ≡ l.fn.self.xid;
      key : l.blocks.key ≡ l.fn.blocks.key;
      clean : g.D.Disk.is_clean l.blocks.disk ≡ g.D.Disk.is_clean l.fn.blocks.disk;
    }

abbrev pub decreases-left : goal.decreases-left
decreases-left g l = length l.self.tail.items - l.self.start
