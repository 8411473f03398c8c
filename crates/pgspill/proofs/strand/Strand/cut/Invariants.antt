use Rattle.std.proofs.Common.{◌≡◌, ◌≤◌, ◌-◌, [], take}
use Rattle.pgspill.specs.Strands.{IsStrand, KeepsOthers, strand_bytes}
use Rattle.pgspill.proofs.strand.Strand.cut.Given as goal

abbrev pub invariant-longer : goal.invariant-longer
invariant-longer g l =
    let seen = g.D.Disk.seen in
    record {
      bytes : take l.len (strand_bytes (seen l.fn.blocks.disk) l.self) ≡ take l.len (strand_bytes (seen l.fn.blocks.disk) l.fn.self);
      strand : IsStrand l.blocks.key (seen l.blocks.disk) l.blocks.owners.items l.self;
      others : KeepsOthers l.fn.self.xid l.fn.blocks.key (seen l.fn.blocks.disk) l.fn.blocks.owners.items (seen l.blocks.disk)
          l.blocks.owners.items;
      xid : l.self.xid ≡ l.fn.self.xid;
      disk : l.blocks.disk ≡ l.fn.blocks.disk;
      key : l.blocks.key ≡ l.fn.blocks.key;
      tail : l.self.tail.items ≡ [];
      no_less : l.len ≤ l.self.spilled;
    }

abbrev pub decreases-longer : goal.decreases-longer
decreases-longer g l = l.self.spilled - l.len
