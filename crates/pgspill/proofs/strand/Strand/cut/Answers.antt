use Rattle.std.proofs.Common.{◌∙◌, refl, arith, drop}
use Rattle.pgspill.proofs.Strands.{cut_tail, strand_stays}
use Rattle.pgspill.proofs.strand.Strand.cut.Goals as goal

pub longer-init : goal.longer-init
longer-init g c =
    let s = c.args.self.now in
    let b = c.args.blocks.now in
    let file = g.D.Disk.seen b.disk in
    let new = c.forget_tail.new.self in
    let f = c.forget_tail.ensures in
    let r = strand_stays b.key b.key file file b.owners.items b.owners.items s new.pieces.items
    (λ owner p is. record { is_piece = is; same = refl }) refl c.requires f.pieces in
    record {
      bytes = cut_tail file s.pieces.items new.pieces.items (drop s.start s.tail.items) (drop new.start new.tail.items) s.spilled c.args.len
          f.pieces c.requires.spilled c.if-len-self.false;
      strand = record { pieces = rw f.xid (r.0); spilled = f.spilled ∙ r.1; start = let st = f.start in omega arith };
      others = λ owner p other is. record { is_piece = is; same = refl };
      xid = f.xid;
      disk = refl;
      key = refl;
      tail = f.tail;
      no_less = let sp = f.spilled in omega arith;
    }
