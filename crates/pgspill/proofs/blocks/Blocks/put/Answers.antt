use Rattle.std.proofs.Common.{◌∙◌, ap, refl, Some}
use Rattle.pgspill.proofs.Parts.{put_keeps, put_piece, get_set_other}
use Rattle.pgspill.proofs.blocks.Blocks.put.Goals as goal

pub returns-in-Err-clause-others : goal.returns-in-Err-clause-others
returns-in-Err-clause-others g c =
    let old = c.args.self.now in
    put_keeps old.key (g.D.Disk.seen old.disk) _ _ old.owners.items _ c.free_block-block.result c.in-Some.at _ c.write_at.ensures.others
    (ap g.D.Disk.seen c.make_room.ensures.disk) c.in-Some.ensures.0 c.requires.fits c.free_block-block.ensures.free
    (λ i owner other there. c.make_room.ensures.others i owner there)

pub returns-clause-piece : goal.returns-clause-piece
returns-clause-piece g c =
    let block = c.free_block-block.result in
    let owners = c.make_room.new.self.owners.items in
    (put_piece c.make_room.new.self.key (g.D.Disk.seen c.write_at.new.self) c.args.bytes.now owners c.args.owner block c.in-Some.at
    c.digest_of.result (c.in_default-write_at.ensures.written c.requires.some) c.in-Some.ensures.0 c.in-Some.ensures.1 c.requires.some
    c.requires.fits c.in_ok-make_room.ensures.room c.digest_of.ensures.value _ refl).0

pub returns-clause-bytes : goal.returns-clause-bytes
returns-clause-bytes g c =
    let block = c.free_block-block.result in
    let owners = c.make_room.new.self.owners.items in
    (put_piece c.make_room.new.self.key (g.D.Disk.seen c.write_at.new.self) c.args.bytes.now owners c.args.owner block c.in-Some.at
    c.digest_of.result (c.in_default-write_at.ensures.written c.requires.some) c.in-Some.ensures.0 c.in-Some.ensures.1 c.requires.some
    c.requires.fits c.in_ok-make_room.ensures.room c.digest_of.ensures.value _ refl).1

pub returns-clause-others : goal.returns-clause-others
returns-clause-others g c =
    let old = c.args.self.now in
    let block = c.free_block-block.result in
    put_keeps old.key (g.D.Disk.seen old.disk) _ _ old.owners.items _ block c.in-Some.at _ c.write_at.ensures.others
    (ap g.D.Disk.seen c.make_room.ensures.disk) c.in-Some.ensures.0 c.requires.fits c.free_block-block.ensures.free
    (λ i owner other there.
    get_set_other c.make_room.new.self.owners.items block i (Some c.args.owner) other ∙ c.make_room.ensures.others i owner there)
