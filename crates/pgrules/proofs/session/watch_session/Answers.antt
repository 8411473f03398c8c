use Rattle.std.proofs.Common.{refl}
use Rattle.pgrules.proofs.Goes.{started, found_whole, found_ended, found_nothing, found_unframed}
use Rattle.pgrules.proofs.Goes.{goes_on, none_left}
use Rattle.pgrules.proofs.session.watch_session.Goals as goal

pub loop-rest-init : goal.loop-rest-init
loop-rest-init c =
    rw (c.new-deframer.ensures, c.new-watch.ensures, c.nothing-seen.ensures)
    (started c.args.version c.args.max_frame c.args.limit c.args.bytes.now)

pub returns-in-Err : goal.returns-in-Err
returns-in-Err c = record {
  found =
      found_unframed c.args.version c.args.max_frame c.args.limit c.args.bytes.now c.loop-rest.rest.now c.loop-rest.deframer
      c.loop-rest.watch c.loop-rest.seen c.loop-rest.invariant _ c.feed.new.self c.in-Err.fault refl c.in-Err.ensures.fed;
}

pub returns-in_default : goal.returns-in_default
returns-in_default c = record {
  found =
      found_whole c.args.version c.args.max_frame c.args.limit c.args.bytes.now c.loop-rest.rest.now c.loop-rest.deframer
      c.loop-rest.watch c.loop-rest.seen c.loop-rest.invariant c.in-Ok.count c.feed.new.self c.in-Ok.ensures.fed c.in_default.ensures;
}

pub returns-in-Err-hear_frame : goal.returns-in-Err-hear_frame
returns-in-Err-hear_frame c = record {
  found =
      found_ended c.args.version c.args.max_frame c.args.limit c.args.bytes.now c.loop-rest.rest.now c.loop-rest.deframer
      c.loop-rest.watch c.loop-rest.seen c.loop-rest.invariant c.in-Ok.count c.feed.new.self c.in-Ok.ensures.fed _ c.in-Some.ensures _
      c.in-Err-hear_frame.end c.hear_frame.new.seen refl (c.in-Err-hear_frame.ensures.ended c.loop-rest.invariant.watched)
      c.in-Err-hear_frame.ensures.seen;
}

pub loop-rest-preserved : goal.loop-rest-preserved
loop-rest-preserved c =
    goes_on c.args.version c.args.max_frame c.args.limit c.args.bytes.now c.loop-rest.rest.now c.loop-rest.deframer c.loop-rest.watch
    c.loop-rest.seen c.loop-rest.invariant c.in-Ok.count c.feed.new.self c.in-Ok.ensures.fed _ c.in-Some.ensures _ c.release.new.self
    c.hear_frame.new.watch c.hear_frame.new.seen c.requires refl c.release.ensures (c.in_default-hear_frame.ensures.heard
    c.loop-rest.invariant.watched)

pub returns : goal.returns
returns c = record {
  found =
      found_nothing c.args.version c.args.max_frame c.args.limit c.args.bytes.now c.loop-rest.rest.now
      c.loop-rest.deframer c.loop-rest.watch c.loop-rest.seen c.loop-rest.invariant
      (none_left c.loop-rest.rest.now c.is_empty.result c.is_empty.ensures c.loop-rest-test.false);
}
