use Rattle.std.proofs.Common.{subst, sym, rules, arith, ℤ, w64}
use Rattle.std.proofs.lemmas.Int.{to_z-of_z}
use mir.Val.{SFits}
use Rattle.pgembed.specs.Fed.{AsksOrStays}
use Rattle.pgembed.specs.declared.calls.Call.{Call}
use Rattle.pgembed.specs.Called.{Does, DoesFeed}
use Rattle.pgembed.proofs.calls.make_call.Goals as goal

pub returns-in-Feed : goal.returns-in-Feed
returns-in-Feed g c =
    let C = g.C.ReplicaStore in let f = c.feed_piece in let told = f.ensures in
    let fits : SFits w64 c.in-Feed.clock = search rules in
    let fed = subst (λ (z : ℤ). DoesFeed C.serves C.is_honest C.holds C.place z c.args.subscriber.now c.in-Feed.piece.now f.new.subscriber
    c.args.room.now f.new.text f.new.text_length f.result) (to_z-of_z w64 c.in-Feed.clock fits)
    (record { fed = told.fed; closed = told.closed; closes = told.closes; still_serves = told.serves }) in
    subst (λ (k : Call). Does C.serves C.is_honest C.holds C.place k c.args.subscriber.now f.new.subscriber c.args.room.now f.new.text
    f.new.text_length f.result) (sym c.in-Feed.is) fed

pub returns-in-Status : goal.returns-in-Status
returns-in-Status g c =
    let C = g.C.ReplicaStore in let s = c.append_status in
    let fits : SFits w64 c.in-Status.clock = record { sfits = omega (arith) } in
    subst (λ (k : Call). Does C.serves C.is_honest C.holds C.place k c.args.subscriber.now s.new.subscriber c.args.room.now c.args.room.now
    c.args.length.now s.result) (sym c.in-Status.is) (
      s.ensures.store,
      subst (λ (z : ℤ). AsksOrStays C.place z c.in-Status.ask c.args.subscriber.now s.new.subscriber s.result)
          (to_z-of_z w64 c.in-Status.clock fits) s.ensures.asked,
    )
