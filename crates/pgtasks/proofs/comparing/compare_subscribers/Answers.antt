use Rattle.std.proofs.Common.{subst, sym}
use Rattle.pgsub_core.specs.declared.fault.Fault.{Fault}
use Rattle.pgsub_core.specs.Subscriber.Subscribed.{bytes_of}
use Rattle.pgtasks.specs.Compared.{EndsOver}
use Rattle.std.proofs.Common.{Err}
use Rattle.pgtasks.proofs.ComparedSides.{compared_ends, left_ends, right_ends}
use Rattle.pgtasks.proofs.comparing.compare_subscribers.Goals.{in-Left, in-Right}
use Rattle.pgtasks.proofs.comparing.compare_subscribers.Goals as goal

pub returns-in-Ok : goal.returns-in-Ok
returns-in-Ok g c = record {
  ends = λ honest honest'.
      compared_ends g.C.ReplicaStore.holds g.C.ReplicaStore.place g.D.ReplicaStore.holds g.D.ReplicaStore.place Unit Unit c.args.left.now
      c.converge.new.left c.args.right.now c.converge.new.right
      (bytes_of c.args.left_sessions.now) (bytes_of c.args.right_sessions.now) c.in-Ok.verdict
      (c.in-Ok.ensures.converges (c.in-Ok.ensures.left_open (honest c.converge.new.left.applied.store))
      (c.in-Ok.ensures.right_open (honest' c.converge.new.right.applied.store)));
}

pub returns : goal.returns
returns g c = record {
  ends = λ honest honest'.
      let C = g.C.ReplicaStore in
      let D = g.D.ReplicaStore in
      let left = bytes_of c.args.left_sessions.now in
      let right = bytes_of c.args.right_sessions.now in
      let told = λ (f : Fault).
      EndsOver C.holds C.place D.holds D.place c.args.left.now left c.args.right.now right
      (Err (record { side = c.in-Err.stopped.side; fault = f })) in
      elim c.match-side.branch [
        | in-Left w ↦
            subst told (sym w.fault-is)
            (left_ends C.holds C.place D.holds D.place (C.serves c.converge.new.left.applied.store)
            (D.serves c.converge.new.right.applied.store) c.in-Err.stopped.side c.args.left.now c.converge.new.left c.args.right.now
            left right c.in-Err.stopped.fault w.confirmed_fault-fault.result w.in-Left.is
            (w.confirmed_fault-fault.ensures.fault (honest w.confirmed_fault-fault.new.subscriber.applied.store))
            c.in-Err.ensures.left_followed)
        | in-Right w ↦
            subst told (sym w.fault-is)
            (right_ends C.holds C.place D.holds D.place (C.serves c.converge.new.left.applied.store)
            (D.serves c.converge.new.right.applied.store) c.in-Err.stopped.side c.args.left.now c.converge.new.left
            c.args.right.now c.converge.new.right left right c.in-Err.stopped.fault w.confirmed_fault-fault-in-Right.result w.in-Right.is
            (c.in-Err.ensures.left_open (honest c.converge.new.left.applied.store)) c.in-Err.ensures.left_followed
            (w.confirmed_fault-fault-in-Right.ensures.fault (honest' w.confirmed_fault-fault-in-Right.new.subscriber.applied.store))
            c.in-Err.ensures.right_followed)
      ];
}
