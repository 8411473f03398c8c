use Rattle.std.proofs.Common.{◌≡◌, ◌++◌, ℕ, ℤ, List, Bool, false, cond, max, ap, subst, ◌∙◌}
use Rattle.pgsub_core.specs.Subscriber.Applied.{Applied}
use Rattle.pgsub_core.specs.Calls.Staging.{Grows}
use Rattle.pgsub_core.proofs.Marks.{grows_if}
use Rattle.std.specs.Int.{w64}
use Rattle.std.proofs.lemmas.Int.{to_z-of_z}
use Rattle.pgwire.specs.Statuses.{status_frame}
use Rattle.pgsub_core.proofs.PayloadSteps.{keepalive_takes}
use Rattle.pgsub_core.proofs.applier.Applier.take_keepalive.Goals as goal

pub returns-clause-takes : goal.returns-clause-takes
returns-clause-takes g c clock =
    keepalive_takes g.C.ReplicaStore.stages g.C.ReplicaStore.reach c.args.end _ c.args.self.now c.self.view_is c.args.now clock c.args.reply
    c.confirmed_by-confirmed.result c.later-received.result c.append_reply.new.replies.items
    (c.confirmed_by-confirmed.ensures
    ∙ ap (λ (b : Bool). cond b (max c.self.inside.confirmed c.args.end) c.self.inside.confirmed) c.is_outside.ensures)
    (c.later-received.ensures ∙ ap (max c.confirmed_by-confirmed.result) c.later.ensures)
    (subst (λ (z : ℤ). c.append_reply.new.replies.items
    ≡ cond c.args.reply (c.self.inside.replies.items
    ++ status_frame (record {
      written = c.later-received.result;
      flushed = c.confirmed_by-confirmed.result;
      applied = c.confirmed_by-confirmed.result;
      clock = z;
      ask = false;
    })) c.self.inside.replies.items)
    (to_z-of_z w64 c.args.now c.ranges.now) c.in_ok-append_reply.ensures.ok)

pub returns-clause-grows : goal.returns-clause-grows
returns-clause-grows g c =
    subst (λ (l : List ℕ). Grows l c.append_reply.new.replies.items) (ap (λ (a : Applied g.row.C.Denot). a.replies) c.self.view_is)
    (grows_if c.args.reply c.self.inside.replies.items _ c.append_reply.new.replies.items c.in_ok-append_reply.ensures.ok)
