use Rattle.std.proofs.Common.{inl, inr, refl, sym, ap, ◌∙◌}
use Rattle.pgloaded.proofs.After.{is_zero, same_fault}
use Rattle.pgloaded.proofs.loading.load_planned.Goals as goal

pub returns-in-Ok-clause-loaded : goal.returns-in-Ok-clause-loaded
returns-in-Ok-clause-loaded g c none =
    let loaded = c.load_from-ended in
    let new = rw c.in-Ok.is at loaded.ensures.new in (
      g.R.Read.remaining loaded.new.reader,
      loaded.result.1,
      record {
        new = new;
        read = λ own empty. (c.in-Ok._point, rw c.in-Ok.is at (loaded.ensures.reads own empty new));
      },
      λ empty. (sym c.begin_sessions.ensures.unread, refl),
    )

pub returns-in-Ok-clause-begun : goal.returns-in-Ok-clause-begun
returns-in-Ok-clause-begun g c none = (_, c.begin_sessions.ensures.begun)

pub returns-in-Err-clause-stopped : goal.returns-in-Err-clause-stopped
returns-in-Err-clause-stopped g c =
    let loaded = c.load_from-ended in
    elim (is_zero (g.C.ReplicaStore.place c.args.store)) [
      | inl at ↦ inr (at, λ own empty. rw c.in-Err.is at (loaded.ensures.reads own empty at))
      | inr other ↦
          let no = loaded.ensures.not_new other in
          inl (same_fault c.in-Err.fault _ (sym c.in-Err.is ∙ no.0), other, no.1, ap g.R.Read.remaining no.2)
    ]
