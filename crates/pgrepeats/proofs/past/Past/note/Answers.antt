use Rattle.std.proofs.Common.{◌≡◌, ◌+◌, ◌∙◌, Some, sym, ap, subst, length}
use Rattle.pgrepeats.specs.declared.noted.Noted.{Noted}
use Rattle.pgrepeats.specs.declared.past.Past.{Past}
use Rattle.pgrepeats.specs.Past.{must_come}
use Rattle.pgrepeats.specs.Rings.{Entries, Updates}
use Rattle.pgrepeats.proofs.Noting.{is_noted, chosen, not_chosen}
use Rattle.pgrepeats.proofs.past.Past.note.Goals as goal
use Rattle.pgrepeats.proofs.past.Past.note.Goals.{then-must_come, else-must_come}

pub returns : goal.returns
returns c =
    let p = c.args.self.now in
    let d = c.args.commit in
    let n : Noted = c.of-noted.result in
    elim c.if-must_come.branch [
      | then-must_come w ↦
          is_noted p c.if-must_come.self d n c.of-noted.ensures.same c.of-noted.ensures.before
          (subst (λ m. Updates p.commits m d.end (Some n)) (sym (ap (λ (x : Past). x.commits) w.self-is)) c.in-Ok.ensures.updates)
          (subst (λ (m : Entries). length m ≡ length p.commits + 1) (sym (ap (λ (x : Past). x.commits) w.self-is)) c.in-Ok.ensures.more)
          (ap (λ (x : Past). x.limit) w.self-is) (ap (λ (x : Past). x.since) w.self-is) (ap (λ (x : Past). x.newest) w.self-is)
          (chosen (must_come d) _ d.end p.changed (sym c.must_come.ensures ∙ w.if-must_come.true) (ap (λ (x : Past). x.changed) w.self-is))
          (ap (λ (x : Past). x.last) w.self-is)
      | else-must_come w ↦
          is_noted p c.if-must_come.self d n c.of-noted.ensures.same c.of-noted.ensures.before
          (subst (λ m. Updates p.commits m d.end (Some n)) (sym (ap (λ (x : Past). x.commits) w.self-is)) c.in-Ok.ensures.updates)
          (subst (λ (m : Entries). length m ≡ length p.commits + 1) (sym (ap (λ (x : Past). x.commits) w.self-is)) c.in-Ok.ensures.more)
          (ap (λ (x : Past). x.limit) w.self-is) (ap (λ (x : Past). x.since) w.self-is) (ap (λ (x : Past). x.newest) w.self-is)
          (not_chosen (must_come d) _ d.end p.changed (sym c.must_come.ensures ∙ w.if-must_come.false)
          (ap (λ (x : Past). x.changed) w.self-is))
          (ap (λ (x : Past). x.last) w.self-is)
    ]
