use Rattle.std.proofs.Common.{refl, sym, ap, subst, ◌∙◌}
use Rattle.pgloaded.specs.Loaded.{KeepsLink}
use Rattle.pgloaded.proofs.After.{after_as, followed_after, keeps_link}
use Rattle.pgruns.proofs.loaded.follow_loaded.Goals as goal

pub returns-in-Some-clause-unloaded : goal.returns-in-Some-clause-unloaded
returns-in-Some-clause-unloaded g c = (
  c.tell_unloaded-status.ensures.status,
  refl,
  keeps_link c.args.plan.load c.args.io.now.link c.load_first-unloaded.new.reader c.load_first-unloaded.ensures.reader,
  refl,
  c.tell_unloaded-status.ensures.tells,
  rw c.in-Some.is at c.load_first-unloaded.ensures.stopped,
)

pub returns-in-None-clause-unfed : goal.returns-in-None-clause-unfed
returns-in-None-clause-unfed g c none unfed =
    let loaded = c.load_first-unloaded in
    let e = c.follow_over-status.ensures.unfed unfed in (
      e.0,
      e.1,
      e.2,
      subst (λ link. KeepsLink c.args.plan.load c.args.io.now.link link) (sym e.4)
          (keeps_link c.args.plan.load c.args.io.now.link loaded.new.reader loaded.ensures.reader),
      e.5,
      e.6,
      after_as _ _ _ _ _ c.args.plan.load _ c.args.store _ _ (loaded.ensures.loaded c.in-None.is) (λ rest store same. (
        same.0 ∙ ap (λ link. g.R.Read.remaining link.reader) (sym e.4),
        same.1 ∙ sym e.3,
      )),
    )

pub returns-in-None-clause-ran : goal.returns-in-None-clause-ran
returns-in-None-clause-ran g c none run =
    let loaded = c.load_first-unloaded in
    let followed = c.follow_over-status in
    let e = followed.ensures.ran run in (
      e.0,
      e.1,
      e.2,
      e.3,
      e.4,
      e.5,
      λ own. followed_after _ _ _ _ _ c.args.plan.load _ _ c.args.store loaded.result.1 _ _ (loaded.ensures.loaded c.in-None.is)
          followed.ensures.honest own e.6,
    )
