use Rattle.pgsub_cli.proofs.LeftStores.{holds_still, left_still, loses_still}
use Rattle.pgsub_cli.proofs.PrintedOver.{prints_all}
use Rattle.pgsub_cli.proofs.storing.apply_over.Goals as goal

pub returns-clause-prints : goal.returns-clause-prints
returns-clause-prints g c =
    let it = g.C.ReplicaStore in
    let fed = c.feed_over-stopped in
    let held = c.write_held-ended in (
      held.ensures.ends,
      λ honest. prints_all g.R.Input.gives g.R.Input.begins g.R.Input.failed it.holds it.place c.args.given.limits g.W.Output.takes
          g.W.Output.failed c.args.given.store fed.result.1 held.new.store it.serves c.args.given.input fed.result.0 fed.ensures.held
          held.ensures.position c.args.out held.result.1 held.result.0 (held.ensures.prints honest),
    )

pub returns-clause-kept : goal.returns-clause-kept
returns-clause-kept g c serves =
    let it = g.C.ReplicaStore in
    let fed = c.feed_over-stopped in
    let held = c.write_held-ended in (
      fed.result.0,
      holds_still g.R.Input.gives g.R.Input.begins g.R.Input.failed it.holds it.place c.args.given.limits c.args.given.store fed.result.1
          held.new.store held.ensures.position (held.ensures.stays serves) c.args.given.input fed.result.0
          (fed.ensures.held (held.ensures.served serves)),
    )

pub returns-clause-left : goal.returns-clause-left
returns-clause-left g c honest =
    let it = g.C.ReplicaStore in
    let fed = c.feed_over-stopped in
    let held = c.write_held-ended in
    left_still g.R.Input.gives g.R.Input.begins g.R.Input.failed it.holds it.place c.args.given.limits c.args.given.store fed.result.1
    held.new.store held.ensures.position it.reopens (held.ensures.crash honest) it.serves c.args.given.input
    (fed.ensures.left (held.ensures.honest honest))

pub returns-clause-crash : goal.returns-clause-crash
returns-clause-crash g c honest serves =
    let it = g.C.ReplicaStore in
    let fed = c.feed_over-stopped in
    let held = c.write_held-ended in
    loses_still g.R.Input.gives g.R.Input.begins g.R.Input.failed it.holds it.place c.args.given.limits c.args.given.store fed.result.1
    held.new.store held.ensures.position it.reopens (held.ensures.crash honest) c.args.given.input
    (fed.ensures.crash (held.ensures.honest honest) serves)
