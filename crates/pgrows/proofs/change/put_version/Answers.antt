use Rattle.std.proofs.Common.{arith}
use Rattle.std.proofs.lemmas.Result.{on_ok_weaker}
use Rattle.sqlite_trees.specs.View.{IsClean}
use Rattle.pgrows.proofs.Found.{open_of}
use Rattle.pgrows.proofs.Version.{version_under}
use Rattle.pgrows.proofs.change.put_version.Goals as goal

pub returns-clause-rows : goal.returns-clause-rows
returns-clause-rows g c =
    let store = c.args.store.now in
    on_ok_weaker c.set_version.result (λ done clean still.
    let was : IsClean (g.S.Store.view store) = omega (arith, c.set_version.ensures.quiet.clean) in
    let sets = done clean in
    let up = open_of (g.S.Store.view store) (g.met.S.Store.broken_if_shut store) sets.sound in
    version_under (g.S.Store.view store) (g.S.Store.view c.set_version.new.self) 1 sets c.args._last (c.requires was up))
    c.set_version.ensures.ok
