use Rattle.pgpast.proofs.Keeping.{read_ahead}
use Rattle.pgpast.proofs.comparing.Comparing.fill.Goals as goal

pub returns-clause-handed : goal.returns-clause-handed
returns-clause-handed g c v limit max past reached first given k =
    let new = c.hear-self.new.self in
    rw (c.hear-self.ensures.kept.0, c.hear-self.ensures.kept.1)
    (read_ahead g.F.NotesFile.holds g.L.RepeatListener.hears g.L.RepeatListener.loses v limit max past reached first
    c.args.self.now.stops given new.compared (new.notes, new.listener) _ c.hear-self.result c.in_ok-len.len c.hear-self.ensures.bound.1
    c.hear-self.ensures.bound.0 (c.hear-self.ensures.handed v limit max past reached first given k))
