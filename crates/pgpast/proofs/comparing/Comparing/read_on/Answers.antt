use Rattle.std.proofs.Common.{take}
use Rattle.pgpast.proofs.Keeping.{moved}
use Rattle.pgpast.proofs.comparing.Comparing.read_on.Goals as goal

pub returns-in_default-2-clause-handed : goal.returns-in_default-2-clause-handed
returns-in_default-2-clause-handed g c v limit max past reached first given k =
    let new = c.ready.new.self in
    rw (c.hand_on.ensures.compared.0, c.hand_on.ensures.compared.1, c.hand_on.ensures.compared.2)
    (moved g.F.NotesFile.holds g.L.RepeatListener.hears g.L.RepeatListener.loses v limit max past reached first c.args.self.now.stops given
    new.compared (new.notes, new.listener) (take c.hand_on.result c.hand_on.new.buf) _ _ _ _ c.hand_on.ensures.ahead
    c.hand_on.ensures.behind (c.ready.ensures.handed v limit max past reached first given k))
