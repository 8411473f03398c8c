use Rattle.std.proofs.Common.{◌∙◌, sym}
use Rattle.pgpast.proofs.Keeping.{none_left, was_nothing}
use Rattle.pgpast.proofs.comparing.Comparing.ready.Goals as goal

pub returns-clause-handed : goal.returns-clause-handed
returns-clause-handed g c v limit max past reached first given k =
    let self = c.args.self.now in
    let none = none_left c.kept.result.now c.is_empty.result c.is_empty.ensures c.if-not-is_empty.false in
    c.fill.ensures.handed v limit max past reached first given
    (was_nothing g.F.NotesFile.holds g.L.RepeatListener.hears g.L.RepeatListener.loses v limit max past reached first self.stops given
    self.compared (self.notes, self.listener) self.room.items self.from self.safe self.len (sym c.kept.ensures ∙ none) k)
