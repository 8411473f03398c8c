use Rattle.std.proofs.Common.{◌++◌, ◌∙◌, ap, not}
use Rattle.pgpast.specs.Handing.{part_of, reached_of}
use Rattle.pgpast.proofs.Handings.{reaches}
use Rattle.pgpast.proofs.Keeping.{none_back, none_front, nothing_ahead, unasked, was_nothing}
use Rattle.pgpast.proofs.comparing.Comparing.ask.Goals as goal

pub returns-then-is_none-clause-handed : goal.returns-then-is_none-clause-handed
returns-then-is_none-clause-handed g c v limit max past first given asked k =
    let holds = g.F.NotesFile.holds in
    let hears = g.L.RepeatListener.hears in
    let loses = g.L.RepeatListener.loses in
    let self = c.args.self.now in
    let part = part_of self.room.items self.from self.len in
    let none = unasked self.reached (given ++ part) (c.is_none.ensures ∙ ap not c.if-is_none.true) asked in
    let was = was_nothing holds hears loses v limit max past (reached_of self.reached) first self.stops given self.compared
    (self.notes, self.listener) self.room.items self.from self.safe self.len (none_back given part none) k in
    nothing_ahead holds hears loses v limit max past c.position-reached.result first self.stops given c.reach.new.self
    (self.notes, self.listener) self.room.items self.from self.safe self.len (none_back given part none)
    (reaches holds hears loses v limit max past (reached_of self.reached) first self.stops given self.compared c.reach.new.self
    (self.notes, self.listener) c.position-reached.result (none_front given part none)
    (λ told. c.reach.ensures v limit max past (reached_of self.reached) told) was)
