use Rattle.std.proofs.Common.{sym}
use Rattle.pgpast.specs.Handing.{reached_of}
use Rattle.pgpast.proofs.comparing.ComparingRead.read.Goals as goal

pub returns-clause-handed : goal.returns-clause-handed
returns-clause-handed g c v limit max past first given asked k =
    rw (c.read_on.ensures.asked, sym c.ask.ensures.stops)
    (c.read_on.ensures.handed v limit max past (reached_of c.ask.new.self.reached) first given
    (c.ask.ensures.handed v limit max past first given asked k))

pub returns-clause-failed : goal.returns-clause-failed
returns-clause-failed g c v limit max past first given asked k =
    rw (c.read_on.ensures.asked, sym c.ask.ensures.stops)
    (c.read_on.ensures.failed v limit max past (reached_of c.ask.new.self.reached) first given
    (c.ask.ensures.handed v limit max past first given asked k))
