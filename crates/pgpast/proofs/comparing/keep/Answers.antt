use Rattle.std.proofs.Common.{inl, inr}
use Rattle.pgpast.proofs.Handings.{keeps_ok}
use Rattle.pgpast.proofs.comparing.keep.Goals as goal

pub returns-in-Ok : goal.returns-in-Ok
returns-in-Ok g c =
    keeps_ok g.F.NotesFile.holds g.L.RepeatListener.hears g.L.RepeatListener.loses c.args.told.now c.args.notes.now c.keep.new.self
    c.args.listener.now c.in-Ok.ensures.ok c.keep.ensures.ended

pub returns-in-Err : goal.returns-in-Err
returns-in-Err g c = inr (inl (c.in-Err.ensures.err.0, c.in-Err.ensures.err.1, c.hear_unkept.ensures))
