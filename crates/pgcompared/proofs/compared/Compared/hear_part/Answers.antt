use Rattle.std.proofs.Common.{◌++◌, refl, sym, subst, length, take}
use Rattle.pgcompared.specs.declared.noting.Told.{Told}
use Rattle.pgcompared.specs.Live.{IsCompared, spoken}
use Rattle.pgcompared.proofs.Paths.{path_err, path_next}
use Rattle.pgcompared.proofs.compared.Compared.hear_part.Goals as goal

pub returns-in-Err-clause-compared : goal.returns-in-Err-clause-compared
returns-in-Err-clause-compared c v limit max past reached all before i =
    let piece = c.args.piece.now in
    subst (λ (t : Told). IsCompared v limit max past reached (all ++ take (length piece) piece) c.stop_hearing-in-Err.new.self
    (before ++ spoken t))
    (sym c.stop_hearing-in-Err.ensures.told)
    (path_err v limit max past reached all c.args.self.now before i piece (length piece) c.feed.new.self c.in-Err.fault
    c.stop_hearing-in-Err.new.self refl c.in-Err.ensures.fed c.requires.whole c.stop_hearing-in-Err.ensures.new)

pub returns-in-Some-clause-compared : goal.returns-in-Some-clause-compared
returns-in-Some-clause-compared c v limit max past reached all before i =
    path_next v limit max past reached all c.args.self.now before i c.args.piece.now c.in-Ok.count c.feed.new.self c.in-Some.came
    c.in-Ok.ensures.fed c.requires.whole c.in-Some.ensures.1 c.hear_next.new.self c.hear_next.new.told c.hear_next.ensures
