use Rattle.std.proofs.Common.{inl, refl}
use Rattle.pgcompared.proofs.compared.Compared.hear_whole.Goals as goal

pub returns-in-Some : goal.returns-in-Some
returns-in-Some c = inl (c.hear.new.self, c.in-Some.came, c.in-Some.ensures.1, c.hear.ensures, refl)
