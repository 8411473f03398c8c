use Rattle.std.proofs.Common.{ℕ, ap, sym, ◌∙◌}
use Rattle.pgcrc.specs.declared.crc.Crc32.{Crc32}
use Rattle.pgcrc.specs.Covering.{Covers}
use Rattle.pgcrc.proofs.laws.cuts_change_nothing.Goals as goal

pub returns : goal.returns
unfolding Covers
returns c = λ crc other message a b. let made : ℕ → Crc32 = λ r. record { register = r } in ap made (a ∙ sym b)
