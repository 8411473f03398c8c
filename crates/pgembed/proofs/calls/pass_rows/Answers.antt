use Rattle.std.proofs.Common.{inl, inr, refl}
use Rattle.pgsub_core.specs.declared.fault.Fault.TheVariants.{Memory}
use Rattle.pgembed.proofs.calls.pass_rows.Goals as goal

pub returns-clause-rows : goal.returns-clause-rows
returns-clause-rows g c serves = inr (Memory, inl refl, c.stream_number-in-Err-rows_text.ensures.number, (refl, refl))
