use Rattle.std.proofs.Common.{Some, ap, sym, refl, ◌∙◌}
use Rattle.pgsub_c.proofs.Called.{called}
use Rattle.pgsub_c.proofs.handle.Handle.disconnect.Goals as goal

pub returns : goal.returns
returns c =
    called _ _ c.deref_mut.result.now c.disconnect.new.self (c.in-Some.ensures.some ∙ ap Some (sym c.deref_mut.ensures.value)) c.put.ensures
    (c.disconnect.ensures, refl)
