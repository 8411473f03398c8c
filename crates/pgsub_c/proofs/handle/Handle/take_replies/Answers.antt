use Rattle.std.proofs.Common.{Some, ap, sym, ◌∙◌}
use Rattle.pgsub_c.proofs.Called.{called}
use Rattle.pgsub_c.proofs.handle.Handle.take_replies.Goals as goal

pub returns : goal.returns
returns c =
    let was = c.in-Some.ensures.some ∙ ap Some (sym c.deref_mut.ensures.value) in
    called _ _ c.deref_mut.result.now c.take_replies-number.new.self was c.put.ensures c.take_replies-number.ensures
