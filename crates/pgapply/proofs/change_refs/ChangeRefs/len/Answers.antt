use Rattle.std.proofs.Common.{drop, length-drop, sym, ap, ◌∙◌, length}
use Rattle.pgapply.proofs.Working.{entries_length}
use Rattle.pgapply.proofs.change_refs.ChangeRefs.len.Goals as goal

pub returns : goal.returns
returns c =
    let rest = c.self.inside.rest in
    c.saturating_sub.ensures ∙ sym (length-drop rest.place rest.numbers.now)
    ∙ sym (entries_length rest.place (drop rest.place rest.numbers.now) rest.ops.now)
    ∙ ap length c.self.view_is
