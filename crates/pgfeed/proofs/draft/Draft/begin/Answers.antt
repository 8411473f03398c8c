use Rattle.std.proofs.Common.{[], ap, ◌∙◌, sym, subst, refl, string_bytes, length}
use Rattle.pgcrc.specs.Covering.{Covers}
use Rattle.pgfeed.proofs.Parted.{begins}
use Rattle.pgfeed.proofs.draft.Draft.begin.Goals as goal

pub returns : goal.returns
returns c told size =
    let text = string_bytes c.in_ok-text.text in
    let bytes = c.as_bytes.ensures.value in
    let covers : Covers c.update.new.self text = subst (Covers c.update.new.self) bytes (c.update.ensures [] c.new-crc.ensures) in
    begins told size c.args.messages.now text _ c.in_ok-text.ensures (c.len.ensures ∙ sym c.as_bytes.ensures.len ∙ ap length bytes) refl
    c.new.ensures.items covers
