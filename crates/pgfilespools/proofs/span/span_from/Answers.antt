use Rattle.std.proofs.Common.{◌+◌, drop, length, refl, ap, ◌∙◌, arith, length-drop}
use Rattle.pgfilespools.specs.declared.span.Span.{Span}
use Rattle.pgfilespools.specs.Stored.{number_at}
use Rattle.pgfilespools.proofs.Spanning.{first_here}
use Rattle.pgfilespools.proofs.span.span_from.Goals as goal

pub returns-clause-first : goal.returns-clause-first
returns-clause-first c =
    let s : Span = record { subxid = c.in_ok-subxid.subxid; size = c.in_ok-size.size; start = c.args.at + 8 } in
    first_here c.args.bytes.now c.args.at s refl (c.in_ok-subxid.ensures.parts.0 ∙ ap number_at c.bytes_from.ensures)
    (c.in_ok-size.ensures.parts.0 ∙ ap number_at (c.in_ok-subxid.ensures.parts.1 ∙ ap (drop 4) c.bytes_from.ensures))

pub returns-clause-within : goal.returns-clause-within
returns-clause-within c =
    omega (
      arith,
      length-drop c.args.at c.args.bytes.now,
      ap length c.bytes_from.ensures,
      c.in_ok-subxid.ensures.len,
      c.in_ok-size.ensures.len,
      c.requires,
    )
