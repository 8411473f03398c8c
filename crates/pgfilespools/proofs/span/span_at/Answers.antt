use Rattle.pgfilespools.proofs.Spanning.{tested}
use Rattle.pgfilespools.proofs.span.span_at.Goals as goal

pub returns-clause-span : goal.returns-clause-span
returns-clause-span c =
    tested c.args.bytes.now c.bytes_in.result.now c.in_ok-span.span c.in_ok-read_item.field-0 c.bytes_in.ensures
    c.in_ok-read_item.ensures.value c.in_ok-span.ensures.within
