use Rattle.std.proofs.Common.{[], sym, ◌∙◌}
use Rattle.std.specs.Prelude.{drop}
use Rattle.std.proofs.lemmas.List.{append-nil}
use Rattle.pgtuple.specs.Cells.{tuple_spelling}
use Rattle.pgtuple.proofs.Tuples.{tuples_apart}
use Rattle.pgencoded.proofs.Formed.{never_unread, never_longer}
use Rattle.pgencoded.proofs.encoded.read_tuple.Goals as goal

pub returns-in_default-clause-encoded : goal.returns-in_default-clause-encoded
returns-in_default-clause-encoded c cells fits is =
    absurd (never_unread cells c.args.bytes.now c.in_default.field-0 fits is c.in_default.ensures.exact)

pub returns-then-len-bytes-clause-encoded : goal.returns-then-len-bytes-clause-encoded
returns-then-len-bytes-clause-encoded c cells fits is =
    absurd (c.if-len-bytes.true
    (never_longer cells c.in-Ok.tuple c.args.bytes.now c.in-Ok.len (drop c.in-Ok.len c.args.bytes.now) fits is c.in-Ok.ensures.exact))

pub returns-clause-ok : goal.returns-clause-ok
returns-clause-ok c cells fits is =
    let found = c.in-Ok.ensures.found in
    (tuples_apart c.in-Ok.tuple cells (drop c.in-Ok.len c.args.bytes.now) [] found.0.tuple fits.tuple
    (sym found.1 ∙ is ∙ sym (append-nil (tuple_spelling cells)))).0
