use Rattle.std.proofs.Common.{refl, sym, ap, ◌∙◌}
use Rattle.std.specs.Ordering.{is_lt, is_some_and}
use Rattle.std.specs.Cmp.Lexicographic.{lists_agrees}
use Rattle.sqlite_value.specs.Value.{owned}
use Rattle.pgrows.proofs.gap.is_past.Goals as goal

pub returns-then-is_within : goal.returns-then-is_within
returns-then-is_within c is = record {
  ident = c.in-Blob.low.now;
  oid_is = c.is_within.ensures.yes c.if-is_within.true;
  ident_is = sym c.get.ensures ∙ ap owned c.in-Blob.is;
  below = sym (c.lt.ensures ∙ ap (is_some_and is_lt) (lists_agrees (λ x y. refl) c.in-Blob.low.now c.args.ident.now)) ∙ is;
}
