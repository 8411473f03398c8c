use Rattle.std.proofs.Common.{◌≡◌, true, true≢false, refl, sym, ap, ◌∙◌}
use Rattle.std.specs.Ordering.{nat_cmp, is_lt, is_some_and}
use Rattle.std.specs.Cmp.Lexicographic.{slice_cmp, lists_agrees}
use Rattle.sqlite_value.specs.declared.value.Value.{Value}
use Rattle.sqlite_value.specs.declared.value.Value.TheVariants.{Blob}
use Rattle.sqlite_value.specs.Value.{owned}
use Rattle.pgrows.proofs.gap.is_ahead.Goals as goal

pub returns-else-not-is_within : goal.returns-else-not-is_within
returns-else-not-is_within c is reached =
    let high = c.in-Blob.high.now in
    let below : is_lt (slice_cmp nat_cmp c.args.ident.now high) ≡ true =
    sym (c.lt.ensures ∙ ap (is_some_and is_lt) (lists_agrees (λ x y. refl) c.args.ident.now high)) ∙ is in
    let blobs : ◌≡◌ {A = Value} (Blob reached.ident) (Blob high) = sym reached.ident_is ∙ sym c.get.ensures ∙ ap owned c.in-Blob.is in
    let same : reached.ident ≡ high = cc in
    true≢false (sym below ∙ ap (λ x. is_lt (slice_cmp nat_cmp c.args.ident.now x)) (sym same) ∙ reached.not_above)
