use Rattle.std.proofs.Common.{◌∙◌, sym}
use Rattle.pglogical.proofs.SpellableLaws.{text_from_test, test_from_text}
use Rattle.pglogical.proofs.encoding.is_text.Goals as goal

pub returns : goal.returns
returns c = (
  (λ h. text_from_test c.args.text.now (sym c.has_no_zero.ensures ∙ h)),
  (λ h. c.has_no_zero.ensures ∙ test_from_text c.args.text.now h),
)
