use Rattle.std.proofs.Common.{◌≡◌, ◌≤◌, ◌∙◌, ◌++◌, ℕ, List, None, Option, ap, sym, subst}
use Rattle.std.proofs.Common.{length, take, drop}
use Rattle.pglogical.specs.Spelling.{item_spelling}
use Rattle.pgcompared.proofs.Spellings.{is_long, without_xid}
use Rattle.pgcompared.proofs.session.hold_item.Goals as goal

pub change_in_block-requires-clause-long : goal.change_in_block-requires-clause-long
change_in_block-requires-clause-long c =
    let body = c.requires ∙ ap (λ (x : Option ℕ). item_spelling x c.args.item.now) c.in-Some.is in
    subst (λ (bytes : List ℕ). 5 ≤ length bytes) (sym body) (is_long c.in-Some.field-0 c.args.item.now)

pub change_in_block-requires-clause-spelled : goal.change_in_block-requires-clause-spelled
change_in_block-requires-clause-spelled c =
    let body = c.requires ∙ ap (λ (x : Option ℕ). item_spelling x c.args.item.now) c.in-Some.is in
    subst (λ (bytes : List ℕ). take 1 bytes ++ drop 5 bytes ≡ item_spelling None c.args.item.now) (sym body)
    (without_xid c.in-Some.field-0 c.args.item.now)
