use Rattle.std.proofs.Common.{length, None, ap, ◌∙◌, sym, arith}
use Rattle.pglogical.specs.BorrowedItems.{item_value}
use Rattle.pglogical.specs.Spelling.{item_spelling}
use Rattle.pglogical.proofs.SpelledLengths.{length-insert, length-update, length-delete}
use Rattle.pglogical.proofs.SpelledLengths.{length-truncate}
use Rattle.pglogical.proofs.encoding.spelled_len.Goals as goal

pub returns-in-Insert : goal.returns-in-Insert
returns-in-Insert c =
    let len = ap (λ i. length (item_spelling None i)) (sym c.parts.ensures ∙ ap item_value c.in-Insert.is) ∙ length-insert _ _ in
    omega arith

pub returns-in-Update : goal.returns-in-Update
returns-in-Update c =
    let len = ap (λ i. length (item_spelling None i)) (sym c.parts.ensures ∙ ap item_value c.in-Update.is) ∙ length-update _ _ _ in
    omega arith

pub returns-in-Delete : goal.returns-in-Delete
returns-in-Delete c =
    let len = ap (λ i. length (item_spelling None i)) (sym c.parts.ensures ∙ ap item_value c.in-Delete.is) ∙ length-delete _ _ _ in
    omega arith

pub returns-in-Truncate : goal.returns-in-Truncate
returns-in-Truncate c =
    let len = ap (λ i. length (item_spelling None i)) (sym c.parts.ensures ∙ ap item_value c.in-Truncate.is) ∙ length-truncate _ _ in
    omega arith
