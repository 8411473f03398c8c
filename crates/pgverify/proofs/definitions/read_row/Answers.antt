use Rattle.std.proofs.Common.{◌≡◌, pos, length, sym, ap, ◌∙◌, arith}
use Rattle.sqlite.specs.declared.types.Value.TheVariants.{Int, Text, Blob}
use Rattle.pgverify.proofs.DefinedRows.{row_is}
use Rattle.pgverify.proofs.definitions.read_row.Goals as goal

pub returns : goal.returns
returns c =
    let namespace = rw c.in-Some-2.is at c.in_ok-namespace.ensures in
    let name = rw c.in-Some-3.is at c.in_ok-name.ensures in
    let columns = rw c.in-Some-4.is at c.in_ok-columns.ensures in
    let len : length c.args.row.now ≡ 6 = omega arith in
    row_is c.args.row.now c.in-Some.oid c.new.result len (sym c.get-2.ensures ∙ c.in-Some.ensures) (sym c.in-Null.ensures)
    (sym c.get-3.ensures ∙ namespace ∙ ap Text (sym c.new.ensures.namespace))
    (sym c.get-4.ensures ∙ name ∙ ap Text (sym c.new.ensures.name))
    (sym c.get-5.ensures ∙ c.in-Some-number_in.ensures ∙ ap (λ n. Int (pos n)) (sym c.new.ensures.letter))
    (sym c.get-6.ensures ∙ columns ∙ ap Blob (sym c.new.ensures.columns))
