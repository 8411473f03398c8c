use Rattle.std.proofs.Common.{◌++◌, sym, ap, ◌∙◌}
use Rattle.std.proofs.lemmas.List.{append-nil}
use Rattle.pgapply.specs.Dump.{dump}
use Rattle.pgstore.specs.declared.dumping.Gathered.{Gathered}
use Rattle.pgstore.proofs.dumping.dump_rows.Goals as goal

pub returns-in-Ok-true-clause-rows : goal.returns-in-Ok-true-clause-rows
returns-in-Ok-true-clause-rows g c clean v h =
    let start : Gathered = record { rows = c.new.result } in
    let all = (rw c.in-Ok-true.is at c.give_rows-all.ensures.all clean) c.in-Ok-true.field-0-test v h start
    (sym (append-nil c.new.result.items)) in
    all ∙ ap (λ l. l ++ dump v) c.new.ensures.items

pub returns-in-Err-clause-formed : goal.returns-in-Err-clause-formed
returns-in-Err-clause-formed g c clean stored = rw c.in-Err.is at c.give_rows-all.ensures.formed clean stored
