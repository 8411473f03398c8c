use Rattle.std.proofs.Common.{arith}
use Rattle.pgtuple.specs.Limits.{IsBytes}
use Rattle.pglogical.proofs.Answered.{borrowed_found, borrowed_fault}
use Rattle.pglogical.proofs.decoding.decode_ref.Goals as goal

pub returns-clause-found : goal.returns-clause-found
returns-clause-found c = let fits : IsBytes c.args.body.now = λ i. omega (arith, c.type_inv.body i) in
    borrowed_found c.args.in_block c.args.body.now fits c.whole.result c.whole.ensures

pub returns-clause-fault : goal.returns-clause-fault
returns-clause-fault c = let fits : IsBytes c.args.body.now = λ i. omega (arith, c.type_inv.body i) in
    borrowed_fault c.args.in_block c.args.body.now fits c.whole.result c.whole.ensures
