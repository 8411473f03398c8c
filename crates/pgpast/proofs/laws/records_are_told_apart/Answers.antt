use Rattle.pgpast.proofs.Fields.{same_record}
use Rattle.pgpast.proofs.laws.records_are_told_apart.Goals as goal

pub returns : goal.returns
returns c r s fr fs e = same_record r s fr fs e
