use Rattle.std.proofs.Common.{ap}
use Rattle.pgembed.proofs.Wrapped.{of_subscriber}
use Rattle.pgembed.proofs.embedded.InMemory.take_replies.Goals as goal

pub returns : goal.returns
returns c =
    let told = c.make_call.ensures in
    record { passed = told.passed; taken = told.taken; kept = λ kept. ap of_subscriber (told.kept kept) }
