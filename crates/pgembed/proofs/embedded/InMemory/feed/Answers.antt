use Rattle.std.proofs.Common.{ℤ, ap, subst, w64}
use Rattle.std.proofs.lemmas.Int.{to_z-of_z}
use Rattle.pgembed.specs.InMemory.{HasFed}
use Rattle.pgembed.proofs.Wrapped.{of_subscriber}
use Rattle.pgembed.proofs.embedded.InMemory.feed.Goals as goal

pub returns : goal.returns
returns c =
    let f = c.make_call in let told = f.ensures in
    subst (λ (z : ℤ). HasFed z c.args.self.now c.args.piece.now f.new.self c.args.text.now f.new.room f.new.length f.result)
    (to_z-of_z w64 c.args.clock c.ranges.clock)
    (record {
      fed = told.fed;
      closed = λ closed. ((told.closed closed).0, ap of_subscriber (told.closed closed).1);
      closes = told.closes;
      serves = told.still_serves;
    })
