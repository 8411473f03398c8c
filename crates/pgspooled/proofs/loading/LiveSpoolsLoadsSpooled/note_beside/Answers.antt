use Rattle.std.proofs.Common.{◌∙◌, ◌&&◌, ap}
use Rattle.std.proofs.Math.Bool.{and-true}
use Rattle.pgspooled.proofs.loading.LiveSpoolsLoadsSpooled.note_beside.Goals as goal

pub returns-clause-stays : goal.returns-clause-stays
returns-clause-stays g c honest =
    let was = c.args.store.now.honesty in
    let same = c.note.ensures.noted ∙ ap (λ all. was.is_true && all) honest ∙ and-true was.is_true in
    λ i. record { store = c.note.ensures.store i; honesty = record { nothing = was.nothing; is_true = same i } }
