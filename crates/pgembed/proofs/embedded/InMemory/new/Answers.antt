use Rattle.std.proofs.Common.{sym, subst, ap, ◌∙◌}
use Rattle.sqlite.specs.Files.{over_files}
use Rattle.pgstore.specs.StoreValue.{Holds, Serves}
use Rattle.pgencoded.specs.DatabaseValue.{nothing_stored}
use Rattle.pgsub_core.specs.Subscriber.Subscribed.{newly}
use Rattle.pgembed.specs.Fed.{position_of}
use Rattle.pgembed.proofs.embedded.InMemory.new.Goals as goal

pub returns-clause-new : goal.returns-clause-new
returns-clause-new c =
    let is = sym c.begin.ensures.store in let empty = c.in_ok-store.ensures.empty in (
      subst (λ s. Serves over_files s) is empty.0,
      subst (λ s. Holds over_files s nothing_stored) is empty.1,
      λ tables. c.begin.ensures.state tables ∙ ap (λ s. newly tables (position_of s) c.args.version 16777216 67108864) is,
    )
