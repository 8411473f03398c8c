use Rattle.std.proofs.Common.{◌≡◌}
use Rattle.std.specs.Prelude.{nat_eq}
use Rattle.indexmap.specs.IndexMap.{get}
use Rattle.pgsub_core.specs.Calls.Drafts.{known_to, behind_changes, truncated, AreNumbered}
use Rattle.pgsub_core.proofs.describing.describe_truncate.Given as goal

abbrev pub invariant-loop-oid : goal.invariant-loop-oid
invariant-loop-oid l =
    (behind_changes l.draft.work.changes (truncated (known_to l.book) l.oid-iterator)
    ≡ behind_changes l.fn.draft.work.changes (truncated (known_to l.book) l.oids))
    × AreNumbered l.book l.draft.work.definitions (get nat_eq l.draft.numbers)
