use Rattle.std.proofs.Common.{ap, sym, ◌∙◌, inl, inr}
use Rattle.pgsub_core.specs.Calls.Drafts.{known_to, behind_changes, truncated}
use Rattle.pgsub_core.proofs.DescribedChanges.{truncates_one, lacks_one, lacks_behind, on_residual}
use Rattle.pgsub_core.proofs.describing.describe_truncate.Goals as goal

pub loop-oid-preserved : goal.loop-oid-preserved
loop-oid-preserved c = (
  truncates_one c.args.book.now c.in-Some.oid c.next.new.self c.loop-oid.draft.work.changes c.describe_change.new.draft.work.changes
      c.in_ok-describe_change.ensures.adds
      ∙ ap (λ oids. behind_changes c.loop-oid.draft.work.changes (truncated (known_to c.args.book.now) oids)) (sym c.in-Some.ensures.steps)
      ∙ c.loop-oid.invariant.0,
  c.in_ok-describe_change.ensures.numbers,
)

pub returns-in_err-describe_change-clause-refused : goal.returns-in_err-describe_change-clause-refused
returns-in_err-describe_change-clause-refused c =
    let residual = c.from_residual-in_err-describe_change in
    on_residual residual.result c.in_err-describe_change.field-0.0 _ residual.ensures.1
    (elim c.in_err-describe_change.ensures.refused [
      | inl memory ↦ inl memory
      | inr unknown ↦ inr (lacks_behind c.loop-oid.draft.work.changes c.args.draft.now.work.changes
          (truncated (known_to c.args.book.now) c.loop-oid.oid-iterator) (truncated (known_to c.args.book.now) c.args.oids.now)
          c.in_err-describe_change.field-0.0
          c.loop-oid.invariant.0
          (rw c.in-Some.ensures.steps (lacks_one c.args.book.now c.in-Some.oid c.next.new.self c.in_err-describe_change.field-0.0 unknown)))
    ])
