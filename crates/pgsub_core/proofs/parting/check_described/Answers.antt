use Rattle.std.proofs.Common.{◌≡◌, ◌<◌, ◌≤◌, sym, subst, arith, length, inl, inr, Ok}
use Rattle.pgspool.specs.Labels.{HeldMap, items_of, held_of}
use Rattle.pgsub_core.specs.Server.Described.{described_from}
use Rattle.pgsub_core.specs.Machine.Replica.{all_cached}
use Rattle.pgsub_core.specs.Calls.Drafts.{known_to, LacksDefinition}
use Rattle.pgsub_core.specs.Calls.Parting.{part}
use Rattle.pgsub_core.proofs.DescribedChanges.{on_residual}
use Rattle.pgsub_core.proofs.PartChanges.{kept_first, kept_on, comes_first, comes_on, comes_lacks}
use Rattle.pgsub_core.proofs.PartChanges.{of_memory}
use Rattle.pgsub_core.proofs.parting.check_described.Goals as goal

pub loop-from-init : goal.loop-from-init
loop-from-init g c =
    let it = g.P.Spools in (
      kept_first it.held it.most it.is_honest c.args.spools.now,
      (omega arith, λ honest. comes_first c.args.book.now (items_of (held_of (it.held c.args.spools.now) c.args.xid))),
    )

pub load_part-requires : goal.load_part-requires
load_part-requires g c =
    subst (λ (held : HeldMap). c.loop-from.from ≤ length (held_of held c.args.xid)) (sym c.loop-from.invariant.0.held_is)
    (subst (λ n. c.loop-from.from ≤ n) c.count-end.ensures c.loop-from.invariant.1.0)

pub loop-from-preserved : goal.loop-from-preserved
loop-from-preserved g c =
    let it = g.P.Spools in
    let e = c.in_ok-to.ensures in
    let kept = kept_on it.held it.most it.is_honest c.args.spools.now c.loop-from.spools c.load_part.new.self
    c.loop-from.invariant.0 e.held e.limit e.honest in (
      kept,
      (
        subst (λ n. c.in_ok-to.to ≤ n) (sym c.count-end.ensures)
            (subst (λ (held : HeldMap). c.in_ok-to.to ≤ length (held_of held c.args.xid)) c.loop-from.invariant.0.held_is e.within),
        λ h.
            comes_on c.args.book.now (items_of (held_of (it.held c.args.spools.now) c.args.xid)) c.loop-from.book c.loop-from.from
            (c.loop-from.invariant.1.1 (e.honest h)) c.in_ok-to.to e.order c.describe_part.new.book c.in_ok-describe_part.field-0.changes
            (subst (λ (held : HeldMap). described_from (known_to c.loop-from.book) (part (items_of
            (held_of held c.args.xid)) c.loop-from.from c.in_ok-to.to)
            ≡ Ok c.in_ok-describe_part.field-0.changes) kept.held_is (c.in_ok-describe_part.ensures.changes (λ wide. e.loaded h)))
            (subst (λ (held : HeldMap). c.describe_part.new.book ≡ all_cached c.loop-from.book (part (items_of
            (held_of held c.args.xid)) c.loop-from.from c.in_ok-to.to))
            kept.held_is (c.in_ok-describe_part.ensures.cached (λ wide. e.loaded h))),
      ),
    )

pub returns-in_err-describe_part-clause-refused : goal.returns-in_err-describe_part-clause-refused
returns-in_err-describe_part-clause-refused g c h =
    let it = g.P.Spools in
    let e = c.in_ok-to.ensures in
    let kept = kept_on it.held it.most it.is_honest c.args.spools.now c.loop-from.spools c.load_part.new.self
    c.loop-from.invariant.0 e.held e.limit e.honest in
    let read = λ (wide : c.loop-from.from < c.in_ok-to.to). e.loaded h in
    let f = c.in_err-describe_part.field-0.0 in
    on_residual c.from_residual-in_err-describe_part.result f _ c.from_residual-in_err-describe_part.ensures.1
    (elim (c.in_err-describe_part.ensures.refused read) [
      | inl memory ↦ inl (of_memory it.may_fail f memory)
      | inr lacks ↦ inr (comes_lacks c.args.book.now (items_of (held_of
          (it.held c.args.spools.now) c.args.xid)) c.loop-from.book c.loop-from.from
          (c.loop-from.invariant.1.1 (e.honest h)) c.in_ok-to.to e.order f
          (subst (λ (held : HeldMap). LacksDefinition (described_from (known_to c.loop-from.book)
          (part (items_of (held_of held c.args.xid)) c.loop-from.from c.in_ok-to.to)) f) kept.held_is lacks))
    ])
