use Rattle.std.proofs.Common.{refl, ◌≡◌, ◌≤◌, sym, subst, arith, length}
use Rattle.pgspool.specs.Labels.{HeldMap, items_of, held_of}
use Rattle.pgsub_core.specs.Machine.Replica.{all_cached}
use Rattle.pgsub_core.specs.Calls.Parting.{part}
use Rattle.pgsub_core.proofs.PartChanges.{kept_first, kept_on, cached_on}
use Rattle.pgsub_core.proofs.parting.cache_parts.Goals as goal

pub loop-from-init : goal.loop-from-init
loop-from-init g c =
    let it = g.P.Spools in (
      kept_first it.held it.most it.is_honest c.args.spools.now,
      (omega arith, λ honest. refl),
    )

pub load_part-requires : goal.load_part-requires
load_part-requires g c =
    subst (λ (held : HeldMap). c.loop-from.from ≤ length (held_of held c.args.xid)) (sym c.loop-from.invariant.0.held_is)
    (subst (λ n. c.loop-from.from ≤ n) c.count-end.ensures c.loop-from.invariant.1.0)

pub loop-from-preserved : goal.loop-from-preserved
loop-from-preserved g c =
    let it = g.P.Spools in
    let e = c.in_ok-to.ensures in
    let kept = kept_on it.held it.most it.is_honest c.args.spools.now c.loop-from.spools c.load_part.new.self
    c.loop-from.invariant.0 e.held e.limit e.honest in (
      kept,
      (
        subst (λ n. c.in_ok-to.to ≤ n) (sym c.count-end.ensures)
            (subst (λ (held : HeldMap). c.in_ok-to.to ≤ length (held_of held c.args.xid)) c.loop-from.invariant.0.held_is e.within),
        λ h.
            cached_on c.args.book.now c.loop-from.book c.cache_part.new.book (items_of (held_of (it.held c.args.spools.now) c.args.xid))
            c.loop-from.from c.in_ok-to.to e.order
            (subst (λ (held : HeldMap). c.cache_part.new.book ≡ all_cached c.loop-from.book (part (items_of
            (held_of held c.args.xid)) c.loop-from.from c.in_ok-to.to))
            kept.held_is (c.in_ok-_changes.ensures.cached (λ wide. e.loaded h))) (c.loop-from.invariant.1.1 (e.honest h)),
      ),
    )
