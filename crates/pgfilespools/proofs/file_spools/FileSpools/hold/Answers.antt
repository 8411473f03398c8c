use Rattle.std.proofs.Common.{◌++◌, ◌∷◌, [], refl, sym, ap, subst, true≢false, ◌∙◌, arith}
use Rattle.std.specs.Prelude.{IsSome}
use Rattle.std.specs.FinMap as map
use Rattle.std.proofs.lemmas.List.Sums.{sum_by_push}
use Rattle.pgtuple.proofs.Appending.{on_err}
use Rattle.pgspool.specs.Labels.{LabelledItem, cost, costs, all_costs}
use Rattle.pgspool.proofs.HeldBy.{listed_entries, listed_absent}
use Rattle.pgspool.proofs.OpenEntries.{one_within_all, closed_absent}
use Rattle.pgfilespools.specs.Kept.{items_kept}
use Rattle.pgfilespools.specs.Spooled.{FileSpooled, held_in_file}
use Rattle.pgfilespools.proofs.Spooling.{all_stay, found_held, put_held, put_spooled, back_held}
use Rattle.pgfilespools.proofs.Spooling.{back_spooled}
use Rattle.pgfilespools.proofs.file_spools.FileSpools.hold.Goals as goal

pub unreachable-requires : goal.unreachable-requires
unreachable-requires g c =
    let s = c.self.inside in
    let listed = items_kept (g.D.Disk.seen s.blocks.disk) in
    true≢false (sym (ap (λ (v : FileSpooled). map.contains_key v.held c.args.xid) c.self.view_is ∙ c.requires.open)
    ∙ closed_absent (listed_entries listed s.transactions.entries) c.args.xid
    (listed_absent listed s.transactions.entries c.args.xid c.in_default.ensures.value))

pub push-requires-clause-start : goal.push-requires-clause-start
push-requires-clause-start g c = (c.self.invariant.0.each c.args.xid c.in-Some.items.now c.in-Some.ensures.value).0.strand.start

pub push-requires-clause-fits : goal.push-requires-clause-fits
push-requires-clause-fits g c =
    let s = c.self.inside in
    let file = g.D.Disk.seen s.blocks.disk in
    let t = c.in-Some.items.now in
    let most = ap (λ (v : FileSpooled). v.most) c.self.view_is in
    let held = ap (λ (v : FileSpooled). all_costs v.held) c.self.view_is in
    let sum = c.self.invariant.0.counted.counted in
    let all = one_within_all (held_in_file file s.transactions.entries) s.bytes s.max_bytes c.args.xid c.self.invariant.0.counted in
    let here = ap costs (found_held file s.transactions.entries c.args.xid t c.in-Some.ensures.value) in
    let kept = (c.self.invariant.0.each c.args.xid t c.in-Some.ensures.value).0.stored.index.counted in
    let cost_is = c.requires.counted in
    let room = c.requires.room in
    omega arith

pub invariant_of-self : goal.invariant_of-self
invariant_of-self g c =
    let s = c.self.inside in
    let b = s.blocks in
    let file = g.D.Disk.seen b.disk in
    let t = c.in-Some.items.now in
    let t' = c.push.new.self in
    let each = c.self.invariant.0.each c.args.xid t c.in-Some.ensures.value in
    let keeps = c.in_err-push.ensures.err b.key file b.owners.items each.0 in (
      back_spooled c.args.xid b.key b.key file file b.owners.items b.owners.items (all_stay c.args.xid b.key file b.owners.items)
          refl s.transactions.entries (c.get_mut.follows.lender t').entries s.bytes s.max_bytes c.self.invariant.0
          t' ((c.get_mut.follows.holds t').3 (subst IsSome c.in-Some.ensures.value refl)).0
          keeps.kept (c.in_err-push.ensures.xid ∙ each.1) t c.in-Some.ensures.value keeps.same,
      c.self.invariant.1,
    )

pub returns-in_err-push-clause-err : goal.returns-in_err-push-clause-err
returns-in_err-push-clause-err g c =
    let s = c.self.inside in
    let b = s.blocks in
    let file = g.D.Disk.seen b.disk in
    let t = c.in-Some.items.now in
    let t' = c.push.new.self in
    let each = c.self.invariant.0.each c.args.xid t c.in-Some.ensures.value in
    let keeps = c.in_err-push.ensures.err b.key file b.owners.items each.0 in
    on_err c.from_residual.result (rw (← c.self.view_is) (
    back_held c.args.xid b.key b.key file file b.owners.items b.owners.items (all_stay c.args.xid b.key file b.owners.items)
    refl s.transactions.entries (c.get_mut.follows.lender t').entries s.bytes s.max_bytes c.self.invariant.0
    t' ((c.get_mut.follows.holds t').3 (subst IsSome c.in-Some.ensures.value refl)).0
    keeps.kept (c.in_err-push.ensures.xid ∙ each.1) t c.in-Some.ensures.value keeps.same))

pub invariant_of-self-2 : goal.invariant_of-self-2
invariant_of-self-2 g c =
    let s = c.self.inside in
    let b = s.blocks in
    let file = g.D.Disk.seen b.disk in
    let t = c.in-Some.items.now in
    let t' = c.push.new.self in
    let each = c.self.invariant.0.each c.args.xid t c.in-Some.ensures.value in
    let adds = c.in_ok-push.ensures.ok b.key file b.owners.items each.0 in
    let most = ap (λ (v : FileSpooled). v.most) c.self.view_is in
    let held = ap (λ (v : FileSpooled). all_costs v.held) c.self.view_is in
    let sum = c.self.invariant.0.counted.counted in
    let here = ap costs (found_held file s.transactions.entries c.args.xid t c.in-Some.ensures.value) in
    let pushed = ap costs adds.added
    ∙ sum_by_push (λ (l : LabelledItem). cost l.1) (items_kept file t) (c.args.subxid, c.args.item.now) in
    let cost_is = c.requires.counted in
    let room = c.requires.room in (
      put_spooled c.args.xid b.key b.key file file b.owners.items b.owners.items (all_stay c.args.xid b.key file b.owners.items)
          refl s.transactions.entries (c.get_mut.follows.lender t').entries s.bytes s.max_bytes c.self.invariant.0
          t' ((c.get_mut.follows.holds t').3 (subst IsSome c.in-Some.ensures.value refl)).0
          adds.kept (c.in_ok-push.ensures.xid ∙ each.1) _ (omega arith) (omega arith),
      c.self.invariant.1,
    )

pub returns-clause-ok : goal.returns-clause-ok
returns-clause-ok g c =
    let s = c.self.inside in
    let b = s.blocks in
    let file = g.D.Disk.seen b.disk in
    let t = c.in-Some.items.now in
    let t' = c.push.new.self in
    let each = c.self.invariant.0.each c.args.xid t c.in-Some.ensures.value in
    let adds = c.in_ok-push.ensures.ok b.key file b.owners.items each.0 in
    rw (← c.self.view_is) (
    put_held c.args.xid b.key b.key file file b.owners.items b.owners.items (all_stay c.args.xid b.key file b.owners.items)
    refl s.transactions.entries (c.get_mut.follows.lender t').entries s.bytes s.max_bytes c.self.invariant.0
    t' ((c.get_mut.follows.holds t').3 (subst IsSome c.in-Some.ensures.value refl)).0
    adds.kept (c.in_ok-push.ensures.xid ∙ each.1)
    ∙ ap (map.insert (held_in_file file s.transactions.entries) c.args.xid) (adds.added
    ∙ ap (λ l. l ++ (c.args.subxid, c.args.item.now) ∷ [])
    (sym (found_held file s.transactions.entries c.args.xid t c.in-Some.ensures.value))))
