use Rattle.std.proofs.Common.{arith}
use Rattle.std.proofs.lemmas.Result.{err_from_is_err_and}
use Rattle.sqlite.specs.State.{HasCleanDisk}
use Rattle.pgrows.specs.Rows.{state}
use Rattle.pgencoded.proofs.Going.{goes_none, goes_then}
use Rattle.pgstore.proofs.Drafting.{adds_all, adds_more, adds_none, drafts_same, drafts_then}
use Rattle.pgstore.proofs.Parted.{parts_refuse, takes_more, takes_none}
use Rattle.pgstore.proofs.parting.take_parts.Goals as goal

pub parts-init : goal.parts-init
parts-init g c =
    let p = g.P.Parts in
    let l = g.L.Ledger in
    let parts = c.args.parts.now in (
      g.met.P.Parts.steps.none parts,
      goes_none g.S.Store c.args.rows.now,
      λ clean still. takes_none g.S.Store c.args.rows.now (p.is_honest parts) (p.left parts) c.args.end c.args.misses.now still,
      λ clean still. c.requires.known clean still,
      λ clean still honest. adds_none g.S.Store l.drafts l.is_wanting c.args.rows.now (p.left parts) c.args.ledger.now still,
      drafts_same l.begins l.keeps l.outlasts l.is_stuck l.is_wanting l.is_hearing l.heard l.reopens c.args.ledger.now,
      λ has. has,
    )

pub take_part-requires-clause-stored : goal.take_part-requires-clause-stored
take_part-requires-clause-stored g c clean still =
    let goes = c.parts.invariant.1 in
    let was_open = (goes.keeps clean).commit.was_open still in
    let v = c.requires.stored (omega (arith, goes.survives.clean, clean)) was_open in
    let f = (c.parts.invariant.2 clean was_open).folds.1 v.0 v.1 in
    (f.0, f.2)

pub parts-preserved : goal.parts-preserved
parts-preserved g c =
    let p = g.P.Parts in
    let l = g.L.Ledger in
    let old = c.args.rows.now in
    let mid = c.parts.rows in
    let new = c.take_part.new.rows in
    let before = c.parts.parts in
    let parts = c.advance.new.self in
    let steps = g.met.P.Parts.steps in
    let leads = c.advance.ensures.leads in
    let goes = c.take_part.ensures.goes in (
      steps.more c.args.parts.now before parts c.parts.invariant.0 leads,
      goes_then g.S.Store old mid new c.parts.invariant.1 goes.keeps goes.survives,
      λ clean still.
          let was : HasCleanDisk (state g.S.Store mid) = omega (arith, goes.survives.clean, clean) in
          let one = c.parts.invariant.2 was still in
          takes_more g.S.Store old mid (p.is_honest before) (p.is_honest parts) (p.left c.args.parts.now) (p.left before) (p.here parts)
          (p.left parts) c.args.end c.args.misses.now c.parts.misses (steps.honest before parts leads)
          (λ honest. c.in_ok-advance.ensures.part honest c.if-branch.true) one new c.take_part.new.misses
          (c.in_ok-take_part.ensures.made clean one.folds.0.is_open),
      λ clean still.
          let was : HasCleanDisk (state g.S.Store mid) = omega (arith, goes.survives.clean, clean) in
          c.in_ok-take_part.ensures.knows clean (c.parts.invariant.2 was still).folds.0.is_open,
      λ clean still honest.
          let was : HasCleanDisk (state g.S.Store mid) = omega (arith, goes.survives.clean, clean) in
          let is_open = (c.parts.invariant.2 was still).folds.0.is_open in
          adds_more g.S.Store l.drafts l.is_wanting old mid new (p.left c.args.parts.now) (p.left before) (p.here parts) (p.left parts)
          c.args.ledger.now c.parts.ledger c.take_part.new.ledger (c.parts.invariant.4 was still (steps.honest before parts leads honest))
          (c.in_ok-advance.ensures.part honest c.if-branch.true) c.parts.invariant.5.rests.wanting_is (p.is_honest parts) c.args.end
          c.parts.misses c.take_part.new.misses (c.in_ok-take_part.ensures.made clean is_open) honest
          (c.in_ok-take_part.ensures.told clean is_open honest),
      drafts_then l.begins l.keeps l.outlasts l.is_stuck l.is_wanting l.is_hearing l.heard l.reopens
          c.args.ledger.now c.parts.ledger c.take_part.new.ledger c.parts.invariant.5 c.take_part.ensures.drafts,
      λ has. c.in_ok-take_part.ensures.drafted (c.parts.invariant.6 has),
    )

pub returns-in_err-take_part-clause-fault : goal.returns-in_err-take_part-clause-fault
returns-in_err-take_part-clause-fault g c clean still honest =
    let q = err_from_is_err_and c.from_residual-in_err-take_part.result c.from_residual-in_err-take_part.ensures.1 in
    let p = g.P.Parts in
    let old = c.args.rows.now in
    let mid = c.parts.rows in
    let before = c.parts.parts in
    let parts = c.advance.new.self in
    let was : HasCleanDisk (state g.S.Store mid) = omega (arith, c.take_part.ensures.goes.survives.clean, clean) in
    let one = c.parts.invariant.2 was still in
    rw (q.1, q.2) (parts_refuse g.S.Store old mid (p.is_honest before) (p.is_honest parts) (p.left c.args.parts.now) (p.left before)
    (p.here parts) (p.left parts) c.args.end c.args.misses.now c.parts.misses
    (g.met.P.Parts.steps.honest before parts c.advance.ensures.leads)
    (λ honest. c.in_ok-advance.ensures.part honest c.if-branch.true) one c.in_err-take_part.field-0.0 honest
    (c.in_err-take_part.ensures.fault clean one.folds.0.is_open honest))

pub returns-in_err-advance-clause-drafts : goal.returns-in_err-advance-clause-drafts
returns-in_err-advance-clause-drafts g c = c.parts.invariant.5

pub returns-in_err-take_part-clause-drafts : goal.returns-in_err-take_part-clause-drafts
returns-in_err-take_part-clause-drafts g c =
    let l = g.L.Ledger in
    drafts_then l.begins l.keeps l.outlasts l.is_stuck l.is_wanting l.is_hearing l.heard l.reopens
    c.args.ledger.now c.parts.ledger c.take_part.new.ledger c.parts.invariant.5 c.take_part.ensures.drafts

pub returns-clause-drafts : goal.returns-clause-drafts
returns-clause-drafts g c = c.parts.invariant.5

pub returns-clause-told : goal.returns-clause-told
returns-clause-told g c clean still honest =
    let p = g.P.Parts in
    let l = g.L.Ledger in
    let before = c.parts.parts in
    adds_all g.S.Store l.drafts l.is_wanting c.args.rows.now c.parts.rows (p.left c.args.parts.now) (p.left before) c.args.ledger.now
    c.parts.ledger (c.parts.invariant.4 clean still (g.met.P.Parts.steps.honest before c.advance.new.self c.advance.ensures.leads honest))
    (c.in_ok-advance.ensures.end honest c.if-branch.false)

pub returns-clause-drafted : goal.returns-clause-drafted
returns-clause-drafted g c = c.parts.invariant.6
