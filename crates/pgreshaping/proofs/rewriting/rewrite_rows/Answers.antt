use Rattle.std.proofs.Common.{sym, subst, arith}
use Rattle.std.proofs.lemmas.Result.{err_from_is_err_and}
use Rattle.pgrows.specs.Rows.{tables_of}
use Rattle.pgrows.specs.Walk.{EndsAt, IsNextRow}
use Rattle.pgencoded.proofs.Formed.{own_of_read, read_refuses}
use Rattle.pgreshaping.specs.Rewrites.{RewritesOn, RewritesOne}
use Rattle.pgreshaping.proofs.InPlace.{fits_on, kept_on, rewrites_end, rewrites_on}
use Rattle.pgreshaping.proofs.InPlace.{rewrites_on_none}
use Rattle.pgreshaping.proofs.rewriting.rewrite_rows.Goals as goal

pub loop-init : goal.loop-init
loop-init g c = subst (RewritesOn g.S.Store c.args.rows.now c.args.rows.now c.args.old.now c.args.def.now) (sym c.new-from.ensures.items)
    (rewrites_on_none g.S.Store c.args.rows.now c.args.old.now c.args.def.now)

pub loop-preserved : goal.loop-preserved
loop-preserved g c =
    rewrites_on g.S.Store c.args.rows.now c.args.old.now c.args.def.now c.loop.rows c.loop.from.items c.loop.invariant
    c.next_row.new.self c.rewrite_row.new.rows c.in-Some.ident.items c.push.new.self.items c.in-Some.kept
    (λ mid. (
      subst (λ from. IsNextRow c.args.def.now.oid from (tables_of g.S.Store c.loop.rows).rows c.in-Some.ident.items c.in-Some.kept)
          c.as_slice.ensures.value (rw c.in-Some.is at (c.in_ok-ident.ensures.found mid)),
      c.in_ok-ident.ensures.made mid,
    ))
    (record { keeps = c.next_row.ensures.keeps; survives = c.next_row.ensures.survives })
    (λ clean. subst (λ place. RewritesOne g.S.Store c.next_row.new.self c.rewrite_row.new.rows c.args.old.now c.args.def.now place
    c.in-Some.kept) c.as_slice-in-loop.ensures.value (c.in_ok-rewrite_row.ensures.made clean))
    c.rewrite_row.ensures.goes c.in_ok-push.ensures.items

pub returns-in_default-clause-made : goal.returns-in_default-clause-made
returns-in_default-clause-made g c clean =
    rewrites_end g.S.Store c.args.rows.now c.args.old.now c.args.def.now c.loop.rows c.loop.from.items c.loop.invariant
    c.next_row.new.self
    (λ mid. (
      subst (λ from. EndsAt c.args.def.now.oid from (tables_of g.S.Store c.loop.rows).rows) c.as_slice.ensures.value
          (rw c.in_default.is at (c.in_ok-ident.ensures.found mid)),
      c.in_ok-ident.ensures.made mid,
    ))
    (record { keeps = c.next_row.ensures.keeps; survives = c.next_row.ensures.survives }) clean

pub returns-in_err-ident-clause-fault : goal.returns-in_err-ident-clause-fault
returns-in_err-ident-clause-fault g c clean =
    read_refuses c.from_residual-in_err-ident.result c.in_err-ident.field-0.0 c.from_residual-in_err-ident.ensures.1
    (λ fault is v start h readable.
    let was = c.next_row.ensures.survives.clean in
    let fit = fits_on g.S.Store c.args.rows.now c.args.old.now c.args.def.now c.loop.rows c.loop.from.items c.loop.invariant
    (omega (arith, was)) v start h readable in
    own_of_read _ fault (c.in_err-ident.ensures.formed clean fit) is)

pub returns-in_err-rewrite_row-clause-fault : goal.returns-in_err-rewrite_row-clause-fault
returns-in_err-rewrite_row-clause-fault g c clean =
    let p = err_from_is_err_and c.from_residual-in_err-rewrite_row.result c.from_residual-in_err-rewrite_row.ensures.1 in
    rw (p.1, p.2) (λ v start h readable.
    let later = c.rewrite_row.ensures.goes.survives.clean in
    let earlier = c.next_row.ensures.survives.clean in
    let kept = kept_on g.S.Store c.args.rows.now c.args.old.now c.args.def.now c.loop.rows c.loop.from.items c.loop.invariant
    (omega (arith, later, earlier)) c.in-Some.ident.items c.in-Some.kept
    (subst (λ from. IsNextRow c.args.def.now.oid from (tables_of g.S.Store c.loop.rows).rows c.in-Some.ident.items c.in-Some.kept)
    c.as_slice.ensures.value (rw c.in-Some.is at (c.in_ok-ident.ensures.found (omega (arith, later))))) v start h readable in
    c.in_err-rewrite_row.ensures.fault kept.0 kept.1)
