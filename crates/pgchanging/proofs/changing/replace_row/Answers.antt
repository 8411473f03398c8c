use Rattle.std.proofs.Common.{◌≡◌, ap, subst, ◌∙◌, List}
use Rattle.pgrel.specs.Identity.{resolved, has_unchanged}
use Rattle.pgrel.proofs.Rows.{resolved_width}
use Rattle.pgtables.specs.Kept as stored
use Rattle.pgrows.specs.Rows.{tables_of}
use Rattle.pgtuple.specs.declared.cell.Cell.{Cell}
use Rattle.pgtuple.specs.Limits.{IsWireTuple}
use Rattle.pgapply.specs.Apply.{with_row, without_row}
use Rattle.pgapply.specs.Stored.{IsFault}
use Rattle.pgencoded.specs.Acts.{MakesOf, refilled_row}
use Rattle.pgencoded.proofs.Acting.{on_ok, if_err, moved_same, own_fault}
use Rattle.pgencoded.proofs.Deciding.{resolved_sent}
use Rattle.pgchanging.proofs.Updating.{kept_place}
use Rattle.pgchanging.proofs.changing.replace_row.Goals as goal

pub move_row-requires : goal.move_row-requires
move_row-requires g c = record
    { width = rw (c.borrowed-2.ensures, c.in_ok-next.ensures.ok) (resolved_width c.args.row.now _ ∙ c.requires.width) }

pub returns-clause-made : goal.returns-clause-made
returns-clause-made g c clean = on_ok c.move_row.result (c.move_row.ensures.made clean) (λ moves. (
  moves.0,
  λ v rows was h found.
      let read = c.in_ok-was.ensures.ok was.cells (h.tuples c.args.identity.now was found.at)
      (c.body.ensures ∙ ap (λ (k : stored.Copies). k.body) found.is) in
      let cells : c.borrowed-2.result ≡ resolved c.args.row.now was.cells =
      c.borrowed-2.ensures ∙ c.in_ok-next.ensures.ok ∙ ap (resolved c.args.row.now) read in
      let sent = resolved_sent v c.args.def.now rows (tables_of g.S.Store c.args.rows.now) h c.args.identity.now c.args.there.now was found
      c.args.row.now c.requires.width in
      subst (λ (x : List Cell).
      MakesOf v c.args.def.now (with_row c.args.def.now x (without_row c.args.identity.now was rows))
      (tables_of g.S.Store c.move_row.new.rows)) cells
      (moves.1 v rows was h found (ap has_unchanged cells ∙ sent)),
))

pub returns-clause-fault : goal.returns-clause-fault
returns-clause-fault g c clean = if_err c.move_row.result (c.move_row.ensures.fault clean) (λ e refuses v rows was h found.
    let read = c.in_ok-was.ensures.ok was.cells (h.tuples c.args.identity.now was found.at)
    (c.body.ensures ∙ ap (λ (k : stored.Copies). k.body) found.is) in
    let cells : c.borrowed-2.result ≡ resolved c.args.row.now was.cells =
    c.borrowed-2.ensures ∙ c.in_ok-next.ensures.ok ∙ ap (resolved c.args.row.now) read in
    let sent = resolved_sent v c.args.def.now rows (tables_of g.S.Store c.args.rows.now) h c.args.identity.now c.args.there.now was found
    c.args.row.now c.requires.width in
    subst (λ (x : List Cell). IsFault e (with_row c.args.def.now x (without_row c.args.identity.now was rows))) cells
    (refuses v rows was h found (ap has_unchanged cells ∙ sent)))

pub returns-then-keeps_place-clause-made : goal.returns-then-keeps_place-clause-made
returns-then-keeps_place-clause-made g c clean = on_ok c.put_in_place.result (c.put_in_place.ensures.made clean) (λ put. (
  record { was_open = put.was_open; is_open = put.is_open },
  λ v rows was h found.
      let read = c.in_ok-was.ensures.ok was.cells (h.tuples c.args.identity.now was found.at)
      (c.body.ensures ∙ ap (λ (k : stored.Copies). k.body) found.is) in
      let cells : c.borrowed.result ≡ resolved c.args.row.now was.cells =
      c.borrowed.ensures ∙ c.in_ok-next.ensures.ok ∙ ap (resolved c.args.row.now) read in
      let sent = resolved_sent v c.args.def.now rows (tables_of g.S.Store c.args.rows.now) h c.args.identity.now c.args.there.now was found
      c.args.row.now c.requires.width in
      let place = kept_place c.args.def.now c.args.identity.now c.args.row.now was.cells (c.requires.place c.if-keeps_place.true) in
      moved_same v c.args.def.now rows (tables_of g.S.Store c.args.rows.now) h (resolved c.args.row.now was.cells) c.args.identity.now
      c.args.there.now was (tables_of g.S.Store c.put_in_place.new.rows) found place
      (subst IsWireTuple cells c.put_in_place.ensures.tuple) (resolved_width c.args.row.now was.cells ∙ c.requires.width) sent
      (put.made ∙ ap (λ (x : List Cell). refilled_row c.args.def.now.oid c.args.identity.now c.args.there.now x
      (tables_of g.S.Store c.args.rows.now)) cells),
))

pub returns-then-keeps_place-clause-fault : goal.returns-then-keeps_place-clause-fault
returns-then-keeps_place-clause-fault g c clean =
    if_err c.put_in_place.result c.put_in_place.ensures.fault (λ e own v rows was h found. own_fault e _ own)
