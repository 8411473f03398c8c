use Rattle.std.proofs.Common.{sym, ◌∙◌, arith}
use Rattle.sqlite.specs.State.{HasCleanDisk}
use Rattle.pgrows.specs.Rows.{state, tables_of}
use Rattle.pgreshaping.proofs.Definitions.{found_same, given_before}
use Rattle.pgreshaping.proofs.Remembering.{noted_stored}
use Rattle.pgstore.proofs.Applying.{found_given}
use Rattle.pgstore.proofs.taking.give_once.Goals as goal

pub returns-then-is_last-clause-made : goal.returns-then-is_last-clause-made
returns-then-is_last-clause-made g c clean still = (
  record { was_open = still; is_open = still },
  λ v h given.
      let stands = given (sym c.in_ok-last.ensures.old ∙ c.is_last.ensures.given c.if-is_last.true) in
      let found = found_given v c.args.def.now c.args.entry.now.1 (tables_of g.S.Store c.args.rows.now) h stands in
      (found.0, found.1, found.2, (h.spellable c.args.def.now.oid _ stands.1).readable),
)

pub returns-then-knows-clause-made : goal.returns-then-knows-clause-made
returns-then-knows-clause-made g c clean still = (
  record { was_open = still; is_open = still },
  λ v h given.
      let def = c.args.def.now in
      let t = tables_of g.S.Store c.args.rows.now in
      let op = c.args.entry.now.1 in
      let at = c.requires.known clean still def.oid def (c.knows.ensures.same c.if-knows.true) in
      let found = found_same v def t h op c.requires.definition at in
      (found.0, found.1, given_before v def t h op found.0 found.1 found.2 at, c.knows.ensures.readable),
)

pub returns-clause-made : goal.returns-clause-made
returns-clause-made g c clean still =
    let gives = c.in_ok-give_definition.ensures.made clean in
    (gives.0, λ v h given. let found = gives.1 v h in (found.0, found.1, found.2, c.give_definition.ensures.readable))

pub returns-then-is_last-clause-knows : goal.returns-then-is_last-clause-knows
returns-then-is_last-clause-knows g c clean still v h = c.requires.known clean still

pub returns-then-knows-clause-knows : goal.returns-then-knows-clause-knows
returns-then-knows-clause-knows g c clean still v h = c.requires.known clean still

pub returns-clause-knows : goal.returns-clause-knows
returns-clause-knows g c clean still v h =
    let gives = c.in_ok-give_definition.ensures.made clean in
    let found = gives.1 v h in
    let was : HasCleanDisk (state g.S.Store c.args.rows.now) = omega (arith, c.give_definition.ensures.goes.survives.clean, clean) in
    noted_stored c.args.known.now c.remember.new.known v c.args.def.now found.0 (tables_of g.S.Store c.args.rows.now)
    (tables_of g.S.Store c.give_definition.new.rows) (c.requires.known was still) h found.2 c.remember.ensures
