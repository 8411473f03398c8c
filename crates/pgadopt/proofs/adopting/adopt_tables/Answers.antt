use Rattle.std.proofs.Common.{◌≡◌, ◌⊎◌, inl, inr, true, false, None, sym, subst, ◌∙◌, arith}
use Rattle.std.specs.Prelude.{is_some}
use Rattle.sqlite.specs.Held.{state}
use Rattle.sqlite.specs.State.{HasCleanDisk, Survives}
use Rattle.pgadopt.specs.Adopted.{AreRemade, Founds, HasRemade, LeavesRemade, is_whole}
use Rattle.pgadopt.proofs.Founding.{stands_founds, remade_founds, remade_adopted, adopted_left}
use Rattle.pgadopt.proofs.Founding.{not_some, whole_placed}
use Rattle.pgadopt.proofs.adopting.adopt_tables.Goals as goal
use Rattle.pgadopt.proofs.adopting.adopt_tables.Goals.{else-is_some-via-then-is_some+else-is_whole}
use Rattle.pgadopt.proofs.adopting.adopt_tables.Goals.{else-is_some-via-else-is_some}

pub returns-then-is_whole-clause-founds : goal.returns-then-is_whole-clause-founds
returns-then-is_whole-clause-founds g c clean =
    let old = c.args.conn.now in
    let mid = c.read_tables.new.conn in
    let left = c.in-Some.left in
    let whole : is_whole left ≡ true = sym c.is_whole.ensures ∙ c.if-is_whole.true in
    let still = c.in_ok-definitions.ensures.serving clean (whole_placed left whole) in
    let same = c.read_tables.ensures.unchanged clean still in
    let read = c.in_ok-definitions.ensures.found clean still in
    let some : is_some c.in_ok-definitions.found ≡ true = sym c.is_some.ensures ∙ c.if-is_some.true in
    subst (Founds g.S.Store old mid) (sym c.unwrap_or-position.ensures)
    (stands_founds g.S.Store old mid mid left c.in_ok-definitions.definitions.items c.in_ok-definitions.found read
    (c.in-Some.ensures.remains same.0) (λ v are. c.sees_schema.ensures v are same.0) some whole (c.find_remains.ensures.sound same.0)
    still same.1)

pub returns-clause-founds : goal.returns-clause-founds
returns-clause-founds g c clean =
    let old = c.args.conn.now in
    let mid = c.read_tables.new.conn in
    let new = c.remake_tables.new.conn in
    let left = c.in-Some.left in
    let found = c.in_ok-definitions.found in
    let all = c.in_ok-definitions.definitions.items in
    let none : (found ≡ None) ⊎ (is_whole left ≡ false) = elim c.else-is_some.branch [
      | else-is_some-via-then-is_some+else-is_whole w ↦ inr (sym w.is_whole.ensures ∙ w.if-is_whole.false)
      | else-is_some-via-else-is_some w ↦ inl (not_some found (sym c.is_some.ensures ∙ w.if-is_some.false))
    ] in
    let late : HasCleanDisk (state g.S.Store mid) = omega (arith, c.remake_tables.ensures.crash.clean, clean) in
    let made = subst (λ es. HasRemade g.S.Store es c.unwrap_or-position.result mid new) c.as_slice.ensures.value
    (c.in_ok-remake_tables.ensures.made clean) in
    let same = c.read_tables.ensures.unchanged late made.was_open in
    let read = c.in_ok-definitions.ensures.found late made.was_open in
    subst (Founds g.S.Store old new) (sym c.unwrap_or-position.ensures)
    (remade_founds g.S.Store old mid new left all found read (c.in-Some.ensures.remains same.0)
    (λ v are. c.sees_schema.ensures v are same.0) none
    (subst (λ p. HasRemade g.S.Store all p mid new) c.unwrap_or-position.ensures made))

pub returns-clause-crash : goal.returns-clause-crash
returns-clause-crash g c =
    let old = c.args.conn.now in
    let mid = c.read_tables.new.conn in
    let new = c.remake_tables.new.conn in
    let left = c.in-Some.left in
    let found = c.in_ok-definitions.found in
    let all = c.in_ok-definitions.definitions.items in
    let none : (found ≡ None) ⊎ (is_whole left ≡ false) = elim c.else-is_some.branch [
      | else-is_some-via-then-is_some+else-is_whole w ↦ inr (sym w.is_whole.ensures ∙ w.if-is_whole.false)
      | else-is_some-via-else-is_some w ↦ inl (not_some found (sym c.is_some.ensures ∙ w.if-is_some.false))
    ] in
    let crash = subst (λ es.
    Survives (state g.S.Store mid) (state g.S.Store new) (LeavesRemade g.S.Store es c.unwrap_or-position.result mid))
    c.as_slice.ensures.value c.remake_tables.ensures.crash in
    adopted_left g.S.Store old mid new all c.unwrap_or-position.result c.read_tables.ensures.crash crash (λ late still db made.
    let same = c.read_tables.ensures.unchanged late still in
    let read = c.in_ok-definitions.ensures.found late still in
    remade_adopted g.S.Store old mid new left all found read (c.in-Some.ensures.remains same.0)
    (λ v are. c.sees_schema.ensures v are same.0) none db (subst (λ p. AreRemade all p db) c.unwrap_or-position.ensures made))

pub returns-in_err-remake_tables-clause-crash : goal.returns-in_err-remake_tables-clause-crash
returns-in_err-remake_tables-clause-crash g c =
    let old = c.args.conn.now in
    let mid = c.read_tables.new.conn in
    let new = c.remake_tables.new.conn in
    let left = c.in-Some.left in
    let found = c.in_ok-definitions.found in
    let all = c.in_ok-definitions.definitions.items in
    let none : (found ≡ None) ⊎ (is_whole left ≡ false) = elim c.else-is_some.branch [
      | else-is_some-via-then-is_some+else-is_whole w ↦ inr (sym w.is_whole.ensures ∙ w.if-is_whole.false)
      | else-is_some-via-else-is_some w ↦ inl (not_some found (sym c.is_some.ensures ∙ w.if-is_some.false))
    ] in
    let crash = subst (λ es.
    Survives (state g.S.Store mid) (state g.S.Store new) (LeavesRemade g.S.Store es c.unwrap_or-position.result mid))
    c.as_slice.ensures.value c.remake_tables.ensures.crash in
    adopted_left g.S.Store old mid new all c.unwrap_or-position.result c.read_tables.ensures.crash crash (λ late still db made.
    let same = c.read_tables.ensures.unchanged late still in
    let read = c.in_ok-definitions.ensures.found late still in
    remade_adopted g.S.Store old mid new left all found read (c.in-Some.ensures.remains same.0)
    (λ v are. c.sees_schema.ensures v are same.0) none db (subst (λ p. AreRemade all p db) c.unwrap_or-position.ensures made))
