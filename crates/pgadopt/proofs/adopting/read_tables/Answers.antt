use Rattle.std.proofs.lemmas.Bool.{eqb-true}
use Rattle.std.proofs.Common.{◌≡◌, Ok, IfSome, Some, None, length, vec_len, sym, ap, subst, ◌∙◌}
use Rattle.std.proofs.Common.{arith}
use Rattle.std.specs.Prelude.{T}
use Rattle.std.specs.Ordering.{nat_cmp}
use Rattle.std.specs.FinMap.{is_sorted}
use Rattle.sqlite.specs.Held.{state}
use Rattle.sqlite.specs.State.{HasCleanDisk}
use Rattle.sqlite.proofs.StateLemmas.{survives_then}
use Rattle.pgtables.specs.Kept.{AreDefined, tables_in}
use Rattle.pgtables.specs.Opened.{ListsDefinitions, IsFoundPosition}
use Rattle.pgtables.specs.Remains.{remaining}
use Rattle.pgadopt.specs.Adopted.{AreDefinitionsOf}
use Rattle.pgadopt.proofs.Founding.{were_read, no_items}
use Rattle.pgadopt.proofs.adopting.read_tables.Goals as goal

pub returns-in-At-clause-found : goal.returns-in-At-clause-found
returns-in-At-clause-found g c clean3 still3 =
    let clean2 : HasCleanDisk (state g.S.Store c.check_remaining_rows.new.conn) =
    omega (arith, c.read_remaining_position.ensures.clean, clean3) in
    let clean1 : HasCleanDisk (state g.S.Store c.read_remaining_definitions.new.conn) =
    omega (arith, c.check_remaining_rows.ensures.clean, clean2) in
    let three = c.read_remaining_position.ensures.unchanged clean3 still3 in
    let two = c.check_remaining_rows.ensures.unchanged clean2 three.0 in
    let one = c.read_remaining_definitions.ensures.unchanged clean1 two.0 in
    let left = c.args.left in
    let all = c.in-Some.definitions.items in
    let first = remaining left (state g.S.Store c.args.conn.now).now.trees in
    let found = subst (λ o. IfSome o (λ all. AreDefined (first 0) × ListsDefinitions (tables_in first) all.items)) c.in-Some.is
    (c.in_ok-definitions.ensures.found clean1) in
    let are : AreDefinitionsOf all c.in_ok-book.book =
    subst (λ es. T (is_sorted nat_cmp es) → AreDefinitionsOf es c.in_ok-book.book) c.as_slice.ensures.value c.in_ok-book.ensures.ok
    found.1.rises in
    let held = c.check_remaining_rows.ensures.held clean2 (c.in_ok-check_remaining_rows.was ∙ ap Ok c.if-not-branch.false) in
    were_read g.S.Store c.args.conn.now c.read_remaining_definitions.new.conn c.check_remaining_rows.new.conn one.1 two.1 left all
    c.in_ok-book.book are found.0 found.1 held.0 (record { each = held.1.each; keyed = held.1.keyed })
    (Some c.in-At.position) (subst (IsFoundPosition (remaining left (state g.S.Store c.check_remaining_rows.new.conn).now.trees 3))
    c.in-At.is (c.in_ok-position.ensures.found clean3)) (λ e. absurd cc)

pub returns-in-Missing-clause-found : goal.returns-in-Missing-clause-found
returns-in-Missing-clause-found g c clean3 still3 =
    let clean2 : HasCleanDisk (state g.S.Store c.check_remaining_rows.new.conn) =
    omega (arith, c.read_remaining_position.ensures.clean, clean3) in
    let clean1 : HasCleanDisk (state g.S.Store c.read_remaining_definitions.new.conn) =
    omega (arith, c.check_remaining_rows.ensures.clean, clean2) in
    let three = c.read_remaining_position.ensures.unchanged clean3 still3 in
    let two = c.check_remaining_rows.ensures.unchanged clean2 three.0 in
    let one = c.read_remaining_definitions.ensures.unchanged clean1 two.0 in
    let left = c.args.left in
    let all = c.in-Some.definitions.items in
    let first = remaining left (state g.S.Store c.args.conn.now).now.trees in
    let found = subst (λ o. IfSome o (λ all. AreDefined (first 0) × ListsDefinitions (tables_in first) all.items)) c.in-Some.is
    (c.in_ok-definitions.ensures.found clean1) in
    let are : AreDefinitionsOf all c.in_ok-book.book =
    subst (λ es. T (is_sorted nat_cmp es) → AreDefinitionsOf es c.in_ok-book.book) c.as_slice.ensures.value c.in_ok-book.ensures.ok
    found.1.rises in
    let held = c.check_remaining_rows.ensures.held clean2 (c.in_ok-check_remaining_rows.was ∙ ap Ok c.if-not-branch.false) in
    let counted = eqb-true (vec_len c.in-Some.definitions) 0 (sym c.if-is_empty.ensures) in
    let none : length all ≡ 0 = omega (arith, counted, c.as_slice.ensures.len, ap length c.as_slice.ensures.value) in
    were_read g.S.Store c.args.conn.now c.read_remaining_definitions.new.conn c.check_remaining_rows.new.conn one.1 two.1 left all
    c.in_ok-book.book are found.0 found.1 held.0 (record { each = held.1.each; keyed = held.1.keyed })
    None (subst (IsFoundPosition (remaining left (state g.S.Store c.check_remaining_rows.new.conn).now.trees 3)) c.in-Missing.is
    (c.in_ok-position.ensures.found clean3)) (λ _. no_items all none)

pub returns-in-Missing-clause-crash : goal.returns-in-Missing-clause-crash
returns-in-Missing-clause-crash g c =
    survives_then (state g.S.Store c.args.conn.now) (state g.S.Store c.check_remaining_rows.new.conn)
    (state g.S.Store c.read_remaining_position.new.conn) (λ _. ⊥) (λ _. ⊥) (λ _. ⊥) (λ _ db none. none) (λ _ db none. none)
    (survives_then (state g.S.Store c.args.conn.now) (state g.S.Store c.read_remaining_definitions.new.conn)
    (state g.S.Store c.check_remaining_rows.new.conn) (λ _. ⊥) (λ _. ⊥) (λ _. ⊥) (λ _ db none. none) (λ _ db none. none)
    c.read_remaining_definitions.ensures.crash c.check_remaining_rows.ensures.crash)
    c.read_remaining_position.ensures.crash
