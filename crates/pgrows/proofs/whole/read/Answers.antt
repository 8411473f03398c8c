use Rattle.std.proofs.Common.{sym, ap, subst, ◌∙◌, arith, rules, to_z-of_z, SFits, w64}
use Rattle.std.proofs.lemmas.Result.{IfOk-weaker, on_ok_weaker}
use Rattle.sqlite_trees.specs.View.{View, Finds, IsClean}
use Rattle.sqlite_exec.specs.Calls.{OnlyReads}
use Rattle.pgrows.proofs.SetUp.{table_shape}
use Rattle.pgrows.specs.Rows.{IsFree, IsStored, IsUnder}
use Rattle.pgrows.proofs.Found.{open_of, free_is, reads_under}
use Rattle.pgrows.proofs.Edited.{read_by}
use Rattle.pgrows.proofs.whole.read.Goals as goal

pub get-requires : goal.get-requires
get-requires g c clean =
    let store = c.args.store.now in
    let guessed : IsClean (g.S.Store.view c.find_guessed.new.store) = omega (arith, c.find_listed.ensures.quiet.clean) in
    let was : IsClean (g.S.Store.view store) = omega (arith, c.find_guessed.ensures.quiet.clean, c.find_listed.ensures.quiet.clean) in
    let unbroken = sym (c.is_broken.ensures was) ∙ c.if-is_broken.false in
    let up = open_of (g.S.Store.view store) (g.met.S.Store.broken_if_shut store) unbroken in
    ap (λ (v : View). v.shape 1) (c.in_ok-id.ensures.same clean) ∙ ap (λ (v : View). v.shape 1) (c.in_ok-guessed.ensures.same guessed)
    ∙ table_shape (c.requires was up).good (g.met.S.Alter.listed store unbroken) (g.met.S.Store.ordered store unbroken)

pub returns-in-Some-clause-found : goal.returns-in-Some-clause-found
returns-in-Some-clause-found g c clean =
    let store = c.args.store.now in
    let mid : IsClean (g.S.Store.view c.find_listed.new.store) = omega (arith, c.get.ensures.quiet.clean) in
    let guessed : IsClean (g.S.Store.view c.find_guessed.new.store) =
    omega (arith, c.find_listed.ensures.quiet.clean, c.get.ensures.quiet.clean) in
    let was : IsClean (g.S.Store.view store) =
    omega (arith, c.find_guessed.ensures.quiet.clean, c.find_listed.ensures.quiet.clean, c.get.ensures.quiet.clean) in
    let up = open_of (g.S.Store.view store) (g.met.S.Store.broken_if_shut store) (sym (c.is_broken.ensures was) ∙ c.if-is_broken.false) in
    let same = c.in_ok-guessed.ensures.same guessed in
    let read = subst (λ v. OnlyReads v (g.S.Store.view c.find_listed.new.store)) same (c.in_ok-id.ensures.same mid) in
    let fits : SFits w64 c.in-Some.id = search rules in
    IfOk-weaker c.get.result _ _ (λ found h.
    read_by c.args.oid c.args.ident.now c.in-Some.id ((g.S.Store.view store).trees 1) c.get.new.row found (c.requires was up).good.kept.held
    (subst (λ (v : View). IsStored c.args.oid c.args.ident.now (v.trees 1) c.in-Some.id) same
    (rw c.in-Some.is at (c.in_ok-id.ensures.found mid)))
    (subst (λ l. Finds l c.in-Some.id c.get.new.row found) (ap (λ (v : View). v.trees 1) read) (simp to_z-of_z at (h clean))))
    c.get.ensures.ok

pub returns-in-None-clause-found : goal.returns-in-None-clause-found
returns-in-None-clause-found g c clean =
    let guessed : IsClean (g.S.Store.view c.find_guessed.new.store) = omega (arith, c.find_listed.ensures.quiet.clean) in
    free_is c.args.oid c.args.ident.now ((g.S.Store.view c.args.store.now).trees 1)
    (subst (λ (v : View). IsFree c.args.oid c.args.ident.now (v.trees 1)) (c.in_ok-guessed.ensures.same guessed)
    (rw c.in-None.is at (c.in_ok-id.ensures.found clean)))

pub returns-in-None-clause-rows : goal.returns-in-None-clause-rows
returns-in-None-clause-rows g c clean still =
    let guessed : IsClean (g.S.Store.view c.find_guessed.new.store) = omega (arith, c.find_listed.ensures.quiet.clean) in
    let was : IsClean (g.S.Store.view c.args.store.now) =
    omega (arith, c.find_guessed.ensures.quiet.clean, c.find_listed.ensures.quiet.clean) in
    let read = subst (λ v. OnlyReads v (g.S.Store.view c.find_listed.new.store)) (c.in_ok-guessed.ensures.same guessed)
    (c.in_ok-id.ensures.same clean) in
    reads_under _ _ c.args._last read (c.requires was (sym (ap (λ (v : View). v.is_open) read) ∙ still))

pub returns-in-Some-clause-rows : goal.returns-in-Some-clause-rows
returns-in-Some-clause-rows g c =
    on_ok_weaker c.get.result (λ same clean still.
    let mid : IsClean (g.S.Store.view c.find_listed.new.store) = omega (arith, c.get.ensures.quiet.clean) in
    let guessed : IsClean (g.S.Store.view c.find_guessed.new.store) =
    omega (arith, c.find_listed.ensures.quiet.clean, c.get.ensures.quiet.clean) in
    let was : IsClean (g.S.Store.view c.args.store.now) =
    omega (arith, c.find_guessed.ensures.quiet.clean, c.find_listed.ensures.quiet.clean, c.get.ensures.quiet.clean) in
    let read = subst (λ v. OnlyReads v (g.S.Store.view c.find_listed.new.store)) (c.in_ok-guessed.ensures.same guessed)
    (c.in_ok-id.ensures.same mid) in
    let up = sym (ap (λ (v : View). v.is_open) read) ∙ sym (ap (λ (v : View). v.is_open) (same clean)) ∙ still in
    subst (λ v. IsUnder v c.args._last) (sym (same clean)) (reads_under _ _ c.args._last read (c.requires was up))) c.get.ensures.same
