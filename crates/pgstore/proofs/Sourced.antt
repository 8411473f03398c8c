-- A connection whose trees are taken.
use Rattle.std.proofs.Common.{◌≡◌, [], IsTrue, refl, sym, ap, subst, ◌∙◌, arith}
use Rattle.std.specs.Ordering.{nat_cmp}
use Rattle.std.specs.FinMap.{FinMap}
use Rattle.sqlite.specs.Effect.{Database}
use Rattle.sqlite.specs.Store.{Ghosts}
use Rattle.sqlite.specs.Tree.{Trees}
use Rattle.sqlite.specs.Held as connection
use Rattle.sqlite.specs.Held.{Held}
use Rattle.sqlite.specs.State.{HasCleanDisk, Survives}
use Rattle.pglogical.specs.declared.message.RelationDef.{RelationDef}
use Rattle.pgtables.specs.Kept as connected
use Rattle.pgtables.specs.Kept.{IsKept, tables_in}
use Rattle.pgrows.specs.Rows.{IfServing, Shows, database, state}
use Rattle.pgencoded.specs.Acts.{IsBegun}
use Rattle.pgreshaping.specs.Known.{AreKnown, AreStored}
use Rattle.pgstore.specs.Sources.{Begins}

module _ {S : Type 0} (g : Ghosts S) (conn : Held S) (new : S) where
  pub took_survives : (P : Trees → Type 0)
      → Survives (connection.state g conn) (record (state g new) { step_limit = (connection.state g conn).step_limit }) P
      → Survives (state g conn.store) (state g new) P
  took_survives P s = record { clean = s.clean; shield = s.shield; counts = s.counts; limit = refl; closes = s.closes; crash = s.crash }

  pub took_begins : (IsTrue (connection.state g conn).is_open → (connection.state g conn).now ≡ (connection.state g conn).committed)
      → connected.IfServing g conn (IsKept (connection.state g conn).now)
      → Survives (connection.state g conn) (record (state g new) { step_limit = (connection.state g conn).step_limit }) (λ _. ⊥)
      → IfServing g new (IsTrue (connection.state g conn).is_open × ((state g new).now ≡ (connection.state g conn).now)
      × ((state g new).committed ≡ (connection.state g conn).now) × ((state g new).marks ≡ []))
      → Begins g conn.store new
  took_begins even kept survives tables clean still =
      let it = tables clean still in
      let up = it.0 in
      let is = kept (omega (arith, survives.clean)) up in
      let same : ◌≡◌ {A = Database} (connection.state g conn).now (state g conn.store).committed =
      λ i. record { schema = is.schema i; trees = ap (λ (d : Database). d.trees) (even up) i } in
      (up, it.1 ∙ same, it.2 ∙ same, it.3)

pub undone_begins : {S : Type 0} (g : Ghosts S) (old new : S)
    → IfServing g new (Shows g old new (state g old).committed.trees (state g old).committed.trees) → Begins g old new
undone_begins g old new shows clean still =
    let it = shows clean still in
    (it.was_open, ap database it.now_is, ap database it.committed_is, it.unmarked)

-- ---- what is committed

module _ {S : Type 0} (g : Ghosts S) (old new : S) (begins : Begins g old new) where
  -- the transaction has what is committed
  pub begun_again : IfServing g new (IsBegun g new)
  begun_again clean still = let it = begins clean still in it.1 ∙ sym it.2

  -- where nothing was changed since the commit, what is known stays so
  pub known_begun : (known : FinMap nat_cmp RelationDef) → Survives (state g old) (state g new) (λ _. ⊥) → IfServing g old (IsBegun g old)
      → AreKnown g known old → AreKnown g known new
  known_begun known survives settled are clean still =
      let it = begins clean still in
      let was : HasCleanDisk (state g old) = omega (arith, survives.clean, clean) in
      subst (λ (d : Database). AreStored known (tables_in d.trees)) (settled was it.0 ∙ sym it.1) (are was it.0)
