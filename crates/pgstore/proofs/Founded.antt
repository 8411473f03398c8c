-- A connection whose tables were read and checked is a store.
use Rattle.std.proofs.Common.{◌≡◌, ◌<◌, ◌^◌, IsTrue, ℕ, sym, ap, subst, ◌∙◌}
use Rattle.std.specs.Int.{w64, to_be_bytes}
use Rattle.sqlite.specs.Store.{Ghosts}
use Rattle.sqlite.specs.Held.{Held, state}
use Rattle.sqlite.specs.State.{HasCleanDisk}
use Rattle.pgtables.specs.Kept as stored
use Rattle.pgtables.specs.Kept.{tables_in, tables_of}
use Rattle.pgapply.specs.Stored.{Stored}
use Rattle.pgapply.specs.Value.{Tables}
use Rattle.pgencoded.specs.Spelled.{IsStored}
use Rattle.pgencoded.specs.Acts.{committed_of}
use Rattle.pgadopt.specs.Adopted.{Founds}
use Rattle.pgstore.specs.StoreValue.{IsStore}
use Rattle.pgstore.proofs.Stores.{IsSettled, adopted_kept, adopted_trees, crash_leaves, open_keeps}

module _ {S : Type 0} (g : Ghosts S) (old new : Held S) (position : ℕ) (range : position < 2 ^ 64)
    (founds : HasCleanDisk (state g new) → Founds g old new position)
    (even : IsTrue (state g new).is_open → (state g new).now ≡ (state g new).committed) where
  -- what a connection shows that was read is what is committed
  pub founded_as : HasCleanDisk (state g new) → committed_of g new.store ≡ tables_of g new
  founded_as clean = ap tables_in (adopted_trees g new even (founds clean).is_open)

  founded_stored : HasCleanDisk (state g new) → (v : Tables) × IsStored v (committed_of g new.store)
  founded_stored clean = let it = (founds clean).stands.stored in (it.0, subst (IsStored it.0) (sym (founded_as clean)) it.1)

  founded_place : HasCleanDisk (state g new) → (committed_of g new.store).place ≡ to_be_bytes w64 position
  founded_place clean = ap (λ (t : stored.Tables). t.place) (founded_as clean) ∙ (founds clean).stands.place

  pub founded_store : IsSettled g → IsStore g new.store position
  founded_store law = record {
    kept = λ clean still. adopted_kept g new even (founds clean).is_open (founds clean).stands.kept;
    range = range;
    same = λ clean still. founded_place clean;
    stored = λ clean still. founded_stored clean;
    crash = crash_leaves g law new.store;
    keeps = λ clean.
        let it = founds clean in
        let v : Stored = record { tables = (founded_stored clean).0; position = position } in (
          v,
          open_keeps g new.store v law it.is_open (adopted_kept g new even it.is_open it.stands.kept) (founded_stored clean).1
              (founded_place clean) range,
        );
  }
