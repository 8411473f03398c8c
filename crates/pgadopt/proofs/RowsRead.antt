-- A store in trees, whose rows were read after its definitions and its position.
use Rattle.std.proofs.Common.{◌≡◌, ℕ, [], ◌∷◌, sym, subst}
use Rattle.std.specs.Int.{w64, to_be_bytes}
use Rattle.sqlite.specs.ExecCalls.{OnlyReads}
use Rattle.sqlite.specs.Tree.{Trees}
use Rattle.sqlite.specs.View.{View}
use Rattle.sqlite_sql.specs.Catalog.{IsIndexOf}
use Rattle.pgtables.specs.Kept.{AreHeld, tables_in}
use Rattle.pgtables.specs.Opened.{AreAccepted}
use Rattle.pgverify.specs.Verified.{ListsStore}
use Rattle.pgverify.proofs.Sound as sound
use Rattle.pgadopt.specs.Adopted.{Definitions, IsKnownRow}
use Rattle.pgadopt.specs.Outlined.{AreOutlined, AreStore}

-- reading leaves trees listed as they were
pub lists_still : (old new : View) → OnlyReads old new → ListsStore old → ListsStore new
lists_still old new same lists = subst ListsStore (sym same) (record { unbroken = lists.unbroken; lists = lists.lists })

-- the rows were read after the definitions and the position
pub trees_read : (before : View) (after : Trees) → after ≡ before.trees → (known : Definitions) (position : ℕ)
    → AreOutlined before known position → AreHeld (after 1) → AreAccepted IsKnownRow known (tables_in after)
    → IsIndexOf (1 ∷ 2 ∷ []) (after 1) (after 2) → AreStore before.trees position
trees_read before after same known position it held rows indexed =
    let held_is = subst (λ (t : Trees). AreHeld (t 1)) same held in
    record {
      definitions = it.definitions;
      read = record {
        known = known;
        are = it.are;
        defined = it.defined;
        lists = it.lists;
        held = held_is;
        rows = subst (λ (t : Trees). AreAccepted IsKnownRow known (tables_in t)) same rows;
        place = (it.place, it.range);
        bare = λ e. absurd cc;
      };
      kept = sound.kept before.trees (to_be_bytes w64 position) it.defined held_is it.place it.listed.lists
          (subst (λ (t : Trees). IsIndexOf (1 ∷ 2 ∷ []) (t 1) (t 2)) same indexed);
    }
