-- A change, from the definitions that were given before it.
use Rattle.std.specs.Prelude.{◌≡◌, List, ℕ, Option, Ok}
use Rattle.sqlite.specs.Store.{Ghosts}
use Rattle.pglogical.specs.declared.message.RelationDef.{RelationDef}
use Rattle.pgrows.specs.Rows.{tables_of}
use Rattle.pgapply.specs.declared.op.Op.{Op}
use Rattle.pgapply.specs.declared.misses.Misses.{Misses}
use Rattle.pgapply.specs.declared.fault.StoreFault.{StoreFault}
use Rattle.pgapply.specs.Value.{Tables}
use Rattle.pgapply.specs.Stored.{IsFault}
use Rattle.pgapply.specs.Works.{change_values}
use Rattle.pgapply.specs.Apply.{fold_changes}
use Rattle.pgapply.specs.Missing.{all_missing, with_misses}
use Rattle.pgencoded.specs.Spelled.{IsStored}
use Rattle.pgencoded.specs.Acts.{GoesOpen, AreGiven}

-- several changes, from what was given on
abbrev pub StepsAll : {S : Type 0} → Ghosts S → S → S → List RelationDef → (ℕ → Option ℕ) → List (ℕ × Op) → (ℕ → Option ℕ) → Type 0
StepsAll g old new definitions given entries next_given =
    GoesOpen g old new × ((v : Tables) → IsStored v (tables_of g old) → AreGiven definitions given v
    → (next : Tables) × (fold_changes v (change_values definitions entries) ≡ Ok next) × IsStored next (tables_of g new)
    × AreGiven definitions next_given next)

abbrev pub RefusesAll : {S : Type 0} → Ghosts S → S → List RelationDef → (ℕ → Option ℕ) → List (ℕ × Op) → StoreFault → Type 0
RefusesAll g old definitions given entries e = (v : Tables) → IsStored v (tables_of g old) → AreGiven definitions given v
    → IsFault e (fold_changes v (change_values definitions entries))

-- those of them that find no row are counted
abbrev pub CountsAll : {S : Type 0} → Ghosts S → S → List RelationDef → (ℕ → Option ℕ) → List (ℕ × Op) → ℕ → Misses → Misses → Type 0
CountsAll g old definitions given entries end before behind = (v : Tables) → IsStored v (tables_of g old) → AreGiven definitions given v
    → behind ≡ with_misses before end (all_missing v (change_values definitions entries))
