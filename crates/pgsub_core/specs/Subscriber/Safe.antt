-- Part of the statement.
-- What holds of a replica of a history at every moment.
use Rattle.std.specs.Prelude.{◌≡◌, ◌≤◌, ◌<◌, ◌++◌, ℕ, List, ◌∷◌, Ok, Err}
use Rattle.std.specs.List.{AllByRecursion}
use Rattle.pgapply.specs.declared.fault.StoreFault.{StoreFault}
use Rattle.pgapply.specs.Value.{Tables}
use Rattle.pgsub_core.specs.Server.History.{Transaction, ChangesRows, tables_as_of}

-- every transaction that changes rows and ends by c ends by the position: nothing that changes rows
-- lies between
abbrev pub NothingBetween : List Transaction → ℕ → ℕ → Type 0
NothingBetween history position c = AllByRecursion (λ (t : Transaction). ChangesRows t → t.end ≤ c → t.end ≤ position) history

-- The rows are those of all transactions up to the position, and every transaction that changes
-- rows and ends by what is confirmed is among these.
pub record IsSafe (history : List Transaction) (tables : Tables) (position confirmed : ℕ) : Type 0 where
  pub same : tables_as_of history position ≡ Ok tables
  pub stored : NothingBetween history position confirmed
  pub below : position ≤ confirmed

-- The transaction that ends here is the next one that changes rows behind the position, and what
-- the history gives up to it is this fault.
pub record RefusesNext (history : List Transaction) (position end : ℕ) (fault : StoreFault) : Type 0 where
  pub earlier : List Transaction
  pub next : Transaction
  pub later : List Transaction
  pub parts : earlier ++ next ∷ later ≡ history
  pub stored : AllByRecursion (λ (t : Transaction). ChangesRows t → t.end ≤ position) earlier
  pub ends : next.end ≡ end
  pub passes : position < end
  pub gives : tables_as_of history end ≡ Err fault
