-- Part of the statement.
-- What a load is to whoever follows the server from its slot on.
use Rattle.std.specs.Prelude.{◌≡◌, ◌≤◌, ℕ, List, [], ◌∷◌, ◌++◌, Ok}
use Rattle.std.specs.List.{AllByRecursion}
use Rattle.std.specs.FinMap as map
use Rattle.pgorder.specs.declared.Version.{Version}
use Rattle.pgapply.specs.Value.{Tables}
use Rattle.pgapply.specs.Apply.{Change, fold_changes, ◌>>=◌}
use Rattle.pgsub_core.specs.Server.Work.{surviving_changes}
use Rattle.pgsub_core.specs.Server.History.{Transaction, IsHistory, IsHistoryFrom, tables_as_of}
use Rattle.pgsub_core.specs.Server.Stream.{Sent}
use Rattle.pgsub_core.specs.Server.Delivers.{Delivers}
use Rattle.pgsub_core.specs.Server.Sessions.{AreIncoming}
use Rattle.pgsub_core.specs.Subscriber.Subscribed.{progress_of, newly}
use Rattle.pgsub_core.specs.Subscriber.Safely.{IsSent}
use Rattle.pglogical.specs.declared.message.RelationDef.{RelationDef}
use Rattle.pgtuple.specs.declared.cell.Cell.{Cell}
use Rattle.pgcopy.specs.Sent.{sent, IsSentRow}
use Rattle.pgload.specs.Loads.{TableText, format_of, rows_of, IsWholeText, load_changes}
use Rattle.pgload.specs.Loads.{load_transaction}

-- Changes may be made in parts, one after the other.
abbrev pub ChangesInParts : Type 0
ChangesInParts = (tables : Tables) (first others : List Change)
    → fold_changes tables (first ++ others) ≡ (fold_changes tables first >>= λ next. fold_changes next others)

-- Of what a server sends for rows, these are loaded, and nothing is left of it.
abbrev pub SentRowsAreLoaded : Type 0
SentRowsAreLoaded = (max_line : ℕ) (def : RelationDef) (rows : List (List Cell))
    → AllByRecursion (IsSentRow (format_of max_line def)) rows
    → (rows_of max_line (record { definition = def; text = sent rows }) ≡ rows)
    × IsWholeText max_line (record { definition = def; text = sent rows })

-- The transaction of a load has these changes.
abbrev pub LoadHasItsChanges : Type 0
LoadHasItsChanges = (max_line : ℕ) (tables : List TableText) (point : ℕ)
    → surviving_changes (load_transaction max_line tables point).work ≡ load_changes max_line tables

-- It is the first one of a history, before all that is committed from the point on.
abbrev pub LoadBeginsHistory : Type 0
LoadBeginsHistory = (max_line : ℕ) (tables : List TableText) (point : ℕ) (above : List Transaction)
    → 1 ≤ point → IsHistoryFrom point above
    → IsHistory (load_transaction max_line tables point ∷ above)

-- Up to the point that history gives the rows of the load.
abbrev pub LoadGivesItsRows : Type 0
LoadGivesItsRows = (max_line : ℕ) (tables : List TableText) (point : ℕ) (above : List Transaction)
    → IsHistoryFrom point above
    → tables_as_of (load_transaction max_line tables point ∷ above) point ≡ fold_changes map.empty (load_changes max_line tables)

-- So a subscriber over a store that holds these rows at the point meets what `follow` asks of it,
-- for each session of that history.
abbrev pub LoadIsStart : Type 0
LoadIsStart = (max_line : ℕ) (tables : List TableText) (point : ℕ) (above : List Transaction) (loaded : Tables)
    (v : Version) (max_frame limit : ℕ) (sessions : List (List ℕ)) (all_complete : List (List Sent))
    → 1 ≤ point → IsHistoryFrom point above
    → tables_as_of (load_transaction max_line tables point ∷ []) point ≡ Ok loaded
    → AreIncoming v (load_transaction max_line tables point ∷ above) (progress_of (newly loaded point v max_frame limit)) sessions
    all_complete
    → IsSent (load_transaction max_line tables point ∷ above) (newly loaded point v max_frame limit) sessions all_complete

-- ---- the server's history

-- Of the server: its transactions before the point end there at the latest, and the others begin
-- there or above; the slot's snapshot shows, as the texts have it, what those before it make.
pub record IsSnapshot (max_line : ℕ) (tables : List TableText) (point : ℕ) (before above : List Transaction) (loaded : Tables) : Type 0
  where
    pub history : IsHistory (before ++ above)
    pub seen : AllByRecursion (λ (t : Transaction). t.end ≤ point) before
    pub unseen : AllByRecursion (λ (t : Transaction). point ≤ t.lsn) above
    pub shows : tables_as_of (before ++ above) point ≡ Ok loaded
    pub same : fold_changes map.empty (load_changes max_line tables) ≡ Ok loaded

-- From the point on, the history that begins with the load gives the server's rows,
abbrev pub LoadedRowsAreTheServers : Type 0
LoadedRowsAreTheServers = (max_line : ℕ) (tables : List TableText) (point : ℕ) (before above : List Transaction) (loaded : Tables)
    → IsSnapshot max_line tables point before above loaded
    → (position : ℕ) → point ≤ position
    → tables_as_of (load_transaction max_line tables point ∷ above) position ≡ tables_as_of (before ++ above) position

-- and the server's sessions are sessions of it.
abbrev pub SessionsAreOfTheLoad : Type 0
SessionsAreOfTheLoad = (max_line : ℕ) (tables : List TableText) (point : ℕ) (before above : List Transaction) (loaded : Tables)
    (v : Version) (s : ℕ) (sent : List Sent)
    → IsSnapshot max_line tables point before above loaded
    → point ≤ s
    → Delivers v (before ++ above) s sent
    → Delivers v (load_transaction max_line tables point ∷ above) s sent
