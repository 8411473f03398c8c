-- The transaction of a load, in a history and before the server's.
use Rattle.std.proofs.Common.{◌≡◌, ◌≤◌, ◌++◌, ℕ, List, [], ◌∷◌, true, false, cond, Result, Ok, refl}
use Rattle.std.proofs.Common.{sym, ap, subst, ◌∙◌, arith, append-nil}
use Rattle.std.specs.Prelude.{nat_le, nat_lt}
use Rattle.std.specs.FinMap as map
use Rattle.std.specs.List.{AllByRecursion}
use Rattle.std.proofs.lemmas.Bool.Decides.{nat_tests}
use Rattle.std.proofs.lemmas.List.Elements.{filter-append}
use Rattle.pgtuple.specs.declared.cell.Cell.{Cell}
use Rattle.pglogical.specs.declared.message.RelationDef.{RelationDef}
use Rattle.pgapply.specs.declared.fault.StoreFault.{StoreFault}
use Rattle.pgapply.specs.declared.op.Op.TheVariants as op
use Rattle.pgapply.specs.Value.{Tables}
use Rattle.pgapply.specs.Apply.{fold_changes, ◌>>=◌}
use Rattle.pgsub_core.specs.Server.Work.{Work, IsWork, surviving_changes, xids_of, AllDiffer}
use Rattle.pgsub_core.specs.Server.History.{Transaction, IsHistoryFrom, all_changes, ended_by}
use Rattle.pgsub_core.specs.Server.History.{ended_after, tables_as_of}
use Rattle.pgsub_core.specs.Server.Delivers.{CommitsFollow}
use Rattle.pgsub_core.specs.Server.Stream.{commits_and_keepalives}
use Rattle.pgsub_core.specs.Server.Sessions.{AreIncoming, starting_by}
use Rattle.pgsub_core.specs.Subscriber.Safe.{NothingBetween}
use Rattle.pgsub_core.specs.Subscriber.Subscribed.{progress_of, newly}
use Rattle.pgsub_core.proofs.Changes.{fold-append, changes-append, ended-none, ended-append}
use Rattle.pgsub_core.proofs.Changes.{history-after}
use Rattle.pgsub_core.proofs.Restarting.{left_starts}
use Rattle.pgload.specs.Loads.{TableText, format_of, rows_of, inserts, load_changes, inserted}
use Rattle.pgload.specs.Loads.{load_work, load_xid, load_transaction}
use Rattle.pgcopy.specs.Reading.{Reading}
use Rattle.pgcopy.proofs.Sending.{sent_is_read}
use Rattle.pgload.specs.Laws.{SentRowsAreLoaded, ChangesInParts, LoadHasItsChanges}
use Rattle.pgload.specs.Laws.{LoadBeginsHistory, LoadGivesItsRows, LoadIsStart}
use Rattle.pgload.specs.Laws.{LoadedRowsAreTheServers, SessionsAreOfTheLoad}

pub changes_in_parts : ChangesInParts
changes_in_parts tables first others = fold-append first others tables

-- of a text that a server sends
pub sent_are_loaded : SentRowsAreLoaded
sent_are_loaded max_line def rows each =
    let read = sent_is_read (format_of max_line def) rows each in
    (ap (λ (it : Reading). it.rows) read, ap (λ (it : Reading). it.end) read)

-- ---- its changes

inserted-changes : (def : RelationDef) (rows : List (List Cell)) (others : Work)
    → surviving_changes (inserted def rows others) ≡ inserts def rows ++ surviving_changes others
inserted-changes def [] others = refl
inserted-changes def (row ∷ rows) others = ap (λ cs. record { definition = def; op = op.Insert row } ∷ cs) (inserted-changes def rows
    others)

work-changes : (max_line : ℕ) (tables : List TableText) → surviving_changes (load_work max_line tables) ≡ load_changes max_line tables
work-changes max_line [] = refl
work-changes max_line (table ∷ tables) =
    inserted-changes table.definition (rows_of max_line table) (load_work max_line tables)
    ∙ ap (λ cs. inserts table.definition (rows_of max_line table) ++ cs) (work-changes max_line tables)

pub has_its_changes : LoadHasItsChanges
has_its_changes max_line tables point = work-changes max_line tables

-- ---- it begins a history

inserted_work : (def : RelationDef) (rows : List (List Cell)) (others : Work) → IsWork others → IsWork (inserted def rows others)
inserted_work def [] others is = is
inserted_work def (row ∷ rows) others is = (tt, refl, inserted_work def rows others is)

is_work : (max_line : ℕ) (tables : List TableText) → IsWork (load_work max_line tables)
is_work max_line [] = tt
is_work max_line (table ∷ tables) =
    inserted_work table.definition (rows_of max_line table) (load_work max_line tables) (is_work max_line tables)

inserted-xids : (def : RelationDef) (rows : List (List Cell)) (others : Work) → xids_of (inserted def rows others) ≡ xids_of others
inserted-xids def [] others = refl
inserted-xids def (row ∷ rows) others = inserted-xids def rows others

work-xids : (max_line : ℕ) (tables : List TableText) → xids_of (load_work max_line tables) ≡ []
work-xids max_line [] = refl
work-xids max_line (table ∷ tables) =
    inserted-xids table.definition (rows_of max_line table) (load_work max_line tables) ∙ work-xids max_line tables

pub begins_history : LoadBeginsHistory
begins_history max_line tables point above some h = (
  omega arith,
  omega arith,
  is_work max_line tables,
  subst (λ xs. AllDiffer (load_xid ∷ xs)) (sym (work-xids max_line tables)) (refl, tt),
  h,
)

nothing_yet : (history : List Transaction) (p : ℕ) → NothingBetween history p p
nothing_yet [] p = tt
nothing_yet (t ∷ history) p = ((λ changes by. by), nothing_yet history p)

-- ---- its rows

-- up to a place from the point on, the changes are its own and those of what ends by then
from-the-point : (max_line : ℕ) (tables : List TableText) (point position : ℕ) (above : List Transaction) → point ≤ position
    → all_changes (ended_by position (load_transaction max_line tables point ∷ above))
    ≡ load_changes max_line tables ++ all_changes (ended_by position above)
from-the-point max_line tables point position above le =
    let yes : nat_le point position ≡ true = grind (arith, nat_tests) in
    ap (λ b. all_changes (cond b (load_transaction max_line tables point ∷ ended_by position above) (ended_by position above))) yes
    ∙ ap (λ cs. cs ++ all_changes (ended_by position above)) (work-changes max_line tables)

none-yet : (point : ℕ) (above : List Transaction) → IsHistoryFrom point above → all_changes (ended_by point above) ≡ []
none-yet point above h = ap all_changes (ended-none point above (history-after point above h))

pub gives_its_rows : LoadGivesItsRows
unfolding tables_as_of
gives_its_rows max_line tables point above h =
    ap (fold_changes map.empty) (from-the-point max_line tables point point above (omega arith)
    ∙ ap (λ cs. load_changes max_line tables ++ cs) (none-yet point above h) ∙ append-nil (load_changes max_line tables))

pub is_start : LoadIsStart
is_start max_line tables point above loaded v max_frame limit sessions all_complete some h same sent =
    (left_starts (load_transaction max_line tables point ∷ above) loaded point point v max_frame limit sessions all_complete
    (begins_history max_line tables point above some h)
    (gives_its_rows max_line tables point above h ∙ sym (gives_its_rows max_line tables point [] tt) ∙ same)
    (nothing_yet (load_transaction max_line tables point ∷ above) point) (subst
    (λ c. AreIncoming v (load_transaction max_line tables point ∷ above) (starting_by c
    (progress_of (newly loaded point v max_frame limit))) sessions all_complete) (omega arith) sent)).0

-- ---- the server's

server_above : (point from : ℕ) (before above : List Transaction) → AllByRecursion (λ (t : Transaction). point ≤ t.lsn) above
    → IsHistoryFrom from (before ++ above) → IsHistoryFrom point above
server_above point from [] [] unseen h = tt
server_above point from [] (t ∷ above) unseen h = (unseen.0, h.1, h.2, h.3, h.4)
server_above point from (t ∷ before) above unseen h = server_above point t.end before above unseen h.4

all-by : (position : ℕ) (before : List Transaction) → AllByRecursion (λ (t : Transaction). t.end ≤ position) before
    → ended_by position before ≡ before
all-by position [] by = refl
all-by position (t ∷ before) by =
    let first : t.end ≤ position = by.0 in
    let yes : nat_le t.end position ≡ true = grind (arith, nat_tests) in
    ap (λ b. cond b (t ∷ ended_by position before) (ended_by position before)) yes ∙ ap (λ ts. t ∷ ts) (all-by position before by.1)

none-after : (s : ℕ) (before : List Transaction) → AllByRecursion (λ (t : Transaction). t.end ≤ s) before → ended_after s before ≡ []
none-after s [] by = refl
none-after s (t ∷ before) by =
    let first : t.end ≤ s = by.0 in
    let no : nat_lt s t.end ≡ false = grind (arith, nat_tests) in
    ap (λ b. cond b (t ∷ ended_after s before) (ended_after s before)) no ∙ none-after s before by.1

all-later : (point position : ℕ) (before : List Transaction) → point ≤ position → AllByRecursion (λ (t : Transaction). t.end ≤ point) before
    → AllByRecursion (λ (t : Transaction). t.end ≤ position) before
all-later point position [] le by = tt
all-later point position (t ∷ before) le by =
    ((let first : t.end ≤ point = by.0 in omega arith), all-later point position before le by.1)

after-append : (s : ℕ) (xs ys : List Transaction) → ended_after s (xs ++ ys) ≡ ended_after s xs ++ ended_after s ys
after-append s xs ys = filter-append (λ (t : Transaction). nat_lt s t.end) xs ys

server-changes : (point position : ℕ) (before above : List Transaction) → point ≤ position
    → AllByRecursion (λ (t : Transaction). t.end ≤ point) before
    → all_changes (ended_by position (before ++ above)) ≡ all_changes before ++ all_changes (ended_by position above)
server-changes point position before above le seen =
    ap all_changes (ended-append position before above
    ∙ ap (λ ts. ts ++ ended_by position above) (all-by position before (all-later point position before le seen)))
    ∙ changes-append before (ended_by position above)

pub rows_are_the_servers : LoadedRowsAreTheServers
unfolding tables_as_of
rows_are_the_servers max_line tables point before above loaded is position le =
    let later = all_changes (ended_by position above) in
    let at_point : fold_changes map.empty (all_changes before) ≡ Ok loaded =
    ap (fold_changes map.empty) (sym (append-nil (all_changes before))
    ∙ ap (λ cs. all_changes before ++ cs) (sym (none-yet point above (server_above point 0 before above is.unseen is.history)))
    ∙ sym (server-changes point point before above (omega arith) is.seen)) ∙ is.shows in
    ap (fold_changes map.empty) (from-the-point max_line tables point position above le)
    ∙ fold-append (load_changes max_line tables) later map.empty
    ∙ ap (λ (r : Result Tables StoreFault). r >>= λ next. fold_changes next later) (is.same ∙ sym at_point)
    ∙ sym (fold-append (all_changes before) later map.empty)
    ∙ sym (ap (fold_changes map.empty) (server-changes point position before above le is.seen))

pub sessions_are_of_the_load : SessionsAreOfTheLoad
sessions_are_of_the_load max_line tables point before above loaded v s sent is le delivered =
    let no : nat_lt s point ≡ false = grind (arith, nat_tests) in
    let same : ended_after s (before ++ above) ≡ ended_after s (load_transaction max_line tables point ∷ above) =
    after-append s before above
    ∙ ap (λ ts. ts ++ ended_after s above) (none-after s before (all-later point s before le is.seen))
    ∙ sym (ap (λ b. cond b (load_transaction max_line tables point ∷ ended_after s above) (ended_after s above)) no) in
    record {
      shaped = delivered.shaped;
      commits = subst (λ ts. CommitsFollow [] ts (commits_and_keepalives [] sent)) same delivered.commits;
    }
