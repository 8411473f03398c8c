-- Part of the statement. PostgreSQL documentation, Logical Replication Message Formats, Commit and
-- Stream Commit; Logical Replication, Conflicts, update_missing and delete_missing: which commits
-- of a history are taken, and how many of their changes find no row.
use Rattle.std.specs.Prelude.{◌≡◌, ◌≤◌, ◌++◌, ℕ, ℤ, List, [], ◌∷◌, Option, Some, Result, Ok, Err}
use Rattle.pgapply.specs.declared.commit.About.{About}
use Rattle.pgapply.specs.declared.fault.StoreFault.{StoreFault}
use Rattle.pgapply.specs.Value.{Tables}
use Rattle.pgapply.specs.Apply.{fold_changes}
use Rattle.pgapply.specs.Tallies.{TakenCommit, Tally, taken_commit, with_commit}
use Rattle.pgsub_core.specs.Server.Work.{surviving_changes}
use Rattle.pgsub_core.specs.Server.History.{Transaction, IsHistory, ended_by, ended_after}
use Rattle.pgsub_core.specs.Server.History.{tables_as_of}
use Rattle.pgsub_core.specs.Server.Stream.{Sent}
use Rattle.pgsub_core.specs.Subscriber.Safely.{IsSent}
use Rattle.pgsub_core.specs.Subscriber.Subscribed.{Subscribed}
use Rattle.pgsub_core.specs.Subscriber.SubscriberValue.{SubscriberValue, seen}
use Rattle.pgsub_core.specs.Machine.Counted.{AreCountedFront}

-- over the tables that there are, if any
abbrev pub tallied_over : Result Tables StoreFault → (Tables → Tally) → Tally → Tally
tallied_over (Ok tables) more m = more tables
tallied_over (Err fault) more m = m

-- what the message of its commit tells of a transaction
abbrev pub told_of : Transaction → Option About
told_of t = Some (record { final_lsn = t.lsn; xid = t.xid; time = t.time })

-- With transactions in commit order: each that changes rows, with what its message tells and its
-- surviving changes, and those of them that find no row in the tables that the ones before leave.
abbrev pub transactions_tallied : Tables → List Transaction → Tally → Tally
transactions_tallied tables [] m = m
transactions_tallied tables (t ∷ ts) m =
    let behind = with_commit m tables t.end (told_of t) (surviving_changes t.work) in
    tallied_over (fold_changes tables (surviving_changes t.work)) (λ next. transactions_tallied next ts behind) behind

-- the transactions that end after p and by q
abbrev pub ended_between : ℕ → ℕ → List Transaction → List Transaction
ended_between p q history = ended_after p (ended_by q history)

-- with the transactions that end after p and by q, over the rows that the history gives at p
abbrev pub history_tallied : List Transaction → ℕ → ℕ → Tally → Tally
history_tallied history p q m =
    tallied_over (tables_as_of history p) (λ tables. transactions_tallied tables (ended_between p q history) m) m

-- those of transactions that change rows, as a store takes them
abbrev pub taken_of : List Transaction → List TakenCommit
taken_of [] = []
taken_of (t ∷ ts) = taken_commit t.end (told_of t) (surviving_changes t.work) ++ taken_of ts

-- Where a history gives rows at both places, its tally has the transactions between them that
-- change rows, one by one.
abbrev pub TallyHasTransactions : Type 0
TallyHasTransactions =
    (history : List Transaction) (p q : ℕ) (tables next : Tables) (m : Tally) → IsHistory history → p ≤ q
    → tables_as_of history p ≡ Ok tables → tables_as_of history q ≡ Ok next
    → (history_tallied history p q m).commits ≡ m.commits ++ taken_of (ended_between p q history)

-- However sessions of a history come, of which one may stop anywhere: the tally of them is that of
-- the history's transactions between the positions.
abbrev pub CountedIsOfHistory : Type 0
CountedIsOfHistory =
    (now : ℤ) (history : List Transaction) (sessions : List (List ℕ)) (all_complete : List (List Sent)) (old : Subscribed) (position : ℕ)
    (before behind : Tally)
    → IsSent history old sessions all_complete → AreCountedFront now old sessions position before behind
    → behind ≡ history_tallied history old.position position before

-- Of whatever history the sessions are, and whatever tables the store held: to its tally come the
-- transactions that end after the position that was and by the one that is, one by one.
abbrev pub CountsHistory : {C : Type 0} → (C → Tables → Type 0) → (C → ℕ) → (C → Tally) → SubscriberValue C → List (List ℕ)
    → SubscriberValue C → Type 0
CountsHistory holds place count old sessions new =
    (history : List Transaction) (all_complete : List (List Sent)) (tables : Tables) → holds old.applied.store tables
    → IsSent history (seen place old tables) sessions all_complete
    → count new.applied.store ≡ history_tallied history (place old.applied.store) (place new.applied.store) (count old.applied.store)
