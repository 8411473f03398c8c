-- A worked live run as bytes: two sessions, with a CopyDone between them, read in seven parts, most
-- of them cut inside a frame. What each part leaves of the subscriber and its rows, and the
-- statuses that are written after it, follow from the bytes. PostgreSQL documentation, Streaming
-- Replication Protocol.
use Rattle.std.proofs.Common.{◌≡◌, ◌≤◌, ◌++◌, [], ◌∷◌, List, ℕ, false, Some, refl, arith, ap, ◌∙◌}
use Rattle.std.proofs.Common.{sym, subst, inl, None}
use Rattle.std.specs.List.{AllByRecursion, flat_map}
use Rattle.std.specs.FinMap as map
use Rattle.pgtuple.specs.Cells.{tuple_spelling}
use Rattle.pgwire.specs.Statuses.{status_frame}
use Rattle.pgwire.specs.declared.status.Status.{Status}
use Rattle.pgapply.specs.Value.{Tables}
use Rattle.pgapply.specs.Apply.{apply, fold_changes, rows_after}
use Rattle.pgapply.specs.Missing.{all_missing}
use Rattle.pgapply.specs.Tallies.{Tally, nothing_taken}
use Rattle.pgsub_core.specs.Server.History.{tables_as_of}
use Rattle.pgsub_core.specs.Machine.Feeding.{IsFed}
use Rattle.pgsub_core.specs.Subscriber.Subscribed.{Subscribed, IsSafeFor}
use Rattle.pgsub_core.specs.Subscriber.SubscriberValue.{seen}
use Rattle.pgsub_core.specs.Subscriber.Confirming.{IsSafeStatus}
use Rattle.pgsub_core.specs.Subscriber.Tallied.{history_tallied}
use Rattle.pgsub_core.specs.Subscriber.Safe.{IsSafe, NothingBetween}
use Rattle.pgsub_core.specs.Subscriber.Safely.{IsSent}
use Rattle.pgsub_core.proofs.Samples.{first_tables, lookups}
use Rattle.pgfollow.specs.Live.{AreSteps, IsGreeted, LiveEnds, LiveSteps, Step, news, settled}
use Rattle.pgfollow.specs.Live.{told_in}
use Rattle.pgfollow.specs.Told.{AreRising, AreToldSafely, IsToldSafely, Rises, first_status}
use Rattle.pgfollow.specs.Told.{sessions_from}
use Rattle.pgrecovery.proofs.LiveFrames.{short}
use Rattle.pgrecovery.proofs.LiveTakes.{now}
use Rattle.pgrecovery.proofs.LiveParts.{count, holds, is_step, One, over, Part, reopens, serves}
use Rattle.pgrecovery.proofs.LiveParts.{stands, step_of, Store, only}
use Rattle.pgrecovery.proofs.LiveFed.{bytes_1, bytes_2, bytes_3, bytes_4, bytes_5, bytes_6, bytes_7}
use Rattle.pgrecovery.proofs.LiveFed.{fed_1, fed_2, fed_3, fed_4, fed_5, fed_6, fed_7, feeds_1}
use Rattle.pgrecovery.proofs.LiveFed.{feeds_2, feeds_3, feeds_4, feeds_5, feeds_6, feeds_7}
use Rattle.pgrecovery.proofs.LiveFed.{last_tables, opened, rows_10, rows_11, status, tally_10}
use Rattle.pgrecovery.proofs.LiveFed.{tally_11}
use Rattle.pgrecovery.proofs.LiveSessions.{complete_1, complete_2, history, is_sent, safe_0}
use Rattle.pgrecovery.proofs.LiveSessions.{session_1, session_2}

-- ---- the run

abbrev part_1 : Part
part_1 = record { bytes = bytes_1; tally = nothing_taken; fed = fed_1 }

abbrev part_2 : Part
part_2 = record { bytes = bytes_2; tally = nothing_taken; fed = fed_2 }

abbrev part_3 : Part
part_3 = record { bytes = bytes_3; tally = tally_10; fed = fed_3 }

abbrev part_4 : Part
part_4 = record { bytes = bytes_4; tally = tally_10; fed = fed_4 }

abbrev part_5 : Part
part_5 = record { bytes = bytes_5; tally = tally_10; fed = fed_5 }

abbrev part_6 : Part
part_6 = record { bytes = bytes_6; tally = tally_11; fed = fed_6 }

abbrev part_7 : Part
part_7 = record { bytes = bytes_7; tally = tally_11; fed = fed_7 }

abbrev steps : List (Step Store)
steps = step_of part_1 ∷ step_of part_2 ∷ step_of part_3 ∷ step_of part_4 ∷ step_of part_5 ∷ step_of part_6 ∷ step_of part_7 ∷ []

abbrev start : One
start = over nothing_taken opened

abbrev last : One
last = over tally_11 (settled false fed_7)

-- each part is a step, from its bytes
are_steps : AreSteps holds stands reopens serves count start steps last
are_steps = (
  is_step part_1 feeds_1,
  (
    is_step part_2 feeds_2,
    (
      is_step part_3 feeds_3,
      (is_step part_4 feeds_4, (is_step part_5 feeds_5, (is_step part_6 feeds_6, (is_step part_7 feeds_7, refl)))),
    ),
  ),
)

-- What is written after the parts: a status behind each commit that is stored, none within a pair,
-- behind CopyDone or behind a repeat; and the keepalive's reply before the status.
abbrev told : List ℕ
told = status (short 2 48) (short 2 48)
    ++ (status (short 3 48) (short 3 48) ++ (status (short 3 128) (short 3 128) ++ status (short 3 128) (short 3 128)))

are_told : told_in start steps ≡ told
are_told = refl

greeting : first_status start now ≡ status (short 0 0) (short 0 0)
greeting = refl

-- the first status is that of the opened store
is_greeted : IsGreeted stands (Some []) (Some (status (short 0 0) (short 0 0))) start start
is_greeted = (record { store = refl; state = λ tables. refl }, (now, refl))

-- both sessions are read, and all that is to be written is
live : LiveSteps holds stands reopens serves count (Some (session_1 ++ session_2)) (Some []) []
    (Some (status (short 0 0) (short 0 0))) (Some (status (short 0 0) (short 0 0) ++ told)) start last
live = record {
  steps = steps;
  each = (omega arith, (omega arith, (omega arith, (omega arith, (omega arith, (omega arith, (omega arith, tt)))))));
  ahead = omega arith;
  are = are_steps;
  read = refl;
  written = refl;
}

-- it ends with the bytes
ended : LiveEnds holds stands reopens serves count (Some (session_1 ++ session_2)) (Some []) 7 (Some (status (short 0 0) (short 0 0)))
    (Some (status (short 0 0) (short 0 0) ++ told)) start last None
ended = (live, inl refl)

-- a session ends with its CopyDone, and what is read behind the last part is of the last session
are_sessions : sessions_from [] steps (5 ∷ []) ≡ session_1 ∷ (session_2 ++ 5 ∷ []) ∷ []
are_sessions = refl

-- these are sessions of the history
sessions_sent : IsSent history (seen stands start map.empty) (sessions_from [] steps []) (complete_1 ∷ complete_2 ∷ [])
sessions_sent = is_sent

abbrev confirms : ℕ → Status
confirms lsn = record { written = lsn; flushed = lsn; applied = lsn; clock = now; ask = false }

rising : AreRising 0 (told_in start steps) 896
rising = record {
  statuses = confirms 560 ∷ confirms 816 ∷ confirms 896 ∷ confirms 896 ∷ [];
  are = refl;
  rise = (refl, omega arith, (refl, omega arith, (refl, omega arith, (refl, omega arith, omega arith))));
}

-- ---- the rows, and what the statuses confirm

safe_10 : IsSafe history first_tables 560 560
safe_10 = record {
  same = rows_10;
  stored = ((λ changes by. by), ((λ changes by. by), tt));
  below = omega arith;
}

safe_11 : IsSafe history last_tables 816 816
safe_11 = record {
  same = rows_11;
  stored = ((λ changes by. by), ((λ changes by. by), tt));
  below = omega arith;
}

-- behind the keepalive more is confirmed than the store's position, and no commit lies between
safe_quiet : IsSafe history last_tables 816 896
safe_quiet = record {
  same = rows_11;
  stored = ((λ changes by. omega arith), ((λ changes by. omega arith), tt));
  below = omega arith;
}

abbrev Confirms : Subscribed → Status → Type 0
Confirms s status = (status.applied ≡ status.flushed) × (status.flushed ≤ s.confirmed) × NothingBetween history s.position status.flushed

all_safe : (m : Tally) (s : Subscribed) (bytes : List ℕ) (tables : Tables) (statuses : List Status)
    → AllByRecursion (Confirms s) statuses
    → AllByRecursion (IsSafeStatus history (record (seen stands (over m s) tables) { replies = bytes })) statuses
all_safe m s bytes tables [] each = tt
all_safe m s bytes tables (status ∷ statuses) each =
    (record { same = each.0.0; confirmed = each.0.1; stored = each.0.2 }, all_safe m s bytes tables statuses each.1)

told_safely : (m : Tally) (s : Subscribed) (statuses : List Status) → IsSafeFor history s → AllByRecursion (Confirms s) statuses
    → IsToldSafely holds stands reopens history (over m s) (flat_map status_frame statuses)
told_safely m s statuses safe each = record {
  rows = (s.tables, refl, safe);
  statuses = λ tables.
      record { statuses = statuses; bytes = refl; each = all_safe m s (flat_map status_frame statuses) tables statuses each };
  left = λ other same. record {
    tables = s.tables;
    held = ap (λ (store : Store). store.tables) same;
    same = ap (tables_as_of history) (ap stands same) ∙ safe.same;
    position = omega (arith, ap stands same);
    stored = subst (λ p. NothingBetween history p s.confirmed) (sym (ap stands same)) safe.stored;
  };
}

-- After each part the store holds the history's rows up to its position; all that a status confirms
-- then is stored, and is in what a crash leaves, which of this store is all.
are_told_safely : AreToldSafely holds stands reopens history start steps
are_told_safely = (
  told_safely nothing_taken fed_1 [] safe_0 tt,
  (
    told_safely nothing_taken fed_2 [] safe_0 tt,
    (
      told_safely tally_10 fed_3 (confirms 560 ∷ []) safe_10 ((refl, omega arith, safe_10.stored), tt),
      (
        told_safely tally_10 fed_4 [] safe_10 tt,
        (
          told_safely tally_10 fed_5 [] safe_10 tt,
          (
            told_safely tally_11 fed_6 (confirms 816 ∷ []) safe_11 ((refl, omega arith, safe_11.stored), tt),
            (
              told_safely tally_11 fed_7 (confirms 896 ∷ confirms 896 ∷ []) safe_quiet
                  ((refl, omega arith, safe_quiet.stored), ((refl, omega arith, safe_quiet.stored), tt)),
              tt,
            ),
          ),
        ),
      ),
    ),
  ),
)

-- the store's tally at the end is that of the history
counts_history : history_tallied history 0 816 nothing_taken ≡ tally_11
unfolding tables_as_of fold_changes all_missing apply rows_after tuple_spelling
counts_history = simp lookups

-- ---- what isn't a run

-- where confirmed hasn't moved, nothing is told
not_moved : news now 0 (over nothing_taken fed_2) ≡ []
not_moved = refl

-- and where it has, a status
moved : news now 0 (over tally_10 fed_3) ≡ status (short 2 48) (short 2 48)
moved = refl

-- no status confirms less than one before it
no_fall : Rises 0 (confirms 560 ∷ confirms 304 ∷ []) 560 → ⊥
no_fall rises = omega (arith, rises.2.1)

-- and none more than is stored, as one that is told before Commit has come whole
not_stored : IsSafeStatus history (record fed_2 { confirmed = 560 }) (confirms 560) → ⊥
not_stored safe = let low : 560 ≤ 0 = safe.stored.0 (λ is. cc) (omega arith) in omega (arith, low)

-- Once Commit has come whole, the store has the transaction: the part can't leave it as it was.
not_unstored : IsFed now fed_2 bytes_3 (record fed_3 { tables = map.empty; position = 0 }) None → ⊥
not_unstored took = omega (arith, ap (λ (s : Subscribed). s.position) (only feeds_3 _ took))
