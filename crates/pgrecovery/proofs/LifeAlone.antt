-- The worked life without its feed: the same runs of the store alone.
use Rattle.std.proofs.Common.{◌≡◌, ◌≤◌, [], ◌∷◌, List, ℕ, Some, None, Option, Ok, refl, sym, subst}
use Rattle.std.proofs.Common.{arith, inl, inr}
use Rattle.std.proofs.Math.Logic.{∥∥₁_elim, ∥∥₁_map, ∥∥₁_prop}
use Rattle.std.specs.FinMap as map
use Rattle.sqlite_disk.specs.declared.Disk as disk
use Rattle.sqlite_store.specs.declared.store.FileStore.{FileStore}
use Rattle.sqlite.specs.Files.{over_files}
use Rattle.sqlite.specs.Recovery.{Image}
use Rattle.pgorder.specs.declared.Version.TheVariants.{Two}
use Rattle.pgapply.specs.Stored.{Stored}
use Rattle.pgapply.specs.Value.{Tables}
use Rattle.pgencoded.specs.Acts.{committed_of}
use Rattle.pgstore.specs.StoreValue.{Contains, Holds, StoreValue}
use Rattle.pgstore.specs.Reopened.{Reopens}
use Rattle.pgsub_core.specs.declared.fault.Fault.{Fault}
use Rattle.pgsub_core.specs.declared.fault.Fault.TheVariants as fault
use Rattle.pgsub_core.specs.Server.History.{Transaction, tables_as_of}
use Rattle.pgsub_core.specs.Server.Stream.{Sent}
use Rattle.pgsub_core.specs.Subscriber.Crashing.{IsLeftSafely, LeavesHistory, StandsAsFed}
use Rattle.pgsub_core.specs.Subscriber.Following.{FollowsSessions}
use Rattle.pgsub_core.specs.Subscriber.Safe.{NothingBetween}
use Rattle.pgsub_core.specs.Subscriber.SubscriberValue.{seen}
use Rattle.pgsub_core.proofs.Followed.{fed_followed}
use Rattle.pgrecovery.specs.Recovered.{OverFiles, holds_tables, position_of}
use Rattle.pgrecovery.specs.Life.{AreRuns, HoldThrough, Run}
use Rattle.pgrecovery.proofs.Life.{one_life}
use Rattle.pgrecovery.proofs.StoredOnce.{stored_once}
use Rattle.pgrecovery.proofs.LifeSessions.{bytes_1, bytes_2, bytes_3, complete_1, complete_2}
use Rattle.pgrecovery.proofs.LifeSessions.{complete_3}
use Rattle.pgrecovery.proofs.LifeSessions.{history, is_history, session_1, session_2, session_3}
use Rattle.pgrecovery.proofs.LifeSessions.{tables_304, tables_560, tables_672, tables_816}
use Rattle.pgrecovery.proofs.LifeTakes.{clock}
use Rattle.pgrecovery.proofs.LifeFed.{feeds_1, feeds_1_all, feeds_2, feeds_3, refused}
use Rattle.pgrecovery.proofs.LifeRows.{Fed, Given, Holds_2, Holds_3, IsLived, One, all_1, begun_1}
use Rattle.pgrecovery.proofs.LifeRows.{begun_2}
use Rattle.pgrecovery.proofs.LifeRows.{begun_3, ended_1, ended_2, ended_3, holds_1, holds_2}
use Rattle.pgrecovery.proofs.LifeRows.{holds_3, less}
use Rattle.pgrecovery.proofs.LifeRows.{new_files, new_files_are_empty, safe_of, stood_1, stored_304}
use Rattle.pgrecovery.proofs.LifeRows.{stored_560}

module _ {D : Type 0} {g : disk.Ghosts D} (l : Given g) where
  -- the subscriber over the store alone
  abbrev alone : One g → OverFiles g
  alone s = record {
    applied = record {
      store = s.applied.store.store;
      confirmed = s.applied.confirmed;
      received = s.applied.received;
      version = s.applied.version;
      limit = s.applied.limit;
      order = s.applied.order;
      held = s.applied.held;
      relations = s.applied.relations;
      replies = s.applied.replies;
    };
    framing = s.framing;
  }

  abbrev run : Image → One g → List ℕ → List Sent → One g → Image → Run g
  run content begun bytes complete ended after = record {
    content = content;
    begun = alone begun;
    version = Two;
    max_frame = 16777216;
    limit = 1000;
    sessions = bytes ∷ [];
    all_complete = complete ∷ [];
    ended = alone ended;
    after = after;
  }

  abbrev pub runs_alone : List (Run g)
  runs_alone = run new_files (begun_1 l) bytes_1 complete_1 (ended_1 l) l.content_1
      ∷ run l.content_1 (begun_2 l) bytes_2 complete_2 (ended_2 l) l.content_2
      ∷ run l.content_2 (begun_3 l) bytes_3 complete_3 (ended_3 l) l.content_3 ∷ []

  abbrev Follows : One g → List ℕ → Option Fault → One g → Type 0
  Follows begun bytes answered ended =
      FollowsSessions (holds_tables over_files) position_of clock (alone begun) (bytes ∷ []) (alone ended) answered

  abbrev Leaves : One g → List ℕ → One g → Type 0
  Leaves begun bytes ended =
      LeavesHistory (holds_tables over_files) position_of (Reopens over_files over_files) (alone begun) (bytes ∷ []) (alone ended)

  follows : (begun ended : One g) (bytes : List ℕ) (tables tables' : Tables) (answered : Option Fault)
      → holds_tables over_files begun.applied.store.store tables → holds_tables over_files ended.applied.store.store tables'
      → Fed l begun tables bytes ended tables' answered → Follows begun bytes answered ended
  follows begun ended bytes tables tables' answered held holds fed history' all_complete ts is sent =
      let same : ts ≡ tables = stored_once ts tables (committed_of over_files begun.applied.store.store.rows) is held in (
        tables',
        holds,
        fed_followed clock history' (bytes ∷ []) all_complete (seen position_of (alone begun) ts) (seen position_of (alone ended) tables')
            answered sent (subst (λ x. Fed l begun x bytes ended tables' answered) (sym same) fed),
      )

  left_with : (history' : List Transaction) (ended : One g) (other : StoreValue (FileStore D g)) (v : Stored) (confirmed : ℕ)
      → Holds over_files other v → tables_as_of history' v.position ≡ Ok v.tables → NothingBetween history' v.position confirmed
      → ended.applied.confirmed ≤ confirmed → position_of ended.applied.store.store ≤ v.position
      → IsLeftSafely (holds_tables over_files) position_of history' (alone ended) other
  left_with history' ended other v confirmed now same stored low up = record {
    tables = v.tables;
    held = now.stored;
    same = subst (λ p. tables_as_of history' p ≡ Ok v.tables) now.position same;
    position = omega (arith, now.position, up);
    stored = subst (λ p. NothingBetween history' p ended.applied.confirmed) now.position
        (less l history' v.position ended.applied.confirmed confirmed low stored);
  }

  leaves : (begun ended : One g) (bytes : List ℕ) (tables tables' : Tables)
      → holds_tables over_files begun.applied.store.store tables
      → Contains over_files ended.applied.store.store (record { tables = tables'; position = position_of ended.applied.store.store })
      → Fed l begun tables bytes ended tables' None → Leaves begun bytes ended
  leaves begun ended bytes tables tables' held contains fed history' all_complete ts is sent other again =
      let v : Stored = record { tables = tables'; position = position_of ended.applied.store.store } in
      let safe = safe_of l begun ended bytes tables ts tables' None history' all_complete held is sent fed in
      left_with history' ended other v ended.applied.confirmed (again.opened v (contains.left again.db again.left)) safe.same safe.stored
      (omega arith) (omega arith)

  stands : {P : OverFiles g → Type 0} (s : OverFiles g) → P s → StandsAsFed position_of P s
  stands s is = (
    s,
    record { position = refl; confirmed = refl; received = refl; version = refl; limit = refl; replies = refl },
    is,
  )

  module _ (lived : IsLived l) where
    why_1 : Holds_2 l lived → StandsAsFed position_of (λ s. FollowsSessions (holds_tables over_files) position_of clock (alone (begun_1 l))
        (bytes_1 ∷ []) s refused) (alone (ended_1 l))
    why_1 held = (
      alone (stood_1 l lived),
      record { position = refl; confirmed = refl; received = refl; version = refl; limit = refl; replies = refl },
      follows (begun_1 l) (stood_1 l lived) bytes_1 map.empty tables_304 refused (holds_1 l lived) held feeds_1,
    )

    crash_1 : Leaves (begun_1 l) bytes_1 (ended_1 l)
    crash_1 history' all_complete ts is sent other again = elim (lived.leaves_1 again.db again.left) [
      | inl old ↦ let safe = safe_of l (begun_1 l) (ended_1 l) bytes_1 map.empty ts tables_304 refused history' all_complete
          (holds_1 l lived) is sent feeds_1 in
          left_with history' (ended_1 l) other stored_304 304 (again.opened stored_304 old) safe.same safe.stored (omega arith)
          (omega arith)
      | inr new ↦ let safe = safe_of l (begun_1 l) (all_1 l lived) bytes_1 map.empty ts tables_560 (Some fault.Memory) history' all_complete
          (holds_1 l lived) is sent feeds_1_all in
          left_with history' (ended_1 l) other stored_560 560 (again.opened stored_560 new) safe.same safe.stored (omega arith)
          (omega arith)
    ]

    followed_2 : Holds_2 l lived → Follows (begun_2 l) bytes_2 None (ended_2 l)
    followed_2 held = follows (begun_2 l) (ended_2 l) bytes_2 tables_304 tables_672 None held lived.contains_2.holds.stored feeds_2

    followed_3 : Holds_3 l lived → Follows (begun_3 l) bytes_3 None (ended_3 l)
    followed_3 held = follows (begun_3 l) (ended_3 l) bytes_3 tables_672 tables_816 None held lived.contains_3.holds.stored feeds_3

    runs_over : Holds_2 l lived → Holds_3 l lived → AreRuns history new_files 0 runs_alone
    runs_over held_2 held_3 = (
      refl,
      record {
        found = lived.found_1;
        new = λ tables. refl;
        sent = λ tables. ((0, omega arith, inl session_1), tt);
        clock = clock;
        answered = refused;
        followed = why_1 held_2;
        rows = λ serves. absurd (lived.shut_1 serves);
        crash = crash_1;
        left = inl lived.left_1;
      },
      (
        refl,
        record {
          found = lived.found_2;
          new = λ tables. refl;
          sent = λ tables. ((0, omega arith, inl session_2), tt);
          clock = clock;
          answered = None;
          followed = stands (alone (ended_2 l)) (followed_2 held_2);
          rows = λ _. followed_2 held_2;
          crash = leaves (begun_2 l) (ended_2 l) bytes_2 tables_304 tables_672 held_2 lived.contains_2 feeds_2;
          left = inr (lived.serves_2, lived.closed_2);
        },
        (
          refl,
          record {
            found = lived.found_3;
            new = λ tables. refl;
            sent = λ tables. ((700, omega arith, inl session_3), tt);
            clock = clock;
            answered = None;
            followed = stands (alone (ended_3 l)) (followed_3 held_3);
            rows = λ _. followed_3 held_3;
            crash = leaves (begun_3 l) (ended_3 l) bytes_3 tables_672 tables_816 held_3 lived.contains_3 feeds_3;
            left = inr (lived.serves_3, lived.closed_3);
          },
          tt,
        ),
      ),
    )

    pub runs_alone_are : ∥ AreRuns history new_files 0 runs_alone ∥₁
    runs_alone_are = ∥∥₁_elim (holds_2 l lived) ∥∥₁_prop (λ held_2.
        ∥∥₁_map (holds_3 l lived) (λ held_3. runs_over held_2 held_3))

-- These too are runs of the history, and so the law without a feed says the same of the store.
worked_life_alone : {D : Type 0} {g : disk.Ghosts D} (l : Given g) → IsLived l
    → ∥ AreRuns history new_files 0 (runs_alone l) ∥₁ × ∥ HoldThrough history 0 0 (runs_alone l) ∥₁
worked_life_alone {D} {g} l lived = (
  runs_alone_are l lived,
  ∥∥₁_elim (runs_alone_are l lived) ∥∥₁_prop (λ are. one_life g history new_files (runs_alone l) is_history new_files_are_empty are),
)
