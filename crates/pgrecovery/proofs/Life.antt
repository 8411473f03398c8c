-- Runs over one store, each over what the one before left, hold the rows of one history.
use Rattle.std.proofs.Common.{◌≡◌, ◌≤◌, ◌<◌, ◌⊎◌, inl, inr, ℕ, List, [], ◌∷◌, Ok, Err, max, refl}
use Rattle.std.proofs.Common.{sym, ap, subst, ◌∙◌, arith}
use Rattle.std.proofs.Math.Logic.{∥∥₁_elim, ∥∥₁_map, ∥∥₁_prop}
use Rattle.std.proofs.lemmas.Bool.{cases_lt}
use Rattle.std.proofs.lemmas.Bool.Decides.{nat_tests}
use Rattle.std.specs.Prelude.{nat_le, false}
use Rattle.std.specs.FinMap as map
use Rattle.sqlite_disk.specs.declared.Disk as disk
use Rattle.sqlite_store.specs.declared.store.FileStore.{FileStore}
use Rattle.sqlite.specs.Files.{over_files}
use Rattle.sqlite.specs.Recovery.{Image}
use Rattle.pgapply.specs.Value.{Tables}
use Rattle.pgapply.specs.Apply.{fold_changes}
use Rattle.pgapply.specs.Stored.{Stored}
use Rattle.pgstore.specs.StoreValue.{StoreValue, Serves, Holds}
use Rattle.pgencoded.specs.DatabaseValue.{nothing_stored}
use Rattle.pgstore.specs.Reopened.{CrashLeaves, HoldsContent, IsEmptyContent}
use Rattle.pgstore.proofs.Reopened as reopened
use Rattle.pgsub_core.specs.Server.History.{Transaction, IsHistory, IsHistoryFrom, all_changes}
use Rattle.pgsub_core.specs.Server.History.{ended_by, tables_as_of}
use Rattle.pgsub_core.specs.Server.Stream.{Sent, CommitOrKeepalive, Committed, KeepaliveEnd}
use Rattle.pgsub_core.specs.Server.Stream.{commits_and_keepalives, end_of}
use Rattle.pgsub_core.specs.Server.Reached.{Progress, disconnected, position_after, reached}
use Rattle.pgsub_core.specs.Server.Sessions.{reached_all}
use Rattle.pgsub_core.specs.Subscriber.Safe.{NothingBetween}
use Rattle.pgsub_core.specs.Subscriber.Safely.{IsSent}
use Rattle.pgsub_core.specs.Subscriber.Subscribed.{newly}
use Rattle.pgsub_core.specs.Subscriber.SubscriberValue.{seen}
use Rattle.pgrecovery.specs.Recovered.{OverFiles, Recovers, holds_tables, position_of}
use Rattle.pgrecovery.specs.Life.{AreRuns, ClosedAs, HoldThrough, HoldsHistory, IsRun, OneLife, Run}
use Rattle.pgrecovery.specs.Life.{place_of}
use Rattle.pgrecovery.proofs.Recovered.{left_safely, recovers}

-- ---- what is stored

-- at a greater position no less is
pub stored_up : (history : List Transaction) (p q c : ℕ) → p ≤ q → NothingBetween history p c → NothingBetween history q c
stored_up [] p q c up stored = tt
stored_up (t ∷ history) p q c up stored =
    ((λ changes by. let at = stored.0 changes by in omega arith), stored_up history p q c up stored.1)

pub stored_both : (history : List Transaction) (p c d : ℕ) → NothingBetween history p c → NothingBetween history p d
    → NothingBetween history p (max c d)
stored_both [] p c d one two = tt
stored_both (t ∷ history) p c d one two =
    ((λ changes by. either t.end p c d (one.0 changes) (two.0 changes) by), stored_both history p c d one.1 two.1)
  where
    either : (e p c d : ℕ) → (e ≤ c → e ≤ p) → (e ≤ d → e ≤ p) → e ≤ max c d → e ≤ p
    either e p c d one two by = elim (cases_lt c e) [ inl late ↦ two (omega (arith, late, by)) | inr early ↦ one early ]

-- by 0/0 nothing has ended
none_ended : (from : ℕ) (history : List Transaction) → IsHistoryFrom from history → ended_by 0 history ≡ []
none_ended from [] is = refl
none_ended from (t ∷ history) is =
    let first = is.1 in
    let late : nat_le t.end 0 ≡ false = grind (arith, nat_tests) in
    rw late (none_ended t.end history is.4)

pub nothing_yet : (history : List Transaction) → IsHistory history → tables_as_of history 0 ≡ Ok map.empty
unfolding tables_as_of fold_changes
nothing_yet history is = ap (λ ts. fold_changes map.empty (all_changes ts)) (none_ended 0 history is)

pub stored_none : (history : List Transaction) (p : ℕ) → NothingBetween history p 0
stored_none [] p = tt
stored_none (t ∷ history) p = ((λ changes by. omega arith), stored_none history p)

-- ---- the position rises

after_up : (p : ℕ) (ms : List CommitOrKeepalive) → p ≤ position_after p ms
after_up p [] = omega arith
after_up p (Committed completed ∷ ms) = let more = after_up (max p (end_of completed)) ms in omega arith
after_up p (KeepaliveEnd end quiet ∷ ms) = after_up p ms

pub all_up : (p : Progress) (handled : List (List Sent)) → p.position ≤ (reached_all p handled).position
all_up p [] = omega arith
all_up p (sent ∷ handled) =
    let first = after_up p.position (commits_and_keepalives [] sent) in
    let more = all_up (reached (disconnected p) [] sent) handled in
    omega arith

module _ {D : Type 0} (g : disk.Ghosts D) where
  -- whatever store is opened on the content has recovered
  abbrev Ready : List Transaction → ℕ → ℕ → Image → Type 0
  Ready history position confirmed content =
      (store : StoreValue (FileStore D g)) → HoldsContent over_files content store
      → ∥ Recovers over_files history position confirmed store ∥₁

  recovers_more : (history : List Transaction) (position c d : ℕ) (store : StoreValue (FileStore D g)) → IsHistory history
      → NothingBetween history position c → Recovers over_files history position d store
      → Recovers over_files history position (max c d) store
  recovers_more history position c d store is stored r =
      recovers over_files history position (max c d) store r.tables is r.held r.same r.not_lower
      (stored_both history store.position c d (stored_up history position store.position c r.not_lower stored) r.stored)

  -- what is true of a run once its store has recovered
  record Went (history : List Transaction) (position confirmed : ℕ) (r : Run g) : Type 0 where
    pub low : position ≤ place_of r.begun
    pub up : place_of r.begun ≤ place_of r.ended
    pub before : HoldsHistory history confirmed r.begun
    pub later : Serves over_files r.ended.applied.store → HoldsHistory history (max confirmed r.ended.applied.confirmed) r.ended
    pub next : Ready history (place_of r.ended) (max confirmed r.ended.applied.confirmed) r.after

  closed : (history : List Transaction) (confirmed : ℕ) (r : Run g) (content : Image) → IsHistory history
      → HoldsHistory history confirmed r.ended → ClosedAs r.ended.applied.store content
      → Ready history (place_of r.ended) confirmed content
  closed history confirmed r content is holds c store found =
      let v : Stored = record { tables = holds.tables; position = place_of r.ended } in
      let was : Holds over_files r.ended.applied.store v = record { stored = holds.held; position = refl } in
      ∥∥₁_map (reopened.closed_is_reopened g over_files r.ended.applied.store store c.0 c.2.0 content c.1 c.2.1 c.2.2 found v was) (λ now.
      let at : place_of r.ended ≡ store.position = now.position in
      recovers over_files history (place_of r.ended) confirmed store holds.tables is now.stored
      (subst (λ p. tables_as_of history p ≡ Ok holds.tables) at holds.same) (omega (arith, at))
      (subst (λ p. NothingBetween history p confirmed) at holds.stored))

  left : (history : List Transaction) (confirmed : ℕ) (r : Run g) → IsHistory history
      → NothingBetween history (place_of r.ended) confirmed
      → (Serves over_files r.ended.applied.store → HoldsHistory history (max confirmed r.ended.applied.confirmed) r.ended)
      → ((tables : Tables) → holds_tables over_files r.begun.applied.store tables
      → IsSent history (seen position_of r.begun tables) r.sessions r.all_complete
      → IsRun history confirmed r → Ready history (place_of r.ended) (max confirmed r.ended.applied.confirmed) r.after)
  left history confirmed r is stored holds tables held sent run store found = elim run.left [
    | inl crash ↦ ∥∥₁_map (left_safely g history r.ended is
        (λ other again. run.crash history r.all_complete tables held sent other again) r.after store crash found) (λ once.
        recovers_more history (place_of r.ended) confirmed r.ended.applied.confirmed store is stored once)
    | inr done ↦ closed history (max confirmed r.ended.applied.confirmed) r r.after is (holds done.0) done.1 store found
  ]

  went : (history : List Transaction) (position confirmed : ℕ) (r : Run g) → IsHistory history → IsRun history confirmed r
      → Recovers over_files history position confirmed r.begun.applied.store → Went history position confirmed r
  went history position confirmed r is run once =
      let tables = once.tables in
      let sent : IsSent history (seen position_of r.begun tables) r.sessions r.all_complete =
      subst (λ s. IsSent history s r.sessions r.all_complete) (sym (run.new tables))
      (once.goes_on r.version r.max_frame r.limit r.sessions r.all_complete (run.sent tables)).0 in
      let stands = run.followed in
      let fed = stands.2 history r.all_complete tables once.held sent in
      let rises = all_up (record {
        position = place_of r.begun;
        confirmed = r.begun.applied.confirmed;
        received = r.begun.applied.received;
      })
      fed.2.safely.handled in
      let up : place_of r.begun ≤ place_of r.ended =
      omega (arith, rises, ap (λ (p : Progress). p.position) fed.2.safely.progress, stands.1.position) in
      let stored = stored_up history (place_of r.begun) (place_of r.ended) confirmed up once.stored in
      let later : Serves over_files r.ended.applied.store → HoldsHistory history (max confirmed r.ended.applied.confirmed) r.ended =
      λ serves.
      let now = run.rows serves history r.all_complete tables once.held sent in
      record {
        tables = now.0;
        held = now.1;
        same = now.2.safely.safe.same;
        stored = stored_both history (place_of r.ended) confirmed r.ended.applied.confirmed stored now.2.safely.safe.stored;
      } in
      record {
        low = once.not_lower;
        up = up;
        before = record { tables = tables; held = once.held; same = once.same; stored = once.stored };
        later = later;
        next = left history confirmed r is stored later tables once.held sent run;
      }

  through : (history : List Transaction) → IsHistory history → (position confirmed : ℕ) (content : Image) (runs : List (Run g))
      → Ready history position confirmed content → AreRuns history content confirmed runs → ∥ HoldThrough history position confirmed runs ∥₁
  through history is position confirmed content [] ready are = ∣ tt ∣₁
  through history is position confirmed content (r ∷ runs) ready are =
      let found = subst (λ c. HoldsContent over_files c r.begun.applied.store) are.0 are.1.found in
      ∥∥₁_elim (ready r.begun.applied.store found) ∥∥₁_prop (λ once.
      let w = went history position confirmed r is are.1 once in
      ∥∥₁_map (through history is (place_of r.ended) (max confirmed r.ended.applied.confirmed) r.after runs w.next are.2)
      (λ more. (w.low, w.up, w.before, w.later, more)))

  begins : (history : List Transaction) (content : Image) → IsHistory history → IsEmptyContent content → Ready history 0 0 content
  begins history content is empty store found =
      let none = found.empty empty in
      let at : 0 ≡ store.position = none.position in
      ∣ recovers over_files history 0 0 store map.empty is none.stored
      (subst (λ p. tables_as_of history p ≡ Ok map.empty) at (nothing_yet history is)) (omega arith) (stored_none history store.position) ∣₁

  pub one_life : OneLife g
  one_life history content runs is empty are = through history is 0 0 content runs (begins history content is empty) are
