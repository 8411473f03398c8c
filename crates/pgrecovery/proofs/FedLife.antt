-- Runs over one store with one feed, each over what the one before left, hold the rows of one
-- history.
use Rattle.std.proofs.Common.{◌≡◌, ◌≤◌, inl, inr, ℕ, List, [], ◌∷◌, Bool, Ok, max, refl}
use Rattle.std.proofs.Common.{ap, subst, arith, sym, ℤ, Option}
use Rattle.std.proofs.Math.Logic.{∥∥₁_elim, ∥∥₁_map, ∥∥₁_prop}
use Rattle.std.specs.FinMap as map
use Rattle.sqlite_disk.specs.declared.Disk as disk
use Rattle.sqlite.specs.Files.{over_files}
use Rattle.sqlite.specs.Recovery.{Image}
use Rattle.pgorder.specs.declared.Version.{Version}
use Rattle.pgapply.specs.Value.{Tables}
use Rattle.pgapply.specs.Stored.{Stored}
use Rattle.pgfeed.specs.declared.feed.Feed.{Feed}
use Rattle.pgfeed.specs.Beside.{RecordsRest}
use Rattle.pgfeed.specs.Feeds.{IsHonestFeed, OpensIn, ReopensAt}
use Rattle.pgfeed.proofs.Beside as beside
use Rattle.pgstore.specs.StoreValue.{Serves, Holds}
use Rattle.pgstore.specs.Reopened.{HoldsContent, IsEmptyContent}
use Rattle.pgstore.proofs.Reopened as reopened
use Rattle.pgsub_core.specs.declared.fault.Fault.{Fault}
use Rattle.pgsub_core.specs.Server.History.{Transaction, IsHistory, tables_as_of}
use Rattle.pgsub_core.specs.Server.Reached.{Progress}
use Rattle.pgsub_core.specs.Server.Stream.{Sent}
use Rattle.pgsub_core.specs.Subscriber.Safe.{IsSafe, NothingBetween}
use Rattle.pgsub_core.specs.Subscriber.Safely.{IsSent}
use Rattle.pgsub_core.specs.Subscriber.Subscribed.{newly}
use Rattle.pgsub_core.specs.Subscriber.Crashing.{LeavesHistory, StandsAsFed}
use Rattle.pgsub_core.specs.Subscriber.Following.{FollowsSessions}
use Rattle.pgsub_core.specs.Subscriber.SubscriberValue.{SubscriberValue, seen}
use Rattle.pgsub_core.proofs.Restarting.{left_starts}
use Rattle.pgrecovery.specs.Recovered.{GoesOn}
use Rattle.pgrecovery.specs.Life.{ClosedAs}
use Rattle.pgrecovery.specs.FedLife.{AreFedRuns, FedRun, FedStore, HoldFedThrough, HoldsFed}
use Rattle.pgrecovery.specs.FedLife.{IsFedRun, IsLeftBy, IsLeftFed, OneFedLife, fed_newly}
use Rattle.pgrecovery.specs.FedLife.{fed_position, holds_fed, reopens_fed}
use Rattle.pgrecovery.proofs.Life.{all_up, nothing_yet, stored_both, stored_none, stored_up}

module _ {D F E : Type 0} (g : disk.Ghosts D) (shows : E → List ℕ) (may_leave : E → List ℕ → Type 0) (is_clean : E → Bool)
    (is_true : F → Type 0) (places : F → List ℕ) (has : F → ℕ → List ℕ → Type 0) (supposed : Type 0) where
  abbrev pub Holds_fed : FedStore g F E → Tables → Type 0
  Holds_fed = holds_fed g shows may_leave is_clean is_true places has supposed

  abbrev Fed : Feed F E → Tables → ℕ → ℕ → Type 0
  Fed = RecordsRest shows may_leave is_clean is_true places has

  -- a store with its feed, as it is opened again
  pub record Recovers (history : List Transaction) (position confirmed : ℕ) (s : FedStore g F E) : Type 0 where
    pub tables : Tables
    pub held : Holds_fed s tables
    pub same : tables_as_of history s.store.position ≡ Ok tables
    pub not_lower : position ≤ s.store.position
    pub stored : NothingBetween history s.store.position confirmed
    pub goes_on : GoesOn history tables s.store.position confirmed

  recovers : (history : List Transaction) (position confirmed : ℕ) (s : FedStore g F E) (tables : Tables) → IsHistory history
      → Holds_fed s tables → tables_as_of history s.store.position ≡ Ok tables → position ≤ s.store.position
      → NothingBetween history s.store.position confirmed → Recovers history position confirmed s
  recovers history position confirmed s tables is held same low stored = record {
    tables = tables;
    held = held;
    same = same;
    not_lower = low;
    stored = stored;
    goes_on = λ v max_frame limit sessions all_complete.
        left_starts history tables s.store.position confirmed v max_frame limit sessions all_complete is same stored;
  }

  -- whatever store is opened on the content, with a feed in the folder that is left, has recovered
  abbrev pub Ready : List Transaction → ℕ → ℕ → Image → (ℕ → F → Type 0) → Type 0
  Ready history position confirmed content is_left =
      (s : FedStore g F E) (folder : F) → HoldsContent over_files content s.store
      → OpensIn shows may_leave is_clean is_true places has folder s.store.position s.ledger
      → (supposed → IsHonestFeed shows may_leave is_clean is_true places has s.ledger) → (supposed → is_left s.store.position folder)
      → ∥ Recovers history position confirmed s ∥₁

  -- the store holds the history's rows, and its feed leads to them
  pub record Stands (history : List Transaction) (confirmed : ℕ) (s : FedStore g F E) : Type 0 where
    pub tables : Tables
    pub held : Holds_fed s tables
    pub same : tables_as_of history (fed_position s) ≡ Ok tables
    pub stored : NothingBetween history (fed_position s) confirmed

  told : (history : List Transaction) (confirmed : ℕ) (s : FedStore g F E) → Stands history confirmed s
      → HoldsFed g shows may_leave is_clean is_true places has supposed history confirmed s
  told history confirmed s stands = record {
    tables = stands.tables;
    held = stands.held.0;
    same = stands.same;
    stored = stands.stored;
    leads = λ so.
        beside.rests_lead shows may_leave is_clean is_true places has s.ledger stands.tables (fed_position s) s.store.group.reach
        (stands.held.1 so);
  }

  -- the feed is opened on what is left of it
  pub again : (l other : Feed F E) (place : ℕ) (folder : F) → IsLeftBy g shows may_leave is_clean is_true places has supposed l place folder
      → OpensIn shows may_leave is_clean is_true places has folder place other
      → IsHonestFeed shows may_leave is_clean is_true places has other
      → ReopensAt shows may_leave is_clean is_true places has l place other
  again l other place folder left opens honest =
      beside.left_is_reopened shows may_leave is_clean is_true places has l other place left.0 folder left.1 opens honest

  -- ---- what `follow` says of a subscriber over it

  module _ (begun ended : SubscriberValue (FedStore g F E)) (version : Version) (max_frame limit : ℕ)
      (new : (tables : Tables)
      → seen fed_position begun tables ≡ newly tables (fed_position begun.applied.store) version max_frame limit)
      (history : List Transaction) (sessions : List (List ℕ)) (all_complete : List (List Sent)) where
    abbrev Sent_over : Tables → Type 0
    Sent_over tables =
        IsSent history (newly tables (fed_position begun.applied.store) version max_frame limit) sessions all_complete

    of_begun : (tables : Tables) → Sent_over tables → IsSent history (seen fed_position begun tables) sessions all_complete
    of_begun tables sent = subst (λ s. IsSent history s sessions all_complete) (sym (new tables)) sent

    module _ (clock : ℤ) (answered : Option Fault) where
      abbrev Followed : SubscriberValue (FedStore g F E) → Type 0
      Followed s = FollowsSessions Holds_fed fed_position clock begun sessions s answered

      -- its position didn't fall
      pub followed_up : StandsAsFed fed_position Followed ended → (tables : Tables) → Holds_fed begun.applied.store tables
          → Sent_over tables → fed_position begun.applied.store ≤ fed_position ended.applied.store
      followed_up stands tables held sent =
          let fed = stands.2 history all_complete tables held (of_begun tables sent) in
          let rises = all_up (record {
            position = fed_position begun.applied.store;
            confirmed = begun.applied.confirmed;
            received = begun.applied.received;
          })
          fed.2.safely.handled in
          omega (arith, rises, ap (λ (p : Progress). p.position) fed.2.safely.progress, stands.1.position)

      -- it holds the history's rows
      pub followed_rows : Followed ended → (tables : Tables) → Holds_fed begun.applied.store tables → Sent_over tables
          → (tables' : Tables) × Holds_fed ended.applied.store tables'
          × IsSafe history tables' (fed_position ended.applied.store) ended.applied.confirmed
      followed_rows follows tables held sent =
          let fed = follows history all_complete tables held (of_begun tables sent) in
          (fed.0, fed.1, fed.2.safely.safe)

    -- and so does what a crash leaves
    pub followed_crash :
        LeavesHistory Holds_fed fed_position (reopens_fed g shows may_leave is_clean is_true places has supposed) begun sessions ended
        → (tables : Tables) → Holds_fed begun.applied.store tables → Sent_over tables
        → (other : FedStore g F E)
        → reopens_fed g shows may_leave is_clean is_true places has supposed ended.applied.store other
        → IsLeftFed g shows may_leave is_clean is_true places has supposed history (fed_position ended.applied.store)
        ended.applied.confirmed other
    followed_crash leaves tables held sent other again =
        let it = leaves history all_complete tables held (of_begun tables sent) other again in
        record { tables = it.tables; held = it.held; same = it.same; position = it.position; stored = it.stored }

  -- what is true of a run once its store has recovered
  pub record Went (history : List Transaction) (position confirmed : ℕ) (r : FedRun g F E) : Type 0 where
    pub low : position ≤ fed_position r.begun
    pub up : fed_position r.begun ≤ fed_position r.ended
    pub before : Stands history confirmed r.begun
    pub later : Serves over_files r.ended.store → Stands history (max confirmed r.confirmed) r.ended
    pub next : Ready history (fed_position r.ended) (max confirmed r.confirmed) r.after
        (IsLeftBy g shows may_leave is_clean is_true places has supposed r.ended.ledger)

  module _ (may_stay : (d : E) → may_leave d (shows d)) where
    closed : (history : List Transaction) (confirmed : ℕ) (r : FedRun g F E) (content : Image) → IsHistory history
        → Stands history confirmed r.ended → ClosedAs r.ended.store content
        → Ready history (fed_position r.ended) confirmed content
        (IsLeftBy g shows may_leave is_clean is_true places has supposed r.ended.ledger)
    closed history confirmed r content is holds c s folder found opens honest left =
        let old : FedStore g F E = r.ended in
        let v : Stored = record { tables = holds.tables; position = fed_position r.ended } in
        let was : Holds over_files old.store v = record { stored = holds.held.0; position = refl } in
        ∥∥₁_map (reopened.closed_is_reopened g over_files old.store s.store c.0 c.2.0 content c.1 c.2.1 c.2.2 found v was) (λ now.
        let at : fed_position r.ended ≡ s.store.position = now.position in
        let leads : supposed → Fed old.ledger holds.tables s.store.position old.store.group.reach =
        λ so. subst (λ p. Fed old.ledger holds.tables p old.store.group.reach) at (holds.held.1 so) in
        recovers history (fed_position r.ended) confirmed s holds.tables is (
          now.stored,
          λ so.
              beside.goes_on shows may_leave is_clean is_true places has may_stay old.ledger s.ledger holds.tables s.store.position
              old.store.group.reach s.store.group.reach
              (again old.ledger s.ledger s.store.position folder (left so) opens (honest so)) (leads so),
        )
        (subst (λ p. tables_as_of history p ≡ Ok holds.tables) at holds.same) (omega (arith, at))
        (subst (λ p. NothingBetween history p confirmed) at holds.stored))

    crashed : (history : List Transaction) (confirmed : ℕ) (r : FedRun g F E) → IsHistory history
        → NothingBetween history (fed_position r.ended) confirmed
        → (Serves over_files r.ended.store → Stands history (max confirmed r.confirmed) r.ended)
        → ((tables : Tables) → Holds_fed r.begun tables
        → IsSent history (fed_newly r tables) r.sessions r.all_complete
        → IsFedRun g shows may_leave is_clean is_true places has supposed history confirmed r
        → Ready history (fed_position r.ended) (max confirmed r.confirmed) r.after
        (IsLeftBy g shows may_leave is_clean is_true places has supposed r.ended.ledger))
    crashed history confirmed r is stored holds tables held sent run s folder found opens honest left = elim run.left [
      | inl crash ↦ ∥∥₁_map (reopened.left_is_reopened g over_files r.ended.store s.store r.after crash found) (λ there.
          let it = run.followed.crash tables held sent s
          (there, λ so. again r.ended.ledger s.ledger s.store.position folder (left so) opens (honest so)) in
          recovers history (fed_position r.ended) (max confirmed r.confirmed) s it.tables is it.held it.same it.position
          (stored_both history s.store.position confirmed r.confirmed
          (stored_up history (fed_position r.ended) s.store.position confirmed it.position stored) it.stored))
      | inr done ↦ closed history (max confirmed r.confirmed) r r.after is (holds done.0) done.1 s folder found opens honest
          left
    ]

    pub went : (history : List Transaction) (position confirmed : ℕ) (r : FedRun g F E) → IsHistory history
        → IsFedRun g shows may_leave is_clean is_true places has supposed history confirmed r
        → Recovers history position confirmed r.begun → Went history position confirmed r
    went history position confirmed r is run once =
        let tables = once.tables in
        let sent : IsSent history (fed_newly r tables) r.sessions r.all_complete =
        (once.goes_on r.version r.max_frame r.limit r.sessions r.all_complete (run.sent tables)).0 in
        let up = run.followed.up tables once.held sent in
        let stored = stored_up history (fed_position r.begun) (fed_position r.ended) confirmed up once.stored in
        let later : Serves over_files r.ended.store → Stands history (max confirmed r.confirmed) r.ended =
        λ serves.
        let now = run.followed.rows serves tables once.held sent in
        record {
          tables = now.0;
          held = now.1;
          same = now.2.same;
          stored = stored_both history (fed_position r.ended) confirmed r.confirmed stored now.2.stored;
        } in
        record {
          low = once.not_lower;
          up = up;
          before = record { tables = tables; held = once.held; same = once.same; stored = once.stored };
          later = later;
          next = crashed history confirmed r is stored later tables once.held sent run;
        }

    through : (history : List Transaction) → IsHistory history → (position confirmed : ℕ) (content : Image) (is_left : ℕ → F → Type 0)
        (runs : List (FedRun g F E)) → Ready history position confirmed content is_left
        → AreFedRuns g shows may_leave is_clean is_true places has supposed history content is_left confirmed runs
        → ∥ HoldFedThrough g shows may_leave is_clean is_true places has supposed history position confirmed runs ∥₁
    through history is position confirmed content is_left [] ready are = ∣ tt ∣₁
    through history is position confirmed content is_left (r ∷ runs) ready are =
        let run = are.2 in
        let found = subst (λ c. HoldsContent over_files c r.begun.store) are.0 run.found in
        ∥∥₁_elim (ready r.begun r.folder found run.opened run.honest are.1) ∥∥₁_prop (λ once.
        let w = went history position confirmed r is run once in
        let now = max confirmed r.confirmed in
        ∥∥₁_map (through history is (fed_position r.ended) now r.after
        (IsLeftBy g shows may_leave is_clean is_true places has supposed r.ended.ledger) runs w.next are.3)
        (λ more. (w.low, w.up, told history confirmed r.begun w.before, λ serves. told history now r.ended (w.later serves), more)))

    pub begins : (history : List Transaction) (content : Image) → IsHistory history → IsEmptyContent content
        → Ready history 0 0 content (λ p folder. places folder ≡ [])
    begins history content is empty s folder found opens honest none =
        let nothing = found.empty empty in
        let at : 0 ≡ s.store.position = nothing.position in
        ∣ recovers history 0 0 s map.empty is (
          nothing.stored,
          λ so.
              beside.begins_with shows may_leave is_clean is_true places has folder s.ledger map.empty s.store.position
              s.store.group.reach opens (honest so) (none so),
        )
        (subst (λ p. tables_as_of history p ≡ Ok map.empty) at (nothing_yet history is)) (omega arith)
        (stored_none history s.store.position) ∣₁

    pub one_fed_life : OneFedLife g shows may_leave is_clean is_true places has supposed
    one_fed_life history content runs is empty are =
        through history is 0 0 content (λ p folder. places folder ≡ []) runs (begins history content is empty) are
