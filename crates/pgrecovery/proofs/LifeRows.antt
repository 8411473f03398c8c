-- A worked life of a store in two files with a feed: three runs over one history of five
-- transactions. Run one crashes amid a group, so that the store has one transaction of three that
-- came, and the feed has all three. Run two opens what the crash left, gets them again and more,
-- and is closed. Then others remove the feed's first segment. Run three goes on from there.
--
-- What is computed: the history and its rows, the sessions as bytes, what they make of a
-- subscriber, and the feed in a folder in memory. Of the store in two files the life supposes what
-- the contracts of its calls say (`IsLived`), since no such store is written down here.
use Rattle.std.proofs.Common.{◌≡◌, ◌≤◌, ◌⊎◌, [], ◌∷◌, List, ℕ, Bool, true, false, Some, None}
use Rattle.std.proofs.Common.{Option, Result, Ok, Err, refl, sym, ap, ◌∙◌, subst, arith, inl, inr}
use Rattle.std.proofs.Math.Logic.{∥∥₁_elim, ∥∥₁_map, ∥∥₁_prop}
use Rattle.std.specs.Prelude.{⊤}
use Rattle.std.specs.FinMap as map
use Rattle.sqlite_disk.specs.declared.Disk as disk
use Rattle.sqlite_store.specs.declared.store.FileStore.{FileStore}
use Rattle.sqlite.specs.Files.{over_files}
use Rattle.sqlite.specs.Recovery.{Image}
use Rattle.sqlite.specs.Tree.{Trees}
use Rattle.pgrows.specs.Rows.{state}
use Rattle.pgorder.specs.declared.Version.TheVariants.{Two}
use Rattle.pgorder.specs.Steps.{initial_order}
use Rattle.pgapply.specs.declared.fault.StoreFault.{StoreFault}
use Rattle.pgapply.specs.Stored.{Stored}
use Rattle.pgapply.specs.Value.{Tables}
use Rattle.pgapply.specs.Tallies.{TakenCommit}
use Rattle.pgfeed.specs.Beside.{LeadsFrom, RecordsRest}
use Rattle.pgfeed.specs.Hearing.{all_heard}
use Rattle.pgfeed.proofs.Beside.{goes_on}
use Rattle.pgencoded.specs.Acts.{committed_of}
use Rattle.pgencoded.specs.DatabaseValue.{AreOf}
use Rattle.pgstore.specs.StoreValue.{Contains, Holds as Store_holds, Serves}
use Rattle.pgstore.specs.Reopened.{CrashLeaves, HoldsContent, IsEmptyContent}
use Rattle.pgstore.proofs.Reopened.{closed_is_reopened, left_is_reopened}
use Rattle.pgsub_core.specs.declared.fault.Fault.{Fault}
use Rattle.pgsub_core.specs.declared.fault.Fault.TheVariants as fault
use Rattle.pgsub_core.specs.Server.History.{Transaction, tables_as_of}
use Rattle.pgsub_core.specs.Server.Sessions.{reached_all}
use Rattle.pgsub_core.specs.Server.Stream.{Sent}
use Rattle.pgsub_core.specs.Machine.Replica.{RelationCache}
use Rattle.pgsub_core.specs.Subscriber.Crashing.{IsLeftSafely, LeavesHistory, StandsAsFed}
use Rattle.pgsub_core.specs.Subscriber.Following.{AreFed, FollowsSessions}
use Rattle.pgsub_core.specs.Subscriber.Safe.{IsSafe, NothingBetween}
use Rattle.pgsub_core.specs.Subscriber.Safely.{IsSent}
use Rattle.pgsub_core.specs.Subscriber.Subscribed.{IsSafeFor, newly}
use Rattle.pgsub_core.specs.Subscriber.SubscriberValue.{SubscriberValue, seen}
use Rattle.pgsub_core.proofs.Followed.{fed_followed}
use Rattle.pgrecovery.specs.Recovered.{holds_tables}
use Rattle.pgrecovery.specs.Life.{ClosedAs}
use Rattle.pgrecovery.specs.FedLife.{AreFedRuns, FedRun, FedStore, HoldFedThrough, HoldsFed}
use Rattle.pgrecovery.specs.FedLife.{IsLeftFed, fed_position, holds_fed, reopens_fed}
use Rattle.pgrecovery.proofs.FedLife.{followed_crash, followed_rows, followed_up, one_fed_life}
use Rattle.pgrecovery.proofs.LifeSessions.{as_of_0, as_of_304, as_of_672, as_of_816, bytes_1}
use Rattle.pgrecovery.proofs.LifeSessions.{bytes_2, bytes_3, complete_1, complete_2, complete_3}
use Rattle.pgrecovery.proofs.LifeSessions.{handled_1, history, is_history}
use Rattle.pgrecovery.proofs.LifeSessions.{session_1, session_2, session_3, tables_304, tables_560}
use Rattle.pgrecovery.proofs.LifeSessions.{tables_672, tables_816}
use Rattle.pgrecovery.proofs.LifeFeeds.{Folder, MemoryFeed, feed_1, feed_1_ended, feed_2}
use Rattle.pgrecovery.proofs.LifeFeeds.{feed_2_ended}
use Rattle.pgrecovery.proofs.LifeFeeds.{feed_3, feed_3_ended, file, folder_1, folder_3, has, honest}
use Rattle.pgrecovery.proofs.LifeEntries.{entry_10, entry_13, taken_10, taken_11, taken_12}
use Rattle.pgrecovery.proofs.LifeEntries.{taken_13, taken_14, tally_of}
use Rattle.pgrecovery.proofs.LifeFeeds.{is_clean, is_true, left_1, left_2}
use Rattle.pgrecovery.proofs.LifeFeeds.{may_leave}
use Rattle.pgrecovery.proofs.LifeFeeds.{opened_1, opened_2, opened_3, places, recorded_1}
use Rattle.pgrecovery.proofs.LifeFeeds.{recorded_1_all}
use Rattle.pgrecovery.proofs.LifeFeeds.{recorded_2, recorded_3, shows}
use Rattle.pgrecovery.proofs.LifeFed.{feeds_1, feeds_1_all, feeds_2, feeds_3, refused}
use Rattle.pgrecovery.proofs.LifeTakes.{clock, told_t}
use Rattle.pgrecovery.proofs.StoredOnce.{stored_once}

-- ---- the subscriber, as each run begins and ends

abbrev pub Store : {D : Type 0} → disk.Ghosts D → Type 0
Store g = FedStore g Folder (List ℕ)

abbrev pub One : {D : Type 0} → disk.Ghosts D → Type 0
One g = SubscriberValue (Store g)

abbrev pub fed_place : {D : Type 0} {g : disk.Ghosts D} → One g → ℕ
fed_place s = s.applied.store.store.position

-- A subscriber over a store with these rows, which has taken these commits since its run began
-- there, with this position, and commits staged up to that LSN. This is confirmed, and this
-- received. A session has told these definitions, and CopyDone has come, or a fault has closed it.
abbrev pub one : {D : Type 0} {g : disk.Ghosts D} → FileStore D g → MemoryFeed → ℕ → List TakenCommit → ℕ → ℕ → ℕ → ℕ → RelationCache
    → Bool → Bool → One g
one rows feed from commits position reach confirmed received relations closed copy_done = record {
  applied = record {
    store = record {
      store = record {
        rows = rows;
        position = position;
        group = record { reach = reach; is_lost = false; tally = tally_of commits; stages_tally = tally_of commits };
      };
      ledger = feed;
      from = from;
    };
    confirmed = confirmed;
    received = received;
    version = Two;
    limit = 1000;
    order = initial_order;
    held = map.empty;
    relations = relations;
    replies = [];
  };
  framing = record { max_frame = 16777216; closed = closed; partial = []; copy_done = copy_done };
}

-- as one that was opened there
abbrev pub opened : {D : Type 0} {g : disk.Ghosts D} → FileStore D g → MemoryFeed → ℕ → One g
opened rows feed position = one rows feed position [] position position position position map.empty false false

-- ---- what the handled messages reach

-- in run one the first transaction is stored; of the two that are staged nothing counts but the
-- messages before the first one's Commit
reached_1 : reached_all (record { position = 0; confirmed = 0; received = 0 }) (handled_1 ∷ [])
    ≡ record { position = 304; confirmed = 304; received = 384 }
reached_1 = refl

-- all three would lead there
staged_1 : reached_all (record { position = 0; confirmed = 0; received = 0 }) (complete_1 ∷ [])
    ≡ record { position = 560; confirmed = 560; received = 560 }
staged_1 = refl

-- in run two the first transaction is a repeat, and the keepalive confirms more than is stored
reached_2 : reached_all (record { position = 304; confirmed = 304; received = 304 }) (complete_2 ∷ [])
    ≡ record { position = 672; confirmed = 700; received = 700 }
reached_2 = refl

reached_3 : reached_all (record { position = 672; confirmed = 672; received = 672 }) (complete_3 ∷ [])
    ≡ record { position = 816; confirmed = 816; received = 816 }
reached_3 = refl

-- nothing that changes rows lies between what is stored and what is confirmed
nothing_304 : NothingBetween history 304 304
nothing_304 = ((λ _ by. by), ((λ _ by. by), ((λ _ by. by), ((λ _ by. by), ((λ _ by. by), tt)))))

nothing_700 : NothingBetween history 672 700
nothing_700 = (
  (λ _ by. omega arith),
  ((λ _ by. omega arith), ((λ _ by. omega arith), ((λ _ by. omega arith), ((λ _ by. omega (arith, by)), tt)))),
)

nothing_816 : NothingBetween history 816 816
nothing_816 = ((λ _ by. by), ((λ _ by. by), ((λ _ by. by), ((λ _ by. by), ((λ _ by. by), tt)))))

-- ---- the runs

abbrev pub stored_304 : Stored
stored_304 = record { tables = tables_304; position = 304 }

abbrev pub stored_560 : Stored
stored_560 = record { tables = tables_560; position = 560 }

abbrev pub stored_672 : Stored
stored_672 = record { tables = tables_672; position = 672 }

abbrev pub stored_816 : Stored
stored_816 = record { tables = tables_816; position = 816 }

-- the tables of a result
abbrev rows_of : Tables → Result Tables StoreFault → Tables
rows_of tables (Ok there) = there
rows_of tables (Err e) = tables

-- the rows at an LSN are these and no others
pub only : (p : ℕ) (a b : Tables) → tables_as_of history p ≡ Ok a → tables_as_of history p ≡ Ok b → a ≡ b
only p a b one other = ap (rows_of a) (sym one ∙ other)

-- nothing is stored in these files
abbrev pub new_files : Image
new_files = record { log = []; db = [] }

pub new_files_are_empty : IsEmptyContent new_files
new_files_are_empty = inl (inl (inl refl))

-- What isn't computed: the store's rows, as each run begins and ends, the content of the two files
-- after each, and a feed's allocator, names and limits.
pub record Given {D : Type 0} (g : disk.Ghosts D) : Type 0 where
  pub any : MemoryFeed
  pub alone : any.ended.items ≡ []
  pub untold : any.segment.told.items ≡ []
  pub unheard : all_heard any.hearing ≡ Some []
  pub rows_1 : FileStore D g
  pub rows_1_ended : FileStore D g
  pub content_1 : Image
  pub rows_2 : FileStore D g
  pub rows_2_ended : FileStore D g
  pub content_2 : Image
  pub rows_3 : FileStore D g
  pub rows_3_ended : FileStore D g
  pub content_3 : Image

module _ {D : Type 0} {g : disk.Ghosts D} (l : Given g) where
  -- over an empty store
  abbrev pub begun_1 : One g
  begun_1 = opened l.rows_1 (feed_1 l.any l.alone l.untold l.unheard) 0

  -- amid a group: xids 11 and 12 are staged, up to 560, and the store's position is 304
  abbrev pub ended_1 : One g
  ended_1 = one l.rows_1_ended (feed_1_ended l.any l.alone l.untold l.unheard) 0 (taken_10 ∷ []) 304 560 304 384 told_t true false

  abbrev pub begun_2 : One g
  begun_2 = opened l.rows_2 (feed_2 l.any l.alone l.untold l.unheard) 304

  abbrev pub ended_2 : One g
  ended_2 =
      one l.rows_2_ended (feed_2_ended l.any l.alone l.untold l.unheard) 304 (taken_11 ∷ taken_12 ∷ taken_13 ∷ []) 672 672 700 700 told_t
      false true

  abbrev pub begun_3 : One g
  begun_3 = opened l.rows_3 (feed_3 l.any l.alone l.untold l.unheard) 672

  abbrev pub ended_3 : One g
  ended_3 = one l.rows_3_ended (feed_3_ended l.any l.alone l.untold l.unheard) 672 (taken_14 ∷ []) 816 816 816 816 told_t false true

  abbrev run : Image → Folder → One g → List ℕ → List Sent → One g → Image → FedRun g Folder (List ℕ)
  run content folder begun bytes complete ended after = record {
    content = content;
    folder = folder;
    begun = begun.applied.store;
    version = Two;
    max_frame = 16777216;
    limit = 1000;
    sessions = bytes ∷ [];
    all_complete = complete ∷ [];
    ended = ended.applied.store;
    confirmed = ended.applied.confirmed;
    after = after;
  }

  abbrev pub runs : List (FedRun g Folder (List ℕ))
  runs = run new_files [] begun_1 bytes_1 complete_1 ended_1 l.content_1
      ∷ run l.content_1 (folder_1 l.any l.alone l.untold l.unheard) begun_2 bytes_2 complete_2 ended_2 l.content_2
      ∷ run l.content_2 (folder_3 l.any l.alone l.untold l.unheard) begun_3 bytes_3 complete_3 ended_3 l.content_3 ∷ []

  abbrev Holds : Store g → Tables → Type 0
  Holds = holds_fed g shows may_leave is_clean is_true places has ⊤

  abbrev Records : MemoryFeed → Tables → ℕ → ℕ → Type 0
  Records = RecordsRest shows may_leave is_clean is_true places has

  abbrev Follows : One g → List ℕ → Option Fault → One g → Type 0
  Follows begun bytes answered ended = FollowsSessions Holds fed_position clock begun (bytes ∷ []) ended answered

  abbrev Leaves : One g → List ℕ → One g → Type 0
  Leaves begun bytes ended =
      LeavesHistory Holds fed_position (reopens_fed g shows may_leave is_clean is_true places has ⊤) begun (bytes ∷ []) ended

  -- it was fed this, over stores that hold these tables
  abbrev pub Fed : One g → Tables → List ℕ → One g → Tables → Option Fault → Type 0
  Fed begun tables bytes ended tables' answered =
      AreFed clock (seen fed_position begun tables) (bytes ∷ []) (seen fed_position ended tables') answered

  -- What the contracts of the calls on the store say of it. It isn't said what `follow` does.
  pub record IsLived : Type 0 where
    -- `Store::open_files`: the store holds what is stored in the files
    pub found_1 : HoldsContent over_files new_files begun_1.applied.store.store
    pub found_2 : HoldsContent over_files l.content_1 begun_2.applied.store.store
    pub found_3 : HoldsContent over_files l.content_2 begun_3.applied.store.store
    -- `settle` in run one: the disk failed, and the store has shut. A crash leaves what was stored
    -- before the group, or all of the group.
    pub shut_1 : Serves over_files ended_1.applied.store.store → ⊥
    pub leaves_1 : (db : Trees) → (state over_files l.rows_1_ended).may_leave db → AreOf stored_304 db ⊎ AreOf stored_560 db
    -- `Store::stop`: the crash leaves this content of the files
    pub left_1 : CrashLeaves ended_1.applied.store.store l.content_1
    -- `settle` and `take` in the others: the store holds the rows that the changes make of its own
    pub serves_2 : Serves over_files ended_2.applied.store.store
    pub contains_2 : Contains over_files ended_2.applied.store.store stored_672
    pub serves_3 : Serves over_files ended_3.applied.store.store
    pub contains_3 : Contains over_files ended_3.applied.store.store stored_816
    -- `Store::close_files`
    pub closed_2 : ClosedAs ended_2.applied.store.store l.content_2
    pub closed_3 : ClosedAs ended_3.applied.store.store l.content_3

  -- ---- what the law is to say

  -- the subscriber's position is this LSN, it holds these rows, with what was confirmed, and its
  -- feed leads to them
  pub record Tells (confirmed p : ℕ) (tables : Tables) (s : One g) : Type 0 where
    pub stands : fed_place s ≡ p
    pub held : holds_tables over_files s.applied.store.store tables
    pub stored : NothingBetween history p confirmed
    pub leads : LeadsFrom shows may_leave is_clean is_true places has s.applied.store.ledger tables p

  -- Nothing at the start; after the crash the first transaction alone; then those that came again
  -- and the fourth, and what the keepalive confirmed; the same after the segment has gone; and in
  -- the end all five. In run three the feed begins at the segment that is left.
  pub record IsTold : Type 0 where
    pub first : Tells 0 0 map.empty begun_1
    pub crashed : Tells 304 304 tables_304 begun_2
    pub repeated : Tells 700 672 tables_672 ended_2
    pub retained : Tells 700 672 tables_672 begun_3
    pub last : Tells 816 816 tables_816 ended_3
    pub begins : ended_3.applied.store.ledger.begins ≡ 560

  -- ---- so `follow` did what its contract says

  -- Whatever history the session is of, and whatever tables the store held: these are the ones.
  follows : (begun ended : One g) (bytes : List ℕ) (tables tables' : Tables) (answered : Option Fault)
      → holds_tables over_files begun.applied.store.store tables → Holds ended.applied.store tables'
      → Fed begun tables bytes ended tables' answered → Follows begun bytes answered ended
  follows begun ended bytes tables tables' answered held holds fed history' all_complete ts is sent =
      let same : ts ≡ tables = stored_once ts tables (committed_of over_files begun.applied.store.store.rows) is.0 held in (
        tables',
        holds,
        fed_followed clock history' (bytes ∷ []) all_complete (seen fed_position begun ts) (seen fed_position ended tables') answered sent
            (subst (λ x. Fed begun x bytes ended tables' answered) (sym same) fed),
      )

  -- what is safe of one that was fed it
  pub safe_of : (begun ended : One g) (bytes : List ℕ) (tables ts tables' : Tables) (answered : Option Fault) (history' : List Transaction)
      (all_complete : List (List Sent))
      → holds_tables over_files begun.applied.store.store tables → holds_tables over_files begun.applied.store.store ts
      → IsSent history' (seen fed_position begun ts) (bytes ∷ []) all_complete
      → Fed begun tables bytes ended tables' answered
      → IsSafeFor history' (seen fed_position ended tables')
  safe_of begun ended bytes tables ts tables' answered history' all_complete held is sent fed =
      let same : ts ≡ tables = stored_once ts tables (committed_of over_files begun.applied.store.store.rows) is held in
      (fed_followed clock history' (bytes ∷ []) all_complete (seen fed_position begun ts) (seen fed_position ended tables') answered sent
      (subst (λ x. Fed begun x bytes ended tables' answered) (sym same) fed)).safely.safe

  pub less : (history' : List Transaction) (p c d : ℕ) → c ≤ d → NothingBetween history' p d → NothingBetween history' p c
  less [] p c d low is = tt
  less (tx ∷ txs) p c d low is = ((λ changes by. is.0 changes (omega (arith, low, by))), less txs p c d low is.1)

  -- A store that is opened on what the crash left holds these tables, and its feed goes on.
  left_with : (history' : List Transaction) (ended : One g) (other : Store g) (v : Stored) (reach confirmed : ℕ)
      → reopens_fed g shows may_leave is_clean is_true places has ⊤ ended.applied.store other
      → Store_holds over_files other.store v
      → Records ended.applied.store.ledger v.tables v.position reach
      → tables_as_of history' v.position ≡ Ok v.tables → NothingBetween history' v.position confirmed
      → ended.applied.confirmed ≤ confirmed → fed_place ended ≤ v.position
      → IsLeftSafely Holds fed_position history' ended other
  left_with history' ended other v reach confirmed again now records same stored low up = record {
    tables = v.tables;
    held = (
      now.stored,
      λ so.
          goes_on shows may_leave is_clean is_true places has (λ left. refl) ended.applied.store.ledger other.ledger v.tables
          other.store.position reach other.store.group.reach (again.1 so)
          (subst (λ p. Records ended.applied.store.ledger v.tables p reach) now.position records),
    );
    same = subst (λ p. tables_as_of history' p ≡ Ok v.tables) now.position same;
    position = omega (arith, now.position, up);
    stored = subst (λ p. NothingBetween history' p ended.applied.confirmed) now.position
        (less history' v.position ended.applied.confirmed confirmed low stored);
  }

  -- of one that serves a crash leaves what it holds
  leaves : (begun ended : One g) (bytes : List ℕ) (tables tables' : Tables) (reach : ℕ)
      → holds_tables over_files begun.applied.store.store tables
      → Contains over_files ended.applied.store.store (record { tables = tables'; position = fed_place ended })
      → Records ended.applied.store.ledger tables' (fed_place ended) reach → Fed begun tables bytes ended tables' None
      → Leaves begun bytes ended
  leaves begun ended bytes tables tables' reach held contains records fed history' all_complete ts is sent other again =
      let v : Stored = record { tables = tables'; position = fed_place ended } in
      let safe = safe_of begun ended bytes tables ts tables' None history' all_complete held is.0 sent fed in
      left_with history' ended other v reach ended.applied.confirmed again
      (again.0.opened v (contains.left again.0.db again.0.left)) records safe.same safe.stored (omega arith) (omega arith)

  stands : {P : One g → Type 0} (s : One g) → P s → StandsAsFed fed_position P s
  stands s is = (
    s,
    record { position = refl; confirmed = refl; received = refl; version = refl; limit = refl; replies = refl },
    is,
  )

  -- ---- which is what is asked of a run

  module _ (begun ended : One g) (bytes : List ℕ) (complete : List Sent)
      (new : (tables : Tables) → seen fed_position begun tables ≡ newly tables (fed_place begun) Two 16777216 1000) where
    abbrev Comes : Tables → Type 0
    Comes tables = IsSent history (newly tables (fed_place begun) Two 16777216 1000) (bytes ∷ []) (complete ∷ [])

    fed_up : (answered : Option Fault) → StandsAsFed fed_position (Follows begun bytes answered) ended → (tables : Tables)
        → Holds begun.applied.store tables → Comes tables → fed_place begun ≤ fed_place ended
    fed_up answered =
        followed_up g shows may_leave is_clean is_true places has ⊤ begun ended Two 16777216 1000 new history (bytes ∷ []) (complete ∷ [])
        clock answered

    fed_rows : (answered : Option Fault) → Follows begun bytes answered ended → (tables : Tables) → Holds begun.applied.store tables
        → Comes tables
        → (tables' : Tables) × Holds ended.applied.store tables' × IsSafe history tables' (fed_place ended) ended.applied.confirmed
    fed_rows answered =
        followed_rows g shows may_leave is_clean is_true places has ⊤ begun ended Two 16777216 1000 new history (bytes ∷ [])
        (complete ∷ []) clock answered

    fed_crash : Leaves begun bytes ended → (tables : Tables) → Holds begun.applied.store tables → Comes tables → (other : Store g)
        → reopens_fed g shows may_leave is_clean is_true places has ⊤ ended.applied.store other
        → IsLeftFed g shows may_leave is_clean is_true places has ⊤ history (fed_place ended) ended.applied.confirmed other
    fed_crash =
        followed_crash g shows may_leave is_clean is_true places has ⊤ begun ended Two 16777216 1000 new history (bytes ∷ [])
        (complete ∷ [])

  module _ (lived : IsLived) where
    abbrev pub Holds_1 : Type 0
    Holds_1 = holds_tables over_files begun_1.applied.store.store map.empty

    abbrev pub Holds_2 : Type 0
    Holds_2 = holds_tables over_files begun_2.applied.store.store tables_304

    abbrev pub Holds_3 : Type 0
    Holds_3 = holds_tables over_files begun_3.applied.store.store tables_672

    pub holds_1 : Holds_1
    holds_1 = (lived.found_1.empty new_files_are_empty).stored

    -- the position of the store that was opened is 304, so the crash didn't leave the group
    pub holds_2 : ∥ Holds_2 ∥₁
    holds_2 = ∥∥₁_map (left_is_reopened g over_files ended_1.applied.store.store begun_2.applied.store.store l.content_1 lived.left_1
        lived.found_2) (λ again. elim (lived.leaves_1 again.db again.left) [
          | inl old ↦ (again.opened stored_304 old).stored
          | inr new ↦ absurd (let at = (again.opened stored_560 new).position in omega (arith, at))
        ])

    pub holds_3 : ∥ Holds_3 ∥₁
    holds_3 = ∥∥₁_map (closed_is_reopened g over_files ended_2.applied.store.store begun_3.applied.store.store lived.closed_2.0
        lived.closed_2.2.0 l.content_2 lived.closed_2.1 lived.closed_2.2.1 lived.closed_2.2.2 lived.found_3 stored_672
        lived.contains_2.holds)
        (λ holds. holds.stored)

    -- run one's subscriber, but over a store that serves
    abbrev pub stood_1 : One g
    stood_1 = one l.rows_2 (feed_1_ended l.any l.alone l.untold l.unheard) 0 (taken_10 ∷ []) 304 560 304 384 told_t true false

    -- and as it would be if the store had all that was staged
    abbrev pub all_1 : One g
    all_1 =
        one l.rows_1_ended (feed_1_ended l.any l.alone l.untold l.unheard) 0 (taken_10 ∷ taken_11 ∷ taken_12 ∷ []) 560 560 560 560 told_t
        true false

    why_1 : Holds_2 → StandsAsFed fed_position (Follows begun_1 bytes_1 refused) ended_1
    why_1 held = (
      stood_1,
      record { position = refl; confirmed = refl; received = refl; version = refl; limit = refl; replies = refl },
      follows begun_1 stood_1 bytes_1 map.empty tables_304 refused holds_1 (held, λ _. recorded_1 l.any l.alone l.untold l.unheard) feeds_1,
    )

    crash_1 : Leaves begun_1 bytes_1 ended_1
    crash_1 history' all_complete ts is sent other again = elim (lived.leaves_1 again.0.db again.0.left) [
      | inl old ↦ let safe = safe_of begun_1 ended_1 bytes_1 map.empty ts tables_304 refused history' all_complete holds_1 is.0 sent
          feeds_1 in
          left_with history' ended_1 other stored_304 560 304 again (again.0.opened stored_304 old)
          (recorded_1 l.any l.alone l.untold l.unheard) safe.same
          safe.stored (omega arith) (omega arith)
      | inr new ↦ let safe = safe_of begun_1 all_1 bytes_1 map.empty ts tables_560 (Some fault.Memory) history' all_complete holds_1
          is.0 sent feeds_1_all in
          left_with history' ended_1 other stored_560 560 560 again (again.0.opened stored_560 new)
          (recorded_1_all l.any l.alone l.untold l.unheard) safe.same
          safe.stored (omega arith) (omega arith)
    ]

    followed_2 : Holds_2 → Follows begun_2 bytes_2 None ended_2
    followed_2 held =
        follows begun_2 ended_2 bytes_2 tables_304 tables_672 None held
        (lived.contains_2.holds.stored, λ _. recorded_2 l.any l.alone l.untold l.unheard) feeds_2

    followed_3 : Holds_3 → Follows begun_3 bytes_3 None ended_3
    followed_3 held =
        follows begun_3 ended_3 bytes_3 tables_672 tables_816 None held
        (lived.contains_3.holds.stored, λ _. recorded_3 l.any l.alone l.untold l.unheard) feeds_3

    abbrev AreRuns : Type 0
    AreRuns = AreFedRuns g shows may_leave is_clean is_true places has ⊤ history new_files (λ p folder. places folder ≡ []) 0 runs

    -- they are runs of the history, each over what the one before left
    runs_over : Holds_2 → Holds_3 → AreRuns
    runs_over held_2 held_3 = (
      refl,
      (λ _. refl),
      record {
        found = lived.found_1;
        opened = opened_1 l.any l.alone l.untold l.unheard;
        honest = λ _. honest l.any l.alone l.untold l.unheard ((0, file 0 []) ∷ []) 0 0 [];
        sent = λ tables. ((0, omega arith, inl session_1), tt);
        followed = record {
          up = fed_up begun_1 ended_1 bytes_1 complete_1 (λ tables. refl) refused (why_1 held_2);
          rows = λ serves. absurd (lived.shut_1 serves);
          crash = fed_crash begun_1 ended_1 bytes_1 complete_1 (λ tables. refl) crash_1;
        };
        left = inl lived.left_1;
      },
      (
        refl,
        (λ _. ([], left_1 l.any l.alone l.untold l.unheard)),
        record {
          found = lived.found_2;
          opened = opened_2 l.any l.alone l.untold l.unheard;
          honest = λ _. honest l.any l.alone l.untold l.unheard ((0, file 0 (entry_10 ∷ [])) ∷ []) 0 0 (entry_10 ∷ []);
          sent = λ tables. ((0, omega arith, inl session_2), tt);
          followed = record {
            up = fed_up begun_2 ended_2 bytes_2 complete_2 (λ tables. refl) None (stands ended_2 (followed_2 held_2));
            rows = λ _. fed_rows begun_2 ended_2 bytes_2 complete_2 (λ tables. refl) None (followed_2 held_2);
            crash = fed_crash begun_2 ended_2 bytes_2 complete_2 (λ tables. refl)
                (leaves begun_2 ended_2 bytes_2 tables_304 tables_672 672 held_2 lived.contains_2
                (recorded_2 l.any l.alone l.untold l.unheard) feeds_2);
          };
          left = inr (lived.serves_2, lived.closed_2);
        },
        (
          refl,
          (λ _. (0 ∷ [], left_2 l.any l.alone l.untold l.unheard)),
          record {
            found = lived.found_3;
            opened = opened_3 l.any l.alone l.untold l.unheard;
            honest = λ _. honest l.any l.alone l.untold l.unheard (folder_3 l.any l.alone l.untold l.unheard) 560 560 (entry_13 ∷ []);
            sent = λ tables. ((700, omega arith, inl session_3), tt);
            followed = record {
              up = fed_up begun_3 ended_3 bytes_3 complete_3 (λ tables. refl) None (stands ended_3 (followed_3 held_3));
              rows = λ _. fed_rows begun_3 ended_3 bytes_3 complete_3 (λ tables. refl) None (followed_3 held_3);
              crash = fed_crash begun_3 ended_3 bytes_3 complete_3 (λ tables. refl)
                  (leaves begun_3 ended_3 bytes_3 tables_672 tables_816 816 held_3 lived.contains_3
                  (recorded_3 l.any l.alone l.untold l.unheard) feeds_3);
            };
            left = inr (lived.serves_3, lived.closed_3);
          },
          tt,
        ),
      ),
    )

    pub are_runs : ∥ AreRuns ∥₁
    are_runs = ∥∥₁_elim holds_2 ∥∥₁_prop (λ held_2. ∥∥₁_map holds_3 (λ held_3. runs_over held_2 held_3))

    -- so this is what the law says of them
    pub holds_through : ∥ HoldFedThrough g shows may_leave is_clean is_true places has ⊤ history 0 0 runs ∥₁
    holds_through = ∥∥₁_elim are_runs ∥∥₁_prop (λ are.
        one_fed_life g shows may_leave is_clean is_true places has ⊤ (λ left. refl) history new_files runs is_history
        new_files_are_empty are)

    -- ---- what that says

    tells : (confirmed p : ℕ) (tables : Tables) (s : One g) → fed_place s ≡ p → tables_as_of history p ≡ Ok tables
        → HoldsFed g shows may_leave is_clean is_true places has ⊤ history confirmed s.applied.store → Tells confirmed p tables s
    tells confirmed p tables s at as_of h =
        let same : h.tables ≡ tables =
        only p h.tables tables (subst (λ q. tables_as_of history q ≡ Ok h.tables) at h.same) as_of in
        record {
          stands = at;
          held = subst (holds_tables over_files s.applied.store.store) same h.held;
          stored = subst (λ q. NothingBetween history q confirmed) at h.stored;
          leads = subst (λ ts. LeadsFrom shows may_leave is_clean is_true places has s.applied.store.ledger ts p) same
              (subst (LeadsFrom shows may_leave is_clean is_true places has s.applied.store.ledger h.tables) at (h.leads tt));
        }

    told : ∥ IsTold ∥₁
    told = ∥∥₁_map holds_through (λ through. record {
      first = tells 0 0 map.empty begun_1 refl as_of_0 through.2;
      crashed = tells 304 304 tables_304 begun_2 refl as_of_304 through.4.2;
      repeated = tells 700 672 tables_672 ended_2 refl as_of_672 (through.4.3 lived.serves_2);
      retained = tells 700 672 tables_672 begun_3 refl as_of_672 through.4.4.2;
      last = tells 816 816 tables_816 ended_3 refl as_of_816 (through.4.4.3 lived.serves_3);
      begins = refl;
    })

-- ---- the example

-- These are runs of the history, the first over new files and an empty folder, each other one over
-- what the one before left.
worked_life : {D : Type 0} {g : disk.Ghosts D} (l : Given g) → IsLived l
    → ∥ AreFedRuns g shows may_leave is_clean is_true places has ⊤ history new_files (λ p folder. places folder ≡ []) 0 (runs l) ∥₁
worked_life l lived = are_runs l lived

-- So the law says of them which rows each store holds, at which position, that what was confirmed
-- is stored, and where the feed begins and leads to.
worked_life_holds : {D : Type 0} {g : disk.Ghosts D} (l : Given g) → IsLived l
    → ∥ HoldFedThrough g shows may_leave is_clean is_true places has ⊤ history 0 0 (runs l) ∥₁ × ∥ IsTold l ∥₁
worked_life_holds l lived = (holds_through l lived, told l lived)
