-- What a run's feed got in it are the history's transactions, as the run ends and as the next one
-- begins.
use Rattle.std.proofs.Common.{◌≡◌, ◌<◌, ◌≤◌, ◌++◌, ◌∷◌, [], ℕ, List, Bool, Ok, max, refl, sym, ap}
use Rattle.std.proofs.Common.{arith, subst, ◌∙◌, append_assoc, append-nil, inl, inr}
use Rattle.std.proofs.Math.Logic.{∥∥₁_elim, ∥∥₁_map, ∥∥₁_prop}
use Rattle.std.proofs.lemmas.Bool.{cases_lt}
use Rattle.std.specs.Prelude.{⊤}
use Rattle.std.specs.List.{AllByRecursion}
use Rattle.std.specs.FinMap as map
use Rattle.sqlite_disk.specs.declared.Disk as disk
use Rattle.sqlite.specs.Files.{over_files}
use Rattle.sqlite.specs.Recovery.{Image}
use Rattle.pgapply.specs.Tallies.{Tally, nothing_taken}
use Rattle.pgapply.specs.Value.{Tables}
use Rattle.pgledger.specs.Entries.{Entry, LeadTo, last_end}
use Rattle.pgledger.specs.Records.{TellTo, tally_since}
use Rattle.pgfeed.specs.declared.feed.Feed.{Feed}
use Rattle.pgfeed.specs.Beside.{KeepsRest, LastsFrom, RecordsRest, is_stuck_feed, told_from}
use Rattle.pgfeed.specs.Feeds.{IsHonestFeed, KeepsAll, OpensIn, ReopensAt}
use Rattle.pgfeed.specs.Cutting.Beside.{cut_ledger, split_at}
use Rattle.pgfeed.specs.Cutting.Kept.{end_append, entries_front}
use Rattle.pgfeed.proofs.Beside as beside
use Rattle.pgstore.specs.StoreValue.{Serves}
use Rattle.pgstore.specs.Reopened.{HoldsContent}
use Rattle.pgsub_core.specs.Server.History.{IsHistory, Transaction, tables_as_of}
use Rattle.pgsub_core.specs.Subscriber.Safely.{IsSent}
use Rattle.pgsub_core.specs.Subscriber.Tallied.{ended_between, history_tallied, taken_of}
use Rattle.pgrecovery.specs.Entries.{TellsHistory}
use Rattle.pgrecovery.specs.Recovered.{holds_tables}
use Rattle.pgrecovery.specs.FedLife.{AreFedRuns, FedRun, FedStore, IsLeftBy, fed_newly}
use Rattle.pgrecovery.specs.FedLife.{fed_position, holds_fed}
use Rattle.pgrecovery.specs.ToldLife.{IsToldRun, OneToldLife, TellThrough, TellsThere, fed_tally}
use Rattle.pgrecovery.specs.ToldLife.{holds_told}
use Rattle.pgrecovery.proofs.Entries.{entries_are_transactions}
use Rattle.pgrecovery.proofs.Life.{nothing_yet}
use Rattle.pgrecovery.proofs.FedLife.{Ready, again, begins, went}
use Rattle.pgrecovery.proofs.ToldEntries.{cut_since, entries_above, lead_end, lead_entries}
use Rattle.pgrecovery.proofs.ToldEntries.{leads_behind, none_between, tell_end, tell_entries}
use Rattle.pgrecovery.proofs.ToldEntries.{transactions_behind}

all_append : {A : Type 0} (P : A → Type 0) (xs ys : List A) → AllByRecursion P xs → AllByRecursion P ys → AllByRecursion P (xs ++ ys)
all_append P [] ys some more = more
all_append P (x ∷ xs) ys some more = (some.0, all_append P xs ys some.1 more)

-- entries above an LSN are above a lower one
above_less : (p q : ℕ) (es : List Entry) → p ≤ q → AllByRecursion (λ (e : Entry). q < e.end) es
    → AllByRecursion (λ (e : Entry). p < e.end) es
above_less p q [] low all = tt
above_less p q (e ∷ es) low all = (let up : q < e.end = all.0 in omega arith, above_less p q es low all.1)

module _ {F E : Type 0} (shows : E → List ℕ) (may_leave : E → List ℕ → Type 0) (is_clean : E → Bool) (is_true : F → Type 0)
    (places : F → List ℕ) (has : F → ℕ → List ℕ → Type 0) where
  abbrev All : Feed F E → List Entry → Type 0
  All = KeepsAll shows may_leave is_clean is_true places has

  abbrev Rest : Feed F E → List Entry → Type 0
  Rest = KeepsRest shows may_leave is_clean is_true places has

  abbrev Lasts_from : Feed F E → ℕ → Type 0
  Lasts_from = LastsFrom shows may_leave is_clean is_true places has

  abbrev Tells : Feed F E → List Transaction → ℕ → ℕ → Tables → Type 0
  Tells l history from place tables = TellsHistory told_from Rest Lasts_from is_stuck_feed l history from place tables

  abbrev There : Feed F E → List Transaction → ℕ → ℕ → Type 0
  There = TellsThere shows may_leave is_clean is_true places has

  -- the entries up to the place end there
  told_end : (l : Feed F E) (history : List Transaction) (from place : ℕ) (tables : Tables)
      → (t : Tells l history from place tables)
      → last_end 0 (t.before ++ t.since) ≡ place
  told_end l history from place tables t =
      end_append 0 t.before t.since ∙ ap (λ p. last_end p t.since) (lead_end t.before t.base 0 t.mid from t.leads)
      ∙ tell_end t.since t.mid from (taken_of (ended_between from place history)) tables place t.tells

  -- ---- of these entries the feed has the last ones

  module _ (l : Feed F E) (history : List Transaction) (from place : ℕ) (tables : Tables)
      (same : tables_as_of history place ≡ Ok tables) (low : from ≤ place) (starts : l.begins ≤ place)
      (t : Tells l history from place tables) where
    -- those before the LSN too
    more_there : l.begins ≤ from → There l history from place
    more_there starts_low =
        let k = t.kept in
        let high : AllByRecursion (λ (e : Entry). from < e.end) (t.since ++ t.later) =
        all_append (λ (e : Entry). from < e.end) t.since t.later
        (entries_above from t.since (tell_entries t.since t.mid from (taken_of (ended_between from place history)) tables place t.tells))
        (above_less from place t.later low t.above) in
        let split = split_at 0 from k.gone k.stay t.before (t.since ++ t.later)
        (sym (append_assoc t.before t.since t.later) ∙ k.is) (omega (arith, k.begins_is, starts_low))
        (lead_end t.before t.base 0 t.mid from t.leads) high in
        let front : List Entry = split.0 in
        let leads = leads_behind k.gone front t.base 0 t.mid from (subst (λ es. LeadTo t.base 0 es t.mid from) split.1 t.leads) in
        let at : from ≡ max from l.begins = omega (arith, starts_low) in
        record {
          tables = tables;
          same = same;
          base = leads.0;
          mid = t.mid;
          before = front;
          since = t.since;
          later = t.later;
          kept = subst (All l) split.2 k.kept;
          leads = subst (λ p. LeadTo leads.0 l.begins front t.mid p) at
              (subst (λ p. LeadTo leads.0 p front t.mid from) (sym k.begins_is) leads.1);
          tells = subst (λ p. TellTo t.mid p t.since (taken_of (ended_between p place history)) tables place) at t.tells;
          above = t.above;
        }

    -- only some of those behind it
    less_there : from < l.begins → There l history from place
    less_there starts_high =
        let k = t.kept in
        let cs = taken_of (ended_between from place history) in
        let cut = cut_since t.before t.since t.later k.gone k.stay from l.begins place
        (lead_entries t.before t.base 0 t.mid from t.leads) (lead_end t.before t.base 0 t.mid from t.leads)
        (tell_entries t.since t.mid from cs tables place t.tells) (tell_end t.since t.mid from cs tables place t.tells) t.above k.is
        (sym k.begins_is) (omega (arith, starts_high)) starts in
        let tells : TellTo t.mid from (cut.gone ++ cut.here) cs tables place =
        subst (λ es. TellTo t.mid from es cs tables place) cut.since_is t.tells in
        let it = transactions_behind history cut.gone cut.here t.mid from l.begins tables place
        (entries_front from cut.gone cut.here (tell_entries (cut.gone ++ cut.here) t.mid from cs tables place tells)) cut.ends tells in
        let at : l.begins ≡ max from l.begins = omega (arith, starts_high) in
        record {
          tables = tables;
          same = same;
          base = it.0;
          mid = it.0;
          before = [];
          since = cut.here;
          later = t.later;
          kept = subst (All l) cut.stay_is k.kept;
          leads = (refl {a = it.0}, sym at);
          tells = subst (λ p. TellTo it.0 p cut.here (taken_of (ended_between p place history)) tables place) at it.1;
          above = t.above;
        }

    there : There l history from place
    there = elim (cases_lt from l.begins) [ inl some ↦ less_there some | inr all ↦ more_there all ]

  -- where nothing was taken, they tell nothing more
  tells_none : (l : Feed F E) (history : List Transaction) (place reach : ℕ) (tables : Tables)
      → RecordsRest shows may_leave is_clean is_true places has l tables place reach → Tells l history place place tables
  tells_none l history place reach tables r = record {
    base = r.base;
    before = r.told;
    since = [];
    later = r.later;
    kept = subst (λ es. Rest l (es ++ r.later)) (sym (append-nil r.told)) r.kept;
    mid = tables;
    leads = r.leads;
    tells = (ap taken_of (none_between place history), refl, refl);
    above = r.above;
  }

  -- Opened again at the place, it has the same, and what was later is gone.
  opened_again : ((d : E) → may_leave d (shows d)) → (l other : Feed F E) (history : List Transaction) (from place : ℕ) (tables : Tables)
      → ReopensAt shows may_leave is_clean is_true places has l place other → Lasts_from l place → Tells l history from place tables
      → Lasts_from other place × Tells other history from place tables
  opened_again may_stay l other history from place tables opened lasting t =
      let told : List Entry = t.before ++ t.since in
      let cut = cut_ledger shows may_leave is_clean is_true places has may_stay l other place told t.later opened t.kept
      (told_end l history from place tables t) lasting t.above in (
        cut.2,
        record {
          base = t.base;
          before = t.before;
          since = t.since;
          later = [];
          kept = subst (Rest other) (sym (append-nil told)) cut.0;
          mid = t.mid;
          leads = t.leads;
          tells = t.tells;
          above = tt;
        },
      )

module _ {D F E : Type 0} (g : disk.Ghosts D) (shows : E → List ℕ) (may_leave : E → List ℕ → Type 0) (is_clean : E → Bool)
    (is_true : F → Type 0) (places : F → List ℕ) (has : F → ℕ → List ℕ → Type 0) (supposed : Type 0) where
  -- what a run's feed got in it, as the run ends
  record Took (history : List Transaction) (r : FedRun g F E) : Type 0 where
    pub tables : Tables
    pub held : holds_tables over_files r.ended.store tables
    pub same : tables_as_of history (fed_position r.ended) ≡ Ok tables
    pub lasting : supposed → Lasts_from shows may_leave is_clean is_true places has r.ended.ledger (fed_position r.ended)
    pub told : supposed → Tells shows may_leave is_clean is_true places has r.ended.ledger history (fed_position r.begun)
        (fed_position r.ended) tables

  abbrev Is_left : FedRun g F E → ℕ → F → Type 0
  Is_left r = IsLeftBy g shows may_leave is_clean is_true places has supposed r.ended.ledger

  -- whatever store is opened on the content at the position, with a feed in the folder that is
  -- left, has it, if the one before served
  abbrev ReadyTold : List Transaction → Type 0 → ℕ → ℕ → Image → (ℕ → F → Type 0) → Type 0
  ReadyTold history served from position content is_left =
      (s : FedStore g F E) (folder : F) → HoldsContent over_files content s.store
      → OpensIn shows may_leave is_clean is_true places has folder s.store.position s.ledger
      → (supposed → IsHonestFeed shows may_leave is_clean is_true places has s.ledger) → (supposed → is_left s.store.position folder)
      → served → s.store.position ≡ position → supposed
      → There shows may_leave is_clean is_true places has s.ledger history from position

  -- the run begins with what the feed records
  pub begun_holds : (s : FedStore g F E) (tables : Tables) → s.from ≡ fed_position s → s.store.group.tally ≡ nothing_taken
      → holds_fed g shows may_leave is_clean is_true places has supposed s tables
      → holds_told g shows may_leave is_clean is_true places has supposed s tables
  begun_holds s tables from untaken held = (
    held.0,
    λ so.
        let old = held.1 so in
        record {
          records = old;
          since = record {
            before = old.told;
            since = [];
            are = sym (append-nil old.told);
            mid = tables;
            leads = subst (λ p. LeadTo old.base 0 old.told tables p) (sym from) old.leads;
            tells = (ap (λ (t : Tally). t.commits) untaken, refl, sym from);
          };
        },
  )

  took : (history : List Transaction) (r : FedRun g F E) (tables : Tables) → IsHistory history
      → IsToldRun g shows may_leave is_clean is_true places has supposed history r → fed_position r.begun ≤ fed_position r.ended
      → tables_as_of history (fed_position r.begun) ≡ Ok tables
      → holds_told g shows may_leave is_clean is_true places has supposed r.begun tables
      → IsSent history (fed_newly r tables) r.sessions r.all_complete
      → Serves over_files r.ended.store → Took history r
  took history r tables is told up at holds sent serves =
      let now = told.safe serves tables holds sent in
      let counts = told.tallied serves tables holds sent in
      let begun : fed_tally r.begun ≡ tally_since (fed_position r.begun) nothing_taken =
      ap (λ p. tally_since p r.begun.store.group.tally) told.from
      ∙ ap (tally_since (fed_position r.begun)) told.untaken in
      let tally = counts ∙ ap (history_tallied history (fed_position r.begun) (fed_position r.ended)) begun in
      let same : tables_as_of history (fed_position r.ended) ≡ Ok now.0 = now.2.same in
      record {
        tables = now.0;
        held = now.1.0;
        same = same;
        lasting = λ so. (now.1.1 so).records.lasting;
        told = λ so.
            entries_are_transactions told_from (Rest shows may_leave is_clean is_true places has)
            (Lasts_from shows may_leave is_clean is_true places has) is_stuck_feed history r.ended.ledger (fed_position r.begun)
            r.ended.from (fed_position r.ended) r.ended.store.group.reach
            r.ended.store.group.tally tables now.0 is up at same tally (now.1.1 so);
      }

  module _ (may_stay : (d : E) → may_leave d (shows d)) where
    -- as the feed is opened again at the position at which the run ended
    next : (history : List Transaction) (r : FedRun g F E) → fed_position r.begun ≤ fed_position r.ended
        → (Serves over_files r.ended.store → Took history r)
        → ReadyTold history (Serves over_files r.ended.store) (fed_position r.begun) (fed_position r.ended) r.after (Is_left r)
    next history r up took s folder found opens honest left serves at so =
        let was = took serves in
        let l = r.ended.ledger in
        let again_at = again g shows may_leave is_clean is_true places has supposed l s.ledger s.store.position folder (left so) opens
        (honest so) in
        let it = opened_again shows may_leave is_clean is_true places has may_stay l s.ledger history (fed_position r.begun)
        (fed_position r.ended) was.tables
        (subst (λ p. ReopensAt shows may_leave is_clean is_true places has l p s.ledger) at again_at) (was.lasting so) (was.told so) in
        there shows may_leave is_clean is_true places has s.ledger history (fed_position r.begun) (fed_position r.ended) was.tables was.same
        up it.0.0 it.1

    through : (history : List Transaction) → IsHistory history → (position confirmed : ℕ) (content : Image) (is_left : ℕ → F → Type 0)
        (runs : List (FedRun g F E)) (served : Type 0) (from : ℕ)
        → Ready g shows may_leave is_clean is_true places has supposed history position confirmed content is_left
        → ReadyTold history served from position content is_left
        → AreFedRuns g shows may_leave is_clean is_true places has supposed history content is_left confirmed runs
        → AllByRecursion (IsToldRun g shows may_leave is_clean is_true places has supposed history) runs
        → ∥ TellThrough g shows may_leave is_clean is_true places has supposed history served from position runs ∥₁
    through history is position confirmed content is_left [] served from ready told_ready are told = ∣ tt ∣₁
    through history is position confirmed content is_left (r ∷ runs) served from ready told_ready are told =
        let run = are.2 in
        let found = subst (λ c. HoldsContent over_files c r.begun.store) are.0 run.found in
        ∥∥₁_elim (ready r.begun r.folder found run.opened run.honest are.1) ∥∥₁_prop (λ once.
        let w = went g shows may_leave is_clean is_true places has supposed may_stay history position confirmed r is run once in
        let sent : IsSent history (fed_newly r once.tables) r.sessions r.all_complete =
        (once.goes_on r.version r.max_frame r.limit r.sessions r.all_complete (run.sent once.tables)).0 in
        let holds = begun_holds r.begun once.tables told.0.from told.0.untaken once.held in
        let was = took history r once.tables is told.0 w.up once.same holds sent in
        ∥∥₁_map (through history is (fed_position r.ended) (max confirmed r.confirmed) r.after (Is_left r) runs
        (Serves over_files r.ended.store) (fed_position r.begun) w.next (next history r w.up was) are.3 told.1)
        (λ more. (
          told_ready r.begun r.folder found run.opened run.honest are.1,
          (λ serves so.
              let it = was serves in
              there shows may_leave is_clean is_true places has r.ended.ledger history (fed_position r.begun) (fed_position r.ended)
              it.tables it.same w.up (it.lasting so).0 (it.told so)),
          more,
        )))

    begins_told : (history : List Transaction) (content : Image) → IsHistory history
        → ReadyTold history ⊤ 0 0 content (λ p folder. places folder ≡ [])
    begins_told history content is s folder found opens honest none _ at so =
        let records = beside.begins_with shows may_leave is_clean is_true places has folder s.ledger map.empty s.store.position
        s.store.group.reach opens (honest so) (none so) in
        let here : RecordsRest shows may_leave is_clean is_true places has s.ledger map.empty 0 s.store.group.reach =
        subst (λ p. RecordsRest shows may_leave is_clean is_true places has s.ledger map.empty p s.store.group.reach) at records in
        there shows may_leave is_clean is_true places has s.ledger history 0 0 map.empty (nothing_yet history is) (omega arith)
        here.lasting.0 (tells_none shows may_leave is_clean is_true places has s.ledger history 0 s.store.group.reach map.empty here)

    pub one_told_life : OneToldLife g shows may_leave is_clean is_true places has supposed
    one_told_life history content runs is empty are told =
        through history is 0 0 content (λ p folder. places folder ≡ []) runs ⊤ 0
        (begins g shows may_leave is_clean is_true places has supposed may_stay history content is empty)
        (begins_told history content is) are told
