-- A store beside a ledger: which rows the entries lead to, and which commits they tell.
-- PostgreSQL documentation, Logical Replication, Subscription.
use Rattle.std.specs.Prelude.{◌≡◌, ◌<◌, ◌++◌, ℕ, List, [], ◌∷◌, Bool, false, None, Ok}
use Rattle.std.specs.List.{AllByRecursion}
use Rattle.pgapply.specs.Value.{Tables}
use Rattle.pgapply.specs.Apply.{Change, fold_changes}
use Rattle.pgapply.specs.Tallies.{TakenCommit, Tally, taken_commit}
use Rattle.pgledger.specs.Entries.{Entry, LeadTo, entry_of}
use Rattle.pgledger.specs.Images.{images}

-- The tally of a store with a ledger: ahead of the commits that were taken stands where the run
-- began, as a commit without changes.
abbrev pub tally_since : ℕ → Tally → Tally
tally_since from t = record { misses = t.misses; commits = record { end = from; about = None; changes = [] } ∷ t.commits }

-- As in `LeadTo` the entries lead from tables to tables, and these are the commits that they tell:
-- each with its end, with what its message told, and with its changes, whose images the entry has.
-- An entry of a commit without changes tells none.
abbrev pub TellTo : Tables → ℕ → List Entry → List TakenCommit → Tables → ℕ → Type 0
TellTo tables at [] commits tables' at' = (commits ≡ []) × (tables' ≡ tables) × (at' ≡ at)
TellTo tables at (e ∷ es) commits tables' at' =
    (at < e.end) × ((changes : List Change) × (e ≡ entry_of e.end e.about e.messages changes (images tables changes))
    × ((rest : List TakenCommit) × (commits ≡ taken_commit e.end e.about changes ++ rest)
    × ((mid : Tables) × (fold_changes tables changes ≡ Ok mid) × TellTo mid e.end es rest tables' at')))

-- Those of the entries that lead up to where a run began, and those since then, which tell the
-- commits of the run.
pub record TellsSince (base : Tables) (begins : ℕ) (told : List Entry) (from : ℕ) (commits : List TakenCommit) (tables : Tables)
    (place : ℕ) : Type 0 where
  pub before : List Entry
  pub since : List Entry
  pub are : told ≡ before ++ since
  pub mid : Tables
  pub leads : LeadTo base begins before mid from
  pub tells : TellTo mid from since commits tables place

module _ {L : Type 0} (begins : L → ℕ) (keeps : L → List Entry → Type 0) (outlasts : L → ℕ → Type 0) (is_stuck : L → Bool) where
  -- From some tables where the ledger begins its entries lead to these at the position, and outlast
  -- a crash. After them come those of commits alone that are staged, and none where none is staged,
  -- unless the ledger is stuck.
  pub record Records (l : L) (tables : Tables) (place reach : ℕ) : Type 0 where
    pub base : Tables
    pub told : List Entry
    pub later : List Entry
    pub kept : keeps l (told ++ later)
    pub leads : LeadTo base (begins l) told tables place
    pub lasting : outlasts l place
    pub above : AllByRecursion (λ (e : Entry). place < e.end) later
    pub none : is_stuck l ≡ false → reach ≡ place → later ≡ []

  -- all of its entries lead to the tables that are staged
  pub record Stages (l : L) (tables : Tables) (reach : ℕ) : Type 0 where
    pub base : Tables
    pub told : List Entry
    pub kept : keeps l told
    pub leads : LeadTo base (begins l) told tables reach

  -- and those since a run began tell its commits
  pub record RecordsSince (l : L) (from : ℕ) (commits : List TakenCommit) (tables : Tables) (place reach : ℕ) : Type 0 where
    pub records : Records l tables place reach
    pub since : TellsSince records.base (begins l) records.told from commits tables place

  pub record StagesSince (l : L) (from : ℕ) (commits : List TakenCommit) (tables : Tables) (reach : ℕ) : Type 0 where
    pub stages : Stages l tables reach
    pub since : TellsSince stages.base (begins l) stages.told from commits tables reach

  -- What is staged: unless the ledger is stuck, its entries lead to these tables, and tell the
  -- commits that are taken with those that are staged. Where nothing is staged, they are those that
  -- are held.
  pub record Plans (l : L) (from : ℕ) (commits staged_commits : List TakenCommit) (tables : Tables) (place reach : ℕ) : Type 0 where
    pub held : reach ≡ place → RecordsSince l from commits tables place reach
    pub staged : is_stuck l ≡ false → StagesSince l from staged_commits tables reach
