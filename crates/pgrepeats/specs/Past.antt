-- What is noted of commits that came, and what is answered of one that comes.
use Rattle.std.specs.Prelude.{◌≡◌, ◌≢◌, ◌≤◌, ◌<◌, ◌+◌, ◌-◌, ◌^◌, ◌⊎◌, ℕ, min, Bool, true, false}
use Rattle.std.specs.Prelude.{Option, Some, None, Result, Ok, Err, if◌then◌else◌, ◌&&◌, ◌==◌}
use Rattle.std.specs.Prelude.{not, nat_lt, length}
use Rattle.pgrepeats.specs.declared.commit.Commit.{Commit}
use Rattle.pgrepeats.specs.declared.fault.Contradiction.{Contradiction}
use Rattle.pgrepeats.specs.declared.fault.Contradiction.TheVariants as contradiction
use Rattle.pgrepeats.specs.declared.fault.Part.{Part}
use Rattle.pgrepeats.specs.declared.fault.Part.TheVariants as part
use Rattle.pgrepeats.specs.declared.fault.Trouble.{Trouble}
use Rattle.pgrepeats.specs.declared.fault.Trouble.TheVariants as trouble
use Rattle.pgrepeats.specs.declared.past.Answer.{Answer}
use Rattle.pgrepeats.specs.declared.past.Answer.TheVariants as answer
use Rattle.pgrepeats.specs.declared.noted.Noted.{Noted}
use Rattle.pgrepeats.specs.declared.past.Past.{Past}
use Rattle.pgrepeats.specs.Rings.{IsLeast, Updates, noted_in}

-- what is noted of the commit that ends there
abbrev pub noted_at : Past → ℕ → Option Noted
noted_at p end = noted_in p.commits end

abbrev pub commit_at : ℕ → Noted → Commit
commit_at end n = record { end = end; lsn = n.lsn; xid = n.xid; time = n.time; digest = n.digest }

-- It is a server's, and changes something: no session that sends what comes before it and what
-- comes behind it leaves it out. FrozenTransactionId, 2, is no transaction's: so the connector
-- marks rows that it puts into a stream.
abbrev pub must_come : Commit → Bool
must_come d = nat_lt 0 d.digest.changes && not (d.xid == 2)

-- between the session's last commit and what comes, one that ends here is left out
abbrev pub IsLeftOut : Option ℕ → ℕ → Type 0
IsLeftOut None end = ⊥
IsLeftOut (Some last) end = last < end

abbrev pub NoneIsLeftOut : Option ℕ → ℕ → Type 0
NoneIsLeftOut None end = Unit {0}
NoneIsLeftOut (Some last) end = end ≤ last

abbrev pub DiffersIn : Part → Commit → Commit → Type 0
DiffersIn part.Lsn c d = c.lsn ≢ d.lsn
DiffersIn part.Xid c d = c.xid ≢ d.xid
DiffersIn part.Time c d = c.time ≢ d.time
DiffersIn part.Changes c d = c.digest ≢ d.digest

-- the commit that ends there was another one, in this part
abbrev pub WasAnother : Past → Commit → Part → Type 0
WasAnother p d x = (n : Noted) × (noted_at p d.end ≡ Some n) × DiffersIn x (commit_at d.end n) d

-- none ended there, though all that change something and ended between these are noted
abbrev pub WasNotThere : Past → Commit → Type 0
WasNotThere p d = (noted_at p d.end ≡ None) × (p.since < d.end) × (d.end ≤ p.newest) × (must_come d ≡ true)

-- the last one that changes something, before this one
abbrev pub IsBefore : Past → Commit → ℕ → Type 0
IsBefore p d end =
    ((n : Noted) × (noted_at p d.end ≡ Some n) × (n.before ≡ end)) ⊎ ((p.newest < d.end) × (p.changed ≡ end))

abbrev pub Contradicts : Past → Commit → Contradiction → Type 0
Contradicts p d (contradiction.Another end part) = (end ≡ d.end) × WasAnother p d part
Contradicts p d (contradiction.Inserted end) = (end ≡ d.end) × WasNotThere p d
Contradicts p d (contradiction.LeftOut end) = IsBefore p d end × IsLeftOut p.last end
Contradicts p d (contradiction.Overlaps lsn end) = (lsn ≡ d.lsn) × (end ≡ p.newest) × (p.newest < d.end) × (d.lsn < p.newest)

-- Where what is noted begins: as before, at one that was noted and that all others are above, or
-- with this one.
abbrev pub Begins : Past → Commit → Past → Type 0
Begins p d new =
    ((new.since ≡ p.since) × (0 < length p.commits))
    ⊎ ((n : Noted) × (noted_at p new.since ≡ Some n) × IsLeast p.commits new.since × (0 < length p.commits))
    ⊎ ((new.since ≡ d.end) × ((k : ℕ) → k ≢ d.end → noted_at new k ≡ None))

-- it came before, just so
pub record IsEqual (p : Past) (d : Commit) (new : Past) : Type 0 where
  pub noted : Noted
  pub was : noted_at p d.end ≡ Some noted
  pub same : commit_at d.end noted ≡ d
  pub none : NoneIsLeftOut p.last noted.before
  pub goes : new ≡ record p { last = Some d.end }

-- Of the others those above where what is noted begins stay, and only where the limit is met, the
-- first one goes. With the connector's rows all go: they take the place of changes of some tables
-- in the commits before them, which a server may send again.
pub record Keeps (p : Past) (d : Commit) (new : Past) : Type 0 where
  pub none_more : (k : ℕ) (n : Noted) → k ≢ d.end → noted_at new k ≡ Some n → noted_at p k ≡ Some n
  pub all_since : (k : ℕ) → new.since < k → k ≤ p.newest → k ≢ d.end → noted_at new k ≡ noted_at p k
  pub first_goes : d.xid ≢ 2 → (k : ℕ) (n : Noted) → k ≢ d.end → noted_at p k ≡ Some n
      → (noted_at new k ≡ Some n) ⊎ ((p.limit ≤ length p.commits) × IsLeast p.commits k)
  pub since_is : Begins p d new

-- it is above all that came, and is noted
pub record IsNew (p : Past) (d : Commit) (new : Past) : Type 0 where
  pub above : p.newest < d.end
  pub apart : p.newest ≤ d.lsn
  pub none : NoneIsLeftOut p.last p.changed
  pub noted : Noted
  pub is : noted_at new d.end ≡ Some noted
  pub same : commit_at d.end noted ≡ d
  pub before : (noted.before ≡ p.changed) ⊎ ((noted.before ≡ 0) × (d.xid ≡ 2))
  pub keeps : Keeps p d new
  pub limit : new.limit ≡ p.limit
  pub bound : 0 < p.limit → length p.commits ≤ p.limit → length new.commits ≤ p.limit
  pub newest : new.newest ≡ d.end
  pub changed : new.changed ≡ (if must_come d then d.end else noted.before)
  pub last : new.last ≡ Some d.end

-- it ends where nothing is known, or it need not have come before
pub record IsUnknown (p : Past) (d : Commit) (new : Past) : Type 0 where
  pub none : noted_at p d.end ≡ None
  pub below : d.end ≤ p.newest
  pub why : (d.end ≤ p.since) ⊎ (must_come d ≡ false)
  pub goes : new ≡ record p { last = Some d.end; unknown = min (p.unknown + 1) (2 ^ 64 - 1) }

abbrev pub Answers : Past → Commit → Past → Result Answer Trouble → Type 0
Answers p d new (Ok answer.New) = IsNew p d new
Answers p d new (Ok answer.Equal) = IsEqual p d new
Answers p d new (Ok answer.Unknown) = IsUnknown p d new
Answers p d new (Err (trouble.Contradicted c)) = Contradicts p d c × (new ≡ p)
Answers p d new (Err trouble.Memory) = Unit {0}

-- nothing is noted
pub record IsFirst (limit : ℕ) (p : Past) : Type 0 where
  pub limit_is : p.limit ≡ limit
  pub none : (k : ℕ) → noted_at p k ≡ None
  pub empty : length p.commits ≡ 0
  pub newest : p.newest ≡ 0
  pub since : p.since ≡ 0
  pub changed : p.changed ≡ 0
  pub last : p.last ≡ None

-- all is forgotten but where the newest commit ended
pub record IsForgotten (p new : Past) : Type 0 where
  pub limit_is : new.limit ≡ p.limit
  pub none : (k : ℕ) → noted_at new k ≡ None
  pub empty : length new.commits ≡ 0
  pub newest : new.newest ≡ p.newest
  pub since : new.since ≡ p.newest
  pub changed : new.changed ≡ 0
  pub last : new.last ≡ None

-- ---- a new commit, step by step

-- the first one goes
pub record IsFirstForgotten (p new : Past) : Type 0 where
  pub end : ℕ
  pub noted : Noted
  pub was : noted_at p end ≡ Some noted
  pub least : IsLeast p.commits end
  pub goes : Updates p.commits new.commits end None
  pub fewer : length new.commits + 1 ≡ length p.commits
  pub since : new.since ≡ end
  pub newest : new.newest ≡ p.newest
  pub changed : new.changed ≡ p.changed
  pub limit : new.limit ≡ p.limit

abbrev pub Forgets : Past → ℕ → Past → Type 0
Forgets p xid new =
    ((xid ≡ 2) × IsForgotten p new)
    ⊎ ((p.limit ≤ length p.commits) × (0 < length p.commits) × IsFirstForgotten p new)
    ⊎ ((xid ≢ 2) × (new ≡ p) × ((length p.commits ≡ 0) ⊎ (length p.commits < p.limit)))

abbrev pub BeginsAt : Past → ℕ → Past → Type 0
BeginsAt p end new =
    ((length p.commits ≡ 0) × (new ≡ record p { since = end })) ⊎ ((0 < length p.commits) × (new ≡ p))

-- what has to be forgotten is
pub record Readies (p : Past) (d : Commit) (new : Past) : Type 0 where
  pub none_more : (k : ℕ) (n : Noted) → noted_at new k ≡ Some n → noted_at p k ≡ Some n
  pub all_since : (k : ℕ) → new.since < k → k ≤ p.newest → noted_at new k ≡ noted_at p k
  pub first_goes : d.xid ≢ 2 → (k : ℕ) (n : Noted) → noted_at p k ≡ Some n
      → (noted_at new k ≡ Some n) ⊎ ((p.limit ≤ length p.commits) × IsLeast p.commits k)
  pub since_is : Begins p d new
  pub before : (new.changed ≡ p.changed) ⊎ ((new.changed ≡ 0) × (d.xid ≡ 2))
  pub limit : new.limit ≡ p.limit
  pub room : 0 < p.limit → length p.commits ≤ p.limit → length new.commits < p.limit

pub record IsNoted (p : Past) (d : Commit) (new : Past) : Type 0 where
  pub noted : Noted
  pub is : noted_at new d.end ≡ Some noted
  pub same : commit_at d.end noted ≡ d
  pub before : noted.before ≡ p.changed
  pub others : (k : ℕ) → k ≢ d.end → noted_at new k ≡ noted_at p k
  pub more : length new.commits ≡ length p.commits + 1
  pub limit : new.limit ≡ p.limit
  pub since : new.since ≡ p.since
  pub newest : new.newest ≡ d.end
  pub changed : new.changed ≡ (if must_come d then d.end else p.changed)
  pub last : new.last ≡ Some d.end

abbrev pub Notes : Past → Commit → Past → Result Answer Trouble → Type 0
Notes p d new (Ok answer.New) = IsNoted p d new
Notes p d new (Ok answer.Equal) = ⊥
Notes p d new (Ok answer.Unknown) = ⊥
Notes p d new (Err (trouble.Contradicted c)) = ⊥
Notes p d new (Err trouble.Memory) = Unit {0}
