-- What an answer means: no commit of a well-formed server is contradicted by those of the same
-- history that it sent before. `docs/PROTOCOL.md`, "What a well-formed server is".
use Rattle.std.specs.Prelude.{◌≡◌, ◌≤◌, ◌<◌, ◌⊎◌, ℕ, List, [], ◌∷◌, true, None, Some, Ok, length}
use Rattle.pgrepeats.specs.declared.commit.Commit.{Commit}
use Rattle.pgrepeats.specs.declared.fault.Contradiction.{Contradiction}
use Rattle.pgrepeats.specs.declared.past.Answer.{Answer}
use Rattle.pgrepeats.specs.declared.noted.Noted.{Noted}
use Rattle.pgrepeats.specs.declared.past.Past.{Past}
use Rattle.pgrepeats.specs.Past.{noted_at, commit_at, must_come, Answers, Contradicts, IsFirst}
use Rattle.pgrepeats.specs.Past.{IsForgotten}

-- in commit order, each behind the one before it
abbrev pub IsHistory : ℕ → List Commit → Type 0
IsHistory from [] = Unit {0}
IsHistory from (c ∷ cs) = (from ≤ c.lsn) × (c.lsn < c.end) × IsHistory c.end cs

abbrev pub IsOf : List Commit → Commit → Type 0
IsOf [] d = ⊥
IsOf (c ∷ cs) d = (c ≡ d) ⊎ IsOf cs d

-- A session that has come so far sends this next: it leaves out none that must come.
pub record IsNext (history : List Commit) (at : ℕ) (d : Commit) : Type 0 where
  pub is : IsOf history d
  pub above : at < d.end
  pub none : (c : Commit) → IsOf history c → must_come c ≡ true → at < c.end → c.end < d.end → ⊥

-- all that must come and ends at or below a place has come
abbrev pub HasComeTo : List Commit → Past → ℕ → Type 0
HasComeTo history p at =
    0 < length p.commits → (c : Commit) → IsOf history c → must_come c ≡ true → p.newest < c.end → at < c.end

-- where one of them ends that must come, or none
abbrev pub EndsOne : List Commit → ℕ → Type 0
EndsOne history end = (end ≡ 0) ⊎ ((c : Commit) × IsOf history c × (must_come c ≡ true) × (c.end ≡ end))

-- the newest noted commits are those of this history, and the session has come so far
pub record IsPastOf (history : List Commit) (p : Past) (at : ℕ) : Type 0 where
  pub noted : (k : ℕ) (n : Noted) → noted_at p k ≡ Some n
      → IsOf history (commit_at k n) × (p.since ≤ k) × (k ≤ p.newest) × EndsOne history n.before × (n.before < k)
  pub whole : (c : Commit) → IsOf history c → must_come c ≡ true → p.since < c.end → c.end ≤ p.newest → noted_at p c.end ≡ None → ⊥
  pub changed : EndsOne history p.changed × (p.changed ≤ p.newest)
  pub newest : (p.newest ≡ 0) ⊎ ((c : Commit) × IsOf history c × (c.end ≡ p.newest))
  pub since : p.since ≤ p.newest
  pub ahead : HasComeTo history p at
  pub last : (l : ℕ) → p.last ≡ Some l → (l ≤ at)
      × ((c : Commit) → IsOf history c → must_come c ≡ true → l < c.end → c.end ≤ at → ⊥)

-- no commit that a session of the same history sends is contradicted
abbrev pub HistoriesAreNotContradicted : Type 0
HistoriesAreNotContradicted =
    (history : List Commit) (p : Past) (at : ℕ) (d : Commit) (x : Contradiction) → IsHistory 0 history → IsPastOf history p at
    → IsNext history at d → Contradicts p d x → ⊥

-- and with each that is answered, what is noted stays that of the history
abbrev pub AnswersKeepThePast : Type 0
AnswersKeepThePast =
    (history : List Commit) (p new : Past) (at : ℕ) (d : Commit) (a : Answer) → IsHistory 0 history → IsPastOf history p at
    → IsNext history at d → Answers p d new (Ok a) → IsPastOf history new d.end

-- so it is at first and after all is forgotten, wherever a session starts; and where the next one
-- starts at most where all has come
abbrev pub SessionsKeepThePast : Type 0
SessionsKeepThePast =
    ((history : List Commit) (limit start : ℕ) (p : Past) → IsFirst limit p → IsPastOf history p start)
    × ((history : List Commit) (p new : Past) (at start : ℕ) → IsPastOf history p at → IsForgotten p new → IsPastOf history new start)
    × ((history : List Commit) (p : Past) (at start : ℕ) → IsPastOf history p at → HasComeTo history p start
    → IsPastOf history (record p { last = None }) start)
