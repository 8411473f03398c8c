-- What a reader hands on that watches.
use Rattle.std.specs.Prelude.{◌≡◌, ◌≤◌, ◌⊎◌, ℕ, List, [], ◌∷◌, ◌++◌, length, Bool, true, None}
use Rattle.std.specs.Prelude.{is_some}
use Rattle.std.specs.List.{AllByRecursion}
use Rattle.pgorder.specs.declared.Version.{Version}
use Rattle.pgrules.specs.declared.findings.Findings.{Findings}
use Rattle.pgrules.specs.declared.live.LiveWatch.{LiveWatch}
use Rattle.pgrules.specs.Live.{IsWatched}
use Rattle.pgrules.specs.Rules.{broken_rule}

-- no rule is broken with it
abbrev pub IsUnbroken : Findings → Type 0
IsUnbroken f = broken_rule f.end ≡ None

-- a listener heard these, one after the other
abbrev pub HearsAll : {L : Type 0} → (L → Findings → L → Type 0) → L → List Findings → L → Type 0
HearsAll hears old [] new = new ≡ old
HearsAll hears old (f ∷ fs) new = (mid : _) × hears old f mid × HearsAll hears mid fs new

-- All that was read is watched, and may be handed on.
abbrev pub IsOpen : List ℕ → LiveWatch → LiveWatch → List Findings → List Findings → Type 0
IsOpen behind before now well told = (behind ≡ []) × (now ≡ before) × (told ≡ well)

-- It has stopped: what is kept back begins with the bytes that complete the frame that breaks a
-- rule, and this was told too.
pub record HasStopped (v : Version) (limit max : ℕ) (stops : Bool) (safe behind : List ℕ) (now : LiveWatch) (well told : List Findings)
    : Type 0 where
  pub asked : stops ≡ true
  pub found : Findings
  pub part : List ℕ
  pub rest : List ℕ
  pub some : 1 ≤ length part
  pub parts : behind ≡ part ++ rest
  pub watched : IsWatched v limit max (safe ++ part) now (well ++ found ∷ [])
  pub told_is : told ≡ well ++ found ∷ []
  pub breaks : is_some (broken_rule found.end) ≡ true

-- These bytes were handed on, these may be next, and these were read and are kept back: the first
-- two are watched, each session from its first byte on, and the listener heard what is found of
-- them. Where it is asked to stop, none of that breaks a rule.
pub record IsGuarded {L : Type 0} (hears : L → Findings → L → Type 0) (v : Version) (limit max : ℕ) (first : L) (stops : Bool)
    (given ahead behind : List ℕ) (now : LiveWatch) (listener : L) : Type 0 where
  pub told : List Findings
  pub heard : HearsAll hears first told listener
  pub before : LiveWatch
  pub well : List Findings
  pub watched : IsWatched v limit max (given ++ ahead) before well
  pub unbroken : stops ≡ true → AllByRecursion IsUnbroken well
  pub state : IsOpen behind before now well told ⊎ HasStopped v limit max stops (given ++ ahead) behind now well told
