-- What a reader hands on that compares.
use Rattle.std.specs.Prelude.{◌≡◌, ◌≤◌, ◌-◌, ◌⊎◌, ◌++◌, ℕ, List, [], ◌∷◌, length, take, drop}
use Rattle.std.specs.Prelude.{Bool, true, false, Option, Some, None, if◌then◌else◌, nat_le, ◌&&◌}
use Rattle.std.specs.List.{AllByRecursion, flat_map}
use Rattle.pgorder.specs.declared.Version.{Version}
use Rattle.pgrepeats.specs.declared.past.Past.{Past}
use Rattle.pgcompared.specs.declared.compared.Compared.{Compared}
use Rattle.pgcompared.specs.declared.noting.Told.{Told}
use Rattle.pgcompared.specs.declared.finding.Finding.{Finding}
use Rattle.pgcompared.specs.declared.finding.Finding.TheVariants as finding
use Rattle.pgcompared.specs.Live.{IsCompared, spoken}
use Rattle.pgpast.specs.declared.file.NotesFile as notes_file
use Rattle.pgpast.specs.declared.notes.Notes.{Notes}
use Rattle.pgpast.specs.Noting.{IsKept}

-- the bytes from one place to another, where there are such
abbrev pub part_of : List ℕ → ℕ → ℕ → List ℕ
part_of room from to = if nat_le from to && nat_le to (length room) then take (to - from) (drop from room) else []

-- of what was read last: what may be handed on, and what is kept back behind it
abbrev pub ahead_of : List ℕ → ℕ → ℕ → ℕ → List ℕ
ahead_of room from safe len = take (safe - from) (part_of room from len)

abbrev pub behind_of : List ℕ → ℕ → ℕ → ℕ → List ℕ
behind_of room from safe len = drop (safe - from) (part_of room from len)

-- a commit contradicts those before it
abbrev pub contradicts : Option Finding → Bool
contradicts None = false
contradicts (Some (finding.Contradicted at contradiction)) = true
contradicts (Some (finding.Lost at why)) = false

abbrev pub IsAgreed : Told → Type 0
IsAgreed t = contradicts t.found ≡ false

-- these bytes came, in pieces of which the fronts gave this
abbrev pub HasHeard : Version → ℕ → ℕ → Past → ℕ → List ℕ → Compared → List Told → Type 0
HasHeard v limit max past reached all c told = IsCompared v limit max past reached all c (flat_map spoken told)

-- a listener is told what is found
abbrev pub Tells : {L : Type 0} → (L → Finding → L → Type 0) → Option Finding → L → L → Type 0
Tells hears None old new = new ≡ old
Tells hears (Some found) old new = hears old found new

-- What is told of a frame is noted. Once it can't be, the listener is told so, and no more is.
abbrev pub KeepsTold : {F L : Type 0} {g : notes_file.Ghosts F} → (F → List ℕ → Type 0) → (L → L → Type 0) → Told → Notes F g × L
    → Notes F g × L → Type 0
KeepsTold holds loses t old new =
    ((old.0.is_kept ≡ true) × (new.0.is_kept ≡ true)
    × IsKept holds old.0.file old.0.next old.0.newest t.forgot t.noted new.0.file new.0.next new.0.newest × (new.1 ≡ old.1))
    ⊎ ((old.0.is_kept ≡ true) × (new.0.is_kept ≡ false) × loses old.1 new.1)
    ⊎ ((old.0.is_kept ≡ false) × (new ≡ old))

-- all that was told is passed on, and noted
abbrev pub Goes : {F L : Type 0} {g : notes_file.Ghosts F} → (F → List ℕ → Type 0) → (L → Finding → L → Type 0) → (L → L → Type 0)
    → List Told → Notes F g × L → Notes F g × L → Type 0
Goes holds hears loses [] old new = new ≡ old
Goes {F} {L} {g} holds hears loses (t ∷ ts) old new =
    (mid : L) × (next : Notes F g × L) × Tells hears t.found old.1 mid × KeepsTold holds loses t (old.0, mid) next
    × Goes holds hears loses ts next new

-- All that was read is compared and noted, and may be handed on.
abbrev pub IsOpen : {K : Type 0} → List ℕ → Compared → Compared → K → K → Type 0
IsOpen behind before now mid kept = (behind ≡ []) × (now ≡ before) × (kept ≡ mid)

-- It has stopped: what is kept back begins with the bytes that complete the frame of a commit that
-- contradicts those before it. That was told, and the commit isn't noted.
pub record HasStopped {F L : Type 0} {g : notes_file.Ghosts F} (hears : L → Finding → L → Type 0) (v : Version) (limit max : ℕ)
    (past : Past) (reached : ℕ) (stops : Bool) (safe behind : List ℕ) (now : Compared) (well : List Told) (mid kept : Notes F g × L)
    : Type 0 where
  pub asked : stops ≡ true
  pub last : Told
  pub part : List ℕ
  pub rest : List ℕ
  pub some : 1 ≤ length part
  pub parts : behind ≡ part ++ rest
  pub compared : HasHeard v limit max past reached (safe ++ part) now (well ++ last ∷ [])
  pub breaks : contradicts last.found ≡ true
  pub notes_are : kept.0 ≡ mid.0
  pub told : Tells hears last.found mid.1 kept.1

-- These bytes were handed on, these may be next, and these were read and are kept back: the first
-- two are compared, each session from its first byte on, and what was told of them was passed on
-- and noted, from the notes and the listener that were there at first, and up to where commits had
-- come. Where it is asked to stop, no commit of them contradicts those before it.
pub record IsHanded {F L : Type 0} {g : notes_file.Ghosts F} (holds : F → List ℕ → Type 0) (hears : L → Finding → L → Type 0)
    (loses : L → L → Type 0) (v : Version) (limit max : ℕ) (past : Past) (reached : ℕ) (first : Notes F g × L) (stops : Bool)
    (given ahead behind : List ℕ) (now : Compared) (kept : Notes F g × L) : Type 0 where
  pub before : Compared
  pub well : List Told
  pub mid : Notes F g × L
  pub goes : Goes holds hears loses well first mid
  pub compared : HasHeard v limit max past reached (given ++ ahead) before well
  pub agreed : stops ≡ true → AllByRecursion IsAgreed well
  pub state : IsOpen behind before now mid kept
      ⊎ HasStopped hears v limit max past reached stops (given ++ ahead) behind now well mid kept

-- ---- up to where commits had come

-- as the store says, once it was asked
abbrev pub reached_of : Option ℕ → ℕ
reached_of None = 0
reached_of (Some reached) = reached

-- it is asked before any byte comes
abbrev pub IsAskedFirst : Option ℕ → List ℕ → Type 0
IsAskedFirst None bytes = bytes ≡ []
IsAskedFirst (Some reached) bytes = Unit {0}

-- it is asked once
abbrev pub Asks : {P : Type 0} → (P → ℕ → Type 0) → P → Option ℕ → Option ℕ → Type 0
Asks says store None new = (reached : ℕ) × (new ≡ Some reached) × says store reached
Asks says store (Some reached) new = new ≡ Some reached
