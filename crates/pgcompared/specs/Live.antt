-- PostgreSQL documentation, Streaming Replication Protocol, START_REPLICATION: what is answered to
-- sessions that come one after the other, in any pieces.
use Rattle.std.specs.Prelude.{◌≡◌, ◌≢◌, ◌+◌, ◌⊎◌, ℕ, List, [], ◌∷◌, ◌++◌, length, Bool, true, false}
use Rattle.std.specs.Prelude.{Option, None}
use Rattle.pgwire.specs.declared.fault.WireFault.{WireFault}
use Rattle.pgwire.specs.declared.fault.WireFault.TheVariants as wire_fault
use Rattle.pgwire.specs.Deframed.{Deframed, Stands, Waits, IsReleased, fresh}
use Rattle.pgwire.specs.Frames as wire
use Rattle.pgorder.specs.declared.Version.{Version}
use Rattle.pgrepeats.specs.declared.commit.Commit.{Commit}
use Rattle.pgrepeats.specs.declared.past.Past.{Past}
use Rattle.pgcompared.specs.declared.compared.Compared.{Compared}
use Rattle.pgcompared.specs.declared.finding.Finding.{Finding}
use Rattle.pgcompared.specs.declared.finding.Lost.TheVariants as lost
use Rattle.pgcompared.specs.declared.hearing.Hearing.{Hearing}
use Rattle.pgcompared.specs.declared.noting.Told.{Told}
use Rattle.pgcompared.specs.Frames.{Takes, lost_at}
use Rattle.pgcompared.specs.Noting.{noting_from, told_nothing}
use Rattle.pgcompared.specs.Sessions.{at_start}

-- a frame, and what was told of it
pub record Step : Type 0 where
  pub frame : wire.Frame
  pub told : Told

-- before the first frame, with these commits noted, up to where others came
abbrev pub first_hearing : Version → ℕ → Past → ℕ → Hearing
first_hearing v limit past reached = record {
  version = v;
  limit = limit;
  session = at_start v limit;
  noting = noting_from past reached 0;
  at = 0;
  lost = false;
}

-- the frames, the last one first, were heard one after the other
abbrev pub Leads : Version → ℕ → ℕ → Past → ℕ → List Step → Hearing → Type 0
Leads v limit max past reached [] h = h ≡ first_hearing v limit past reached
Leads v limit max past reached (x ∷ xs) h =
    (before : Hearing) × Leads v limit max past reached xs before × wire.IsAllowed max x.frame
    × Takes before x.frame (before.at + length (wire.frame x.frame)) h x.told

abbrev pub bytes_of : List Step → List ℕ
bytes_of [] = []
bytes_of (x ∷ xs) = bytes_of xs ++ wire.frame x.frame

-- what is told that says something
abbrev pub speaking : Bool → Option Commit → Option Finding → List Told
speaking false None None = []
speaking forgot noted found = record { forgot = forgot; noted = noted; found = found } ∷ []

abbrev pub spoken : Told → List Told
spoken t = speaking t.forgot t.noted t.found

abbrev pub told_of : List Step → List Told
told_of [] = []
told_of (x ∷ xs) = told_of xs ++ spoken x.told

-- behind the frames, less than a whole one is held
pub record IsGoing (max : ℕ) (all : List ℕ) (steps : List Step) (d : Deframed) (at came : ℕ) : Type 0 where
  pub whole : all ≡ bytes_of steps ++ d.held
  pub partial : wire.IsPartial max d.held
  pub first : d.done ≡ false
  pub sound : d.fault ≡ None
  pub came_is : came ≡ at + length d.held

-- what is told where frames can't be told apart
abbrev pub told_deaf : Bool → ℕ → WireFault → Told
told_deaf true at fault = told_nothing false
told_deaf false at fault = lost_at at (lost.Unframed fault)

-- what came behind the frames isn't the beginning of one, or there was no memory for it
pub record IsDeaf (max : ℕ) (all : List ℕ) (steps : List Step) (h : Hearing) (told : List Told) : Type 0 where
  pub front : List ℕ
  pub rest : List ℕ
  pub whole : all ≡ bytes_of steps ++ front ++ rest
  pub fault : WireFault
  pub is : fault ≢ wire_fault.Memory → wire.IsFramingFault max false front fault
  pub told_is : told ≡ told_of steps ++ spoken (told_deaf h.lost h.at fault)

abbrev pub StandsBehind : ℕ → List ℕ → List Step → Compared → List Told → Bool → Type 0
StandsBehind max all steps c told false =
    IsGoing max all steps c.deframer c.hearing.at c.came × (told ≡ told_of steps)
StandsBehind max all steps c told true = IsDeaf max all steps c.hearing told

-- These bytes came, with these commits noted before, up to where others came, and this was told.
pub record IsCompared (v : Version) (limit max : ℕ) (past : Past) (reached : ℕ) (all : List ℕ) (c : Compared) (told : List Told)
    : Type 0 where
  pub steps : List Step
  pub leads : Leads v limit max past reached steps c.hearing
  pub max_is : c.deframer.max ≡ max
  pub limit_is : c.max_frame ≡ max
  pub stands : StandsBehind max all steps c told c.deaf

-- ---- what the calls do

-- with CopyDone the next session begins
abbrev pub passed_over : Bool → Compared → Deframed → Hearing → ℕ → Compared
passed_over false old d h came = record old { deframer = d; hearing = h; came = came }
passed_over true old d h came = record old { deframer = fresh d.max; hearing = h; came = 0 }

-- what becomes of the frame that is whole, if one is
abbrev pub HearsNext : Compared → ℕ → Compared → Told → Type 0
HearsNext old came new told =
    (Waits old.deframer × (new ≡ record old { came = came }) × (told ≡ told_nothing false))
    ⊎ ((frame : wire.Frame) × Stands old.deframer frame
    × ((h : Hearing) × (d : Deframed) × Takes old.hearing frame came h told × IsReleased old.deframer d
    × (new ≡ passed_over d.done old d h came)))

-- what becomes of a payload of CopyData that is heard in its place, where nothing is held
abbrev pub HearsWhole : Compared → List ℕ → Compared → Told → Type 0
HearsWhole old payload new told =
    ((h : Hearing) × (came : ℕ) × (came ≡ old.came + (length payload + 5)) × Takes old.hearing (wire.CopyData payload) came h told
    × (new ≡ record old { hearing = h; came = came }))
    ⊎ ((new ≡ record old { deaf = true }) × (told ≡ told_deaf old.hearing.lost old.hearing.at wire_fault.Memory))
