-- PostgreSQL documentation, Streaming Replication Protocol, START_REPLICATION: what a watch says of
-- sessions that come one after the other, in any pieces.
use Rattle.std.specs.Prelude.{◌≡◌, ℕ, List, [], ◌∷◌, ◌++◌, length, Bool, true, false}
use Rattle.std.specs.Prelude.{Option, Some, None, unwrap_or}
use Rattle.std.specs.List.{AllByRecursion, flat_map}
use Rattle.pgwire.specs.Frames as wire
use Rattle.pgwire.specs.Deframed.{Deframed}
use Rattle.pgorder.specs.declared.Version.{Version}
use Rattle.pgwatch.specs.declared.watch.Watch.{Watch}
use Rattle.pgsub_core.specs.Server.Sessions.{whole_frames}
use Rattle.pgwatched.specs.Watched.{Framed, sent_of}
use Rattle.pgrules.specs.declared.findings.End.{End}
use Rattle.pgrules.specs.declared.findings.End.TheVariants as end
use Rattle.pgrules.specs.declared.findings.Findings.{Findings}
use Rattle.pgrules.specs.declared.live.LiveWatch.{LiveWatch}
use Rattle.pgrules.specs.declared.seen.Seen.{Seen}
use Rattle.pgrules.specs.Seen.{nothing_seen, seen_after}
use Rattle.pgrules.specs.Watching.{IsFound, IsHeard}

-- ---- one session, of which these bytes have come

-- whole frames, none of them CopyDone, and then what the deframer holds, which is less than one
pub record IsFramed (max : ℕ) (bytes : List ℕ) (d : Deframed) : Type 0 where
  pub fs : List wire.Frame
  pub whole : bytes ≡ wire.frames fs ++ d.held
  pub each : wire.AreFrames max fs
  pub none : wire.has_copy_done fs ≡ false
  pub partial : wire.IsPartial max d.held
  pub first : d.done ≡ false
  pub sound : d.fault ≡ None

-- all frames so far were heard well
pub record IsGoing (v : Version) (limit max : ℕ) (bytes : List ℕ) (d : Deframed) (w : Watch) (seen : Seen) (at came : ℕ) : Type 0 where
  pub fs : List Framed
  pub is : IsHeard v max limit bytes fs false d.held w
  pub seen_is : seen ≡ seen_after nothing_seen (sent_of fs)
  pub watched : w.ended ≡ None
  pub at_is : at ≡ length (whole_frames (sent_of fs) false)
  pub came_is : came ≡ length bytes

-- it is found of the session that the watch over it ended so
abbrev pub HasEnded : Version → ℕ → ℕ → List ℕ → Seen → End → Type 0
HasEnded v limit max bytes seen end.Whole = ⊥
HasEnded v limit max bytes seen e = IsFound v max limit bytes (record { seen = seen; end = e })

-- Where the watch over the session goes on, all so far was heard. Where it has ended, the frames
-- are told apart to find the session's end, unless they can't be any more.
abbrev pub StandsIn : Version → ℕ → ℕ → List ℕ → LiveWatch → Option End → Bool → Type 0
StandsIn v limit max bytes g None false =
    IsFramed max bytes g.deframer × IsGoing v limit max bytes g.deframer g.watch g.seen g.at g.came
StandsIn v limit max bytes g None true = ⊥
StandsIn v limit max bytes g (Some e) false = IsFramed max bytes g.deframer × HasEnded v limit max bytes g.seen e
StandsIn v limit max bytes g (Some e) true = HasEnded v limit max bytes g.seen e

pub record Stands (v : Version) (limit max : ℕ) (bytes : List ℕ) (g : LiveWatch) : Type 0 where
  pub version : g.version ≡ v
  pub limit_is : g.limit ≡ limit
  pub max_is : g.deframer.max ≡ max
  pub frame_is : g.max_frame ≡ max
  pub in_session : StandsIn v limit max bytes g g.end g.lost

-- ---- all sessions

-- what is found of the session so far
abbrev pub findings_of : LiveWatch → Findings
findings_of g = record { seen = g.seen; end = unwrap_or g.end end.Whole }

-- a session that has ended, and what was found of it
pub record Told : Type 0 where
  pub bytes : List ℕ
  pub found : Findings

-- it ends with its CopyDone, and just this is found of its bytes
pub record IsTold (v : Version) (limit max : ℕ) (t : Told) : Type 0 where
  pub fs : List wire.Frame
  pub whole : t.bytes ≡ wire.frames (fs ++ wire.CopyDone ∷ [])
  pub each : wire.AreFrames max (fs ++ wire.CopyDone ∷ [])
  pub is : IsFound v max limit t.bytes t.found

-- what is told of a session: why the watch over it ended before its bytes did
abbrev pub reports : Findings → List Findings
reports f = reports_as f f.end
  where
    reports_as : Findings → End → List Findings
    reports_as f end.Whole = []
    reports_as f e = f ∷ []

abbrev pub list_of : {X : Type 0} → Option X → List X
list_of None = []
list_of (Some x) = x ∷ []

abbrev pub bytes_of : List Told → List ℕ
bytes_of ended = flat_map (λ (t : Told). t.bytes) ended

abbrev pub reports_of : List Told → List Findings
reports_of ended = flat_map (λ (t : Told). reports t.found) ended

-- The bytes are those of sessions that have ended and of one that goes on, each is watched from its
-- first byte on, and this was told of them.
pub record IsWatched (v : Version) (limit max : ℕ) (all : List ℕ) (g : LiveWatch) (told : List Findings) : Type 0 where
  pub ended : List Told
  pub now : List ℕ
  pub parts : all ≡ bytes_of ended ++ now
  pub each : AllByRecursion (IsTold v limit max) ended
  pub stands : Stands v limit max now g
  pub told_is : told ≡ reports_of ended ++ reports (findings_of g)
