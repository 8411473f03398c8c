-- The lines of a session.
use Rattle.std.specs.Prelude.{◌≡◌, ℕ, List, [], map, true, Option, MatchOption, Result, Ok, Err}
use Rattle.std.specs.Prelude.{Some, None}
use Rattle.std.specs.List.{flat_map}
use Rattle.pgwire.specs.Frames as wire
use Rattle.pgorder.specs.declared.Version.{Version}
use Rattle.pgjson.specs.Lines.{line, data_data, keepalive_data, done_data}
use Rattle.pgshow.specs.declared.fault.Fault.{Fault}
use Rattle.pgshow.specs.Frames.{Said, Data, Keepalive, Done, frame_of, BeginsWith, IsNextFault}

abbrev pub line_of : Said → List ℕ
line_of (Data start end clock m) = line (data_data start end clock m)
line_of (Keepalive end clock reply) = line (keepalive_data end clock reply)
line_of Done = line done_data

abbrev pub lines_of : List Said → List ℕ
lines_of said = flat_map line_of said

-- less than a whole frame is left, and nothing after CopyDone
abbrev pub IsAtEnd : ℕ → List Said → List ℕ → Type 0
IsAtEnd max said rest = wire.IsPartial max rest × (wire.has_copy_done (map frame_of said) ≡ true → rest ≡ [])

-- The bytes of a session are shown by this text: the lines of the frames that stand in order, and
-- then either less than a whole frame is left or the next thing has this fault. Where memory ran
-- out, of some frames in front.
pub record IsShownAs (v : Version) (max : ℕ) (bytes text : List ℕ) (found : Option Fault) : Type 0 where
  pub said : List Said
  pub rest : List ℕ
  pub begins : BeginsWith v max bytes said rest
  pub lines : text ≡ lines_of said
  pub ends : MatchOption found (IsAtEnd max said rest) (IsNextFault v max said rest)

abbrev pub fault_in : Result (Unit {0}) Fault → Option Fault
fault_in (Ok done) = None
fault_in (Err fault) = Some fault
