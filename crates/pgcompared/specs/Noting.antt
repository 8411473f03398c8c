-- What comes of the commits of sessions.
use Rattle.std.specs.Prelude.{◌≡◌, ◌+◌, ◌-◌, ◌^◌, ℕ, min, Bool, true, false, Option, Some, None, Ok}
use Rattle.std.specs.Prelude.{not, max, nat_le, nat_lt, ◌&&◌}
use Rattle.pgrepeats.specs.declared.commit.Commit.{Commit}
use Rattle.pgrepeats.specs.declared.past.Answer.{Answer}
use Rattle.pgrepeats.specs.declared.past.Answer.TheVariants as answer
use Rattle.pgrepeats.specs.declared.past.Past.{Past}
use Rattle.pgrepeats.specs.Past.{Answers, Contradicts, IsFirst, IsForgotten}
use Rattle.pgcompared.specs.declared.finding.Finding.{Finding}
use Rattle.pgcompared.specs.declared.finding.Finding.TheVariants as finding
use Rattle.pgcompared.specs.declared.finding.Lost.TheVariants as lost
use Rattle.pgcompared.specs.declared.noting.Noting.{Noting}
use Rattle.pgcompared.specs.declared.noting.Told.{Told}
use Rattle.pgcompared.specs.declared.session.Ended.{Ended}
use Rattle.pgcompared.specs.declared.session.Ended.TheVariants as ended

abbrev pub told_nothing : Bool → Told
told_nothing forgot = record { forgot = forgot; noted = None; found = None }

-- all is forgotten, or nothing
abbrev pub ForgetsIf : Bool → Past → Past → Type 0
ForgetsIf true p new = IsForgotten p new
ForgetsIf false p new = new ≡ p

-- the next session begins
abbrev pub begun_session : Past → Past
begun_session p = record p { last = None }

-- Before a session's first commit: this is noted, and others came up to here. Where they may end
-- above all that is noted, some of them may not be noted, and the session may leave them out.
abbrev pub noting_from : Past → ℕ → ℕ → Noting
noting_from p reached equal =
    record { past = begun_session p; reached = reached; is_whole = nat_le reached p.newest; equal = equal }

-- up to where commits came: nobody knows behind a session that was lost
abbrev pub reached_after : Bool → ℕ → ℕ
reached_after true reached = 2 ^ 64 - 1
reached_after false reached = reached

abbrev pub BeginsSession : Bool → Noting → Noting → Type 0
BeginsSession forgets n new =
    (mid : Past) × ForgetsIf forgets n.past mid × (new ≡ noting_from mid (reached_after forgets n.reached) n.equal)

-- a commit is noted where it is new
abbrev pub noted_by : Answer → Commit → Option Commit
noted_by answer.New d = Some d
noted_by answer.Equal d = None
noted_by answer.Unknown d = None

abbrev pub equal_with : Answer → ℕ → ℕ
equal_with answer.New n = n
equal_with answer.Equal n = min (n + 1) (2 ^ 64 - 1)
equal_with answer.Unknown n = n

-- it isn't contradicted
pub record IsAnswered (n : Noting) (d : Commit) (forgot : Bool) (new : Noting) (told : Told) : Type 0 where
  pub answer : Answer
  pub is : Answers n.past d new.past (Ok answer)
  pub reached : new.reached ≡ n.reached
  pub whole : new.is_whole ≡ n.is_whole
  pub equal : new.equal ≡ equal_with answer n.equal
  pub forgot_is : told.forgot ≡ forgot
  pub noted : told.noted ≡ noted_by answer d

-- nothing is noted any more, also not where the newest commit ended
abbrev pub Restarts : Noting → Noting → Type 0
Restarts n new =
    (limit : ℕ) × IsFirst limit new.past × (new.reached ≡ n.reached) × (new.is_whole ≡ n.is_whole) × (new.equal ≡ n.equal)

-- It is compared: it isn't contradicted, or it is and is the first that is noted, or memory ran
-- out and nothing is noted.
abbrev pub TellsAs : Noting → ℕ → Commit → Bool → Noting → Told → Option Finding → Type 0
TellsAs n at d forgot new told None = IsAnswered n d forgot new told
TellsAs n at d forgot new told (Some (finding.Contradicted place c)) =
    (place ≡ at) × Contradicts n.past d c × ((first : Noting) × Restarts n first × IsAnswered first d true new told)
TellsAs n at d forgot new told (Some (finding.Lost place why)) =
    (place ≡ at) × (why ≡ lost.Memory) × (told.forgot ≡ true) × (told.noted ≡ None) × Restarts n new

abbrev pub Tells : Noting → ℕ → Commit → Bool → Noting → Told → Type 0
Tells n at d forgot new told = TellsAs n at d forgot new told told.found

-- A session's first commit, where it ends above all that is noted: commits that came and aren't
-- noted may be missing before it.
abbrev pub is_above : Noting → Commit → Bool
is_above n d = not n.is_whole && nat_lt n.past.newest d.end

-- what comes of a transaction that commits with the frame `at`
abbrev pub HearsEnded : Noting → ℕ → Ended → Noting → Told → Type 0
HearsEnded n at (ended.Whole d) new told =
    (mid : Past) × ForgetsIf (is_above n d) n.past mid × Tells (record n { past = mid; is_whole = true }) at d (is_above n d) new told
HearsEnded n at (ended.Over end) new told =
    (mid : Past) × IsForgotten n.past mid × (new ≡ record n { past = mid; reached = max n.reached end; is_whole = true })
    × (told ≡ told_nothing true)
