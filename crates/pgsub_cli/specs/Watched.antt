-- What is told of a watch over the sessions of a recording: how each rule stands, and what ends the
-- watch.
use Rattle.std.specs.Prelude.{◌≡◌, ◌++◌, ◌&&◌, ℕ, List, [], ◌∷◌, Bool, true, false, Some, None}
use Rattle.std.specs.Prelude.{Result, Ok, Err}
use Rattle.std.specs.Prelude.{codes, decimal}
use Rattle.pglsn.specs.Texts.{lsn_text}
use Rattle.pgorder.specs.declared.Version.{Version}
use Rattle.pgwatch.specs.declared.fault.Breach.{Breach}
use Rattle.pgwatch.specs.declared.fault.Breach.TheVariants as breach
use Rattle.pgrules.specs.declared.findings.End.{End}
use Rattle.pgrules.specs.declared.findings.End.TheVariants as end
use Rattle.pgrules.specs.declared.findings.Findings.{Findings}
use Rattle.pgrules.specs.declared.rules.Rule.{Rule}
use Rattle.pgrules.specs.declared.rules.Rule.TheVariants as rule
use Rattle.pgrules.specs.declared.rules.Standing.{Standing}
use Rattle.pgrules.specs.declared.rules.Standing.TheVariants as standing
use Rattle.pgrules.specs.Rules.{is_well, standing_of}
use Rattle.pgrules.specs.Watching.{IsFound}
use Rattle.pgsub_core.specs.declared.fault.Fault.TheVariants as fault
use Rattle.pgsub_cli.specs.declared.fault.Ending.{Ending}
use Rattle.pgsub_cli.specs.declared.fault.Ending.TheVariants.{Done, Differs}
use Rattle.pgsub_cli.specs.declared.fault.RunFault.{RunFault}
use Rattle.pgsub_cli.specs.declared.fault.RunFault.TheVariants as run
use Rattle.pgsub_cli.specs.FaultTexts.{memory_text, order_text, reason_text, wire_text}
use Rattle.pgsub_cli.specs.Limits.{longest_payload}

-- how many relations, open transactions and items of these a watch holds
abbrev pub watch_limit : ℕ
watch_limit = 1000000

-- an offset is that of a frame, in bytes from the session's first one
abbrev pub standing_text : Standing → List ℕ
standing_text (standing.Kept None) = codes "kept"
standing_text (standing.Kept (Some at)) = codes "kept before " ++ decimal at
standing_text (standing.Unseen None) = codes "not seen"
standing_text (standing.Unseen (Some at)) = codes "not seen before " ++ decimal at
standing_text (standing.Broken at) = codes "broken at " ++ decimal at
standing_text (standing.Unwatched at) = codes "not watched from " ++ (decimal at ++ codes " on")

-- what was seen, and the frame that it doesn't fit
abbrev pub breach_text : Breach → List ℕ
breach_text (breach.Disordered at f) = order_text f
breach_text (breach.BelowCommit at lsn cause last) =
    codes "a commit's LSN " ++ (lsn_text lsn ++ (codes " is below the end " ++ (lsn_text last ++ (codes " of the commit at " ++ decimal cause))))
breach_text (breach.EndNotAbove at lsn last) =
    codes "a commit's end " ++ (lsn_text last ++ (codes " is not above its LSN " ++ lsn_text lsn))
breach_text (breach.BelowStart at last start) =
    codes "a commit's end " ++ (lsn_text last ++ (codes " is not above the start " ++ lsn_text start))
breach_text (breach.Undescribed at cause oid) =
    codes "the change at " ++ (decimal cause ++ (codes " is committed and relation " ++ (decimal oid ++ codes " not described")))
breach_text (breach.BelowKeepalive at last cause told) =
    codes "a commit's end "
    ++ (lsn_text last ++ (codes " is not above the end " ++ (lsn_text told ++ (codes " of the keepalive at " ++ decimal cause))))
breach_text (breach.Unnested at cause subxid) =
    codes "what came at " ++ (decimal cause ++ (codes " of subtransaction " ++ (decimal subxid ++ codes " is not nested")))
breach_text (breach.Full at) = codes "no more is held"
breach_text (breach.Memory at) = memory_text

abbrev pub end_text : End → List ℕ
end_text end.Whole = codes "the end of the bytes"
end_text (end.Ended b) = breach_text b
end_text (end.Unframed at f) = wire_text f
end_text (end.Unsaid at f) = wire_text f
end_text (end.Undecoded at f) = reason_text f.reason f.place

abbrev pub rule_text : Findings → Rule → List ℕ
rule_text f r = standing_text (standing_of f r)

-- Rule 1 shows over reconnections alone.
abbrev pub compared_text : List ℕ
compared_text = codes "not watched: follow --repeats compares commits that come again"

abbrev pub first_text : Findings → List ℕ
first_text f =
    codes "session\norder "
    ++ (rule_text f rule.Order
    ++ (codes "\nrule 1 "
    ++ (compared_text
    ++ (codes "\nrule 2 " ++ (rule_text f rule.Nested ++ (codes "\nrule 3 " ++ (rule_text f rule.Described ++ 10 ∷ [])))))))

abbrev pub last_text : Findings → List ℕ
last_text f =
    codes "rule 4 "
    ++ (rule_text f rule.Keepalives
    ++ (codes "\nrule 5 "
    ++ (rule_text f rule.Frames
    ++ (codes "\nrule 6 "
    ++ (rule_text f rule.Texts
    ++ (codes "\nrule 7 " ++ (rule_text f rule.Messages ++ (codes "\nends with " ++ (end_text f.end ++ 10 ∷ [])))))))))

abbrev pub findings_text : Findings → List ℕ
findings_text f = first_text f ++ last_text f

-- this is found of a session
abbrev pub IsWatched : Version → List ℕ → Findings → Type 0
IsWatched version bytes found = IsFound version longest_payload watch_limit bytes found

-- the lines of what is found are put behind the old ones
abbrev pub AddsFound : Findings → List ℕ → List ℕ → Bool → Type 0
AddsFound found old new well = (new ≡ old ++ findings_text found) × (well ≡ is_well found.end)

abbrev pub AddsWatched : Version → List ℕ → List ℕ → List ℕ → Bool → Type 0
AddsWatched version bytes old new well = (found : Findings) × IsWatched version bytes found × AddsFound found old new well

-- These lines are told of sessions, each watched by itself, and no rule is broken and all was
-- watched.
abbrev pub AreWatched : Version → List (List ℕ) → List ℕ → Bool → Type 0
AreWatched version [] lines well = (lines ≡ []) × (well ≡ true)
AreWatched version (bytes ∷ sessions) lines well =
    (found : Findings) × (rest : List ℕ) × (others : Bool) × IsWatched version bytes found × AreWatched version sessions rest others
    × (lines ≡ findings_text found ++ rest) × (well ≡ (is_well found.end && others))

abbrev pub watch_ending : Bool → Ending
watch_ending true = Done
watch_ending false = Differs

module _ {W : Type 0} (takes : W → List ℕ → W → Type 0) (failed : W → Type 0) where
  -- the lines are written
  abbrev pub WritesWatched : Version → List (List ℕ) → W → W → Result Ending RunFault → Type 0
  WritesWatched version sessions old new (Ok ending) =
      (lines : List ℕ) × (well : Bool) × AreWatched version sessions lines well × (ending ≡ watch_ending well) × takes old lines new
  WritesWatched version sessions old new (Err (run.Stream f)) = (f ≡ fault.Memory) × (new ≡ old)
  WritesWatched version sessions old new (Err run.CannotWrite) = failed old
  WritesWatched version sessions old new (Err _) = ⊥
