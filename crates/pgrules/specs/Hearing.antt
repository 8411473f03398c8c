-- What is heard of the data of XLogData, and of a keepalive.
use Rattle.std.specs.Prelude.{◌≡◌, ◌≢◌, ℕ, List, Ok, Err}
use Rattle.pglogical.specs.Laws as laws
use Rattle.pglogical.specs.Spelling.{Says}
use Rattle.pglogical.specs.declared.message.Message.{Message}
use Rattle.pgorder.specs.States.{is_in_block}
use Rattle.pgwatch.specs.declared.fault.Breach.TheVariants as breach
use Rattle.pgwatch.specs.declared.watch.Watch.{Watch}
use Rattle.pgwatch.specs.Hearing.{hear}
use Rattle.pgwatch.specs.Hearing as hearing
use Rattle.pgrules.specs.declared.findings.End.{End}
use Rattle.pgrules.specs.declared.findings.End.TheVariants as end
use Rattle.pgrules.specs.declared.seen.Seen.{Seen}
use Rattle.pgrules.specs.Seen.{with_message, with_keepalive}

abbrev pub HearsBody : Watch → Seen → ℕ → List ℕ → Watch → Seen → Type 0
HearsBody w seen at body w' seen' =
    (m : Message) × Says (is_in_block w.order.state.context) m body × (hear w (hearing.Message at m) ≡ Ok w')
    × (seen' ≡ with_message seen m)

abbrev pub EndsAtBody : Watch → ℕ → List ℕ → End → Type 0
EndsAtBody w at body end.Whole = ⊥
EndsAtBody w at body (end.Ended b) =
    (m : Message) × Says (is_in_block w.order.state.context) m body × (b ≢ breach.Memory at → hear w (hearing.Message at m) ≡ Err b)
EndsAtBody w at body (end.Unframed place fault) = ⊥
EndsAtBody w at body (end.Unsaid place fault) = ⊥
EndsAtBody w at body (end.Undecoded place fault) =
    (place ≡ at) × laws.IsFaultOf (is_in_block w.order.state.context) body fault

abbrev pub HearsKeepalive : Watch → Seen → ℕ → ℕ → Watch → Seen → Type 0
HearsKeepalive w seen at last w' seen' = (hear w (hearing.Keepalive at last) ≡ Ok w') × (seen' ≡ with_keepalive seen)
