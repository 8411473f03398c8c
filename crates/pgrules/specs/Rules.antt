-- The rules of a well-formed server, and how each stands after a watch.
use Rattle.std.specs.Prelude.{ℕ, Bool, true, false, ◌||◌, not, Option, Some, None, if◌then◌else◌}
use Rattle.std.specs.Prelude.{List, [], ◌∷◌, find}
use Rattle.pgtuple.specs.declared.fault.TupleFault.TheVariants as tuple_fault
use Rattle.pglogical.specs.declared.fault.Reason.{Reason}
use Rattle.pglogical.specs.declared.fault.Reason.TheVariants as reason
use Rattle.pgwire.specs.declared.fault.WireFault.{WireFault}
use Rattle.pgwire.specs.declared.fault.WireFault.TheVariants as wire_fault
use Rattle.pgwatch.specs.declared.fault.Breach.{Breach}
use Rattle.pgwatch.specs.declared.fault.Breach.TheVariants as breach
use Rattle.pgrules.specs.declared.findings.End.{End}
use Rattle.pgrules.specs.declared.findings.End.TheVariants as end
use Rattle.pgrules.specs.declared.findings.Findings.{Findings}
use Rattle.pgrules.specs.declared.rules.Rule.{Rule}
use Rattle.pgrules.specs.declared.rules.Rule.TheVariants as rule
use Rattle.pgrules.specs.declared.rules.Standing.{Standing}
use Rattle.pgrules.specs.declared.rules.Standing.TheVariants as standing
use Rattle.pgrules.specs.declared.seen.Seen.{Seen}

abbrev pub breach_place : Breach → ℕ
breach_place (breach.Disordered at fault) = at
breach_place (breach.BelowCommit at lsn cause last) = at
breach_place (breach.EndNotAbove at lsn last) = at
breach_place (breach.BelowStart at last start) = at
breach_place (breach.Undescribed at cause oid) = at
breach_place (breach.BelowKeepalive at last cause told) = at
breach_place (breach.Unnested at cause subxid) = at
breach_place (breach.Full at) = at
breach_place (breach.Memory at) = at

-- the frame at which a watch ended before the bytes did
abbrev pub place_of : End → Option ℕ
place_of end.Whole = None
place_of (end.Ended b) = Some (breach_place b)
place_of (end.Unframed at fault) = Some at
place_of (end.Unsaid at fault) = Some at
place_of (end.Undecoded at fault) = Some at

-- it ended though no rule is broken: no more is held, memory ran out, or the next frame is too long
abbrev pub is_unwatched : End → Bool
is_unwatched (end.Ended (breach.Full at)) = true
is_unwatched (end.Ended (breach.Memory at)) = true
is_unwatched (end.Unframed at wire_fault.TooLarge) = true
is_unwatched (end.Unframed at wire_fault.Memory) = true
is_unwatched _ = false

-- a text isn't UTF-8
abbrev pub is_unread : Reason → Bool
is_unread reason.NotUtf8 = true
is_unread (reason.Tuple (tuple_fault.NotUtf8 place)) = true
is_unread _ = false

-- which rule is broken
abbrev pub breach_breaks : Breach → Rule → Bool
breach_breaks (breach.Disordered at fault) rule.Order = true
breach_breaks (breach.BelowCommit at lsn cause last) rule.Order = true
breach_breaks (breach.EndNotAbove at lsn last) rule.Order = true
breach_breaks (breach.BelowStart at last start) rule.Order = true
breach_breaks (breach.Unnested at cause subxid) rule.Nested = true
breach_breaks (breach.Undescribed at cause oid) rule.Described = true
breach_breaks (breach.BelowKeepalive at last cause told) rule.Keepalives = true
breach_breaks _ _ = false

abbrev pub framing_breaks : WireFault → Rule → Bool
framing_breaks wire_fault.BadLength rule.Frames = true
framing_breaks _ _ = false

abbrev pub payload_breaks : Rule → Bool
payload_breaks rule.Frames = true
payload_breaks _ = false

abbrev pub body_breaks : Reason → Rule → Bool
body_breaks r rule.Texts = is_unread r
body_breaks r rule.Messages = not (is_unread r)
body_breaks r _ = false

abbrev pub breaks : End → Rule → Bool
breaks end.Whole r = false
breaks (end.Ended b) r = breach_breaks b r
breaks (end.Unframed at fault) r = framing_breaks fault r
breaks (end.Unsaid at fault) r = payload_breaks r
breaks (end.Undecoded at fault) r = body_breaks fault.reason r

abbrev pub all_rules : List Rule
all_rules = rule.Order ∷ rule.Nested ∷ rule.Described ∷ rule.Keepalives ∷ rule.Frames ∷ rule.Texts ∷ rule.Messages ∷ []

-- the rule that is broken, if one is
abbrev pub broken_rule : End → Option Rule
broken_rule e = find (breaks e) all_rules

-- what came by which the rule could be broken
abbrev pub is_seen : Seen → Rule → Bool
is_seen s rule.Order = s.messages
is_seen s rule.Nested = s.streamed
is_seen s rule.Described = s.commits
is_seen s rule.Keepalives = s.told
is_seen s rule.Frames = s.messages || s.keepalives
is_seen s rule.Texts = s.messages
is_seen s rule.Messages = s.messages

abbrev pub kept_or_not : Bool → Option ℕ → Standing
kept_or_not seen place = if seen then standing.Kept place else standing.Unseen place

abbrev pub standing_at : Findings → Rule → Option ℕ → Standing
standing_at f r None = kept_or_not (is_seen f.seen r) None
standing_at f r (Some at) = if is_unwatched f.end then standing.Unwatched at
    else (if breaks f.end r then standing.Broken at else kept_or_not (is_seen f.seen r) (Some at))

abbrev pub standing_of : Findings → Rule → Standing
standing_of f r = standing_at f r (place_of f.end)

-- No rule is broken, and all was watched: to the end of the bytes, or to something foreign, with
-- which a session may end.
abbrev pub is_well : End → Bool
is_well end.Whole = true
is_well (end.Unframed at (wire_fault.UnknownFrame byte)) = true
is_well (end.Unframed at wire_fault.AfterDone) = true
is_well _ = false
