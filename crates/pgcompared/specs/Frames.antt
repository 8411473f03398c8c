-- Streaming Replication Protocol: what comes of the frames of sessions.
use Rattle.std.specs.Prelude.{◌≡◌, ◌⊎◌, ℕ, ℤ, List, Bool, true, false, Option, Some, None, Ok, Err}
use Rattle.pgwire.specs.declared.fault.WireFault.{WireFault}
use Rattle.pgwire.specs.Frames as wire
use Rattle.pgwire.specs.Payloads.{XLogData, Keepalive, payload, HasPayloadFault}
use Rattle.pglogical.specs.declared.message.Message.{Message}
use Rattle.pglogical.specs.Laws as laws
use Rattle.pglogical.specs.Spelling.{Says}
use Rattle.pgcompared.specs.declared.finding.Finding.{Finding}
use Rattle.pgcompared.specs.declared.finding.Finding.TheVariants as finding
use Rattle.pgcompared.specs.declared.finding.Lost.{Lost}
use Rattle.pgcompared.specs.declared.finding.Lost.TheVariants as lost
use Rattle.pgcompared.specs.declared.hearing.Hearing.{Hearing}
use Rattle.pgcompared.specs.declared.noting.Noting.{Noting}
use Rattle.pgcompared.specs.declared.noting.Told.{Told}
use Rattle.pgcompared.specs.declared.session.Ended.{Ended}
use Rattle.pgcompared.specs.declared.session.Session.{Session}
use Rattle.pgcompared.specs.Noting.{BeginsSession, HearsEnded, told_nothing}
use Rattle.pgcompared.specs.Sessions.{at_start, hear, in_block_of}

-- XLogData of whose data this holds
abbrev pub OfData : wire.Frame → (List ℕ → Type 0) → Type 0
OfData frame Holds =
    (start : ℕ) × (last : ℕ) × (clock : ℤ) × (body : List ℕ) × (frame ≡ wire.CopyData (payload (XLogData start last clock body)))
    × Holds body

abbrev pub IsKeepalive : wire.Frame → Type 0
IsKeepalive frame = (last : ℕ) × (clock : ℤ) × (reply : Bool) × (frame ≡ wire.CopyData (payload (Keepalive last clock reply)))

-- a transaction commits, or none
abbrev pub HearsIf : Noting → ℕ → Option Ended → Noting → Told → Type 0
HearsIf n at None new told = (new ≡ n) × (told ≡ told_nothing false)
HearsIf n at (Some e) new told = HearsEnded n at e new told

abbrev pub lost_at : ℕ → Lost → Told
lost_at at why = record { forgot = false; noted = None; found = Some (finding.Lost at why) }

-- why the session can't be compared any more, where this data comes
abbrev pub LosesWith : Session → List ℕ → Lost → Type 0
LosesWith s body (lost.Undecoded fault) = laws.IsFaultOf (in_block_of s) body fault
LosesWith s body (lost.Disordered fault) = (m : Message) × Says (in_block_of s) m body × (hear s m ≡ Err fault)
LosesWith s body lost.Memory = Unit {0}
LosesWith s body (lost.Unframed fault) = ⊥
LosesWith s body (lost.Unsaid fault) = ⊥

-- What comes of the data of XLogData: a message, with which a transaction may commit; or the
-- session is lost.
abbrev pub HearsBody : Session → Noting → ℕ → List ℕ → Session → Noting → Told → Type 0
HearsBody s n at body s' n' told =
    ((m : Message) × (e : Option Ended) × Says (in_block_of s) m body × (hear s m ≡ Ok (s', e)) × HearsIf n at e n' told)
    ⊎ ((why : Lost) × LosesWith s body why × (n' ≡ n) × (told ≡ lost_at at why))

-- What comes of the frame `at`: a keepalive, XLogData, or a payload that is neither.
abbrev pub HearsFrame : Session → Noting → ℕ → wire.Frame → Session → Noting → Told → Type 0
HearsFrame s n at frame s' n' told =
    (IsKeepalive frame × (s' ≡ s) × (n' ≡ n) × (told ≡ told_nothing false))
    ⊎ OfData frame (λ body. HearsBody s n at body s' n' told)
    ⊎ ((bytes : List ℕ) × (fault : WireFault) × (frame ≡ wire.CopyData bytes) × HasPayloadFault bytes fault × (s' ≡ s) × (n' ≡ n)
    × (told ≡ lost_at at (lost.Unsaid fault)))

abbrev pub is_lost : Option Finding → Bool
is_lost None = false
is_lost (Some (finding.Contradicted at c)) = false
is_lost (Some (finding.Lost at why)) = true

-- of a session that is lost nothing is heard
abbrev pub HearsOrPasses : Bool → Hearing → wire.Frame → Hearing → Told → Type 0
HearsOrPasses false h frame new told =
    HearsFrame h.session h.noting h.at frame new.session new.noting told × (new.lost ≡ is_lost told.found)
HearsOrPasses true h frame new told =
    (new.session ≡ h.session) × (new.noting ≡ h.noting) × (new.lost ≡ true) × (told ≡ told_nothing false)

-- What comes of a frame, behind which the next one has this offset. With CopyDone the next session
-- begins.
abbrev pub TakesFrame : Hearing → wire.Frame → ℕ → Hearing → Told → Type 0
TakesFrame h wire.CopyDone next new told =
    (new.session ≡ at_start h.version h.limit) × BeginsSession h.lost h.noting new.noting × (new.at ≡ 0) × (new.lost ≡ false)
    × (told ≡ told_nothing h.lost)
TakesFrame h (wire.CopyData bytes) next new told = HearsOrPasses h.lost h (wire.CopyData bytes) new told × (new.at ≡ next)

abbrev pub Takes : Hearing → wire.Frame → ℕ → Hearing → Told → Type 0
Takes h frame next new told = TakesFrame h frame next new told × (new.version ≡ h.version) × (new.limit ≡ h.limit)
