-- What a breach tells: the frame at which it is found, and what came with the frame that caused it.
use Rattle.std.specs.Prelude.{◌≡◌, ◌<◌, ◌≤◌, ◌⊎◌, ℕ, List, [], ◌∷◌, true, None, Some, Ok, Err}
use Rattle.pglogical.specs.Named.{named}
use Rattle.pglogical.specs.declared.message.Message.{Message}
use Rattle.pglogical.specs.declared.message.Message.TheVariants as message
use Rattle.pgorder.specs.declared.Version.{Version}
use Rattle.pgwatch.specs.declared.fault.Breach.{Breach}
use Rattle.pgwatch.specs.declared.fault.Breach.TheVariants as breach
use Rattle.pgwatch.specs.declared.watch.Watch.{Watch}
use Rattle.pgwatch.specs.Hearing.{hear, at_start}
use Rattle.pgsub_core.specs.Server.Work.{is_among}
use Rattle.pgsub_core.specs.Server.Stream.{Sent, Data, Keepalive}
use Rattle.pgwatched.specs.Watched.{Framed, heard_of, hear_all}

-- the commit of a pair or of a streamed transaction that ends here
abbrev pub EndsAt : ℕ → Message → Type 0
EndsAt end (message.Commit lsn its_end time) = its_end ≡ end
EndsAt end (message.StreamCommit xid lsn its_end time) = its_end ≡ end
EndsAt end m = ⊥

-- a change that names this relation
abbrev pub Names : ℕ → Message → Type 0
Names oid (message.Item label i) = is_among (named i) oid ≡ true
Names oid m = ⊥

-- an item or an abort with this xid
abbrev pub IsPart : ℕ → Message → Type 0
IsPart subxid (message.Item None i) = Unit {0}
IsPart subxid (message.Item (Some label) i) = label ≡ subxid
IsPart subxid (message.StreamAbort xid label) = label ≡ subxid
IsPart subxid m = ⊥

abbrev pub IsPartSent : ℕ → Sent → Type 0
IsPartSent subxid (Data s e clock m) = IsPart subxid m
IsPartSent subxid (Keepalive e clock reply) = ⊥

abbrev pub IsCommitAt : ℕ → Sent → Type 0
IsCommitAt end (Data s e clock m) = EndsAt end m
IsCommitAt end (Keepalive e clock reply) = ⊥

abbrev pub IsChangeOf : ℕ → Sent → Type 0
IsChangeOf oid (Data s e clock m) = Names oid m
IsChangeOf oid (Keepalive e clock reply) = ⊥

abbrev pub IsKeepaliveAt : ℕ → Sent → Type 0
IsKeepaliveAt end (Data s e clock m) = ⊥
IsKeepaliveAt end (Keepalive its_end clock reply) = its_end ≡ end

-- one of them came with this frame
abbrev pub Came : ℕ → (Sent → Type 0) → List Framed → Type 0
Came at is [] = ⊥
Came at is (f ∷ fs) = ((f.at ≡ at) × is f.sent) ⊎ Came at is fs

-- It is found at this frame, and before it came its cause.
abbrev pub IsCaused : Breach → List Framed → ℕ → Type 0
IsCaused (breach.Disordered at fault) before n = at ≡ n
IsCaused (breach.BelowCommit at lsn cause end) before n = (at ≡ n) × (lsn < end) × Came cause (IsCommitAt end) before
IsCaused (breach.EndNotAbove at lsn end) before n = (at ≡ n) × (end ≤ lsn)
IsCaused (breach.BelowStart at end start) before n = (at ≡ n) × (end ≤ start)
IsCaused (breach.Undescribed at cause oid) before n = (at ≡ n) × Came cause (IsChangeOf oid) before
IsCaused (breach.BelowKeepalive at end cause told) before n = (at ≡ n) × (end ≤ told) × Came cause (IsKeepaliveAt told) before
IsCaused (breach.Full at) before n = at ≡ n
IsCaused (breach.Unnested at cause subxid) before n = (at ≡ n) × Came cause (IsPartSent subxid) before
IsCaused (breach.Memory at) before n = ⊥

-- Each breach is found at the frame that comes next, and its cause came before.
abbrev pub BreachesAreCaused : Type 0
BreachesAreCaused =
    (v : Version) (start limit : ℕ) (before : List Framed) (next : Framed) (w : Watch) (b : Breach)
    → hear_all (at_start v start limit) before ≡ Ok w → hear w (heard_of next.at next.sent) ≡ Err b → IsCaused b before next.at
