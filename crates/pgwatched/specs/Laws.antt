-- What a watch's answers mean.
use Rattle.std.specs.Prelude.{◌≡◌, ℕ, Bool, List, ◌∷◌, ◌++◌, Ok, Err}
use Rattle.std.specs.List.{AllByRecursion}
use Rattle.pgorder.specs.declared.Version.{Version}
use Rattle.pgwatch.specs.declared.fault.Breach.{Breach}
use Rattle.pgwatch.specs.declared.watch.Watch.{Watch}
use Rattle.pgwatch.specs.Hearing.{hear, at_start}
use Rattle.pgsub_core.specs.Server.History.{Transaction, IsHistory}
use Rattle.pgsub_core.specs.Server.Stream.{Sent}
use Rattle.pgsub_core.specs.Server.Sessions.{IsWireSent, IsSession, whole_frames}
use Rattle.pgwatched.specs.Watched.{Framed, heard_of, sent_of, hear_all, AreDecoded, MayBeSent}
use Rattle.pgwatched.specs.Watched.{IsOfRule}

-- Where all is heard well, some history has it.
abbrev pub WellMayBeSent : Type 0
WellMayBeSent =
    (v : Version) (start limit : ℕ) (fs : List Framed) (w : Watch) → AreDecoded fs
    → hear_all (at_start v start limit) fs ≡ Ok w → MayBeSent v start (sent_of fs)

-- Where a rule is broken by what comes next, no history has it, whatever comes later.
abbrev pub BrokenIsNotSent : Type 0
BrokenIsNotSent =
    (v : Version) (start limit : ℕ) (before : List Framed) (next : Framed) (w : Watch) (b : Breach)
    → hear_all (at_start v start limit) before ≡ Ok w → hear w (heard_of next.at next.sent) ≡ Err b → IsOfRule b
    → (later : List Sent) → MayBeSent v start (sent_of before ++ next.sent ∷ later) → ⊥

-- The frames of what is heard well are a session of some history, behind which CopyDone may stand.
abbrev pub FramesAreASession : Type 0
FramesAreASession =
    (v : Version) (start limit : ℕ) (fs : List Framed) (w : Watch) (done : Bool) → AreDecoded fs → AllByRecursion IsWireSent (sent_of fs)
    → hear_all (at_start v start limit) fs ≡ Ok w
    → (history : List Transaction) × IsHistory history × IsSession v history start (whole_frames (sent_of fs) done) (sent_of fs)

-- No session of a history begins with what breaks a rule, wherever its bytes end.
abbrev pub BrokenIsNoSession : Type 0
BrokenIsNoSession =
    (v : Version) (start limit : ℕ) (before : List Framed) (next : Framed) (w : Watch) (b : Breach)
    → hear_all (at_start v start limit) before ≡ Ok w → hear w (heard_of next.at next.sent) ≡ Err b → IsOfRule b
    → (history : List Transaction) (bytes : List ℕ) (later : List Sent) → IsHistory history
    → IsSession v history start bytes (sent_of before ++ next.sent ∷ later) → ⊥
