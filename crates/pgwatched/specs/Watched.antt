-- A watch over the messages of a session, one after the other, and the sessions of some history.
use Rattle.std.specs.Prelude.{ℕ, List, [], ◌∷◌, false, Result, Ok, Err}
use Rattle.pgorder.specs.declared.Version.{Version}
use Rattle.pgorder.specs.Laws.{AreMessagesFor}
use Rattle.pgwatch.specs.declared.fault.Breach.{Breach}
use Rattle.pgwatch.specs.declared.fault.Breach.TheVariants as breach
use Rattle.pgwatch.specs.declared.watch.Watch.{Watch}
use Rattle.pgwatch.specs.Hearing.{Heard, hear}
use Rattle.pgwatch.specs.Hearing as hearing
use Rattle.pgsub_core.specs.Server.History.{Transaction, IsHistory}
use Rattle.pgsub_core.specs.Server.Stream.{Sent, Data, Keepalive, messages_in}
use Rattle.pgsub_core.specs.Server.Delivers.{Delivers}

-- what a server sent, with the number of its frame
pub record Framed : Type 0 where
  pub at : ℕ
  pub sent : Sent

abbrev pub heard_of : ℕ → Sent → Heard
heard_of at (Data start end clock m) = hearing.Message at m
heard_of at (Keepalive end clock reply) = hearing.Keepalive at end

abbrev pub sent_of : List Framed → List Sent
sent_of [] = []
sent_of (f ∷ fs) = f.sent ∷ sent_of fs

abbrev pub then_hear : Result Watch Breach → (Watch → Result Watch Breach) → Result Watch Breach
then_hear (Ok w) go = go w
then_hear (Err b) go = Err b

-- the watch behind all of them, or the first breach
abbrev pub hear_all : Watch → List Framed → Result Watch Breach
hear_all w [] = Ok w
hear_all w (f ∷ fs) = then_hear (hear w (heard_of f.at f.sent)) (λ new. hear_all new fs)

-- each message carries an xid exactly inside a block, as it is decoded
abbrev pub AreDecoded : List Framed → Type 0
AreDecoded fs = AreMessagesFor false (messages_in (sent_of fs))

-- a well-formed server may send this in a session that starts here, of some history
abbrev pub MayBeSent : Version → ℕ → List Sent → Type 0
MayBeSent v start sent = (history : List Transaction) × IsHistory history × Delivers v history start sent

-- the breach is that of a rule, and doesn't just end the watch
abbrev pub IsOfRule : Breach → Type 0
IsOfRule (breach.Full at) = ⊥
IsOfRule (breach.Memory at) = ⊥
IsOfRule b = Unit {0}
