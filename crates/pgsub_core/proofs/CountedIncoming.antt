-- What is counted of what comes of a session, message by message.
use Rattle.std.proofs.Common.{◌≡◌, ◌++◌, ◌⊎◌, inl, inr, ℕ, ℤ, List, [], ◌∷◌, false, sym, ap, ◌∙◌}
use Rattle.std.specs.List.{AllByRecursion}
use Rattle.pgorder.specs.Laws.{AreMessagesFor}
use Rattle.pgorder.specs.declared.Version.{Version}
use Rattle.pgwire.specs.Frames.{Frame, CopyDone}
use Rattle.pgapply.specs.Tallies.{Tally}
use Rattle.pgsub_core.specs.Server.History.{Transaction}
use Rattle.pgsub_core.specs.Server.Stream.{Sent, messages_in}
use Rattle.pgsub_core.specs.Machine.Replica.{Running, then_run}
use Rattle.pgsub_core.specs.Server.Sessions.{frames_of, IsWireSent, IsIncoming}
use Rattle.pgsub_core.specs.Subscriber.Subscribed.{Subscribed, apply_state_of, disconnect}
use Rattle.pgsub_core.specs.Machine.Taking.{take_all, take_frames}
use Rattle.pgsub_core.specs.Machine.Counted.{frames_counted, IsCountedWhole, IsCountedFront}
use Rattle.pgsub_core.specs.Server.Readings.{MessagesAreReadAgain, AreFramesOf}
use Rattle.pgsub_core.proofs.FedSessions.{take_frames-append}
use Rattle.pgsub_core.proofs.FrameMessages.{frames_taken}
use Rattle.pgsub_core.proofs.Pieces.{frames_counted-append}
use Rattle.pgsub_core.proofs.StoppedSessions.{incoming_front, incoming_frames}
use Rattle.pgsub_core.proofs.Steps.{running, goes_through}
use Rattle.pgsub_core.proofs.CountedRuns.{run_counted}
use Rattle.pgsub_core.proofs.CountedMessages.{frames_run}

-- These messages were taken from a disconnection on, with which the position is reached, and what
-- they count came to what was counted.
pub record AreCounted (now : ℤ) (old : Subscribed) (sent : List Sent) (position : ℕ) (before behind : Tally) : Type 0 where
  pub state : Subscribed
  pub takes : take_all now (disconnect old) sent ≡ Running state
  pub stands : position ≡ state.position
  pub counts : behind ≡ run_counted old.version (apply_state_of (disconnect old)) sent before

-- CopyDone counts nothing and moves nothing
by_done : (now : ℤ) (state last : Subscribed) (done : List Frame) → (done ≡ []) ⊎ (done ≡ CopyDone ∷ [])
    → take_frames now state done ≡ Running last
    → (last.position ≡ state.position) × ((m : Tally) → frames_counted now state done m ≡ m)
by_done now state last done (inl none) h = (
  ap (λ (s : Subscribed). s.position) (sym (running (ap (take_frames now state) (sym none) ∙ h))),
  λ m. ap (λ fs. frames_counted now state fs m) none,
)
by_done now state last done (inr copy_done) h = (
  ap (λ (s : Subscribed). s.position) (sym (running (ap (take_frames now state) (sym copy_done) ∙ h))),
  λ m. ap (λ fs. frames_counted now state fs m) copy_done,
)

module _ (reads : MessagesAreReadAgain) (now : ℤ) where
  frames_count : (old last : Subscribed) (sent : List Sent) (fs : List Frame) (position : ℕ) (before behind : Tally)
      → AllByRecursion IsWireSent sent → AreMessagesFor false (messages_in sent) → AreFramesOf sent fs
      → take_frames now (disconnect old) fs ≡ Running last → position ≡ last.position
      → behind ≡ frames_counted now (disconnect old) fs before → AreCounted now old sent position before behind
  frames_count old last sent fs position before behind fits for are takes at counts =
      let parts : then_run (take_frames now (disconnect old) (frames_of sent)) (λ next. take_frames now next are.done) ≡ Running last =
      sym (take_frames-append now (frames_of sent) are.done (disconnect old)) ∙ ap (take_frames now (disconnect old)) (sym are.same)
      ∙ takes in
      let through = goes_through (take_frames now (disconnect old) (frames_of sent)) (λ next. take_frames now next are.done) last parts in
      let state = through.0 in
      let all : take_all now (disconnect old) sent ≡ Running state =
      sym (frames_taken reads now sent (disconnect old) fits for) ∙ through.1 in
      let ends = by_done now state last are.done are.last through.2 in
      record {
        state = state;
        takes = all;
        stands = at ∙ ends.0;
        counts = counts ∙ ap (λ gs. frames_counted now (disconnect old) gs before) are.same
            ∙ frames_counted-append now (frames_of sent) are.done (disconnect old) state before through.1
            ∙ ends.1 (frames_counted now (disconnect old) (frames_of sent) before)
            ∙ frames_run reads now sent (disconnect old) state fits for all before;
      }

  -- a front of it
  pub front_counted : (v : Version) (history : List Transaction) (s : ℕ) (bytes : List ℕ) (complete : List Sent) (old : Subscribed)
      (position : ℕ) (before behind : Tally) → IsIncoming v history s bytes complete
      → IsCountedFront now (disconnect old) bytes position before behind
      → (front later : List Sent) × (complete ≡ front ++ later) × AreCounted now old front position before behind
  front_counted v history s bytes complete old position before behind come c =
      let is = incoming_front reads now v history s bytes complete come (disconnect old).max_frame c.fs c.rest c.each c.whole in (
        is.front,
        is.later,
        is.parts,
        frames_count old c.state is.front c.fs position before behind is.fits is.outside is.are c.takes c.stands c.counts,
      )

  -- or all
  pub whole_counted : (v : Version) (history : List Transaction) (s : ℕ) (bytes : List ℕ) (complete : List Sent) (old : Subscribed)
      (position : ℕ) (before behind : Tally) → IsIncoming v history s bytes complete
      → IsCountedWhole now (disconnect old) bytes position before behind → AreCounted now old complete position before behind
  whole_counted v history s bytes complete old position before behind come c =
      let is = incoming_frames v history s (disconnect old).max_frame bytes complete c.fs c.rest come c.deframed in
      frames_count old c.state complete c.fs position before behind is.0 is.1 is.2 c.takes c.stands c.counts
