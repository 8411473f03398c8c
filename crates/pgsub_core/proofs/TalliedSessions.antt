-- The tally of the sessions of a history is the history's between the positions.
use Rattle.std.proofs.Common.{◌≡◌, ◌≤◌, ◌++◌, inl, inr, ℕ, ℤ, List, [], ◌∷◌, refl, sym, ap, subst}
use Rattle.std.proofs.Common.{◌∙◌, append-nil, arith}
use Rattle.pgorder.specs.declared.Version.{Version}
use Rattle.pgapply.specs.Tallies.{Tally}
use Rattle.pgapply.specs.Value.{Tables}
use Rattle.pgsub_core.specs.Server.History.{Transaction, IsHistory, ended_after}
use Rattle.pgsub_core.specs.Server.Stream.{Sent, commits_and_keepalives}
use Rattle.pgsub_core.specs.Server.Delivers.{Delivers}
use Rattle.pgsub_core.specs.Server.Reached.{Progress, reached, disconnected}
use Rattle.pgsub_core.specs.Server.Sessions.{AreIncoming, IsIncoming, starting_by, whole_frames}
use Rattle.pgsub_core.specs.Subscriber.Subscribed.{Subscribed, IsSafeFor, progress_of, replica_of}
use Rattle.pgsub_core.specs.Subscriber.Subscribed.{disconnect}
use Rattle.pgsub_core.specs.Subscriber.SubscriberValue.{SubscriberValue, seen}
use Rattle.pgsub_core.specs.Subscriber.Safely.{IsSent}
use Rattle.pgsub_core.specs.Machine.Counted.{AreCountedWhole, AreCountedFront, CountsSessions}
use Rattle.pgsub_core.specs.Machine.Counted.{CountsSessionsFront}
use Rattle.pgsub_core.specs.Subscriber.Tallied.{history_tallied, CountsHistory}
use Rattle.pgsub_core.proofs.AllSessions.{GoesOn}
use Rattle.pgsub_core.proofs.HandledSessions.{front_delivered}
use Rattle.pgsub_core.proofs.ReadAgain.{read_again}
use Rattle.pgsub_core.proofs.Reaching.{above}
use Rattle.pgsub_core.proofs.RelationCaches.{knows_none}
use Rattle.pgsub_core.proofs.Safety.{amid-start}
use Rattle.pgsub_core.proofs.StoppedSessions.{fed_session_whole}
use Rattle.pgsub_core.proofs.Taken.{taken_applies, taken_counts, taken_reaches, session_taken}
use Rattle.pgsub_core.proofs.CountedIncoming.{AreCounted, front_counted, whole_counted}
use Rattle.pgsub_core.proofs.TalliedBetween.{tallied_none, tallied_on}
use Rattle.pgsub_core.proofs.TalliedCommits.{commits_tallied}

-- a front of what comes of a session is delivered
delivered : (v : Version) (history : List Transaction) (s : ℕ) (bytes : List ℕ) (complete front later : List Sent)
    → IsIncoming v history s bytes complete → complete ≡ front ++ later → Delivers v history s front
delivered v history s bytes complete front later (inl session) parts = front_delivered v history s bytes complete front later session parts
delivered v history s bytes complete front later (inr foreign) parts =
    front_delivered v history s (whole_frames complete foreign.0.done) complete front later foreign.1 parts

module _ (now : ℤ) (history : List Transaction) (is : IsHistory history) where
  -- one session, or a front of one
  session_tallied : (from : Progress) (s : ℕ) (old : Subscribed) (sent : List Sent) (position : ℕ) (before behind : Tally)
      → IsSafeFor history old → GoesOn history from (replica_of old) → s ≤ from.confirmed
      → Delivers old.version history s sent → AreCounted now old sent position before behind
      → (behind ≡ history_tallied history old.position position before) × (old.position ≤ position)
  session_tallied from s old sent position before behind safe on le delivers c =
      let ms = commits_and_keepalives [] sent in
      let start = amid-start history (replica_of (disconnect old)) s from.confirmed is le on.nothing
      (record { same = safe.same; stored = safe.stored; below = safe.below }) in
      let tallied = commits_tallied history is ms (replica_of (disconnect old)) (replica_of c.state) [] (ended_after s history) start
      knows_none delivers.commits (taken_applies now old c.state sent c.takes) before in
      let reaches = ap (λ (p : Progress). p.position) (taken_reaches now old c.state sent safe.below c.takes) in (
        c.counts ∙ taken_counts now old c.state sent c.takes before ∙ tallied
            ∙ ap (λ p. history_tallied history old.position p before) (sym c.stands),
        let at = c.stands in let more = above ms old.position in omega arith,
      )

  sessions_tallied : (sessions : List (List ℕ)) (all_complete : List (List Sent)) (from : Progress) (old : Subscribed) (position : ℕ)
      (before behind : Tally) → IsSafeFor history old → GoesOn history from (replica_of old)
      → AreIncoming old.version history from sessions all_complete → AreCountedFront now old sessions position before behind
      → (behind ≡ history_tallied history old.position position before) × (old.position ≤ position)
  sessions_tallied [] all_complete from old position before behind safe on come c = (
    c.1 ∙ sym (ap (λ p. history_tallied history old.position p before) c.0 ∙ tallied_none history old.position before),
    let at = c.0 in
        omega arith,
  )
  sessions_tallied (bytes ∷ sessions) [] from old position before behind safe on come c = absurd come
  sessions_tallied (bytes ∷ sessions) (complete ∷ all_complete) from old position before behind safe on come (inl c) =
      let front = front_counted read_again now old.version history come.0.0 bytes complete old position before behind come.0.2 c in
      session_tallied from come.0.0 old front.0 position before behind safe on come.0.1
      (delivered old.version history come.0.0 bytes complete front.0 front.1 come.0.2 front.2) front.3
  sessions_tallied (bytes ∷ sessions) (complete ∷ all_complete) from old position before behind safe on come (inr c) =
      let mid = c.0 in
      let between = c.1 in
      let fed = fed_session_whole read_again now old.version history come.0.0 bytes complete old mid come.0.2 c.2 in
      let state = fed.0 in
      let delivers = delivered old.version history come.0.0 bytes complete complete [] come.0.2 (sym (append-nil complete)) in
      let session = session_taken now history from come.0.0 old state complete is safe on come.0.1 delivers fed.1 in
      let first = session_tallied from come.0.0 old complete mid.position before between safe on come.0.1 delivers
      (whole_counted read_again now old.version history come.0.0 bytes complete old mid.position before between come.0.2 c.3) in
      let safe' : IsSafeFor history mid = subst (λ (s : Subscribed). IsSafeFor history s) (sym fed.2) session.safe in
      let on' : GoesOn history (reached (disconnected from) [] complete) (replica_of mid) =
      subst (λ (s : Subscribed). GoesOn history (reached (disconnected from) [] complete) (replica_of s)) (sym fed.2) session.goes_on in
      let version : mid.version ≡ old.version = ap (λ (s : Subscribed). s.version) fed.2 ∙ session.settings.version in
      let come' : AreIncoming mid.version history (reached (disconnected from) [] complete) sessions all_complete =
      subst (λ v. AreIncoming v history (reached (disconnected from) [] complete) sessions all_complete) (sym version) come.1 in
      let rest = sessions_tallied sessions all_complete (reached (disconnected from) [] complete) mid position between behind safe' on'
      come' c.4 in (
        rest.0 ∙ ap (history_tallied history mid.position position) first.0
            ∙ sym (tallied_on history old.position mid.position position old.tables mid.tables before is first.1 rest.1 safe.same
            safe'.same),
        let a = first.1 in let b = rest.1 in omega arith,
      )

pub counted_of_history : (now : ℤ) (history : List Transaction) (sessions : List (List ℕ)) (all_complete : List (List Sent))
    (old : Subscribed) (position : ℕ) (before behind : Tally)
    → IsSent history old sessions all_complete → AreCountedFront now old sessions position before behind
    → behind ≡ history_tallied history old.position position before
counted_of_history now history sessions all_complete old position before behind is c =
    (sessions_tallied now history is.is_history sessions all_complete (starting_by is.start (progress_of old)) old position before behind
    is.safe (record { same = refl; nothing = is.nothing }) is.sent c).0

-- sessions that are fed whole are a front of themselves
whole_sessions : (now : ℤ) (sessions : List (List ℕ)) (old new : Subscribed) (before behind : Tally)
    → AreCountedWhole now old sessions new before behind → AreCountedFront now old sessions new.position before behind
whole_sessions now [] old new before behind c = (ap (λ (s : Subscribed). s.position) c.0, c.1)
whole_sessions now (bytes ∷ sessions) old new before behind c = inr (c.0, c.1, c.2, c.3, whole_sessions now sessions c.0 new c.1 behind c.4)

module _ {C : Type 0} (holds : C → Tables → Type 0) (place : C → ℕ) (count : C → Tally) (now : ℤ) where
  pub front_history : (old new : SubscriberValue C) (sessions : List (List ℕ)) → CountsSessionsFront holds place count now old sessions new
      → CountsHistory holds place count old sessions new
  front_history old new sessions c history all_complete tables h is =
      counted_of_history now history sessions all_complete (seen place old tables) (place new.applied.store) (count old.applied.store)
      (count new.applied.store) is (c tables h)

  pub whole_history : (old new : SubscriberValue C) (sessions : List (List ℕ)) → CountsSessions holds place count now old sessions new
      → CountsHistory holds place count old sessions new
  whole_history old new sessions c = front_history old new sessions (λ tables h.
      let a = c tables h in
      whole_sessions now sessions (seen place old tables) (seen place new a.0) (count old.applied.store) (count new.applied.store) a.2)
