-- What a crash may leave of a piece of a session, frame by frame, and of pieces and sessions.
use Rattle.std.proofs.Common.{◌≡◌, ◌≤◌, ◌<◌, inl, inr, ◌∷◌, ◌++◌, [], ℕ, ℤ, List, Bool, true, false}
use Rattle.std.proofs.Common.{Option, Some, None, Result, Ok, Err, OnErr, length, take, get_or}
use Rattle.std.proofs.Common.{refl, sym, ap, subst, ◌∙◌, arith, append-nil}
use Rattle.std.specs.List.{flat_map}
use Rattle.pgwire.specs.Deframed.{Deframed}
use Rattle.pgapply.specs.Value.{Tables}
use Rattle.pgapply.specs.Taken as held
use Rattle.pgsub_core.specs.declared.fault.Fault.{Fault}
use Rattle.pgsub_core.specs.declared.fault.Fault.TheVariants as fault
use Rattle.pgwire.specs.declared.session.Session.{Session}
use Rattle.pgsub_core.specs.Subscriber.Applied.{Applied}
use Rattle.pgsub_core.specs.Calls.Framing.{framing_of, IsTakenTo, FeedStops}
use Rattle.pgsub_core.specs.Subscriber.Subscribed.{session_bytes, bytes_of}
use Rattle.pgsub_core.specs.Server.History.{Transaction, tables_as_of}
use Rattle.pgsub_core.specs.Server.Stream.{Sent}
use Rattle.pgsub_core.specs.Subscriber.Safe.{NothingBetween}
use Rattle.pgsub_core.specs.Subscriber.Safely.{IsSent}
use Rattle.pgsub_core.specs.Subscriber.SubscriberValue.{SubscriberValue, seen, FeedsUntil}
use Rattle.std.specs.Io.KnownBytes.{Consumes, Keeps}
use Rattle.pgsub_core.specs.Machine.Feeding.{IsFed}
use Rattle.pgsub_core.specs.Calls.Pumping.{bytes_in, Pumps, PumpsUntil}
use Rattle.pgsub_core.specs.Subscriber.Following.{FeedsSession, FeedsSessionUntil, FeedsSessions}
use Rattle.pgsub_core.specs.Subscriber.Following.{FollowsSessions}
use Rattle.pgsub_core.specs.Subscriber.Crashing.{LeavesOldOr, Over, FedOver, StandsAs, StandsAsFed}
use Rattle.pgsub_core.specs.Subscriber.Crashing.{LeavesHistory}
use Rattle.pgsub_core.proofs.PayloadStops.{unchanged}
use Rattle.pgsub_core.proofs.FeedStops.{for_memory, stopped_at}
use Rattle.pgsub_core.proofs.Starting.{feeds_until}
use Rattle.pgsub_core.proofs.FollowSteps.{session_stops, follows_stops, follows}
use Rattle.pgsub_core.proofs.Crashes.{leaves_then, leaves_as}
use Rattle.pgsub_core.proofs.Pieces.{stop_stands}
use Rattle.pgsub_core.proofs.Pumped.{IsPiece, read_on, kept_on, bytes_more, read_more, pumps_until}

-- whatever is answered
pub on_err : {A E : Type 0} (r : Result A E) (P : Type 0) → P → OnErr r P
on_err (Ok x) P p = tt
on_err (Err e) P p = p

pub on_err_as : {A E : Type 0} (r : Result A E) (P Q : Type 0) → OnErr r P → (P → Q) → OnErr r Q
on_err_as (Ok x) P Q h go = tt
on_err_as (Err e) P Q h go = go h

module _ {C : Type 0} (serves : C → Type 0) (holds : C → Tables → Type 0) (place : C → ℕ) (now : ℤ) (d₀ : Deframed) (a₀ : Applied C)
    (piece : List ℕ) where
  -- want of memory may stop it here
  pub piece_stands : (d : Deframed) (a : Applied C) (taken : ℕ) → IsTakenTo holds place now serves d₀ a₀ piece d a taken → serves a.store
      → FeedStops holds place now d₀ a₀ piece a fault.Memory
  piece_stands d a taken to own =
      stopped_at serves holds place now d₀ a₀ piece d a a taken to own (unchanged place a) (λ tables h. h) fault.Memory
      (λ framing tables h. tt)

more_stored : (history : List Transaction) (p q c : ℕ) → p ≤ q → NothingBetween history p c → NothingBetween history q c
more_stored [] p q c le nothing = tt
more_stored (t ∷ history) p q c le nothing =
    ((λ changes by. let ends : t.end ≤ p = nothing.0 changes by in omega (arith, le, ends)), more_stored history p q c le nothing.1)

-- ---- a piece that is fed to a subscriber

module _ {C : Type 0} (holds : C → Tables → Type 0) (place : C → ℕ) (now : ℤ) (piece : List ℕ) (d₀ : Deframed) (a₀ : Applied C)
    (closed : Bool) (old : SubscriberValue C) (is : closed ≡ false)
    (same : record { applied = a₀; framing = framing_of d₀ closed } ≡ old) where
  pub feed_over : (other : C) → Over (λ a. FeedStops holds place now d₀ a₀ piece a fault.Memory) other
      → FedOver (λ s. FeedsUntil holds place now old piece s fault.Memory) other
  feed_over other over = (
    record { applied = over.0; framing = framing_of d₀ true },
    over.1,
    feeds_until holds place now piece d₀ d₀ a₀ over.0 closed old fault.Memory is refl same over.2,
  )

  pub feed_stands : (d : Deframed) (new : Applied C) (f : Fault) → StandsAs place (λ a. FeedStops holds place now d₀ a₀ piece a f) new
      → StandsAsFed place (λ s. FeedsUntil holds place now old piece s f) (record { applied = new; framing = framing_of d true })
  feed_stands d new f stands = (
    record { applied = stands.0; framing = framing_of d₀ true },
    stands.1,
    feeds_until holds place now piece d₀ d₀ a₀ stands.0 closed old f is refl same stands.2,
  )

  -- want of memory might have stopped it there
  pub feed_stands_memory : (d : Deframed) (new : Applied C) (f : Fault)
      → StandsAs place (λ a. FeedStops holds place now d₀ a₀ piece a f) new
      → StandsAsFed place (λ s. FeedsUntil holds place now old piece s fault.Memory) (record { applied = new; framing = framing_of d true })
  feed_stands_memory d new f stands =
      feed_stands d new fault.Memory (stands.0, stands.1, for_memory holds place now d₀ a₀ piece stands.0 f stands.2)

-- ---- pieces and sessions

module _ {C : Type 0} (serves : C → Type 0) (holds : C → Tables → Type 0) (place : C → ℕ) (reopens : C → C → Type 0) (now : ℤ)
    (old mid new : SubscriberValue C) (served : serves mid.applied.store → serves old.applied.store) where
  module _ (pieces items : List (List ℕ)) (same : items ≡ pieces) (i : ℕ) (piece : List ℕ) (lt : i < length items)
      (is : piece ≡ get_or items i piece)
      (so : serves mid.applied.store → FeedsSession holds place now old (flat_map (λ (p : List ℕ). p) (take i pieces)) mid) (fed : List ℕ)
      (that : fed ≡ piece) where
    abbrev all : List ℕ
    all = flat_map (λ (p : List ℕ). p) pieces

    pub leaves_pieces : LeavesOldOr place reopens serves (FedOver (λ s. FeedsSessionUntil holds place now old all s fault.Memory))
        old.applied.store mid.applied.store
        → LeavesOldOr place reopens serves (FedOver (λ s. FeedsUntil holds place now mid fed s fault.Memory)) mid.applied.store
        new.applied.store
        → LeavesOldOr place reopens serves (FedOver (λ s. FeedsSessionUntil holds place now old all s fault.Memory)) old.applied.store
        new.applied.store
    leaves_pieces before one =
        leaves_then place reopens serves _ _ old.applied.store mid.applied.store new.applied.store before one served
        (λ other own has. (
          has.0,
          has.1,
          session_stops holds place now old mid has.0 pieces items same i piece fault.Memory lt is (so own) fed that has.2,
        ))

    pub session_stands : serves mid.applied.store → (f : Fault) → StandsAsFed place (λ s. FeedsUntil holds place now mid fed s f) new
        → StandsAsFed place (λ s. FeedsSessionUntil holds place now old all s f) new
    session_stands own f stands =
        (stands.0, stands.1, session_stops holds place now old mid stands.0 pieces items same i piece f lt is (so own) fed that stands.2)

  module _ (sessions : List Session) (i : ℕ) (session : Session) (lt : i < length sessions) (is : session ≡ get_or sessions i session)
      (so : serves mid.applied.store → FeedsSessions holds place now old (bytes_of (take i sessions)) mid None) where
    pub leaves_sessions : LeavesOldOr place reopens serves
        (FedOver (λ s. FeedsSessions holds place now old (bytes_of sessions) s (Some fault.Memory))) old.applied.store mid.applied.store
        → LeavesOldOr place reopens serves (FedOver (λ s. FeedsSessionUntil holds place now mid (session_bytes session) s fault.Memory))
        mid.applied.store new.applied.store
        → LeavesOldOr place reopens serves (FedOver (λ s. FeedsSessions holds place now old (bytes_of sessions) s (Some fault.Memory)))
        old.applied.store new.applied.store
    leaves_sessions before one =
        leaves_then place reopens serves _ _ old.applied.store mid.applied.store new.applied.store before one served
        (λ other own has. (has.0, has.1, follows_stops holds place now old mid has.0 sessions i session fault.Memory lt is (so own) has.2))

    pub sessions_stand : serves mid.applied.store → (f : Fault)
        → StandsAsFed place (λ s. FeedsSessionUntil holds place now mid (session_bytes session) s f) new
        → StandsAsFed place (λ s. FeedsSessions holds place now old (bytes_of sessions) s (Some f)) new
    sessions_stand own f stands =
        (stands.0, stands.1, follows_stops holds place now old mid stands.0 sessions i session f lt is (so own) stands.2)

-- ---- of a history

module _ {C : Type 0} (serves : C → Type 0) (holds : C → Tables → Type 0) (place : C → ℕ) (reopens : C → C → Type 0) (now : ℤ)
    (old new : SubscriberValue C) (sessions : List (List ℕ)) where
  -- what is confirmed is stored, and stays so where more is stored
  abbrev Confirms : List Transaction → Type 0
  Confirms history = NothingBetween history (place new.applied.store) new.applied.confirmed

  pub confirms_followed : (answered : Option Fault) → FollowsSessions holds place now old sessions new answered
      → (history : List Transaction) (all_complete : List (List Sent)) (tables : Tables) → holds old.applied.store tables
      → IsSent history (seen place old tables) sessions all_complete → Confirms history
  confirms_followed answered follows history all_complete tables h is = (follows history all_complete tables h is).2.safely.safe.stored

  pub confirms_standing : StandsAsFed place (λ s. FeedsSessions holds place now old sessions s (Some fault.Memory)) new
      → (history : List Transaction) (all_complete : List (List Sent)) (tables : Tables) → holds old.applied.store tables
      → IsSent history (seen place old tables) sessions all_complete → Confirms history
  confirms_standing stands history all_complete tables h is =
      let s = stands.0 in
      let stored = (follows holds place now old s sessions (Some fault.Memory) stands.2 history all_complete tables h
      is).2.safely.safe.stored in
      subst (λ (p : ℕ). NothingBetween history p new.applied.confirmed) (sym stands.1.position)
      (subst (NothingBetween history (place s.applied.store)) (sym stands.1.confirmed) stored)

  pub leaves_history : LeavesOldOr place reopens serves (FedOver (λ s. FeedsSessions holds place now old sessions s (Some fault.Memory)))
      old.applied.store new.applied.store → held.Leaves holds place reopens old.applied.store
      → ((history : List Transaction) (all_complete : List (List Sent)) (tables : Tables) → holds old.applied.store tables
      → IsSent history (seen place old tables) sessions all_complete → Confirms history)
      → LeavesHistory holds place reopens old sessions new
  leaves_history leaves start confirms history all_complete tables h is other left =
      let stored = confirms history all_complete tables h is in
      elim (leaves other left) [
        | inl was ↦
            let as_old = start other was.0 in
            let same : place other ≡ place new.applied.store = as_old.1 ∙ sym was.1 in
            record {
              tables = tables;
              held = as_old.0 tables h;
              same = ap (tables_as_of history) as_old.1 ∙ is.safe.same;
              position = omega (arith, same);
              stored = subst (λ (p : ℕ). NothingBetween history p new.applied.confirmed) (sym same) stored;
            }
        | inr fed ↦
            let s = fed.2.0 in
            let done = follows holds place now old s sessions (Some fault.Memory) fed.2.2 history all_complete tables h is in
            record {
              tables = done.0;
              held = subst (λ (x : C). holds x done.0) fed.2.1 done.1;
              same = subst (λ (x : C). tables_as_of history (place x) ≡ Ok done.0) fed.2.1 done.2.safely.safe.same;
              position = fed.1;
              stored = more_stored history (place new.applied.store) (place other) new.applied.confirmed fed.1 stored;
            }
      ]

-- ---- pieces that are read

module _ {C : Type 0} (holds : C → Tables → Type 0) (place : C → ℕ) (now : ℤ) (a b c : Option (List ℕ)) (old : SubscriberValue C) where
  -- stopped earlier, whatever is read behind it
  until_more : (piece : List ℕ) (s : SubscriberValue C) → PumpsUntil holds place now a b old s fault.Memory → Consumes b c piece
      → IsPiece piece → PumpsUntil holds place now a c old s fault.Memory
  until_more piece s so next is = record {
    pieces = so.pieces ++ piece ∷ [];
    are_read = read_more a b c so.pieces piece so.are_read next is;
    stops = λ tables h.
        let done = so.stops tables h in (
          done.0,
          done.1,
          subst (λ (bytes : List ℕ). IsFed now (seen place old tables) bytes (seen place s done.0) (Some fault.Memory))
              (sym (bytes_more so.pieces piece))
              (done.2.0, stop_stands now (seen place old tables) (seen place s done.0) (bytes_in so.pieces) piece fault.Memory done.2.1),
        );
  }

  module _ (reopens : C → C → Type 0) (serves : C → Type 0) (new : SubscriberValue C) where
    abbrev Pumped : Option (List ℕ) → C → Type 0
    Pumped rest = FedOver (λ s. PumpsUntil holds place now a rest old s fault.Memory)

    -- one piece more
    pub leaves_read : (reads reads' : ℕ) (mid : SubscriberValue C) (piece : List ℕ) → (serves mid.applied.store → serves old.applied.store)
        → (serves mid.applied.store → Pumps holds place now a b reads reads' old mid) → Consumes b c piece → IsPiece piece
        → LeavesOldOr place reopens serves (Pumped b) old.applied.store mid.applied.store
        → LeavesOldOr place reopens serves (FedOver (λ s. FeedsUntil holds place now mid piece s fault.Memory)) mid.applied.store
        new.applied.store
        → LeavesOldOr place reopens serves (Pumped c) old.applied.store new.applied.store
    leaves_read reads reads' mid piece served so next is before one =
        leaves_then place reopens serves _ _ old.applied.store mid.applied.store new.applied.store
        (leaves_as place reopens serves _ _ old.applied.store mid.applied.store before
        (λ other has. (has.0, has.1, until_more piece has.0 has.2 next is))) one served
        (λ other own has. (
          has.0,
          has.1,
          pumps_until holds place now a b c reads reads' old mid has.0 piece fault.Memory (so own) next is has.2,
        ))

    -- the end, and a read that fails
    pub leaves_end : Consumes b c [] → LeavesOldOr place reopens serves (Pumped b) old.applied.store new.applied.store
        → LeavesOldOr place reopens serves (Pumped c) old.applied.store new.applied.store
    leaves_end next before =
        leaves_as place reopens serves _ _ old.applied.store new.applied.store before
        (λ other has. let so = has.2 in let bytes = bytes_in so.pieces in (
          has.0,
          has.1,
          record {
            pieces = so.pieces;
            are_read = record {
              each = so.are_read.each;
              read = subst (Consumes a c) (append-nil bytes) (read_on a b c bytes [] so.are_read.read next);
            };
            stops = so.stops;
          },
        ))

    pub leaves_failed : Keeps b c → LeavesOldOr place reopens serves (Pumped b) old.applied.store new.applied.store
        → LeavesOldOr place reopens serves (Pumped c) old.applied.store new.applied.store
    leaves_failed next before =
        leaves_as place reopens serves _ _ old.applied.store new.applied.store before
        (λ other has. let so = has.2 in (
          has.0,
          has.1,
          record {
            pieces = so.pieces;
            are_read = record { each = so.are_read.each; read = kept_on a b c (bytes_in so.pieces) so.are_read.read next };
            stops =
                so.stops;
          },
        ))

    pub read_stands : (reads reads' : ℕ) (mid : SubscriberValue C) (piece : List ℕ) → Pumps holds place now a b reads reads' old mid
        → Consumes b c piece → IsPiece piece
        → (f : Fault) → StandsAsFed place (λ s. FeedsUntil holds place now mid piece s f) new
        → StandsAsFed place (λ s. PumpsUntil holds place now a c old s f) new
    read_stands reads reads' mid piece so next is f stands =
        (stands.0, stands.1, pumps_until holds place now a b c reads reads' old mid stands.0 piece f so next is stands.2)
