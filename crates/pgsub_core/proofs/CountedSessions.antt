-- What is counted of pieces of a session and of sessions, one after the other.
use Rattle.std.proofs.Common.{◌≡◌, ◌++◌, ◌<◌, ◌+◌, ◌∷◌, inl, inr, ℕ, ℤ, List, [], take, drop}
use Rattle.std.proofs.Common.{get_or, length, refl, sym, subst, arith}
use Rattle.std.specs.List.{flat_map}
use Rattle.pgapply.specs.Tallies.{Tally}
use Rattle.pgapply.specs.Value.{Tables}
use Rattle.pgwire.specs.declared.session.Session.{Session}
use Rattle.pgsub_core.specs.Subscriber.Subscribed.{Subscribed, disconnect, session_bytes, bytes_of}
use Rattle.pgsub_core.specs.Machine.Feeding.{IsFedWhole}
use Rattle.pgsub_core.specs.Subscriber.SubscriberValue.{SubscriberValue, seen}
use Rattle.pgsub_core.specs.Subscriber.Following.{FeedsSession}
use Rattle.pgsub_core.specs.Machine.Counted.{IsCountedWhole, IsCountedFront, AreCountedWhole}
use Rattle.pgsub_core.specs.Machine.Counted.{AreCountedFront, FeedsCounted, FeedsCountedFront}
use Rattle.pgsub_core.specs.Machine.Counted.{CountsSession, CountsSessionFront, CountsSessions}
use Rattle.pgsub_core.specs.Machine.Counted.{CountsSessionsFront}
use Rattle.pgsub_core.proofs.Pieces.{counted_pieces, front_pieces, front_stands}
use Rattle.pgsub_core.proofs.FollowSteps.{joined_more, joined_all, sessions_more, sessions_all}

-- nothing is counted of no bytes
pub nothing_counted : (now : ℤ) (s : Subscribed) (m : Tally) → IsCountedWhole now (disconnect s) [] s.position m m
nothing_counted now s m = record {
  fs = [];
  rest = [];
  state = disconnect s;
  deframed = record {
    whole = refl;
    each = tt;
    partial = record { tag = λ some. absurd (omega arith); payload = λ long. absurd (omega arith) };
    last = λ e. refl;
  };
  takes = refl;
  stands = refl;
  counts = refl;
}

-- one session more
pub sessions_and : (now : ℤ) (sessions : List (List ℕ)) (bytes : List ℕ) (old mid new : Subscribed) (before between behind : Tally)
    → AreCountedWhole now old sessions mid before between → IsFedWhole now (disconnect mid) bytes new
    → IsCountedWhole now (disconnect mid) bytes new.position between behind
    → AreCountedWhole now old (sessions ++ bytes ∷ []) new before behind
sessions_and now [] bytes old mid new before between behind so fed counts = (
  new,
  behind,
  subst (λ (s : Subscribed). IsFedWhole now (disconnect s) bytes new) so.0 fed,
  subst (λ (m : Tally). IsCountedWhole now (disconnect old) bytes new.position m behind) so.1
      (subst (λ (s : Subscribed). IsCountedWhole now (disconnect s) bytes new.position between behind) so.0 counts),
  (refl, refl),
)
sessions_and now (first ∷ sessions) bytes old mid new before between behind so fed counts =
    (so.0, so.1, so.2, so.3, sessions_and now sessions bytes so.0 mid new so.1 between behind so.4 fed counts)

-- or a front of one more, whatever sessions would come
pub sessions_then : (now : ℤ) (sessions : List (List ℕ)) (bytes : List ℕ) (later : List (List ℕ)) (old mid : Subscribed) (position : ℕ)
    (before between behind : Tally) → AreCountedWhole now old sessions mid before between
    → IsCountedFront now (disconnect mid) bytes position between behind
    → AreCountedFront now old (sessions ++ bytes ∷ later) position before behind
sessions_then now [] bytes later old mid position before between behind so counts =
    inl (subst (λ (m : Tally). IsCountedFront now (disconnect old) bytes position m behind) so.1
    (subst (λ (s : Subscribed). IsCountedFront now (disconnect s) bytes position between behind) so.0 counts))
sessions_then now (first ∷ sessions) bytes later old mid position before between behind so counts =
    inr (so.0, so.1, so.2, so.3, sessions_then now sessions bytes later so.0 mid position so.1 between behind so.4 counts)

module _ {C : Type 0} (holds : C → Tables → Type 0) (place : C → ℕ) (count : C → Tally) (now : ℤ) where
  pub counts_start : (old new : SubscriberValue C) → new.applied.store ≡ old.applied.store → CountsSession holds place count now old [] new
  counts_start old new store tables h =
      let s = seen place old tables in
      subst (λ (x : C). IsCountedWhole now (disconnect s) [] (place x) (count old.applied.store) (count x)) (sym store)
      (nothing_counted now s (count old.applied.store))

  counts_and : (old mid new : SubscriberValue C) (bytes piece : List ℕ) → FeedsSession holds place now old bytes mid
      → CountsSession holds place count now old bytes mid → FeedsCounted holds place count now mid piece new
      → CountsSession holds place count now old (bytes ++ piece) new
  counts_and old mid new bytes piece fed so one tables h =
      let a = fed tables h in
      counted_pieces now (disconnect (seen place old tables)) (seen place mid a.0) bytes piece (place mid.applied.store)
      (place new.applied.store) (count old.applied.store) (count mid.applied.store) (count new.applied.store) a.2 (so tables h)
      (one a.0 a.1)

  pub counts_more : (old mid new : SubscriberValue C) (pieces items : List (List ℕ)) → items ≡ pieces → (i : ℕ) (piece : List ℕ)
      → i < length items → piece ≡ get_or items i piece
      → FeedsSession holds place now old (flat_map (λ (p : List ℕ). p) (take i pieces)) mid
      → CountsSession holds place count now old (flat_map (λ (p : List ℕ). p) (take i pieces)) mid → (fed : List ℕ) → fed ≡ piece
      → FeedsCounted holds place count now mid fed new
      → CountsSession holds place count now old (flat_map (λ (p : List ℕ). p) (take (i + 1) pieces)) new
  counts_more old mid new pieces items same i piece lt' is' feeds so fed that one' =
      let one : FeedsCounted holds place count now mid piece new =
      subst (λ (bytes : List ℕ). FeedsCounted holds place count now mid bytes new) that one' in
      let lt : i < length pieces = subst (λ (xs : List (List ℕ)). i < length xs) same lt' in
      let is : piece ≡ get_or pieces i piece = subst (λ (xs : List (List ℕ)). piece ≡ get_or xs i piece) same is' in
      subst (λ (bytes : List ℕ). CountsSession holds place count now old bytes new) (sym (joined_more pieces i piece lt is))
      (counts_and old mid new (flat_map (λ (p : List ℕ). p) (take i pieces)) piece feeds so one)

  pub counts_all : (old new : SubscriberValue C) (pieces : List (List ℕ)) (i : ℕ) → take i pieces ≡ pieces
      → CountsSession holds place count now old (flat_map (λ (p : List ℕ). p) (take i pieces)) new
      → CountsSession holds place count now old (flat_map (λ (p : List ℕ). p) pieces) new
  counts_all old new pieces i all so =
      subst (λ (xs : List (List ℕ)). CountsSession holds place count now old (flat_map (λ (p : List ℕ). p) xs) new) all so

  pub no_session : (s : SubscriberValue C) → CountsSessions holds place count now s [] s
  no_session s tables h = (tables, h, (refl, refl))

  pub counts_one_more : (old mid new : SubscriberValue C) (sessions : List Session) (i : ℕ) (session : Session) → i < length sessions
      → session ≡ get_or sessions i session
      → CountsSessions holds place count now old (bytes_of (take i sessions)) mid
      → FeedsSession holds place now mid (session_bytes session) new → CountsSession holds place count now mid (session_bytes session) new
      → CountsSessions holds place count now old (bytes_of (take (i + 1) sessions)) new
  counts_one_more old mid new sessions i session lt is so fed counts =
      subst (λ (all : List (List ℕ)). CountsSessions holds place count now old all new) (sym (sessions_more sessions i session lt is))
      (λ tables h.
      let a = so tables h in
      let b = fed a.0 a.1 in (
        b.0,
        b.1,
        sessions_and now (bytes_of (take i sessions)) (session_bytes session) (seen place old tables) (seen place mid a.0)
            (seen place new b.0) (count old.applied.store) (count mid.applied.store) (count new.applied.store) a.2 b.2 (counts a.0 a.1),
      ))

  pub counts_each : (old new : SubscriberValue C) (sessions : List Session) (i : ℕ) → take i sessions ≡ sessions
      → CountsSessions holds place count now old (bytes_of (take i sessions)) new
      → CountsSessions holds place count now old (bytes_of sessions) new
  counts_each old new sessions i all so = subst (λ (xs : List Session). CountsSessions holds place count now old (bytes_of xs) new) all so

  -- ---- where it stops

  stops_and : (old mid new : SubscriberValue C) (bytes piece later : List ℕ) → FeedsSession holds place now old bytes mid
      → CountsSession holds place count now old bytes mid → FeedsCountedFront holds place count now mid piece new
      → CountsSessionFront holds place count now old ((bytes ++ piece) ++ later) new
  stops_and old mid new bytes piece later fed so one tables h =
      let a = fed tables h in
      let s = disconnect (seen place old tables) in
      front_stands now s (bytes ++ piece) later (place new.applied.store) (count old.applied.store) (count new.applied.store)
      (front_pieces now s (seen place mid a.0) bytes piece (place mid.applied.store) (place new.applied.store) (count old.applied.store)
      (count mid.applied.store) (count new.applied.store) a.2 (so tables h) (one a.0 a.1))

  pub counts_stop : (old mid new : SubscriberValue C) (pieces items : List (List ℕ)) → items ≡ pieces → (i : ℕ) (piece : List ℕ)
      → i < length items → piece ≡ get_or items i piece
      → FeedsSession holds place now old (flat_map (λ (p : List ℕ). p) (take i pieces)) mid
      → CountsSession holds place count now old (flat_map (λ (p : List ℕ). p) (take i pieces)) mid → (fed : List ℕ) → fed ≡ piece
      → FeedsCountedFront holds place count now mid fed new
      → CountsSessionFront holds place count now old (flat_map (λ (p : List ℕ). p) pieces) new
  counts_stop old mid new pieces items same i piece lt' is' feeds so fed that one' =
      let one : FeedsCountedFront holds place count now mid piece new =
      subst (λ (bytes : List ℕ). FeedsCountedFront holds place count now mid bytes new) that one' in
      let lt : i < length pieces = subst (λ (xs : List (List ℕ)). i < length xs) same lt' in
      let is : piece ≡ get_or pieces i piece = subst (λ (xs : List (List ℕ)). piece ≡ get_or xs i piece) same is' in
      subst (λ (bytes : List ℕ). CountsSessionFront holds place count now old bytes new) (joined_all pieces i piece lt is)
      (stops_and old mid new (flat_map (λ (p : List ℕ). p) (take i pieces)) piece (flat_map (λ (p : List ℕ). p) (drop (i + 1) pieces)) feeds
      so one)

  pub counts_stop_in : (old mid new : SubscriberValue C) (sessions : List Session) (i : ℕ) (session : Session) → i < length sessions
      → session ≡ get_or sessions i session
      → CountsSessions holds place count now old (bytes_of (take i sessions)) mid
      → CountsSessionFront holds place count now mid (session_bytes session) new
      → CountsSessionsFront holds place count now old (bytes_of sessions) new
  counts_stop_in old mid new sessions i session lt is so one =
      subst (λ (all : List (List ℕ)). CountsSessionsFront holds place count now old all new) (sessions_all sessions i session lt is)
      (λ tables h.
      let a = so tables h in
      sessions_then now (bytes_of (take i sessions)) (session_bytes session) (bytes_of (drop (i + 1) sessions)) (seen place old tables)
      (seen place mid a.0) (place new.applied.store) (count old.applied.store) (count mid.applied.store) (count new.applied.store) a.2
      (one a.0 a.1))
