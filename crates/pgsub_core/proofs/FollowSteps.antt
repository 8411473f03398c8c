-- Pieces of a session and sessions, one after the other, whatever tables the store holds.
use Rattle.std.proofs.Common.{◌≡◌, ◌++◌, ◌<◌, ◌+◌, ◌∷◌, ℕ, ℤ, List, [], true, false, Option, Some}
use Rattle.std.proofs.Common.{None, Result, Ok, Err, take, drop, get_or, length, refl, sym, ap}
use Rattle.std.proofs.Common.{subst, ◌∙◌, append_assoc, append-nil}
use Rattle.std.specs.List.{flat_map}
use Rattle.std.proofs.lemmas.Grind.{flat_map-append}
use Rattle.std.proofs.lemmas.List.{map-append, take_more, take-append-drop}
use Rattle.pgapply.specs.Value.{Tables}
use Rattle.pgsub_core.specs.declared.fault.Fault.{Fault}
use Rattle.pgsub_core.specs.declared.fault.Fault.TheVariants as fault
use Rattle.pgwire.specs.declared.session.Session.{Session}
use Rattle.pgsub_core.specs.Subscriber.Subscribed.{Subscribed, disconnect, session_bytes, bytes_of}
use Rattle.std.specs.Prelude.{IsErrAnd}
use Rattle.pgsub_core.specs.Subscriber.Handled.{fault_in}
use Rattle.pgsub_core.specs.Machine.Feeding.{IsFed, IsFedWhole, IsFedUntil}
use Rattle.pgsub_core.specs.Subscriber.SubscriberValue.{SubscriberValue, seen, Feeds, FeedsUntil}
use Rattle.pgsub_core.specs.Subscriber.Following.{FeedsSession, FeedsSessionUntil, FeedsSessions}
use Rattle.pgsub_core.specs.Subscriber.Following.{FollowsSafely, FollowsSessions}
use Rattle.pgsub_core.proofs.Pieces.{two_pieces, piece_then_stop, stop_stands, stays_open}
use Rattle.pgsub_core.proofs.Pieces.{nothing_fed}
use Rattle.pgsub_core.proofs.Followed.{fed_more, fed_then_stopped, fed_followed}

pub until_of : (now : ℤ) (old new : Subscribed) (piece : List ℕ) (f : Fault) → old.closed ≡ false → IsFed now old piece new (Some f)
    → IsFedUntil now old piece new f
until_of now old new piece (fault.Wire k) unclosed fed = fed.1
until_of now old new piece (fault.Decode k) unclosed fed = fed.1
until_of now old new piece (fault.Order k) unclosed fed = fed.1
until_of now old new piece (fault.Relation k) unclosed fed = fed.1
until_of now old new piece (fault.Spool k) unclosed fed = fed.1
until_of now old new piece (fault.Store k) unclosed fed = fed.1
until_of now old new piece fault.Read unclosed fed = fed.1
until_of now old new piece fault.Closed unclosed fed = absurd (let e : true ≡ false = sym fed.0 ∙ unclosed in cc)
until_of now old new piece fault.Memory unclosed fed = fed.1

-- the front with one piece more
pub joined_more : (pieces : List (List ℕ)) (i : ℕ) (piece : List ℕ) → i < length pieces → piece ≡ get_or pieces i piece
    → flat_map (λ (p : List ℕ). p) (take (i + 1) pieces) ≡ flat_map (λ (p : List ℕ). p) (take i pieces) ++ piece
joined_more pieces i piece lt is =
    ap (flat_map (λ (p : List ℕ). p)) (take_more pieces i piece lt ∙ ap (λ (x : List ℕ). take i pieces ++ x ∷ []) (sym is))
    ∙ flat_map-append (λ (p : List ℕ). p) (take i pieces) (piece ∷ [])
    ∙ ap (λ (x : List ℕ). flat_map (λ (p : List ℕ). p) (take i pieces) ++ x) (append-nil piece)

-- and all, with what comes behind it
pub joined_all : (pieces : List (List ℕ)) (i : ℕ) (piece : List ℕ) → i < length pieces → piece ≡ get_or pieces i piece
    → (flat_map (λ (p : List ℕ). p) (take i pieces) ++ piece)
    ++ flat_map (λ (p : List ℕ). p) (drop (i + 1) pieces) ≡ flat_map (λ (p : List ℕ). p) pieces
joined_all pieces i piece lt is =
    ap (λ (x : List ℕ). x ++ flat_map (λ (p : List ℕ). p) (drop (i + 1) pieces)) (sym (joined_more pieces i piece lt is))
    ∙ sym (flat_map-append (λ (p : List ℕ). p) (take (i + 1) pieces) (drop (i + 1) pieces))
    ∙ ap (flat_map (λ (p : List ℕ). p)) (take-append-drop (i + 1) pieces)

pub sessions_more : (sessions : List Session) (i : ℕ) (session : Session) → i < length sessions → session ≡ get_or sessions i session
    → bytes_of (take (i + 1) sessions) ≡ bytes_of (take i sessions) ++ session_bytes session ∷ []
sessions_more sessions i session lt is =
    ap bytes_of (take_more sessions i session lt ∙ ap (λ (x : Session). take i sessions ++ x ∷ []) (sym is))
    ∙ map-append session_bytes (take i sessions) (session ∷ [])

pub sessions_all : (sessions : List Session) (i : ℕ) (session : Session) → i < length sessions → session ≡ get_or sessions i session
    → bytes_of (take i sessions) ++ session_bytes session ∷ bytes_of (drop (i + 1) sessions) ≡ bytes_of sessions
sessions_all sessions i session lt is =
    sym (append_assoc (bytes_of (take i sessions)) (session_bytes session ∷ []) (bytes_of (drop (i + 1) sessions)))
    ∙ ap (λ (x : List (List ℕ)). x ++ bytes_of (drop (i + 1) sessions)) (sym (sessions_more sessions i session lt is))
    ∙ sym (map-append session_bytes (take (i + 1) sessions) (drop (i + 1) sessions)) ∙ ap bytes_of (take-append-drop (i + 1) sessions)

module _ {C : Type 0} (holds : C → Tables → Type 0) (place : C → ℕ) (now : ℤ) where
  pub session_start : (old new : SubscriberValue C) → new.applied.store ≡ old.applied.store
      → ((tables : Tables) → seen place new tables ≡ disconnect (seen place old tables)) → FeedsSession holds place now old [] new
  session_start old new store state tables h = (
    tables,
    subst (λ (s : C). holds s tables) (sym store) h,
    subst (λ (x : Subscribed). IsFedWhole now (disconnect (seen place old tables)) [] x) (sym (state tables))
        (nothing_fed now (seen place old tables)),
  )

  session_and : (old mid new : SubscriberValue C) (bytes piece : List ℕ) → FeedsSession holds place now old bytes mid
      → Feeds holds place now mid piece new → FeedsSession holds place now old (bytes ++ piece) new
  session_and old mid new bytes piece so one tables h =
      let a = so tables h in
      let b = one a.0 a.1 in
      (b.0, b.1, two_pieces now (disconnect (seen place old tables)) (seen place mid a.0) (seen place new b.0) bytes piece a.2 b.2.1)

  session_until : (old mid new : SubscriberValue C) (bytes piece later : List ℕ) (f : Fault) → FeedsSession holds place now old bytes mid
      → FeedsUntil holds place now mid piece new f
      → FeedsSessionUntil holds place now old ((bytes ++ piece) ++ later) new f
  session_until old mid new bytes piece later f so one tables h =
      let a = so tables h in
      let b = one a.0 a.1 in
      let s = disconnect (seen place old tables) in
      let unclosed : (seen place mid a.0).closed ≡ false = stays_open now s (seen place mid a.0) bytes a.2 in (
        b.0,
        b.1,
        stop_stands now s (seen place new b.0) (bytes ++ piece) later f
            (piece_then_stop now s (seen place mid a.0) (seen place new b.0) bytes piece f a.2
            (until_of now (seen place mid a.0) (seen place new b.0) piece f unclosed b.2)),
      )

  pub none_followed : (s : SubscriberValue C) → FeedsSessions holds place now s [] s None
  none_followed s tables h = (tables, h, refl)

  follows_and : (old mid new : SubscriberValue C) (sessions : List (List ℕ)) (bytes : List ℕ)
      → FeedsSessions holds place now old sessions mid None → FeedsSession holds place now mid bytes new
      → FeedsSessions holds place now old (sessions ++ bytes ∷ []) new None
  follows_and old mid new sessions bytes so one tables h =
      let a = so tables h in
      let b = one a.0 a.1 in
      (b.0, b.1, fed_more now sessions bytes (seen place old tables) (seen place mid a.0) (seen place new b.0) a.2 b.2)

  follows_then : (old mid new : SubscriberValue C) (sessions : List (List ℕ)) (bytes : List ℕ) (later : List (List ℕ)) (f : Fault)
      → FeedsSessions holds place now old sessions mid None → FeedsSessionUntil holds place now mid bytes new f
      → FeedsSessions holds place now old (sessions ++ bytes ∷ later) new (Some f)
  follows_then old mid new sessions bytes later f so one tables h =
      let a = so tables h in
      let b = one a.0 a.1 in
      (b.0, b.1, fed_then_stopped now sessions bytes later (seen place old tables) (seen place mid a.0) (seen place new b.0) f a.2 b.2)

  pub follows : (old new : SubscriberValue C) (sessions : List (List ℕ)) (answered : Option Fault)
      → FeedsSessions holds place now old sessions new answered → FollowsSessions holds place now old sessions new answered
  follows old new sessions answered so history all_complete tables h is =
      let a = so tables h in
      (a.0, a.1, fed_followed now history sessions all_complete (seen place old tables) (seen place new a.0) answered is a.2)

  pub follows_safely : (old new : SubscriberValue C) (sessions : List (List ℕ)) (answered : Option Fault)
      → FollowsSessions holds place now old sessions new answered → FollowsSafely holds place old sessions new
  follows_safely old new sessions answered followed history all_complete tables h is =
      let a = followed history all_complete tables h is in
      (a.0, a.1, a.2.safely)

  -- the same of a loop over the pieces, and of one over the sessions
  pub session_more : (old mid new : SubscriberValue C) (pieces items : List (List ℕ)) → items ≡ pieces → (i : ℕ) (piece : List ℕ)
      → i < length items → piece ≡ get_or items i piece
      → FeedsSession holds place now old (flat_map (λ (p : List ℕ). p) (take i pieces)) mid → (fed : List ℕ) → fed ≡ piece
      → Feeds holds place now mid fed new → FeedsSession holds place now old (flat_map (λ (p : List ℕ). p) (take (i + 1) pieces)) new
  session_more old mid new pieces items same i piece lt' is' so fed that one' =
      let one : Feeds holds place now mid piece new = subst (λ (bytes : List ℕ). Feeds holds place now mid bytes new) that one' in
      let lt : i < length pieces = subst (λ (xs : List (List ℕ)). i < length xs) same lt' in
      let is : piece ≡ get_or pieces i piece = subst (λ (xs : List (List ℕ)). piece ≡ get_or xs i piece) same is' in
      subst (λ (bytes : List ℕ). FeedsSession holds place now old bytes new) (sym (joined_more pieces i piece lt is))
      (session_and old mid new (flat_map (λ (p : List ℕ). p) (take i pieces)) piece so one)

  pub session_stops : (old mid new : SubscriberValue C) (pieces items : List (List ℕ)) → items ≡ pieces
      → (i : ℕ) (piece : List ℕ) (f : Fault) → i < length items → piece ≡ get_or items i piece
      → FeedsSession holds place now old (flat_map (λ (p : List ℕ). p) (take i pieces)) mid → (fed : List ℕ) → fed ≡ piece
      → FeedsUntil holds place now mid fed new f → FeedsSessionUntil holds place now old (flat_map (λ (p : List ℕ). p) pieces) new f
  session_stops old mid new pieces items same i piece f lt' is' so fed that one' =
      let one : FeedsUntil holds place now mid piece new f =
      subst (λ (bytes : List ℕ). FeedsUntil holds place now mid bytes new f) that one' in
      let lt : i < length pieces = subst (λ (xs : List (List ℕ)). i < length xs) same lt' in
      let is : piece ≡ get_or pieces i piece = subst (λ (xs : List (List ℕ)). piece ≡ get_or xs i piece) same is' in
      subst (λ (bytes : List ℕ). FeedsSessionUntil holds place now old bytes new f) (joined_all pieces i piece lt is)
      (session_until old mid new (flat_map (λ (p : List ℕ). p) (take i pieces)) piece (flat_map (λ (p : List ℕ). p) (drop (i + 1) pieces)) f
      so one)

  pub session_whole : (old new : SubscriberValue C) (pieces : List (List ℕ)) (i : ℕ) → take i pieces ≡ pieces
      → FeedsSession holds place now old (flat_map (λ (p : List ℕ). p) (take i pieces)) new
      → FeedsSession holds place now old (flat_map (λ (p : List ℕ). p) pieces) new
  session_whole old new pieces i all so =
      subst (λ (xs : List (List ℕ)). FeedsSession holds place now old (flat_map (λ (p : List ℕ). p) xs) new) all so

  pub follows_more : (old mid new : SubscriberValue C) (sessions : List Session) (i : ℕ) (session : Session) → i < length sessions
      → session ≡ get_or sessions i session
      → FeedsSessions holds place now old (bytes_of (take i sessions)) mid None
      → FeedsSession holds place now mid (session_bytes session) new
      → FeedsSessions holds place now old (bytes_of (take (i + 1) sessions)) new None
  follows_more old mid new sessions i session lt is so one =
      subst (λ (all : List (List ℕ)). FeedsSessions holds place now old all new None) (sym (sessions_more sessions i session lt is))
      (follows_and old mid new (bytes_of (take i sessions)) (session_bytes session) so one)

  pub follows_stops : (old mid new : SubscriberValue C) (sessions : List Session) (i : ℕ) (session : Session) (f : Fault)
      → i < length sessions → session ≡ get_or sessions i session
      → FeedsSessions holds place now old (bytes_of (take i sessions)) mid None
      → FeedsSessionUntil holds place now mid (session_bytes session) new f
      → FeedsSessions holds place now old (bytes_of sessions) new (Some f)
  follows_stops old mid new sessions i session f lt is so one =
      subst (λ (all : List (List ℕ)). FeedsSessions holds place now old all new (Some f)) (sessions_all sessions i session lt is)
      (follows_then old mid new (bytes_of (take i sessions)) (session_bytes session) (bytes_of (drop (i + 1) sessions)) f so one)

  pub follows_whole : (old new : SubscriberValue C) (sessions : List Session) (i : ℕ) → take i sessions ≡ sessions
      → FeedsSessions holds place now old (bytes_of (take i sessions)) new None
      → FeedsSessions holds place now old (bytes_of sessions) new None
  follows_whole old new sessions i all so = subst (λ (xs : List Session). FeedsSessions holds place now old (bytes_of xs) new None) all so

-- the fault that is answered
pub answers_fault : {A : Type 0} (r : Result A Fault) (f : Fault) (P : Option Fault → Type 0) → IsErrAnd r (λ y. y ≡ f) → P (Some f)
    → P (fault_in r)
answers_fault (Ok x) f P is p = absurd is
answers_fault (Err y) f P is p = subst (λ k. P (Some k)) (sym is) p
