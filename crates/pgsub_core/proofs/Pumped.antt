-- Pieces that are read and fed one after the other.
use Rattle.std.proofs.Common.{◌≡◌, ◌≢◌, ◌∙◌, ◌++◌, ◌∷◌, ◌<◌, ◌≤◌, ◌+◌, ℕ, ℤ, List, [], Option, Some}
use Rattle.std.proofs.Common.{None, false, length, take, refl, sym, ap, subst, append-nil}
use Rattle.std.proofs.Common.{append_assoc, length-append, zero, suc, arith}
use Rattle.std.specs.List.{All}
use Rattle.std.proofs.lemmas.Grind.{flat_map-append}
use Rattle.std.proofs.lemmas.List.{length-take-le}
use Rattle.std.proofs.lemmas.List.Elements.{All-append, All-nil}
use Rattle.std.specs.Io.KnownBytes.{Consumes, Keeps}
use Rattle.pgapply.specs.Value.{Tables}
use Rattle.pgsub_core.specs.declared.fault.Fault.{Fault}
use Rattle.pgsub_core.specs.Subscriber.Subscribed.{Subscribed, disconnect}
use Rattle.pgsub_core.specs.Machine.Feeding.{IsFedWhole}
use Rattle.pgsub_core.specs.Subscriber.SubscriberValue.{SubscriberValue, seen, Feeds, FeedsUntil}
use Rattle.pgsub_core.specs.Subscriber.Following.{FeedsSession}
use Rattle.pgsub_core.specs.Calls.Pumping.{bytes_in, AreRead, FeedsPieces, Pumps, PumpsUntil}
use Rattle.pgsub_core.proofs.Starting.{fed_until}
use Rattle.pgsub_core.proofs.FollowSteps.{until_of}
use Rattle.pgsub_core.proofs.Pieces.{two_pieces, piece_then_stop, stays_open, nothing_fed}

abbrev pub IsPiece : List ℕ → Type 0
IsPiece piece = (0 < length piece) × (length piece ≤ 4096)

pub nothing_read : (unread : Option (List ℕ)) → Consumes unread unread []
nothing_read None = tt
nothing_read (Some xs) = refl

pub read_on : (a b c : Option (List ℕ)) (f p : List ℕ) → Consumes a b f → Consumes b c p → Consumes a c (f ++ p)
read_on None b c f p one two = tt
read_on (Some xs) None c f p one two = absurd one
read_on (Some xs) (Some ys) None f p one two = absurd two
read_on (Some xs) (Some ys) (Some zs) f p one two = one ∙ ap (λ r. f ++ r) two ∙ sym (append_assoc f p zs)

pub kept_on : (a b c : Option (List ℕ)) (f : List ℕ) → Consumes a b f → Keeps b c → Consumes a c f
kept_on None b c f one two = tt
kept_on (Some xs) None c f one two = absurd one
kept_on (Some xs) (Some ys) None f one two = absurd two
kept_on (Some xs) (Some ys) (Some zs) f one two = one ∙ ap (λ r. f ++ r) (sym two)

-- the front of the room that a read filled
pub taken_piece : (room : List ℕ) (count : ℕ) → count ≤ length room → length room ≡ 4096 → count ≢ 0 → IsPiece (take count room)
taken_piece room count within room_is some =
    let same : length (take count room) ≡ count = length-take-le count room within in
    (omega (arith, same, some), omega (arith, same, within, room_is))

pub bytes_more : (pieces : List (List ℕ)) (piece : List ℕ) → bytes_in (pieces ++ piece ∷ []) ≡ bytes_in pieces ++ piece
bytes_more pieces piece =
    flat_map-append (λ (p : List ℕ). p) pieces (piece ∷ []) ∙ ap (λ (x : List ℕ). bytes_in pieces ++ x) (append-nil piece)

one_piece : (piece : List ℕ) → IsPiece piece → All (λ (p : List ℕ). (0 < length p) × (length p ≤ 4096)) (piece ∷ [])
one_piece piece is zero d lt = is
one_piece piece is (suc k) d lt = absurd (omega arith)

pub read_more : (a b c : Option (List ℕ)) (pieces : List (List ℕ)) (piece : List ℕ) → AreRead a b pieces → Consumes b c piece
    → IsPiece piece → AreRead a c (pieces ++ piece ∷ [])
read_more a b c pieces piece so next is = record {
  each = All-append (λ (p : List ℕ). (0 < length p) × (length p ≤ 4096)) pieces (piece ∷ []) so.each (one_piece piece is);
  read = subst (Consumes a c) (sym (bytes_more pieces piece)) (read_on a b c (bytes_in pieces) piece so.read next);
}

module _ {C : Type 0} (holds : C → Tables → Type 0) (place : C → ℕ) (now : ℤ) where
  fed_and : (old mid new : SubscriberValue C) (bytes piece : List ℕ) → Feeds holds place now old bytes mid
      → Feeds holds place now mid piece new → Feeds holds place now old (bytes ++ piece) new
  fed_and old mid new bytes piece so one tables h =
      let a = so tables h in
      let b = one a.0 a.1 in
      (b.0, b.1, (a.2.0, two_pieces now (seen place old tables) (seen place mid a.0) (seen place new b.0) bytes piece a.2.1 b.2.1))

  stops_and : (old mid new : SubscriberValue C) (bytes piece : List ℕ) (f : Fault) → Feeds holds place now old bytes mid
      → FeedsUntil holds place now mid piece new f → FeedsUntil holds place now old (bytes ++ piece) new f
  stops_and old mid new bytes piece f so one tables h =
      let a = so tables h in
      let b = one a.0 a.1 in
      let unclosed : (seen place mid a.0).closed ≡ false =
      stays_open now (seen place old tables) (seen place mid a.0) bytes a.2.1 ∙ a.2.0 in (
        b.0,
        b.1,
        fed_until now (seen place old tables) (seen place new b.0) (bytes ++ piece) f a.2.0
            (piece_then_stop now (seen place old tables) (seen place mid a.0) (seen place new b.0) bytes piece f a.2.1
            (until_of now (seen place mid a.0) (seen place new b.0) piece f unclosed b.2)),
      )

  pub pieces_and : (old mid new : SubscriberValue C) (pieces : List (List ℕ)) (piece : List ℕ) → FeedsPieces holds place now old pieces mid
      → Feeds holds place now mid piece new → FeedsPieces holds place now old (pieces ++ piece ∷ []) new
  pieces_and old mid new [] piece same one =
      subst (λ (bytes : List ℕ). Feeds holds place now old bytes new) (sym (append-nil piece))
      (subst (λ (s : SubscriberValue C). Feeds holds place now s piece new) same one)
  pieces_and old mid new (first ∷ pieces) piece so one =
      subst (λ (bytes : List ℕ). Feeds holds place now old bytes new) (sym (bytes_more (first ∷ pieces) piece))
      (fed_and old mid new (bytes_in (first ∷ pieces)) piece so one)

  pub pieces_stop : (old mid new : SubscriberValue C) (pieces : List (List ℕ)) (piece : List ℕ) (f : Fault)
      → FeedsPieces holds place now old pieces mid → FeedsUntil holds place now mid piece new f
      → FeedsUntil holds place now old (bytes_in (pieces ++ piece ∷ [])) new f
  pieces_stop old mid new [] piece f same one =
      subst (λ (bytes : List ℕ). FeedsUntil holds place now old bytes new f) (sym (append-nil piece))
      (subst (λ (s : SubscriberValue C). FeedsUntil holds place now s piece new f) same one)
  pieces_stop old mid new (first ∷ pieces) piece f so one =
      subst (λ (bytes : List ℕ). FeedsUntil holds place now old bytes new f) (sym (bytes_more (first ∷ pieces) piece))
      (stops_and old mid new (bytes_in (first ∷ pieces)) piece f so one)

  -- before the first read
  pub pumps_none : (unread : Option (List ℕ)) (reads : ℕ) (s : SubscriberValue C) → Pumps holds place now unread unread reads reads s s
  pumps_none unread reads s =
      record {
        pieces = [];
        are_read =
            record { each = All-nil (λ (p : List ℕ). (0 < length p) × (length p ≤ 4096)); read = nothing_read unread };
        counted = omega arith;
        fed = refl;
      }

  -- one piece more
  pub pumps_more : (a b c : Option (List ℕ)) (reads reads' now_reads : ℕ) (old mid new : SubscriberValue C) (piece : List ℕ)
      → now_reads ≡ reads' → Pumps holds place now a b reads reads' old mid → Consumes b c piece → IsPiece piece
      → Feeds holds place now mid piece new → Pumps holds place now a c reads (now_reads + 1) old new
  pumps_more a b c reads reads' now_reads old mid new piece same so next is one =
      let longer : length (so.pieces ++ piece ∷ []) ≡ length so.pieces + 1 = length-append so.pieces (piece ∷ []) in
      let was = so.counted in
      record {
        pieces = so.pieces ++ piece ∷ [];
        are_read = read_more a b c so.pieces piece so.are_read next is;
        counted = omega (arith, longer, was, same);
        fed = pieces_and old mid new so.pieces piece so.fed one;
      }

  -- the piece that stops it
  pub pumps_until : (a b c : Option (List ℕ)) (reads reads' : ℕ) (old mid new : SubscriberValue C) (piece : List ℕ) (f : Fault)
      → Pumps holds place now a b reads reads' old mid → Consumes b c piece → IsPiece piece
      → FeedsUntil holds place now mid piece new f → PumpsUntil holds place now a c old new f
  pumps_until a b c reads reads' old mid new piece f so next is one =
      record {
        pieces = so.pieces ++ piece ∷ [];
        are_read = read_more a b c so.pieces piece so.are_read next is;
        stops = pieces_stop old mid new so.pieces piece f so.fed one;
      }

  -- a read that gives no byte, and one that fails
  pub pumps_end : (a b c : Option (List ℕ)) (reads reads' : ℕ) (old new : SubscriberValue C)
      → Pumps holds place now a b reads reads' old new → Consumes b c [] → Pumps holds place now a c reads reads' old new
  pumps_end a b c reads reads' old new so next =
      let bytes = bytes_in so.pieces in
      record {
        pieces = so.pieces;
        are_read = record {
          each = so.are_read.each;
          read = subst (Consumes a c) (append-nil bytes) (read_on a b c bytes [] so.are_read.read next);
        };
        counted = so.counted;
        fed = so.fed;
      }

  pub pumps_failed : (a b c : Option (List ℕ)) (reads reads' : ℕ) (old new : SubscriberValue C)
      → Pumps holds place now a b reads reads' old new → Keeps b c → Pumps holds place now a c reads reads' old new
  pumps_failed a b c reads reads' old new so next =
      record {
        pieces = so.pieces;
        are_read = record { each = so.are_read.each; read = kept_on a b c (bytes_in so.pieces) so.are_read.read next };
        counted =
            so.counted;
        fed = so.fed;
      }

  pieces_session : (old new : SubscriberValue C) → ((tables : Tables) → seen place old tables ≡ disconnect (seen place old tables))
      → (pieces : List (List ℕ)) → FeedsPieces holds place now old pieces new
      → FeedsSession holds place now old (bytes_in pieces) new
  pieces_session old new first [] same tables h = (
    tables,
    subst (λ (s : SubscriberValue C). holds s.applied.store tables) (sym same) h,
    subst (λ (x : Subscribed). IsFedWhole now (disconnect (seen place old tables)) [] x)
        (sym (first tables) ∙ ap (λ (s : SubscriberValue C). seen place s tables) (sym same)) (nothing_fed now (seen place old tables)),
  )
  pieces_session old new first (piece ∷ pieces) so tables h =
      let a = so tables h in
      (a.0, a.1, subst (λ (x : Subscribed). IsFedWhole now x (bytes_in (piece ∷ pieces)) (seen place new a.0)) (first tables) a.2.1)

  -- Of a subscriber that stands as after a disconnection, what was pumped is its session so far.
  pub pumps_session : (unread rest : Option (List ℕ)) (reads reads' : ℕ) (old new : SubscriberValue C)
      → ((tables : Tables) → seen place old tables ≡ disconnect (seen place old tables))
      → (so : Pumps holds place now unread rest reads reads' old new) → FeedsSession holds place now old (bytes_in so.pieces) new
  pumps_session unread rest reads reads' old new first so = pieces_session old new first so.pieces so.fed
