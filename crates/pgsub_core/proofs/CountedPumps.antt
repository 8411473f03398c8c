-- What is counted of pieces that are read and fed one after the other.
use Rattle.std.proofs.Common.{◌≡◌, ◌++◌, ◌∷◌, ◌+◌, ℕ, ℤ, List, [], Option, length, refl, sym, subst}
use Rattle.std.proofs.Common.{append-nil, length-append, arith}
use Rattle.std.proofs.lemmas.List.Elements.{All-nil}
use Rattle.std.specs.Io.KnownBytes.{Consumes, Keeps}
use Rattle.pgapply.specs.Tallies.{Tally}
use Rattle.pgapply.specs.Value.{Tables}
use Rattle.pgsub_core.specs.declared.fault.Fault.{Fault}
use Rattle.pgsub_core.specs.Subscriber.SubscriberValue.{SubscriberValue, seen, Feeds, FeedsUntil}
use Rattle.pgsub_core.specs.Machine.Counted.{FeedsCounted, FeedsCountedFront}
use Rattle.pgsub_core.specs.Calls.Pumping.{bytes_in, FeedsPieces, CountsPieces, PumpsCounted}
use Rattle.pgsub_core.specs.Calls.Pumping.{PumpsCountedUntil}
use Rattle.pgsub_core.proofs.Pieces.{counted_pieces, front_pieces}
use Rattle.pgsub_core.proofs.Pumped.{IsPiece, nothing_read, read_on, kept_on, read_more, bytes_more}
use Rattle.pgsub_core.proofs.Pumped.{pieces_and, pieces_stop}

module _ {C : Type 0} (holds : C → Tables → Type 0) (place : C → ℕ) (count : C → Tally) (now : ℤ) where
  counted_and : (old mid new : SubscriberValue C) (bytes piece : List ℕ) → Feeds holds place now old bytes mid
      → FeedsCounted holds place count now old bytes mid → FeedsCounted holds place count now mid piece new
      → FeedsCounted holds place count now old (bytes ++ piece) new
  counted_and old mid new bytes piece fed so one tables h =
      let a = fed tables h in
      counted_pieces now (seen place old tables) (seen place mid a.0) bytes piece (place mid.applied.store) (place new.applied.store)
      (count old.applied.store) (count mid.applied.store) (count new.applied.store) a.2.1 (so tables h) (one a.0 a.1)

  front_and : (old mid new : SubscriberValue C) (bytes piece : List ℕ) → Feeds holds place now old bytes mid
      → FeedsCounted holds place count now old bytes mid → FeedsCountedFront holds place count now mid piece new
      → FeedsCountedFront holds place count now old (bytes ++ piece) new
  front_and old mid new bytes piece fed so one tables h =
      let a = fed tables h in
      front_pieces now (seen place old tables) (seen place mid a.0) bytes piece (place mid.applied.store) (place new.applied.store)
      (count old.applied.store) (count mid.applied.store) (count new.applied.store) a.2.1 (so tables h) (one a.0 a.1)

  counts_and : (old mid new : SubscriberValue C) (pieces : List (List ℕ)) (piece : List ℕ) → FeedsPieces holds place now old pieces mid
      → CountsPieces holds place count now old pieces mid → FeedsCounted holds place count now mid piece new
      → CountsPieces holds place count now old (pieces ++ piece ∷ []) new
  counts_and old mid new [] piece same so one =
      subst (λ (bytes : List ℕ). FeedsCounted holds place count now old bytes new) (sym (append-nil piece))
      (subst (λ (s : SubscriberValue C). FeedsCounted holds place count now s piece new) same one)
  counts_and old mid new (first ∷ pieces) piece fed so one =
      subst (λ (bytes : List ℕ). FeedsCounted holds place count now old bytes new) (sym (bytes_more (first ∷ pieces) piece))
      (counted_and old mid new (bytes_in (first ∷ pieces)) piece fed so one)

  counts_stop : (old mid new : SubscriberValue C) (pieces : List (List ℕ)) (piece : List ℕ) → FeedsPieces holds place now old pieces mid
      → CountsPieces holds place count now old pieces mid → FeedsCountedFront holds place count now mid piece new
      → FeedsCountedFront holds place count now old (bytes_in (pieces ++ piece ∷ [])) new
  counts_stop old mid new [] piece same so one =
      subst (λ (bytes : List ℕ). FeedsCountedFront holds place count now old bytes new) (sym (append-nil piece))
      (subst (λ (s : SubscriberValue C). FeedsCountedFront holds place count now s piece new) same one)
  counts_stop old mid new (first ∷ pieces) piece fed so one =
      subst (λ (bytes : List ℕ). FeedsCountedFront holds place count now old bytes new) (sym (bytes_more (first ∷ pieces) piece))
      (front_and old mid new (bytes_in (first ∷ pieces)) piece fed so one)

  -- before the first read
  pub counts_none : (unread : Option (List ℕ)) (reads : ℕ) (s : SubscriberValue C)
      → PumpsCounted holds place count now unread unread reads reads s s
  counts_none unread reads s =
      record {
        pieces = [];
        are_read = record { each = All-nil IsPiece; read = nothing_read unread };
        counted = omega arith;
        fed = refl;
        counts = refl;
      }

  -- one piece more
  pub counts_more : (a b c : Option (List ℕ)) (reads reads' now_reads : ℕ) (old mid new : SubscriberValue C) (piece : List ℕ)
      → now_reads ≡ reads' → PumpsCounted holds place count now a b reads reads' old mid → Consumes b c piece → IsPiece piece
      → Feeds holds place now mid piece new → FeedsCounted holds place count now mid piece new
      → PumpsCounted holds place count now a c reads (now_reads + 1) old new
  counts_more a b c reads reads' now_reads old mid new piece same so next is one counts =
      let longer : length (so.pieces ++ piece ∷ []) ≡ length so.pieces + 1 = length-append so.pieces (piece ∷ []) in
      let was = so.counted in
      record {
        pieces = so.pieces ++ piece ∷ [];
        are_read = read_more a b c so.pieces piece so.are_read next is;
        counted = omega (arith, longer, was, same);
        fed = pieces_and holds place now old mid new so.pieces piece so.fed one;
        counts = counts_and old mid new so.pieces piece so.fed so.counts counts;
      }

  -- the piece that stops it
  pub counts_until : (a b c : Option (List ℕ)) (reads reads' : ℕ) (old mid new : SubscriberValue C) (piece : List ℕ) (f : Fault)
      → PumpsCounted holds place count now a b reads reads' old mid → Consumes b c piece → IsPiece piece
      → FeedsUntil holds place now mid piece new f → FeedsCountedFront holds place count now mid piece new
      → PumpsCountedUntil holds place count now a c old new f
  counts_until a b c reads reads' old mid new piece f so next is one counts = record {
    pieces = so.pieces ++ piece ∷ [];
    are_read = read_more a b c so.pieces piece so.are_read next is;
    stops = pieces_stop holds place now old mid new so.pieces piece f so.fed one;
    counts = counts_stop old mid new so.pieces piece so.fed so.counts counts;
  }

  -- a read that gives no byte, and one that fails
  pub counts_end : (a b c : Option (List ℕ)) (reads reads' : ℕ) (old new : SubscriberValue C)
      → PumpsCounted holds place count now a b reads reads' old new → Consumes b c []
      → PumpsCounted holds place count now a c reads reads' old new
  counts_end a b c reads reads' old new so next =
      let bytes = bytes_in so.pieces in
      record {
        pieces = so.pieces;
        are_read = record {
          each = so.are_read.each;
          read = subst (Consumes a c) (append-nil bytes) (read_on a b c bytes [] so.are_read.read next);
        };
        counted = so.counted;
        fed = so.fed;
        counts = so.counts;
      }

  pub counts_failed : (a b c : Option (List ℕ)) (reads reads' : ℕ) (old new : SubscriberValue C)
      → PumpsCounted holds place count now a b reads reads' old new → Keeps b c
      → PumpsCounted holds place count now a c reads reads' old new
  counts_failed a b c reads reads' old new so next =
      record {
        pieces = so.pieces;
        are_read = record { each = so.are_read.each; read = kept_on a b c (bytes_in so.pieces) so.are_read.read next };
        counted =
            so.counted;
        fed = so.fed;
        counts = so.counts;
      }
