-- A store for the worked live run, and what makes a part of its bytes a step of it.
use Rattle.std.proofs.Common.{◌≡◌, ◌++◌, List, ℕ, Bool, true, false, Some, refl, arith, ap, sym}
use Rattle.std.proofs.Common.{subst, inr, None}
use Rattle.pgwire.specs.Frames as wire
use Rattle.pgapply.specs.Tallies.{Tally}
use Rattle.pgapply.specs.Value.{Tables}
use Rattle.pgsub_core.specs.Machine.Counted.{IsCountedWhole}
use Rattle.pgsub_core.specs.Machine.Feeding.{waiting, done_frames, IsFed, IsFedWhole, IsFedUntil}
use Rattle.pgsub_core.specs.Subscriber.Subscribed.{Subscribed, progress_of}
use Rattle.pgsub_core.specs.Subscriber.SubscriberValue.{SubscriberValue, seen}
use Rattle.pgsub_core.specs.declared.fault.Fault.TheVariants as fault
use Rattle.pgsub_core.proofs.OneOutcome.{piece_one}
use Rattle.pgfollow.specs.Live.{IsFedPart, IsStep, Step, settled}
use Rattle.pgrecovery.proofs.LiveTakes.{Take, now}

-- ---- the store: its tables, its position, and its tally

pub record Store : Type 0 where
  pub tables : Tables
  pub position : ℕ
  pub tally : Tally

abbrev pub One : Type 0
One = SubscriberValue Store

abbrev pub holds : Store → Tables → Type 0
holds store tables = store.tables ≡ tables

abbrev pub stands : Store → ℕ
stands store = store.position

-- a crash loses nothing of this store
abbrev pub reopens : Store → Store → Type 0
reopens store other = other ≡ store

abbrev pub serves : Store → Type 0
serves store = Unit {0}

abbrev pub count : Store → Tally
count store = store.tally

-- a subscriber over such a store
abbrev pub over : Tally → Subscribed → One
over tally s = record {
  applied = record {
    store = record { tables = s.tables; position = s.position; tally = tally };
    confirmed = s.confirmed;
    received = s.received;
    version = s.version;
    limit = s.limit;
    order = s.order;
    held = s.held;
    relations = s.relations;
    replies = s.replies;
  };
  framing = record { max_frame = s.max_frame; closed = s.closed; partial = s.partial; copy_done = s.copy_done };
}

-- ---- what makes a step

-- The frames that the part completes are taken and counted, and less than one frame is left, with
-- which the subscriber is this.
pub record FeedsPart (m m' : Tally) (old new : Subscribed) (part : List ℕ) : Type 0 where
  pub fs : List wire.Frame
  pub rest : List ℕ
  pub state : Subscribed
  pub deframed : wire.IsDeframedAs old.max_frame (waiting old part) (done_frames old ++ fs) rest
  pub take : Take old fs state m m'
  pub left : new ≡ record state { partial = rest }
  pub unclosed : old.closed ≡ false

module _ {m m' : Tally} {old new : Subscribed} {part : List ℕ} (fed : FeedsPart m m' old new part) where
  whole : IsFedWhole now old part new
  whole = record { fs = fed.fs; rest = fed.rest; state = fed.state; deframed = fed.deframed; takes = fed.take.takes; left = fed.left }

  counted : IsCountedWhole now old part new.position m m'
  counted = record {
    fs = fed.fs;
    rest = fed.rest;
    state = fed.state;
    deframed = fed.deframed;
    takes = fed.take.takes;
    stands = ap (λ (s : Subscribed). s.position) fed.left;
    counts = fed.take.counts;
  }

  -- the same is true of a subscriber for which memory runs out behind these frames
  until : IsFedUntil now old part (record new { closed = true }) fault.Memory
  until = record {
    fs = fed.fs;
    rest = fed.rest;
    state = fed.state;
    whole = fed.deframed.whole;
    each = fed.deframed.each;
    takes = fed.take.takes;
    left = record {
      tables = ap (λ (s : Subscribed). s.tables) fed.left;
      progress = ap progress_of fed.left;
      settings = record {
        version = ap (λ (s : Subscribed). s.version) fed.left;
        max_frame = ap (λ (s : Subscribed). s.max_frame) fed.left;
        limit = ap (λ (s : Subscribed). s.limit) fed.left;
      };
      replies = ap (λ (s : Subscribed). s.replies) fed.left;
    };
    closed = refl;
    why = tt;
  }

  -- and the part leaves nothing else
  pub only : (other : Subscribed) → IsFed now old part other None → other ≡ new
  only other took = (piece_one now old new other part None None tt tt (fed.unclosed, whole) took).1

  fed_part : IsFedPart holds stands reopens serves count now (over m old) part (over m' new)
  fed_part = record {
    feeds = λ tables is.
        subst (λ (x : Tables). (y : Tables) × (new.tables ≡ y)
        × IsFed now (seen stands (over m old) x) part (seen stands (over m' new) y) None)
        is (new.tables, refl, (fed.unclosed, whole));
    counts = λ tables is.
        subst (λ (x : Tables). IsCountedWhole now (seen stands (over m old) x) part new.position m m') is counted;
    crash = λ other same.
        inr (
          tt,
          omega (arith, ap stands same),
          (
            over m' (record new { closed = true }),
            sym same,
            λ tables is.
                subst (λ (x : Tables). (y : Tables) × (new.tables ≡ y)
                × IsFed now (seen stands (over m old) x) part (seen stands (over m' (record new { closed = true })) y) (Some fault.Memory))
                is (new.tables, refl, (fed.unclosed, until)),
          ),
        );
  }

-- one part: its bytes, the store's tally then, and all else that the subscriber is
pub record Part : Type 0 where
  pub bytes : List ℕ
  pub tally : Tally
  pub fed : Subscribed

abbrev pub step_of : Part → Step Store
step_of p = record {
  now = now;
  part = p.bytes;
  ends = p.fed.copy_done;
  fed = over p.tally p.fed;
  after = over p.tally (settled p.fed.copy_done p.fed);
}

settled_over : (b : Bool) (m : Tally) (s : Subscribed) (tables : Tables)
    → seen stands (over m (settled b s)) tables ≡ settled b (seen stands (over m s) tables)
settled_over false m s tables = refl
settled_over true m s tables = refl

same_store : (b : Bool) (m : Tally) (s : Subscribed) → (over m (settled b s)).applied.store ≡ (over m s).applied.store
same_store false m s = refl
same_store true m s = refl

pub is_step : {m : Tally} {old : Subscribed} (p : Part) → FeedsPart m p.tally old p.fed p.bytes
    → IsStep holds stands reopens serves count (over m old) (step_of p)
is_step p fed = record {
  is_fed = fed_part fed;
  ends = refl;
  store = same_store p.fed.copy_done p.tally p.fed;
  state = settled_over p.fed.copy_done p.tally p.fed;
}
