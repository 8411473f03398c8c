-- A worked part: a keepalive, and behind it a frame with a message that no server sends. What
-- stands before that frame has all that is taken, and less hasn't.
use Rattle.std.proofs.Common.{◌≡◌, ◌++◌, ◌∷◌, [], List, ℕ, true, refl, arith, pos, inr}
use Rattle.std.specs.FinMap as map
use Rattle.pgorder.specs.declared.Version.TheVariants.{Two}
use Rattle.pgwire.specs.Frames as wire
use Rattle.pgwire.specs.Payloads.{payload_at}
use Rattle.pgwire.specs.declared.fault.WireFault.TheVariants as wire_fault
use Rattle.pgsub_core.specs.declared.fault.Fault.{Fault}
use Rattle.pgsub_core.specs.declared.fault.Fault.TheVariants as fault
use Rattle.pgsub_core.specs.Machine.Replica.{Running, Stopped}
use Rattle.pgsub_core.specs.Machine.Taking.{take_frame, take_frames}
use Rattle.pgsub_core.specs.Machine.Feeding.{IsFedUntil}
use Rattle.pgsub_core.specs.Subscriber.Subscribed.{Subscribed, newly}
use Rattle.pgfollow.specs.Told.{HaveTaken}
use Rattle.pgfollow.proofs.Within.{taken_before_fault}

abbrev s : Subscribed
s = newly map.empty 304 Two 1000 1000

-- it ends at 512, and asks for no reply
abbrev keepalive : wire.Frame
keepalive =
    wire.CopyData (107 ∷ 0 ∷ 0 ∷ 0 ∷ 0 ∷ 0 ∷ 0 ∷ 2 ∷ 0 ∷ 0 ∷ 0 ∷ 0 ∷ 0 ∷ 0 ∷ 0 ∷ 0 ∷ 0 ∷ 0 ∷ [])

abbrev unknown : wire.Frame
unknown = wire.CopyData (120 ∷ [])

abbrev part : List ℕ
part = wire.frame keepalive ++ wire.frame unknown

abbrev after : Subscribed
after = record s { confirmed = 512; received = 512 }

abbrev rejected : Fault
rejected = fault.Wire (wire_fault.UnknownServerMessage 120)

is_taken : take_frames (pos 7) s (keepalive ∷ []) ≡ Running after
unfolding payload_at
is_taken = refl

is_rejected : take_frame (pos 7) after unknown ≡ Stopped after rejected
unfolding payload_at
is_rejected = refl

abbrev stopped : Subscribed
stopped = record after { closed = true }

abbrev fed : IsFedUntil (pos 7) s part stopped rejected
fed = record {
  fs = keepalive ∷ [];
  rest = wire.frame unknown;
  state = after;
  whole = refl;
  each = ((omega arith, omega arith), tt);
  takes = is_taken;
  left = record {
    tables = refl;
    progress = refl;
    settings = record { version = refl; max_frame = refl; limit = refl };
    replies = refl;
  };
  closed = refl;
  why = inr (unknown, after, record { more = []; going_on = refl; whole = refl; allowed = (omega arith, omega arith) }, is_rejected);
}

keepalive_has_all : HaveTaken s part (wire.frame keepalive)
keepalive_has_all =
    taken_before_fault (pos 7) s stopped (wire.frame keepalive) (wire.frame unknown) [] rejected (λ e. cc) (λ e. cc) (λ e. cc) fed refl

nothing_has_less : HaveTaken s part [] → ⊥
nothing_has_less have =
    let found = have (pos 7) stopped (record {
      fs = keepalive ∷ [];
      rest = wire.frame unknown;
      state = after;
      whole = refl;
      each = fed.each;
      takes = is_taken;
      left = fed.left;
      closed = refl;
      why = tt;
    }) in
    absurd (cc)
