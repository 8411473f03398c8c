-- Statuses that rise.
use Rattle.std.proofs.Common.{◌≡◌, ◌≤◌, ◌∙◌, ◌++◌, ℕ, ℤ, List, [], ◌∷◌, Bool, true, false, cond}
use Rattle.std.proofs.Common.{nat_eq, Result, Ok, Err, refl, sym, ap, subst, append_assoc}
use Rattle.std.proofs.Common.{append-nil, arith}
use Rattle.std.specs.List.{AllByRecursion, flat_map}
use Rattle.std.proofs.lemmas.Grind.{flat_map-append}
use Rattle.pglogical.specs.Reading.{message_at}
use Rattle.pglogical.specs.declared.message.Message.{Message}
use Rattle.pglogical.specs.declared.fault.DecodeFault.{DecodeFault}
use Rattle.pgorder.specs.States.{is_in_block}
use Rattle.pgwire.specs.Frames.{Frame, CopyData, CopyDone}
use Rattle.pgwire.specs.Payloads.{ServerMessage, XLogData, Keepalive, payload_at}
use Rattle.pgwire.specs.declared.fault.WireFault.{WireFault}
use Rattle.pgwire.specs.Statuses.{status_frame}
use Rattle.pgwire.specs.declared.status.Status.{Status}
use Rattle.pgsub_core.specs.Server.History.{Transaction}
use Rattle.pgsub_core.specs.Subscriber.Safe.{NothingBetween}
use Rattle.pgsub_core.specs.Server.Stream.{Sent, Data}
use Rattle.pgsub_core.specs.Server.Stream as stream
use Rattle.pgsub_core.specs.Machine.Replica.{Running}
use Rattle.pgsub_core.specs.Subscriber.Subscribed.{Subscribed, status_of}
use Rattle.pgsub_core.specs.Machine.Taking.{take, take_message, take_payload, take_frame}
use Rattle.pgsub_core.specs.Machine.Taking.{take_frames}
use Rattle.pgsub_core.specs.Subscriber.Confirming.{IsSafeStatus, AreSafeReplies}
use Rattle.pgsub_core.specs.Machine.Feeding.{IsFedWhole}
use Rattle.pgsub_core.specs.Subscriber.SubscriberValue.{SubscriberValue}
use Rattle.pgsub_core.proofs.Steps.{running, goes_through, takes_one, takes_reply}
use Rattle.pgfollow.specs.Live.{news, status_at}
use Rattle.pgfollow.specs.Told.{Rises, AreRising}

rises_by : (low high : ℕ) (statuses : List Status) → Rises low statuses high → low ≤ high
rises_by low high [] h = h
rises_by low high (status ∷ statuses) h = let more = rises_by status.flushed high statuses h.2 in omega (arith, more, h.1)

rises_join : (low mid high : ℕ) (a b : List Status) → Rises low a mid → Rises mid b high → Rises low (a ++ b) high
rises_join low mid high [] b h k = lowered low mid high b h k
  where
    lowered : (low mid high : ℕ) (b : List Status) → low ≤ mid → Rises mid b high → Rises low b high
    lowered low mid high [] le k = omega (arith, le, k)
    lowered low mid high (status ∷ b) le k = (k.0, omega (arith, le, k.1), k.2)
rises_join low mid high (status ∷ a) b h k = (h.0, h.1, rises_join status.flushed mid high a b h.2 k)

pub none_rise : (low high : ℕ) → low ≤ high → AreRising low [] high
none_rise low high le = record { statuses = []; are = refl; rise = le }

pub one_rises : (low high : ℕ) (status : Status) → status.applied ≡ status.flushed → low ≤ status.flushed → status.flushed ≤ high
    → AreRising low (status_frame status) high
one_rises low high status same le by =
    record { statuses = status ∷ []; are = sym (append-nil (status_frame status)); rise = (same, le, by) }

pub rising_join : (low mid high : ℕ) (a b : List ℕ) → AreRising low a mid → AreRising mid b high → AreRising low (a ++ b) high
rising_join low mid high a b x y = record {
  statuses = x.statuses ++ y.statuses;
  are = ap (λ bs. bs ++ b) x.are ∙ ap (λ bs. flat_map status_frame x.statuses ++ bs) y.are
      ∙ sym (flat_map-append status_frame x.statuses y.statuses);
  rise = rises_join low mid high x.statuses y.statuses x.rise y.rise;
}

pub rising_by : (low high : ℕ) (bytes : List ℕ) → AreRising low bytes high → low ≤ high
rising_by low high bytes are = rises_by low high are.statuses are.rise

nothing_below : (history : List Transaction) (position c d : ℕ) → d ≤ c → NothingBetween history position c
    → NothingBetween history position d
nothing_below [] position c d le nothing = tt
nothing_below (t ∷ history) position c d le nothing =
    ((λ changes by. nothing.0 changes (omega (arith, le, by))), nothing_below history position c d le nothing.1)

-- what statuses that rise confirm is stored where the highest is
all_safe : (history : List Transaction) (s : Subscribed) (low : ℕ) (statuses : List Status) → NothingBetween history s.position s.confirmed
    → Rises low statuses s.confirmed → AllByRecursion (IsSafeStatus history s) statuses
all_safe history s low [] stored h = tt
all_safe history s low (status ∷ statuses) stored h =
    let by = rises_by status.flushed s.confirmed statuses h.2 in (
      record { same = h.0; confirmed = by; stored = nothing_below history s.position s.confirmed status.flushed by stored },
      all_safe history s status.flushed statuses stored h.2,
    )

pub rising_safe : (history : List Transaction) (s : Subscribed) (low : ℕ) → NothingBetween history s.position s.confirmed
    → AreRising low s.replies s.confirmed → AreSafeReplies history s
rising_safe history s low stored are =
    record { statuses = are.statuses; bytes = are.are; each = all_safe history s low are.statuses stored are.rise }

-- ---- the replies of frames

record Replies (old new : Subscribed) : Type 0 where
  more : List ℕ
  are : new.replies ≡ old.replies ++ more
  rise : AreRising old.confirmed more new.confirmed

unreplied : (old new : Subscribed) → new.replies ≡ old.replies → old.confirmed ≤ new.confirmed → Replies old new
unreplied old new same le = record { more = []; are = same ∙ sym (append-nil old.replies); rise = none_rise old.confirmed new.confirmed le }

take_replies : (now : ℤ) (old new : Subscribed) (m : Sent) → take now old m ≡ Running new → Replies old new
take_replies now old new (Data start end clock m) h =
    unreplied old new (takes_reply now old new (Data start end clock m) h) (takes_one now old new (Data start end clock m) h).grows
take_replies now old new (stream.Keepalive end clock false) h =
    unreplied old new (takes_reply now old new (stream.Keepalive end clock false) h)
    (takes_one now old new (stream.Keepalive end clock false) h).grows
take_replies now old new (stream.Keepalive end clock true) h =
    let status : Status = status_of (record new { replies = old.replies }) now false in
    let le : old.confirmed ≤ new.confirmed = (takes_one now old new (stream.Keepalive end clock true) h).grows in
    record {
      more = status_frame status;
      are = takes_reply now old new (stream.Keepalive end clock true) h;
      rise = one_rises old.confirmed new.confirmed status refl le (omega arith);
    }

message_replies : (now : ℤ) (old new : Subscribed) (start end : ℕ) (clock : ℤ) (r : Result Message DecodeFault)
    → take_message now old start end clock r ≡ Running new → Replies old new
message_replies now old new start end clock (Ok m) h = take_replies now old new (Data start end clock m) h
message_replies now old new start end clock (Err k) h = absurd (cc)

payload_replies : (now : ℤ) (old new : Subscribed) (r : Result ServerMessage WireFault) → take_payload now old r ≡ Running new
    → Replies old new
payload_replies now old new (Ok (XLogData start end clock body)) h =
    message_replies now old new start end clock (message_at (is_in_block old.order.context) body) h
payload_replies now old new (Ok (Keepalive end clock asks)) h = take_replies now old new (stream.Keepalive end clock asks) h
payload_replies now old new (Err k) h = absurd (cc)

frame_replies : (now : ℤ) (old new : Subscribed) (f : Frame) → take_frame now old f ≡ Running new → Replies old new
frame_replies now old new (CopyData bytes) h = payload_replies now old new (payload_at bytes) h
frame_replies now old new CopyDone h =
    subst (λ (x : Subscribed). Replies old x) (running h) (unreplied old (record old { copy_done = true }) refl (omega arith))

frames_replies : (now : ℤ) (fs : List Frame) (old new : Subscribed) → take_frames now old fs ≡ Running new → Replies old new
frames_replies now [] old new h = subst (λ (x : Subscribed). Replies old x) (running h) (unreplied old old refl (omega arith))
frames_replies now (f ∷ fs) old new h =
    let through = goes_through (take_frame now old f) (λ next. take_frames now next fs) new h in
    let first = frame_replies now old through.0 f through.1 in
    let rest = frames_replies now fs through.0 new through.2 in
    record {
      more = first.more ++ rest.more;
      are = rest.are ∙ ap (λ bs. bs ++ rest.more) first.are ∙ append_assoc old.replies first.more rest.more;
      rise = rising_join old.confirmed through.0.confirmed new.confirmed first.more rest.more first.rise rest.rise;
    }

-- what feeding a piece makes wait, where nothing waited
pub fed_rises : (now : ℤ) (old new : Subscribed) (piece : List ℕ) → old.replies ≡ [] → IsFedWhole now old piece new
    → AreRising old.confirmed new.replies new.confirmed
fed_rises now old new piece none fed =
    let replies = frames_replies now fed.fs old fed.state fed.takes in
    let same : new.replies ≡ replies.more =
    ap (λ (x : Subscribed). x.replies) fed.left ∙ replies.are ∙ ap (λ bs. bs ++ replies.more) none in
    subst (λ bs. AreRising old.confirmed bs new.confirmed) (sym same)
    (subst (λ n. AreRising old.confirmed replies.more n) (sym (ap (λ (x : Subscribed). x.confirmed) fed.left)) replies.rise)

-- and the status where confirmed has moved
pub news_rise : {C : Type 0} (now : ℤ) (told : ℕ) (s : SubscriberValue C)
    → AreRising s.applied.confirmed (news now told s) s.applied.confirmed
news_rise {C} now told s = by_news (nat_eq s.applied.confirmed told)
  where
    by_news : (b : Bool) → AreRising s.applied.confirmed (cond b [] (status_frame (status_at now s))) s.applied.confirmed
    by_news true = none_rise s.applied.confirmed s.applied.confirmed (omega arith)
    by_news false = one_rises s.applied.confirmed s.applied.confirmed (status_at now s) refl (omega arith) (omega arith)
