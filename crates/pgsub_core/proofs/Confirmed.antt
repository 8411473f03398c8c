-- What the statuses that wait to be sent confirm.
use Rattle.std.proofs.Common.{◌≡◌, ◌≤◌, ◌++◌, ℕ, ℤ, List, [], ◌∷◌, Bool, true, false, refl, sym, ap}
use Rattle.std.proofs.Common.{subst, ◌∙◌, arith, append-nil}
use Rattle.std.specs.List.{AllByRecursion, flat_map}
use Rattle.std.proofs.lemmas.Grind.{flat_map-append}
use Rattle.pgwire.specs.Statuses.{status_frame}
use Rattle.pgwire.specs.declared.status.Status.{Status}
use Rattle.pgsub_core.specs.Server.History.{Transaction}
use Rattle.pgsub_core.specs.Server.Stream.{Sent, Data, Keepalive}
use Rattle.pgsub_core.specs.Machine.Replica.{Running}
use Rattle.pgsub_core.specs.Subscriber.Safe.{NothingBetween}
use Rattle.pgsub_core.specs.Subscriber.Subscribed.{Subscribed, IsSafeFor, disconnect, status_of}
use Rattle.pgsub_core.specs.Subscriber.Subscribed.{with_status}
use Rattle.pgsub_core.specs.Machine.Taking.{take, take_all, take_sessions}
use Rattle.pgsub_core.specs.Subscriber.Confirming.{IsSafeStatus, AreSafeReplies}
use Rattle.pgsub_core.proofs.Steps.{running, goes_through, takes_one, takes_reply}

abbrev ConfirmsBy : ℕ → Status → Type 0
ConfirmsBy confirmed status = (status.applied ≡ status.flushed) × (status.flushed ≤ confirmed)

-- these bytes are statuses that confirm at most this
pub record AreStatuses (confirmed : ℕ) (replies : List ℕ) : Type 0 where
  pub statuses : List Status
  pub bytes : replies ≡ flat_map status_frame statuses
  pub each : AllByRecursion (ConfirmsBy confirmed) statuses

no_statuses : (confirmed : ℕ) → AreStatuses confirmed []
no_statuses confirmed = record { statuses = []; bytes = refl; each = tt }

all_below : (c d : ℕ) (statuses : List Status) → c ≤ d → AllByRecursion (ConfirmsBy c) statuses → AllByRecursion (ConfirmsBy d) statuses
all_below c d [] le each = tt
all_below c d (status ∷ statuses) le each = ((each.0.0, omega (arith, le, each.0.1)), all_below c d statuses le each.1)

raised : (c d : ℕ) (replies : List ℕ) → c ≤ d → AreStatuses c replies → AreStatuses d replies
raised c d replies le are = record { statuses = are.statuses; bytes = are.bytes; each = all_below c d are.statuses le are.each }

all_and : (confirmed : ℕ) (statuses : List Status) (last : Status) → AllByRecursion (ConfirmsBy confirmed) statuses
    → ConfirmsBy confirmed last → AllByRecursion (ConfirmsBy confirmed) (statuses ++ last ∷ [])
all_and confirmed [] last each own = (own, tt)
all_and confirmed (status ∷ statuses) last each own = (each.0, all_and confirmed statuses last each.1 own)

-- one status more
pub with_one : (confirmed : ℕ) (replies : List ℕ) (last : Status) → AreStatuses confirmed replies → ConfirmsBy confirmed last
    → AreStatuses confirmed (replies ++ status_frame last)
with_one confirmed replies last are own = record {
  statuses = are.statuses ++ last ∷ [];
  bytes = ap (λ bs. bs ++ status_frame last) are.bytes
      ∙ ap (λ bs. flat_map status_frame are.statuses ++ bs) (sym (append-nil (status_frame last)))
      ∙ sym (flat_map-append status_frame are.statuses (last ∷ []));
  each = all_and confirmed are.statuses last are.each own;
}

one_taken : (now : ℤ) (m : Sent) (old new : Subscribed) → take now old m ≡ Running new → AreStatuses old.confirmed old.replies
    → AreStatuses new.confirmed new.replies
one_taken now (Data start end clock m) old new h are =
    subst (AreStatuses new.confirmed) (sym (takes_reply now old new (Data start end clock m) h))
    (raised old.confirmed new.confirmed old.replies (takes_one now old new (Data start end clock m) h).grows are)
one_taken now (Keepalive end clock false) old new h are =
    subst (AreStatuses new.confirmed) (sym (takes_reply now old new (Keepalive end clock false) h))
    (raised old.confirmed new.confirmed old.replies (takes_one now old new (Keepalive end clock false) h).grows are)
one_taken now (Keepalive end clock true) old new h are =
    subst (AreStatuses new.confirmed) (sym (takes_reply now old new (Keepalive end clock true) h))
    (with_one new.confirmed old.replies (status_of (record new { replies = old.replies }) now false)
    (raised old.confirmed new.confirmed old.replies (takes_one now old new (Keepalive end clock true) h).grows are) (refl, omega arith))

all_taken : (now : ℤ) (sent : List Sent) (old new : Subscribed) → take_all now old sent ≡ Running new
    → AreStatuses old.confirmed old.replies → AreStatuses new.confirmed new.replies
all_taken now [] old new h are = subst (λ (s : Subscribed). AreStatuses s.confirmed s.replies) (running h) are
all_taken now (m ∷ sent) old new h are =
    let through = goes_through (take now old m) (λ next. take_all now next sent) new h in
    all_taken now sent through.0 new through.2 (one_taken now m old through.0 through.1 are)

-- over sessions, each from a disconnection on
pub sessions_taken : (now : ℤ) (fronts : List (List Sent)) (old new : Subscribed) → take_sessions now old fronts ≡ Running new
    → AreStatuses old.confirmed old.replies → AreStatuses new.confirmed new.replies
sessions_taken now [] old new h are = subst (λ (s : Subscribed). AreStatuses s.confirmed s.replies) (running h) are
sessions_taken now (front ∷ fronts) old new h are =
    let through = goes_through (take_all now (disconnect old) front) (λ next. take_sessions now next fronts) new h in
    sessions_taken now fronts through.0 new through.2 (all_taken now front (disconnect old) through.0 through.1 (no_statuses old.confirmed))

nothing_below : (history : List Transaction) (position c d : ℕ) → d ≤ c → NothingBetween history position c
    → NothingBetween history position d
nothing_below [] position c d le nothing = tt
nothing_below (t ∷ history) position c d le nothing =
    ((λ changes by. nothing.0 changes (omega (arith, le, by))), nothing_below history position c d le nothing.1)

-- what is stored of a safe state counts for its statuses
pub safe_replies : (history : List Transaction) (s : Subscribed) → IsSafeFor history s → AreStatuses s.confirmed s.replies
    → AreSafeReplies history s
safe_replies history s safe are = record { statuses = are.statuses; bytes = are.bytes; each = all are.statuses are.each }
  where
    all : (statuses : List Status) → AllByRecursion (ConfirmsBy s.confirmed) statuses → AllByRecursion (IsSafeStatus history s) statuses
    all [] each = tt
    all (status ∷ statuses) each = (
      record {
        same = each.0.0;
        confirmed = each.0.1;
        stored = nothing_below history s.position s.confirmed status.flushed each.0.1 safe.stored;
      },
      all statuses each.1,
    )

pub statuses_of_safe : (history : List Transaction) (s : Subscribed) → AreSafeReplies history s → AreStatuses s.confirmed s.replies
statuses_of_safe history s are = record { statuses = are.statuses; bytes = are.bytes; each = all are.statuses are.each }
  where
    all : (statuses : List Status) → AllByRecursion (IsSafeStatus history s) statuses → AllByRecursion (ConfirmsBy s.confirmed) statuses
    all [] each = tt
    all (status ∷ statuses) each = ((each.0.same, each.0.confirmed), all statuses each.1)

-- a status that is asked for
pub status_is_safe : (history : List Transaction) (now : ℤ) (ask : Bool) (s : Subscribed) → IsSafeFor history s → AreSafeReplies history s
    → AreSafeReplies history (with_status now ask s)
status_is_safe history now ask s safe are =
    safe_replies history (with_status now ask s) safe
    (with_one s.confirmed s.replies (status_of s now ask) (statuses_of_safe history s are) (refl, omega arith))
