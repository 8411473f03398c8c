-- What the store hears beside its tables: whatever leads from there to a new state leads there from
-- the state before.
use Rattle.std.proofs.Common.{◌≡◌, ℕ, ℤ, ap, subst, ◌∙◌}
use Rattle.pgapply.specs.Tallies.{Tally}
use Rattle.pgapply.specs.Value.{Tables}
use Rattle.pgapply.specs.Taken.{Stays}
use Rattle.pgsub_core.specs.declared.fault.Fault.{Fault}
use Rattle.pgsub_core.specs.Server.Stream.{Sent}
use Rattle.pgsub_core.specs.Machine.Counted.{CountsBy}
use Rattle.pgsub_core.specs.Machine.Replica.{Outcome, Running}
use Rattle.pgsub_core.specs.Subscriber.Subscribed.{Subscribed}
use Rattle.pgsub_core.specs.Subscriber.Causes.{cause}
use Rattle.pgsub_core.specs.Subscriber.Applied.{Applied, Framing, subscribed, StopsAtMessage}
use Rattle.pgsub_core.specs.Subscriber.Applied.{Goes, Stops, IsKept, StaysBesideStore}

module _ {C : Type 0} (holds : C → Tables → Type 0) (place : C → ℕ) (old heard : Applied C) (beside : StaysBesideStore old heard)
    (held : Stays holds old.store heard.store) (same : place heard.store ≡ place old.store) where
  abbrev at : Framing → Tables → ℕ → Subscribed
  at framing tables position = record (subscribed place framing old tables) { position = position }

  seen : (framing : Framing) (tables : Tables) → subscribed place framing heard tables ≡ subscribed place framing old tables
  seen framing tables = ap (λ (a : Applied C). subscribed place framing a tables) beside ∙ ap (at framing tables) same

  pub goes_heard : (next : Subscribed → Outcome Subscribed Fault) (new : Applied C) → Goes holds place next heard new
      → Goes holds place next old new
  goes_heard next new goes framing tables h =
      let done = goes framing tables (held tables h) in (
        done.0,
        done.1,
        subst (λ (s : Subscribed). next s ≡ Running (subscribed place framing new done.0)) (seen framing tables) done.2,
      )

  pub kept_heard : (new : Applied C) → IsKept place heard new → IsKept place old new
  kept_heard new kept = record {
    position = kept.position ∙ same;
    confirmed = kept.confirmed ∙ ap (λ (a : Applied C). a.confirmed) beside;
    received = kept.received ∙ ap (λ (a : Applied C). a.received) beside;
    version = kept.version ∙ ap (λ (a : Applied C). a.version) beside;
    limit = kept.limit ∙ ap (λ (a : Applied C). a.limit) beside;
    replies = kept.replies ∙ ap (λ (a : Applied C). a.replies) beside;
  }

  pub stops_heard : (now : ℤ) (m : Sent) (new : Applied C) (f : Fault) → Stops holds place now m heard new f
      → Stops holds place now m old new f
  stops_heard now m new f stops = record {
    kept = kept_heard new stops.kept;
    stays = λ tables h. stops.stays tables (held tables h);
    why = λ framing tables h. subst (λ (s : Subscribed). StopsAtMessage now s m f (cause f)) (seen framing tables)
        (stops.why framing tables (held tables h));
  }

  pub counts_heard : (count : C → Tally) (by : Subscribed → Tally → Tally) (new : Applied C)
      → count heard.store ≡ count old.store → CountsBy holds place count by heard new → CountsBy holds place count by old new
  counts_heard count by new counted counts framing tables h =
      counts framing tables (held tables h) ∙ (λ i. by (seen framing tables i) (counted i))
