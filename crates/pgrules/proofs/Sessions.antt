-- What is found of a session, and the histories that have it.
use Rattle.std.proofs.Common.{◌≢◌, ◌∙◌, ℕ, List, [], ◌∷◌}
use Rattle.std.proofs.Common.{◌++◌, Bool, true, false, Option, Some}
use Rattle.std.proofs.Common.{None, ap, sym, subst, append-nil, unwrap_or}
use Rattle.std.specs.List.{AllByRecursion}
use Rattle.std.proofs.lemmas.Grind.{flat_map-append}
use Rattle.pgorder.specs.declared.Version.{Version}
use Rattle.pgwire.specs.Frames as wire
use Rattle.pgwatch.specs.declared.fault.Breach.{Breach}
use Rattle.pgwatch.specs.declared.fault.Breach.TheVariants as breach
use Rattle.pgwatched.specs.Watched.{sent_of, IsOfRule}
use Rattle.pgwatched.proofs.Framing.{frames_are_a_session, broken_is_no_session}
use Rattle.pgrules.specs.declared.findings.End.{End}
use Rattle.pgrules.specs.declared.findings.End.TheVariants as end
use Rattle.pgrules.specs.declared.findings.Findings.{Findings}
use Rattle.pgrules.specs.declared.live.LiveWatch.{LiveWatch}
use Rattle.pgrules.specs.Live.{IsTold, Stands}
use Rattle.pgrules.specs.Live.{StandsIn, Told, bytes_of, findings_of}
use Rattle.pgrules.specs.Live.{reports, reports_of}
use Rattle.pgrules.specs.Watching.{Ends, IsFound}
use Rattle.pgrules.specs.Laws.{HeardIsASession, BreachIsNoSession, IsHeardOfHistory}
use Rattle.pgrules.specs.Laws.{WatchedIsOfHistories}
use Rattle.pgrules.proofs.Steps.{all_push, framed}
use Rattle.pgrules.proofs.Lives.{found_going, is_found}

pub heard_is_a_session : HeardIsASession
heard_is_a_session v max limit bytes found is =
    frames_are_a_session v 0 limit is.fs is.watch is.done is.is.decoded is.is.fits is.is.heard

not_memory : (b : Breach) (at : ℕ) → IsOfRule b → b ≢ breach.Memory at
not_memory b at rule e = subst IsOfRule e rule

pub breach_is_no_session : BreachIsNoSession
breach_is_no_session v max limit bytes found b is ended rule =
    let next = subst (λ (e : End). Ends max (sent_of is.fs) is.done is.rest is.watch e) ended is.ends in
    let s = next.ends.0 in (
      s,
      (next.later, next.next ∙ ap (λ f. wire.frame f ++ next.later) next.ends.1.0),
      λ history session later has sent.
          broken_is_no_session v 0 limit is.fs (framed _ s) is.watch b is.is.heard (next.ends.2 (not_memory b _ rule)) rule history session
          later has sent,
    )

-- ---- what is handed on

heard_of_history : (v : Version) (limit max : ℕ) (t : Told) → IsFound v max limit t.bytes t.found → IsHeardOfHistory v limit max t
heard_of_history v limit max t is =
    let h = heard_is_a_session v max limit t.bytes t.found is in record { is = is; history = h.0; valid = h.1; heard = h.2 }

all_heard : (v : Version) (limit max : ℕ) (ended : List Told) → AllByRecursion (IsTold v limit max) ended
    → AllByRecursion (IsHeardOfHistory v limit max) ended
all_heard v limit max [] each = tt
all_heard v limit max (t ∷ ended) each = (heard_of_history v limit max t each.0.is, all_heard v limit max ended each.1)

stands_found : (v : Version) (limit max : ℕ) (bytes : List ℕ) (g : LiveWatch) → Stands v limit max bytes g
    → IsFound v max limit bytes (findings_of g)
stands_found v limit max bytes g s = go g.end g.lost s.in_session
  where
    go : (o : Option End) (lost : Bool) → StandsIn v limit max bytes g o lost
        → IsFound v max limit bytes (record { seen = g.seen; end = unwrap_or o end.Whole })
    go None false (f, u) = found_going v limit max bytes g.deframer g.watch g.seen g.at g.came u f.partial
    go None true h = absurd h
    go (Some x) false (f, h) = is_found v limit max bytes g.seen x h
    go (Some x) true h = is_found v limit max bytes g.seen x h

pub watched_is_of_histories : WatchedIsOfHistories
watched_is_of_histories v limit max all now told w =
    let t : Told = record { bytes = w.now; found = findings_of now } in (
      w.ended ++ t ∷ [],
      w.parts ∙ ap (λ (xs : List ℕ). bytes_of w.ended ++ xs) (sym (append-nil w.now))
          ∙ sym (flat_map-append (λ (x : Told). x.bytes) w.ended (t ∷ [])),
      all_push (IsHeardOfHistory v limit max) w.ended t (all_heard v limit max w.ended w.each)
          (heard_of_history v limit max t (stands_found v limit max w.now now w.stands)),
      w.told_is ∙ ap (λ (xs : List Findings). reports_of w.ended ++ xs) (sym (append-nil (reports (findings_of now))))
          ∙ sym (flat_map-append (λ (x : Told). reports x.found) w.ended (t ∷ [])),
    )
