-- What is printed of a store, over which a run was, and of an empty one.
use Rattle.std.proofs.Common.{◌≡◌, ℕ, List, [], ◌∷◌, Option, Some, None, Result, Ok, Err, refl, ap}
use Rattle.std.proofs.Common.{subst, ◌∙◌, inl, inr}
use Rattle.std.specs.FinMap as map
use Rattle.pgcommand.specs.declared.limits.Limits.{Limits}
use Rattle.pgorder.specs.declared.Version.{Version}
use Rattle.pgapply.specs.Dump.{dump}
use Rattle.pgapply.specs.Value.{Tables}
use Rattle.pgsub_core.specs.declared.fault.Fault.{Fault}
use Rattle.pgsub_core.specs.Subscriber.Crashing.{StandsAsFed}
use Rattle.pgsub_core.specs.Subscriber.Following.{FedSessionsAreFollowed, FeedsSessions}
use Rattle.pgsub_core.specs.Subscriber.SubscriberValue.{SubscriberValue, seen}
use Rattle.pgsub_core.specs.Subscriber.Subscribed.{bytes_of}
use Rattle.pgsub_cli.specs.declared.fault.Ending.{Ending}
use Rattle.pgsub_cli.specs.declared.fault.Ending.TheVariants.{Done}
use Rattle.pgsub_cli.specs.declared.fault.RunFault.{RunFault}
use Rattle.pgsub_cli.specs.declared.fault.RunFault.TheVariants as run
use Rattle.pgsub_cli.specs.declared.storing.Incoming.{Incoming}
use Rattle.pgsub_cli.specs.declared.storing.Incoming.TheVariants.{Sessions, Raw}
use Rattle.pgsub_cli.specs.Dumped.{PrintsHeld, PrintsLeft, Written, WrittenFront}
use Rattle.pgsub_cli.specs.DumpText.{dump_of, resumed_of}
use Rattle.pgsub_cli.specs.Followed.{LeadsTo, PrintsFrom, PrintsLed, lines_of, new_subscriber}
use Rattle.pgsub_cli.specs.Followed.{resumed_lines_of, subscriber_over}
use Rattle.pgsub_cli.specs.Limits.{clock}
use Rattle.pgsub_cli.specs.Runs.{PrintsNew, fault_of_feeding}
use Rattle.pgsub_cli.specs.StoreAfter.{BeginsOver, HoldsFed, HoldsOver}
use Rattle.pgsub_cli.specs.Storing.{IsShown, LinesBefore, LinesOver, PrintsKept, ShowsHeld}
use Rattle.pgsub_cli.proofs.Came.{for_sessions}
use Rattle.pgsub_cli.proofs.LeftStores.{began_with, leads_on}

-- more is said of the lines
module _ {W : Type 0} (takes : W → List ℕ → W → Type 0) (failed : W → Type 0) (leaves more : Option Fault → (List ℕ → Type 0) → Type 0)
    (left before : (List ℕ → Type 0) → Type 0) (old new : W)
    (means : (f : Option Fault) (said : List ℕ → Type 0) → leaves f said → more f said)
    (meant : (said : List ℕ → Type 0) → left said → before said) where
  pub left_weaker : (ended : Result Ending RunFault) → PrintsLeft takes failed leaves left old new ended
      → PrintsLeft takes failed more before old new ended
  left_weaker (Ok Done) h = means None (λ lines. Written takes old lines new) h
  left_weaker (Ok e) h = absurd h
  left_weaker (Err (run.Stream f)) (inl h) = inl (means (Some f) (λ lines. Written takes old lines new) h)
  left_weaker (Err (run.Stream f)) (inr (lost, inl same)) = inr (lost, inl same)
  left_weaker (Err (run.Stream f)) (inr (lost, inr h)) = inr (lost, inr (meant (λ lines. WrittenFront takes old lines new) h))
  left_weaker (Err run.CannotWrite) h = meant (λ lines. (mid : W) × WrittenFront takes old lines mid × failed mid) h
  left_weaker (Err f) h = absurd h

pub held_weaker : {W : Type 0} (takes : W → List ℕ → W → Type 0) (failed : W → Type 0) (P Q : Option Fault → List ℕ → Type 0) (old new : W)
    → ((f : Option Fault) (lines : List ℕ) → P f lines → Q f lines) → (ended : Result Ending RunFault)
    → PrintsHeld takes failed P old new ended → PrintsHeld takes failed Q old new ended
held_weaker takes failed P Q old new means =
    left_weaker takes failed (λ f said. (lines : List ℕ) × P f lines × said lines) (λ f said. (lines : List ℕ) × Q f lines × said lines)
    (λ said. (f : Option Fault) × (lines : List ℕ) × P f lines × said lines)
    (λ said. (f : Option Fault) × (lines : List ℕ) × Q f lines × said lines) old new
    (λ f said h. (h.0, means f h.0 h.1, h.2)) (λ said h. (h.0, h.1, means h.0 h.1 h.2, h.3))

module _ {R C : Type 0} (gives begins : R → List ℕ → Type 0) (failed : R → Type 0) (holds : C → Tables → Type 0) (place : C → ℕ)
    (limits : Limits) where
  -- the lines of what a store holds that was fed what came
  prints_over : (old mid new : C) (said : List ℕ → Type 0) → ShowsHeld holds place mid new said
      → (input : Option (Version × Incoming R)) (stopped : Option Fault)
      → HoldsOver gives begins failed holds place limits input old mid stopped
      → LinesOver gives begins failed holds place limits input old new stopped said
  prints_over old mid new said shows None stopped h = (
    h.0,
    λ tables k. let s = shows tables (h.1 tables k) in
        (s.0, s.1 ∙ h.2, subst (λ (n : ℕ). said (dump_of (dump tables) n)) h.2 s.2),
  )
  prints_over old mid new said shows (Some (version, incoming)) stopped h =
      for_sessions gives begins failed incoming stopped (λ sessions f. HoldsFed holds place limits version old sessions mid f)
      (λ sessions f. PrintsKept holds place limits version old sessions new f said)
      (λ sessions f fed tables k. let a = fed tables k in let s = shows a.0.tables a.2 in
      (a.0, a.1, s.0, s.1 ∙ a.3, subst (λ (n : ℕ). said (dump_of (dump a.0.tables) n)) a.3 s.2)) h

  module _ {W : Type 0} (takes : W → List ℕ → W → Type 0) (write_failed : W → Type 0) where
    pub prints_all : (old mid new : C) (serves : C → Type 0) (input : Option (Version × Incoming R)) (stopped : Option Fault)
        → (serves mid → HoldsOver gives begins failed holds place limits input old mid stopped) → place new ≡ place mid
        → (out out' : W) (ended : Result Ending RunFault)
        → PrintsLeft takes write_failed (IsShown holds place serves stopped mid new) (IsShown holds place serves stopped mid mid stopped)
        out out' ended
        → PrintsLeft takes write_failed (LinesOver gives begins failed holds place limits input old new)
        (LinesBefore gives begins failed holds place limits input old new) out out' ended
    prints_all old mid new serves input stopped held at out out' ended =
        left_weaker takes write_failed (IsShown holds place serves stopped mid new)
        (LinesOver gives begins failed holds place limits input old new) (IsShown holds place serves stopped mid mid stopped)
        (LinesBefore gives begins failed holds place limits input old new) out out'
        (λ f said s. subst (λ (g : Option Fault). LinesOver gives begins failed holds place limits input old new g said) s.0
        (prints_over old mid new said s.2 input stopped (held s.1)))
        (λ said s. (mid, at, (stopped, prints_over old mid mid said s.2 input stopped (held s.1)))) ended

  -- from an empty store on
  prints_kept : (limits' : Limits) (version : Version) (old new : C) (sessions : List (List ℕ)) (f : Option Fault) (said : List ℕ → Type 0)
      → holds old map.empty → place old ≡ 0 → PrintsKept holds place limits' version old sessions new f said
      → (lines : List ℕ) × PrintsLed lines_of (new_subscriber limits' version) sessions f lines × said lines
  prints_kept limits' version old new sessions f said empty zero kept =
      let a = kept map.empty empty in (
        lines_of a.0,
        (a.0, subst (λ (n : ℕ). LeadsTo (subscriber_over limits' map.empty n version) sessions f a.0) zero a.1, refl),
        a.4,
      )

  prints_new : (input : Option (Version × Incoming R)) (old new : C) (stopped : Option Fault) (said : List ℕ → Type 0)
      → holds old map.empty → place old ≡ 0 → LinesOver gives begins failed holds place limits input old new stopped said
      → (lines : List ℕ) × PrintsNew gives begins failed limits input stopped lines × said lines
  prints_new None old new stopped said empty zero (is, shows) =
      let s = shows map.empty empty in
      (dump_of (dump map.empty) 0, (is, refl), subst (λ (n : ℕ). said (dump_of (dump map.empty) n)) zero s.2)
  prints_new (Some (version, Sessions sessions)) old new stopped said empty zero kept =
      prints_kept limits version old new (bytes_of sessions.items) stopped said empty zero kept
  prints_new (Some (version, Raw file)) old new stopped said empty zero (bytes, read, kept) =
      let p = prints_kept limits version old new (bytes ∷ []) (fault_of_feeding stopped) said empty zero kept in
      (p.0, (bytes, read, p.1), p.2)

  pub prints_all_new : {W : Type 0} (takes : W → List ℕ → W → Type 0) (write_failed : W → Type 0)
      (input : Option (Version × Incoming R)) (old new : C) (out out' : W) (ended : Result Ending RunFault) → holds old map.empty
      → place old ≡ 0
      → PrintsLeft takes write_failed (LinesOver gives begins failed holds place limits input old new)
      (LinesBefore gives begins failed holds place limits input old new) out out' ended
      → PrintsHeld takes write_failed (PrintsNew gives begins failed limits input) out out' ended
  prints_all_new takes write_failed input old new out out' ended empty zero =
      left_weaker takes write_failed (LinesOver gives begins failed holds place limits input old new)
      (λ f said. (lines : List ℕ) × PrintsNew gives begins failed limits input f lines × said lines)
      (LinesBefore gives begins failed holds place limits input old new)
      (λ said. (f : Option Fault) × (lines : List ℕ) × PrintsNew gives begins failed limits input f lines × said lines) out out'
      (λ f said l. prints_new input old new f said empty zero l)
      (λ said l. let p = prints_new input old l.0 l.2.0 said empty zero l.2.1 in (l.2.0, p.0, p.1, p.2)) ended

module _ {C : Type 0} (holds : C → Tables → Type 0) (place : C → ℕ) where
  -- the position and what may be confirmed of a subscriber that stands as one that was fed
  pub prints_from : FedSessionsAreFollowed → (limits : Limits) (version : Version) (store : C) (old new : SubscriberValue C)
      → BeginsOver place limits version store old → (sessions : List (List ℕ)) (stopped : Option Fault) (lines : List ℕ)
      → StandsAsFed place (λ s. FeedsSessions holds place clock old sessions s stopped) new
      → lines ≡ resumed_of (place new.applied.store) new.applied.confirmed
      → PrintsFrom holds place resumed_lines_of limits version store sessions stopped lines
  prints_from followed limits version store old new over sessions stopped lines (s, k, fed) are tables h =
      let a = fed tables (began_with holds place store limits version old over tables h) in (
        seen place s a.0,
        leads_on place followed store limits version old s over sessions stopped tables a.0 a.2,
        are ∙ ap (λ (n : ℕ). resumed_of n new.applied.confirmed) k.position ∙ ap (resumed_of (place s.applied.store)) k.confirmed,
      )

  pub resumes_new : (limits : Limits) (version : Version) (store : C) (sessions : List (List ℕ)) (stopped : Option Fault) (lines : List ℕ)
      → holds store map.empty → place store ≡ 0
      → PrintsFrom holds place resumed_lines_of limits version store sessions stopped lines
      → PrintsLed resumed_lines_of (new_subscriber limits version) sessions stopped lines
  resumes_new limits version store sessions stopped lines empty zero prints =
      let a = prints map.empty empty in
      (a.0, subst (λ (n : ℕ). LeadsTo (subscriber_over limits map.empty n version) sessions stopped a.0) zero a.1, a.2)
