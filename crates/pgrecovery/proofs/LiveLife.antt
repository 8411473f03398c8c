-- A live run over a store with a feed is a run of a life.
use Rattle.std.proofs.Common.{◌≡◌, ◌≤◌, inl, inr, ℕ, List, Bool, Option, Ok, ap, arith, subst, sym}
use Rattle.std.proofs.Common.{refl, ◌∙◌}
use Rattle.sqlite_disk.specs.declared.Disk as disk
use Rattle.sqlite.specs.Files.{over_files}
use Rattle.pgapply.specs.Tallies.{Tally, nothing_taken}
use Rattle.pgapply.specs.Value.{Tables}
use Rattle.pgstore.specs.StoreValue.{Serves}
use Rattle.pgsub_core.specs.Server.History.{Transaction, tables_as_of}
use Rattle.pgsub_core.specs.Subscriber.Safe.{IsSafe, NothingBetween}
use Rattle.pgsub_core.specs.Subscriber.Safely.{IsSent}
use Rattle.pgsub_core.specs.Subscriber.SubscriberValue.{SubscriberValue, seen}
use Rattle.pgsub_core.specs.Subscriber.Tallied.{history_tallied}
use Rattle.pgfollow.specs.declared.fault.FollowFault.{FollowFault}
use Rattle.pgfollow.specs.Told.{HoldsSafely, LeavesSafely}
use Rattle.pgrecovery.specs.FedLife.{FedRun, FedStore, IsFollowed, IsLeftFed, fed_newly}
use Rattle.pgrecovery.specs.FedLife.{fed_position, holds_fed, reopens_fed}
use Rattle.pgrecovery.specs.LiveLife.{AreTakenFed, FollowsFed, IsLive, LiveRunsAreRuns}
use Rattle.pgrecovery.specs.LiveLife.{ServesInside, reopens_told}
use Rattle.pgrecovery.specs.ToldLife.{IsToldRun, fed_tally, holds_told}
use Rattle.pgrecovery.proofs.LiveUp.{ends_up}
use Rattle.pgrecovery.proofs.ToldLife.{begun_holds}

module _ {D F E : Type 0} (g : disk.Ghosts D) (shows : E → List ℕ) (may_leave : E → List ℕ → Type 0) (is_clean : E → Bool)
    (is_true : F → Type 0) (places : F → List ℕ) (has : F → ℕ → List ℕ → Type 0) (supposed : Type 0) where
  abbrev Told : FedStore g F E → Tables → Type 0
  Told = holds_told g shows may_leave is_clean is_true places has supposed

  abbrev Fed : FedStore g F E → Tables → Type 0
  Fed = holds_fed g shows may_leave is_clean is_true places has supposed

  abbrev Reopens_fed : FedStore g F E → FedStore g F E → Type 0
  Reopens_fed = reopens_fed g shows may_leave is_clean is_true places has supposed

  -- what its entries lead to, whichever commits they tell
  fed_of : (s : FedStore g F E) (tables : Tables) → Told s tables → Fed s tables
  fed_of s tables held = (held.0, λ so. (held.1 so).records)

  -- ---- opened again, and nothing was taken

  abbrev fresh : FedStore g F E → FedStore g F E
  fresh s = record s {
    from = s.store.position;
    store = record s.store { group = record s.store.group { tally = nothing_taken } };
  }

  fresh_reopens : (r other : FedStore g F E) → Reopens_fed r other
      → reopens_told g shows may_leave is_clean is_true places has supposed r (fresh other)
  fresh_reopens r other again = (
    record {
      db = again.0.db;
      left = again.0.left;
      opened = λ v are. let held = again.0.opened v are in record { stored = held.stored; position = held.position };
    },
    refl,
    refl,
    again.1,
  )

  fresh_fed : (s : FedStore g F E) (tables : Tables) → Told (fresh s) tables → Fed s tables
  fresh_fed s tables held = fed_of (fresh s) tables held

  -- ---- a run

  module _ {C : Type 0} (store_of : C → FedStore g F E) (with_store : C → FedStore g F E → C) (beside : Option (C → Bool))
      (has_it : (c : C) (s : FedStore g F E) → store_of (with_store c s) ≡ s) (r : FedRun g F E) (unread rest : Option (List ℕ)) (reads : ℕ)
      (wrote wrote' : Option (List ℕ)) (old new : SubscriberValue C) (why : Option FollowFault)
      (live : IsLive g shows may_leave is_clean is_true places has supposed store_of beside r unread rest reads wrote wrote' old new why)
      (history : List Transaction) where
    abbrev holds : C → Tables → Type 0
    holds c = Told (store_of c)

    abbrev place : C → ℕ
    place c = fed_position (store_of c)

    abbrev reopens : C → C → Type 0
    reopens c other = reopens_told g shows may_leave is_clean is_true places has supposed (store_of c) (store_of other)

    abbrev count : C → Tally
    count c = fed_tally (store_of c)

    -- what is known at its end
    record Ends (tables : Tables) : Type 0 where
      pub up : fed_position r.begun ≤ fed_position r.ended
      pub rows : Serves over_files r.ended.store → HoldsSafely holds place reopens history new
      pub left : LeavesSafely holds place reopens history new
      pub counts : Serves over_files r.ended.store
          → fed_tally r.ended ≡ history_tallied history (fed_position r.begun) (fed_position r.ended) (fed_tally r.begun)

    came : (tables : Tables) → IsSent history (fed_newly r tables) r.sessions r.all_complete
        → IsSent history (seen place old tables) r.sessions r.all_complete
    came tables sent = subst (λ s. IsSent history s r.sessions r.all_complete) (sym (live.newly tables)) sent

    ends : (tables : Tables) → Told r.begun tables → IsSent history (fed_newly r tables) r.sessions r.all_complete
        → (f : FollowsFed g shows may_leave is_clean is_true places has supposed store_of beside unread rest reads wrote wrote' old new why)
        → AreTakenFed g shows may_leave is_clean is_true places has supposed store_of beside unread rest reads wrote wrote' old new why f
        r.sessions
        → Ends tables
    ends tables held sent (inl stopped) taken = absurd taken
    ends tables held sent (inr f) taken =
        let over : Told (store_of old.applied.store) tables = subst (λ s. Told s tables) live.begun held in
        let began : holds f.0.applied.store tables = subst (λ c. holds c tables) (sym f.2.0.store) over in
        let at_end = f.6.at_end history r.all_complete tables r.sessions taken over (came tables sent) in
        let up = ends_up holds place reopens (ServesInside g shows may_leave is_clean is_true places has supposed store_of beside) count
        unread rest reads f.1 wrote' f.0 new why f.3 tables began in
        let start : place f.0.applied.store ≡ fed_position r.begun = ap place f.2.0.store ∙ ap fed_position (sym live.begun) in
        let end : place new.applied.store ≡ fed_position r.ended = ap fed_position (sym live.ended) in
        record {
          up = omega (arith, up, start, end);
          rows = λ it. at_end.0 (live.serving it);
          left = at_end.1;
          counts = λ it.
              subst (λ s. fed_tally s ≡ history_tallied history (fed_position r.begun) (fed_position s) (fed_tally r.begun))
              (sym live.ended)
              (subst (λ s. count new.applied.store ≡ history_tallied history (fed_position s) (place new.applied.store) (fed_tally s))
              (sym live.begun)
              (f.7 (live.serving it) r.sessions taken history r.all_complete tables over (came tables sent)));
        }

    told_rows : HoldsSafely holds place reopens history new
        → (tables' : Tables) × Told r.ended tables' × IsSafe history tables' (fed_position r.ended) r.confirmed
    told_rows h = (
      h.0,
      subst (λ s. Told s h.0) (sym live.ended) h.1,
      subst (λ c. IsSafe history h.0 (fed_position r.ended) c) (sym live.confirmed)
          (subst (λ s. IsSafe history h.0 (fed_position s) new.applied.confirmed) (sym live.ended) h.2),
    )

    left_fed : LeavesSafely holds place reopens history new → (other : FedStore g F E) → Reopens_fed r.ended other
        → IsLeftFed g shows may_leave is_clean is_true places has supposed history (fed_position r.ended) r.confirmed other
    left_fed leaves other again =
        let c = with_store new.applied.store (fresh other) in
        let is : store_of c ≡ fresh other = has_it new.applied.store (fresh other) in
        let opened : reopens new.applied.store c =
        subst (λ s. reopens_told g shows may_leave is_clean is_true places has supposed s (store_of c)) live.ended
        (subst (λ s. reopens_told g shows may_leave is_clean is_true places has supposed r.ended s) (sym is)
        (fresh_reopens r.ended other again)) in
        let it = leaves c opened in
        let at : place c ≡ fed_position other = ap fed_position is in
        let end : place new.applied.store ≡ fed_position r.ended = ap fed_position (sym live.ended) in
        record {
          tables = it.tables;
          held = fresh_fed other it.tables (subst (λ s. Told s it.tables) is it.held);
          same = subst (λ p. tables_as_of history p ≡ Ok it.tables) at it.same;
          position = omega (arith, it.position, at, end);
          stored = subst (λ d. NothingBetween history (fed_position other) d) (sym live.confirmed)
              (subst (λ p. NothingBetween history p new.applied.confirmed) at it.stored);
        }

    of_fed : (tables : Tables) → Fed r.begun tables → Told r.begun tables
    of_fed tables held =
        begun_holds g shows may_leave is_clean is_true places has supposed r.begun tables live.from live.untaken held

    pub live_run : IsFollowed g shows may_leave is_clean is_true places has supposed history r
        × IsToldRun g shows may_leave is_clean is_true places has supposed history r
    live_run = (
      record {
        up = λ tables held sent. (ends tables (of_fed tables held) sent live.follows live.taken).up;
        rows = λ it tables held sent.
            let h = told_rows ((ends tables (of_fed tables held) sent live.follows live.taken).rows it) in
            (h.0, fed_of r.ended h.0 h.1, h.2);
        crash = λ tables held sent other again.
            left_fed (ends tables (of_fed tables held) sent live.follows live.taken).left other again;
      },
      record {
        from = live.from;
        untaken = live.untaken;
        safe = λ it tables held sent. told_rows ((ends tables held sent live.follows live.taken).rows it);
        tallied = λ it tables held sent. (ends tables held sent live.follows live.taken).counts it;
      },
    )

  pub live_runs_are_runs : (C : Type 0) → LiveRunsAreRuns g shows may_leave is_clean is_true places has supposed C
  live_runs_are_runs C store_of with_store beside has_it r unread rest reads wrote wrote' old new why live history =
      live_run store_of with_store beside has_it r unread rest reads wrote wrote' old new why live history
