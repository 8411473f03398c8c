-- The parts of a history's sessions, one after the other: what is told after each is stored.
use Rattle.std.proofs.Common.{◌≡◌, ◌≤◌, ◌∙◌, ◌++◌, ◌⊎◌, inl, inr, ℕ, ℤ, List, [], ◌∷◌, Bool, true}
use Rattle.std.proofs.Common.{false, Option, Some, None, Ok, pos, refl, sym, ap, subst}
use Rattle.std.proofs.Common.{append_assoc, append-nil, arith}
use Rattle.std.specs.FinMap as map
use Rattle.pgapply.specs.Tallies.{Tally}
use Rattle.pgapply.specs.Value.{Tables}
use Rattle.pgapply.specs.Taken as held
use Rattle.pgsub_core.specs.declared.fault.Fault.{Fault}
use Rattle.pgsub_core.specs.declared.fault.Fault.TheVariants as fault
use Rattle.pgsub_core.specs.Server.History.{Transaction, tables_as_of}
use Rattle.pgsub_core.specs.Subscriber.Safe.{NothingBetween}
use Rattle.pgsub_core.specs.Server.Stream.{Sent}
use Rattle.pgsub_core.specs.Subscriber.Subscribed.{Subscribed, IsSafeFor, disconnect}
use Rattle.pgsub_core.specs.Subscriber.SubscriberValue.{SubscriberValue, seen, Feeds, FeedsUntil}
use Rattle.pgsub_core.specs.Machine.Feeding.{IsFedWhole, IsFedUntil}
use Rattle.pgsub_core.specs.Subscriber.Following.{AreFedWhole}
use Rattle.pgsub_core.specs.Machine.Counted.{IsCountedWhole, IsCountedFront, AreCountedWhole}
use Rattle.pgsub_core.specs.Machine.Counted.{FeedsCounted}
use Rattle.pgsub_core.specs.Subscriber.Tallied.{history_tallied, CountsHistory}
use Rattle.pgsub_core.specs.Subscriber.Safely.{IsSent}
use Rattle.pgsub_core.specs.Subscriber.Confirming.{AreSafeReplies}
use Rattle.pgsub_core.specs.Subscriber.Crashing.{LeavesOldOr, FedOver, IsLeftSafely}
use Rattle.pgsub_core.proofs.FollowSteps.{until_of}
use Rattle.pgsub_core.proofs.Followed.{fed_more, fed_then_stopped, confirmed_stored}
use Rattle.pgsub_core.proofs.Pieces.{two_pieces, piece_then_stop, nothing_fed, counted_pieces}
use Rattle.pgsub_core.proofs.Pieces.{front_pieces, front_stands}
use Rattle.pgsub_core.proofs.CountedPieces.{is_front}
use Rattle.pgsub_core.proofs.CountedSessions.{nothing_counted, sessions_and, sessions_then}
use Rattle.pgsub_core.proofs.TalliedSessions.{counted_of_history}
use Rattle.pgfollow.specs.declared.fault.FollowFault.{FollowFault}
use Rattle.pgfollow.specs.declared.fault.FollowFault.TheVariants as follow
use Rattle.pgfollow.specs.Live.{IsStart, IsGreeted, StopsGreeting, Step, IsStep, AreSteps}
use Rattle.pgfollow.specs.Live.{LiveSteps, LiveStops, LiveEnds, IsUnfed, IsUntold, StopsPart}
use Rattle.pgfollow.specs.Live.{due, settled, status_at, told_of}
use Rattle.pgfollow.specs.Told.{sessions_from, HoldsSafely, LeavesSafely, IsToldSafely}
use Rattle.pgfollow.specs.Told.{AreToldSafely, TellsSafely, TellsRising, FollowsLive, steps_in}
use Rattle.pgfollow.specs.Told.{part_in, mid_in, first_status, LastIsSafe, HaveTaken, HaveAllTaken}
use Rattle.pgfollow.specs.Told.{session_start}
use Rattle.pgfollow.proofs.Clocks.{quiet, whole_quiet, until_quiet, counted_quiet, front_quiet}
use Rattle.pgfollow.proofs.Rising.{one_rises, rising_safe}
use Rattle.pgfollow.proofs.Statuses.{after_replies, after_confirmed, part_rises, steps_rise}
use Rattle.pgfollow.proofs.Statuses.{last_rises}
use Rattle.pgfollow.proofs.Within.{until_within, whole_until, counted_within, all_taken, have_less}
use Rattle.pgfollow.proofs.Sofar.{Sofar, with_by, with_parts, go_on, same_sessions, same_from}
use Rattle.pgfollow.proofs.Sofar.{same_last}

more_stored : (history : List Transaction) (p q c : ℕ) → p ≤ q → NothingBetween history p c → NothingBetween history q c
more_stored [] p q c le nothing = tt
more_stored (t ∷ history) p q c le nothing =
    ((λ changes by. let ends : t.end ≤ p = nothing.0 changes by in omega (arith, le, ends)), more_stored history p q c le nothing.1)

-- the clock at which it is looked at
abbrev noon : ℤ
noon = pos 0

module _ {C : Type 0} (holds : C → Tables → Type 0) (place : C → ℕ) (reopens : C → C → Type 0) (serves : C → Type 0)
    (count : C → Tally) where
  left_same : (history : List Transaction) (a b : SubscriberValue C) (other : C) → b.applied.store ≡ a.applied.store
      → b.applied.confirmed ≡ a.applied.confirmed → IsLeftSafely holds place history a other → IsLeftSafely holds place history b other
  left_same history a b other store confirmed left = record {
    tables = left.tables;
    held = left.held;
    same = left.same;
    position = subst (λ (x : C). place x ≤ place other) (sym store) left.position;
    stored = subst (λ n. NothingBetween history (place other) n) (sym confirmed) left.stored;
  }

  leaves_same : (history : List Transaction) (a b : SubscriberValue C) → b.applied.store ≡ a.applied.store
      → b.applied.confirmed ≡ a.applied.confirmed → LeavesSafely holds place reopens history a → LeavesSafely holds place reopens history b
  leaves_same history a b store confirmed left other opens =
      left_same history a b other store confirmed (left other (subst (λ (x : C). reopens x other) store opens))

  module _ (history : List Transaction) (b : Subscribed) (none_waits : b.replies ≡ []) (first_count : Tally) where
    -- Whoever were fed these sessions and the first bytes of one more, at noon, is the same but for
    -- what waits to be sent, and has counted the same.
    record Stands (done : List (List ℕ)) (begun : List ℕ) (s : SubscriberValue C) : Type 0 where
      base : Subscribed
      before : AreFedWhole noon b done base
      ideal : Subscribed
      is_fed : IsFedWhole noon (disconnect base) begun ideal
      tables : Tables
      held : holds s.applied.store tables
      same : seen place s tables ≡ quiet [] ideal
      counted : Tally
      counts_before : AreCountedWhole noon b done base first_count counted
      counts : IsCountedWhole noon (disconnect base) begun ideal.position counted (count s.applied.store)

    none_safe : AreSafeReplies history b
    none_safe = record { statuses = []; bytes = none_waits; each = tt }

    -- where all that is taken stands in a history's sessions, it is safe
    record Coming (base : Subscribed) (done : List (List ℕ)) (begun : List ℕ) : Type 0 where
      bytes : List ℕ
      later : List (List ℕ)
      all_complete : List (List Sent)
      have : HaveTaken (disconnect base) begun bytes
      sent : IsSent history b (done ++ bytes ∷ later) all_complete

    coming_less : (base : Subscribed) (done : List (List ℕ)) (begun more : List ℕ) → Coming base done (begun ++ more)
        → Coming base done begun
    coming_less base done begun more coming = record {
      bytes = coming.bytes;
      later = coming.later;
      all_complete = coming.all_complete;
      have = have_less (disconnect base) begun more coming.bytes coming.have;
      sent = coming.sent;
    }

    until_stored : (base other : Subscribed) (done : List (List ℕ)) (begun : List ℕ) → AreFedWhole noon b done base
        → IsFedUntil noon (disconnect base) begun other fault.Memory → Coming base done begun → IsSafeFor history other
    until_stored base other done begun before until coming =
        (confirmed_stored noon history b other done coming.bytes [] coming.later coming.all_complete (Some fault.Memory)
        (subst (λ bs. IsSent history b (done ++ bs ∷ coming.later) coming.all_complete) (sym (append-nil coming.bytes)) coming.sent)
        none_safe
        (fed_then_stopped noon done coming.bytes [] b base other fault.Memory before
        (until_within noon (disconnect base) other begun coming.bytes fault.Memory coming.have until))).0

    whole_stored : (base ideal : Subscribed) (done : List (List ℕ)) (begun : List ℕ) → AreFedWhole noon b done base
        → IsFedWhole noon (disconnect base) begun ideal → Coming base done begun → IsSafeFor history ideal
    whole_stored base ideal done begun before whole coming =
        until_stored base (record ideal { closed = true }) done begun before (whole_until noon (disconnect base) ideal begun whole) coming

    module _ (done : List (List ℕ)) (begun part : List ℕ) (s : SubscriberValue C) (stands : Stands done begun s) where
      -- a part is fed
      record Fed (fed : SubscriberValue C) : Type 0 where
        tables : Tables
        held : holds fed.applied.store tables
        ideal : Subscribed
        is_fed : IsFedWhole noon (disconnect stands.base) (begun ++ part) ideal
        same : seen place fed tables ≡ quiet fed.applied.replies ideal
        counts : IsCountedWhole noon (disconnect stands.base) (begun ++ part) ideal.position stands.counted (count fed.applied.store)
        unclosed : (seen place s stands.tables).closed ≡ false

      one_fed : (now : ℤ) (fed : SubscriberValue C) → Feeds holds place now s part fed → FeedsCounted holds place count now s part fed
          → Fed fed
      one_fed now fed feeds counts =
          let one = feeds stands.tables stands.held in
          let whole : IsFedWhole now (quiet [] stands.ideal) part (seen place fed one.0) =
          subst (λ (x : Subscribed). IsFedWhole now x part (seen place fed one.0)) stands.same one.2.1 in
          let quietly = whole_quiet now noon stands.ideal.replies (quiet [] stands.ideal) (seen place fed one.0) part whole in
          let counted : IsCountedWhole now (quiet [] stands.ideal) part (place fed.applied.store) (count s.applied.store)
          (count fed.applied.store) =
          subst (λ (x : Subscribed). IsCountedWhole now x part (place fed.applied.store) (count s.applied.store) (count fed.applied.store))
          stands.same (counts stands.tables stands.held) in
          record {
            tables = one.0;
            held = one.1;
            ideal = quiet quietly.0 (seen place fed one.0);
            is_fed = two_pieces noon (disconnect stands.base) stands.ideal (quiet quietly.0 (seen place fed one.0)) begun part stands.is_fed
                quietly.1;
            same = refl;
            counts = counted_pieces noon (disconnect stands.base) stands.ideal begun part stands.ideal.position (place fed.applied.store)
                stands.counted (count s.applied.store) (count fed.applied.store) stands.is_fed stands.counts
                (counted_quiet now noon stands.ideal.replies (quiet [] stands.ideal) part (place fed.applied.store) (count s.applied.store)
                (count fed.applied.store) counted);
            unclosed = one.2.0;
          }

      fed_safe : (fed : SubscriberValue C) → Fed fed → Coming stands.base done (begun ++ part) → HoldsSafely holds place reopens history fed
      fed_safe fed f coming =
          let safe = whole_stored stands.base f.ideal done (begun ++ part) stands.before f.is_fed coming in
          (f.tables, f.held, subst (λ (x : Subscribed). IsSafeFor history x) (sym f.same) safe)

      -- or stopped
      until_safe : (now : ℤ) (x : SubscriberValue C) (f : Fault) → (seen place s stands.tables).closed ≡ false
          → FeedsUntil holds place now s part x f → Coming stands.base done (begun ++ part) → HoldsSafely holds place reopens history x
      until_safe now x f unclosed until coming =
          let one = until stands.tables stands.held in
          let stops : IsFedUntil now (quiet [] stands.ideal) part (seen place x one.0) f =
          subst (λ (y : Subscribed). IsFedUntil now y part (seen place x one.0) f) stands.same
          (until_of now (seen place s stands.tables) (seen place x one.0) part f unclosed one.2) in
          let alike = until_quiet now noon stands.ideal.replies (quiet [] stands.ideal) (seen place x one.0) part f stops in
          let safe = until_stored stands.base alike.other done (begun ++ part) stands.before
          (piece_then_stop noon (disconnect stands.base) stands.ideal alike.other begun part fault.Memory stands.is_fed alike.until)
          coming in (
            one.0,
            one.1,
            record {
              same = subst (λ n. tables_as_of history n ≡ Ok one.0) alike.position
                  (subst (λ (t : Tables). tables_as_of history alike.other.position ≡ Ok t) alike.tables safe.same);
              stored = subst (λ n. NothingBetween history (place x.applied.store) n) alike.confirmed
                  (subst (λ n. NothingBetween history n alike.other.confirmed) alike.position safe.stored);
              below = subst (λ n. place x.applied.store ≤ n) alike.confirmed
                  (subst (λ n. n ≤ alike.other.confirmed) alike.position safe.below);
            },
          )

      -- what a crash leaves then
      fed_leaves : (now : ℤ) (new : SubscriberValue C) → (seen place s stands.tables).closed ≡ false
          → Coming stands.base done (begun ++ part)
          → LeavesOldOr place reopens serves (FedOver (λ x. FeedsUntil holds place now s part x fault.Memory)) s.applied.store
          new.applied.store
          → NothingBetween history (place new.applied.store) new.applied.confirmed → LeavesSafely holds place reopens history s
          → LeavesSafely holds place reopens history new
      fed_leaves now new unclosed coming crash stored left other opens =
          elim (crash other opens) [
            | inl was ↦
                let earlier = left other was.0 in
                let by : place new.applied.store ≤ place other = subst (λ n. n ≤ place other) (sym was.1) earlier.position in
                record {
                  tables = earlier.tables;
                  held = earlier.held;
                  same = earlier.same;
                  position = by;
                  stored = more_stored history (place new.applied.store) (place other) new.applied.confirmed by stored;
                }
            | inr over ↦
                let safe = until_safe now over.2.0 fault.Memory unclosed over.2.2 coming in
                record {
                  tables = safe.0;
                  held = subst (λ (x : C). holds x safe.0) over.2.1 safe.1;
                  same = subst (λ (x : C). tables_as_of history (place x) ≡ Ok safe.0) over.2.1 safe.2.same;
                  position = over.1;
                  stored = more_stored history (place new.applied.store) (place other) new.applied.confirmed over.1 stored;
                }
          ]

    -- after a part: in the session, and behind its end
    abbrev goes_on : (done : List (List ℕ)) (begun part : List ℕ) (s fed after : SubscriberValue C) (stands : Stands done begun s)
        → Fed done begun part s stands fed → after.applied.store ≡ fed.applied.store
        → ((tables : Tables) → seen place after tables ≡ settled false (seen place fed tables)) → Stands done (begun ++ part) after
    goes_on done begun part s fed after stands f store state = record {
      base = stands.base;
      before = stands.before;
      ideal = f.ideal;
      is_fed = f.is_fed;
      tables = f.tables;
      held = subst (λ (x : C). holds x f.tables) (sym store) f.held;
      same = state f.tables ∙ ap (settled false) f.same;
      counted = stands.counted;
      counts_before = stands.counts_before;
      counts = subst (λ (x : C). IsCountedWhole noon (disconnect stands.base) (begun ++ part) f.ideal.position stands.counted (count x))
          (sym store) f.counts;
    }

    abbrev ends_here : (done : List (List ℕ)) (begun part : List ℕ) (s fed after : SubscriberValue C) (stands : Stands done begun s)
        → Fed done begun part s stands fed → after.applied.store ≡ fed.applied.store
        → ((tables : Tables) → seen place after tables ≡ settled true (seen place fed tables))
        → Stands (done ++ (begun ++ part) ∷ []) [] after
    ends_here done begun part s fed after stands f store state = record {
      base = f.ideal;
      before = fed_more noon done (begun ++ part) b stands.base f.ideal stands.before f.is_fed;
      ideal = disconnect f.ideal;
      is_fed = nothing_fed noon f.ideal;
      tables = f.tables;
      held = subst (λ (x : C). holds x f.tables) (sym store) f.held;
      same = state f.tables ∙ ap (settled true) f.same;
      counted = count fed.applied.store;
      counts_before = sessions_and noon done (begun ++ part) b stands.base f.ideal first_count stands.counted (count fed.applied.store)
          stands.counts_before f.is_fed f.counts;
      counts = subst (λ (x : C). IsCountedWhole noon (disconnect f.ideal) [] f.ideal.position (count fed.applied.store) (count x))
          (sym store) (nothing_counted noon f.ideal (count fed.applied.store));
    }

    -- what comes is some sessions of the history, of which the last has all that is taken of it
    record Sends (s : Sofar C) (rest : List ℕ) : Type 0 where
      bytes : List ℕ
      all_complete : List (List Sent)
      have : (tables : Tables) → holds s.from.applied.store tables → HaveTaken (seen place s.from tables) (s.begun ++ rest) bytes
      sent : IsSent history b (s.ended ++ bytes ∷ []) all_complete

    -- the subscriber at the start of the session
    record Starts (base : Subscribed) (from : SubscriberValue C) : Type 0 where
      tables : Tables
      held : holds from.applied.store tables
      same : seen place from tables ≡ disconnect base

    all_coming : (s : Sofar C) (rest : List ℕ) (base : Subscribed) → Starts base s.from → Sends s rest
        → Coming base s.ended (s.begun ++ rest)
    all_coming s rest base starts sends = record {
      bytes = sends.bytes;
      later = [];
      all_complete = sends.all_complete;
      have = subst (λ (x : Subscribed). HaveTaken x (s.begun ++ rest) sends.bytes) starts.same (sends.have starts.tables starts.held);
      sent = sends.sent;
    }

    -- a session that ends
    ended_coming : (steps : List (Step C)) (s : Sofar C) (done : List (List ℕ)) (begun rest : List ℕ) (base : Subscribed)
        → s.ended ≡ done ++ begun ∷ [] → Sends (with_parts s steps) rest → Coming base done begun
    ended_coming steps s done begun rest base same sends =
        let on = go_on steps s sends.bytes in
        record {
          bytes = begun;
          later = on.0;
          all_complete = sends.all_complete;
          have = all_taken (disconnect base) begun;
          sent = subst (λ (x : List (List ℕ)). IsSent history b x sends.all_complete)
              (on.1 ∙ ap (λ (x : List (List ℕ)). x ++ on.0) same ∙ append_assoc done (begun ∷ []) on.0) sends.sent;
        }

    coming_of : (steps : List (Step C)) (s : Sofar C) (rest : List ℕ) (base : Subscribed) → Starts base s.from
        → Sends (with_parts s steps) rest → Coming base s.ended s.begun
    coming_of [] s rest base starts sends = coming_less base s.ended s.begun rest (all_coming s rest base starts sends)
    coming_of (step ∷ steps) s rest base starts sends =
        by_end step.ends (λ on. coming_of steps (with_by false s step) rest base starts on) sends
      where
        by_end : (ends : Bool)
            → (Sends (with_parts (with_by false s step) steps) rest → Coming base s.ended (s.begun ++ step.part))
            → Sends (with_parts (with_by ends s step) steps) rest → Coming base s.ended s.begun
        by_end true on ended =
            coming_less base s.ended s.begun step.part
            (ended_coming steps (with_by true s step) s.ended (s.begun ++ step.part) rest base refl ended)
        by_end false on more = coming_less base s.ended s.begun step.part (on more)

    -- where the parts end
    record Walked (mid : SubscriberValue C) (rest : List ℕ) : Type 0 where
      done : List (List ℕ)
      begun : List ℕ
      stands : Stands done begun mid
      coming : Coming stands.base done (begun ++ rest)
      leaves : LeavesSafely holds place reopens history mid
      none : mid.applied.replies ≡ []

    abbrev Walks : List (Step C) → List ℕ → SubscriberValue C → SubscriberValue C → Type 0
    Walks steps rest old mid = AreToldSafely holds place reopens history old steps × Walked mid rest

    -- one part more in front
    walk_step : (step : Step C) (steps : List (Step C)) (rest : List ℕ) (s : Sofar C) (old mid : SubscriberValue C)
        → IsStep holds place reopens serves count old step
        → (stands : Stands s.ended s.begun old) → Starts stands.base s.from → old.applied.replies ≡ []
        → LeavesSafely holds place reopens history old
        → ((s' : Sofar C) (stands' : Stands s'.ended s'.begun step.after) → Starts stands'.base s'.from → step.after.applied.replies ≡ []
        → LeavesSafely holds place reopens history step.after → Sends (with_parts s' steps) rest → Walks steps rest step.after mid)
        → (ends : Bool) → step.ends ≡ ends → Sends (with_parts (with_by ends s step) steps) rest
        → Walks (step ∷ steps) rest old mid
    walk_step step steps rest s old mid is_step stands starts none left later = by_end
      where
        f : Fed s.ended s.begun step.part old stands step.fed
        f = one_fed s.ended s.begun step.part old stands step.now step.fed is_step.is_fed.feeds is_step.is_fed.counts

        told : Coming stands.base s.ended (s.begun ++ step.part) → IsToldSafely holds place reopens history step.fed (told_of old step)
        told coming =
            let safe = fed_safe s.ended s.begun step.part old stands step.fed f coming in
            let one = is_step.is_fed.feeds stands.tables stands.held in
            record {
              rows = safe;
              statuses = λ tables. rising_safe history (record (seen place step.fed tables) { replies = told_of old step })
                  old.applied.confirmed safe.2.stored
                  (part_rises holds place reopens serves count step.now old step.fed step.part stands.tables one.0 none one.2.1);
              left = fed_leaves s.ended s.begun step.part old stands step.now step.fed f.unclosed coming is_step.is_fed.crash safe.2.stored
                  left;
            }

        on : Coming stands.base s.ended (s.begun ++ step.part) → LeavesSafely holds place reopens history step.after
        on coming =
            leaves_same history step.fed step.after is_step.store (after_confirmed holds place reopens serves count old step is_step)
            (told coming).left

        state_by : (ends : Bool) → step.ends ≡ ends → (tables : Tables)
            → seen place step.after tables ≡ settled ends (seen place step.fed tables)
        state_by ends e tables = is_step.state tables ∙ ap (λ (x : Bool). settled x (seen place step.fed tables)) e

        by_end : (ends : Bool) → step.ends ≡ ends → Sends (with_parts (with_by ends s step) steps) rest → Walks (step ∷ steps) rest old mid
        by_end true e sends =
            let coming = ended_coming steps (with_by true s step) s.ended (s.begun ++ step.part) rest stands.base refl sends in
            let stands' = ends_here s.ended s.begun step.part old step.fed step.after stands f is_step.store (state_by true e) in
            let more = later (with_by true s step) stands'
            (record { tables = stands'.tables; held = stands'.held; same = stands'.same })
            (after_replies holds place reopens serves count old step is_step) (on coming) sends in
            ((told coming, more.0), more.1)
        by_end false e sends =
            let coming = coming_of steps (with_by false s step) rest stands.base starts sends in
            let stands' = goes_on s.ended s.begun step.part old step.fed step.after stands f is_step.store (state_by false e) in
            let more = later (with_by false s step) stands' starts (after_replies holds place reopens serves count old step is_step)
            (on coming) sends in
            ((told coming, more.0), more.1)

    walk : (steps : List (Step C)) (rest : List ℕ) (s : Sofar C) (old mid : SubscriberValue C)
        → AreSteps holds place reopens serves count old steps mid
        → (stands : Stands s.ended s.begun old) → Starts stands.base s.from → old.applied.replies ≡ []
        → LeavesSafely holds place reopens history old → Sends (with_parts s steps) rest
        → Walks steps rest old mid
    walk [] rest s old mid are stands starts none left sends = (
      tt,
      subst (λ (x : SubscriberValue C). Walked x rest) (sym are) (record {
        done = s.ended;
        begun = s.begun;
        stands = stands;
        coming = all_coming s rest stands.base starts sends;
        leaves = left;
        none = none;
      }),
    )
    walk (step ∷ steps) rest s old mid are stands starts none left sends =
        walk_step step steps rest s old mid are.0 stands starts none left
        (λ s' stands' starts' none' left' sends'. walk steps rest s' step.after mid are.1 stands' starts' none' left' sends')
        step.ends refl sends

    -- what the store holds there
    walked_holds : (mid : SubscriberValue C) (rest : List ℕ) → Walked mid rest → HoldsSafely holds place reopens history mid
    walked_holds mid rest walked =
        let stands = walked.stands in (
          stands.tables,
          stands.held,
          subst (λ (x : Subscribed). IsSafeFor history x) (sym stands.same)
              (whole_stored stands.base stands.ideal walked.done walked.begun stands.before stands.is_fed
              (coming_less stands.base walked.done walked.begun rest walked.coming)),
        )

    holds_same : (a b : SubscriberValue C) → b.applied.store ≡ a.applied.store → b.applied.confirmed ≡ a.applied.confirmed
        → HoldsSafely holds place reopens history a → HoldsSafely holds place reopens history b
    holds_same a b store confirmed safe = (
      safe.0,
      subst (λ (x : C). holds x safe.0) (sym store) safe.1,
      record {
        same = subst (λ (x : C). tables_as_of history (place x) ≡ Ok safe.0) (sym store) safe.2.same;
        stored = subst (λ n. NothingBetween history (place b.applied.store) n) (sym confirmed)
            (subst (λ (x : C). NothingBetween history (place x) a.applied.confirmed) (sym store) safe.2.stored);
        below = subst (λ n. place b.applied.store ≤ n) (sym confirmed)
            (subst (λ (x : C). place x ≤ a.applied.confirmed) (sym store) safe.2.below);
      },
    )

    -- ---- what is counted

    -- of a front of the last session
    walked_counts : (mid : SubscriberValue C) (rest : List ℕ) (walked : Walked mid rest) (position : ℕ) (behind : Tally)
        → IsCountedFront noon (disconnect walked.stands.base) (walked.begun ++ rest) position walked.stands.counted behind
        → behind ≡ history_tallied history b.position position first_count
    walked_counts mid rest walked position behind front =
        let coming = walked.coming in
        let stands = walked.stands in
        counted_of_history noon history (walked.done ++ coming.bytes ∷ coming.later) coming.all_complete b position first_count behind
        coming.sent
        (sessions_then noon walked.done coming.bytes coming.later b stands.base position first_count stands.counted behind
        stands.counts_before
        (counted_within noon (disconnect stands.base) (walked.begun ++ rest) coming.bytes position stands.counted behind coming.have front))

    -- where all that was read is fed
    all_counts : (mid : SubscriberValue C) → Walked mid []
        → count mid.applied.store ≡ history_tallied history b.position (place mid.applied.store) first_count
    all_counts mid walked =
        let stands = walked.stands in
        let at : place mid.applied.store ≡ stands.ideal.position = ap (λ (x : Subscribed). x.position) stands.same in
        walked_counts mid [] walked (place mid.applied.store) (count mid.applied.store)
        (subst (λ n. IsCountedFront noon (disconnect stands.base) (walked.begun ++ []) n stands.counted (count mid.applied.store)) (sym at)
        (front_stands noon (disconnect stands.base) walked.begun [] stands.ideal.position stands.counted (count mid.applied.store)
        (is_front noon (disconnect stands.base) walked.begun stands.ideal.position stands.counted (count mid.applied.store) stands.counts)))

    -- ---- what comes of the last part

    module _ (mid new : SubscriberValue C) (part : List ℕ) (walked : Walked mid part) where
      untold_holds : (now : ℤ) (front : List ℕ) (untold : IsUntold holds place reopens serves count now mid part new front)
          → HoldsSafely holds place reopens history untold.fed
      untold_holds now front untold =
          fed_safe walked.done walked.begun part mid walked.stands untold.fed
          (one_fed walked.done walked.begun part mid walked.stands now untold.fed untold.is_fed.feeds untold.is_fed.counts) walked.coming

      untold_left : (now : ℤ) (front : List ℕ) (untold : IsUntold holds place reopens serves count now mid part new front)
          → LeavesSafely holds place reopens history untold.fed
      untold_left now front untold =
          fed_leaves walked.done walked.begun part mid walked.stands now untold.fed
          (untold.is_fed.feeds walked.stands.tables walked.stands.held).2.0 walked.coming untold.is_fed.crash
          (untold_holds now front untold).2.stored walked.leaves

      unfed_leaves : (now : ℤ) (f : Fault) → IsUnfed holds place reopens serves count now mid part new f
          → LeavesSafely holds place reopens history new
      unfed_leaves now f unfed =
          let x = unfed.why.0 in
          let kept = unfed.why.1 in
          let safe = until_safe walked.done walked.begun part mid walked.stands now x f unfed.unclosed unfed.why.2 walked.coming in
          fed_leaves walked.done walked.begun part mid walked.stands now new unfed.unclosed walked.coming unfed.crash
          (subst (λ n. NothingBetween history n new.applied.confirmed) (sym kept.position)
          (subst (λ n. NothingBetween history (place x.applied.store) n) (sym kept.confirmed) safe.2.stored)) walked.leaves

      -- all that is to be told of it is stored, though a front alone is written
      last_told : (now : ℤ) (front : List ℕ) → (untold : IsUntold holds place reopens serves count now mid part new front)
          → IsToldSafely holds place reopens history untold.fed (due now mid untold.fed)
      last_told now front untold =
          let safe = untold_holds now front untold in
          let one = untold.is_fed.feeds walked.stands.tables walked.stands.held in
          record {
            rows = safe;
            statuses = λ tables. rising_safe history
                (record (seen place untold.fed tables) { replies = due now mid untold.fed }) mid.applied.confirmed safe.2.stored
                (part_rises holds place reopens serves count now mid untold.fed part walked.stands.tables one.0 walked.none one.2.1);
            left = untold_left now front untold;
          }

      stopped_holds : (a b : Option (List ℕ)) (f : FollowFault) → StopsPart holds place reopens serves count a b part mid new f
          → serves new.applied.store → HoldsSafely holds place reopens history new
      stopped_holds a b follow.Read stops serving = absurd stops
      stopped_holds a b follow.Write stops serving =
          let untold = stops.2 in
          holds_same untold.fed new untold.store untold.confirmed (untold_holds stops.0 stops.1 untold)
      stopped_holds a b (follow.Stream f) stops serving = by_part stops.1.1
        where
          by_part : IsUnfed holds place reopens serves count stops.1.0 mid part new f
              ⊎ ((f ≡ fault.Memory) × IsUntold holds place reopens serves count stops.1.0 mid part new [])
              → HoldsSafely holds place reopens history new
          by_part (inl unfed) = until_safe walked.done walked.begun part mid walked.stands stops.1.0 new f unfed.unclosed
              (unfed.until serving) walked.coming
          by_part (inr untold) = holds_same untold.1.fed new untold.1.store untold.1.confirmed (untold_holds stops.1.0 [] untold.1)

      stopped_leaves : (a b : Option (List ℕ)) (f : FollowFault) → StopsPart holds place reopens serves count a b part mid new f
          → LeavesSafely holds place reopens history new
      stopped_leaves a b follow.Read stops = absurd stops
      stopped_leaves a b follow.Write stops =
          let untold = stops.2 in
          leaves_same history untold.fed new untold.store untold.confirmed (untold_left stops.0 stops.1 untold)
      stopped_leaves a b (follow.Stream f) stops = by_part stops.1.1
        where
          by_part : IsUnfed holds place reopens serves count stops.1.0 mid part new f
              ⊎ ((f ≡ fault.Memory) × IsUntold holds place reopens serves count stops.1.0 mid part new [])
              → LeavesSafely holds place reopens history new
          by_part (inl unfed) = unfed_leaves stops.1.0 f unfed
          by_part (inr untold) = leaves_same history untold.1.fed new untold.1.store untold.1.confirmed (untold_left stops.1.0 [] untold.1)

      untold_counts : (now : ℤ) (front : List ℕ) → IsUntold holds place reopens serves count now mid part new front
          → count new.applied.store ≡ history_tallied history b.position (place new.applied.store) first_count
      untold_counts now front untold =
          let f = one_fed walked.done walked.begun part mid walked.stands now untold.fed untold.is_fed.feeds untold.is_fed.counts in
          let fed = untold.fed.applied.store in
          subst (λ (s : C). count s ≡ history_tallied history b.position (place s) first_count) (sym untold.store)
          (walked_counts mid part walked (place fed) (count fed)
          (is_front noon (disconnect walked.stands.base) (walked.begun ++ part) (place fed) walked.stands.counted (count fed)
          (subst (λ n. IsCountedWhole noon (disconnect walked.stands.base) (walked.begun ++ part) n walked.stands.counted (count fed))
          (sym (ap (λ (x : Subscribed). x.position) f.same)) f.counts)))

      unfed_counts : (now : ℤ) (f : Fault) → serves new.applied.store → IsUnfed holds place reopens serves count now mid part new f
          → count new.applied.store ≡ history_tallied history b.position (place new.applied.store) first_count
      unfed_counts now f own unfed =
          let stands = walked.stands in
          let s = new.applied.store in
          let was = count mid.applied.store in
          let front : IsCountedFront now (quiet [] stands.ideal) part (place s) was (count s) =
          subst (λ (x : Subscribed). IsCountedFront now x part (place s) was (count s)) stands.same
          (unfed.counts own stands.tables stands.held) in
          walked_counts mid part walked (place s) (count s)
          (front_pieces noon (disconnect stands.base) stands.ideal walked.begun part stands.ideal.position (place s) stands.counted was
          (count s) stands.is_fed stands.counts
          (front_quiet now noon stands.ideal.replies (quiet [] stands.ideal) part (place s) was (count s) front))

      stopped_counts : (a b' : Option (List ℕ)) (f : FollowFault) → serves new.applied.store
          → StopsPart holds place reopens serves count a b' part mid new f
          → count new.applied.store ≡ history_tallied history b.position (place new.applied.store) first_count
      stopped_counts a b' follow.Read own stops = absurd stops
      stopped_counts a b' follow.Write own stops = untold_counts stops.0 stops.1 stops.2
      stopped_counts a b' (follow.Stream f) own stops = by_part stops.1.1
        where
          by_part : IsUnfed holds place reopens serves count stops.1.0 mid part new f
              ⊎ ((f ≡ fault.Memory) × IsUntold holds place reopens serves count stops.1.0 mid part new [])
              → count new.applied.store ≡ history_tallied history b.position (place new.applied.store) first_count
          by_part (inl unfed) = unfed_counts stops.1.0 f own unfed
          by_part (inr untold) = untold_counts stops.1.0 [] untold.1

  -- a front of steps
  front_steps : (front later : List (Step C)) (old new : SubscriberValue C)
      → AreSteps holds place reopens serves count old (front ++ later) new
      → (mid : SubscriberValue C) × AreSteps holds place reopens serves count old front mid
  front_steps [] later old new are = (old, refl)
  front_steps (step ∷ front) later old new are = let rest = front_steps front later step.after new are.1 in (rest.0, (are.0, rest.1))

  -- ---- from the start on

  module _ (old start : SubscriberValue C) (is_start : IsStart place old start) (leaves : held.Leaves holds place reopens old.applied.store)
      (history : List Transaction) (all_complete : List (List Sent)) (tables : Tables) (h : holds old.applied.store tables) where
    abbrev first : Subscribed
    first = quiet [] (seen place old tables)

    abbrev counted_first : Tally
    counted_first = count old.applied.store

    abbrev at_start : Stands history first refl counted_first [] [] start
    at_start = record {
      base = first;
      before = refl;
      ideal = disconnect first;
      is_fed = nothing_fed noon first;
      tables = tables;
      held = subst (λ (x : C). holds x tables) (sym is_start.store) h;
      same = is_start.state tables;
      counted = counted_first;
      counts_before = (refl, refl);
      counts = subst (λ (x : C). IsCountedWhole noon (disconnect first) [] first.position counted_first (count x)) (sym is_start.store)
          (nothing_counted noon first counted_first);
    }

    same_confirmed : start.applied.confirmed ≡ old.applied.confirmed
    same_confirmed = ap (λ (x : Subscribed). x.confirmed) (is_start.state map.empty)

    start_leaves : (sessions : List (List ℕ)) → IsSent history (seen place old tables) sessions all_complete
        → LeavesSafely holds place reopens history start
    start_leaves sessions is other opens =
        let as_old = leaves other (subst (λ (x : C). reopens x other) is_start.store opens) in
        record {
          tables = tables;
          held = as_old.0 tables h;
          same = ap (tables_as_of history) as_old.1 ∙ is.safe.same;
          position = subst (λ (x : C). place x ≤ place other) (sym is_start.store) (let e = as_old.1 in omega (arith, e));
          stored = subst (λ n. NothingBetween history n start.applied.confirmed) (sym as_old.1)
              (subst (λ n. NothingBetween history (place old.applied.store) n) (sym same_confirmed) is.safe.stored);
        }

    start_holds : (sessions : List (List ℕ)) → IsSent history (seen place old tables) sessions all_complete
        → HoldsSafely holds place reopens history start
    start_holds sessions is = (
      tables,
      subst (λ (x : C). holds x tables) (sym is_start.store) h,
      subst (λ (x : Subscribed). IsSafeFor history x) (sym (is_start.state tables))
          (record { same = is.safe.same; stored = is.safe.stored; below = is.safe.below }),
    )

    -- the first status
    greets : (now : ℤ) (sessions : List (List ℕ)) → IsSent history (seen place old tables) sessions all_complete
        → IsToldSafely holds place reopens history start (first_status start now)
    greets now sessions is =
        let safe = start_holds sessions is in
        let c = start.applied.confirmed in
        record {
          rows = safe;
          statuses = λ t. rising_safe history (record (seen place start t) { replies = first_status start now }) c safe.2.stored
              (one_rises c c (status_at now start) refl (omega arith) (omega arith));
          left = start_leaves sessions is;
        }

    abbrev begins : Sofar C
    begins = record { ended = []; from = start; begun = [] }

    -- sessions with all that is taken of these parts, and of one more
    from_start : (steps : List (Step C)) (part : List ℕ) (mid : SubscriberValue C) (sessions : List (List ℕ))
        → AreSteps holds place reopens serves count start steps mid → HaveAllTaken holds place start steps part sessions
        → IsSent history (seen place old tables) sessions all_complete
        → AreToldSafely holds place reopens history start steps × Walked history first refl counted_first mid part
    from_start steps part mid sessions are all is =
        let s = with_parts begins steps in
        let from : s.from ≡ session_start start steps = same_from steps begins in
        let same = same_last all.ended s.ended all.last (s.begun ++ part) (sym all.came ∙ same_sessions steps begins part) in
        walk history first refl counted_first steps part begins start mid are at_start
        (record { tables = at_start.tables; held = at_start.held; same = at_start.same })
        (ap (λ (x : Subscribed). x.replies) (is_start.state map.empty)) (start_leaves sessions is)
        (record {
          bytes = all.bytes;
          all_complete = all_complete;
          have = subst (λ (x : SubscriberValue C). (t : Tables) → holds x.applied.store t
              → HaveTaken (seen place x t) (s.begun ++ part) all.bytes) (sym from)
              (subst (λ bs. (t : Tables) → holds (session_start start steps).applied.store t
              → HaveTaken (seen place (session_start start steps) t) bs all.bytes) same.1 all.taken);
          sent = subst (λ (x : List (List ℕ)). IsSent history first x all_complete)
              (all.are ∙ ap (λ (x : List (List ℕ)). x ++ all.bytes ∷ []) same.0)
              (record {
                is_history = is.is_history;
                safe = is.safe;
                start = is.start;
                above = is.above;
                nothing = is.nothing;
                sent = is.sent;
              });
        })

    -- those that came do
    as_they_came : (steps : List (Step C)) → HaveAllTaken holds place start steps [] (sessions_from [] steps [])
    as_they_came steps =
        let s = with_parts begins steps in
        let same : sessions_from [] steps [] ≡ s.ended ++ (s.begun ++ []) ∷ [] = same_sessions steps begins [] in
        record {
          ended = s.ended;
          last = s.begun ++ [];
          bytes = s.begun ++ [];
          came = same;
          are = same;
          taken = λ t held. all_taken (seen place (session_start start steps) t) (s.begun ++ []);
        }

  module _ (unread rest : Option (List ℕ)) (reads : ℕ) (wrote wrote' : Option (List ℕ)) (old start new : SubscriberValue C)
      (is_start : IsStart place old start) (leaves : held.Leaves holds place reopens old.applied.store) where
    abbrev Ends : Option FollowFault → Type 0
    Ends ended = LiveEnds holds place reopens serves count unread rest reads wrote wrote' start new ended

    -- of each front of the parts
    fronts_safe : (now : ℤ) (steps : List (Step C)) (mid : SubscriberValue C) → AreSteps holds place reopens serves count start steps mid
        → (history : List Transaction) (all_complete : List (List Sent)) (tables : Tables) (front later : List (Step C))
        → steps ≡ front ++ later → holds old.applied.store tables
        → IsSent history (seen place old tables) (sessions_from [] front []) all_complete
        → IsToldSafely holds place reopens history start (first_status start now) × AreToldSafely holds place reopens history start front
    fronts_safe now steps mid are history all_complete tables front later is h sent =
        let some = front_steps front later start mid
        (subst (λ (x : List (Step C)). AreSteps holds place reopens serves count start x mid) is are) in (
          greets old start is_start leaves history all_complete tables h now (sessions_from [] front []) sent,
          (from_start old start is_start leaves history all_complete tables h front [] some.0 (sessions_from [] front []) some.1
              (as_they_came old start is_start leaves history all_complete tables h front) sent).0,
        )

    live_safe : (now : ℤ) → (so : LiveSteps holds place reopens serves count unread rest [] wrote wrote' start new)
        → TellsSafely holds place reopens serves old start (first_status start now) so.steps [] new
    live_safe now so = record {
      told = fronts_safe now so.steps new so.are;
      at_end = λ history all_complete tables sessions all h is.
          let walked = from_start old start is_start leaves history all_complete tables h so.steps [] new sessions so.are all is in
          let b = first old start is_start leaves history all_complete tables h in (
            (λ serving. walked_holds history b refl (count old.applied.store) new [] walked.1),
            walked.1.leaves,
          );
    }

    stops_safe : (now : ℤ) (f : FollowFault) → (stops : LiveStops holds place reopens serves count unread rest wrote wrote' start new f)
        → TellsSafely holds place reopens serves old start (first_status start now) stops.4.steps stops.2 new
    stops_safe now f stops = record {
      told = fronts_safe now stops.4.steps stops.0 stops.4.are;
      at_end = λ history all_complete tables sessions all h is.
          let walked = from_start old start is_start leaves history all_complete tables h stops.4.steps stops.2 stops.0 sessions
          stops.4.are all is in
          let b = first old start is_start leaves history all_complete tables h in (
            stopped_holds history b refl (count old.applied.store) stops.0 new stops.2 walked.1 stops.1 wrote' f stops.5,
            stopped_leaves history b refl (count old.applied.store) stops.0 new stops.2 walked.1 stops.1 wrote' f stops.5,
          );
    }

    pub ends_safe : (now : ℤ) (ended : Option FollowFault) → (e : Ends ended)
        → TellsSafely holds place reopens serves old start (first_status start now)
        (steps_in holds place reopens serves count unread rest reads wrote wrote' start new ended e)
        (part_in holds place reopens serves count unread rest reads wrote wrote' start new ended e) new
    ends_safe now None e = live_safe now e.0
    ends_safe now (Some follow.Read) e = live_safe now e
    ends_safe now (Some follow.Write) e = stops_safe now follow.Write e
    ends_safe now (Some (follow.Stream f)) e = stops_safe now (follow.Stream f) e

    none_at_start : start.applied.replies ≡ []
    none_at_start = ap (λ (x : Subscribed). x.replies) (is_start.state map.empty)

    pub last_safe : (ended : Option FollowFault) → (e : Ends ended)
        → LastIsSafe holds place reopens serves count unread rest reads wrote wrote' start new old ended e
    last_safe None e = tt
    last_safe (Some follow.Read) e = tt
    last_safe (Some (follow.Stream f)) e = tt
    last_safe (Some follow.Write) e = (
      last_rises holds place reopens serves count e.4.steps start e.0 e.5.2.fed e.5.0 e.2 none_at_start e.4.are e.5.2.is_fed.feeds,
      λ history all_complete tables sessions all h is.
          let walked = from_start old start is_start leaves history all_complete tables h e.4.steps e.2 e.0 sessions e.4.are all is in
          last_told history (first old start is_start leaves history all_complete tables h) refl (count old.applied.store) e.0 new e.2
          walked.1 e.5.0 e.5.1 e.5.2,
    )

    live_counts : (sessions : List (List ℕ)) (so : LiveSteps holds place reopens serves count unread rest [] wrote wrote' start new)
        → HaveAllTaken holds place start so.steps [] sessions → CountsHistory holds place count old sessions new
    live_counts sessions so all history all_complete tables h is =
        let walked = from_start old start is_start leaves history all_complete tables h so.steps [] new sessions so.are all is in
        all_counts history (first old start is_start leaves history all_complete tables h) refl (count old.applied.store) new walked.1

    stops_counts : (f : FollowFault) → serves new.applied.store → (sessions : List (List ℕ))
        → (stops : LiveStops holds place reopens serves count unread rest wrote wrote' start new f)
        → HaveAllTaken holds place start stops.4.steps stops.2 sessions → CountsHistory holds place count old sessions new
    stops_counts f own sessions stops all history all_complete tables h is =
        let walked = from_start old start is_start leaves history all_complete tables h stops.4.steps stops.2 stops.0 sessions
        stops.4.are all is in
        stopped_counts history (first old start is_start leaves history all_complete tables h) refl (count old.applied.store) stops.0 new
        stops.2 walked.1 stops.1 wrote' f own stops.5

    pub ends_count : (ended : Option FollowFault) → (e : Ends ended) → serves new.applied.store → (sessions : List (List ℕ))
        → HaveAllTaken holds place start (steps_in holds place reopens serves count unread rest reads wrote wrote' start new ended e)
        (part_in holds place reopens serves count unread rest reads wrote wrote' start new ended e) sessions
        → CountsHistory holds place count old sessions new
    ends_count None e own sessions all = live_counts sessions e.0 all
    ends_count (Some follow.Read) e own sessions all = live_counts sessions e all
    ends_count (Some follow.Write) e own sessions all = stops_counts follow.Write own sessions e all
    ends_count (Some (follow.Stream f)) e own sessions all = stops_counts (follow.Stream f) own sessions e all

    pub ends_rise : (ended : Option FollowFault) → (e : Ends ended)
        → TellsRising holds place reopens start (steps_in holds place reopens serves count unread rest reads wrote wrote' start new ended e)
        (mid_in holds place reopens serves count unread rest reads wrote wrote' start new ended e)
    ends_rise None e = steps_rise holds place reopens serves count e.0.steps start new none_at_start e.0.are
    ends_rise (Some follow.Read) e = steps_rise holds place reopens serves count e.steps start new none_at_start e.are
    ends_rise (Some follow.Write) e = steps_rise holds place reopens serves count e.4.steps start e.0 none_at_start e.4.are
    ends_rise (Some (follow.Stream f)) e = steps_rise holds place reopens serves count e.4.steps start e.0 none_at_start e.4.are

  -- it is greeted, and then followed
  pub followed_live : (a a' rest : Option (List ℕ)) (reads : ℕ) (wrote w wrote' : Option (List ℕ)) (old start new : SubscriberValue C)
      (ended : Option FollowFault) → a' ≡ a → held.Leaves holds place reopens old.applied.store
      → IsGreeted place wrote w old start → LiveEnds holds place reopens serves count a' rest reads w wrote' start new ended
      → FollowsLive holds place reopens serves count a rest reads wrote wrote' old new ended
  followed_live a a' rest reads wrote w wrote' old start new ended same leaves greeted e' =
      let e = subst (λ (x : Option (List ℕ)). LiveEnds holds place reopens serves count x rest reads w wrote' start new ended) same e' in
      inr (
        start,
        w,
        greeted,
        e,
        ends_rise a rest reads w wrote' old start new greeted.0 leaves ended e,
        last_safe a rest reads w wrote' old start new greeted.0 leaves ended e,
        ends_safe a rest reads w wrote' old start new greeted.0 leaves greeted.1.0 ended e,
        ends_count a rest reads w wrote' old start new greeted.0 leaves ended e,
      )

  -- or it isn't greeted
  pub not_greeted : (a a' : Option (List ℕ)) (reads : ℕ) (wrote wrote' : Option (List ℕ)) (old new : SubscriberValue C) (f : FollowFault)
      → a' ≡ a → new.applied.store ≡ old.applied.store → StopsGreeting place wrote wrote' old f
      → FollowsLive holds place reopens serves count a a' reads wrote wrote' old new (Some f)
  not_greeted a a' reads wrote wrote' old new f same store stops = inl (f, refl, stops, store, same)
