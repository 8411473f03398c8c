-- Frames that are read from a reader, one after the other.
use Rattle.std.proofs.Common.{◌≡◌, ◌≢◌, ◌≤◌, ◌<◌, ◌+◌, ◌-◌, ◌⊎◌, inl, inr, ◌++◌, ℕ, List, [], ◌∷◌}
use Rattle.std.proofs.Common.{length, take, drop, false, Option, Some, None, Ok, Err, refl, sym, ap}
use Rattle.std.proofs.Common.{subst, ◌∙◌, arith, append-nil}
use Rattle.std.specs.Io.KnownBytes.{Consumes}
use Rattle.std.proofs.KnownBytes.{Consumes-trans}
use Rattle.pgwire.specs.Frames as wire
use Rattle.pgwire.specs.Frames.{IsAllowed}
use Rattle.pgwire.specs.Deframed.{Deframed, Stands, fresh}
use Rattle.pgapply.specs.Value.{Tables}
use Rattle.pgload.specs.declared.fault.LoadFault.{LoadFault}
use Rattle.pgload.specs.declared.input.Step.{Step}
use Rattle.pgload.specs.declared.input.Step.TheVariants as step
use Rattle.pgload.specs.Loading.{Opened, IsUnderWay, HasCome, nothing_came}
use Rattle.pgload.specs.Inputs.{Input, input_at, TakesInput, HasRead, HasEnded, HasStopped, StepsTo}
use Rattle.pgload.specs.Inputs.{Full, Breaks, Refuses}
use Rattle.pgload.specs.declared.fault.InputFault.{InputFault}
use Rattle.pgload.specs.declared.fault.InputFault.TheVariants as input
use Rattle.pgload.specs.Readers.{IsNoData, IsNoPayload, IsReadLoad}
use Rattle.pgload.specs.Readers.{IsWhyUnread, ReadsFrame, StopsReading}
use Rattle.pgload.proofs.Frames.{nothing_read, read_more, handled_at, under, stopped_stands}

-- a deframer with a whole frame
abbrev pub held_at : ℕ → wire.Frame → Deframed
held_at max f = record (fresh max) { held = wire.frame f }

module _ {C : Type 0} (holds : C → Tables → Type 0) (place : C → ℕ) (reopens : C → C → Type 0) (serves is_honest : C → Type 0)
    (max_line max : ℕ) (bytes : List ℕ) (store : C) (opened : Option Opened) (closed : Option LoadFault)
    (is : HasRead holds place reopens serves is_honest max_line bytes (fresh max) store opened closed) where
  pub still_under_way : IsUnderWay holds place reopens serves is_honest store
  still_under_way = under holds place reopens serves is_honest max_line bytes (fresh max) store opened closed is

  -- no frame of CopyData was read
  pub not_read : (more : List ℕ) (fault : LoadFault) → IsNoData max more fault
      → HasStopped holds place reopens serves is_honest max_line max (bytes ++ more) store opened closed fault
  not_read more fault why = record {
    come = is.come;
    rest = more;
    read = read_more max bytes [] more is.come is.read;
    stops = elim why [
      | inl full ↦ Full full still_under_way
      | inr (inl broken) ↦ Breaks broken.0 broken.1 broken.2 still_under_way
      | inr (inr done) ↦ Refuses wire.CopyDone [] (done.1 ∙ sym (append-nil (wire.frame wire.CopyDone))) (done.0, still_under_way)
    ];
  }

  -- a frame was read
  module _ (payload : List ℕ) (short : length payload ≤ max) (least : max ≤ 2147483643) where
    abbrev pub f : wire.Frame
    f = wire.CopyData payload

    abbrev at : HasRead holds place reopens serves is_honest max_line (bytes ++ wire.frame f) (held_at max f) store opened closed
    at = record {
      come = is.come;
      read = read_more max bytes [] (wire.frame f) is.come is.read;
      has = is.has;
      sound = refl;
      first = refl;
    }

    allowed : IsAllowed max f
    allowed = (short, omega (arith, short, least))

    stands : Stands (held_at max f) f
    stands = record { allowed = allowed; whole = refl; first = refl; fault = refl }

    pub step_of : (taken : Step) (new : C) (after : Option Opened) (end : Option LoadFault)
        → TakesInput holds place reopens serves is_honest max_line is.come (input_at payload) new after end (Ok taken)
        → StepsTo holds place reopens serves is_honest max_line max (bytes ++ wire.frame f) (fresh max) new after end (Ok taken)
    step_of taken new after end takes =
        handled_at holds place reopens serves is_honest max_line (bytes ++ wire.frame f) (held_at max f) store opened closed at f stands
        (input_at payload) taken new after end (fresh max) refl takes refl refl refl refl

    pub rejected : (new : C) (after : Option Opened) (end : Option LoadFault) (fault : LoadFault)
        → TakesInput holds place reopens serves is_honest max_line is.come (input_at payload) new after end (Err fault)
        → HasStopped holds place reopens serves is_honest max_line max (bytes ++ wire.frame f) new after end fault
    rejected new after end fault takes = record {
      come = is.come;
      rest = wire.frame f;
      read = read_more max bytes [] (wire.frame f) is.come is.read;
      stops = Refuses f [] (sym (append-nil (wire.frame f))) takes;
    }

    -- what reading it came to
    pub read_step : (unread rest : Option (List ℕ)) (taken : Step) (new : C) (after : Option Opened) (end : Option LoadFault)
        → Consumes unread rest (wire.frame f)
        → TakesInput holds place reopens serves is_honest max_line is.come (input_at payload) new after end (Ok taken)
        → taken ≢ step.Waits
        → ReadsFrame holds place reopens serves is_honest max_line max bytes unread rest new after end (Ok taken)
    read_step unread rest step.Waits new after end read takes some = absurd (some refl)
    read_step unread rest step.Goes new after end read takes some = (wire.frame f, read, step_of step.Goes new after end takes)
    read_step unread rest (step.Ended point) new after end read takes some =
        (wire.frame f, read, step_of (step.Ended point) new after end takes)

  -- none was
  pub read_nothing : (unread rest : Option (List ℕ)) (fault : InputFault) → IsNoPayload max unread rest fault
      → ReadsFrame holds place reopens serves is_honest max_line max bytes unread rest store opened closed (Err fault)
  read_nothing unread rest (input.Load fault) why = (why.0, why.1, not_read why.0 fault why.2)
  read_nothing unread rest input.CutInput why = still_under_way
  read_nothing unread rest input.Read why = still_under_way

module _ {C : Type 0} (holds : C → Tables → Type 0) (place : C → ℕ) (reopens : C → C → Type 0) (serves is_honest : C → Type 0)
    (max_line max : ℕ) where
  low_stops : (unread rest : Option (List ℕ)) (fault : InputFault) (store : C) → IsWhyUnread holds place reopens serves is_honest
      max_line max
      unread rest fault store → IsUnderWay holds place reopens serves is_honest store
      → StopsReading holds place reopens serves is_honest max_line max unread rest fault store
  low_stops unread rest fault store why low = record {
    why = why;
    part = low.part;
    leaves = λ honest other left. inl (low.leaves honest other left);
  }

  -- it stops at a frame, behind these bytes
  pub stops_behind : (start unread rest : Option (List ℕ)) (bytes : List ℕ) (fault : InputFault) (store : C) (opened : Option Opened)
      (closed : Option LoadFault) → Consumes start unread bytes
      → ReadsFrame holds place reopens serves is_honest max_line max bytes unread rest store opened closed (Err fault)
      → StopsReading holds place reopens serves is_honest max_line max start rest fault store
  stops_behind start unread rest bytes (input.Load fault) store opened closed read stops =
      let told = stopped_stands holds place reopens serves is_honest max_line max (bytes ++ stops.0) store opened closed fault stops.2 in
      record {
        why = (bytes ++ stops.0, Consumes-trans start unread rest bytes stops.0 read stops.1, opened, closed, stops.2);
        part = told.0;
        leaves = told.1;
      }
  stops_behind start unread rest bytes input.CutInput store opened closed read stops =
      low_stops start rest input.CutInput store tt stops
  stops_behind start unread rest bytes input.Read store opened closed read stops = low_stops start rest input.Read store tt stops

  -- it goes on behind these bytes
  pub goes_behind : (start unread rest : Option (List ℕ)) (bytes : List ℕ) (taken : Step) (store : C) (opened : Option Opened)
      (closed : Option LoadFault) → Consumes start unread bytes
      → ReadsFrame holds place reopens serves is_honest max_line max bytes unread rest store opened closed (Ok taken)
      → ((point : ℕ) → taken ≢ step.Ended point)
      → (more : List ℕ) × Consumes start rest more
      × HasRead holds place reopens serves is_honest max_line more (fresh max) store opened closed
  goes_behind start unread rest bytes step.Waits store opened closed read goes not = absurd goes
  goes_behind start unread rest bytes step.Goes store opened closed read goes not =
      (bytes ++ goes.0, Consumes-trans start unread rest bytes goes.0 read goes.1, goes.2)
  goes_behind start unread rest bytes (step.Ended point) store opened closed read goes not = absurd (not point refl)

  -- it ends with them
  pub ends_behind : (start unread rest : Option (List ℕ)) (bytes : List ℕ) (point : ℕ) (store : C) (opened : Option Opened)
      (closed : Option LoadFault) → Consumes start unread bytes
      → ReadsFrame holds place reopens serves is_honest max_line max bytes unread rest store opened closed (Ok (step.Ended point))
      → IsReadLoad holds place reopens serves is_honest max_line max start rest point store
  ends_behind start unread rest bytes point store opened closed read ended = record {
    bytes = bytes ++ ended.0;
    read = Consumes-trans start unread rest bytes ended.0 read ended.1;
    ended = ended.2;
  }

  pub stops_low : (start rest : Option (List ℕ)) (bytes : List ℕ) (store : C) (opened : Option Opened) (closed : Option LoadFault)
      → HasRead holds place reopens serves is_honest max_line bytes (fresh max) store opened closed
      → StopsReading holds place reopens serves is_honest max_line max start rest input.Read store
  stops_low start rest bytes store opened closed is =
      low_stops start rest input.Read store tt (under holds place reopens serves is_honest max_line bytes (fresh max) store opened
      closed is)

  pub nothing_yet : (store : C) (opened : Option Opened) (closed : Option LoadFault)
      → HasCome holds place reopens serves is_honest max_line nothing_came store opened closed
      → HasRead holds place reopens serves is_honest max_line [] (fresh max) store opened closed
  nothing_yet store opened closed has = record {
    come = nothing_came;
    read = nothing_read max;
    has = has;
    sound = refl;
    first = refl;
  }
