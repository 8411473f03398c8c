-- Part of the statement.
-- A load that is read from a reader: its frames, and not a byte of what follows them.
-- PostgreSQL documentation, Message Formats, CopyData.
use Rattle.std.specs.Prelude.{◌≡◌, ◌≤◌, ◌⊎◌, ◌++◌, ⊤, ℕ, List}
use Rattle.std.specs.Prelude.{Option, Some, None, Result, Ok, Err, false}
use Rattle.std.specs.Io.KnownBytes.{Consumes}
use Rattle.pgwire.specs.Deframed.{fresh}
use Rattle.pgwire.specs.Frames.{CopyDone, IsFramingFault, frame}
use Rattle.pgwire.specs.declared.fault.WireFault.{WireFault}
use Rattle.pgapply.specs.Value.{Tables}
use Rattle.pgload.specs.declared.input.Step.{Step}
use Rattle.pgload.specs.declared.input.Step.TheVariants as step
use Rattle.pgload.specs.declared.fault.InputFault.{InputFault}
use Rattle.pgload.specs.declared.fault.InputFault.TheVariants as input
use Rattle.pgload.specs.declared.fault.LoadFault.{LoadFault}
use Rattle.pgload.specs.declared.fault.LoadFault.TheVariants.{BadInput, Memory, Wire}
use Rattle.pgload.specs.Loading.{IsUnderWay, LeavesNoPart, Opened, most_parts}
use Rattle.pgload.specs.Inputs.{HasEnded, HasRead, HasStopped}

-- ---- a frame

-- The next bytes, which were read, are no frame of CopyData: they begin no frame, or are a
-- CopyDone. Or memory ran out.
abbrev pub IsNoData : ℕ → List ℕ → LoadFault → Type 0
IsNoData max_frame bytes fault =
    (fault ≡ Memory) ⊎ (((of : WireFault) × (fault ≡ Wire of) × IsFramingFault max_frame false bytes of)
    ⊎ ((fault ≡ BadInput) × (bytes ≡ frame CopyDone)))

-- why no payload was read
abbrev pub IsNoPayload : ℕ → Option (List ℕ) → Option (List ℕ) → InputFault → Type 0
IsNoPayload max_frame unread rest (input.Load fault) = (bytes : List ℕ) × Consumes unread rest bytes × IsNoData max_frame bytes fault
IsNoPayload max_frame unread rest input.CutInput = ⊤
IsNoPayload max_frame unread rest input.Read = ⊤

module _ {C : Type 0} (holds : C → Tables → Type 0) (place : C → ℕ) (reopens : C → C → Type 0) (serves is_honest : C → Type 0) where
  -- what a call came to that read a frame behind these bytes
  abbrev pub ReadsFrame : ℕ → ℕ → List ℕ → Option (List ℕ) → Option (List ℕ) → C → Option Opened → Option LoadFault
      → Result Step InputFault → Type 0
  ReadsFrame max_line max_frame bytes unread rest store opened closed (Ok step.Waits) = ⊥
  ReadsFrame max_line max_frame bytes unread rest store opened closed (Ok step.Goes) =
      (more : List ℕ) × Consumes unread rest more
      × HasRead holds place reopens serves is_honest max_line (bytes ++ more) (fresh max_frame) store opened closed
  ReadsFrame max_line max_frame bytes unread rest store opened closed (Ok (step.Ended point)) =
      (more : List ℕ) × Consumes unread rest more
      × HasEnded holds place reopens serves is_honest max_line max_frame (bytes ++ more) point store
  ReadsFrame max_line max_frame bytes unread rest store opened closed (Err (input.Load fault)) =
      (more : List ℕ) × Consumes unread rest more
      × HasStopped holds place reopens serves is_honest max_line max_frame (bytes ++ more) store opened closed fault
  ReadsFrame max_line max_frame bytes unread rest store opened closed (Err input.CutInput) =
      IsUnderWay holds place reopens serves is_honest store
  ReadsFrame max_line max_frame bytes unread rest store opened closed (Err input.Read) =
      IsUnderWay holds place reopens serves is_honest store

  -- ---- the load

  -- These bytes were read, and no others, and they have ended the load at this point.
  pub record IsReadLoad (max_line max_frame : ℕ) (unread rest : Option (List ℕ)) (point : ℕ) (store : C) : Type 0 where
    pub bytes : List ℕ
    pub read : Consumes unread rest bytes
    pub ended : HasEnded holds place reopens serves is_honest max_line max_frame bytes point store

  -- why it hasn't ended: of bytes that were read, the load's fault; or there are no more
  abbrev pub IsWhyUnread : ℕ → ℕ → Option (List ℕ) → Option (List ℕ) → InputFault → C → Type 0
  IsWhyUnread max_line max_frame unread rest (input.Load fault) store =
      (bytes : List ℕ) × Consumes unread rest bytes × (opened : Option Opened) × (closed : Option LoadFault)
      × HasStopped holds place reopens serves is_honest max_line max_frame bytes store opened closed fault
  IsWhyUnread max_line max_frame unread rest input.CutInput store = ⊤
  IsWhyUnread max_line max_frame unread rest input.Read store = ⊤

  -- It hasn't ended: the store's position is none of a server's, and so is that of whatever a crash
  -- leaves, unless it holds a whole load.
  pub record StopsReading (max_line max_frame : ℕ) (unread rest : Option (List ℕ)) (fault : InputFault) (store : C) : Type 0 where
    pub why : IsWhyUnread max_line max_frame unread rest fault store
    pub part : place store ≤ most_parts
    pub leaves : LeavesNoPart holds place reopens serves is_honest max_line store
