-- What the input of a load says: frames of CopyData, each with a part of the load, and last of all
-- one with the point at which it ends.
-- PostgreSQL documentation, Message Formats, CopyData; Logical Replication Message Formats,
-- Relation.
use Rattle.std.specs.Prelude.{◌≡◌, ◌≤◌, ◌⊎◌, ◌==◌, ◌&&◌, ◌++◌, ⊤, ℕ, List, [], ◌∷◌, length, take}
use Rattle.std.specs.Prelude.{false, Option, Some, None, Result, Ok, Err, if◌then◌else◌}
use Rattle.byteorder.specs.Endian.{big_number}
use Rattle.pgwire.specs.Frames as wire
use Rattle.pgwire.specs.Frames.{IsAllowed, IsFramingFault}
use Rattle.pgwire.specs.Deframed.{Deframed}
use Rattle.pgwire.specs.declared.fault.WireFault.{WireFault}
use Rattle.pglogical.specs.declared.fault.DecodeFault.{DecodeFault}
use Rattle.pglogical.specs.declared.message.Item.{Item}
use Rattle.pglogical.specs.declared.message.Item.TheVariants as item
use Rattle.pglogical.specs.declared.message.Message.{Message}
use Rattle.pglogical.specs.declared.message.Message.TheVariants as message
use Rattle.pglogical.specs.Reading.{message_at}
use Rattle.pglogical.specs.Spelling.{IsDefinition}
use Rattle.pglogical.specs.BorrowedItems.{def_value}
use Rattle.pgapply.specs.Value.{Tables}
use Rattle.pgload.specs.declared.fault.LoadFault.{LoadFault}
use Rattle.pgload.specs.declared.fault.LoadFault.TheVariants.{BadInput, Memory, Wire}
use Rattle.pgload.specs.declared.input.Input.TheVariants as borrowed
use Rattle.pgload.specs.declared.input.Input.{Input as Borrowed}
use Rattle.pgload.specs.declared.loading.Ended.{Ended}
use Rattle.pgload.specs.declared.input.Step.{Step}
use Rattle.pgload.specs.declared.input.Step.TheVariants as step
use Rattle.pgload.specs.Loading.{Part, Begins, Text, Ends, Come, come_after, nothing_came, Opened}
use Rattle.pgload.specs.Loading.{IsUnderWay, HasCome, Goes, IsAtEnd, IsBadEnd}

-- ---- payloads

-- a part; or the load ends at this point
pub data Input : Type 0 where
  Gives : (part : Part) → Input
  EndsAt : (point : ℕ) → Input

abbrev pub definition_of_item : Item → Option Input
definition_of_item (item.Relation def) = Some (Gives (Begins def))
definition_of_item (item.Insert oid row) = None
definition_of_item (item.Update oid prior row) = None
definition_of_item (item.Delete oid kind row) = None
definition_of_item (item.Truncate options oids) = None

-- a table begins with a Relation message
abbrev pub definition_of : Message → Option Input
definition_of (message.Item xid item) = definition_of_item item
definition_of _ = None

abbrev pub definition_in : Result Message DecodeFault → Option Input
definition_in (Ok m) = definition_of m
definition_in (Err fault) = None

-- `t`
abbrev pub text_tag : ℕ
text_tag = 116

-- `e`
abbrev pub end_text_tag : ℕ
end_text_tag = 101

-- `p`
abbrev pub point_tag : ℕ
point_tag = 112

-- What a payload says: `t` and a piece of a text; `e`, a text's end; `p` and the point, an Int64;
-- or a Relation message.
abbrev pub input_behind : ℕ → List ℕ → Option Input
input_behind tag bytes =
    if tag == text_tag then Some (Gives (Text bytes))
    else (if tag == end_text_tag && length bytes == 0 then Some (Gives Ends)
    else (if tag == point_tag && length bytes == 8 then Some (EndsAt (big_number 8 bytes))
    else definition_in (message_at false (tag ∷ bytes))))

abbrev pub input_at : List ℕ → Option Input
input_at [] = None
input_at (tag ∷ bytes) = input_behind tag bytes

-- the same of what is borrowed from it
abbrev pub input_value : Borrowed → Input
input_value (borrowed.Begin def) = Gives (Begins (def_value def))
input_value (borrowed.Text piece) = Gives (Text piece.now)
input_value borrowed.EndText = Gives Ends
input_value (borrowed.End point) = EndsAt point

-- a definition can be encoded
abbrev pub IsSound : Borrowed → Type 0
IsSound (borrowed.Begin def) = IsDefinition (def_value def)
IsSound (borrowed.Text piece) = ⊤
IsSound borrowed.EndText = ⊤
IsSound (borrowed.End point) = ⊤

abbrev pub input_of : wire.Frame → Option Input
input_of (wire.CopyData payload) = input_at payload
input_of wire.CopyDone = None

-- ---- frames

-- each frame gives a part, in a payload that isn't too long
abbrev pub AreParts : ℕ → List wire.Frame → List Part → Type 0
AreParts max_frame [] [] = ⊤
AreParts max_frame [] (part ∷ parts) = ⊥
AreParts max_frame (f ∷ fs) [] = ⊥
AreParts max_frame (f ∷ fs) (part ∷ parts) = IsAllowed max_frame f × (input_of f ≡ Some (Gives part)) × AreParts max_frame fs parts

-- with these parts, one after the other
abbrev pub AfterAll : Come → List Part → Come → Type 0
AfterAll old [] new = new ≡ old
AfterAll old (part ∷ parts) new = (mid : Come) × (come_after old part ≡ Some mid) × AfterAll mid parts new

-- These bytes are whole frames with these parts, and then others. This has come with them.
pub record AreRead (max_frame : ℕ) (bytes rest : List ℕ) (come : Come) : Type 0 where
  pub fs : List wire.Frame
  pub parts : List Part
  pub whole : bytes ≡ wire.frames fs ++ rest
  pub each : AreParts max_frame fs parts
  pub after : AfterAll nothing_came parts come

-- These bytes are a whole load: this has come, and the last frame ends it at the point.
pub record SaysLoad (max_frame : ℕ) (bytes : List ℕ) (come : Come) (point : ℕ) : Type 0 where
  pub last : wire.Frame
  pub read : AreRead max_frame bytes (wire.frame last) come
  pub allowed : IsAllowed max_frame last
  pub ends : input_of last ≡ Some (EndsAt point)

-- Bytes are one load at most, wherever they are cut.
abbrev pub BytesAreOneLoad : Type 0
BytesAreOneLoad = (max_frame : ℕ) (bytes : List ℕ) (come other : Come) (point at : ℕ)
    → SaysLoad max_frame bytes come point → SaysLoad max_frame bytes other at → (come ≡ other) × (point ≡ at)

module _ {C : Type 0} (holds : C → Tables → Type 0) (place : C → ℕ) (reopens : C → C → Type 0) (serves is_honest : C → Type 0) where
  -- what a payload makes of a load
  abbrev pub TakesInput : ℕ → Come → Option Input → C → Option Opened → Option LoadFault → Result Step LoadFault → Type 0
  TakesInput max_line come input store opened closed (Ok step.Waits) = ⊥
  TakesInput max_line come None store opened closed (Ok step.Goes) = ⊥
  TakesInput max_line come None store opened closed (Ok (step.Ended point)) = ⊥
  TakesInput max_line come None store opened closed (Err fault) = (fault ≡ BadInput) × IsUnderWay holds place reopens serves is_honest store
  TakesInput max_line come (Some (Gives part)) store opened closed (Ok step.Goes) =
      Goes holds place reopens serves is_honest max_line (come_after come part) store opened closed (Ok tt)
  TakesInput max_line come (Some (Gives part)) store opened closed (Ok (step.Ended point)) = ⊥
  TakesInput max_line come (Some (Gives part)) store opened closed (Err fault) =
      ((fault ≡ Memory) × IsUnderWay holds place reopens serves is_honest store)
      ⊎ Goes holds place reopens serves is_honest max_line (come_after come part) store opened closed (Err fault)
  TakesInput max_line come (Some (EndsAt point)) store opened closed (Ok step.Goes) = ⊥
  TakesInput max_line come (Some (EndsAt point)) store opened closed (Ok (step.Ended at)) =
      (at ≡ point) × IsAtEnd holds place reopens serves is_honest max_line come point store
  TakesInput max_line come (Some (EndsAt point)) store opened closed (Err fault) =
      IsBadEnd holds place reopens serves is_honest max_line come point store fault

  -- Of these bytes the whole frames were handled; the rest waits.
  pub record HasRead (max_line : ℕ) (bytes : List ℕ) (d : Deframed) (store : C) (opened : Option Opened) (closed : Option LoadFault) : Type
      0 where
    pub come : Come
    pub read : AreRead d.max bytes d.held come
    pub has : HasCome holds place reopens serves is_honest max_line come store opened closed
    pub sound : d.fault ≡ None
    pub first : d.done ≡ false

  -- These bytes have ended the load.
  pub record HasEnded (max_line max_frame : ℕ) (bytes : List ℕ) (point : ℕ) (store : C) : Type 0 where
    pub come : Come
    pub says : SaysLoad max_frame bytes come point
    pub at_end : IsAtEnd holds place reopens serves is_honest max_line come point store

  -- where the load stops: at memory, at bytes that no frame begins with, or at a frame
  pub data StopsBehind (max_line max_frame : ℕ) (come : Come) (rest : List ℕ) (store : C) (opened : Option Opened) (closed : Option
      LoadFault)
      (fault : LoadFault) : Type 0 where
    Full : (is : fault ≡ Memory) (under_way : IsUnderWay holds place reopens serves is_honest store)
        → StopsBehind max_line max_frame come rest store opened closed fault
    Breaks : (of : WireFault) (is : fault ≡ Wire of) (breaks : IsFramingFault max_frame false rest of)
        (under_way : IsUnderWay holds place reopens serves is_honest store)
        → StopsBehind max_line max_frame come rest store opened closed fault
    Refuses : (next : wire.Frame) (others : List ℕ) (parts : rest ≡ wire.frame next ++ others)
        (takes : TakesInput max_line come (input_of next) store opened closed (Err fault))
        → StopsBehind max_line max_frame come rest store opened closed fault

  -- It stops behind frames that were handled.
  pub record HasStopped (max_line max_frame : ℕ) (bytes : List ℕ) (store : C) (opened : Option Opened) (closed : Option LoadFault)
      (fault : LoadFault) : Type 0 where
    pub come : Come
    pub rest : List ℕ
    pub read : AreRead max_frame bytes rest come
    pub stops : StopsBehind max_line max_frame come rest store opened closed fault

  -- what a call came to that read these bytes behind others
  abbrev pub Reads : ℕ → ℕ → List ℕ → List ℕ → Deframed → C → Option Opened → Option LoadFault → Result (Option Ended) LoadFault → Type 0
  Reads max_line max_frame bytes piece d store opened closed (Ok None) = HasRead max_line (bytes ++ piece) d store opened closed
  Reads max_line max_frame bytes piece d store opened closed (Ok (Some ended)) =
      (ended.taken ≤ length piece) × HasEnded max_line max_frame (bytes ++ take ended.taken piece) ended.point store
  Reads max_line max_frame bytes piece d store opened closed (Err fault) =
      HasStopped max_line max_frame (bytes ++ piece) store opened closed fault

  -- what a complete frame came to, if there was one
  abbrev pub StepsTo : ℕ → ℕ → List ℕ → Deframed → C → Option Opened → Option LoadFault → Result Step LoadFault → Type 0
  StepsTo max_line max_frame bytes d store opened closed (Ok step.Waits) = HasRead max_line bytes d store opened closed
  StepsTo max_line max_frame bytes d store opened closed (Ok step.Goes) = HasRead max_line bytes d store opened closed
  StepsTo max_line max_frame bytes d store opened closed (Ok (step.Ended point)) = HasEnded max_line max_frame bytes point store
  StepsTo max_line max_frame bytes d store opened closed (Err fault) =
      (more : List ℕ) → HasStopped max_line max_frame (bytes ++ more) store opened closed fault

  -- so many bytes of a piece were taken, to the end of a frame or of the piece
  abbrev pub Advances : ℕ → ℕ → List ℕ → List ℕ → Deframed → C → Option Opened → Option LoadFault → Result (ℕ × Step) LoadFault → Type 0
  Advances max_line max_frame bytes piece d store opened closed (Ok (taken, step.Waits)) =
      HasRead max_line (bytes ++ piece) d store opened closed
  Advances max_line max_frame bytes piece d store opened closed (Ok (taken, step.Goes)) =
      HasRead max_line (bytes ++ take taken piece) d store opened closed
  Advances max_line max_frame bytes piece d store opened closed (Ok (taken, step.Ended point)) =
      HasEnded max_line max_frame (bytes ++ take taken piece) point store
  Advances max_line max_frame bytes piece d store opened closed (Err fault) =
      HasStopped max_line max_frame (bytes ++ piece) store opened closed fault
