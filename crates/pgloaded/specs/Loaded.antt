-- Part of the statement.
-- A run that begins with a load: what is said of it is said of the store that the load led to.
-- PostgreSQL documentation, Logical Decoding Concepts, Exported Snapshots.
use Rattle.std.specs.Prelude.{◌≡◌, ◌≢◌, ◌⊎◌, ◌++◌, ◌∷◌, ℕ, List, [], Option, None, Some}
use Rattle.std.specs.Prelude.{codes, decimal}
use Rattle.std.specs.FinMap as map
use Rattle.pgcopy.specs.declared.fault.Reason.{Reason}
use Rattle.pgcopy.specs.declared.fault.Reason.TheVariants as reason
use Rattle.pgapply.specs.Value.{Tables}
use Rattle.pgload.specs.declared.fault.InputFault.{InputFault}
use Rattle.pgload.specs.declared.fault.InputFault.TheVariants.{CutInput, Load, Read}
use Rattle.pgload.specs.declared.fault.LoadFault.{LoadFault}
use Rattle.pgload.specs.declared.fault.LoadFault.TheVariants as load
use Rattle.pgload.specs.Readers.{IsReadLoad, StopsReading}
use Rattle.pgsub_core.specs.declared.fault.Fault.{Fault}
use Rattle.pgsub_core.specs.declared.fault.Fault.TheVariants as fault
use Rattle.pgfollow.specs.declared.link.Link.{Link}
use Rattle.pgloaded.specs.declared.load_plan.LoadPlan.{LoadPlan}

-- where nothing is to be loaded, nothing is read
abbrev pub KeepsReader : {R : Type 0} → Option LoadPlan → R → R → Type 0
KeepsReader None old new = new ≡ old
KeepsReader (Some plan) old new = Unit {0}

-- Behind a load the reader was told that sessions begin.
abbrev pub IsBegun : {R : Type 0} → (R → R → Type 0) → Option LoadPlan → R → R → Type 0
IsBegun begins None old new = new ≡ old
IsBegun begins (Some plan) old new = (loaded : _) × begins loaded new

-- and else a load is read, at most
abbrev pub KeepsLink : {R W : Type 0} → Option LoadPlan → Link R W → Link R W → Type 0
KeepsLink None old new = new ≡ old
KeepsLink (Some plan) old new = new ≡ record old { reader = new.reader }

module _ {C : Type 0} (holds : C → Tables → Type 0) (place : C → ℕ) (reopens : C → C → Type 0) (serves is_honest : C → Type 0) where
  -- The store is new, and a load was read, to its end and not a byte further. Where it served and
  -- held nothing, the other one is it as the load has left it: at the load's point.
  pub record IsLoaded (plan : LoadPlan) (unread rest : Option (List ℕ)) (store loaded : C) : Type 0 where
    pub new : place store ≡ 0
    pub read : serves store → holds store map.empty → (point : ℕ)
        × IsReadLoad holds place reopens serves is_honest plan.limits.max_line plan.max_frame unread rest point loaded

  -- This is said of what is unread, and of the store, from where a run goes on: at once, where no
  -- load is to come first, and else where it has led to, if the store held nothing before.
  abbrev pub AfterLoad : Option LoadPlan → Option (List ℕ) → C → (Option (List ℕ) → C → Type 0) → Type 0
  AfterLoad None unread store said = said unread store
  AfterLoad (Some plan) unread store said =
      (rest : Option (List ℕ)) × (loaded : C) × IsLoaded plan unread rest store loaded × (holds store map.empty → said rest loaded)

  -- Why the load that was to come wasn't taken: the store isn't new, and nothing was read; or the
  -- load didn't end.
  abbrev pub Unloads : Option LoadPlan → Option (List ℕ) → Option (List ℕ) → C → C → InputFault → Type 0
  Unloads None unread rest store ended f = ⊥
  Unloads (Some plan) unread rest store ended f =
      ((f ≡ Load load.NotNew) × (place store ≢ 0) × (ended ≡ store) × (rest ≡ unread))
      ⊎ ((place store ≡ 0) × (serves store → holds store map.empty
      → StopsReading holds place reopens serves is_honest plan.limits.max_line plan.max_frame unread rest f ended))

-- ---- what is told

-- what is wrong with a line of a text
abbrev pub reason_text : Reason → List ℕ
reason_text reason.MissingColumn = codes "1 MissingColumn"
reason_text reason.ExtraColumn = codes "2 ExtraColumn"
reason_text reason.CutSequence = codes "3 CutSequence"
reason_text reason.CarriageReturn = codes "4 CarriageReturn"
reason_text reason.NotUtf8 = codes "5 NotUtf8"
reason_text reason.TooLong = codes "6 TooLong"

-- the load's own faults, with the OID of the table
abbrev pub load_text : LoadFault → List ℕ
load_text (load.Line oid number of) =
    codes "load 1 Line: table " ++ (decimal oid ++ (codes ", line " ++ (decimal number ++ (codes ": " ++ reason_text of))))
load_text (load.Marker oid) = codes "load 2 Marker: table " ++ decimal oid
load_text (load.CutLine oid) = codes "load 3 CutLine: table " ++ decimal oid
load_text load.Order = codes "load 4 Order"
load_text load.TooManyBatches = codes "load 5 TooManyBatches"
load_text load.BadPoint = codes "load 6 BadPoint"
load_text load.NotNew = codes "load 7 NotNew"
load_text load.BadInput = codes "load 8 BadInput"
load_text (load.Wire of) = []
load_text (load.Store of) = []
load_text load.Memory = []

abbrev pub input_text : InputFault → List ℕ
input_text (Load of) = load_text of
input_text CutInput = codes "load 9 CutInput"
input_text Read = []

abbrev pub input_line : InputFault → List ℕ
input_line f = codes "pgsub: " ++ (input_text f ++ 10 ∷ [])

-- the other faults are those of a stream too
abbrev pub stream_fault : InputFault → Option Fault
stream_fault (Load (load.Wire of)) = Some (fault.Wire of)
stream_fault (Load (load.Store of)) = Some (fault.Store of)
stream_fault (Load load.Memory) = Some fault.Memory
stream_fault (Load _) = None
stream_fault CutInput = None
stream_fault Read = Some fault.Read

-- the exit status: 3 where the store isn't new, 15 where the input ends, and else that of a stream
-- with a fault
abbrev pub status_of_load : InputFault → ℕ
status_of_load (Load load.NotNew) = 3
status_of_load (Load _) = 1
status_of_load CutInput = 15
status_of_load Read = 15
