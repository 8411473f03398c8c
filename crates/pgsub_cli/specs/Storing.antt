-- What a run over a store prints, and what the store holds then.
use Rattle.std.specs.Prelude.{◌≡◌, ⊤, ℕ, List, Option, Some, None, Result}
use Rattle.pgcommand.specs.declared.limits.Limits.{Limits}
use Rattle.pgorder.specs.declared.Version.{Version}
use Rattle.pgapply.specs.declared.fault.StoreFault.{StoreFault}
use Rattle.pgapply.specs.declared.fault.StoreFault.TheVariants as store
use Rattle.pgapply.specs.Dump.{dump}
use Rattle.pgapply.specs.Value.{Tables}
use Rattle.pgsub_core.specs.declared.fault.Fault.{Fault}
use Rattle.pgsub_core.specs.Subscriber.Subscribed.{Subscribed}
use Rattle.pgsub_cli.specs.declared.fault.Ending.{Ending}
use Rattle.pgsub_cli.specs.declared.fault.RunFault.{RunFault}
use Rattle.pgsub_cli.specs.declared.storing.Incoming.{Incoming}
use Rattle.pgsub_cli.specs.Dumped.{EndsPrinting, PrintsLeft}
use Rattle.pgsub_cli.specs.DumpText.{dump_of}
use Rattle.pgsub_cli.specs.Followed.{LeadsTo, lines_of, subscriber_over}
use Rattle.pgsub_cli.specs.Runs.{ForSessions}

-- the exit status where a store can't be opened: 1 where memory ran out, else 3
abbrev pub status_of_unopened : StoreFault → ℕ
status_of_unopened store.Memory = 1
status_of_unopened _ = 3

module _ {C : Type 0} (holds : C → Tables → Type 0) (place : C → ℕ) where
  -- This is said of the lines of the rows and the position of a store, of which nothing changes.
  abbrev pub ShowsHeld : C → C → (List ℕ → Type 0) → Type 0
  ShowsHeld old new said = (tables : Tables) → holds old tables
      → holds new tables × (place new ≡ place old) × said (dump_of (dump tables) (place old))

  -- The bytes of these sessions lead on from what the store held and its position, and the store
  -- holds where they lead, also where this stopped them. This is said of the lines of that.
  abbrev pub PrintsKept : Limits → Version → C → List (List ℕ) → C → Option Fault → (List ℕ → Type 0) → Type 0
  PrintsKept limits version old sessions new stopped said =
      (tables : Tables) → holds old tables
      → (state : Subscribed) × LeadsTo (subscriber_over limits tables (place old) version) sessions stopped state × holds new state.tables
      × (place new ≡ state.position) × said (lines_of state)

  -- A run that this stopped left a store that serves, and this is said of its lines.
  abbrev pub IsShown : (C → Type 0) → Option Fault → C → C → Option Fault → (List ℕ → Type 0) → Type 0
  IsShown serves stopped old new f said = (stopped ≡ f) × serves old × ShowsHeld old new said

module _ {R C : Type 0} (gives begins : R → List ℕ → Type 0) (failed : R → Type 0) (holds : C → Tables → Type 0) (place : C → ℕ) where
  -- This is said of the lines of what the store holds then, by what comes, if anything does.
  abbrev pub LinesOver : Limits → Option (Version × Incoming R) → C → C → Option Fault → (List ℕ → Type 0) → Type 0
  LinesOver limits None old new stopped said = (stopped ≡ None) × ShowsHeld holds place old new said
  LinesOver limits (Some (version, incoming)) old new stopped said =
      ForSessions gives begins failed incoming stopped (λ sessions f. PrintsKept holds place limits version old sessions new f said)

  -- This is said of the lines of what the store held before they were read, whatever stopped the
  -- run. Its position is still the same.
  abbrev pub LinesBefore : Limits → Option (Version × Incoming R) → C → C → (List ℕ → Type 0) → Type 0
  LinesBefore limits input old new said =
      (held : C) × (place new ≡ place held) × ((stopped : Option Fault) × LinesOver limits input old held stopped said)

  -- The lines are printed of what the store holds then, whatever stopped the run. That it ends in
  -- one of these ways holds of any store, and the rest of an honest one.
  module _ {W : Type 0} (is_honest : C → Type 0) (takes : W → List ℕ → W → Type 0) (write_failed : W → Type 0) where
    abbrev pub PrintsOver : Limits → Option (Version × Incoming R) → C → C → W → W → Result Ending RunFault → Type 0
    PrintsOver limits input old new out out' ended =
        EndsPrinting (λ _. ⊤) ended
        × (is_honest new → PrintsLeft takes write_failed (LinesOver limits input old new) (LinesBefore limits input old new) out out' ended)
