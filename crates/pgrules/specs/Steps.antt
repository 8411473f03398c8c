-- What the calls of a watch over sessions do to it.
use Rattle.std.specs.Prelude.{◌≡◌, ◌⊎◌, ◌+◌, ℕ, List, length, Bool, true, false, Option, Some}
use Rattle.std.specs.Prelude.{None}
use Rattle.pgwire.specs.declared.fault.WireFault.{WireFault}
use Rattle.pgwire.specs.declared.fault.WireFault.TheVariants as wire_fault
use Rattle.pgwire.specs.Frames as wire
use Rattle.pgwire.specs.Deframed.{Deframed, Stands, Waits, IsReleased, fresh}
use Rattle.pgwatch.specs.declared.watch.Watch.{Watch}
use Rattle.pgwatch.specs.Hearing.{at_start}
use Rattle.pgrules.specs.declared.findings.End.{End}
use Rattle.pgrules.specs.declared.findings.End.TheVariants as end
use Rattle.pgrules.specs.declared.findings.Findings.{Findings}
use Rattle.pgrules.specs.declared.live.LiveWatch.{LiveWatch}
use Rattle.pgrules.specs.declared.seen.Seen.{Seen}
use Rattle.pgrules.specs.Seen.{nothing_seen}
use Rattle.pgrules.specs.Watching.{EndsAtFrame, HearsFrame}

-- nothing is told apart any more
abbrev pub lost_as : LiveWatch → WireFault → Option End → LiveWatch
lost_as g fault None = record g { lost = true; end = Some (end.Unframed g.at fault) }
lost_as g fault (Some e) = record g { lost = true }

abbrev pub found_lost : LiveWatch → WireFault → Option End → Option Findings
found_lost g fault None = Some (record { seen = g.seen; end = end.Unframed g.at fault })
found_lost g fault (Some e) = None

-- the next session begins
abbrev pub begun : LiveWatch → LiveWatch
begun g = record g {
  deframer = fresh g.deframer.max;
  watch = at_start g.version 0 g.limit;
  seen = nothing_seen;
  at = 0;
  came = 0;
  end = None;
}

abbrev pub begun_if : Bool → LiveWatch → LiveWatch
begun_if false g = g
begun_if true g = begun g

-- the frame that is whole is forgotten, and with CopyDone the next session begins
abbrev pub PassesOver : LiveWatch → LiveWatch → Type 0
PassesOver old new = (d : Deframed) × IsReleased old.deframer d × (new ≡ begun_if d.done (record old { deframer = d }))

-- the frame is heard well
abbrev pub HearsWell : LiveWatch → wire.Frame → LiveWatch → Option Findings → Type 0
HearsWell old frame new found =
    (w : Watch) × (seen : Seen) × HearsFrame old.watch old.seen old.at frame w seen
    × PassesOver (record old { watch = w; seen = seen; at = old.came }) new × (found ≡ None)

-- the watch over the session ends with the frame
abbrev pub EndsWith : LiveWatch → wire.Frame → LiveWatch → Option Findings → Type 0
EndsWith old frame new found =
    (e : End) × (w : Watch) × (d : Deframed) × EndsAtFrame old.watch old.at frame e × IsReleased old.deframer d
    × (new ≡ record old { watch = w; deframer = d; end = Some e }) × (found ≡ Some (record { seen = old.seen; end = e }))

-- what becomes of the frame that is whole, if one is
abbrev pub HearsNext : LiveWatch → LiveWatch → Option Findings → Type 0
HearsNext old new found =
    (Waits old.deframer × (new ≡ old) × (found ≡ None))
    ⊎ ((frame : wire.Frame) × Stands old.deframer frame × (HearsWell old frame new found ⊎ EndsWith old frame new found))

-- A payload of CopyData is heard in its place, where nothing is held: behind it so many bytes have
-- come.
abbrev pub HearsInPlace : LiveWatch → List ℕ → ℕ → LiveWatch → Option Findings → Type 0
HearsInPlace old payload came new found =
    (w : Watch) × (seen : Seen) × HearsFrame old.watch old.seen old.at (wire.CopyData payload) w seen
    × (new ≡ record old { watch = w; seen = seen; at = came; came = came }) × (found ≡ None)

-- the watch over the session ends with it
abbrev pub EndsInPlace : LiveWatch → List ℕ → ℕ → LiveWatch → Option Findings → Type 0
EndsInPlace old payload came new found =
    (e : End) × (w : Watch) × EndsAtFrame old.watch old.at (wire.CopyData payload) e
    × (new ≡ record old { watch = w; came = came; end = Some e }) × (found ≡ Some (record { seen = old.seen; end = e }))

abbrev pub HearsWhole : LiveWatch → List ℕ → LiveWatch → Option Findings → Type 0
HearsWhole old payload new found =
    ((came : ℕ) × (came ≡ old.came + (length payload + 5))
    × (HearsInPlace old payload came new found ⊎ EndsInPlace old payload came new found))
    ⊎ ((new ≡ lost_as old wire_fault.Memory old.end) × (found ≡ found_lost old wire_fault.Memory old.end))
