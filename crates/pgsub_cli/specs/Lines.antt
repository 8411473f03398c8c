-- Lines on their way to an output, which are written some at a time.
use Rattle.std.specs.Prelude.{◌≡◌, ◌++◌, ℕ, List, Option, None, Some, Result, Ok, Err}
use Rattle.pgsub_core.specs.declared.fault.Fault.{Fault}
use Rattle.pgsub_core.specs.declared.fault.Fault.TheVariants as fault
use Rattle.pgsub_cli.specs.declared.dumping.LineFault.{LineFault}
use Rattle.pgsub_cli.specs.declared.dumping.LineFault.TheVariants.{CannotWrite, Memory}
use Rattle.pgsub_cli.specs.declared.fault.Ending.{Ending}
use Rattle.pgsub_cli.specs.declared.fault.RunFault.{RunFault}
use Rattle.pgsub_cli.specs.declared.fault.RunFault.TheVariants as run
use Rattle.pgsub_cli.specs.Dumped.{AreWritten, joined}

-- the fault of a run whose lines aren't written
abbrev pub run_fault_of : LineFault → RunFault
run_fault_of Memory = run.Stream fault.Memory
run_fault_of CannotWrite = run.CannotWrite

-- how a run ends whose lines were printed so, where this stopped it before
abbrev pub after : Option Fault → Result Ending RunFault → Result Ending RunFault
after stopped (Err f) = Err f
after None (Ok ending) = Ok ending
after (Some f) (Ok ending) = Err (run.Stream f)

module _ {W : Type 0} (takes : W → List ℕ → W → Type 0) (failed : W → Type 0) where
  -- what is written and what isn't yet, by why no more is
  abbrev pub Stands : Option LineFault → W → W → List ℕ → List ℕ → Type 0
  Stands None mid out rest lines = (out ≡ mid) × (rest ≡ lines)
  Stands (Some Memory) mid out rest lines = out ≡ mid
  Stands (Some CannotWrite) mid out rest lines = failed mid

  -- of these bytes a front was written, and the rest stands in the lines unless that stopped
  pub record IsWriting (old : W) (bytes : List ℕ) (out : W) (lines : List ℕ) (fault : Option LineFault) : Type 0 where
    pub pieces : List (List ℕ)
    pub rest : List ℕ
    pub mid : W
    pub written : AreWritten takes old pieces mid
    pub is : bytes ≡ joined pieces ++ rest
    pub stands : Stands fault mid out rest lines
