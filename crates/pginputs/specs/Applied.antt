-- What is read for a task.
use Rattle.std.specs.Prelude.{◌≡◌, Bool, true, false, Option, None, Some}
use Rattle.pgcommand.specs.declared.task.Task.{Task}
use Rattle.pgcommand.specs.declared.task.Task.TheVariants.{Apply}
use Rattle.pgorder.specs.declared.Version.{Version}
use Rattle.pgsub_cli.specs.declared.storing.Incoming.{Incoming}
use Rattle.pgsub_cli.specs.declared.storing.Incoming.TheVariants.{Raw, Sessions}

-- with `raw` a file's bytes, and else the sessions of a recording
abbrev pub is_raw : {R : Type 0} → Incoming R → Bool
is_raw (Raw source) = true
is_raw (Sessions sessions) = false

abbrev pub ComesAs : {R : Type 0} → Version → Bool → Option (Version × Incoming R) → Type 0
ComesAs version raw None = ⊥
ComesAs version raw (Some came) = (came.0 ≡ version) × (is_raw came.1 ≡ raw)

-- what a task applies: a recording or a file, and nothing where it is another task
abbrev pub ComesFor : {R : Type 0} → Task → Option (Version × Incoming R) → Type 0
ComesFor (Apply version limits raw progress store cache feed file) came = ComesAs version raw came
ComesFor _ came = came ≡ None

-- standard error is to be told how far it is
abbrev pub is_reported : Task → Bool
is_reported (Apply version limits raw progress store cache feed file) = progress
is_reported _ = false
