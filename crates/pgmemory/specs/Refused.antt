-- Why a database in memory isn't opened.
use Rattle.std.specs.Prelude.{◌≡◌, ◌⊎◌}
use Rattle.sqlite.specs.declared.error.Error.{Error}
use Rattle.sqlite.specs.declared.error.Error.TheVariants.{SqliteFailure}
use Rattle.sqlite.specs.declared.error.ErrorCode.TheVariants.{OutOfMemory, SystemIoFailure}
use Rattle.sqlite.specs.declared.error.ErrorCode.TheVariants.{DiskFull}

-- memory for the connection, memory for a disk, or page numbers
abbrev pub IsWantOfRoom : Error → Type 0
IsWantOfRoom error = (error ≡ SqliteFailure OutOfMemory) ⊎ ((error ≡ SqliteFailure SystemIoFailure) ⊎ (error ≡ SqliteFailure DiskFull))
