-- A connection over disks in memory.
use Rattle.sqlite_store.specs.declared.store.FileStore.{FileStore}
use Rattle.sqlite.specs.Held.{Held}
use Rattle.sqlite.specs.State.{HasCleanDisk}
use Rattle.sqlite.specs.Files.{file_state}
use Rattle.pgmemory.specs.declared.disk.MemoryDisk.{MemoryDisk}
use Rattle.pgmemory.specs.contracts.disk.MemoryDiskDisk.TheImpl as memory_disk

abbrev pub InMemory : Type 0
InMemory = Held (FileStore MemoryDisk memory_disk.ghosts)

-- in whatever state it is
abbrev pub StaysClean : Type 0
StaysClean = (conn : InMemory) → HasCleanDisk (file_state conn)
