-- What a disk in memory has.
use Rattle.std.specs.Prelude.{ℕ, List}
use Rattle.pgmemory.specs.declared.disk.MemoryDisk.{MemoryDisk}

-- the bytes that a read shows
abbrev pub content : MemoryDisk → List ℕ
content disk = disk.bytes.items
