-- Why an open over disks in memory fails.
use Rattle.std.proofs.Common.{◌≡◌, ◌∙◌, ap, [], length, inl, inr, refl}
use Rattle.sqlite_disk.specs.declared.Files.{Files}
use Rattle.sqlite_pool.specs.Pool as pool
use Rattle.sqlite_store.specs.Report.{named}
use Rattle.sqlite_trees.specs.declared.error.StoreError.TheVariants.{Io}
use Rattle.sqlite_wal.specs.Reads.{tally_of_files}
use Rattle.sqlite.specs.declared.error.Error.{Error}
use Rattle.sqlite.specs.declared.file.Leftover.{Leftover}
use Rattle.sqlite.specs.declared.file.Leftover.TheVariants as left
use Rattle.sqlite.specs.Files.{FailsToOpenFiles, IsCleanLeft, tally_left}
use Rattle.sqlite.specs.State.{store_error}
use Rattle.pgmemory.specs.Content.{content}
use Rattle.pgmemory.specs.Refused.{IsWantOfRoom}
use Rattle.pgmemory.specs.declared.disk.MemoryDisk.{MemoryDisk}
use Rattle.pgmemory.specs.contracts.disk.MemoryDiskDisk.TheImpl as memory_disk

abbrev Left : Type 0
Left = Leftover MemoryDisk memory_disk.ghosts

clean_left : (rest : Left) → IsCleanLeft rest
unfolding pool.state
clean_left (left.Files files) = refl
clean_left (left.Unopened files) = refl
clean_left (left.Store store) = refl

-- the disks tell of no damage and of no full disk
named_io : (files : Files MemoryDisk) (rest : Left) → named (tally_of_files memory_disk.ghosts (files.log, files.db)) (tally_left rest) ≡ Io
named_io files (left.Files now) = refl
named_io files (left.Unopened now) = refl
named_io files (left.Store store) = refl

pub wants_room : (files : Files MemoryDisk) (rest : Left) (error : Error) → content files.db ≡ []
    → (IsCleanLeft rest → FailsToOpenFiles files rest error) → IsWantOfRoom error
wants_room files rest error empty fails = elim (fails (clean_left rest)) [
  | inl memory ↦ inl memory
  | inr other ↦ elim other [
    | inl refused ↦ absurd (refused.1 (inr (inl (inl (ap length empty)))))
    | inr limit ↦ elim limit [
      | inl fault ↦ inr (inl (fault.0 ∙ ap store_error (named_io files rest)))
      | inr full ↦ inr (inr full.0)
    ]
  ]
]
