-- A subscriber in memory is the subscriber that it holds.
use Rattle.sqlite_store.specs.declared.store.FileStore.{FileStore}
use Rattle.pgmemory.specs.declared.disk.MemoryDisk.{MemoryDisk}
use Rattle.pgmemory.specs.contracts.disk.MemoryDiskDisk.TheImpl as memory
use Rattle.pgstore.specs.StoreValue.{StoreValue}
use Rattle.pgsub_core.specs.Subscriber.SubscriberValue.{SubscriberValue}
use Rattle.pgembed.specs.InMemory.{InMemory}

abbrev pub of_subscriber : SubscriberValue (StoreValue (FileStore MemoryDisk memory.ghosts)) → InMemory
of_subscriber subscriber = record { subscriber = subscriber }
