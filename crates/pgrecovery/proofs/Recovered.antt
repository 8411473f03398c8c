-- A store opened on what a crash left of a subscriber's holds the history's rows.
use Rattle.std.proofs.Common.{◌≡◌, ◌≤◌, ℕ, List, Ok, refl, subst, arith}
use Rattle.std.proofs.Math.Logic.{∥∥₁_map}
use Rattle.sqlite_disk.specs.declared.Disk as disk
use Rattle.sqlite.specs.Store.{Ghosts}
use Rattle.sqlite.specs.Files.{over_files}
use Rattle.pgapply.specs.Value.{Tables}
use Rattle.pgstore.specs.StoreValue.{StoreValue}
use Rattle.pgstore.proofs.Reopened as reopened
use Rattle.pgsub_core.specs.Server.History.{Transaction, IsHistory, tables_as_of}
use Rattle.pgsub_core.specs.Subscriber.Safe.{NothingBetween}
use Rattle.pgsub_core.proofs.Restarting.{left_starts}
use Rattle.pgrecovery.specs.Recovered.{FollowedIsRecovered, LeftSafelyIsRecovered, Recovers}
use Rattle.pgrecovery.specs.Recovered.{ServedIsRecovered, holds_tables}

pub recovers : {S : Type 0} (h : Ghosts S) (history : List Transaction) (position confirmed : ℕ) (store : StoreValue S) (tables : Tables)
    → IsHistory history → holds_tables h store tables → tables_as_of history store.position ≡ Ok tables
    → position ≤ store.position → NothingBetween history store.position confirmed → Recovers h history position confirmed store
recovers h history position confirmed store tables is held same low stored = record {
  tables = tables;
  held = held;
  same = same;
  not_lower = low;
  stored = stored;
  goes_on = λ v max_frame limit sessions all_complete.
      left_starts history tables store.position confirmed v max_frame limit sessions all_complete is same stored;
}

pub left_safely : {D : Type 0} (g : disk.Ghosts D) → LeftSafelyIsRecovered g
left_safely g history s is safely content store left holds =
    ∥∥₁_map (reopened.left_is_reopened g over_files s.applied.store store content left holds) (λ again.
    let it = safely store again in
    recovers over_files history s.applied.store.position s.applied.confirmed store it.tables is it.held it.same it.position it.stored)

pub followed : {D : Type 0} (g : disk.Ghosts D) → FollowedIsRecovered g
followed g history sessions all_complete tables old new held sent crash =
    left_safely g history new sent.is_history (crash history all_complete tables held sent)

pub served : {D S : Type 0} (g : disk.Ghosts D) (h : Ghosts S) → ServedIsRecovered g h
served g h history s v tables is contains held safe content store left holds =
    ∥∥₁_map (reopened.left_is_reopened g h s.applied.store store content left holds) (λ again.
    let now = reopened.reopens_same over_files h s.applied.store store v contains again
    (record { tables = tables; position = s.applied.store.position }) (record { stored = held; position = refl }) in
    let at : s.applied.store.position ≡ store.position = now.position in
    recovers h history s.applied.store.position s.applied.confirmed store tables is now.stored
    (subst (λ p. tables_as_of history p ≡ Ok tables) at safe.same) (omega (arith, at))
    (subst (λ p. NothingBetween history p s.applied.confirmed) at safe.stored))
