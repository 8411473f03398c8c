-- Rows as `pgsub dump` prints them.
use Rattle.std.specs.Prelude.{◌≡◌, ◌⊎◌, ℕ, List}
use Rattle.std.specs.List.{flat_map}
use Rattle.pgapply.specs.Taken.{Shows}
use Rattle.pgapply.specs.Value.{Tables}
use Rattle.pgapply.specs.declared.rows.DumpRow.{DumpRow}
use Rattle.pgjson.specs.Lines.{line}
use Rattle.pgjson.specs.Rows.{row_data}
use Rattle.pgsub_core.specs.declared.fault.Fault.{Fault}
use Rattle.pgsub_core.specs.Machine.Faults.{IsReadFault}
use Rattle.pgsub_core.specs.Subscriber.SubscriberValue.{SubscriberValue}
use Rattle.pgembed.specs.Fed.{stream_number_of}
use Rattle.pgembed.specs.Passed.{IsPassed, PassesNothing}

abbrev pub line_of : DumpRow → List ℕ
line_of row = line (row_data row.namespace row.name row.cells row.copies)

abbrev pub lines_of : List DumpRow → List ℕ
lines_of rows = flat_map line_of rows

-- The lines of the rows that the store shows were passed; or they couldn't be read or made, for
-- want of memory or since the store refuses, and nothing is passed but the number of that fault.
abbrev pub PassesRows : {C : Type 0} → (C → Tables → Type 0) → SubscriberValue C → List ℕ → List ℕ → ℕ → ℕ → Type 0
PassesRows holds old old_room new_room told result =
    ((rows : List DumpRow) × Shows holds old.applied.store rows × IsPassed (lines_of rows) old_room new_room told result)
    ⊎ ((fault : Fault) × IsReadFault fault × (result ≡ stream_number_of fault) × PassesNothing old_room new_room told)
