-- The rows that a sink was given, one by one.
use Rattle.std.specs.Prelude.{◌≡◌, ◌++◌, List, []}
use Rattle.pgapply.specs.declared.rows.DumpRow.{DumpRow}

-- a front of these rows was taken, where none was before
abbrev pub GivesFront : List DumpRow → (List DumpRow → Type 0) → (List DumpRow → Type 0) → Type 0
GivesFront rows before behind = before [] → (done : List DumpRow) × (left : List DumpRow) × (rows ≡ done ++ left) × behind done

-- all of them were
abbrev pub GivesAll : List DumpRow → (List DumpRow → Type 0) → (List DumpRow → Type 0) → Type 0
GivesAll rows before behind = before [] → behind rows
