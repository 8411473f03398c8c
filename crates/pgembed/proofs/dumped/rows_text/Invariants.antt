use Rattle.std.proofs.Common.{◌≡◌, take}
use Rattle.std.specs.Prelude.{string_bytes}
use Rattle.pgembed.specs.Dumped.{lines_of}
use Rattle.pgembed.proofs.dumped.rows_text.Given as goal

abbrev pub invariant-loop-row : goal.invariant-loop-row
invariant-loop-row l = string_bytes l.text ≡ lines_of (take l.row-index l.rows)
