-- The kind of a fault in words: its number and its name.
use Rattle.std.specs.Prelude.{ℕ, List, codes}
use Rattle.pgtuple.specs.declared.fault.TupleFault.{TupleFault}
use Rattle.pgtuple.specs.declared.fault.TupleFault.TheVariants as fault

abbrev pub kind_text : TupleFault → List ℕ
kind_text (fault.Short place) = codes "1 Short"
kind_text (fault.BadKind place) = codes "2 BadKind"
kind_text (fault.BadLength place) = codes "3 BadLength"
kind_text (fault.NotUtf8 place) = codes "4 NotUtf8"
kind_text (fault.TooManyColumns place) = codes "5 TooManyColumns"
kind_text fault.Memory = codes "6 Memory"
