-- What is spellable and typed is within the limits of the wire.
use Rattle.std.proofs.Common.{List, [], ◌∷◌}
use Rattle.std.specs.List.{AllByRecursion}
use Rattle.pglogical.specs.declared.message.Column.{Column}
use Rattle.pglogical.specs.Spelling.{IsText, IsColumn}
use Rattle.pglogical.specs.Typed.{AreTypedColumns}

pub columns_fit : (columns : List Column) → AllByRecursion (λ (c : Column). IsText c.name) columns → AreTypedColumns columns
    → AllByRecursion IsColumn columns
columns_fit [] names typed = tt
columns_fit (c ∷ cs) names typed = ((record { plain = names.0; utf8 = typed.0.0 }, typed.0.1, typed.0.2), columns_fit cs names.1 typed.1)
