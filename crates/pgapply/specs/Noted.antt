-- Which relations the changes of commits were described for.
use Rattle.std.specs.Prelude.{◌≡◌, ◌++◌, map, ℕ, List}
use Rattle.pglogical.specs.declared.message.RelationDef.{RelationDef}

-- the OIDs that were noted, and those of these definitions behind them
abbrev pub noted : List ℕ → List RelationDef → List ℕ
noted before definitions = before ++ map (λ (def : RelationDef). def.oid) definitions

-- nothing that was noted is gone: the notes are those of before, with more at the end
abbrev pub KeepsNotes : List ℕ → List ℕ → Type 0
KeepsNotes old new = (more : List ℕ) × (new ≡ old ++ more)
