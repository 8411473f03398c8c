-- A store that is empty, as the program's own in memory at first.
use Rattle.std.specs.Prelude.{◌≡◌, ℕ}
use Rattle.std.specs.FinMap as map
use Rattle.pgapply.specs.Value.{Tables}

module _ {C : Type 0} (serves : C → Type 0) (holds : C → Tables → Type 0) (place : C → ℕ) where
  -- it is open and has no tables, at 0/0
  pub record IsEmpty (store : C) : Type 0 where
    pub opened : serves store
    pub held : holds store map.empty
    pub position : place store ≡ 0
