-- What a handle holds.
use mir.Syntax.{Ty}
use base.Fml.{Fml, ftrue}
use denote.RawPtr.{Ptr}
use Rattle.std.specs.Prelude.{◌≡◌, Option, Some, None, IfSome, is_some}
use Rattle.std.specs.contracts.impls.GlobalAllocator.TheImpl.{ghosts}

-- what is owned of a value, if there is one
abbrev pub held : {X : Type 0} → (X → Fml) → Option X → Fml
held owned None = ftrue
held owned (Some x) = owned x

-- the right to free a block of the C library's heap, whatever handle allocated it
abbrev pub heap_block : Ty → Ptr → Fml
heap_block = ghosts.dealloc_token (record { memory = record { seal = tt } })

-- A call of an open handle does this to what it holds, and leaves it open. A closed one stays
-- closed, and this is told.
pub record Calls {X : Type 0} (does : X → X → Type 0) (told : Type 0) (old new : Option X) : Type 0 where
  pub stays_open : is_some new ≡ is_some old
  pub done : IfSome old (λ x. IfSome new (does x))
  pub refused : old ≡ None → told
