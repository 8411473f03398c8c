-- What stands while the commits of a piece are staged in a store: what it holds, what a crash
-- leaves, and what goes back where they can't be settled.
use Rattle.std.specs.Prelude.{◌≡◌, ◌<◌, ◌≤◌, ◌⊎◌, ◌++◌, ℕ, List, length, take, Result, OnOk, OnErr}
use Rattle.std.specs.Prelude.{IfErr}
use Rattle.pgapply.specs.declared.fault.StoreFault.TheVariants as store
use Rattle.pgapply.specs.Value.{Tables}
use Rattle.pgapply.specs.Taken.{Settles, Stays}
use Rattle.pgsub_core.specs.declared.fault.Fault.{Fault}
use Rattle.pgsub_core.specs.declared.fault.Fault.TheVariants as fault
use Rattle.pgsub_core.specs.Machine.Faults.{IsOfFeedingOver}
use Rattle.pgsub_core.specs.Subscriber.Applied.{Applied, IsKept}

-- more bytes may wait behind those that did
abbrev pub Grows : List ℕ → List ℕ → Type 0
Grows old new = (more : List ℕ) × (new ≡ old ++ more)

pub record KeepsItsSettings {C : Type 0} (old new : Applied C) : Type 0 where
  pub version : new.version ≡ old.version
  pub limit : new.limit ≡ old.limit

-- what is confirmed and received, and how many bytes wait
pub record IsMark {C : Type 0} (a : Applied C) (confirmed received replies : ℕ) : Type 0 where
  pub confirmed_is : confirmed ≡ a.confirmed
  pub received_is : received ≡ a.received
  pub replies_are : replies ≡ length a.replies

-- they go back to a mark, and nothing else but the store changes
abbrev pub GoesBack : {C : Type 0} → ℕ → ℕ → ℕ → Applied C → Applied C → Type 0
GoesBack confirmed received replies old new =
    new ≡ record old { store = new.store; confirmed = confirmed; received = received; replies = take replies old.replies }

module _ {C : Type 0} (holds : C → Tables → Type 0) (place : C → ℕ) where
  module _ (reopens : C → C → Type 0) (serves is_honest : C → Type 0) where
    -- what is held, and what a crash leaves, is as it was
    pub record Rests (old new : C) : Type 0 where
      pub position : place new ≡ place old
      pub stays : serves new → Stays holds old new
      pub crash : is_honest new → (other : C) → reopens new other → reopens old other

    -- What each call does to the store in which it stages: what is held is as it was, and what is
    -- counted of it. After a fault nothing more is staged, nor counted; and without one it serves
    -- on, while it is honest.
    pub record Steps {M T : Type 0} (reach : C → ℕ) (counts stages_counts : C → M) (may_fail : Type 0) (result : Result T Fault)
        (old new : C) : Type 0 where
      pub rests : Rests old new
      pub served : serves new → serves old
      pub serves_on : is_honest new → serves old → OnOk result (serves new)
      pub honest : is_honest new → is_honest old
      pub counted : counts new ≡ counts old
      pub uncounted : OnErr result (stages_counts new ≡ stages_counts old)
      pub unstaged : OnErr result (reach new ≡ reach old)
      pub own : IfErr result (IsOfFeedingOver may_fail)

    module _ (stages : C → Tables → Type 0) (reach : C → ℕ) where
      -- Where nothing was staged, this stood at the mark; from there on the piece may stop for want
      -- of memory, and where something is staged, as a commit that the store refuses.
      pub record IsMarked (stops : Applied C → Fault → Type 0) (start : C) (confirmed received replies : ℕ) (a : Applied C) : Type 0 where
        pub at : Applied C
        pub confirmed_is : confirmed ≡ at.confirmed
        pub received_is : received ≡ at.received
        pub replies_are : take replies a.replies ≡ at.replies
        pub within : replies ≤ length a.replies
        pub settings : KeepsItsSettings at a
        pub settled : reach at.store ≡ place at.store
        pub held : Settles holds stages at.store at.store
        pub rests : Rests at.store a.store
        pub whole : Rests start a.store
        pub serving : serves a.store → serves at.store
        pub still : is_honest a.store → serves start → serves at.store
        pub memory : serves at.store → stops at fault.Memory
        pub refused : serves a.store → place a.store < reach a.store → stops at (fault.Store store.Refused)
        pub refused_still : is_honest a.store → serves start → place a.store < reach a.store → stops at (fault.Store store.Refused)

  module _ (stages : C → Tables → Type 0) (reach : C → ℕ) where
    -- the mark is of this, where nothing is staged; else it is the one before
    abbrev pub IsRenewed : Applied C → ℕ → ℕ → ℕ → ℕ → ℕ → ℕ → Type 0
    IsRenewed a confirmed received replies confirmed' received' replies' =
        ((reach a.store ≡ place a.store) × Settles holds stages a.store a.store × IsMark a confirmed' received' replies')
        ⊎ ((place a.store < reach a.store) × (confirmed' ≡ confirmed) × (received' ≡ received) × (replies' ≡ replies))

    -- As one that stopped somewhere (see StandsAs), with what it stages; where nothing is staged,
    -- it holds that.
    abbrev pub StandsStaged : (Applied C → Type 0) → Applied C → Type 0
    StandsStaged took new = (a : Applied C) × IsKept reach a new × took a
        × (reach new.store ≡ place new.store → (reach a.store ≡ place a.store) × Settles holds stages a.store a.store)
