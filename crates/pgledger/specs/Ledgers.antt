-- What a call does to a ledger, however it keeps its entries.
use Rattle.std.specs.Prelude.{◌≡◌, ◌<◌, ◌++◌, ◌⊎◌, ℕ, List, [], ◌∷◌, Bool, true, false, Option}
use Rattle.std.specs.Prelude.{None}
use Rattle.std.specs.List.{AllByRecursion}
use Rattle.pgapply.specs.declared.message.LogicalMessage.{LogicalMessage}
use Rattle.pgledger.specs.declared.heard.Heard.{Heard}
use Rattle.pgledger.specs.Entries.{Entry, last_end, with_heard}

module _ {L : Type 0} (keeps : L → List Entry → Type 0) where
  -- it keeps what it kept
  abbrev pub Keeps : L → L → Type 0
  Keeps old new = (es : List Entry) → keeps old es → keeps new es

  -- it keeps this entry after those that it kept
  abbrev pub Appends : Entry → L → L → Type 0
  Appends e old new = (es : List Entry) → keeps old es → keeps new (es ++ e ∷ [])

  -- it keeps nothing more, or one entry of a commit with this end
  abbrev pub AppendsAtMost : ℕ → L → L → Type 0
  AppendsAtMost end old new = (es : List Entry) → keeps old es → keeps new es ⊎ ((e : Entry) × (e.end ≡ end) × keeps new (es ++ e ∷ []))

  module _ (begins : L → ℕ) (outlasts : L → ℕ → Type 0) where
    -- all that it kept outlasts a crash
    abbrev pub Syncs : L → L → Type 0
    Syncs old new = (es : List Entry) → keeps old es → outlasts new (last_end (begins old) es)

    -- Opened anew at an LSN up to which its entries outlast a crash, it begins where it began, and
    -- keeps the entries up to the one that ends there, or none where it begins there.
    abbrev pub CutsAt : (L → ℕ → L → Type 0) → Type 0
    CutsAt reopens =
        (old new : L) (p : ℕ) (told later : List Entry) → reopens old p new → keeps old (told ++ later) → last_end (begins old) told ≡ p
        → outlasts old p
        → AllByRecursion (λ (e : Entry). p < e.end) later → keeps new told × (begins new ≡ begins old) × outlasts new p

-- it is as it was, or it is stuck
abbrev pub StaysOrSticks : {L : Type 0} → (L → Bool) → L → L → Type 0
StaysOrSticks is_stuck old new = (new ≡ old) ⊎ (is_stuck new ≡ true)

-- what no call changes of a ledger: where it begins, whether it wants images and hears messages,
-- what outlasts a crash, and what a crash leaves
pub record Rests {L : Type 0} (begins : L → ℕ) (is_wanting is_hearing : L → Bool) (outlasts : L → ℕ → Type 0)
    (reopens : L → ℕ → L → Type 0) (old new : L) : Type 0 where
  pub begins_is : begins new ≡ begins old
  pub wanting_is : is_wanting new ≡ is_wanting old
  pub hearing_is : is_hearing new ≡ is_hearing old
  pub outlasts_more : (p : ℕ) → outlasts old p → outlasts new p
  pub reopens_less : (p : ℕ) (other : L) → reopens new p other → reopens old p other

-- What a message does to a ledger that hears: it has it behind what it had heard, or no longer has
-- all, or is stuck. It is stuck where the message came in a stream block: which subtransaction
-- wrote it isn't known.
pub record Hears {L : Type 0} (is_stuck : L → Bool) (heard : L → Option (List Heard)) (message : LogicalMessage)
    (old new : L) : Type 0 where
  pub heard_is : is_stuck new ≡ false → (heard new ≡ with_heard (heard old) message) ⊎ (heard new ≡ None)
  pub streamed : message.is_streamed ≡ true → is_stuck new ≡ true

-- a ledger that wants no images may be said to keep any entries
abbrev pub UnaskedKeeps : {L : Type 0} → (L → List Entry → Type 0) → (L → Bool) → Type 0
UnaskedKeeps {L} keeps is_wanting = (l : L) → is_wanting l ≡ false → (es : List Entry) → keeps l es
