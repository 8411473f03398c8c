-- Calls of a deframer since it was made or reset, which took these bytes and released these frames.
use Rattle.std.specs.Prelude.{◌≡◌, ◌⊎◌, ℕ, List, [], ◌∷◌, ◌++◌, take, Result, Ok, Err}
use Rattle.pgwire.specs.declared.fault.WireFault.{WireFault}
use Rattle.pgwire.specs.Frames.{Frame}
use Rattle.pgwire.specs.Deframed.{Deframed, fresh, Stands, Waits, IsFed, after_release}

pub data Call : Type 0 where
  Feed : (piece : List ℕ) (result : Result ℕ WireFault) → Call
  Release : Call

abbrev pub taken_of : List ℕ → Result ℕ WireFault → List ℕ
taken_of piece (Ok n) = take n piece
taken_of piece (Err fault) = []

-- the calls, the last one first, lead from a new deframer to this state
abbrev pub Leads : ℕ → List Call → List ℕ → List Frame → Deframed → Type 0
Leads max [] taken released d = (d ≡ fresh max) × (taken ≡ []) × (released ≡ [])
Leads max (Feed piece result ∷ calls) taken released d =
    (before : List ℕ) × (old : Deframed) × Leads max calls before released old × IsFed old piece result d
    × (taken ≡ before ++ taken_of piece result)
Leads max (Release ∷ calls) taken released d =
    (before : List Frame) × (old : Deframed) × Leads max calls taken before old
    × (((f : Frame) × Stands old f × (d ≡ after_release old f) × (released ≡ before ++ f ∷ []))
    ⊎ (Waits old × (d ≡ old) × (released ≡ before)))
