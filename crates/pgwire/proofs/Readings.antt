-- Two readings of one stream are one; a front of frames is a front of no others, and has no fault.
use Rattle.std.proofs.Common.{◌≡◌, ◌<◌, ◌≤◌, ◌+◌, inl, inr, ℕ, List, [], ◌∷◌, ◌++◌, Bool, true}
use Rattle.std.proofs.Common.{false, length, take, drop, refl, ap, sym, ◌∙◌, subst, arith}
use Rattle.std.proofs.Common.{length-append, append_assoc, append-nil}
use Rattle.std.proofs.Math.Seq.{take-append_seam, drop-append_seam}
use Rattle.std.proofs.lemmas.List.{get_or_append_left}
use Rattle.std.proofs.lemmas.Bool.{cases_lt, false≢true}
use Rattle.byteorder.specs.Numbers.{big_number-reads_back, big_from-append}
use Rattle.pgwire.specs.declared.fault.WireFault.{WireFault}
use Rattle.pgwire.specs.declared.fault.WireFault.TheVariants.{UnknownFrame, BadLength, TooLarge}
use Rattle.pgwire.specs.declared.fault.WireFault.TheVariants.{AfterDone, UnknownServerMessage}
use Rattle.pgwire.specs.declared.fault.WireFault.TheVariants.{Short, Trailing, BadReplyByte, Memory}
use Rattle.pgwire.specs.Frames.{Frame, CopyData, CopyDone, frame, frames, IsAllowed, AreFrames}
use Rattle.pgwire.specs.Frames.{has_copy_done, tag_of, length_of, IsTag, IsPartial, IsDeframedAs}
use Rattle.pgwire.specs.Frames.{IsFramingFault, HasFramingFault}

abbrev pub tag : Frame → ℕ
tag (CopyData bytes) = 100
tag CopyDone = 99

-- what stands in the first five bytes of a frame
pub record IsHeaded (f : Frame) (bytes : List ℕ) : Type 0 where
  pub tag_is : tag_of bytes ≡ tag f
  pub five : 5 ≤ length (frame f)
  pub len : length (frame f) ≡ length_of bytes + 1
  pub long : length (frame f) ≤ length bytes

pub headed : (max : ℕ) (f : Frame) (behind : List ℕ) → IsAllowed max f → IsHeaded f (frame f ++ behind)
headed max (CopyData bytes) behind allowed = record {
  tag_is = refl;
  five = omega arith;
  len = let read = big_number-reads_back 4 (length bytes + 4) (bytes ++ behind) (omega arith) in omega (arith, read);
  long = omega (arith, length-append (frame (CopyData bytes)) behind);
}
headed max CopyDone behind allowed =
    record { tag_is = refl; five = omega arith; len = refl; long = omega (arith, length-append (frame CopyDone) behind) }

same_letter : (f g : Frame) → tag f ≡ tag g → frame f ≡ frame g → f ≡ g
same_letter (CopyData a) (CopyData b) t e = let same : a ≡ b = ap (drop 5) e in ap CopyData same
same_letter (CopyData a) CopyDone t e = absurd (omega arith)
same_letter CopyDone (CopyData b) t e = absurd (omega arith)
same_letter CopyDone CopyDone t e = refl

-- the bytes tell the frame that stands in front
pub one_frame : (max most : ℕ) (f g : Frame) (x y : List ℕ) → IsAllowed max f → IsAllowed most g → frame f ++ x ≡ frame g ++ y
    → (f ≡ g) × (x ≡ y)
one_frame max most f g x y af ag e =
    let hf = headed max f x af in
    let hg : IsHeaded g (frame f ++ x) = subst (IsHeaded g) (sym e) (headed most g y ag) in
    let long : length (frame f) ≡ length (frame g) = omega (arith, hf.len, hg.len) in
    let front : frame f ≡ frame g =
    sym (take-append_seam (frame f) x) ∙ ap (λ n. take n (frame f ++ x)) long ∙ ap (take (length (frame g))) e
    ∙ take-append_seam (frame g) y in
    let behind : x ≡ y = sym (drop-append_seam (frame f) x) ∙ ap (λ n. drop n (frame f ++ x)) long ∙ ap (drop (length (frame g))) e
    ∙ drop-append_seam (frame g) y in
    (same_letter f g (sym hf.tag_is ∙ hg.tag_is) front, behind)

pub tag-append : (bytes more : List ℕ) → 1 ≤ length bytes → tag_of (bytes ++ more) ≡ tag_of bytes
tag-append bytes more some = get_or_append_left bytes more 0 0 (omega arith)

pub length-of-append : (bytes more : List ℕ) → 5 ≤ length bytes → length_of (bytes ++ more) ≡ length_of bytes
length-of-append [] more long = absurd (omega arith)
length-of-append (b ∷ bytes) more long = big_from-append 4 bytes more (omega arith)

-- what is less than a whole frame is shorter than each frame that it can become
pub partial_is_short : (max most : ℕ) (g : Frame) (bytes more y : List ℕ) → IsAllowed most g → IsPartial max bytes
    → bytes ++ more ≡ frame g ++ y → length bytes < length (frame g)
partial_is_short max most g bytes more y allowed partial e =
    let h : IsHeaded g (bytes ++ more) = subst (IsHeaded g) (sym e) (headed most g y allowed) in
    elim (cases_lt (length bytes) 5) [
      | inl short ↦ omega (arith, h.five)
      | inr long ↦ omega (arith, (partial.payload long).1, h.len, length-of-append bytes more long)
    ]

is_letter : (g : Frame) → IsTag (tag g)
is_letter (CopyData bytes) = inl refl
is_letter CopyDone = inr refl

frame-le : (most : ℕ) (g : Frame) → IsAllowed most g → (length (frame g) ≤ 2147483648) × (length (frame g) ≤ most + 5)
frame-le most (CopyData bytes) allowed = (omega arith, omega arith)
frame-le most CopyDone allowed = (omega arith, omega arith)

copy_done_len : (g : Frame) → tag g ≡ 99 → length (frame g) ≡ 5
copy_done_len (CopyData bytes) t = absurd (omega arith)
copy_done_len CopyDone t = refl

-- the front of a frame whose length can be spelled has one fault at most: that the frame is longer
-- than the limit
pub fault_of_front : (max most : ℕ) (g : Frame) (bytes more y : List ℕ) (fault : WireFault) → IsAllowed most g
    → IsFramingFault max false bytes fault → bytes ++ more ≡ frame g ++ y
    → (fault ≡ TooLarge) × (max + 5 < length (frame g))
fault_of_front max most g bytes more y AfterDone allowed breaks e = absurd (false≢true breaks.0)
fault_of_front max most g bytes more y (UnknownFrame byte) allowed breaks e =
    let h : IsHeaded g (bytes ++ more) = subst (IsHeaded g) (sym e) (headed most g y allowed) in
    let t : byte ≡ tag g = breaks.2 ∙ sym (tag-append bytes more breaks.1) ∙ h.tag_is in
    elim (is_letter g) [ inl is_data ↦ absurd (breaks.3 (t ∙ is_data)) | inr is_done ↦ absurd (breaks.4 (t ∙ is_done)) ]
fault_of_front max most g bytes more y BadLength allowed breaks e =
    let h : IsHeaded g (bytes ++ more) = subst (IsHeaded g) (sym e) (headed most g y allowed) in
    let n : length_of (bytes ++ more) ≡ length_of bytes = length-of-append bytes more breaks.1 in
    let t : tag_of bytes ≡ tag g = sym (tag-append bytes more (omega (arith, breaks.1))) ∙ h.tag_is in
    elim breaks.3 [
      | inl low ↦ absurd (omega (arith, h.five, h.len, n))
      | inr others ↦ elim others [
        | inl high ↦ absurd (omega (arith, h.len, n, (frame-le most g allowed).0))
        | inr done ↦ absurd (done.1 (omega (arith, h.len, n, copy_done_len g (sym t ∙ done.0))))
      ]
    ]
fault_of_front max most g bytes more y TooLarge allowed breaks e =
    let h : IsHeaded g (bytes ++ more) = subst (IsHeaded g) (sym e) (headed most g y allowed) in
    (refl, omega (arith, breaks.3, h.len, length-of-append bytes more breaks.1))
fault_of_front max most g bytes more y (UnknownServerMessage byte) allowed breaks e = absurd breaks
fault_of_front max most g bytes more y Short allowed breaks e = absurd breaks
fault_of_front max most g bytes more y Trailing allowed breaks e = absurd breaks
fault_of_front max most g bytes more y BadReplyByte allowed breaks e = absurd breaks
fault_of_front max most g bytes more y Memory allowed breaks e = absurd breaks

pub first_frame : (max : ℕ) (f : Frame) (fs : List Frame) → AreFrames max (f ∷ fs) → IsAllowed max f × AreFrames max fs
first_frame max (CopyData bytes) fs each = (each.0, each.1)
first_frame max CopyDone fs each = (tt, subst (AreFrames max) (sym each) tt)

no_frame_in_partial : (max most : ℕ) (g : Frame) (rest y : List ℕ) → IsAllowed most g → IsPartial max rest → rest ≡ frame g ++ y → ⊥
no_frame_in_partial max most g rest y allowed partial e =
    let short = partial_is_short max most g rest [] y allowed partial (append-nil rest ∙ e) in
    omega (arith, short, ap length e, length-append (frame g) y)

-- two readings of the same bytes are one
pub two_readings : (max most : ℕ) (fs gs : List Frame) (r q : List ℕ) → frames fs ++ r ≡ frames gs ++ q → AreFrames max fs
    → AreFrames most gs → IsPartial max r → IsPartial most q → (fs ≡ gs) × (r ≡ q)
two_readings max most [] [] r q e af ag pr pq = (refl, e)
two_readings max most [] (g ∷ gs) r q e af ag pr pq =
    absurd (no_frame_in_partial max most g r (frames gs ++ q) (first_frame most g gs ag).0 pr (e ∙ append_assoc (frame g) (frames gs) q))
two_readings max most (f ∷ fs) [] r q e af ag pr pq =
    absurd (no_frame_in_partial most max f q (frames fs ++ r) (first_frame max f fs af).0 pq (sym e ∙ append_assoc (frame f) (frames fs) r))
two_readings max most (f ∷ fs) (g ∷ gs) r q e af ag pr pq =
    let ff = first_frame max f fs af in
    let fg = first_frame most g gs ag in
    let one = one_frame max most f g (frames fs ++ r) (frames gs ++ q) ff.0 fg.0
    (sym (append_assoc (frame f) (frames fs) r) ∙ e ∙ append_assoc (frame g) (frames gs) q) in
    let rest = two_readings max most fs gs r q one.1 ff.1 fg.1 pr pq in
    (ap (λ x. x ∷ fs) one.0 ∙ ap (λ xs. g ∷ xs) rest.0, rest.1)

pub one_deframing : (max most : ℕ) (bytes : List ℕ) (fs gs : List Frame) (r q : List ℕ) → IsDeframedAs max bytes fs r
    → IsDeframedAs most bytes gs q → (fs ≡ gs) × (r ≡ q)
one_deframing max most bytes fs gs r q x y = two_readings max most fs gs r q (sym x.whole ∙ y.whole) x.each y.each x.partial y.partial

same_after_done : (max : ℕ) (done : Bool) (rest : List ℕ) (g : WireFault) → IsFramingFault max done rest AfterDone
    → IsFramingFault max done rest g → AfterDone ≡ g
same_after_done max done rest AfterDone x y = refl
same_after_done max done rest (UnknownFrame byte) x y = absurd (false≢true (sym y.0 ∙ x.0))
same_after_done max done rest BadLength x y = absurd (false≢true (sym y.0 ∙ x.0))
same_after_done max done rest TooLarge x y = absurd (false≢true (sym y.0 ∙ x.0))
same_after_done max done rest _ x y = absurd y

same_unknown : (max : ℕ) (done : Bool) (rest : List ℕ) (byte : ℕ) (g : WireFault) → IsFramingFault max done rest (UnknownFrame byte)
    → IsFramingFault max done rest g → UnknownFrame byte ≡ g
same_unknown max done rest byte AfterDone x y = absurd (false≢true (sym x.0 ∙ y.0))
same_unknown max done rest byte (UnknownFrame other) x y = ap UnknownFrame (x.2 ∙ sym y.2)
same_unknown max done rest byte BadLength x y =
    elim y.2 [ inl is_data ↦ absurd (x.3 (x.2 ∙ is_data)) | inr is_done ↦ absurd (x.4 (x.2 ∙ is_done)) ]
same_unknown max done rest byte TooLarge x y = absurd (x.3 (x.2 ∙ y.2))
same_unknown max done rest byte _ x y = absurd y

same_bad_length : (max : ℕ) (done : Bool) (rest : List ℕ) (g : WireFault) → IsFramingFault max done rest BadLength
    → IsFramingFault max done rest g → BadLength ≡ g
same_bad_length max done rest AfterDone x y = absurd (false≢true (sym x.0 ∙ y.0))
same_bad_length max done rest (UnknownFrame byte) x y = sym (same_unknown max done rest byte BadLength y x)
same_bad_length max done rest BadLength x y = refl
same_bad_length max done rest TooLarge x y = elim x.3 [
  | inl low ↦ absurd (omega arith)
  | inr others ↦ elim others [ inl high ↦ absurd (omega arith) | inr is_done ↦ absurd (omega (arith, is_done.0, y.2)) ]
]
same_bad_length max done rest _ x y = absurd y

same_too_large : (max : ℕ) (done : Bool) (rest : List ℕ) (g : WireFault) → IsFramingFault max done rest TooLarge
    → IsFramingFault max done rest g → TooLarge ≡ g
same_too_large max done rest AfterDone x y = absurd (false≢true (sym x.0 ∙ y.0))
same_too_large max done rest (UnknownFrame byte) x y = sym (same_unknown max done rest byte TooLarge y x)
same_too_large max done rest BadLength x y = sym (same_bad_length max done rest TooLarge y x)
same_too_large max done rest TooLarge x y = refl
same_too_large max done rest _ x y = absurd y

-- what can't be the front of a frame breaks one rule first
pub one_break : (max : ℕ) (done : Bool) (rest : List ℕ) (f g : WireFault) → IsFramingFault max done rest f → IsFramingFault max done rest g
    → f ≡ g
one_break max done rest AfterDone g x y = same_after_done max done rest g x y
one_break max done rest (UnknownFrame byte) g x y = same_unknown max done rest byte g x y
one_break max done rest BadLength g x y = same_bad_length max done rest g x y
one_break max done rest TooLarge g x y = same_too_large max done rest g x y
one_break max done rest _ g x y = absurd x

-- less than a whole frame breaks no rule
pub partial_has_no_fault : (max : ℕ) (done : Bool) (rest : List ℕ) (fault : WireFault) → IsPartial max rest → (done ≡ true → rest ≡ [])
    → IsFramingFault max done rest fault → ⊥
partial_has_no_fault max done rest AfterDone partial last breaks = omega (arith, breaks.1, ap length (last breaks.0))
partial_has_no_fault max done rest (UnknownFrame byte) partial last breaks =
    elim (partial.tag breaks.1) [ inl is_data ↦ breaks.3 (breaks.2 ∙ is_data) | inr is_done ↦ breaks.4 (breaks.2 ∙ is_done) ]
partial_has_no_fault max done rest BadLength partial last breaks =
    let p = partial.payload breaks.1 in
    elim breaks.3 [
      | inl low ↦ omega (arith, breaks.1, p.1, low)
      | inr others ↦ elim others [ inl high ↦ omega (arith, p.3, high) | inr is_done ↦ omega (arith, p.0, is_done.0) ]
    ]
partial_has_no_fault max done rest TooLarge partial last breaks = omega (arith, breaks.3, (partial.payload breaks.1).2)
partial_has_no_fault max done rest _ partial last breaks = absurd breaks

-- an allowed frame in front breaks no rule
pub frame_has_no_fault : (max : ℕ) (g : Frame) (y : List ℕ) (fault : WireFault) → IsAllowed max g
    → IsFramingFault max false (frame g ++ y) fault → ⊥
frame_has_no_fault max g y fault allowed breaks =
    let is = fault_of_front max max g (frame g ++ y) [] y fault allowed breaks (append-nil (frame g ++ y)) in
    omega (arith, is.1, (frame-le max g allowed).1)

nothing_behind_done : (max : ℕ) (rest : List ℕ) (fault : WireFault) → rest ≡ [] → IsFramingFault max true rest fault → ⊥
nothing_behind_done max rest AfterDone none breaks = omega (arith, breaks.1, ap length none)
nothing_behind_done max rest (UnknownFrame byte) none breaks = false≢true (sym breaks.0)
nothing_behind_done max rest BadLength none breaks = false≢true (sym breaks.0)
nothing_behind_done max rest TooLarge none breaks = false≢true (sym breaks.0)
nothing_behind_done max rest _ none breaks = absurd breaks

letters_differ : (a b : ℕ) → a ≡ 100 → b ≡ 99 → a ≡ b → ⊥
letters_differ a b is_data is_done e = omega arith

-- bytes that are frames and less than a whole one have no fault
no_fault : (max : ℕ) (fs gs : List Frame) (r q : List ℕ) (fault : WireFault) → frames fs ++ r ≡ frames gs ++ q → AreFrames max fs
    → AreFrames max gs
    → IsPartial max r → (has_copy_done fs ≡ true → r ≡ []) → IsFramingFault max (has_copy_done gs) q fault → ⊥
no_fault max [] [] r q fault e af ag pr last breaks =
    partial_has_no_fault max false q fault (subst (IsPartial max) e pr) (λ d. absurd (false≢true d)) breaks
no_fault max [] (g ∷ gs) r q fault e af ag pr last breaks =
    no_frame_in_partial max max g r (frames gs ++ q) (first_frame max g gs ag).0 pr (e ∙ append_assoc (frame g) (frames gs) q)
no_fault max (f ∷ fs) [] r q fault e af ag pr last breaks =
    frame_has_no_fault max f (frames fs ++ r) fault (first_frame max f fs af).0
    (subst (λ bytes. IsFramingFault max false bytes fault) (sym e ∙ append_assoc (frame f) (frames fs) r) breaks)
no_fault max (CopyData a ∷ fs) (CopyData b ∷ gs) r q fault e af ag pr last breaks =
    let one = one_frame max max (CopyData a) (CopyData b) (frames fs ++ r) (frames gs ++ q) af.0 ag.0
    (sym (append_assoc (frame (CopyData a)) (frames fs) r) ∙ e ∙ append_assoc (frame (CopyData b)) (frames gs) q) in
    no_fault max fs gs r q fault one.1 af.1 ag.1 pr last breaks
no_fault max (CopyDone ∷ fs) (CopyDone ∷ gs) r q fault e af ag pr last breaks =
    let one = one_frame max max CopyDone CopyDone (frames fs ++ r) (frames gs ++ q) tt tt
    (sym (append_assoc (frame CopyDone) (frames fs) r) ∙ e ∙ append_assoc (frame CopyDone) (frames gs) q) in
    let none : q ≡ [] = ap (λ xs. frames xs ++ q) (sym ag) ∙ sym one.1 ∙ ap (λ xs. frames xs ++ r) af ∙ last refl in
    nothing_behind_done max q fault none breaks
no_fault max (CopyData a ∷ fs) (CopyDone ∷ gs) r q fault e af ag pr last breaks = absurd (letters_differ _ _ refl refl (ap tag_of e))
no_fault max (CopyDone ∷ fs) (CopyData b ∷ gs) r q fault e af ag pr last breaks = absurd (letters_differ _ _ refl refl (sym (ap tag_of e)))

pub deframed_has_no_fault : (max : ℕ) (bytes : List ℕ) (fs : List Frame) (rest : List ℕ) (fault : WireFault)
    → IsDeframedAs max bytes fs rest → HasFramingFault max bytes fault → ⊥
deframed_has_no_fault max bytes fs rest fault is has =
    no_fault max fs has.fs rest has.rest fault (sym is.whole ∙ has.whole) is.each has.each is.partial is.last has.breaks

-- the fault of bytes is one
one_fault_of : (max : ℕ) (fs gs : List Frame) (r q : List ℕ) (x y : WireFault) → frames fs ++ r ≡ frames gs ++ q → AreFrames max fs
    → AreFrames max gs
    → IsFramingFault max (has_copy_done fs) r x → IsFramingFault max (has_copy_done gs) q y → x ≡ y
one_fault_of max [] [] r q x y e af ag bx by = one_break max false q x y (subst (λ bytes. IsFramingFault max false bytes x) e bx) by
one_fault_of max [] (g ∷ gs) r q x y e af ag bx by =
    absurd (frame_has_no_fault max g (frames gs ++ q) x (first_frame max g gs ag).0
    (subst (λ bytes. IsFramingFault max false bytes x) (e ∙ append_assoc (frame g) (frames gs) q) bx))
one_fault_of max (f ∷ fs) [] r q x y e af ag bx by =
    absurd (frame_has_no_fault max f (frames fs ++ r) y (first_frame max f fs af).0
    (subst (λ bytes. IsFramingFault max false bytes y) (sym e ∙ append_assoc (frame f) (frames fs) r) by))
one_fault_of max (CopyData a ∷ fs) (CopyData b ∷ gs) r q x y e af ag bx by =
    let one = one_frame max max (CopyData a) (CopyData b) (frames fs ++ r) (frames gs ++ q) af.0 ag.0
    (sym (append_assoc (frame (CopyData a)) (frames fs) r) ∙ e ∙ append_assoc (frame (CopyData b)) (frames gs) q) in
    one_fault_of max fs gs r q x y one.1 af.1 ag.1 bx by
one_fault_of max (CopyDone ∷ fs) (CopyDone ∷ gs) r q x y e af ag bx by =
    let one = one_frame max max CopyDone CopyDone (frames fs ++ r) (frames gs ++ q) tt tt
    (sym (append_assoc (frame CopyDone) (frames fs) r) ∙ e ∙ append_assoc (frame CopyDone) (frames gs) q) in
    let same : r ≡ q = ap (λ xs. frames xs ++ r) (sym af) ∙ one.1 ∙ ap (λ xs. frames xs ++ q) ag in
    one_break max true q x y (subst (λ bytes. IsFramingFault max true bytes x) same bx) by
one_fault_of max (CopyData a ∷ fs) (CopyDone ∷ gs) r q x y e af ag bx by = absurd (letters_differ _ _ refl refl (ap tag_of e))
one_fault_of max (CopyDone ∷ fs) (CopyData b ∷ gs) r q x y e af ag bx by = absurd (letters_differ _ _ refl refl (sym (ap tag_of e)))

pub one_fault : (max : ℕ) (bytes : List ℕ) (x y : WireFault) → HasFramingFault max bytes x → HasFramingFault max bytes y → x ≡ y
one_fault max bytes x y hx hy =
    one_fault_of max hx.fs hy.fs hx.rest hy.rest x y (sym hx.whole ∙ hy.whole) hx.each hy.each hx.breaks hy.breaks
