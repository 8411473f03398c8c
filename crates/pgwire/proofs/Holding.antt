-- What a deframer holds before and after a piece.
use Rattle.std.proofs.Common.{◌≡◌, ◌≢◌, ◌<◌, ◌≤◌, ◌+◌, ◌-◌, ◌⊎◌, inl, inr, ℕ, List, [], ◌∷◌, ◌++◌}
use Rattle.std.proofs.Common.{Bool, true, false, Option, Some, None, Ok, Err, length, take, drop}
use Rattle.std.proofs.Common.{min, refl, ap, sym, ◌∙◌, subst, arith, length-append, append_assoc}
use Rattle.std.proofs.Common.{append-nil}
use Rattle.std.proofs.Math.Seq.{take-add}
use Rattle.std.proofs.lemmas.Bool.{cases_lt, cases_eq, cases_Bool, false≢true}
use Rattle.std.proofs.lemmas.List.{length-take, length-drop, take-append-drop, length-take-le}
use Rattle.std.proofs.lemmas.List.{drop_all, nil_from_length}
use Rattle.std.specs.Int.{w32, to_be_bytes}
use Rattle.pgwire.specs.declared.fault.WireFault.{WireFault}
use Rattle.pgwire.specs.declared.fault.WireFault.TheVariants.{UnknownFrame, BadLength, TooLarge}
use Rattle.pgwire.specs.declared.fault.WireFault.TheVariants.{AfterDone, UnknownServerMessage}
use Rattle.pgwire.specs.declared.fault.WireFault.TheVariants.{Short, Trailing, BadReplyByte, Memory}
use Rattle.pgwire.specs.declared.header.Header.{Header}
use Rattle.pgwire.specs.Frames.{Frame, CopyData, CopyDone, frame, tag_of, length_of, IsTag}
use Rattle.pgwire.specs.Frames.{IsPartial, BreaksLength, IsFramingFault, HasPayloadLen}
use Rattle.pgwire.specs.Deframed.{Deframed, Stands, Waits, IsFed, payload_come}
use Rattle.pgwire.specs.Held.{come, IsSound, IsHeaderWith}
use Rattle.pgwire.proofs.Headers.{IsBytes, IsBytes-take, header_spelled}
use Rattle.pgwire.proofs.Readings.{tag-append, length-of-append, partial_is_short}

pub length-come : (h : Header) → length (come h) ≡ h.len
length-come h = length-take-le h.len h.bytes (omega (arith, h.within, h.five))

come_fits : (h : Header) → IsBytes (come h)
come_fits h = IsBytes-take h.len h.bytes h.bytes_fit

-- more bytes don't mend a fault
pub fault-append : (max : ℕ) (bytes more : List ℕ) (fault : WireFault) → IsFramingFault max false bytes fault
    → IsFramingFault max false (bytes ++ more) fault
fault-append max bytes more AfterDone breaks = absurd (false≢true breaks.0)
fault-append max bytes more (UnknownFrame byte) breaks =
    (refl, omega (arith, breaks.1, length-append bytes more), breaks.2 ∙ sym (tag-append bytes more breaks.1), breaks.3, breaks.4)
fault-append max bytes more BadLength breaks =
    let t = tag-append bytes more (omega (arith, breaks.1)) in
    let n = length-of-append bytes more breaks.1 in (
      refl,
      omega (arith, breaks.1, length-append bytes more),
      subst IsTag (sym t) breaks.2,
      subst (λ x. BreaksLength (tag_of (bytes ++ more)) x) (sym n) (subst (λ x. BreaksLength x (length_of bytes)) (sym t) breaks.3),
    )
fault-append max bytes more TooLarge breaks =
    let t = tag-append bytes more (omega (arith, breaks.1)) in
    let n = length-of-append bytes more breaks.1 in
    (refl, omega (arith, breaks.1, length-append bytes more), t ∙ breaks.2, omega (arith, n, breaks.3), omega (arith, n, breaks.4))
fault-append max bytes more _ breaks = absurd breaks

-- a complete frame isn't waited for
pub not_both : (d : Deframed) (f : Frame) → Stands d f → Waits d → ⊥
not_both d f stands waits =
    let short = partial_is_short d.max d.max f d.held [] [] stands.allowed waits.partial
    (append-nil d.held ∙ stands.whole ∙ sym (append-nil (frame f))) in
    let same = ap length stands.whole in
    omega arith

some_byte : (max : ℕ) (bytes : List ℕ) (fault : WireFault) → IsFramingFault max false bytes fault → 1 ≤ length bytes
some_byte max bytes AfterDone breaks = breaks.1
some_byte max bytes (UnknownFrame byte) breaks = breaks.1
some_byte max bytes BadLength breaks = omega (arith, breaks.1)
some_byte max bytes TooLarge breaks = omega (arith, breaks.1)
some_byte max bytes _ breaks = absurd breaks

-- a fault of the header that comes is one of what is held and the piece
pub next_fault : (max : ℕ) (done : Bool) (old new : Header) (piece : List ℕ) (fault : WireFault) → IsHeaderWith old piece new
    → (done ≡ true → old.len ≡ 0) → (done ≡ true → piece ≡ [])
    → IsFramingFault max false (come new) fault → IsFramingFault max done (come old ++ piece) fault
next_fault max true old new piece fault with_piece last empty breaks =
    absurd (omega (arith, some_byte max (come new) fault breaks, length-come new, with_piece.len, last refl, ap length (empty refl)))
next_fault max false old new piece fault with_piece last empty breaks =
    let count = new.len - old.len in
    let whole : come new ++ drop count piece ≡ come old ++ piece =
    ap (λ front. front ++ drop count piece) with_piece.bytes ∙ append_assoc (come old) (take count piece) (drop count piece)
    ∙ ap (λ behind. come old ++ behind) (take-append-drop count piece) in
    subst (λ bytes. IsFramingFault max false bytes fault) whole (fault-append max (come new) (drop count piece) fault breaks)

-- a whole header that keeps the rules has no fault, whatever follows
pub good_header : (max n : ℕ) (h more : List ℕ) (fault : WireFault) → HasPayloadLen max h n → length h ≡ 5
    → IsFramingFault max false (h ++ more) fault → ⊥
good_header max n h more AfterDone good five breaks = false≢true breaks.0
good_header max n h more (UnknownFrame byte) good five breaks =
    let t = tag-append h more (omega arith) in
    elim (good.tag (omega arith)) [ inl is_data ↦ breaks.3 (breaks.2 ∙ t ∙ is_data) | inr is_done ↦ breaks.4 (breaks.2 ∙ t ∙ is_done) ]
good_header max n h more BadLength good five breaks =
    let t = tag-append h more (omega arith) in
    let l = length-of-append h more (omega arith) in
    let counted = good.counted (omega arith) in
    elim breaks.3 [
      | inl low ↦ omega (arith, l, counted.0, low)
      | inr others ↦ elim others [
        | inl high ↦ omega (arith, l, counted.1, high)
        | inr is_done ↦ is_done.1 (omega (arith, l, counted.0, good.done (omega arith) (sym t ∙ is_done.0)))
      ]
    ]
good_header max n h more TooLarge good five breaks =
    omega (arith, length-of-append h more (omega arith), (good.counted (omega arith)).0, good.most, breaks.3)
good_header max n h more _ good five breaks = absurd breaks

not_done : (done : Bool) → (done ≡ true → ⊥) → done ≡ false
not_done true never = absurd (never refl)
not_done false never = refl

-- the frame whose header and payload are there
pub data_stands : (max n : ℕ) (h : Header) (payload : List ℕ) (done : Bool) (fault : Option WireFault) (room : ℕ) → fault ≡ None
    → (done ≡ true → h.len ≡ 0) → HasPayloadLen max (come h) n → h.len ≡ 5 → length payload ≡ n → tag_of (come h) ≡ 100
    → Stands (record { max = max; held = come h ++ payload; done = done; fault = fault; room = room }) (CopyData payload)
data_stands max n h payload done fault room none_yet last good five whole is_data =
    let len = length-come h in
    let counted = good.counted (omega arith) in
    let size : length_of (come h) ≡ length payload + 4 = omega (arith, counted.0) in
    let spelled = header_spelled (come h) (come_fits h) (omega arith) in
    let none : drop 5 (come h) ≡ [] = drop_all 5 (come h) (omega arith) in
    record {
      allowed = (omega (arith, good.most), omega (arith, counted.0, counted.1));
      whole = ap (λ front. front ++ payload) (spelled
          ∙ ap (λ t. t ∷ (to_be_bytes w32 (length_of (come h)) ++ drop 5 (come h))) is_data
          ∙ ap (λ k. 100 ∷ (to_be_bytes w32 k ++ drop 5 (come h))) size
          ∙ ap (λ behind. 100 ∷ (to_be_bytes w32 (length payload + 4) ++ behind)) none);
      first = not_done done (λ d. omega (arith, last d));
      fault = none_yet;
    }

pub done_stands : (max n : ℕ) (h : Header) (payload : List ℕ) (done : Bool) (fault : Option WireFault) (room : ℕ) → fault ≡ None
    → (done ≡ true → h.len ≡ 0) → HasPayloadLen max (come h) n → h.len ≡ 5 → length payload ≡ n → tag_of (come h) ≡ 99
    → Stands (record { max = max; held = come h ++ payload; done = done; fault = fault; room = room }) CopyDone
done_stands max n h payload done fault room none_yet last good five whole is_done =
    let len = length-come h in
    let zero_len = good.done (omega arith) is_done in
    let counted = good.counted (omega arith) in
    let size : length_of (come h) ≡ 4 = omega (arith, counted.0) in
    let spelled = header_spelled (come h) (come_fits h) (omega arith) in
    let none : drop 5 (come h) ≡ [] = drop_all 5 (come h) (omega arith) in
    let empty : payload ≡ [] = nil_from_length payload (omega arith) in
    record {
      allowed = tt;
      whole = ap (λ behind. come h ++ behind) empty ∙ append-nil (come h) ∙ spelled
          ∙ ap (λ t. t ∷ (to_be_bytes w32 (length_of (come h)) ++ drop 5 (come h))) is_done
          ∙ ap (λ k. 99 ∷ (to_be_bytes w32 k ++ drop 5 (come h))) size
          ∙ ap (λ behind. 99 ∷ (to_be_bytes w32 4 ++ behind)) none;
      first = not_done done (λ d. omega (arith, last d));
      fault = none_yet;
    }

pub stands_now : (max n : ℕ) (h : Header) (payload : List ℕ) (done : Bool) (fault : Option WireFault) (room : ℕ) → fault ≡ None
    → (done ≡ true → h.len ≡ 0) → HasPayloadLen max (come h) n → h.len ≡ 5 → length payload ≡ n
    → (f : Frame) × Stands (record { max = max; held = come h ++ payload; done = done; fault = fault; room = room }) f
stands_now max n h payload done fault room none_yet last good five whole =
    elim (good.tag (omega (arith, length-come h))) [
      | inl is_data ↦ (CopyData payload, data_stands max n h payload done fault room none_yet last good five whole is_data)
      | inr is_done ↦ (CopyDone, done_stands max n h payload done fault room none_yet last good five whole is_done)
    ]

-- a header that isn't whole has no payload behind it
no_payload : (max n : ℕ) (h : Header) (payload : List ℕ) → HasPayloadLen max (come h) n → length payload ≤ n → h.len < 5 → payload ≡ []
no_payload max n h payload good within short = nil_from_length payload (omega (arith, good.begun (omega (arith, length-come h))))

partial_header : (max n : ℕ) (h : Header) (payload : List ℕ) → HasPayloadLen max (come h) n → length payload ≤ n → h.len < 5
    → IsPartial max (come h ++ payload)
partial_header max n h payload good within short =
    let whole : come h ≡ come h ++ payload =
    sym (ap (λ behind. come h ++ behind) (no_payload max n h payload good within short) ∙ append-nil (come h)) in
    let here : IsPartial max (come h) = record { tag = good.tag; payload = λ long. absurd (omega (arith, length-come h)) } in
    subst (IsPartial max) whole here

partial_payload : (max n : ℕ) (h : Header) (payload : List ℕ) → HasPayloadLen max (come h) n → length payload < n → h.len ≡ 5
    → IsPartial max (come h ++ payload)
partial_payload max n h payload good fewer five =
    let len = length-come h in
    let t = tag-append (come h) payload (omega arith) in
    let l = length-of-append (come h) payload (omega arith) in
    let counted = good.counted (omega arith) in
    record {
      tag = λ some. subst IsTag (sym t) (good.tag (omega arith));
      payload = λ long. elim (good.tag (omega arith)) [
        | inl is_data ↦ (
          t ∙ is_data,
          omega (arith, length-append (come h) payload, l, counted.0),
          omega (arith, l, counted.0, good.most),
          omega (arith, l, counted.1),
        )
        | inr is_done ↦ absurd (omega (arith, good.done (omega arith) is_done))
      ];
    }

pub waits_now : (max n : ℕ) (h : Header) (payload : List ℕ) (done : Bool) (fault : Option WireFault) (room : ℕ)
    → HasPayloadLen max (come h) n → length payload ≤ n → (done ≡ true → h.len ≡ 0) → (h.len ≡ 5 → length payload < n)
    → Waits (record { max = max; held = come h ++ payload; done = done; fault = fault; room = room })
waits_now max n h payload done fault room good within last fewer = record {
  partial = elim (cases_lt h.len 5) [
    | inl short ↦ partial_header max n h payload good within short
    | inr whole ↦ let five : h.len ≡ 5 = omega (arith, h.within) in partial_payload max n h payload good (fewer five) five
  ];
  last = λ is. nil_from_length (come h ++ payload)
      (omega (arith, length-append (come h) payload, length-come h, last is, good.begun (omega (arith, length-come h, last is))));
}

regroup : (a b p x : List ℕ) → (p ≡ []) ⊎ (b ≡ []) → (a ++ b) ++ (p ++ x) ≡ (a ++ p) ++ (b ++ x)
regroup a b p x (inl none) = rw none (append_assoc a b x ∙ ap (λ front. front ++ (b ++ x)) (sym (append-nil a)))
regroup a b p x (inr none) = rw none (ap (λ front. front ++ (p ++ x)) (append-nil a) ∙ sym (append_assoc a p x))

-- the steps of a piece: the header with its front, and as much of the payload as is missing
pub record IsStep (max : ℕ) (old new : Header) (payload piece : List ℕ) (done : Bool) (before after k : ℕ) : Type 0 where
  pub with_piece : IsHeaderWith old piece new
  pub was : HasPayloadLen max (come old) before
  pub is : HasPayloadLen max (come new) after
  pub within : length payload ≤ before
  pub last : done ≡ true → old.len ≡ 0
  pub empty : done ≡ true → piece ≡ []
  pub count : k ≡ min (after - length payload) (length piece - (new.len - old.len))

either_empty : (max : ℕ) (old new : Header) (payload piece : List ℕ) (done : Bool) (before after k : ℕ)
    → IsStep max old new payload piece done before after k
    → (payload ≡ []) ⊎ (take (new.len - old.len) piece ≡ [])
either_empty max old new payload piece done before after k step =
    elim (cases_lt old.len 5) [
      | inl short ↦ inl (no_payload max before old payload step.was step.within short)
      | inr whole ↦ inr (ap (λ n. take n piece) (let none : new.len - old.len ≡ 0 = omega (arith, step.with_piece.len, old.within) in none))
    ]

pub held_grows : (max : ℕ) (old new : Header) (payload piece : List ℕ) (done : Bool) (before after k : ℕ)
    → IsStep max old new payload piece done before after k
    → come new ++ (payload ++ take k (drop (new.len - old.len) piece)) ≡ (come old ++ payload) ++ take (new.len - old.len + k) piece
held_grows max old new payload piece done before after k step =
    let c = new.len - old.len in
    ap (λ front. front ++ (payload ++ take k (drop c piece))) step.with_piece.bytes
    ∙ regroup (come old) (take c piece) payload (take k (drop c piece)) (either_empty max old new payload piece done before after k step)
    ∙ ap (λ behind. (come old ++ payload) ++ behind) (sym (take-add c k piece))

-- a whole header stays as it is
same_len : (max : ℕ) (old new : Header) (payload piece : List ℕ) (done : Bool) (before after k : ℕ)
    → IsStep max old new payload piece done before after k → old.len ≡ 5 → before ≡ after
same_len max old new payload piece done before after k step five =
    let none : new.len - old.len ≡ 0 = omega (arith, step.with_piece.len) in
    let same : come new ≡ come old = step.with_piece.bytes ∙ ap (λ n. come old ++ take n piece) none ∙ append-nil (come old) in
    let was = step.was.counted (omega (arith, length-come old)) in
    let is = step.is.counted (omega (arith, length-come new, step.with_piece.len)) in
    omega (arith, was.0, is.0, ap length_of same)

fits_behind : (max : ℕ) (old new : Header) (payload piece : List ℕ) (done : Bool) (before after k : ℕ)
    → IsStep max old new payload piece done before after k → length payload ≤ after
fits_behind max old new payload piece done before after k step =
    elim (cases_lt old.len 5) [
      | inl short ↦ omega (arith, ap length (no_payload max before old payload step.was step.within short))
      | inr whole ↦ let five : old.len ≡ 5 = omega (arith, old.within) in
          omega (arith, same_len max old new payload piece done before after k step five, step.within)
    ]

pub fed_ok : (max : ℕ) (old new : Header) (payload piece : List ℕ) (done : Bool) (before after k : ℕ) (fault : Option WireFault)
    (room next : ℕ) → fault ≡ None → IsStep max old new payload piece done before after k
    → IsFed (record { max = max; held = come old ++ payload; done = done; fault = fault; room = room }) piece (Ok (new.len - old.len + k))
    (record { max = max; held = come new ++ (payload ++ take k (drop (new.len - old.len) piece)); done = done; fault = fault; room = next })
fed_ok max old new payload piece done before after k fault room next none_yet step =
    let c = new.len - old.len in
    let more = take k (drop c piece) in
    let more_len : length more ≡ k = omega (arith, length-take k (drop c piece), length-drop c piece, step.count) in
    let fits = fits_behind max old new payload piece done before after k step in
    let len = length-append payload more in
    let taken = step.with_piece.len in
    let room : length (payload ++ more) ≤ after = omega (arith, len, more_len, step.count, fits) in
    let last : done ≡ true → new.len ≡ 0 = λ d. omega (arith, taken, step.last d, ap length (step.empty d)) in (
      none_yet,
      omega (arith, step.count, taken),
      ap (λ held. let d : Deframed = record { max = max; held = held; done = done; fault = fault; room = next } in d)
          (held_grows max old new payload piece done before after k step),
      elim (cases_eq (length (payload ++ more)) after) [
        | inl whole ↦ elim (cases_eq new.len 5) [
          | inl five ↦ inl (stands_now max after new (payload ++ more) done fault next none_yet last step.is five whole)
          | inr short ↦ inr (
            omega (arith, taken, step.count, new.within),
            waits_now max after new (payload ++ more) done fault next step.is room last (λ five. absurd (short five)),
          )
        ]
        | inr fewer ↦ inr (
          omega (arith, taken, step.count, len, more_len, fits),
          waits_now max after new (payload ++ more) done fault next step.is room last (λ five. omega (arith, room)),
        )
      ],
    )

-- what is held and the piece begin with the header as it then is
goes_on : (max : ℕ) (old new : Header) (payload piece : List ℕ) (done : Bool) (before after k : ℕ)
    → IsStep max old new payload piece done before after k
    → (more : List ℕ) × ((come old ++ payload) ++ piece ≡ come new ++ more)
goes_on max old new payload piece done before after k step =
    let c = new.len - old.len in
    elim (either_empty max old new payload piece done before after k step) [
      | inl none ↦ (
        drop c piece,
        ap (λ behind. (come old ++ behind) ++ piece) none ∙ ap (λ front. front ++ piece) (append-nil (come old))
            ∙ ap (λ behind. come old ++ behind) (sym (take-append-drop c piece))
            ∙ sym (append_assoc (come old) (take c piece) (drop c piece))
            ∙ ap (λ front. front ++ drop c piece) (sym step.with_piece.bytes),
      )
      | inr none ↦ (
        payload ++ piece,
        append_assoc (come old) payload piece
            ∙ ap (λ front. front ++ (payload ++ piece))
            (sym (step.with_piece.bytes ∙ ap (λ behind. come old ++ behind) none ∙ append-nil (come old))),
      )
    ]

no_fault_behind : (max : ℕ) (old new : Header) (payload piece : List ℕ) (done : Bool) (before after k : ℕ) (x : WireFault)
    → IsStep max old new payload piece done before after k → new.len ≡ 5
    → IsFramingFault max false ((come old ++ payload) ++ piece) x → ⊥
no_fault_behind max old new payload piece done before after k x step five breaks =
    let on = goes_on max old new payload piece done before after k step in
    good_header max after (come new) on.0 x step.is (omega (arith, length-come new))
    (subst (λ bytes. IsFramingFault max false bytes x) on.1 breaks)

-- out of memory, where some of the payload would have been taken
pub fed_memory : (max : ℕ) (old new : Header) (payload piece : List ℕ) (done : Bool) (before after k : ℕ) (fault : Option WireFault)
    (room : ℕ) → fault ≡ None → IsStep max old new payload piece done before after k → 0 < k
    → IsFed (record { max = max; held = come old ++ payload; done = done; fault = fault; room = room }) piece (Err Memory)
    (record { max = max; held = come old ++ payload; done = done; fault = fault; room = room })
fed_memory max old new payload piece done before after k fault room none_yet step some =
    let taken = step.with_piece.len in
    let five : new.len ≡ 5 =
    elim (cases_lt new.len 5) [
      | inl short ↦ absurd (omega (arith, step.count, step.is.begun (omega (arith, length-come new))))
      | inr whole ↦ omega
          (arith, new.within)
    ] in
    let not_done : done ≡ true → ⊥ = λ d. omega (arith, taken, five, step.last d, ap length (step.empty d)) in (
      none_yet,
      refl,
      waits_now max before old payload done fault room step.was step.within step.last
          (λ whole. omega (arith, same_len max old new payload piece done before after k step whole, step.count)),
      omega (arith, length-append (come old ++ payload) piece, length-append (come old) payload, length-come old, taken, step.count),
      λ x breaks. elim (cases_Bool done) [
        | inl is ↦ not_done is
        | inr not_yet ↦ no_fault_behind max old new payload piece done before after k x step five
            (subst (λ b. IsFramingFault max b ((come old ++ payload) ++ piece) x) not_yet breaks)
      ],
    )

-- how many bytes of the payload are there with those that the piece adds
pub payload_counted : (max : ℕ) (old new : Header) (payload piece : List ℕ) (done : Bool) (before after k : ℕ)
    → IsStep max old new payload piece done before after k → 0 < k
    → length payload + k ≡ payload_come ((come old ++ payload) ++ piece)
payload_counted max old new payload piece done before after k step some =
    let taken = step.with_piece.len in
    let five : new.len ≡ 5 =
    elim (cases_lt new.len 5) [
      | inl short ↦ absurd (omega (arith, step.count, step.is.begun (omega (arith, length-come new))))
      | inr whole ↦ omega
          (arith, new.within)
    ] in
    let long : 5 ≤ length (come new) = omega (arith, length-come new) in
    let on = goes_on max old new payload piece done before after k step in
    let size : length_of ((come old ++ payload) ++ piece) ≡ length_of (come new) =
    ap length_of on.1 ∙ length-of-append (come new) on.0 long in
    let bytes : length ((come old ++ payload) ++ piece) ≡ old.len + length payload + length piece =
    omega (arith, length-append (come old ++ payload) piece, length-append (come old) payload, length-come old) in
    let fits = fits_behind max old new payload piece done before after k step in
    omega (arith, size, bytes, (step.is.counted long).0, step.count, taken)

-- a fault is returned again
again : (d : Deframed) (piece : List ℕ) (x : WireFault) → d.fault ≡ Some x → x ≢ Memory → Waits d → IsFed d piece (Err x) d
again d piece AfterDone is other waits = (ap (λ f. let e : Deframed = record d { fault = f } in e) is, waits, inl is)
again d piece (UnknownFrame byte) is other waits = (ap (λ f. let e : Deframed = record d { fault = f } in e) is, waits, inl is)
again d piece BadLength is other waits = (ap (λ f. let e : Deframed = record d { fault = f } in e) is, waits, inl is)
again d piece TooLarge is other waits = (ap (λ f. let e : Deframed = record d { fault = f } in e) is, waits, inl is)
again d piece (UnknownServerMessage byte) is other waits = (ap (λ f. let e : Deframed = record d { fault = f } in e) is, waits, inl is)
again d piece Short is other waits = (ap (λ f. let e : Deframed = record d { fault = f } in e) is, waits, inl is)
again d piece Trailing is other waits = (ap (λ f. let e : Deframed = record d { fault = f } in e) is, waits, inl is)
again d piece BadReplyByte is other waits = (ap (λ f. let e : Deframed = record d { fault = f } in e) is, waits, inl is)
again d piece Memory is other waits = absurd (other refl)

pub fed_again : (max : ℕ) (h : Header) (payload piece : List ℕ) (done : Bool) (fault : Option WireFault) (room : ℕ) (x : WireFault)
    → fault ≡ Some x → IsSound max h payload done fault
    → IsFed (record { max = max; held = come h ++ payload; done = done; fault = fault; room = room }) piece (Err x)
    (record { max = max; held = come h ++ payload; done = done; fault = fault; room = room })
fed_again max h payload piece done fault room x is sound =
    again (record { max = max; held = come h ++ payload; done = done; fault = fault; room = room }) piece x is (sound.waits x is).0
    (waits_now max sound.payload_len h payload done fault room sound.good sound.within sound.last (sound.waits x is).1)

-- a piece of which the header alone takes bytes
pub fed_header : (max : ℕ) (old new : Header) (payload piece : List ℕ) (done : Bool) (before after k : ℕ) (fault : Option WireFault)
    (room : ℕ) → fault ≡ None → IsStep max old new payload piece done before after k → k ≡ 0
    → IsFed (record { max = max; held = come old ++ payload; done = done; fault = fault; room = room }) piece (Ok (new.len - old.len))
    (record { max = max; held = come new ++ payload; done = done; fault = fault; room = room })
fed_header max old new payload piece done before after k fault room none step nothing =
    let c = new.len - old.len in
    let fed = fed_ok max old new payload piece done before after k fault room room none step in
    let count : c + k ≡ c = omega arith in
    let same : payload ++ take k (drop c piece) ≡ payload = ap (λ n. payload ++ take n (drop c piece)) nothing ∙ append-nil payload in
    let P : ℕ → List ℕ → Type 0 =
    λ n behind. IsFed (record { max = max; held = come old ++ payload; done = done; fault = fault; room = room }) piece (Ok n)
    (record { max = max; held = come new ++ behind; done = done; fault = fault; room = room }) in
    subst (λ n. P n payload) count (subst (λ behind. P (c + k) behind) same fed)

pub no_fault_yet : (fault : Option WireFault) → ((x : WireFault) → fault ≡ Some x → ⊥) → fault ≡ None
no_fault_yet None none = refl
no_fault_yet (Some x) none = absurd (none x refl)

pub same_payload_len : (max n m : ℕ) (h : List ℕ) → HasPayloadLen max h n → HasPayloadLen max h m → 5 ≤ length h → n ≡ m
same_payload_len max n m h x y long = omega (arith, (x.counted long).0, (y.counted long).0)
