-- A payload is read as a message exactly if it is spelled so; else it has one fault.
use Rattle.std.proofs.Common.{◌≡◌, ◌<◌, ◌≤◌, ◌^◌, ◌⊎◌, inl, inr, ℕ, ℤ, zero, suc, List, [], ◌∷◌}
use Rattle.std.proofs.Common.{◌++◌, true, false, length, take, drop, slice_index, refl, ap, sym}
use Rattle.std.proofs.Common.{◌∙◌, subst, arith, length-append, Result, Ok, Err, eqb, ltb}
use Rattle.std.proofs.Math.Seq.{drop-drop, drop-cons, get_or-append_seam}
use Rattle.std.proofs.Math.Facts.{Fits-of_z, sfits_to_z}
use Rattle.std.proofs.lemmas.Bool.{le-ltb, lt-ltb, cases_lt, cases_eq}
use Rattle.std.proofs.lemmas.Int.{to_z-of_z, of_z-to_z}
use Rattle.std.proofs.lemmas.List.{length-drop, length-take-le, take-append-drop, drop_all}
use Rattle.std.proofs.lemmas.Nat.{be_bytes_8}
use Rattle.std.specs.Int.{w64, to_be_bytes, from_be_bytes, cast_signed, cast_unsigned}
use mir.Val.{SFits}
use Rattle.byteorder.specs.Endian.{big_number}
use Rattle.byteorder.specs.Numbers.{big_number-reads_back, big_from-lt}
use Rattle.pgwire.specs.declared.fault.WireFault.{WireFault}
use Rattle.pgwire.specs.declared.fault.WireFault.TheVariants.{UnknownFrame, BadLength, TooLarge}
use Rattle.pgwire.specs.declared.fault.WireFault.TheVariants.{AfterDone, UnknownServerMessage}
use Rattle.pgwire.specs.declared.fault.WireFault.TheVariants.{Short, Trailing, BadReplyByte, Memory}
use Rattle.pgwire.specs.Payloads.{ServerMessage, XLogData, Keepalive, flag_byte, payload}
use Rattle.pgwire.specs.Payloads.{IsServerMessage, HasPayloadFault, payload_at, keepalive_at}
use Rattle.pgwire.specs.declared.message.ServerMsg.{ServerMsg}
use Rattle.pgwire.specs.Borrowed.{message_value, Gives}
use Rattle.std.specs.Prelude.{IfOk, IfErr, IsOkAnd, IsErrOf}
use Rattle.pgwire.proofs.Headers.{IsBytes, IsBytes-drop}
use Rattle.pgwire.proofs.Decoding.{empty_at, data_gives, as_data, as_keepalive, as_unknown}

eight : (a b c d e f g h : ℕ) → a < 256 → b < 256 → c < 256 → d < 256 → e < 256 → f < 256 → g < 256 → h < 256
    → IsBytes (a ∷ b ∷ c ∷ d ∷ e ∷ f ∷ g ∷ h ∷ [])
eight a b c d e f g h i j k l m n o p zero = i
eight a b c d e f g h i j k l m n o p (suc zero) = j
eight a b c d e f g h i j k l m n o p (suc (suc zero)) = k
eight a b c d e f g h i j k l m n o p (suc (suc (suc zero))) = l
eight a b c d e f g h i j k l m n o p (suc (suc (suc (suc zero)))) = m
eight a b c d e f g h i j k l m n o p (suc (suc (suc (suc (suc zero))))) = n
eight a b c d e f g h i j k l m n o p (suc (suc (suc (suc (suc (suc zero)))))) = o
eight a b c d e f g h i j k l m n o p (suc (suc (suc (suc (suc (suc (suc zero))))))) = p
eight a b c d e f g h i j k l m n o p (suc (suc (suc (suc (suc (suc (suc (suc r)))))))) = omega arith

-- eight bytes are the spelling of the number that they are read as
pub number_spelled : (bytes : List ℕ) → IsBytes bytes → 8 ≤ length bytes → bytes ≡ to_be_bytes w64 (big_number 8 bytes) ++ drop 8 bytes
number_spelled (a ∷ b ∷ c ∷ d ∷ e ∷ f ∷ g ∷ h ∷ rest) fits long =
    let n = big_number 8 (a ∷ b ∷ c ∷ d ∷ e ∷ f ∷ g ∷ h ∷ rest) in
    let same : n ≡ from_be_bytes w64 (a ∷ b ∷ c ∷ d ∷ e ∷ f ∷ g ∷ h ∷ []) = omega arith in
    let spelled = be_bytes_8 (a ∷ b ∷ c ∷ d ∷ e ∷ f ∷ g ∷ h ∷ []) n refl
    (eight a b c d e f g h (fits 0) (fits 1) (fits 2) (fits 3) (fits 4) (fits 5) (fits 6) (fits 7)) same in
    ap (λ front. front ++ rest) (sym spelled)
number_spelled _ fits long = absurd (omega arith)

pub number_fits : (bytes : List ℕ) → IsBytes bytes → big_number 8 bytes < 2 ^ 64
number_fits bytes fits = big_from-lt 0 8 bytes fits

clock_fits : (z : ℤ) → SFits w64 z → cast_unsigned w64 z < 2 ^ 64
clock_fits z fits = (Fits-of_z fits).fits

pub keepalive_gives : (fields : List ℕ) (end : ℕ) (clock : ℤ) → length fields ≡ 17 → slice_index fields 16 ≤ 1 → end ≡ big_number 8 fields
    → clock ≡ cast_signed w64 (big_number 8 (drop 8 fields))
    → keepalive_at fields ≡ Ok (Keepalive end clock (eqb (slice_index fields 16) 1))
keepalive_gives fields end clock long flag ends clocks =
    let short : ltb (length fields) 17 ≡ false = le-ltb _ _ (omega arith) in
    let over : ltb 17 (length fields) ≡ false = le-ltb _ _ (omega arith) in
    let good : ltb 1 (slice_index fields 16) ≡ false = le-ltb _ _ flag in
    rw (ends, clocks, short, over, good) refl

-- what is spelled so is read
pub payload_again : (m : ServerMessage) → IsServerMessage m → payload_at (payload m) ≡ Ok m
payload_again (XLogData start end clock body) is = as_data (payload (XLogData start end clock body)) (omega arith) refl
    ∙ data_gives (drop 1 (payload (XLogData start end clock body))) start end clock (omega arith)
    (sym (big_number-reads_back 8 start (to_be_bytes w64 end ++ to_be_bytes w64 (cast_unsigned w64 clock) ++ body) is.0))
    (sym (big_number-reads_back 8 end (to_be_bytes w64 (cast_unsigned w64 clock) ++ body) is.1))
    (sym (ap (cast_signed w64) (big_number-reads_back 8 (cast_unsigned w64 clock) body (clock_fits clock is.2)) ∙ to_z-of_z w64 clock is.2))
payload_again (Keepalive end clock true) is = as_keepalive (payload (Keepalive end clock true)) (omega arith) refl
    ∙ keepalive_gives (drop 1 (payload (Keepalive end clock true))) end clock refl (omega arith)
    (sym (big_number-reads_back 8 end (to_be_bytes w64 (cast_unsigned w64 clock) ++ 1 ∷ []) is.0))
    (sym (ap (cast_signed w64) (big_number-reads_back 8 (cast_unsigned w64 clock) (1 ∷ []) (clock_fits clock is.1))
    ∙ to_z-of_z w64 clock is.1))
payload_again (Keepalive end clock false) is = as_keepalive (payload (Keepalive end clock false)) (omega arith) refl
    ∙ keepalive_gives (drop 1 (payload (Keepalive end clock false))) end clock refl (omega arith)
    (sym (big_number-reads_back 8 end (to_be_bytes w64 (cast_unsigned w64 clock) ++ 0 ∷ []) is.0))
    (sym (ap (cast_signed w64) (big_number-reads_back 8 (cast_unsigned w64 clock) (0 ∷ []) (clock_fits clock is.1))
    ∙ to_z-of_z w64 clock is.1))

data_spelled : (fields : List ℕ) → IsBytes fields → 24 ≤ length fields
    → 119 ∷ fields ≡ payload
    (XLogData (big_number 8 fields) (big_number 8 (drop 8 fields)) (cast_signed w64 (big_number 8 (drop 16 fields))) (drop 24 fields))
data_spelled fields fits long =
    let at_8 = number_spelled (drop 8 fields) (IsBytes-drop 8 fields fits) (omega (arith, length-drop 8 fields)) in
    let at_16 = number_spelled (drop 16 fields) (IsBytes-drop 16 fields fits) (omega (arith, length-drop 16 fields)) in
    let clock = of_z-to_z w64 (big_number 8 (drop 16 fields)) (number_fits (drop 16 fields) (IsBytes-drop 16 fields fits)) in
    let start = to_be_bytes w64 (big_number 8 fields) in
    let end = to_be_bytes w64 (big_number 8 (drop 8 fields)) in
    ap (λ behind. 119 ∷ behind) (number_spelled fields fits (omega arith))
    ∙ ap (λ behind. 119 ∷ (start ++ behind)) at_8
    ∙ ap (λ behind. 119 ∷ (start ++ (end ++ behind))) (drop-drop 8 8 fields ∙ at_16)
    ∙ ap (λ n. 119 ∷ (start ++ (end ++ (to_be_bytes w64 n ++ drop 8 (drop 16 fields))))) (sym clock)
    ∙ ap (λ behind. 119 ∷ (start
    ++ (end ++ (to_be_bytes w64 (cast_unsigned w64 (cast_signed w64 (big_number 8 (drop 16 fields)))) ++ behind))))
    (drop-drop 8 16 fields)

-- the last byte of seventeen
last_byte : (fields : List ℕ) → length fields ≡ 17 → drop 16 fields ≡ slice_index fields 16 ∷ []
last_byte fields long = drop-cons fields 16 0 (omega arith)
    ∙ ap (λ behind. slice_index fields 16 ∷ behind) (drop_all 17 fields (omega arith))

flag_of : (byte : ℕ) → byte ≤ 1 → flag_byte (eqb byte 1) ≡ byte
flag_of zero small = refl
flag_of (suc zero) small = refl
flag_of (suc (suc byte)) small = absurd (omega arith)

keepalive_spelled : (fields : List ℕ) → IsBytes fields → length fields ≡ 17 → slice_index fields 16 ≤ 1
    → 107 ∷ fields ≡ payload
    (Keepalive (big_number 8 fields) (cast_signed w64 (big_number 8 (drop 8 fields))) (eqb (slice_index fields 16) 1))
keepalive_spelled fields fits long small =
    let at_8 = number_spelled (drop 8 fields) (IsBytes-drop 8 fields fits) (omega (arith, length-drop 8 fields)) in
    let clock = of_z-to_z w64 (big_number 8 (drop 8 fields)) (number_fits (drop 8 fields) (IsBytes-drop 8 fields fits)) in
    let end = to_be_bytes w64 (big_number 8 fields) in
    let spelled_clock = to_be_bytes w64 (cast_unsigned w64 (cast_signed w64 (big_number 8 (drop 8 fields)))) in
    ap (λ behind. 107 ∷ behind) (number_spelled fields fits (omega arith))
    ∙ ap (λ behind. 107 ∷ (end ++ behind)) at_8
    ∙ ap (λ n. 107 ∷ (end ++ (to_be_bytes w64 n ++ drop 8 (drop 8 fields)))) (sym clock)
    ∙ ap (λ behind. 107 ∷ (end ++ (spelled_clock ++ behind))) (drop-drop 8 8 fields ∙ last_byte fields long)
    ∙ ap (λ byte. 107 ∷ (end ++ (spelled_clock ++ byte ∷ []))) (sym (flag_of (slice_index fields 16) small))

-- what a payload is read as: a message that it spells, or its fault
pub record IsRead (bytes : List ℕ) (m : ServerMessage) : Type 0 where
  pub gives : payload_at bytes ≡ Ok m
  pub is : IsServerMessage m
  pub spelled : bytes ≡ payload m

pub record IsRefused (bytes : List ℕ) (fault : WireFault) : Type 0 where
  pub gives : payload_at bytes ≡ Err fault
  pub has : HasPayloadFault bytes fault

abbrev pub IsEither : List ℕ → Type 0
IsEither bytes = ((m : ServerMessage) × IsRead bytes m) ⊎ ((fault : WireFault) × IsRefused bytes fault)

data_either : (fields : List ℕ) → IsBytes fields → IsEither (119 ∷ fields)
data_either fields fits =
    let at = as_data (119 ∷ fields) (omega arith) refl in
    elim (cases_lt (length fields) 24) [
      | inl short ↦ inr (
        Short,
        record {
          gives = at ∙ rw (lt-ltb _ _ short) refl;
          has = inr (inl (fields, refl, short));
        },
      )
      | inr long ↦ inl (
        XLogData (big_number 8 fields) (big_number 8 (drop 8 fields)) (cast_signed w64 (big_number 8 (drop 16 fields))) (drop 24 fields),
        record {
          gives = at ∙ data_gives fields _ _ _ long refl refl refl;
          is = (
            number_fits fields fits,
            number_fits (drop 8 fields) (IsBytes-drop 8 fields fits),
            sfits_to_z (record { fits = number_fits (drop 16 fields) (IsBytes-drop 16 fields fits) }),
          );
          spelled = data_spelled fields fits long;
        },
      )
    ]

keepalive_either : (fields : List ℕ) → IsBytes fields → IsEither (107 ∷ fields)
keepalive_either fields fits =
    let at = as_keepalive (107 ∷ fields) (omega arith) refl in
    elim (cases_lt (length fields) 17) [
      | inl short ↦ inr (
        Short,
        record {
          gives = at ∙ rw (lt-ltb _ _ short) refl;
          has = inr (inr (fields, refl, short));
        },
      )
      | inr long ↦ elim (cases_lt 17 (length fields)) [
        | inl over ↦ inr (
          Trailing,
          record {
            gives = at ∙ rw (le-ltb _ _ long, lt-ltb _ _ over) refl;
            has = (fields, refl, over);
          },
        )
        | inr exact ↦ elim (cases_lt 1 (slice_index fields 16)) [
          | inl bad ↦ inr (
            BadReplyByte,
            record {
              gives = at ∙ rw (le-ltb _ _ long, le-ltb _ _ exact, lt-ltb _ _ bad) refl;
              has = (
                take 16 fields,
                slice_index fields 16,
                ap (λ all. 107 ∷ all) (sym (take-append-drop 16 fields)
                    ∙ ap (λ behind. take 16 fields ++ behind) (last_byte fields (omega arith))),
                length-take-le 16 fields (omega arith),
                bad,
              );
            },
          )
          | inr good ↦ inl (
            Keepalive (big_number 8 fields) (cast_signed w64 (big_number 8 (drop 8 fields))) (eqb (slice_index fields 16) 1),
            record {
              gives = at ∙ keepalive_gives fields _ _ (omega arith) good refl refl;
              is = (number_fits fields fits, sfits_to_z (record { fits = number_fits (drop 8 fields) (IsBytes-drop 8 fields fits) }));
              spelled = keepalive_spelled fields fits (omega arith) good;
            },
          )
        ]
      ]
    ]

pub read_or_refused : (bytes : List ℕ) → IsBytes bytes → IsEither bytes
read_or_refused [] fits = inr (Short, record { gives = empty_at [] (omega arith); has = inl refl })
read_or_refused (tag ∷ fields) fits =
    let behind : IsBytes fields = λ i. fits (suc i) in
    elim (cases_eq tag 119) [
      | inl is_data ↦ subst (λ t. IsEither (t ∷ fields)) (sym is_data) (data_either fields behind)
      | inr not_data ↦ elim (cases_eq tag 107) [
        | inl is_keepalive ↦ subst (λ t. IsEither (t ∷ fields)) (sym is_keepalive) (keepalive_either fields behind)
        | inr not_keepalive ↦ inr (
          UnknownServerMessage tag,
          record {
            gives = as_unknown (tag ∷ fields) (omega arith) not_data not_keepalive;
            has = (fields, refl, not_data, not_keepalive);
          },
        )
      ]
    ]

bad_reply : (fields : List ℕ) → length fields ≡ 17 → 1 < slice_index fields 16 → keepalive_at fields ≡ Err BadReplyByte
bad_reply fields long bad =
    let short : ltb (length fields) 17 ≡ false = le-ltb _ _ (omega arith) in
    let over : ltb 17 (length fields) ≡ false = le-ltb _ _ (omega arith) in
    rw (short, over, lt-ltb _ _ bad) refl

-- each fault is the one that is answered
pub fault_again : (bytes : List ℕ) (fault : WireFault) → HasPayloadFault bytes fault → payload_at bytes ≡ Err fault
fault_again bytes (UnknownServerMessage byte) has = ap payload_at has.1 ∙ as_unknown (byte ∷ has.0) (omega arith) has.2 has.3
fault_again bytes Short has =
    elim has [
      | inl none ↦ ap payload_at none ∙ empty_at [] (omega arith)
      | inr some ↦ elim some [
        | inl short ↦ ap payload_at short.1 ∙ as_data (119 ∷ short.0) (omega arith) refl ∙ rw (lt-ltb _ _ short.2) refl
        | inr short ↦ ap payload_at short.1 ∙ as_keepalive (107 ∷ short.0) (omega arith) refl ∙ rw (lt-ltb _ _ short.2) refl
      ]
    ]
fault_again bytes Trailing has =
    ap payload_at has.1 ∙ as_keepalive (107 ∷ has.0) (omega arith) refl
    ∙ rw (le-ltb (length has.0) 17 (omega (arith, has.2)), lt-ltb _ _ has.2) refl
fault_again bytes BadReplyByte has = ap payload_at has.2 ∙ as_keepalive (107 ∷ (has.0 ++ has.1 ∷ [])) (omega arith) refl
    ∙ (let last : slice_index (has.0 ++ has.1 ∷ []) 16 ≡ has.1 = ap (λ n. slice_index (has.0 ++ has.1 ∷ []) n) (sym has.3)
    ∙ get_or-append_seam has.0 has.1 [] 0 in
    bad_reply (has.0 ++ has.1 ∷ []) (omega (arith, has.3, length-append has.0 (has.1 ∷ []))) (omega (arith, last, has.4)))
fault_again bytes (UnknownFrame byte) has = absurd has
fault_again bytes BadLength has = absurd has
fault_again bytes TooLarge has = absurd has
fault_again bytes AfterDone has = absurd has
fault_again bytes Memory has = absurd has

ok_is_spelled : (bytes : List ℕ) (m : ServerMessage) → IsEither bytes → payload_at bytes ≡ Ok m → IsServerMessage m × (bytes ≡ payload m)
ok_is_spelled bytes m (inl (n, read)) e = let same : n ≡ m = cc in (subst IsServerMessage same read.is, read.spelled ∙ ap payload same)
ok_is_spelled bytes m (inr (fault, refused)) e = cc

err_has_fault : (bytes : List ℕ) (fault : WireFault) → IsEither bytes → payload_at bytes ≡ Err fault → HasPayloadFault bytes fault
err_has_fault bytes fault (inl (n, read)) e = cc
err_has_fault bytes fault (inr (other, refused)) e = let same : other ≡ fault = cc in subst (HasPayloadFault bytes) same refused.has

-- decode_server's clauses, from what reading gives
pub found : (bytes : List ℕ) (r : Result ServerMsg WireFault) → IsBytes bytes → Gives r bytes
    → IfOk r (λ m. IsServerMessage (message_value m) × (bytes ≡ payload (message_value m)))
found bytes (Ok m) fits gives = ok_is_spelled bytes (message_value m) (read_or_refused bytes fits) gives
found bytes (Err fault) fits gives = tt

pub only : (bytes : List ℕ) (r : Result ServerMsg WireFault) → Gives r bytes → (m : ServerMessage) → IsServerMessage m → bytes ≡ payload m
    → IsOkAnd r (λ x. message_value x ≡ m)
only bytes (Ok x) gives m is e = let same : payload_at bytes ≡ Ok m = ap payload_at e ∙ payload_again m is in cc
only bytes (Err fault) gives m is e = let same : payload_at bytes ≡ Ok m = ap payload_at e ∙ payload_again m is in cc

pub first : (bytes : List ℕ) (r : Result ServerMsg WireFault) → IsBytes bytes → Gives r bytes
    → IfErr r (λ fault. HasPayloadFault bytes fault)
first bytes (Ok m) fits gives = tt
first bytes (Err fault) fits gives = err_has_fault bytes fault (read_or_refused bytes fits) gives

pub refused : (bytes : List ℕ) (r : Result ServerMsg WireFault) → Gives r bytes → (fault : WireFault) → HasPayloadFault bytes fault
    → IsErrOf r fault
refused bytes (Ok x) gives fault has = let same = fault_again bytes fault has in cc
refused bytes (Err other) gives fault has = let same = fault_again bytes fault has in let e : other ≡ fault = cc in ap Err e
