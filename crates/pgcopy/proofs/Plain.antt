-- The value of a field, from its front on.
use Rattle.std.proofs.Common.{◌≡◌, ℕ, zero, suc, List, [], ◌∷◌, ◌++◌, true, false}
use Rattle.std.proofs.Common.{length, drop, refl, ap, sym, ◌∙◌, Result, Ok, Err, arith, append-nil}
use Rattle.std.specs.Prelude.{◌==◌, ◌||◌}
use Rattle.std.specs.List.{list_any}
use Rattle.std.proofs.lemmas.Bool.Decides.{nat_tests}
use Rattle.pgcopy.specs.declared.fault.Reason.{Reason}
use Rattle.pgcopy.specs.declared.fault.Reason.TheVariants.{CutSequence, CarriageReturn}
use Rattle.pgcopy.specs.declared.fault.RowFault.{RowFault}
use Rattle.pgcopy.specs.declared.fault.RowFault.TheVariants.{Bad, Memory}
use Rattle.pgcopy.specs.Read.{IsFault}
use Rattle.pgcopy.specs.Values.{value_behind, value_of, with_byte, sequence_at}

-- what a sequence takes is passed over
pub value_behind-drop : (taken : ℕ) (bytes : List ℕ) → value_behind taken bytes ≡ value_behind 0 (drop taken bytes)
unfolding value_behind
value_behind-drop zero [] = refl
value_behind-drop (suc taken) [] = refl
value_behind-drop zero (byte ∷ bytes) = refl
value_behind-drop (suc taken) (byte ∷ bytes) = value_behind-drop taken bytes

-- ---- bytes in front of a value

abbrev pub with_bytes : List ℕ → Result (List ℕ) Reason → Result (List ℕ) Reason
with_bytes front (Ok bytes) = Ok (front ++ bytes)
with_bytes front (Err reason) = Err reason

pub with_bytes-nil : (read : Result (List ℕ) Reason) → with_bytes [] read ≡ read
with_bytes-nil (Ok bytes) = refl
with_bytes-nil (Err reason) = refl

append-one : (front bytes : List ℕ) (byte : ℕ) → front ++ byte ∷ bytes ≡ (front ++ byte ∷ []) ++ bytes
append-one [] bytes byte = refl
append-one (first ∷ front) bytes byte = ap (λ more. first ∷ more) (append-one front bytes byte)

pub with_bytes-push : (front : List ℕ) (byte : ℕ) (read : Result (List ℕ) Reason)
    → with_bytes (front ++ byte ∷ []) read ≡ with_bytes front (with_byte byte read)
with_bytes-push front byte (Ok bytes) = ap (λ value. Ok value) (sym (append-one front bytes byte))
with_bytes-push front byte (Err reason) = refl

-- ---- one character, or one sequence

pub value-plain : (byte : ℕ) (bytes : List ℕ) → (byte == 92) ≡ false → (byte == 13) ≡ false
    → value_of (byte ∷ bytes) ≡ with_byte byte (value_of bytes)
unfolding value_behind
value-plain byte bytes one two = rw (one, two) refl

pub value-sequence : (bytes : List ℕ) → (length bytes == 0) ≡ false
    → value_of (92 ∷ bytes) ≡ with_byte (sequence_at bytes).0 (value_of (drop (sequence_at bytes).1 bytes))
unfolding value_behind
value-sequence bytes some = rw some (ap (with_byte (sequence_at bytes).0) (value_behind-drop (sequence_at bytes).1 bytes))

pub value-cut : value_of (92 ∷ []) ≡ Err CutSequence
unfolding value_behind
value-cut = refl

pub value-return : (bytes : List ℕ) → value_of (13 ∷ bytes) ≡ Err CarriageReturn
unfolding value_behind
value-return bytes = refl

pub value-nil : value_of [] ≡ Ok []
unfolding value_behind
value-nil = refl

-- a field without a backslash or a carriage return is its own value
pub plain_value : (bytes : List ℕ) → list_any (λ byte. byte == 92 || byte == 13) bytes ≡ false → value_of bytes ≡ Ok bytes
plain_value [] none = value-nil
plain_value (byte ∷ bytes) none =
    elim (byte == 92) as
    (λ a. (byte == 92) ≡ a → ((a || byte == 13) || list_any (λ it. it == 92 || it == 13) bytes) ≡ false
    → value_of (byte ∷ bytes) ≡ Ok (byte ∷ bytes)) [
      | true ↦ λ is no. absurd (cc)
      | false ↦ λ one no. elim (byte == 13) as
          (λ a. (byte == 13) ≡ a → (a || list_any (λ it. it == 92 || it == 13) bytes) ≡ false
          → value_of (byte ∷ bytes) ≡ Ok (byte ∷ bytes)) [
            | true ↦ λ is not. absurd (cc)
            | false ↦ λ two not. value-plain byte bytes one two ∙ ap (with_byte byte) (plain_value bytes not)
          ] refl no
    ] refl none

-- ---- the value so far, and the value of the rest

pub value_all : (front rest : List ℕ) (whole : Result (List ℕ) Reason) → with_bytes front (value_of rest) ≡ whole
    → value_of rest ≡ Ok [] → whole ≡ Ok front
value_all front rest whole so_far e = sym so_far ∙ ap (with_bytes front) e ∙ ap (λ all. Ok all) (append-nil front)

pub value_more : (front rest behind : List ℕ) (byte : ℕ) (whole : Result (List ℕ) Reason) → with_bytes front (value_of rest) ≡ whole
    → value_of rest ≡ with_byte byte (value_of behind) → with_bytes (front ++ byte ∷ []) (value_of behind) ≡ whole
value_more front rest behind byte whole so_far e = with_bytes-push front byte (value_of behind) ∙ sym (ap (with_bytes front) e) ∙ so_far

pub value_bad : (fault : RowFault) (front rest : List ℕ) (whole : Result (List ℕ) Reason) → with_bytes front (value_of rest) ≡ whole
    → IsFault fault (value_of rest) → IsFault fault whole
value_bad Memory front rest whole so_far e = tt
value_bad (Bad reason) front rest whole so_far e = sym so_far ∙ ap (with_bytes front) e

-- ---- the first of a field

pub value_first_nil : (field : List ℕ) → length field ≡ 0 → value_of field ≡ Ok []
value_first_nil [] e = value-nil
value_first_nil (byte ∷ field) e = absurd (omega arith)

pub value_first_return : (field behind : List ℕ) (byte : ℕ) → field ≡ byte ∷ behind → byte ≡ 13 → value_of field ≡ Err CarriageReturn
value_first_return field behind byte e is = ap value_of (e ∙ ap (λ b. b ∷ behind) is) ∙ value-return behind

pub value_first_plain : (field behind : List ℕ) (byte : ℕ) → field ≡ byte ∷ behind → (byte ≡ 13 → ⊥) → (byte ≡ 92 → ⊥)
    → value_of field ≡ with_byte byte (value_of behind)
value_first_plain field behind byte e no_return no_backslash =
    let one : (byte == 92) ≡ false = grind (arith, nat_tests) in
    let two : (byte == 13) ≡ false = grind (arith, nat_tests) in
    ap value_of e ∙ value-plain byte behind one two

pub value_first_cut : (field behind : List ℕ) (byte : ℕ) → field ≡ byte ∷ behind → byte ≡ 92 → (length behind == 0) ≡ true
    → value_of field ≡ Err CutSequence
value_first_cut field [] byte e is none = ap value_of (e ∙ ap (λ b. b ∷ []) is) ∙ value-cut
value_first_cut field (next ∷ behind) byte e is none = absurd (grind (arith, nat_tests))

pub value_first_sequence : (field behind others : List ℕ) (byte : ℕ) (sequence : ℕ × ℕ) → field ≡ byte ∷ behind → byte ≡ 92
    → (length behind == 0) ≡ false → sequence ≡ sequence_at behind → others ≡ drop sequence.1 behind
    → value_of field ≡ with_byte sequence.0 (value_of others)
value_first_sequence field behind others byte sequence e is some seq left =
    ap value_of (e ∙ ap (λ b. b ∷ behind) is) ∙ value-sequence behind some
    ∙ rw (← seq, left) refl
