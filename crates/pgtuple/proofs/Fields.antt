-- A number that is read is the number that was written, and what was written is read again.
use Rattle.std.proofs.Common.{◌≡◌, ℕ, suc, ◌+◌, ◌^◌, ◌<◌, ◌≤◌, Bool, true, false, cond, ltb, List}
use Rattle.std.proofs.Common.{[], ◌∷◌, ◌++◌, length, take, drop, Result, Ok, Err, refl, sym, ap}
use Rattle.std.proofs.Common.{subst, ◌∙◌, append_assoc, arith, inl, inr}
use Rattle.std.specs.Int.{Width, w16, w32, byte_len, from_be_bytes, to_be_bytes}
use Rattle.std.proofs.lemmas.Bool.{cases_lt, ltb-false, le-ltb}
use Rattle.std.proofs.lemmas.List.{take_at, drop_at, take-append-drop, length-append, length-take}
use Rattle.std.proofs.lemmas.List.{get_or-drop, get_or-take, get_or_past}
use Rattle.std.proofs.lemmas.Nat.{be_bytes_2, be_bytes_4, from_be_bytes-to_be_bytes_2}
use Rattle.std.proofs.lemmas.Nat.{from_be_bytes-to_be_bytes_4}
use Rattle.pgtuple.specs.declared.fault.TupleFault.{TupleFault}
use Rattle.pgtuple.specs.declared.fault.TupleFault.TheVariants as fault
use Rattle.pgtuple.specs.Limits.{IsBytes}
use Rattle.pgtuple.specs.Reading.{◌>>=◌, At, further, number_at}

pub IsBytes-drop : (n : ℕ) (bytes : List ℕ) → IsBytes bytes → IsBytes (drop n bytes)
IsBytes-drop n bytes h i = rw get_or-drop (h (n + i))

pub IsBytes-take : (n : ℕ) (bytes : List ℕ) → IsBytes bytes → IsBytes (take n bytes)
IsBytes-take n bytes h i =
    elim (cases_lt i n) [
      | inl lt ↦ rw (get_or-take n bytes i 0 lt) (h i)
      | inr le ↦ rw (get_or_past (take n bytes) i 0 (omega (arith, length-take n bytes))) (omega arith)
    ]

pub IsBytes-rest : (b : ℕ) (bytes : List ℕ) → IsBytes (b ∷ bytes) → IsBytes bytes
IsBytes-rest b bytes h i = h (suc i)

-- the value of a step that did not fail
pub bind_ok : {A B E : Type 0} (r : Result A E) (f : A → Result B E) (y : B) → (r >>= f) ≡ Ok y → (x : A) × (r ≡ Ok x) × (f x ≡ Ok y)
bind_ok (Ok x) f y e = (x, refl, e)
bind_ok (Err d) f y e = absurd cc

-- a test that did not fail
pub unless_ok : {A E : Type 0} (b : Bool) (d : E) (x y : A) → cond b (Err d) (Ok x) ≡ Ok y → (b ≡ false) × (x ≡ y)
unless_ok true d x y e = absurd cc
unless_ok false d x y e = (refl, cc)

pub when_ok : {A E : Type 0} (b : Bool) (d : E) (x y : A) → cond b (Ok x) (Err d) ≡ Ok y → (b ≡ true) × (x ≡ y)
when_ok true d x y e = (refl, cc)
when_ok false d x y e = absurd cc

abbrev done : {A : Type 0} → A → Result A TupleFault
done x = Ok x

pub ok_is : {A : Type 0} (x y : A) → done x ≡ done y → x ≡ y
ok_is x y e = cc

-- what a reader took from the front
pub record Takes (at : At) (text : List ℕ) (next : At) : Type 0 where
  pub parts : at.1 ≡ text ++ next.1
  pub place : next.0 ≡ at.0 + length text
  pub rest_fits : IsBytes next.1

pub Takes-then : (a : At) (x : List ℕ) (b : At) (y : List ℕ) (c : At) → Takes a x b → Takes b y c → Takes a (x ++ y) c
Takes-then a x b y c p q = record {
  parts = p.parts ∙ ap (λ (t : List ℕ). x ++ t) q.parts ∙ sym (append_assoc x y c.1);
  place = omega (arith, p.place, q.place, length-append x y);
  rest_fits = q.rest_fits;
}

pub Takes-none : (a : At) → IsBytes a.1 → Takes a [] a
Takes-none a fits = record { parts = refl; place = omega arith; rest_fits = fits }

-- ---- numbers

pub record IsWide (w : Width) (limit : ℕ) : Type 0 where
  pub len : (n : ℕ) → length (to_be_bytes w n) ≡ byte_len w
  pub back : (bytes : List ℕ) → length bytes ≡ byte_len w → IsBytes bytes → to_be_bytes w (from_be_bytes w bytes) ≡ bytes
  pub again : (n : ℕ) → n < limit → from_be_bytes w (to_be_bytes w n) ≡ n
  pub below : (bytes : List ℕ) → IsBytes bytes → from_be_bytes w bytes < limit

pub wide16 : IsWide w16 (2 ^ 16)
wide16 = record {
  len = λ n. refl;
  back = λ bytes len fits. be_bytes_2 bytes _ len fits refl;
  again = λ n lt. from_be_bytes-to_be_bytes_2 n lt;
  below = λ bytes fits. omega (arith, fits 0, fits 1);
}

pub wide32 : IsWide w32 (2 ^ 32)
wide32 = record {
  len = λ n. refl;
  back = λ bytes len fits. be_bytes_4 bytes _ len fits refl;
  again = λ n lt. from_be_bytes-to_be_bytes_4 n lt;
  below = λ bytes fits. omega (arith, fits 0, fits 1, fits 2, fits 3);
}

pub number_takes : (w : Width) (limit : ℕ) (wide : IsWide w limit) (at : At) (x : ℕ × At) → IsBytes at.1 → number_at w at ≡ Ok x
    → Takes at (to_be_bytes w x.0) x.1 × (x.0 < limit)
unfolding number_at
number_takes w limit wide at x fits e =
    let front : List ℕ = take (byte_len w) at.1 in
    let g = unless_ok (ltb (length at.1) (byte_len w)) (fault.Short at.0) (from_be_bytes w front, further (byte_len w) at) x e in
    let long : byte_len w ≤ length at.1 = ltb-false _ _ g.0 in
    let len : length front ≡ byte_len w = omega (arith, length-take (byte_len w) at.1) in
    let fits_front : IsBytes front = IsBytes-take (byte_len w) at.1 fits in
    let same : to_be_bytes w (from_be_bytes w front) ≡ front = wide.back front len fits_front in
    let taken : Takes at (to_be_bytes w (from_be_bytes w front)) (further (byte_len w) at) = record {
      parts = rw same (sym (take-append-drop (byte_len w) at.1));
      place = rw same (omega (arith, len));
      rest_fits = IsBytes-drop (byte_len w) at.1 fits;
    } in
    subst (λ (y : ℕ × At). Takes at (to_be_bytes w y.0) y.1 × (y.0 < limit)) g.1 (taken, wide.below front fits_front)

pub number_again : (w : Width) (limit : ℕ) (wide : IsWide w limit) (n place : ℕ) (more : List ℕ) → n < limit
    → number_at w (place, to_be_bytes w n ++ more) ≡ Ok (n, (place + byte_len w, more))
unfolding number_at
number_again w limit wide n place more lt =
    let len = wide.len n in
    let long : ltb (length (to_be_bytes w n ++ more)) (byte_len w) ≡ false =
    le-ltb _ _ (omega (arith, length-append (to_be_bytes w n) more)) in
    rw (long, take_at (to_be_bytes w n) more (byte_len w) len, drop_at (to_be_bytes w n) more (byte_len w) len, wide.again n lt) refl
