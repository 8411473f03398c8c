-- Numbers and records, and their bytes.
use Rattle.std.proofs.Common.{◌≡◌, ◌≢◌, ◌<◌, ◌≤◌, ◌^◌, ◌∙◌, ℕ, List, [], ◌++◌, refl, sym, ap, subst}
use Rattle.std.proofs.Common.{length, take, drop, get_or, arith, append_assoc, append-nil, inl, inr}
use Rattle.std.specs.Prelude.{ℤ, pos, negsuc, FitsSigned}
use Rattle.std.specs.Int.{to_be_bytes, from_be_bytes, cast_signed, cast_unsigned, w32, w64}
use Rattle.std.proofs.lemmas.Bool.{cases_lt}
use Rattle.std.proofs.lemmas.List.{get_or-take, get_or_past, length-take, length-take-le}
use Rattle.std.proofs.lemmas.List.{take-append-drop}
use Rattle.std.proofs.lemmas.Nat.{be_bytes_4, be_bytes_8, from_be_bytes-to_be_bytes_4}
use Rattle.std.proofs.lemmas.Nat.{from_be_bytes-to_be_bytes_8}
use Rattle.std.proofs.lemmas.Int.{to_z-of_z}
use Rattle.pgcrc.specs.Crc.{crc32}
use Rattle.pgpast.specs.declared.record.Record.{Record}
use Rattle.pgpast.specs.Records.{IsFit, IsRecord, body, encoded}

abbrev pub IsBytes : List ℕ → Type 0
IsBytes bytes = (i : ℕ) → get_or bytes i 0 < 256

front_is : (n : ℕ) (bytes : List ℕ) → IsBytes bytes → IsBytes (take n bytes)
front_is n bytes h i =
    elim (cases_lt i n) [
      | inl lt ↦ rw (get_or-take n bytes i 0 lt) (h i)
      | inr le ↦ rw (get_or_past (take n bytes) i 0 (omega (arith, length-take n bytes))) (omega arith)
    ]

-- ---- a number in front

pub long_front : (bytes first others : List ℕ) (n : ℕ) → IsBytes bytes → 8 ≤ length bytes → first ≡ take 8 bytes → others ≡ drop 8 bytes
    → n ≡ from_be_bytes w64 first → bytes ≡ to_be_bytes w64 n ++ others
long_front bytes first others n fits le front back is =
    let same : to_be_bytes w64 n ≡ take 8 bytes =
    be_bytes_8 (take 8 bytes) n (length-take-le 8 bytes le) (front_is 8 bytes fits) (is ∙ ap (from_be_bytes w64) front) in
    sym (take-append-drop 8 bytes) ∙ ap (λ xs. xs ++ drop 8 bytes) (sym same) ∙ ap (λ xs. to_be_bytes w64 n ++ xs) (sym back)

pub short_front : (bytes first others : List ℕ) (n : ℕ) → IsBytes bytes → 4 ≤ length bytes → first ≡ take 4 bytes → others ≡ drop 4 bytes
    → n ≡ from_be_bytes w32 first → bytes ≡ to_be_bytes w32 n ++ others
short_front bytes first others n fits le front back is =
    let same : to_be_bytes w32 n ≡ take 4 bytes =
    be_bytes_4 (take 4 bytes) n (length-take-le 4 bytes le) (front_is 4 bytes fits) (is ∙ ap (from_be_bytes w32) front) in
    sym (take-append-drop 4 bytes) ∙ ap (λ xs. xs ++ drop 4 bytes) (sym same) ∙ ap (λ xs. to_be_bytes w32 n ++ xs) (sym back)

-- ---- the fields, one behind the other

step : (bytes front rest x others : List ℕ) → bytes ≡ front ++ rest → rest ≡ x ++ others → bytes ≡ (front ++ x) ++ others
step bytes front rest x others e f = e ∙ ap (λ ys. front ++ ys) f ∙ sym (append_assoc front x others)

pub joined : (bytes a b c d e f g h p q r s t u v w : List ℕ) → bytes ≡ a ++ p → p ≡ b ++ q → q ≡ c ++ r → r ≡ d ++ s → s ≡ e ++ t
    → t ≡ f ++ u → u ≡ g ++ v → v ≡ h ++ w → w ≡ [] → bytes ≡ a ++ b ++ c ++ d ++ e ++ f ++ g ++ h
joined bytes a b c d e f g h p q r s t u v w is1 is2 is3 is4 is5 is6 is7 is8 none =
    let two = step bytes a p b q is1 is2 in
    let three = step bytes (a ++ b) q c r two is3 in
    let four = step bytes (a ++ b ++ c) r d s three is4 in
    let five = step bytes (a ++ b ++ c ++ d) s e t four is5 in
    let six = step bytes (a ++ b ++ c ++ d ++ e) t f u five is6 in
    let seven = step bytes (a ++ b ++ c ++ d ++ e ++ f) u g v six is7 in
    let eight = step bytes (a ++ b ++ c ++ d ++ e ++ f ++ g) v h w seven is8 in
    eight ∙ ap (λ xs. (a ++ b ++ c ++ d ++ e ++ f ++ g ++ h) ++ xs) none ∙ append-nil (a ++ b ++ c ++ d ++ e ++ f ++ g ++ h)

pub len_is : (r : Record) → length (encoded r) ≡ 48
len_is r = refl

pub body_of : (r : Record) → take 44 (encoded r) ≡ body r
body_of r = refl

pub crc_of : (r : Record) → from_be_bytes w32 (drop 44 (encoded r)) ≡ from_be_bytes w32 (to_be_bytes w32 r.crc)
crc_of r = refl

-- ---- bytes with another CRC are no record's

pub not_one : (bytes : List ℕ) (r s : Record) (crc : ℕ) → bytes ≡ encoded r → r.crc < 2 ^ 32 → crc < 2 ^ 32
    → crc ≡ crc32 (take 44 bytes) → crc ≢ r.crc → IsRecord s → bytes ≢ encoded s
not_one bytes r s crc is low small of other right e =
    let own : crc ≡ s.crc = of ∙ ap (λ xs. crc32 (take 44 xs)) e ∙ sym right in
    let same : from_be_bytes w32 (to_be_bytes w32 r.crc) ≡ from_be_bytes w32 (to_be_bytes w32 s.crc) =
    ap (λ xs. from_be_bytes w32 (drop 44 xs)) (sym is ∙ e) in
    other (own ∙ sym (from_be_bytes-to_be_bytes_4 s.crc (subst (λ n. n < 2 ^ 32) own small)) ∙ sym same
    ∙ from_be_bytes-to_be_bytes_4 r.crc low)

-- ---- records with the same bytes

unsigned_below : (z : ℤ) → FitsSigned w64 z → cast_unsigned w64 z < 2 ^ 64
unsigned_below (pos n) f = let h : n < 2 ^ 63 = f.sfits in omega arith
unsigned_below (negsuc n) f = let h : n < 2 ^ 63 = f.sfits in omega arith

module _ (r s : Record) (fr : IsFit r) (fs : IsFit s) (e : encoded r ≡ encoded s) where
  end_is : r.commit.end ≡ s.commit.end
  end_is = sym (from_be_bytes-to_be_bytes_8 r.commit.end fr.end) ∙ ap (λ xs. from_be_bytes w64 (take 8 xs)) e
      ∙ from_be_bytes-to_be_bytes_8 s.commit.end fs.end

  lsn_is : r.commit.lsn ≡ s.commit.lsn
  lsn_is = sym (from_be_bytes-to_be_bytes_8 r.commit.lsn fr.lsn) ∙ ap (λ xs. from_be_bytes w64 (take 8 (drop 8 xs))) e
      ∙ from_be_bytes-to_be_bytes_8 s.commit.lsn fs.lsn

  xid_is : r.commit.xid ≡ s.commit.xid
  xid_is = sym (from_be_bytes-to_be_bytes_4 r.commit.xid fr.xid) ∙ ap (λ xs. from_be_bytes w32 (take 4 (drop 16 xs))) e
      ∙ from_be_bytes-to_be_bytes_4 s.commit.xid fs.xid

  time_is : r.commit.time ≡ s.commit.time
  time_is =
      let same : cast_unsigned w64 r.commit.time ≡ cast_unsigned w64 s.commit.time =
      sym (from_be_bytes-to_be_bytes_8 (cast_unsigned w64 r.commit.time) (unsigned_below r.commit.time fr.time))
      ∙ ap (λ xs. from_be_bytes w64 (take 8 (drop 20 xs))) e
      ∙ from_be_bytes-to_be_bytes_8 (cast_unsigned w64 s.commit.time) (unsigned_below s.commit.time fs.time) in
      sym (to_z-of_z w64 r.commit.time fr.time) ∙ ap (cast_signed w64) same ∙ to_z-of_z w64 s.commit.time fs.time

  changes_is : r.commit.digest.changes ≡ s.commit.digest.changes
  changes_is = sym (from_be_bytes-to_be_bytes_8 r.commit.digest.changes fr.changes) ∙ ap (λ xs. from_be_bytes w64 (take 8 (drop 28 xs))) e
      ∙ from_be_bytes-to_be_bytes_8 s.commit.digest.changes fs.changes

  digest_is : r.commit.digest.crc ≡ s.commit.digest.crc
  digest_is = sym (from_be_bytes-to_be_bytes_4 r.commit.digest.crc fr.digest) ∙ ap (λ xs. from_be_bytes w32 (take 4 (drop 36 xs))) e
      ∙ from_be_bytes-to_be_bytes_4 s.commit.digest.crc fs.digest

  before_is : r.before ≡ s.before
  before_is = sym (from_be_bytes-to_be_bytes_4 r.before fr.before) ∙ ap (λ xs. from_be_bytes w32 (take 4 (drop 40 xs))) e
      ∙ from_be_bytes-to_be_bytes_4 s.before fs.before

  crc_is : r.crc ≡ s.crc
  crc_is = sym (from_be_bytes-to_be_bytes_4 r.crc fr.crc) ∙ ap (λ xs. from_be_bytes w32 (take 4 (drop 44 xs))) e
      ∙ from_be_bytes-to_be_bytes_4 s.crc fs.crc

  pub same_record : r ≡ s
  same_record = λ i. record {
    commit = record {
      end = end_is i;
      lsn = lsn_is i;
      xid = xid_is i;
      time = time_is i;
      digest = record { changes = changes_is i; crc = digest_is i };
    };
    before = before_is i;
    crc = crc_is i;
  }
