-- How long the line of a commit is at most.
use Rattle.std.proofs.Common.{◌≡◌, ◌<◌, ◌≤◌, ◌+◌, ◌-◌, ◌^◌, ℕ, ℤ, pos, negsuc, ◌+ℤ◌, List, ◌∷◌}
use Rattle.std.proofs.Common.{length, Option, Some, None, refl, ap, arith, length-append}
use Rattle.std.specs.Prelude.{IfSome, decimal, FitsSigned, replicate}
use Rattle.std.specs.Int.{w64}
use Rattle.std.specs.Fmt.{signed_decimal}
use Rattle.std.proofs.lemmas.Fmt.{length-decimal-le, length_signed_le}
use Rattle.std.proofs.lemmas.Int.{ints}
use Rattle.std.proofs.lemmas.List.{length-replicate}
use Rattle.pglsn.specs.Texts.{lsn_text}
use Rattle.pglsn.proofs.Printed.{text_reads}
use Rattle.pgapply.specs.declared.commit.About.{About}
use Rattle.pgcrc.specs.Crc.{crc32}
use Rattle.pgfeed.specs.Texts.{about_text, closing_object, commit_front, commit_line, commit_object}
use Rattle.pgfeed.specs.Texts.{commit_rest, commit_told, crc_text, padded, unix_micros}
use Rattle.pgfeed.specs.Fits.{FitsAbout, FitsLine}

pub lsn_length : (n : ℕ) → n < 2 ^ 64 → length (lsn_text n) ≤ 17
lsn_length n small =
    let reads = text_reads n small in
    omega (arith, ap length reads.whole, length-append reads.high (47 ∷ reads.low), reads.high_part.most, reads.low_part.most)

number_length : (n : ℕ) → n < 2 ^ 64 → length (decimal n) ≤ 20
number_length n small = length-decimal-le 20 n (omega arith) (omega arith) small

-- of a time before 1970, or before 2000
early_length : (z : ℤ) (n : ℕ) → z ≡ negsuc n +ℤ pos 946684800000000 → n < 2 ^ 63 → length (signed_decimal z) ≤ 20
early_length (pos m) n is small = number_length m (omega (arith, ints))
early_length (negsuc m) n is small = length_signed_le 19 (negsuc m) (omega (arith, ints)) (omega (arith, ints))

micros_length : (time : ℤ) → FitsSigned w64 time → length (signed_decimal (unix_micros time)) ≤ 20
micros_length (pos n) fits = let small : n < 2 ^ 63 = omega (arith, ints) in number_length (n + 946684800000000) (omega arith)
micros_length (negsuc n) fits = early_length (negsuc n +ℤ pos 946684800000000) n refl (omega (arith, ints))

untold_length : length (about_text None) ≤ 61
untold_length = omega arith

told_length : (about : About) → FitsAbout about → length (about_text (Some about)) ≤ 73
told_length about fits =
    let lsn = lsn_length about.final_lsn fits.final_lsn in
    let xid : length (decimal about.xid) ≤ 10 =
    length-decimal-le 10 about.xid (omega arith) (let small = fits.xid in omega arith) (let small = fits.xid in omega arith) in
    let micros = micros_length about.time fits.time in
    omega (arith, length-append {A = ℕ})

about_length : (about : Option About) → IfSome about FitsAbout → length (about_text about) ≤ 73
about_length None fits = omega (arith, untold_length)
about_length (Some about) fits = told_length about fits

-- the greatest values leave room
pub told_width : (end prev bytes changes : ℕ) (about : Option About) → FitsLine end prev bytes changes about
    → length (commit_told end prev bytes changes about) < 238
told_width end prev bytes changes about fits =
    let ends = lsn_length end fits.end_fits in
    let starts = lsn_length prev fits.prev_fits in
    let long = number_length bytes fits.bytes_fit in
    let many = number_length changes fits.changes_fit in
    let more = about_length about fits.about_fits in
    let front : length (commit_front end prev bytes) ≤ 85 = omega (arith, length-append {A = ℕ}) in
    let rest : length (commit_rest changes about) ≤ 105 = omega (arith, length-append {A = ℕ}) in
    omega (arith, length-append (commit_front end prev bytes) (commit_rest changes about))

pub crc_width : (crc : ℕ) → crc < 2 ^ 32 → length (crc_text crc) ≤ 18
crc_width crc small =
    let number : length (decimal crc) ≤ 10 = length-decimal-le 10 crc (omega arith) (omega arith) (omega arith) in
    omega (arith, length-append {A = ℕ})

pub object_length : (end prev bytes changes : ℕ) (about : Option About) (crc : ℕ) → FitsLine end prev bytes changes about → crc < 2 ^ 32
    → length (commit_object end prev bytes changes about crc) < 256
object_length end prev bytes changes about crc fits small =
    omega (
      arith,
      told_width end prev bytes changes about fits,
      crc_width crc small,
      length-append (commit_told end prev bytes changes about) (crc_text crc),
    )

-- the complement of 32 bits has no more
pub crc_small : (message : List ℕ) → crc32 message < 2 ^ 32
unfolding crc32
crc_small message = omega arith

pub padded_length : (size : ℕ) (text : List ℕ) → length text < size → length (padded size text) ≡ size
padded_length size text fits =
    let blanks : length (replicate {A = ℕ} (size - 1 - length text) 32) ≡ size - 1 - length text =
    length-replicate (size - 1 - length text) 32 in
    omega (arith, length-append {A = ℕ})

pub line_length : (end prev bytes changes : ℕ) (about : Option About) (crc : ℕ) → FitsLine end prev bytes changes about → crc < 2 ^ 32
    → length (commit_line end prev bytes changes about crc) ≡ 256
line_length end prev bytes changes about crc fits small =
    padded_length 256 (commit_object end prev bytes changes about crc) (object_length end prev bytes changes about crc fits small)

-- the line that ends a segment
pub closing_length : (last : ℕ) → last < 2 ^ 64 → length (closing_object last) < 256
closing_length last small = let long = lsn_length last small in omega (arith, length-append {A = ℕ})
