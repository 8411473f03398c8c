-- What calls of a disk leave of a file.
use Rattle.std.proofs.Common.{◌≡◌, ◌<◌, ◌≤◌, ◌+◌, ℕ, List, ◌++◌, length, get_or, take, drop, refl}
use Rattle.std.proofs.Common.{ap, sym, ◌∙◌, arith, length-append}
use Rattle.std.proofs.lemmas.List.{ext_get_or, take-append-drop, length-take-le, length-drop}
use Rattle.std.proofs.lemmas.List.{get_or-take, get_or-drop}
use Rattle.sqlite_disk.specs.Disk.{Cut, Holds, Torn}
use Rattle.pgfeed.specs.Segments.{Begins, StaysBefore}
use Rattle.pgfeed.specs.Cutting.Walking.{take_front}

pub drop_drop : (k n : ℕ) (xs : List ℕ) → drop n (drop k xs) ≡ drop (k + n) xs
drop_drop k n xs =
    let a = length-drop n (drop k xs) in
    let b = length-drop k xs in
    let d = length-drop (k + n) xs in
    ext_get_or 0 (drop n (drop k xs)) (drop (k + n) xs) (omega arith) (λ i lt.
    get_or-drop n (drop k xs) i 0 ∙ get_or-drop k xs (n + i) 0 ∙ ap (λ j. get_or xs j 0) (omega arith) ∙ sym (get_or-drop (k + n) xs i 0))

-- the bytes at an offset
pub holds_at : (file : List ℕ) (at : ℕ) (bytes : List ℕ) → Holds file at bytes → take (length bytes) (drop at file) ≡ bytes
holds_at file at bytes holds =
    let n : ℕ = length bytes in
    let long = length-drop at file in
    let size : length (take n (drop at file)) ≡ n = length-take-le n (drop at file) (omega (arith, holds.within)) in
    ext_get_or 0 (take n (drop at file)) bytes size
    (λ i lt. let less : i < n = omega arith in get_or-take n (drop at file) i 0 less ∙ get_or-drop at file i 0 ∙ holds.each i less)

-- what the file has behind this offset begins with these bytes
pub holds_behind : (file : List ℕ) (at : ℕ) (bytes : List ℕ) → Holds file at bytes → drop at file ≡ bytes ++ drop (at + length bytes) file
holds_behind file at bytes holds =
    let n : ℕ = length bytes in
    sym (take-append-drop n (drop at file)) ∙ ap (λ xs. xs ++ drop n (drop at file)) (holds_at file at bytes holds)
    ∙ ap (λ xs. bytes ++ xs) (drop_drop at n file)

-- a write leaves what is before it, and so does a change of the length
pub torn_stays : (size at n : ℕ) (old new : List ℕ) → size ≤ at → Torn at n old new → StaysBefore size old new
torn_stays size at n old new before torn =
    record { no_shorter = omega (arith, torn.no_shorter); below = λ i lt less. torn.below i lt (omega arith) }

pub cut_stays : (size at : ℕ) (old new : List ℕ) → size ≤ at → Cut at old new → StaysBefore size old new
cut_stays size at old new before cut =
    record { no_shorter = omega (arith, cut.no_shorter); below = λ i lt less. cut.below i lt (omega arith) }

-- a front of what stays
pub stays_before : (k size : ℕ) (old new : List ℕ) → StaysBefore size old new → k ≤ size → k ≤ length old → take k new ≡ take k old
stays_before k size old new stays before within =
    let long : length (take k new) ≡ k = length-take-le k new (omega (arith, stays.no_shorter)) in
    let same : length (take k old) ≡ k = length-take-le k old within in
    ext_get_or 0 (take k new) (take k old) (long ∙ sym same) (λ i lt.
    let less : i < k = omega arith in
    get_or-take k new i 0 less ∙ stays.below i (omega arith) (omega arith) ∙ sym (get_or-take k old i 0 less))

-- a change of the length leaves what is before it
pub cut_before : (at : ℕ) (old new : List ℕ) → Cut at old new → length new ≡ at → at ≤ length old → new ≡ take at old
cut_before at old new cut long within =
    let size : length (take at old) ≡ at = length-take-le at old within in
    ext_get_or 0 new (take at old) (long ∙ sym size) (λ i lt.
    let less : i < at = omega arith in
    cut.below i (omega arith) less ∙ sym (get_or-take at old i 0 less))

-- a text is its front and the rest, where the front is as long
pub front_of : (size : ℕ) (front rest text : List ℕ) → text ≡ front ++ rest → size ≡ length front → take size text ≡ front
front_of size front rest text is long = ap (take size) is ∙ take_front size front rest (sym long)

-- a front stays where only what is behind it is changed
pub begins_stays : (front d c : List ℕ) (size : ℕ) → Begins front d → length front ≤ size → StaysBefore size d c → Begins front c
begins_stays front d c size begins within stays =
    let k : ℕ = length front in
    let room : k ≤ length d = omega (arith, ap length begins.1, length-append front begins.0) in
    let same : take k c ≡ front = stays_before k size d c stays within room ∙ front_of k front begins.0 d begins.1 refl in
    (drop k c, sym (take-append-drop k c) ∙ ap (λ xs. xs ++ drop k c) same)
