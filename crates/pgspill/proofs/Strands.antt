-- Strands: their pieces beside those of others, one piece more, and the last one cut.
use Rattle.std.proofs.Common.{◌≡◌, ◌⊎◌, inl, inr, ◌<◌, ◌≤◌, ◌+◌, ◌-◌, ◌*◌, ℕ, zero, suc, List, []}
use Rattle.std.proofs.Common.{◌∷◌, ◌++◌, length, take, drop, set}
use Rattle.std.proofs.Common.{Option, Some, refl, sym, ap, subst, ◌∙◌, arith, append_assoc}
use Rattle.std.proofs.Common.{append-nil, length-append}
use Rattle.std.specs.List.{slice_get}
use Rattle.std.proofs.lemmas.Bool.{cases_eq}
use Rattle.std.proofs.lemmas.Option.{none-some, same_Some}
use Rattle.std.proofs.lemmas.List.{take-take, drop-drop, take-append-drop, take-append-le, drop_all}
use Rattle.std.proofs.lemmas.Grind.{flat_map-append}
use Rattle.pgspill.specs.declared.piece.Owner.{Owner}
use Rattle.pgspill.specs.declared.piece.Piece.{Piece}
use Rattle.pgspill.specs.declared.strand.Strand.{Strand}
use Rattle.pgspill.specs.Pieces.{IsPiece, KeepsPieces, bytes_of}
use Rattle.pgspill.specs.Strands.{spilled_bytes, ArePieces, strand_bytes, IsStrand}
use Rattle.pgspill.proofs.Parts.{get_set_other, get_set_same, part_length}

-- ---- lists of pieces

pub same_spilled : (file file' : List ℕ) (ps : List Piece)
    → ((i : ℕ) (p : Piece) → slice_get ps i ≡ Some p → bytes_of file' p ≡ bytes_of file p)
    → spilled_bytes file' ps ≡ spilled_bytes file ps
same_spilled file file' [] same = refl
same_spilled file file' (p ∷ ps) same =
    ap (λ (b : List ℕ). b ++ spilled_bytes file' ps) (same 0 p refl)
    ∙ ap (λ (b : List ℕ). bytes_of file p ++ b) (same_spilled file file' ps (λ i q there. same (suc i) q there))

pushed_at : (ps : List Piece) (q : Piece) (i : ℕ) (p : Piece) → slice_get (ps ++ q ∷ []) i ≡ Some p
    → (slice_get ps i ≡ Some p) ⊎ ((i ≡ length ps) × (q ≡ p))
pushed_at [] q zero p there = inr (refl, same_Some q p there)
pushed_at [] q (suc i) p there = absurd (none-some p there)
pushed_at (x ∷ ps) q zero p there = inl there
pushed_at (x ∷ ps) q (suc i) p there = elim (pushed_at ps q i p there) [
  | inl at ↦ inl at
  | inr new ↦ inr (ap suc new.0, new.1)
]

taken_at : (ps : List Piece) (n i : ℕ) (p : Piece) → slice_get (take n ps) i ≡ Some p → (slice_get ps i ≡ Some p) × (i < n)
taken_at ps zero i p there = absurd (none-some p there)
taken_at [] (suc n) i p there = absurd (none-some p there)
taken_at (x ∷ ps) (suc n) zero p there = (there, omega arith)
taken_at (x ∷ ps) (suc n) (suc i) p there = let rest = taken_at ps n i p there in (rest.0, omega arith)

-- a piece is as long as it says
pub piece_long : (key : ℕ) (file : List ℕ) (owners : List (Option Owner)) (owner : Owner) (p : Piece) → IsPiece key file owners owner p
    → length (bytes_of file p) ≡ p.kept
piece_long key file owners owner p is =
    part_length file (p.block * 65536) p.kept (let k = is.kept in let w = is.within in omega arith)

-- one piece more
pub one_more : (file : List ℕ) (ps : List Piece) (n : ℕ) (p : Piece) → slice_get ps n ≡ Some p
    → spilled_bytes file (take (suc n) ps) ≡ spilled_bytes file (take n ps) ++ bytes_of file p
one_more file [] n p there = absurd (none-some p there)
one_more file (x ∷ ps) zero p there = append-nil (bytes_of file x) ∙ ap (bytes_of file) (same_Some x p there)
one_more file (x ∷ ps) (suc n) p there =
    ap (λ (b : List ℕ). bytes_of file x ++ b) (one_more file ps n p there)
    ∙ sym (append_assoc (bytes_of file x) (spilled_bytes file (take n ps)) (bytes_of file p))

-- so many pieces and the others
pub split_pieces : (file : List ℕ) (ps : List Piece) (n : ℕ)
    → spilled_bytes file ps ≡ spilled_bytes file (take n ps) ++ spilled_bytes file (drop n ps)
split_pieces file ps n =
    ap (spilled_bytes file) (sym (take-append-drop n ps)) ∙ flat_map-append (bytes_of file) (take n ps) (drop n ps)

nothing : (file : List ℕ) (ps : List Piece) → 0 < length (spilled_bytes file ps) → 0 < length ps
nothing file [] some = absurd (omega arith)
nothing file (p ∷ ps) some = omega arith

pub some_piece : (file : List ℕ) (ps : List Piece) (n m : ℕ) → n ≡ length (spilled_bytes file ps) → m < n → 0 < length ps
some_piece file ps n m is more = nothing file ps (omega arith)

-- ---- in another file

pub pieces_stay : (key xid : ℕ) (file file' : List ℕ) (owners owners' : List (Option Owner)) (ps : List Piece)
    → KeepsPieces key file owners file' owners' → ArePieces key file owners xid ps
    → ArePieces key file' owners' xid ps × (spilled_bytes file' ps ≡ spilled_bytes file ps)
pieces_stay key xid file file' owners owners' ps keeps are = (
  λ i p there. (keeps (record { xid = xid; place = i }) p (are i p there)).is_piece,
  same_spilled file file' ps (λ i p there. (keeps (record { xid = xid; place = i }) p (are i p there)).same),
)

module _ (key key' : ℕ) (file file' : List ℕ) (owners owners' : List (Option Owner)) (old : Strand) (ps : List Piece) where
  abbrev rest : List ℕ
  rest = drop old.start old.tail.items

  pub strand_stays : KeepsPieces key file owners file' owners' → key' ≡ key → IsStrand key file owners old → ps ≡ old.pieces.items
      → ArePieces key' file' owners' old.xid ps × (old.spilled ≡ length (spilled_bytes file' ps))
      × (spilled_bytes file' ps ++ rest ≡ strand_bytes file old)
  strand_stays keeps same is pieces =
      let stays = pieces_stay key old.xid file file' owners owners' old.pieces.items keeps is.pieces in
      let bytes : spilled_bytes file' ps ≡ spilled_bytes file old.pieces.items = ap (spilled_bytes file') pieces ∙ stays.1 in (
        rw (same, pieces) (stays.0),
        is.spilled ∙ ap length (sym bytes),
        ap (λ (l : List ℕ). l ++ rest) bytes,
      )

  -- with one piece more, which was in memory
  pub strand_spills : (p : Piece) (n place : ℕ) → KeepsPieces key file owners file' owners' → key' ≡ key → IsStrand key file owners old
      → place ≡ length old.pieces.items → IsPiece key' file' owners' (record { xid = old.xid; place = place }) p
      → bytes_of file' p ≡ take n rest → p.kept ≡ n → ps ≡ old.pieces.items ++ p ∷ []
      → ArePieces key' file' owners' old.xid ps × (old.spilled + n ≡ length (spilled_bytes file' ps))
      × (spilled_bytes file' ps ++ drop (old.start + n) old.tail.items ≡ strand_bytes file old)
  strand_spills p n place keeps same is at piece holds kept pieces =
      let stays = pieces_stay key old.xid file file' owners owners' old.pieces.items keeps is.pieces in
      let are : ArePieces key' file' owners' old.xid (old.pieces.items ++ p ∷ []) = λ i q there.
      elim (pushed_at old.pieces.items p i q there) [
        | inl below ↦ rw same (stays.0 i q below)
        | inr last ↦ rw (last.0, ← last.1, ← at) piece
      ] in
      let was = spilled_bytes file old.pieces.items in
      let bytes : spilled_bytes file' ps ≡ was ++ bytes_of file' p =
      ap (spilled_bytes file') pieces ∙ flat_map-append (bytes_of file') old.pieces.items (p ∷ [])
      ∙ ap (λ (l : List ℕ). l ++ (bytes_of file' p ++ [])) stays.1
      ∙ ap (λ (l : List ℕ). was ++ l) (append-nil (bytes_of file' p)) in
      let long : length (bytes_of file' p) ≡ n =
      part_length file' (p.block * 65536) p.kept (let k = piece.kept in let w = piece.within in omega arith) ∙ kept in
      let sum : length (spilled_bytes file' ps) ≡ length was + length (bytes_of file' p) =
      ap length bytes ∙ length-append was (bytes_of file' p) in
      let spilled = is.spilled in
      let left : take n rest ++ drop (old.start + n) old.tail.items ≡ rest =
      ap (λ (l : List ℕ). take n rest ++ l) (sym (drop-drop n old.start old.tail.items)) ∙ take-append-drop n rest in (
        rw pieces are,
        omega arith,
        ap (λ (l : List ℕ). l ++ drop (old.start + n) old.tail.items) bytes
            ∙ append_assoc was (bytes_of file' p) (drop (old.start + n) old.tail.items)
            ∙ ap (λ (l : List ℕ). was ++ l) (ap (λ (l : List ℕ). l ++ drop (old.start + n) old.tail.items) holds ∙ left),
      )

drop_none : (k : ℕ) (l : List ℕ) → l ≡ [] → drop k l ≡ []
drop_none zero l e = e
drop_none (suc k) l e = rw e refl

-- nothing is left in memory
pub spilled_all : (file : List ℕ) (ps ps' : List Piece) (tail tail' : List ℕ) (start start' : ℕ) → ps' ≡ ps → length tail ≤ start
    → tail' ≡ []
    → spilled_bytes file ps' ++ drop start' tail' ≡ spilled_bytes file ps ++ drop start tail
spilled_all file ps ps' tail tail' start start' same over empty =
    ap (λ (l : List ℕ). spilled_bytes file ps' ++ l) (drop_none start' tail' empty ∙ sym (drop_all start tail over))
    ∙ ap (λ (l : List Piece). spilled_bytes file l ++ drop start tail) same

-- what is in memory lies behind what is kept
pub cut_tail : (file : List ℕ) (ps ps' : List Piece) (tail tail' : List ℕ) (n len : ℕ) → ps' ≡ ps
    → n ≡ length (spilled_bytes file ps) → len < n
    → take len (spilled_bytes file ps' ++ tail') ≡ take len (spilled_bytes file ps ++ tail)
cut_tail file ps ps' tail tail' n len same is less =
    ap (λ (l : List Piece). take len (spilled_bytes file l ++ tail')) same
    ∙ take-append-le len (spilled_bytes file ps) tail' (omega arith)
    ∙ sym (take-append-le len (spilled_bytes file ps) tail (omega arith))

-- ---- the last piece

last_of : (ps : List Piece) (n : ℕ) (p : Piece) → slice_get ps n ≡ Some p → length ps ≡ n + 1 → ps ≡ take n ps ++ p ∷ []
last_of [] n p there long = absurd (none-some p there)
last_of (x ∷ []) zero p there long = ap (λ (q : Piece). q ∷ []) (same_Some x p there)
last_of (x ∷ y ∷ ps) zero p there long = absurd (omega arith)
last_of (x ∷ ps) (suc n) p there long = ap (λ (l : List Piece). x ∷ l) (last_of ps n p there (omega arith))

set_last : (ps : List Piece) (n : ℕ) (q : Piece) → length ps ≡ n + 1 → set ps n q ≡ take n ps ++ q ∷ []
set_last [] n q long = absurd (omega arith)
set_last (x ∷ []) zero q long = refl
set_last (x ∷ y ∷ ps) zero q long = absurd (omega arith)
set_last (x ∷ ps) (suc n) q long = ap (λ (l : List Piece). x ∷ l) (set_last ps n q (omega arith))

spilled_front : (file : List ℕ) (front : List Piece) (p : Piece)
    → spilled_bytes file (front ++ p ∷ []) ≡ spilled_bytes file front ++ bytes_of file p
spilled_front file front p =
    flat_map-append (bytes_of file) front (p ∷ [])
    ∙ ap (λ (l : List ℕ). spilled_bytes file front ++ l) (append-nil (bytes_of file p))

take_part : (f l : List ℕ) (k m : ℕ) → m ≡ length f + k → take m (f ++ take k l) ≡ take m (f ++ l)
take_part [] l k m is = let e : m ≡ k = omega arith in rw e (take-take k k l (omega arith))
take_part (x ∷ f) l k zero is = absurd (omega arith)
take_part (x ∷ f) l k (suc m) is = ap (λ (r : List ℕ). x ∷ r) (take_part f l k m (omega arith))

module _ (key : ℕ) (file : List ℕ) (owners : List (Option Owner)) (s : Strand) (n : ℕ) (p : Piece) (is : IsStrand key file owners s)
    (empty : s.tail.items ≡ []) (there : slice_get s.pieces.items n ≡ Some p) (long : length s.pieces.items ≡ n + 1) where
  abbrev front : List Piece
  front = take n s.pieces.items

  all_bytes : spilled_bytes file s.pieces.items ≡ spilled_bytes file front ++ bytes_of file p
  all_bytes = ap (spilled_bytes file) (last_of s.pieces.items n p there long) ∙ spilled_front file front p

  pub last_piece : IsPiece key file owners (record { xid = s.xid; place = n }) p
  last_piece = is.pieces n p there

  last_length : length (bytes_of file p) ≡ p.kept
  last_length = part_length file (p.block * 65536) p.kept (let k = last_piece.kept in let w = last_piece.within in omega arith)

  lengths : s.spilled ≡ length (spilled_bytes file front) + p.kept
  lengths = is.spilled ∙ ap length all_bytes ∙ length-append (spilled_bytes file front) (bytes_of file p)
      ∙ ap (λ k. length (spilled_bytes file front) + k) last_length

  pub last_within : p.kept ≤ s.spilled
  last_within = let l = lengths in omega arith

  no_tail : drop s.start s.tail.items ≡ []
  no_tail = drop_none s.start s.tail.items empty

  bytes_are : (ps : List Piece) → spilled_bytes file ps ++ drop s.start s.tail.items ≡ spilled_bytes file ps
  bytes_are ps = ap (λ (l : List ℕ). spilled_bytes file ps ++ l) no_tail ∙ append-nil (spilled_bytes file ps)

  -- a part of it is left
  pub cut_part : (q : Piece) (len : ℕ) → len < s.spilled → (s.spilled - p.kept) < len
      → q ≡ record { block = p.block; kept = len - (s.spilled - p.kept); written = p.written; digest = p.digest }
      → ArePieces key file owners s.xid (set s.pieces.items n q) × (len ≡ length (spilled_bytes file (set s.pieces.items n q)))
      × (take len (spilled_bytes file (set s.pieces.items n q) ++ drop s.start s.tail.items) ≡ take len (strand_bytes file s))
  cut_part q len longer below made =
      let k = len - (s.spilled - p.kept) in
      let sum = lengths in
      let less : k ≤ p.kept = omega arith in
      let whole : len ≡ length (spilled_bytes file front) + k = omega arith in
      let q_bytes : bytes_of file q ≡ take k (bytes_of file p) =
      ap (bytes_of file) made ∙ sym (take-take k p.kept (drop (p.block * 65536) file) less) in
      let was = last_piece in
      let q_is : IsPiece key file owners (record { xid = s.xid; place = n }) q =
      rw made (record {
        owned = was.owned;
        some = omega arith;
        kept = let w = was.kept in omega arith;
        fits = was.fits;
        within = was.within;
        low = was.low;
        tested = was.tested;
      }) in
      let set_bytes : spilled_bytes file (set s.pieces.items n q) ≡ spilled_bytes file front ++ take k (bytes_of file p) =
      ap (spilled_bytes file) (set_last s.pieces.items n q long) ∙ spilled_front file front q
      ∙ ap (λ (l : List ℕ). spilled_bytes file front ++ l) q_bytes in
      let q_long : length (bytes_of file q) ≡ k =
      part_length file (q.block * 65536) q.kept (let w = q_is.kept in let x = q_is.within in omega arith)
      ∙ ap (λ (x : Piece). x.kept) made in (
        λ i r at. elim (cases_eq i n) [
          | inl here ↦
              let last : slice_get (set s.pieces.items n q) n ≡ Some r =
              subst (λ j. slice_get (set s.pieces.items n q) j ≡ Some r) here at in
              let same : q ≡ r = same_Some q r (sym (get_set_same s.pieces.items n q (omega arith)) ∙ last) in
              rw (here, ← same)
              q_is
          | inr other ↦ is.pieces i r (sym (get_set_other s.pieces.items n i q other) ∙ at)
        ],
        whole ∙ ap (λ m. length (spilled_bytes file front) + m) (sym q_long)
            ∙ sym (length-append (spilled_bytes file front) (bytes_of file q))
            ∙ ap (λ (l : List ℕ). length (spilled_bytes file front ++ l)) q_bytes ∙ ap length (sym set_bytes),
        ap (take len) (bytes_are (set s.pieces.items n q) ∙ set_bytes)
            ∙ take_part (spilled_bytes file front) (bytes_of file p) k len whole
            ∙ ap (take len) (sym (bytes_are s.pieces.items ∙ all_bytes)),
      )

  -- none of it is left
  pub cut_whole : (key' : ℕ) (file' : List ℕ) (owners' : List (Option Owner)) (ps : List Piece) (len : ℕ) → len ≤ s.spilled - p.kept
      → key' ≡ key → file' ≡ file → ps ≡ front
      → ((other : Owner) (q : Piece) → (other ≡ record { xid = s.xid; place = n } → ⊥) → IsPiece key file owners other q
      → IsPiece key file owners' other q)
      → ArePieces key' file' owners' s.xid ps × (s.spilled - p.kept ≡ length (spilled_bytes file' ps))
      × (take len (spilled_bytes file ps ++ drop s.start s.tail.items) ≡ take len (strand_bytes file s))
  cut_whole key' file' owners' ps len above same kept pieces others =
      let sum = lengths in
      let are : ArePieces key file owners' s.xid front = λ i q at.
      let it = taken_at s.pieces.items n i q at in
      others (record { xid = s.xid; place = i }) q
      (λ (e : ◌≡◌ {A = Owner} (record { xid = s.xid; place = i }) (record { xid = s.xid; place = n })).
      let m : i ≡ n = ap (λ (o : Owner). o.place) e in let b = it.1 in omega arith) (is.pieces i q it.0) in
      let left : s.spilled - p.kept ≡ length (spilled_bytes file front) = omega arith in (
        rw (same, kept, pieces) are,
        rw (kept, pieces) left,
        ap (take len) (bytes_are ps ∙ ap (spilled_bytes file) pieces)
            ∙ sym (take-append-le len (spilled_bytes file front) (bytes_of file p) (omega arith))
            ∙ ap (take len) (sym (bytes_are s.pieces.items ∙ all_bytes)),
      )
