-- What is kept of a streamed transaction tells what its surviving changes come to.
use Rattle.std.proofs.Common.{◌≡◌, ◌∙◌, ◌⊎◌, ◌-◌, inl, inr, ℕ, List, [], ◌∷◌, ◌++◌, Bool, true}
use Rattle.std.proofs.Common.{false}
use Rattle.std.proofs.Common.{Option, None, Some, refl, sym, ap, subst, arith, length, slice_get}
use Rattle.std.proofs.Common.{true≢false, nat_le, ◌==◌, if◌then◌else◌, suc}
use Rattle.std.proofs.lemmas.Bool.Decides.{nat_tests}
use Rattle.pglogical.specs.declared.message.Item.{Item}
use Rattle.pgrepeats.specs.declared.digest.Change.{Change}
use Rattle.pgrepeats.specs.declared.digest.Digest.{Digest}
use Rattle.pgrepeats.specs.Digests.{no_changes, with_change, with_changes}
use Rattle.pgcompared.specs.declared.stream.Point.{Point}
use Rattle.pgcompared.specs.Commits.{Labelled, changes_of, items_of, kept_of, listed_change}
use Rattle.pgcompared.specs.Sessions.{change_in}
use Rattle.pgcompared.specs.Streams.{Streamed, added, at_label, cut, digest_before, is_of, is_under}
use Rattle.pgcompared.specs.Streams.{points_before, with_digest, with_item, with_point}

-- ---- digests

abbrev pub digest_from : Digest → List Labelled → Digest
digest_from d [] = d
digest_from d (l ∷ ls) = digest_from (with_item d (change_in l.1)) ls

pub digest_is : (d : Digest) (ls : List Labelled) → digest_from d ls ≡ with_changes d (changes_of (items_of ls))
digest_is d [] = refl
digest_is d (l ∷ ls) = go (change_in l.1) (λ before. digest_is before ls)
  where
    go : (o : Option Change) → ((before : Digest) → digest_from before ls ≡ with_changes before (changes_of (items_of ls)))
        → digest_from (with_item d o) ls ≡ with_changes d (listed_change o ++ changes_of (items_of ls))
    go None rest = rest d
    go (Some c) rest = rest (with_change d c)

pub pair_push : (d : Digest) (is : List Item) (i : Item)
    → with_changes d (changes_of (is ++ i ∷ [])) ≡ with_item (with_changes d (changes_of is)) (change_in i)
pair_push d [] i = go (change_in i)
  where
    go : (o : Option Change) → with_changes d (listed_change o ++ []) ≡ with_item d o
    go None = refl
    go (Some c) = refl
pair_push d (x ∷ xs) i = go (change_in x) (λ before. pair_push before xs i)
  where
    go : (o : Option Change)
        → ((before : Digest)
        → with_changes before (changes_of (xs ++ i ∷ [])) ≡ with_item (with_changes before (changes_of xs)) (change_in i))
        → with_changes d (listed_change o ++ changes_of (xs ++ i ∷ []))
        ≡ with_item (with_changes d (listed_change o ++ changes_of xs)) (change_in i)
    go None rest = rest d
    go (Some c) rest = rest (with_change d c)

digest_push : (d : Digest) (ls : List Labelled) (l : Labelled) → digest_from d (ls ++ l ∷ []) ≡ with_item (digest_from d ls) (change_in l.1)
digest_push d [] l = refl
digest_push d (x ∷ xs) l = digest_push (with_item d (change_in x.1)) xs l

-- ---- points

abbrev pub is_label : ℕ → Option ℕ → Bool
is_label label None = false
is_label label (Some x) = x == label

abbrev pub last_of : Option ℕ → List Labelled → Option ℕ
last_of last [] = last
last_of last (l ∷ ls) = last_of (Some l.0) ls

abbrev pub point : ℕ → Digest → Point
point label d = record { label = label; before = d }

abbrev pub begin_if : Bool → ℕ → Digest → List Point → List Point
begin_if true label d ps = ps
begin_if false label d ps = point label d ∷ ps

abbrev pub points_from : Digest → Option ℕ → List Labelled → List Point
points_from d last [] = []
points_from d last (l ∷ ls) = begin_if (is_label l.0 last) l.0 d (points_from (with_item d (change_in l.1)) (Some l.0) ls)

abbrev pub end_if : Bool → ℕ → Digest → List Point → List Point
end_if true label d ps = ps
end_if false label d ps = ps ++ point label d ∷ []

both : (b e : Bool) (x label : ℕ) (d d' : Digest) (ps : List Point)
    → begin_if b x d (end_if e label d' ps) ≡ end_if e label d' (begin_if b x d ps)
both true true x label d d' ps = refl
both true false x label d d' ps = refl
both false true x label d d' ps = refl
both false false x label d d' ps = refl

points_push : (d : Digest) (last : Option ℕ) (ls : List Labelled) (l : Labelled)
    → points_from d last (ls ++ l ∷ []) ≡ end_if (is_label l.0 (last_of last ls)) l.0 (digest_from d ls) (points_from d last ls)
points_push d last [] l = go (is_label l.0 last)
  where
    go : (b : Bool) → begin_if b l.0 d [] ≡ end_if b l.0 d []
    go true = refl
    go false = refl
points_push d last (x ∷ xs) l =
    let d' = with_item d (change_in x.1) in
    ap (begin_if (is_label x.0 last) x.0 d) (points_push d' (Some x.0) xs l)
    ∙ both (is_label x.0 last) (is_label l.0 (last_of (Some x.0) xs)) x.0 l.0 d (digest_from d' xs) (points_from d' (Some x.0) xs)

-- the last item's label
abbrev pub under : Option ℕ → ℕ → List Point → Bool
under last label [] = is_label label last
under last label (p ∷ ps) = is_under label (p ∷ ps)

under_none : (label : ℕ) (ps : List Point) → is_under label ps ≡ under None label ps
under_none label [] = refl
under_none label (p ∷ ps) = refl

same_label : (x y label : ℕ) → (y == x) ≡ true → (y == label) ≡ (x == label)
same_label x y label e = let same : y ≡ x = grind (arith, nat_tests) in ap (λ (z : ℕ). z == label) same

under_begun : (b : Bool) (x label : ℕ) (last : Option ℕ) (d : Digest) (ps : List Point) → is_label x last ≡ b
    → under last label (begin_if b x d ps) ≡ under (Some x) label ps
under_begun true x label None d ps e = absurd (true≢false (sym e))
under_begun true x label (Some y) d [] e = same_label x y label e
under_begun true x label (Some y) d (p ∷ ps) e = refl
under_begun false x label last d [] e = refl
under_begun false x label last d (p ∷ ps) e =
    let behind : length (point x d ∷ p ∷ ps) - 1 ≡ suc (length ps) = omega arith in
    let there : length ps ≡ length (p ∷ ps) - 1 = omega arith in
    ap (λ (n : ℕ). is_of label (slice_get (point x d ∷ p ∷ ps) n)) behind ∙ ap (λ (n : ℕ). is_of label (slice_get (p ∷ ps) n)) there

under_is : (d : Digest) (last : Option ℕ) (label : ℕ) (ls : List Labelled)
    → under last label (points_from d last ls) ≡ is_label label (last_of last ls)
under_is d last label [] = refl
under_is d last label (x ∷ xs) =
    let d' = with_item d (change_in x.1) in
    under_begun (is_label x.0 last) x.0 label last d (points_from d' (Some x.0) xs) refl ∙ under_is d' (Some x.0) label xs

-- ---- a rollback

apart : (x label : ℕ) (last : Option ℕ) → (x == label) ≡ true → is_label label last ≡ false → is_label x last ≡ false
apart x label None same other = refl
apart x label (Some y) same other =
    let is : x ≡ label = grind (arith, nat_tests) in subst (λ (z : ℕ). (y == z) ≡ false) (sym is) other

-- a rollback of a transaction with these items leaves these
abbrev pub Leaves : Digest → Option ℕ → ℕ → List Labelled → List Labelled → Type 0
Leaves d last label ls kept =
    (points_before label (points_from d last ls) ≡ points_from d last kept)
    × (digest_before label (digest_from d ls) (points_from d last ls) ≡ digest_from d kept)

module _ (label x : ℕ) (d all : Digest) (ps : List Point) where
  -- the label is another one
  passed : (b : Bool) (qs : List Point) (kept : Digest) → (x == label) ≡ false → points_before label ps ≡ qs
      → digest_before label all ps ≡ kept
      → (points_before label (begin_if b x d ps) ≡ begin_if b x d qs) × (digest_before label all (begin_if b x d ps) ≡ kept)
  passed true qs kept other p q = (p, q)
  passed false qs kept other p q = (
    ap (λ (b : Bool). if b then [] else point x d ∷ points_before label ps) other ∙ ap (λ (xs : List Point). point x d ∷ xs) p,
    ap (λ (b : Bool). if b then d else digest_before label all ps) other ∙ q,
  )

  -- it is the first item of this label
  first : (b : Bool) → b ≡ false → (x == label) ≡ true
      → (points_before label (begin_if b x d ps) ≡ []) × (digest_before label all (begin_if b x d ps) ≡ d)
  first b begins same =
      subst (λ (c : Bool). (points_before label (begin_if c x d ps) ≡ []) × (digest_before label all (begin_if c x d ps) ≡ d))
      (sym begins) (
        ap (λ (b : Bool). if b then [] else point x d ∷ points_before label ps) same,
        ap (λ (b : Bool). if b then d else digest_before label all ps) same,
      )

pub cut_is : (d : Digest) (last : Option ℕ) (label : ℕ) (ls : List Labelled) → is_label label last ≡ false
    → Leaves d last label ls (kept_of label ls)
cut_is d last label [] other = (refl, refl)
cut_is d last label (x ∷ xs) other =
    go (x.0 == label) refl (λ differs. cut_is (with_item d (change_in x.1)) (Some x.0) label xs differs)
  where
    go : (b : Bool) → (x.0 == label) ≡ b
        → ((x.0 == label) ≡ false → Leaves (with_item d (change_in x.1)) (Some x.0) label xs (kept_of label xs))
        → Leaves d last label (x ∷ xs) (if b then [] else x ∷ kept_of label xs)
    go true same rest =
        let d' = with_item d (change_in x.1) in
        first label x.0 d (digest_from d' xs) (points_from d' (Some x.0) xs) (is_label x.0 last) (apart x.0 label last same other) same
    go false differs rest =
        let d' = with_item d (change_in x.1) in
        passed label x.0 d (digest_from d' xs) (points_from d' (Some x.0) xs) (is_label x.0 last)
        (points_from d' (Some x.0) (kept_of label xs)) (digest_from d' (kept_of label xs)) differs (rest differs).0 (rest differs).1

-- ---- what is kept of a transaction, and its items

-- it had too many points, or it is known what its items come to
abbrev pub Tracks : Streamed → List Labelled → Type 0
Tracks s ls =
    (s.over ≡ true)
    ⊎ ((s.over ≡ false) × (s.digest ≡ digest_from no_changes ls) × (s.points ≡ points_from no_changes None ls))

pub tracks_none : (top : ℕ) → Tracks (record { top = top; digest = no_changes; points = []; over = false }) []
tracks_none top = inr (refl, refl, refl)

module _ (limit label : ℕ) (i : Item) (s : Streamed) (ls : List Labelled) where
  abbrev l : Labelled
  l = (label, i)

  full : (b : Bool) → s.digest ≡ digest_from no_changes ls → s.points ≡ points_from no_changes None ls → s.over ≡ false
      → is_label label (last_of None ls) ≡ false
      → Tracks (with_digest (change_in i) (if b then record s { points = []; over = true }
      else record s { points = s.points ++ point label s.digest ∷ [] })) (ls ++ (label, i) ∷ [])
  full true digest points over other = inl refl
  full false digest points over other =
      inr (
        over,
        ap (λ (d : Digest). with_item d (change_in i)) digest ∙ sym (digest_push no_changes ls l),
        ap (λ (d : Digest). s.points ++ point label d ∷ []) digest
            ∙ ap (λ (ps : List Point). ps ++ point label (digest_from no_changes ls) ∷ []) points
            ∙ ap (λ (b : Bool). end_if b label (digest_from no_changes ls) (points_from no_changes None ls)) (sym other)
            ∙ sym (points_push no_changes None ls l),
      )

  labelled : (b : Bool) → is_label label (last_of None ls) ≡ b → s.over ≡ false → s.digest ≡ digest_from no_changes ls
      → s.points ≡ points_from no_changes None ls
      → Tracks (with_digest (change_in i) (if b then s else with_point limit label s)) (ls ++ (label, i) ∷ [])
  labelled true is over digest points =
      inr (
        over,
        ap (λ (d : Digest). with_item d (change_in i)) digest ∙ sym (digest_push no_changes ls l),
        points ∙ ap (λ (b : Bool). end_if b label (digest_from no_changes ls) (points_from no_changes None ls)) (sym is)
            ∙ sym (points_push no_changes None ls l),
      )
  labelled false is over digest points = full (nat_le limit (length s.points)) digest points over is

  pub added_is : Tracks s ls → Tracks (added limit label (change_in i) s) (ls ++ (label, i) ∷ [])
  added_is (inl over) =
      inl (ap (λ (b : Bool). (if b then s else with_digest (change_in i) (at_label limit label s)).over) over ∙ over)
  added_is (inr (over, digest, points)) =
      let under_is' : is_under label s.points ≡ is_label label (last_of None ls) =
      ap (is_under label) points ∙ under_none label (points_from no_changes None ls) ∙ under_is no_changes None label ls in
      subst (λ (x : Streamed). Tracks x (ls ++ (label, i) ∷ []))
      (sym (ap (λ (b : Bool). if b then s else with_digest (change_in i) (at_label limit label s)) over
      ∙ ap (λ (b : Bool). with_digest (change_in i) (if b then s else with_point limit label s)) under_is'))
      (labelled (is_label label (last_of None ls)) refl over digest points)

pub cut_tracks : (label : ℕ) (s : Streamed) (ls : List Labelled) → Tracks s ls → Tracks (cut label s) (kept_of label ls)
cut_tracks label s ls (inl over) = inl over
cut_tracks label s ls (inr (over, digest, points)) =
    let is = cut_is no_changes None label ls refl in
    inr (
      over,
      ap (λ (d : Digest). digest_before label d s.points) digest
          ∙ ap (λ (ps : List Point). digest_before label (digest_from no_changes ls) ps) points ∙ is.1,
      ap (points_before label) points ∙ is.0,
    )

-- ---- the xid stays

pub added_top : (limit label : ℕ) (change : Option Change) (s : Streamed) → (added limit label change s).top ≡ s.top
added_top limit label change s = by_over s.over (is_under label s.points) (nat_le limit (length s.points))
  where
    by_over : (o u b : Bool) → (if o then s else with_digest change (if u then s else if b then record s { points = []; over = true }
        else record s { points = s.points ++ record { label = label; before = s.digest } ∷ [] })).top ≡ s.top
    by_over true u b = refl
    by_over false true b = refl
    by_over false false true = refl
    by_over false false false = refl
