-- Rows that are parked under another OID, and the tables without them.
use Rattle.std.proofs.Common.{◌≡◌, ◌≢◌, ℕ, List, [], ◌∷◌, Bool, true, false, cond, not, Option}
use Rattle.std.proofs.Common.{Some, None, IfSome, refl, sym, ap, subst, ◌∙◌, inl, inr, true≢false}
use Rattle.std.proofs.Common.{eqb-true, eq-eqb, arith}
use Rattle.std.specs.Prelude.{◌==◌, ◌&&◌}
use Rattle.std.specs.Ordering.{nat_cmp, eq_by_cmp, is_eq, is_lt}
use Rattle.std.specs.Cmp.Lexicographic.{slice_cmp, nat_list_cmp_total}
use Rattle.std.specs.FinMap as map
use Rattle.std.specs.FinMap.{FinMap, get-insert, get-remove, get-retain_keys, same_map}
use Rattle.std.specs.FinMap.{nat_cmp-IsAntisymmetric, slice_cmp-IsAntisymmetric}
use Rattle.std.proofs.lemmas.Bool.{cases_Bool}
use Rattle.sqlite.specs.Store.{Ghosts}
use Rattle.sqlite.specs.State.{HasCleanDisk}
use Rattle.pgtables.specs.Kept as stored
use Rattle.pgtables.specs.Kept.{is_of, with_row, without_row, without_rows}
use Rattle.pgtables.specs.Shown.{FitsCopies}
use Rattle.pgrows.specs.Rows.{Makes, state, tables_of}
use Rattle.pgrows.specs.Walk.{EachFits, EndsAt, HasNoRow, IsNextRow}
use Rattle.pgapply.proofs.KeepsForm.{same_number, same_place}
use Rattle.pgencoded.specs.Acts.{Goes}
use Rattle.pgencoded.proofs.Going.{goes_none, goes_then}
use Rattle.pgencoded.proofs.SpelledRows.{key_parts, same_key, tied_number}
use Rattle.pgreshaping.specs.Parks.{HasParked, IsAtOne, IsParking, ParksAll, ParksOn, StaysBeside}
use Rattle.pgreshaping.specs.Parks.{StaysOn, parked_row}

abbrev Kept : Type 0
Kept = FinMap (slice_cmp nat_cmp) stored.Copies

abbrev other : ℕ → List ℕ → Bool
other o q = not (is_of o q)

abbrev with_rows : stored.Tables → Kept → stored.Tables
with_rows t m = record t { rows = m }

alike : (m n : Kept) → ((q : List ℕ) → map.get m q ≡ map.get n q) → m ≡ n
alike = same_map nat_list_cmp_total (slice_cmp-IsAntisymmetric nat_cmp-IsAntisymmetric)

-- ---- what is at a key

pub left_at : (o : ℕ) (t : stored.Tables) (q : List ℕ) → map.get (without_rows o t).rows q ≡ cond (other o q) (map.get t.rows q) None
left_at o t q = get-retain_keys t.rows (other o) q (λ x tie. ap (other o) (sym (same_place q x (ap is_eq tie))))

own_key : (o : ℕ) (p : List ℕ) → other o (o ∷ p) ≡ false
own_key o p = ap not (eq-eqb o o refl)

other_key : (o n : ℕ) (p : List ℕ) → o ≢ n → other o (n ∷ p) ≡ true
other_key o n p apart = elim (cases_Bool (o == n)) [
  | inl same ↦ absurd (apart (eqb-true o n same))
  | inr is ↦ ap not is
]

-- a row of another relation stays
pub seen_at : (o n : ℕ) (t : stored.Tables) → o ≢ n → (p : List ℕ) → map.get (without_rows o t).rows (n ∷ p) ≡ map.get t.rows (n ∷ p)
seen_at o n t apart p = left_at o t (n ∷ p) ∙ ap (λ b. cond b (map.get t.rows (n ∷ p)) None) (other_key o n p apart)

pub at_own : (o : ℕ) (i p : List ℕ) → eq_by_cmp (slice_cmp nat_cmp) (o ∷ p) (o ∷ i) ≡ same_key p i
at_own o i p = key_parts o o p i ∙ ap (λ b. b && same_key p i) (tied_number o)

not_tied : (n o : ℕ) → n ≢ o → eq_by_cmp nat_cmp n o ≡ false
not_tied n o apart = elim (cases_Bool (eq_by_cmp nat_cmp n o)) [
  | inl tie ↦ absurd (apart (same_number n o tie))
  | inr is ↦ is
]

at_other : (n o : ℕ) (i p : List ℕ) → n ≢ o → eq_by_cmp (slice_cmp nat_cmp) (n ∷ p) (o ∷ i) ≡ false
at_other n o i p apart = key_parts n o p i ∙ ap (λ b. b && same_key p i) (not_tied n o apart)

-- ---- a row comes or goes

skipped : (b p : Bool) (s x : Option stored.Copies) → (b ≡ true → p ≡ false) → cond p (cond b s x) None ≡ cond p x None
skipped true true s x h = absurd (true≢false (h refl))
skipped true false s x h = refl
skipped false p s x h = refl

swapped : (b p : Bool) (s x : Option stored.Copies) → (b ≡ true → p ≡ true) → cond p (cond b s x) None ≡ cond b s (cond p x None)
swapped true true s x h = refl
swapped true false s x h = absurd (true≢false (sym (h refl)))
swapped false p s x h = refl

module _ (o : ℕ) (p : List ℕ) (k : stored.Copies) (t : stored.Tables) where
  -- one of the rows that aren't seen
  put_own : without_rows o (with_row o p k t) ≡ without_rows o t
  put_own = ap (with_rows t) (alike _ _ (λ q.
      left_at o (with_row o p k t) q
      ∙ ap (λ x. cond (other o q) x None) (get-insert nat_list_cmp_total t.rows (o ∷ p) k q)
      ∙ skipped (eq_by_cmp (slice_cmp nat_cmp) q (o ∷ p)) (other o q) (Some k) (map.get t.rows q)
      (λ tie. ap (other o) (same_place q (o ∷ p) tie) ∙ own_key o p)
      ∙ sym (left_at o t q)))

  pub gone_own : without_rows o (without_row o p t) ≡ without_rows o t
  gone_own = ap (with_rows t) (alike _ _ (λ q.
      left_at o (without_row o p t) q
      ∙ ap (λ x. cond (other o q) x None) (get-remove nat_list_cmp_total t.rows (o ∷ p) q)
      ∙ skipped (eq_by_cmp (slice_cmp nat_cmp) q (o ∷ p)) (other o q) None (map.get t.rows q)
      (λ tie. ap (other o) (same_place q (o ∷ p) tie) ∙ own_key o p)
      ∙ sym (left_at o t q)))

  -- a row of another relation
  pub seen_put : (n : ℕ) → n ≢ o → without_rows n (with_row o p k t) ≡ with_row o p k (without_rows n t)
  seen_put n apart = ap (with_rows t) (alike _ _ (λ q.
      left_at n (with_row o p k t) q
      ∙ ap (λ x. cond (other n q) x None) (get-insert nat_list_cmp_total t.rows (o ∷ p) k q)
      ∙ swapped (eq_by_cmp (slice_cmp nat_cmp) q (o ∷ p)) (other n q) (Some k) (map.get t.rows q)
      (λ tie. ap (other n) (same_place q (o ∷ p) tie) ∙ other_key n o p apart)
      ∙ ap (cond (eq_by_cmp (slice_cmp nat_cmp) q (o ∷ p)) (Some k)) (sym (left_at n t q))
      ∙ sym (get-insert nat_list_cmp_total (without_rows n t).rows (o ∷ p) k q)))

  pub beside_put : (next : stored.Tables) → next ≡ with_row o p k t → StaysBeside o t next
  beside_put next is n apart place =
      ap (λ (u : stored.Tables). map.get u.rows (n ∷ place)) is
      ∙ get-insert nat_list_cmp_total t.rows (o ∷ p) k (n ∷ place)
      ∙ ap (λ b. cond b (Some k) (map.get t.rows (n ∷ place))) (at_other n o p place apart)

-- where the relation has no row, none goes
pub nothing_goes : (o : ℕ) (t : stored.Tables) → HasNoRow o t.rows → without_rows o t ≡ t
nothing_goes o t none = ap (with_rows t) (alike _ _ (λ q. left_at o t q ∙ go q))
  where
    go : (q : List ℕ) → cond (other o q) (map.get t.rows q) None ≡ map.get t.rows q
    go [] = refl
    go (n ∷ p) = elim (cases_Bool (o == n)) [
      | inl same ↦ ap (λ b. cond (not b) (map.get t.rows (n ∷ p)) None) same
          ∙ sym (ap (λ m. map.get t.rows (m ∷ p)) (sym (eqb-true o n same)) ∙ none p)
      | inr apart ↦ ap (λ b. cond (not b) (map.get t.rows (n ∷ p)) None) apart
    ]

pub not_below_none : (p : List ℕ) → is_lt (slice_cmp nat_cmp p []) ≡ false
not_below_none [] = refl
not_below_none (x ∷ p) = refl

pub ends_bare : (o : ℕ) (rows : Kept) → EndsAt o [] rows → HasNoRow o rows
ends_bare o rows ends p = ends p (not_below_none p)

-- ---- rows are parked

module _ (oid park : ℕ) (apart : park ≢ oid) (t : stored.Tables) where
  parks_none : HasNoRow park t.rows → IsParking oid park t t
  parks_none none = record {
    each = λ place. inl (refl, none place);
    rest = nothing_goes park (without_rows oid t)
        (λ p. seen_at oid park t (λ e. apart (sym e)) p ∙ none p);
  }

  module _ (u : stored.Tables) (h : IsParking oid park t u) where
    parks_all : EndsAt oid [] u.rows → HasParked oid park t u
    parks_all ends =
        let bare = ends_bare oid u.rows ends in
        record { there = λ p. go p (bare p) (h.each p); rest = ap (without_rows park) (sym (nothing_goes oid u bare)) ∙ h.rest }
      where
        go : (p : List ℕ) → map.get u.rows (oid ∷ p) ≡ None → IsAtOne oid park t u p
            → map.get u.rows (park ∷ p) ≡ map.get t.rows (oid ∷ p)
        go p gone (inl stands) = stands.1 ∙ sym gone ∙ stands.0
        go p gone (inr parked) = parked.1

    parking_fits : EachFits oid t → EachFits oid u
    parking_fits fit p = go (h.each p)
      where
        go : IsAtOne oid park t u p → IfSome (map.get u.rows (oid ∷ p)) FitsCopies
        go (inl stands) = subst (λ x. IfSome x FitsCopies) (sym stands.0) (fit p)
        go (inr parked) = subst (λ x. IfSome x FitsCopies) (sym parked.0) tt

    module _ (ident : List ℕ) (k : stored.Copies) (there : map.get u.rows (oid ∷ ident) ≡ Some k) where
      abbrev next : stored.Tables
      next = parked_row oid park ident k u

      next_at : (q : List ℕ) → map.get next.rows q
          ≡ cond (eq_by_cmp (slice_cmp nat_cmp) q (oid ∷ ident)) None
          (cond (eq_by_cmp (slice_cmp nat_cmp) q (park ∷ ident)) (Some k) (map.get u.rows q))
      next_at q = get-remove nat_list_cmp_total (with_row park ident k u).rows (oid ∷ ident) q
          ∙ ap (cond (eq_by_cmp (slice_cmp nat_cmp) q (oid ∷ ident)) None) (get-insert nat_list_cmp_total u.rows (park ∷ ident) k q)

      own_at : (p : List ℕ) → map.get next.rows (oid ∷ p) ≡ cond (same_key p ident) None (map.get u.rows (oid ∷ p))
      own_at p = next_at (oid ∷ p)
          ∙ (λ i. cond (at_own oid ident p i) None
          (cond (at_other oid park ident p (λ e. apart (sym e)) i) (Some k) (map.get u.rows (oid ∷ p))))

      park_at : (p : List ℕ) → map.get next.rows (park ∷ p) ≡ cond (same_key p ident) (Some k) (map.get u.rows (park ∷ p))
      park_at p = next_at (park ∷ p)
          ∙ (λ i. cond (at_other park oid ident p apart i) None
          (cond (at_own park ident p i) (Some k) (map.get u.rows (park ∷ p))))

      was_at : IsAtOne oid park t u ident → map.get t.rows (oid ∷ ident) ≡ Some k
      was_at (inl stands) = sym stands.0 ∙ there
      was_at (inr parked) = absurd (let no = sym parked.0 ∙ there in cc)

      moved_at : (p : List ℕ) (b : Bool) → same_key p ident ≡ b → IsAtOne oid park t u p → IsAtOne oid park t next p
      moved_at p true tie one =
          let is : p ≡ ident = same_place p ident tie in
          inr (
            own_at p ∙ ap (λ b. cond b None (map.get u.rows (oid ∷ p))) tie,
            park_at p ∙ ap (λ b. cond b (Some k) (map.get u.rows (park ∷ p))) tie
                ∙ sym (was_at (h.each ident)) ∙ ap (λ x. map.get t.rows (oid ∷ x)) (sym is),
          )
      moved_at p false tie (inl stands) = inl (
        own_at p ∙ ap (λ b. cond b None (map.get u.rows (oid ∷ p))) tie ∙ stands.0,
        park_at p ∙ ap (λ b. cond b (Some k) (map.get u.rows (park ∷ p))) tie ∙ stands.1,
      )
      moved_at p false tie (inr parked) = inr (
        own_at p ∙ ap (λ b. cond b None (map.get u.rows (oid ∷ p))) tie ∙ parked.0,
        park_at p ∙ ap (λ b. cond b (Some k) (map.get u.rows (park ∷ p))) tie ∙ parked.1,
      )

      parks_then : IsParking oid park t next
      parks_then = record {
        each = λ p. moved_at p (same_key p ident) refl (h.each p);
        rest = ap (without_rows park) (gone_own oid ident k (with_row park ident k u) ∙ seen_put park ident k u oid (λ e. apart (sym e)))
            ∙ put_own park ident k (without_rows oid u) ∙ h.rest;
      }

-- ---- a loop over them

module _ {S : Type 0} (g : Ghosts S) (a : S) (oid park : ℕ) (apart : park ≢ oid) where
  pub parks_on_none : ParksOn g a a oid park
  parks_on_none = record { goes = goes_none g a; made = λ clean free. parks_none oid park apart (tables_of g a) free }

  module _ (b : S) (so_far : ParksOn g a b oid park) where
    pub parks_on : (c d : S) (ident : List ℕ) (k : stored.Copies)
        → (HasCleanDisk (state g c) → IsNextRow oid [] (tables_of g b).rows ident k × Makes g (λ t. t) b c) → Goes g b c
        → (HasCleanDisk (state g d) → Makes g (parked_row oid park ident k) c d) → Goes g c d → ParksOn g a d oid park
    parks_on c d ident k read goes_read one goes = record {
      goes = goes_then g a c d (goes_then g a b c so_far.goes goes_read.keeps goes_read.survives) goes.keeps goes.survives;
      made = λ clean free.
          let mid : HasCleanDisk (state g c) = omega (arith, goes.survives.clean) in
          let was : HasCleanDisk (state g b) = omega (arith, goes.survives.clean, goes_read.survives.clean) in
          let met = read mid in
          subst (IsParking oid park (tables_of g a)) (sym ((one clean).made ∙ ap (parked_row oid park ident k) met.1.made))
          (parks_then oid park apart (tables_of g a) (tables_of g b) (so_far.made was free) ident k met.0.there);
    }

    pub parks_end : (c : S) → (HasCleanDisk (state g c) → EndsAt oid [] (tables_of g b).rows × Makes g (λ t. t) b c) → Goes g b c
        → HasCleanDisk (state g c) → ParksAll g a c oid park
    parks_end c read goes_read clean =
        let was : HasCleanDisk (state g b) = omega (arith, goes_read.survives.clean) in
        let met = read clean in (
          record { was_open = (so_far.goes.keeps was).commit.was_open met.1.was_open; is_open = met.1.is_open },
          λ free. subst (HasParked oid park (tables_of g a)) (sym met.1.made)
              (parks_all oid park apart (tables_of g a) (tables_of g b) (so_far.made was free) met.0),
        )

    pub parks_fit : HasCleanDisk (state g b) → HasNoRow park (tables_of g a).rows → EachFits oid (tables_of g a)
        → EachFits oid (tables_of g b)
    parks_fit was free fit = parking_fits oid park apart (tables_of g a) (tables_of g b) (so_far.made was free) fit

-- ---- rows are only read

module _ {S : Type 0} (g : Ghosts S) (a : S) where
  pub stays_none : StaysOn g a a
  stays_none = record { goes = goes_none g a; same = λ clean. refl }

  module _ (b c : S) (so_far : StaysOn g a b) (goes : Goes g b c) (read : HasCleanDisk (state g c) → Makes g (λ t. t) b c) where
    pub stays_on : StaysOn g a c
    stays_on = record {
      goes = goes_then g a b c so_far.goes goes.keeps goes.survives;
      same = λ clean.
          let was : HasCleanDisk (state g b) = omega (arith, goes.survives.clean) in (read clean).made ∙ so_far.same was;
    }

    pub stays_open : HasCleanDisk (state g c) → Makes g (λ t. t) a c
    stays_open clean =
        let was : HasCleanDisk (state g b) = omega (arith, goes.survives.clean) in
        record {
          was_open = (so_far.goes.keeps was).commit.was_open (read clean).was_open;
          is_open = (read clean).is_open;
          made = (read clean).made ∙ so_far.same was;
        }
