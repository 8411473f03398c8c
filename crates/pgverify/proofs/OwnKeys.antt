-- Where no two neighbors of a sorted index have one key, no two of its entries have.
use Rattle.std.proofs.Common.{◌≡◌, ◌⊎◌, inl, inr, ℕ, ℤ, pos, nat_cmp, List, [], ◌∷◌, ◌++◌, refl}
use Rattle.std.proofs.Common.{sym, ap, subst, subst₂, ◌∙◌, Less, Equal}
use Rattle.std.specs.List.{AllByRecursion}
use Rattle.std.specs.Ordering.{ordering_then}
use Rattle.std.proofs.lemmas.Cmp.{nat_list_cmp_total, tied_itself}
use Rattle.sqlite_value.specs.declared.value.Value.TheVariants.{Blob}
use Rattle.sqlite_value.specs.Order.{Row, column}
use Rattle.sqlite_value.specs.Keys.{plain, entry_cmp}
use Rattle.sqlite_value.proofs.KeyLemmas.{entry_cmp-plain, then_below}
use Rattle.sqlite_value.proofs.OrderLemmas.{value_cmp-Int, value_cmp-Blob}
use Rattle.sqlite_trees.specs.Tree.{IsAscending, IsIndex}
use Rattle.sqlite_trees.proofs.ListLemmas.{all_weaker}
use Rattle.sqlite_rules.specs.Lists.{Has}
use Rattle.sqlite_rules.proofs.ListLemmas.{all_has}
use Rattle.pgrows.specs.Dump.{key_at}
use Rattle.pgrows.specs.Rows.{index_row}
use Rattle.pgrows.proofs.Ordered.{R, same_key}
use Rattle.pgrows.proofs.Seek.{nat_as_int}
use Rattle.pgverify.specs.Seen.{AreApart, HaveOwnKeys, IsFollowed, IsSameKey}

-- ---- one entry more

followed_on : (f : Row) (front : List Row) (last e : Row) → IsFollowed f (front ++ last ∷ [])
    → IsFollowed f ((front ++ last ∷ []) ++ e ∷ [])
followed_on f [] last e h = h
followed_on f (g ∷ front) last e h = h

apart_on : (front : List Row) (last e : Row) → AreApart (front ++ last ∷ []) → ¬ IsSameKey last e
    → AreApart ((front ++ last ∷ []) ++ e ∷ [])
apart_on [] last e apart other = (other, (tt, tt))
apart_on (f ∷ front) last e apart other = (followed_on f front last e apart.0, apart_on front last e apart.1 other)

pub none_yet : (last : Row) → HaveOwnKeys last []
none_yet last = record { apart = tt; ends = inl refl }

pub own_on : (last e : Row) (entries : List Row) → HaveOwnKeys last entries → ¬ IsSameKey last e → HaveOwnKeys e (entries ++ e ∷ [])
own_on last e entries own other = record {
  apart = elim own.ends [
    | inl none ↦ subst (λ es. AreApart (es ++ e ∷ [])) (sym none) (tt, tt)
    | inr it ↦ subst (λ es. AreApart (es ++ e ∷ [])) (sym it.1) (apart_on it.0 last e (subst AreApart it.1 own.apart) other)
  ];
  ends = inr (entries, refl);
}

-- ---- all entries

-- an entry of the form
pub record IsEntry (e : Row) : Type 0 where
  pub oid : ℕ
  pub ident : List ℕ
  pub id : ℤ
  pub is : e ≡ index_row oid ident id

-- of two entries the lower one has the lower key, or both have the same
lower_key : (a a' : ℕ) (b b' : List ℕ) (m m' : ℤ) → entry_cmp plain (index_row a b m) (index_row a' b' m') ≡ Less
    → (R (a ∷ b) (a' ∷ b') ≡ Less) ⊎ (◌≡◌ {A = List ℕ} (a ∷ b) (a' ∷ b'))
lower_key a a' b b' m m' h =
    let rows = sym (entry_cmp-plain (index_row a b m) (index_row a' b' m')) ∙ h in
    let oids = value_cmp-Int (pos a) (pos a') ∙ nat_as_int a a' in
    elim (then_below _ _ rows) [
      | inl less ↦ inl (ap (λ o. ordering_then o (R b b')) (sym oids ∙ less))
      | inr tied ↦
          let first : nat_cmp a a' ≡ Equal = sym oids ∙ tied.0 in
          elim (then_below _ _ tied.1) [
            | inl less ↦ inl (ap (λ o. ordering_then o (R b b')) first ∙ sym (value_cmp-Blob b b') ∙ less)
            | inr also ↦ inr (same_key (a ∷ b) (a' ∷ b') (ap (λ o. ordering_then o (R b b')) first ∙ sym (value_cmp-Blob b b') ∙ also.0))
          ]
    ]

-- the next entry has a higher key
higher : (e f : Row) → IsEntry e → IsEntry f → entry_cmp plain e f ≡ Less → ¬ IsSameKey e f → R (key_at e) (key_at f) ≡ Less
higher e f a b less other =
    let low = subst₂ (λ x y. entry_cmp plain x y ≡ Less) a.is b.is less in
    elim (lower_key a.oid b.oid a.ident b.ident a.id b.id low) [
      | inl lower ↦ ap (λ x. R (key_at x) (key_at f)) a.is ∙ ap (λ x. R (a.oid ∷ a.ident) (key_at x)) b.is ∙ lower
      | inr same ↦
          let oids : a.oid ≡ b.oid = cc in
          let idents : a.ident ≡ b.ident = cc in
          absurd (other (
            ap (λ x. column x 0) a.is ∙ ap (λ (n : ℕ). column (index_row n a.ident a.id) 0) oids ∙ sym (ap (λ x. column x 0) b.is),
            ap (λ x. column x 1) a.is ∙ ap Blob idents ∙ sym (ap (λ x. column x 1) b.is),
          ))
    ]

abbrev IsStrict : List Row → Type 0
IsStrict = IsAscending (λ a b. R (key_at a) (key_at b) ≡ Less)

all_above : (e : Row) (es : List Row) → IsEntry e → ((f : Row) → Has es f → IsEntry f) → IsIndex plain (e ∷ es) → AreApart (e ∷ es)
    → AllByRecursion (λ f. R (key_at e) (key_at f) ≡ Less) es
all_above e [] one each up apart = tt
all_above e (f ∷ es) one each up apart =
    let first = higher e f one (each f (inl refl)) up.0.0 apart.0 in (
      first,
      all_weaker _ _ (λ g h. nat_list_cmp_total.trans (key_at e) (key_at f) (key_at g) first h) es
          (all_above f es (each f (inl refl)) (λ g h. each g (inr h)) up.1 apart.1),
    )

strict : (es : List Row) → ((f : Row) → Has es f → IsEntry f) → IsIndex plain es → AreApart es → IsStrict es
strict [] each up apart = tt
strict (e ∷ es) each up apart =
    (all_above e es (each e (inl refl)) (λ g h. each g (inr h)) up apart, strict es (λ g h. each g (inr h)) up.1 apart.1)

not_below : (e f : Row) → key_at e ≡ key_at f → R (key_at e) (key_at f) ≡ Less → ⊥
not_below e f same less = let tie : R (key_at f) (key_at f) ≡ Equal = tied_itself nat_list_cmp_total (key_at f) in
    let below : R (key_at f) (key_at f) ≡ Less = ap (λ k. R k (key_at f)) (sym same) ∙ less in cc

once : (es : List Row) → IsStrict es → (x y : Row) → Has es x → Has es y → key_at x ≡ key_at y → x ≡ y
once [] up x y hx hy e = absurd hx
once (z ∷ zs) up x y (inl p) (inl q) e = p ∙ sym q
once (z ∷ zs) up x y (inl p) (inr q) e = absurd (not_below z y (sym (ap key_at p) ∙ e) (all_has _ zs y up.0 q))
once (z ∷ zs) up x y (inr p) (inl q) e = absurd (not_below z x (sym (ap key_at q) ∙ sym e) (all_has _ zs x up.0 p))
once (z ∷ zs) up x y (inr p) (inr q) e = once zs up.1 x y p q e

pub own_keys : (es : List Row) → ((f : Row) → Has es f → IsEntry f) → IsIndex plain es → AreApart es → (x y : Row) → Has es x → Has es y
    → key_at x ≡ key_at y → x ≡ y
own_keys es each up apart = once es (strict es each up apart)
