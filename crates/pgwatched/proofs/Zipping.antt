-- A part of a streamed transaction as works, one for each xid that may go on before it.
use Rattle.std.proofs.Common.{◌≡◌, ℕ, List, [], ◌∷◌, ◌++◌, true, false, cond, eqb, map}
use Rattle.std.proofs.Common.{Some, None, refl, sym, ap, subst, ◌∙◌, arith, append_assoc}
use Rattle.std.specs.Prelude.{◌+◌}
use Rattle.std.specs.List.{AllByRecursion}
use Rattle.pglogical.specs.Named.{named}
use Rattle.pglogical.specs.declared.message.RelationDef.{RelationDef}
use Rattle.pglogical.specs.declared.message.Item.{Item}
use Rattle.pglogical.specs.declared.message.Item.TheVariants as item
use Rattle.pgapply.specs.Apply.{Change as RowChange}
use Rattle.pgwatch.specs.Nesting.{path_to}
use Rattle.pgsub_core.specs.Server.Work.{Work, Nothing, Changed, Subtransaction, RolledBack}
use Rattle.pgsub_core.specs.Server.Work.{changes_of, surviving_changes, IsWork, xids_of, is_among}
use Rattle.pgsub_core.specs.Server.Streamed.{StreamedItem, Change, IsStreamOf, subxid_of}
use Rattle.pgsub_core.specs.Server.Streamed.{EachIsAborted}
use Rattle.pgwatched.proofs.Times.{times, one_if, times-append}

-- The first of these xids has a work whose items come first, and so on.
abbrev pub Zipped : List ℕ → List StreamedItem → List Item → List RowChange → List ℕ → Type 0
Zipped [] s sv cs xs = (s ≡ []) × (sv ≡ []) × (cs ≡ []) × (xs ≡ [])
Zipped (l ∷ path) s sv cs xs =
    (w : Work) × (s₁ s₂ : List StreamedItem) × (sv₁ sv₂ : List Item) × (cs₂ : List RowChange) × (xs₂ : List ℕ)
    × (s ≡ s₁ ++ s₂) × (sv ≡ sv₁ ++ sv₂) × (cs ≡ surviving_changes w ++ cs₂) × (xs ≡ l ∷ (xids_of w ++ xs₂))
    × IsStreamOf w l s₁ sv₁ × IsWork w × Zipped path s₂ sv₂ cs₂ xs₂

-- the same with xids that stand there as often
abbrev pub Rezipped : List ℕ → List StreamedItem → List Item → List RowChange → List ℕ → Type 0
Rezipped path s sv cs xs = (xs' : List ℕ) × Zipped path s sv cs xs' × ((x : ℕ) → times x xs' ≡ times x xs)

assoc₃ : {A : Type 0} (s s₁ s₂ t₁ t₂ : List A) → s ≡ s₁ ++ s₂ → s₂ ≡ t₁ ++ t₂ → s ≡ (s₁ ++ t₁) ++ t₂
assoc₃ s s₁ s₂ t₁ t₂ e f = e ∙ ap (λ r. s₁ ++ r) f ∙ sym (append_assoc s₁ t₁ t₂)

moved : (x l m : ℕ) (a b c xs xs₂ : List ℕ) → xs ≡ l ∷ (a ++ xs₂) → xs₂ ≡ m ∷ (b ++ c)
    → times x (m ∷ ((l ∷ (a ++ b)) ++ c)) ≡ times x xs
moved x l m a b c xs xs₂ e f =
    let ml = one_if (eqb m x) in
    let ll = one_if (eqb l x) in
    count ml ll (times x a) (times x b) (times x c) (times x ((a ++ b) ++ c)) (times x (a ++ b)) (times x (a ++ xs₂)) (times x xs₂)
    (times x xs)
    (times x (b ++ c)) (times-append x (a ++ b) c) (times-append x a b) (times-append x a xs₂) (times-append x b c)
    (ap (times x) e) (ap (times x) f)
  where
    count : (m l a b c abc ab axs xs₂ xs bc : ℕ) → abc ≡ ab + c → ab ≡ a + b → axs ≡ a + xs₂ → bc ≡ b + c → xs ≡ l + axs → xs₂ ≡ m + bc
        → m + (l + abc) ≡ xs
    count m l a b c abc ab axs xs₂ xs bc e₁ e₂ e₃ e₄ e₅ e₆ = omega arith

-- the first xid has come to its front, and is a subtransaction of the second
left_one : (l m : ℕ) (path : List ℕ) (s : List StreamedItem) (sv : List Item) (cs : List RowChange) (xs : List ℕ)
    → Zipped (l ∷ m ∷ path) s sv cs xs → Rezipped (m ∷ path) s sv cs xs
left_one l m path s sv cs xs z =
    let y = z.13 in
    let w = z.0 in
    let v = y.0 in (
      m ∷ ((l ∷ (xids_of w ++ xids_of v)) ++ y.6),
      (
        Subtransaction l w v,
        z.1 ++ y.1,
        y.2,
        z.3 ++ y.3,
        y.4,
        y.5,
        y.6,
        assoc₃ s z.1 z.2 y.1 y.2 z.7 y.7,
        assoc₃ sv z.3 z.4 y.3 y.4 z.8 y.8,
        assoc₃ cs (surviving_changes w) z.5 (surviving_changes v) y.5 z.9 y.9,
        refl,
        ([], z.1, y.1, z.3, y.3, refl, refl, z.11, y.11),
        (z.12, y.12),
        y.13,
      ),
      λ x. moved x l m (xids_of w) (xids_of v) y.6 xs z.6 z.10 y.10,
    )

none_left : (A : Type 0) (p : List ℕ) → None ≡ Some p → A
none_left A p e = absurd (cc)

some_left : (p q : List ℕ) → Some p ≡ Some q → p ≡ q
some_left p q e = cc

-- up to an xid
pub left_to : (l : ℕ) (path path' : List ℕ) (s : List StreamedItem) (sv : List Item) (cs : List RowChange) (xs : List ℕ)
    → path_to l path ≡ Some path' → Zipped path s sv cs xs → Rezipped path' s sv cs xs
left_to l [] path' s sv cs xs e z = none_left _ path' e
left_to l (x ∷ []) path' s sv cs xs e z =
    elim (eqb x l) as (λ b. cond b (Some (x ∷ [])) None ≡ Some path' → Rezipped path' s sv cs xs) [
      | true ↦ λ e. subst (λ p. Rezipped p s sv cs xs) (some_left (x ∷ []) path' e) (xs, z, λ y. refl)
      | false ↦ λ e. none_left _ path' e
    ] e
left_to l (x ∷ m ∷ path) path' s sv cs xs e z =
    elim (eqb x l) as (λ b. cond b (Some (x ∷ m ∷ path)) (path_to l (m ∷ path)) ≡ Some path' → Rezipped path' s sv cs xs) [
      | true ↦ λ e. subst (λ p. Rezipped p s sv cs xs) (some_left (x ∷ m ∷ path) path' e) (xs, z, λ y. refl)
      | false ↦ λ e.
          let y = left_one x m path s sv cs xs z in
          let r = left_to l (m ∷ path) path' s sv cs y.0 e y.1 in
          (r.0, r.1, λ x. r.2 x ∙ y.2 x)
    ] e

-- another xid begins
pub begun : (l : ℕ) (path : List ℕ) (s : List StreamedItem) (sv : List Item) (cs : List RowChange) (xs : List ℕ)
    → Zipped path s sv cs xs → Zipped (l ∷ path) s sv cs (l ∷ xs)
begun l path s sv cs xs z = (Nothing, [], s, [], sv, cs, xs, refl, refl, refl, refl, ([], refl, refl), tt, z)

-- ---- what comes before the first work

-- xids that are rolled back
abbrev pub IsUndone : List ℕ → List StreamedItem → Type 0
IsUndone gone dead = AllByRecursion (λ l. is_among gone (subxid_of l) ≡ true) dead × EachIsAborted dead

none_undone : (dead : List StreamedItem) → IsUndone [] dead → dead ≡ []
none_undone [] h = refl
none_undone (e ∷ dead) h = absurd (let no : false ≡ true = h.0.0 in cc)

undone_moved : (x l : ℕ) (gone a c xs : List ℕ) → xs ≡ l ∷ (a ++ c) → times x (l ∷ ((gone ++ a) ++ c)) ≡ times x gone + times x xs
undone_moved x l gone a c xs e =
    count (one_if (eqb l x)) (times x gone) (times x a) (times x c) (times x ((gone ++ a) ++ c)) (times x (gone ++ a)) (times x (a ++ c))
    (times x xs) (times-append x (gone ++ a) c) (times-append x gone a) (times-append x a c) (ap (times x) e)
  where
    count : (l g a c gac ga ac xs : ℕ) → gac ≡ ga + c → ga ≡ g + a → ac ≡ a + c → xs ≡ l + ac → l + gac ≡ g + xs
    count l g a c gac ga ac xs e₁ e₂ e₃ e₄ = omega arith

abbrev pub Undone : List ℕ → List ℕ → List StreamedItem → List Item → List RowChange → List ℕ → Type 0
Undone gone path s sv cs xs = (xs' : List ℕ) × Zipped path s sv cs xs' × ((x : ℕ) → times x xs' ≡ times x gone + times x xs)

nothing_more : (a b : ℕ) → a ≡ b → a ≡ 0 + b
nothing_more a b e = omega arith

pub rolled_back : (gone : List ℕ) (dead : List StreamedItem) (l : ℕ) (path : List ℕ) (s : List StreamedItem) (sv : List Item)
    (cs : List RowChange) (xs : List ℕ) → IsUndone gone dead → Zipped (l ∷ path) s sv cs xs
    → Undone gone (l ∷ path) (dead ++ s) sv cs xs
rolled_back [] dead l path s sv cs xs is z =
    (xs, subst (λ d. Zipped (l ∷ path) (d ++ s) sv cs xs) (sym (none_undone dead is)) z, λ x. nothing_more (times x xs) (times x xs) refl)
rolled_back (r ∷ inside) dead l path s sv cs xs is z = (
  l ∷ ((r ∷ (inside ++ xids_of z.0)) ++ z.6),
  (
    RolledBack r inside z.0,
    dead ++ z.1,
    z.2,
    z.3,
    z.4,
    z.5,
    z.6,
    ap (λ t. dead ++ t) z.7 ∙ sym (append_assoc dead z.1 z.2),
    z.8,
    z.9,
    refl,
    ([], dead, z.1, z.3, refl, refl, record { named = is.0; aborted = is.1 }, z.11),
    z.12,
    z.13,
  ),
  λ x. undone_moved x l (r ∷ inside) (xids_of z.0) z.6 xs z.10,
)

-- a Relation message
described_too : (def : RelationDef) (w : Work) (l : ℕ) (s : List StreamedItem) (sv : List Item) → IsStreamOf w l s sv
    → IsStreamOf w l (Change l (item.Relation def) ∷ s) (item.Relation def ∷ sv)
described_too def Nothing l s sv h = (
  def ∷ h.0,
  ap (λ t. Change l (item.Relation def) ∷ t) h.1,
  ap (λ t. item.Relation def ∷ t) h.2,
)
described_too def (Changed change ds rest) l s sv h = (
  def ∷ h.0,
  h.1,
  h.2,
  ap (λ t. Change l (item.Relation def) ∷ t) h.3,
  ap (λ t. item.Relation def ∷ t) h.4,
  h.5,
)
described_too def (Subtransaction xid inner rest) l s sv h = (
  def ∷ h.0,
  h.1,
  h.2,
  h.3,
  h.4,
  ap (λ t. Change l (item.Relation def) ∷ t) h.5,
  ap (λ t. item.Relation def ∷ t) h.6,
  h.7,
  h.8,
)
described_too def (RolledBack xid inside rest) l s sv h = (
  def ∷ h.0,
  h.1,
  h.2,
  h.3,
  ap (λ t. Change l (item.Relation def) ∷ t) h.4,
  ap (λ t. item.Relation def ∷ t) h.5,
  h.6,
  h.7,
)

module _ (l : ℕ) (path : List ℕ) (s : List StreamedItem) (sv : List Item) (cs : List RowChange) (xs : List ℕ)
    (z : Zipped (l ∷ path) s sv cs xs) where
  relation_first : (def : RelationDef) → Zipped (l ∷ path) (Change l (item.Relation def) ∷ s) (item.Relation def ∷ sv) cs xs
  relation_first def = (
    z.0,
    Change l (item.Relation def) ∷ z.1,
    z.2,
    item.Relation def ∷ z.3,
    z.4,
    z.5,
    z.6,
    ap (λ t. Change l (item.Relation def) ∷ t) z.7,
    ap (λ t. item.Relation def ∷ t) z.8,
    z.9,
    z.10,
    described_too def z.0 l z.1 z.3 z.11,
    z.12,
    z.13,
  )

  change_first : (i : Item) (ds : List RelationDef) → IsWork (Changed i ds Nothing)
      → Zipped (l ∷ path) (Change l i ∷ s) (i ∷ sv) (changes_of i ds ++ cs) xs
  change_first i ds is = (
    Changed i ds z.0,
    Change l i ∷ z.1,
    z.2,
    i ∷ z.3,
    z.4,
    z.5,
    z.6,
    ap (λ t. Change l i ∷ t) z.7,
    ap (λ t. i ∷ t) z.8,
    ap (λ t. changes_of i ds ++ t) z.9 ∙ sym (append_assoc (changes_of i ds) (surviving_changes z.0) z.5),
    z.10,
    ([], z.1, z.3, refl, refl, z.11),
    (is.0, is.1, z.12),
    z.13,
  )

  pub item_first : (i : Item) (ds : List RelationDef) → map (λ (def : RelationDef). def.oid) ds ≡ named i
      → Zipped (l ∷ path) (Change l i ∷ s) (i ∷ sv) (changes_of i ds ++ cs) xs
  item_first (item.Relation def) ds same = relation_first def
  item_first (item.Insert oid row) ds same = change_first (item.Insert oid row) ds (tt, same, tt)
  item_first (item.Update oid prior row) ds same = change_first (item.Update oid prior row) ds (tt, same, tt)
  item_first (item.Delete oid kind row) ds same = change_first (item.Delete oid kind row) ds (tt, same, tt)
  item_first (item.Truncate options oids) ds same = change_first (item.Truncate options oids) ds (tt, same, tt)
