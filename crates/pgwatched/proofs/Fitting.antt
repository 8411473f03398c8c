-- What a streamed transaction's work may come as is nested.
use Rattle.std.proofs.Common.{◌≡◌, ℕ, List, [], ◌∷◌, ◌++◌, Bool, true, false, cond, ◌||◌, eqb}
use Rattle.std.proofs.Common.{Some, None, Ok, Err, refl, sym, ap, subst, ◌∙◌, arith}
use Rattle.std.proofs.Common.{◌⊎◌, inl, inr}
use Rattle.std.specs.List.{AllByRecursion, list_any}
use Rattle.std.proofs.lemmas.List.{map-append}
use Rattle.std.proofs.lemmas.Bool.Decides.{nat_tests}
use Rattle.pglogical.specs.declared.message.RelationDef.{RelationDef}
use Rattle.pglogical.specs.declared.message.Item.{Item}
use Rattle.pglogical.specs.declared.message.Item.TheVariants as item
use Rattle.pgwatch.specs.declared.noted.Noted.{Noted}
use Rattle.pgwatch.specs.Known.{OidSet, none_known, is_known, with_known, is_known-none}
use Rattle.pgwatch.specs.Known.{is_known-with}
use Rattle.pgwatch.specs.Nesting.{Nesting, at_end, path_to, path_with, survived, item_nested}
use Rattle.pgwatch.specs.Nesting.{nested_as, nested, or_misfit, then_nested, nest}
use Rattle.pgsub_core.specs.Server.Work.{Work, Nothing, Changed, Subtransaction, RolledBack}
use Rattle.pgsub_core.specs.Server.Work.{xids_of, is_among, AllDiffer}
use Rattle.pgsub_core.specs.Server.Streamed.{StreamedItem, Change, SubtransactionAbort, IsStreamOf}
use Rattle.pgsub_core.specs.Server.Streamed.{relations, EachIsAborted, aborts, subxid_of}
use Rattle.pgwatch.specs.Hearing.{what_of}
use Rattle.pgwatch.proofs.Nests.{and_nest, nest-append}
use Rattle.pgwatched.specs.Nested.{mark, marks, MisfitIsNotStreamed}
use Rattle.pgwatched.proofs.Times.{itself}

pub item_as : (n : Nesting) (x : Noted) (i : Item) → nested_as n x (what_of i) ≡ item_nested n x
item_as n x (item.Relation def) = refl
item_as n x (item.Insert oid row) = refl
item_as n x (item.Update oid prior row) = refl
item_as n x (item.Delete oid kind row) = refl
item_as n x (item.Truncate options oids) = refl

-- ---- which xids may still come

-- Each of these xids, the innermost first, wasn't seen, or isn't left. Leaving one leaves those
-- further out where they are.
abbrev pub MayCome : List ℕ → List ℕ → OidSet → Type 0
MayCome [] path seen = Unit {0}
MayCome (a ∷ outer) path seen =
    MayCome outer path seen
    × ((is_known a seen ≡ false) ⊎ ((inner : List ℕ) × (path_to a path ≡ Some inner) × MayCome outer inner seen))

or_false : (a b : Bool) → (a || b) ≡ false → (a ≡ false) × (b ≡ false)
or_false true b e = absurd (cc)
or_false false b e = (refl, e)

-- another xid is seen
pub still : (x : ℕ) (outer path : List ℕ) (seen : OidSet) → is_among outer x ≡ false → MayCome outer path seen
    → MayCome outer path (with_known x seen)
still x [] path seen differ may = tt
still x (a ∷ outer) path seen differ may =
    let parts = or_false (eqb a x) (is_among outer x) differ in (
      still x outer path seen parts.1 may.0,
      elim may.1 [
        | inl new ↦ inl (let other : eqb x a ≡ false = (let d : eqb a x ≡ false = parts.0 in grind (arith, nat_tests)) in
            is_known-with a x seen ∙ ap (λ b. b || is_known a seen) other ∙ new)
        | inr on ↦ inr (on.0, on.1, still x outer on.0 seen parts.1 on.2)
      ],
    )

-- another xid begins
pub beside : (x : ℕ) (outer path : List ℕ) (seen : OidSet) → is_among outer x ≡ false → MayCome outer path seen
    → MayCome outer (x ∷ path) seen
beside x [] path seen differ may = tt
beside x (a ∷ outer) path seen differ may =
    let parts = or_false (eqb a x) (is_among outer x) differ in (
      beside x outer path seen parts.1 may.0,
      elim may.1 [
        | inl new ↦ inl new
        | inr on ↦ inr (
          on.0,
          (let other : eqb x a ≡ false = (let d : eqb a x ≡ false = parts.0 in grind (arith, nat_tests)) in
              ap (λ b. cond b (Some (x ∷ path)) (path_to a path)) other ∙ on.1),
          on.2,
        )
      ],
    )

path_again : (a : ℕ) (path inner : List ℕ) → path_to a path ≡ Some inner → path_to a inner ≡ Some inner
path_again a [] inner e = absurd (cc)
path_again a (x ∷ path) inner e =
    elim (eqb x a) as (λ b. eqb x a ≡ b → cond b (Some (x ∷ path)) (path_to a path) ≡ Some inner → path_to a inner ≡ Some inner) [
      | true ↦ λ is e. let same : x ∷ path ≡ inner = cc in
          subst (λ p. path_to a p ≡ Some p) same (ap (λ b. cond b (Some (x ∷ path)) (path_to a path)) is)
      | false ↦ λ is e. path_again a path inner e
    ] refl e

-- ---- one part

-- Behind the part with the xids `xs` under `l`, another nesting: of other xids it says the same.
pub record Fits (n m : Nesting) (l : ℕ) (outer xs : List ℕ) : Type 0 where
  pub may : MayCome (l ∷ outer) m.path m.seen
  pub seen : (x : ℕ) → is_among (l ∷ xs) x ≡ false → is_known x m.seen ≡ is_known x n.seen
  pub undone : (x : ℕ) → is_among xs x ≡ false → is_known x n.undone ≡ false → is_known x m.undone ≡ false

pub record FitsAs (n : Nesting) (streamed : List StreamedItem) (l : ℕ) (outer xs : List ℕ) : Type 0 where
  pub next : Nesting
  pub goes : nest n (marks streamed) ≡ Ok next
  pub fits : Fits n next l outer xs

-- an item that survives
module _ (n : Nesting) (l : ℕ) (outer : List ℕ) (i : Item) where
  abbrev x : Noted
  x = mark (Change l i)

  abbrev after : List ℕ → Nesting
  after path = record { path = path; seen = with_known l n.seen; undone = none_known; surviving = x ∷ n.surviving }

  placed : (path : List ℕ) → path_with n l ≡ Some path → is_known l n.undone ≡ false → nested n x ≡ Some (after path)
  placed path e isnt_undone = item_as n x i ∙ ap (λ b. cond b (Some n) (survived n x (path_with n l))) isnt_undone ∙ ap (survived n x) e

  knows_too : (y : ℕ) → is_among (l ∷ []) y ≡ false → is_known y (with_known l n.seen) ≡ is_known y n.seen
  knows_too y e = let parts = or_false (eqb l y) false e in is_known-with y l n.seen ∙ ap (λ b. b || is_known y n.seen) parts.0

  itself_known : is_known l (with_known l n.seen) ≡ true
  itself_known = is_known-with l l n.seen ∙ ap (λ b. b || is_known l n.seen) (itself l)

  one : (path : List ℕ) → path_with n l ≡ Some path → is_known l n.undone ≡ false → MayCome outer path (with_known l n.seen)
      → path_to l path ≡ Some path → FitsAs n (Change l i ∷ []) l outer []
  one path e isnt_undone may to = record {
    next = after path;
    goes = ap (or_misfit x) (placed path e isnt_undone);
    fits = record {
      may = (may, inr (path, to, may));
      seen = knows_too;
      undone = λ y other none. is_known-none y;
    };
  }

  pub item_fits : is_among outer l ≡ false → MayCome (l ∷ outer) n.path n.seen → is_known l n.undone ≡ false
      → FitsAs n (Change l i ∷ []) l outer []
  item_fits apart may isnt_undone = elim may.1 [
    | inl new ↦ one (l ∷ n.path) (ap (λ b. cond b (path_to l n.path) (Some (l ∷ n.path))) new) isnt_undone
        (still l outer (l ∷ n.path) n.seen apart (beside l outer n.path n.seen apart may.0))
        (ap (λ b. cond b (Some (l ∷ n.path)) (path_to l n.path)) (itself l))
    | inr on ↦ by_seen on (is_known l n.seen) refl
  ]
    where
      by_seen : (inner : List ℕ) × (path_to l n.path ≡ Some inner) × MayCome outer inner n.seen → (b : Bool) → is_known l n.seen ≡ b
          → FitsAs n (Change l i ∷ []) l outer []
      by_seen on true is =
          one on.0 (ap (λ b. cond b (path_to l n.path) (Some (l ∷ n.path))) is ∙ on.1) isnt_undone (still l outer on.0 n.seen apart on.2)
          (path_again l n.path on.0 on.1)
      by_seen on false is =
          one (l ∷ n.path) (ap (λ b. cond b (path_to l n.path) (Some (l ∷ n.path))) is) isnt_undone
          (still l outer (l ∷ n.path) n.seen apart (beside l outer n.path n.seen apart may.0))
          (ap (λ b. cond b (Some (l ∷ n.path)) (path_to l n.path)) (itself l))

among-append : (xs ys : List ℕ) (x : ℕ) → is_among (xs ++ ys) x ≡ (is_among xs x || is_among ys x)
among-append [] ys x = refl
among-append (y ∷ xs) ys x = ap (λ b. eqb y x || b) (among-append xs ys x) ∙ regroup (eqb y x) (is_among xs x) (is_among ys x)
  where
    regroup : (a b c : Bool) → (a || (b || c)) ≡ ((a || b) || c)
    regroup true b c = refl
    regroup false b c = refl

not_in_both : (xs ys : List ℕ) (x : ℕ) → is_among (xs ++ ys) x ≡ false → (is_among xs x ≡ false) × (is_among ys x ≡ false)
not_in_both xs ys x e = or_false (is_among xs x) (is_among ys x) (sym (among-append xs ys x) ∙ e)

or_left : (a b : Bool) → a ≡ true → (a || b) ≡ true
or_left true b e = refl
or_left false b e = absurd (cc)

or_right : (a b : Bool) → b ≡ true → (a || b) ≡ true
or_right true b e = refl
or_right false b e = e

in_left : (xs ys : List ℕ) (x : ℕ) → is_among xs x ≡ true → is_among (xs ++ ys) x ≡ true
in_left xs ys x e = among-append xs ys x ∙ or_left (is_among xs x) (is_among ys x) e

in_right : (xs ys : List ℕ) (x : ℕ) → is_among ys x ≡ true → is_among (xs ++ ys) x ≡ true
in_right xs ys x e = among-append xs ys x ∙ or_right (is_among xs x) (is_among ys x) e

differ_left : (xs ys : List ℕ) → AllDiffer (xs ++ ys) → AllDiffer xs
differ_left [] ys h = tt
differ_left (x ∷ xs) ys h = ((not_in_both xs ys x h.0).0, differ_left xs ys h.1)

differ_right : (xs ys : List ℕ) → AllDiffer (xs ++ ys) → AllDiffer ys
differ_right [] ys h = h
differ_right (x ∷ xs) ys h = differ_right xs ys h.1

-- what is among the first isn't among the others
apart : (xs ys : List ℕ) (x : ℕ) → AllDiffer (xs ++ ys) → is_among xs x ≡ true → is_among ys x ≡ false
apart [] ys x h e = absurd (cc)
apart (y ∷ xs) ys x h e =
    elim (eqb y x) as (λ b. eqb y x ≡ b → (b || is_among xs x) ≡ true → is_among ys x ≡ false) [
      | true ↦ λ same _. let is : y ≡ x = grind (arith, nat_tests) in
          subst (λ z. is_among ys z ≡ false) is (not_in_both xs ys y h.0).1
      | false ↦ λ _ e'. apart xs ys x h.1 e'
    ] refl e

-- ---- two parts

joined : (n : Nesting) (a b : List StreamedItem) (l : ℕ) (outer ys xs : List ℕ) (first : FitsAs n b l outer xs)
    → FitsAs first.next a l outer ys → FitsAs n (a ++ b) l outer (ys ++ xs)
joined n a b l outer ys xs first second = record {
  next = second.next;
  goes = ap (nest n) (map-append mark a b) ∙ nest-append n (marks a) (marks b)
      ∙ ap (λ r. and_nest r (λ m. nest m (marks a))) first.goes ∙ second.goes;
  fits = record {
    may = second.fits.may;
    seen = λ x e.
        let parts = or_false (eqb l x) (is_among (ys ++ xs) x) e in
        let both = not_in_both ys xs x parts.1 in
        second.fits.seen x (neither (eqb l x) (is_among ys x) parts.0 both.0)
        ∙ first.fits.seen x (neither (eqb l x) (is_among xs x) parts.0 both.1);
    undone = λ x e none.
        let both = not_in_both ys xs x e in second.fits.undone x both.0 (first.fits.undone x both.1 none);
  };
}
  where
    neither : (a b : Bool) → a ≡ false → b ≡ false → (a || b) ≡ false
    neither true b e f = absurd (cc)
    neither false b e f = f

nothing : (n : Nesting) (l : ℕ) (outer : List ℕ) → MayCome (l ∷ outer) n.path n.seen → FitsAs n [] l outer []
nothing n l outer may = record {
  next = n;
  goes = refl;
  fits = record { may = may; seen = λ x e. refl; undone = λ x e none. none };
}

-- Relation messages
relations_fit : (defs : List RelationDef) (n : Nesting) (l : ℕ) (outer : List ℕ) → is_among outer l ≡ false
    → MayCome (l ∷ outer) n.path n.seen → is_known l n.undone ≡ false → FitsAs n (relations l defs) l outer []
relations_fit [] n l outer differ may isnt_undone = nothing n l outer may
relations_fit (def ∷ defs) n l outer differ may isnt_undone =
    let first = relations_fit defs n l outer differ may isnt_undone in
    joined n (Change l (item.Relation def) ∷ []) (relations l defs) l outer [] [] first
    (item_fits first.next l outer (item.Relation def) differ first.fits.may (first.fits.undone l refl isnt_undone))

-- ---- a rolled-back subtransaction

record Gone (n : Nesting) (dead : List StreamedItem) (l : ℕ) (outer gone : List ℕ) : Type 0 where
  next : Nesting
  goes : nest n (marks dead) ≡ Ok next
  may : MayCome (l ∷ outer) next.path next.seen
  seen : (x : ℕ) → is_among gone x ≡ false → is_known x next.seen ≡ is_known x n.seen
  undone : (x : ℕ) → is_among gone x ≡ false → is_known x next.undone ≡ is_known x n.undone
  alike : (x : ℕ) → is_among gone x ≡ true → is_known x next.undone ≡ is_known x next.seen
  aborted : (x : ℕ) → list_any (aborts x) dead ≡ true → is_known x next.undone ≡ true

other_xid : (gone : List ℕ) (x y : ℕ) → is_among gone x ≡ true → is_among gone y ≡ false → eqb x y ≡ false
other_xid gone x y is isnt =
    elim (eqb x y) as (λ b. eqb x y ≡ b → b ≡ false) [
      | true ↦ λ e. let same : x ≡ y = grind (arith, nat_tests) in
          absurd (let is' : is_among gone y ≡ true = subst (λ z. is_among gone z ≡ true) same is in cc)
      | false ↦ λ e. refl
    ] refl

module _ (n : Nesting) (l : ℕ) (outer gone : List ℕ) (free : (x : ℕ) → is_among gone x ≡ true → is_among (l ∷ outer) x ≡ false) where
  abort_gone : (x : ℕ) (dead : List StreamedItem) → is_among gone x ≡ true → (g : Gone n dead l outer gone) → (b : Bool)
      → is_known x g.next.undone ≡ b → Gone n (SubtransactionAbort x ∷ dead) l outer gone
  abort_gone x dead is g true e = record {
    next = g.next;
    goes = ap (then_nested (mark (SubtransactionAbort x))) g.goes
        ∙ ap (λ b. or_misfit (mark (SubtransactionAbort x)) (cond b (Some g.next)
        (cond (is_known x g.next.seen) None
        (Some (record g.next { seen = with_known x g.next.seen; undone = with_known x g.next.undone })))))
        e;
    may = g.may;
    seen = g.seen;
    undone = g.undone;
    alike = g.alike;
    aborted = λ y h.
        elim (eqb x y) as (λ b. eqb x y ≡ b → (b || list_any (aborts y) dead) ≡ true → is_known y g.next.undone ≡ true) [
          | true ↦ λ same _. let it : x ≡ y = grind (arith, nat_tests) in subst (λ z. is_known z g.next.undone ≡ true) it e
          | false ↦ λ _ h'. g.aborted y h'
        ] refl h;
  }
  abort_gone x dead is g false e =
      let m = g.next in
      let new : Nesting = record m { seen = with_known x m.seen; undone = with_known x m.undone } in
      record {
        next = new;
        goes = ap (then_nested (mark (SubtransactionAbort x))) g.goes
            ∙ ap (λ b. or_misfit (mark (SubtransactionAbort x)) (cond b (Some m) (cond (is_known x m.seen) None (Some new)))) e
            ∙ ap (λ b. or_misfit (mark (SubtransactionAbort x)) (cond b None (Some new))) (sym (g.alike x is) ∙ e);
        may = still x (l ∷ outer) m.path m.seen (free x is) g.may;
        seen = λ y isnt. is_known-with y x m.seen ∙ ap (λ b. b || is_known y m.seen) (other_xid gone x y is isnt) ∙ g.seen y isnt;
        undone = λ y isnt. is_known-with y x m.undone ∙ ap (λ b. b || is_known y m.undone) (other_xid gone x y is isnt) ∙ g.undone y isnt;
        alike = λ y among. is_known-with y x m.undone ∙ ap (λ b. eqb x y || b) (g.alike y among) ∙ sym (is_known-with y x m.seen);
        aborted = λ y h.
            is_known-with y x m.undone
            ∙ (elim (eqb x y) as (λ b. (b || list_any (aborts y) dead) ≡ true → (b || is_known y m.undone) ≡ true) [
              | true ↦ λ _. refl
              | false ↦ λ h'. g.aborted y h'
            ] h);
      }

  all_gone : (dead : List StreamedItem) → AllByRecursion (λ e. is_among gone (subxid_of e) ≡ true) dead → EachIsAborted dead
      → MayCome (l ∷ outer) n.path n.seen → ((x : ℕ) → is_among gone x ≡ true → is_known x n.undone ≡ is_known x n.seen)
      → Gone n dead l outer gone
  all_gone [] named each may alike = record {
    next = n;
    goes = refl;
    may = may;
    seen = λ x e. refl;
    undone = λ x e. refl;
    alike = alike;
    aborted = λ x e. absurd (cc);
  }
  all_gone (Change x i ∷ dead) named each may alike =
      let g = all_gone dead named.1 each.1 may alike in
      record {
        next = g.next;
        goes = ap (then_nested (mark (Change x i))) g.goes
            ∙ ap (or_misfit (mark (Change x i))) (item_as g.next (mark (Change x i)) i
            ∙ ap (λ b. cond b (Some g.next) (survived g.next (mark (Change x i)) (path_with g.next x))) (g.aborted x each.0));
        may = g.may;
        seen = g.seen;
        undone = g.undone;
        alike = g.alike;
        aborted = g.aborted;
      }
  all_gone (SubtransactionAbort x ∷ dead) named each may alike =
      let g = all_gone dead named.1 each may alike in abort_gone x dead named.0 g (is_known x g.next.undone) refl

-- ---- the whole work

-- none of these was seen
abbrev AreNew : List ℕ → Nesting → Type 0
AreNew xs n = (x : ℕ) → is_among xs x ≡ true → (is_known x n.seen ≡ false) × (is_known x n.undone ≡ false)

abbrev AreFree : List ℕ → List ℕ → Type 0
AreFree xs outer = (x : ℕ) → is_among xs x ≡ true → is_among outer x ≡ false

-- still new behind another part
new_still : (n m : Nesting) (l : ℕ) (outer xs ys : List ℕ) → Fits n m l outer ys → AreNew xs n
    → ((x : ℕ) → is_among xs x ≡ true → (is_among (l ∷ ys) x ≡ false) × (is_among ys x ≡ false)) → AreNew xs m
new_still n m l outer xs ys fits new other x is =
    let o = other x is in
    let was = new x is in
    (fits.seen x o.0 ∙ was.0, fits.undone x o.1 was.1)

not_it : (l x : ℕ) (xs : List ℕ) → is_among xs l ≡ false → is_among xs x ≡ true → eqb l x ≡ false
not_it l x xs isnt is =
    let e : eqb x l ≡ false = other_xid xs x l is isnt in
    grind (arith, nat_tests)

out_of_it : (l x : ℕ) (xs ys : List ℕ) → eqb l x ≡ false → is_among ys x ≡ false → is_among (l ∷ ys) x ≡ false
out_of_it l x xs ys e f = ap (λ b. b || is_among ys x) e ∙ f

with_relations : (defs : List RelationDef) (n : Nesting) (l : ℕ) (outer xs : List ℕ) (streamed rest : List StreamedItem)
    → streamed ≡ relations l defs ++ rest → is_among outer l ≡ false → is_among xs l ≡ false → is_known l n.undone ≡ false
    → FitsAs n rest l outer xs → FitsAs n streamed l outer xs
with_relations defs n l outer xs streamed rest e free differ isnt_undone first =
    subst (λ s. FitsAs n s l outer xs) (sym e)
    (joined n (relations l defs) rest l outer [] xs first
    (relations_fit defs first.next l outer free first.fits.may (first.fits.undone l differ isnt_undone)))

pub work_fits : (w : Work) (n : Nesting) (l : ℕ) (outer : List ℕ) (streamed : List StreamedItem) (surviving : List Item)
    → IsStreamOf w l streamed surviving → AllDiffer (l ∷ xids_of w) → is_among outer l ≡ false → AreFree (xids_of w) outer
    → AreNew (xids_of w) n → MayCome (l ∷ outer) n.path n.seen → is_known l n.undone ≡ false → FitsAs n streamed l outer (xids_of w)
work_fits Nothing n l outer streamed surviving runs differ free frees new may isnt_undone =
    subst (λ s. FitsAs n s l outer []) (sym runs.1) (relations_fit runs.0 n l outer free may isnt_undone)
work_fits (Changed change definitions rest) n l outer streamed surviving runs differ free frees new may isnt_undone =
    let first = work_fits rest n l outer runs.1 runs.2 runs.5 differ free frees new may isnt_undone in
    let second = joined n (Change l change ∷ []) runs.1 l outer [] (xids_of rest) first
    (item_fits first.next l outer change free first.fits.may (first.fits.undone l differ.0 isnt_undone)) in
    with_relations runs.0 n l outer (xids_of rest) streamed (Change l change ∷ runs.1) runs.3 free differ.0 isnt_undone second
work_fits (Subtransaction xid inner rest) n l outer streamed surviving runs differ free frees new may isnt_undone =
    let ins = xids_of inner in
    let outs = xids_of rest in
    let mine = or_false (eqb xid l) (is_among (ins ++ outs) l) differ.0 in
    let both = not_in_both ins outs l mine.1 in
    let first = work_fits rest n l outer runs.2 runs.4 runs.8 (both.1, differ_right (xid ∷ ins) outs differ.1) free
    (λ x is. frees x (in_right (xid ∷ ins) outs x is)) (λ x is. new x (in_right (xid ∷ ins) outs x is)) may isnt_undone in
    let m = first.next in
    let newer : AreNew (xid ∷ ins) m = new_still n m l outer (xid ∷ ins) outs first.fits (λ x is. new x (in_left (xid ∷ ins) outs x is))
    (λ x is.
    let o = apart (xid ∷ ins) outs x differ.1 is in
    (out_of_it l x outs outs (not_it l x (xid ∷ (ins ++ outs)) differ.0 (in_left (xid ∷ ins) outs x is)) o, o)) in
    let me = newer xid (or_left (eqb xid xid) (is_among ins xid) (itself xid)) in
    let inside = work_fits inner m xid (l ∷ outer) runs.1 runs.3 runs.7 (differ_left (xid ∷ ins) outs differ.1)
    (out_of_it l xid outs outer (let d : eqb xid l ≡ false = mine.0 in grind (arith, nat_tests))
    (frees xid (or_left (eqb xid xid) (is_among (ins ++ outs) xid) (itself xid))))
    (λ x is.
    let more = or_right (eqb xid x) (is_among (ins ++ outs) x) (in_left ins outs x is) in
    out_of_it l x outs outer (not_it l x (xid ∷ (ins ++ outs)) differ.0 more) (frees x more))
    (λ x is. newer x (or_right (eqb xid x) (is_among ins x) is)) (first.fits.may, inl me.0) me.1 in
    let second = joined n runs.1 runs.2 l outer (xid ∷ ins) outs first (record {
      next = inside.next;
      goes = inside.goes;
      fits = record {
        may = inside.fits.may.0;
        seen = λ x e. inside.fits.seen x (or_false (eqb l x) (is_among (xid ∷ ins) x) e).1;
        undone = λ x e none. inside.fits.undone x (or_false (eqb xid x) (is_among ins x) e).1 none;
      };
    }) in
    with_relations runs.0 n l outer (xid ∷ (ins ++ outs)) streamed (runs.1 ++ runs.2) runs.5 free differ.0 isnt_undone second
work_fits (RolledBack xid inside rest) n l outer streamed surviving runs differ free frees new may isnt_undone =
    let gone = xid ∷ inside in
    let outs = xids_of rest in
    let mine = not_in_both gone outs l differ.0 in
    let first = work_fits rest n l outer runs.2 runs.3 runs.7 (mine.1, differ_right gone outs differ.1) free
    (λ x is. frees x (in_right gone outs x is)) (λ x is. new x (in_right gone outs x is)) may isnt_undone in
    let m = first.next in
    let newer : AreNew gone m = new_still n m l outer gone outs first.fits (λ x is. new x (in_left gone outs x is))
    (λ x is.
    let o = apart gone outs x differ.1 is in
    (out_of_it l x outs outs (not_it l x (gone ++ outs) differ.0 (in_left gone outs x is)) o, o)) in
    let g = all_gone m l outer gone
    (λ x is. out_of_it l x outs outer (not_it l x gone mine.0 is) (frees x (in_left gone outs x is)))
    runs.1 runs.6.named runs.6.aborted first.fits.may (λ x is. (newer x is).1 ∙ sym (newer x is).0) in
    let second = joined n runs.1 runs.2 l outer gone outs first (record {
      next = g.next;
      goes = g.goes;
      fits = record {
        may = g.may;
        seen = λ x e. g.seen x (or_false (eqb l x) (is_among gone x) e).1;
        undone = λ x e none. g.undone x e ∙ none;
      };
    }) in
    with_relations runs.0 n l outer (gone ++ outs) streamed (runs.1 ++ runs.2) runs.4 free differ.0 isnt_undone second

pub misfit_is_not_streamed : MisfitIsNotStreamed
misfit_is_not_streamed xid streamed x broken work surviving differ runs =
    let n = at_end xid in
    let fits = work_fits work n xid [] streamed surviving runs differ refl (λ y is. refl)
    (λ y is. (
      is_known-with y xid none_known
          ∙ ap (λ b. b || is_known y none_known) (not_it xid y (xids_of work) differ.0 is) ∙ is_known-none y,
      is_known-none y,
    ))
    (tt, inr (xid ∷ [], ap (λ b. cond b (Some (xid ∷ [])) None) (itself xid), tt)) (is_known-none xid) in
    never fits.next (sym fits.goes ∙ broken)
  where
    never : (n : Nesting) → Ok n ≡ Err x → ⊥
    never n e = cc
