-- What is nested comes of some work.
use Rattle.std.proofs.Common.{◌≡◌, ◌≤◌, ℕ, List, [], ◌∷◌, ◌++◌, Bool, true, false, cond, ◌||◌, eqb}
use Rattle.std.proofs.Common.{map, Option, Some, None, Result, Ok, Err, refl, sym, ap, subst, ◌∙◌}
use Rattle.std.proofs.Common.{arith, append-nil}
use Rattle.std.specs.Prelude.{◌+◌}
use Rattle.std.specs.List.{list_any}
use Rattle.std.proofs.lemmas.Bool.Decides.{nat_tests}
use Rattle.pglogical.specs.Named.{named}
use Rattle.pglogical.specs.declared.message.RelationDef.{RelationDef}
use Rattle.pglogical.specs.declared.message.Item.{Item}
use Rattle.pglogical.specs.declared.message.Item.TheVariants as item
use Rattle.pgapply.specs.Apply.{Change as RowChange}
use Rattle.pgwatch.specs.declared.noted.Noted.{Noted}
use Rattle.pgwatch.specs.Known.{OidSet, none_known, is_known, with_known, is_known-none}
use Rattle.pgwatch.specs.Known.{is_known-with}
use Rattle.pgwatch.specs.Nesting.{Nesting, at_end, path_to, path_with, survived, item_nested}
use Rattle.pgwatch.specs.Nesting.{abort_nested, nested, or_misfit, then_nested, nest}
use Rattle.pgsub_core.specs.Server.Work.{Nothing, changes_of, is_among, xids_of, AllDiffer}
use Rattle.pgsub_core.specs.Server.Work.{surviving_changes}
use Rattle.pgsub_core.specs.Server.Described.{last_of, definitions_of, found_behind}
use Rattle.pgsub_core.specs.Server.Described.{with_definition, with_changes, described_from}
use Rattle.pgsub_core.specs.Server.Described.{described}
use Rattle.pgsub_core.specs.Server.Streamed.{StreamedItem, Change, SubtransactionAbort, IsStreamOf}
use Rattle.pgsub_core.specs.Server.Streamed.{aborts, subxid_of}
use Rattle.pgsub_core.proofs.Surviving.{all_weaker}
use Rattle.pgwatch.specs.Hearing.{what_of}
use Rattle.pgwatched.specs.Nested.{mark, marks, whats, IsStreamed, NestedIsStreamed}
use Rattle.pgwatched.proofs.Times.{times, one_if, differ, itself}
use Rattle.pgwatched.proofs.Fitting.{item_as}
use Rattle.pgwatched.proofs.Works.{Finds, finds_last, finds_behind, defined_oids}
use Rattle.pgwatched.proofs.Zipping.{Zipped, IsUndone, left_to, begun}
use Rattle.pgwatched.proofs.Zipping.{rolled_back, item_first}

-- The items that survive, as works.
record Shown (path : List ℕ) (seen : OidSet) (gone : List ℕ) (s : List StreamedItem) (sv : List Item) (cs : List RowChange) : Type 0 where
  xs : List ℕ
  zipped : Zipped path s sv cs xs
  once : (x : ℕ) → times x gone + times x xs ≤ 1
  fresh : (x : ℕ) → is_known x seen ≡ false → times x xs ≡ 0

record Part (xid : ℕ) (n : Nesting) (all : List StreamedItem) : Type 0 where
  dead : List StreamedItem
  s : List StreamedItem
  gone : List ℕ
  sv : List Item
  parts : all ≡ dead ++ s
  is : IsUndone gone dead
  knows : (x : ℕ) → is_known x n.undone ≡ true → (is_among gone x ≡ true) × (list_any (aborts x) dead ≡ true)
  fresh : (x : ℕ) → is_known x n.seen ≡ false → times x gone ≡ 0
  same : map what_of sv ≡ whats n.surviving
  shown : (find : ℕ → Option RelationDef) → Finds find → (cs : List RowChange) → described_from find sv ≡ Ok cs
      → Shown n.path n.seen gone s sv cs
  bottom : path_to xid n.path ≡ Some (xid ∷ [])
  root : is_known xid n.seen ≡ true

or_false : (a b : Bool) → (a || b) ≡ false → (a ≡ false) × (b ≡ false)
or_false true b e = absurd (cc)
or_false false b e = (refl, e)

or_right : (a b : Bool) → b ≡ true → (a || b) ≡ true
or_right true b e = refl
or_right false b e = e

not_both : {A : Type 0} (b : Bool) → b ≡ false → b ≡ true → A
not_both true e f = absurd (cc)
not_both false e f = absurd (cc)

at_most_one : (b : Bool) → 0 + (one_if b + 0) ≤ 1
at_most_one true = omega arith
at_most_one false = omega arith

none_of : (b : Bool) → b ≡ false → one_if b + 0 ≡ 0
none_of true e = absurd (cc)
none_of false e = refl

unseen : (x l : ℕ) (seen : OidSet) → is_known x (with_known l seen) ≡ false → (eqb l x ≡ false) × (is_known x seen ≡ false)
unseen x l seen e = or_false (eqb l x) (is_known x seen) (sym (is_known-with x l seen) ∙ e)

-- ---- nothing yet

no_changes : (cs : List RowChange) (r : Result (List RowChange) ℕ) → r ≡ Ok [] → r ≡ Ok cs → cs ≡ []
no_changes cs r empty same = cc

start : (xid : ℕ) → Part xid (at_end xid) []
start xid = record {
  dead = [];
  s = [];
  gone = [];
  sv = [];
  parts = refl;
  is = (tt, tt);
  knows = λ x e. not_both (is_known x none_known) (is_known-none x) e;
  fresh = λ x e. refl;
  same = refl;
  shown = λ find finds cs e. record {
    xs = xid ∷ [];
    zipped = (
      Nothing,
      [],
      [],
      [],
      [],
      [],
      [],
      refl,
      refl,
      no_changes cs (described_from find []) refl e,
      refl,
      ([], refl, refl),
      tt,
      (refl, refl, refl, refl),
    );
    once = λ x. at_most_one (eqb xid x);
    fresh = λ x e. none_of (eqb xid x) (unseen x xid none_known e).0;
  };
  bottom = ap (λ b. cond b (Some (xid ∷ [])) None) (itself xid);
  root = is_known-with xid xid none_known ∙ ap (λ b. b || is_known xid none_known) (itself xid);
}

-- ---- an abort

abbrev onto : List StreamedItem → List StreamedItem → List StreamedItem
onto a b = a ++ b

module _ (xid : ℕ) (n : Nesting) (all : List StreamedItem) (p : Part xid n all) where
  abort_again : (l : ℕ) → is_known l n.undone ≡ true → Part xid n (SubtransactionAbort l ∷ all)
  abort_again l e = record {
    dead = SubtransactionAbort l ∷ p.dead;
    s = p.s;
    gone = p.gone;
    sv = p.sv;
    parts = ap (λ t. SubtransactionAbort l ∷ t) p.parts;
    is = (((p.knows l e).0, p.is.0), p.is.1);
    knows = λ x e. ((p.knows x e).0, or_right (eqb l x) (list_any (aborts x) p.dead) (p.knows x e).1);
    fresh = p.fresh;
    same = p.same;
    shown = p.shown;
    bottom = p.bottom;
    root = p.root;
  }

  abort_first : (l : ℕ) → is_known l n.seen ≡ false
      → Part xid (record n { seen = with_known l n.seen; undone = with_known l n.undone }) (SubtransactionAbort l ∷ all)
  abort_first l new = record {
    dead = SubtransactionAbort l ∷ p.dead;
    s = p.s;
    gone = l ∷ p.gone;
    sv = p.sv;
    parts = ap (λ t. SubtransactionAbort l ∷ t) p.parts;
    is = (
      (
        ap (λ b. b || is_among p.gone l) (itself l),
        all_weaker _ _ (λ (x : StreamedItem) (is : is_among p.gone (subxid_of x) ≡ true).
            or_right (eqb l (subxid_of x)) (is_among p.gone (subxid_of x)) is) p.dead p.is.0,
      ),
      p.is.1,
    );
    knows = λ x e.
        elim (eqb l x) as (λ b. (b || is_known x n.undone) ≡ true
        → ((b || is_among p.gone x) ≡ true) × ((b || list_any (aborts x) p.dead) ≡ true)) [
          | true ↦ λ _. (refl, refl)
          | false ↦ λ old. p.knows x old
        ] (sym (is_known-with x l n.undone) ∙ e);
    fresh = λ x e.
        let u = unseen x l n.seen e in
        both_none (eqb l x) (times x p.gone) u.0 (p.fresh x u.1);
    same = p.same;
    shown = λ find finds cs e.
        let old = p.shown find finds cs e in
        record {
          xs = old.xs;
          zipped = old.zipped;
          once = λ x. elim (eqb l x) as (λ b. eqb l x ≡ b → (one_if b + times x p.gone) + times x old.xs ≤ 1) [
            | true ↦ λ is. let it : l ≡ x = grind (arith, nat_tests) in
                let unknown : is_known x n.seen ≡ false = subst (λ y. is_known y n.seen ≡ false) it new in
                one_alone (times x p.gone) (times x old.xs) (p.fresh x unknown) (old.fresh x unknown)
            | false ↦ λ is. no_more (times x p.gone) (times x old.xs) (old.once x)
          ] refl;
          fresh = λ x e. old.fresh x (unseen x l n.seen e).1;
        };
    bottom = p.bottom;
    root = is_known-with xid l n.seen ∙ or_right (eqb l xid) (is_known xid n.seen) p.root;
  }
    where
      both_none : (b : Bool) (a : ℕ) → b ≡ false → a ≡ 0 → one_if b + a ≡ 0
      both_none true a e f = absurd (cc)
      both_none false a e f = let r : 0 + a ≡ 0 = omega arith in r

      one_alone : (a b : ℕ) → a ≡ 0 → b ≡ 0 → (1 + a) + b ≤ 1
      one_alone a b e f = omega arith

      no_more : (a b : ℕ) → a + b ≤ 1 → (0 + a) + b ≤ 1
      no_more a b e = omega arith

  -- ---- an item that is gone

  item_gone : (l : ℕ) (i : Item) → is_known l n.undone ≡ true → Part xid n (Change l i ∷ all)
  item_gone l i e = record {
    dead = Change l i ∷ p.dead;
    s = p.s;
    gone = p.gone;
    sv = p.sv;
    parts = ap (λ t. Change l i ∷ t) p.parts;
    is = (((p.knows l e).0, p.is.0), ((p.knows l e).1, p.is.1));
    knows = p.knows;
    fresh = p.fresh;
    same = p.same;
    shown = p.shown;
    bottom = p.bottom;
    root = p.root;
  }

-- ---- an item that survives

-- the definitions that it has, and the changes behind it
record IsFirst (i : Item) (defs : Result (List RelationDef) ℕ) (rest : Result (List RowChange) ℕ) (cs : List RowChange) : Type 0 where
  ds : List RelationDef
  later : List RowChange
  defs_are : defs ≡ Ok ds
  rest_is : rest ≡ Ok later
  whole : changes_of i ds ++ later ≡ cs

first_of_them : (i : Item) (defs : Result (List RelationDef) ℕ) (rest : Result (List RowChange) ℕ) (cs : List RowChange)
    → with_changes i defs rest ≡ Ok cs → IsFirst i defs rest cs
first_of_them i (Err missing) rest cs e = absurd (cc)
first_of_them i (Ok ds) (Err missing) cs e = absurd (cc)
first_of_them i (Ok ds) (Ok later) cs e = record { ds = ds; later = later; defs_are = refl; rest_is = refl; whole = cc }

record StartsWith (l : ℕ) (path : List ℕ) : Type 0 where
  outer : List ℕ
  is : path ≡ l ∷ outer

starts_with : (l : ℕ) (path path' : List ℕ) → path_to l path ≡ Some path' → StartsWith l path'
starts_with l [] path' e = absurd (cc)
starts_with l (x ∷ xs) path' e =
    elim (eqb x l) as (λ b. eqb x l ≡ b → cond b (Some (x ∷ xs)) (path_to l xs) ≡ Some path' → StartsWith l path') [
      | true ↦ λ is e. let same : x ∷ xs ≡ path' = cc in let it : x ≡ l = grind (arith, nat_tests) in
          record { outer = xs; is = sym same ∙ ap (λ y. y ∷ xs) it }
      | false ↦ λ is e. starts_with l xs path' e
    ] refl e

bottom_stays : (xid l : ℕ) (path path' : List ℕ) → path_to l path ≡ Some path' → path_to xid path ≡ Some (xid ∷ [])
    → path_to xid path' ≡ Some (xid ∷ [])
bottom_stays xid l [] path' e f = absurd (cc)
bottom_stays xid l (x ∷ xs) path' e f =
    elim (eqb x l) as (λ b. cond b (Some (x ∷ xs)) (path_to l xs) ≡ Some path' → path_to xid path' ≡ Some (xid ∷ [])) [
      | true ↦ λ e. let same : x ∷ xs ≡ path' = cc in subst (λ t. path_to xid t ≡ Some (xid ∷ [])) same f
      | false ↦ λ e. elim (eqb x xid) as
          (λ b. cond b (Some (x ∷ xs)) (path_to xid xs) ≡ Some (xid ∷ []) → path_to xid path' ≡ Some (xid ∷ [])) [
            | true ↦ λ f. let none : xs ≡ [] = cc in none_left none e
            | false ↦ λ f. bottom_stays xid l xs path' e f
          ] f
    ] e
  where
    none_left : {A : Type 0} → xs ≡ [] → path_to l xs ≡ Some path' → A
    none_left none e = never (subst (λ t. path_to l t ≡ Some path') none e)
      where
        never : {A : Type 0} → None ≡ Some path' → A
        never e = absurd (cc)

module _ (xid : ℕ) (n : Nesting) (all : List StreamedItem) (p : Part xid n all) (l : ℕ) (i : Item) (path : List ℕ)
    (first : StartsWith l path) (there : path_to xid path ≡ Some (xid ∷ []))
    (onto_it : (cs : List RowChange) (old : Shown n.path n.seen p.gone p.s p.sv cs) → Shown path (with_known l n.seen) p.gone p.s p.sv cs)
  where
    abbrev new : Nesting
    new = record { path = path; seen = with_known l n.seen; undone = none_known; surviving = mark (Change l i) ∷ n.surviving }

    shows : (find : ℕ → Option RelationDef) → Finds find → (cs : List RowChange) → described_from find (i ∷ p.sv) ≡ Ok cs
        → Shown path (with_known l n.seen) [] (Change l i ∷ all) (i ∷ p.sv) cs
    shows find finds cs e =
        let f = first_of_them i (definitions_of find (named i)) (described_from (found_behind i find) p.sv) cs e in
        let old = onto_it f.later (p.shown (found_behind i find) (finds_behind i find finds) f.later f.rest_is) in
        let z = subst (λ t. Zipped t p.s p.sv f.later old.xs) first.is old.zipped in
        let u = rolled_back p.gone p.dead l first.outer p.s p.sv f.later old.xs p.is z in
        let made = item_first l first.outer (p.dead ++ p.s) p.sv f.later u.0 u.1 i f.ds
        (defined_oids find finds (named i) f.ds f.defs_are) in
        record {
          xs = u.0;
          zipped = subst (λ t. Zipped t (Change l i ∷ all) (i ∷ p.sv) cs u.0) (sym first.is)
              (subst (λ t. Zipped (l ∷ first.outer) (Change l i ∷ t) (i ∷ p.sv) cs u.0) (sym p.parts)
              (subst (λ t. Zipped (l ∷ first.outer) (Change l i ∷ (p.dead ++ p.s)) (i ∷ p.sv) t u.0) f.whole made));
          once = λ x. counted (times x u.0) (times x p.gone) (times x old.xs) (u.2 x) (old.once x);
          fresh = λ x e.
              nothing (times x u.0) (times x p.gone) (times x old.xs) (u.2 x) (p.fresh x (unseen x l n.seen e).1) (old.fresh x e);
        }
      where
        counted : (u g x : ℕ) → u ≡ g + x → g + x ≤ 1 → 0 + u ≤ 1
        counted u g x e f = omega arith

        nothing : (u g x : ℕ) → u ≡ g + x → g ≡ 0 → x ≡ 0 → u ≡ 0
        nothing u g x e f h = omega arith

    survives : Part xid new (Change l i ∷ all)
    survives = record {
      dead = [];
      s = Change l i ∷ all;
      gone = [];
      sv = i ∷ p.sv;
      parts = refl;
      is = (tt, tt);
      knows = λ x e. not_both (is_known x none_known) (is_known-none x) e;
      fresh = λ x e. refl;
      same = ap (λ t. what_of i ∷ t) p.same;
      shown = shows;
      bottom = there;
      root = is_known-with xid l n.seen ∙ or_right (eqb l xid) (is_known xid n.seen) p.root;
    }

module _ (xid : ℕ) (n : Nesting) (all : List StreamedItem) (p : Part xid n all) (l : ℕ) where
  on_with : (path : List ℕ) → path_to l n.path ≡ Some path → (cs : List RowChange) (old : Shown n.path n.seen p.gone p.s p.sv cs)
      → Shown path (with_known l n.seen) p.gone p.s p.sv cs
  on_with path e cs old =
      let z = left_to l n.path path p.s p.sv cs old.xs e old.zipped in
      record {
        xs = z.0;
        zipped = z.1;
        once = λ x. subst (λ t. times x p.gone + t ≤ 1) (sym (z.2 x)) (old.once x);
        fresh = λ x e. z.2 x ∙ old.fresh x (unseen x l n.seen e).1;
      }

  begun_with : is_known l n.seen ≡ false → (cs : List RowChange) (old : Shown n.path n.seen p.gone p.s p.sv cs)
      → Shown (l ∷ n.path) (with_known l n.seen) p.gone p.s p.sv cs
  begun_with isnt cs old = record {
    xs = l ∷ old.xs;
    zipped = begun l n.path p.s p.sv cs old.xs old.zipped;
    once = λ x. elim (eqb l x) as (λ b. eqb l x ≡ b → times x p.gone + (one_if b + times x old.xs) ≤ 1) [
      | true ↦ λ is. let it : l ≡ x = grind (arith, nat_tests) in
          let unknown : is_known x n.seen ≡ false = subst (λ y. is_known y n.seen ≡ false) it isnt in
          alone (times x p.gone) (times x old.xs) (p.fresh x unknown) (old.fresh x unknown)
      | false ↦ λ is. same (times x p.gone) (times x old.xs) (old.once x)
    ] refl;
    fresh = λ x e.
        let u = unseen x l n.seen e in none (eqb l x) (times x old.xs) u.0 (old.fresh x u.1);
  }
    where
      alone : (a b : ℕ) → a ≡ 0 → b ≡ 0 → a + (1 + b) ≤ 1
      alone a b e f = omega arith

      same : (a b : ℕ) → a + b ≤ 1 → a + (0 + b) ≤ 1
      same a b e = omega arith

      none : (b : Bool) (a : ℕ) → b ≡ false → a ≡ 0 → one_if b + a ≡ 0
      none true a e f = absurd (cc)
      none false a e f = let r : 0 + a ≡ 0 = omega arith in r

-- ---- one after the other

some_is : (a b : Nesting) → Some a ≡ Some b → a ≡ b
some_is a b e = cc

ok_is : (a b : Nesting) (r : Result Nesting Noted) → r ≡ Ok a → r ≡ Ok b → a ≡ b
ok_is a b r e f = cc

or_is : (x : Noted) (o : Option Nesting) (m : Nesting) → or_misfit x o ≡ Ok m → o ≡ Some m
or_is x None m e = absurd (cc)
or_is x (Some n) m e = ap Some (ok_is n m (or_misfit x (Some n)) refl e)

other_xid : (xid l : ℕ) (seen : OidSet) → is_known xid seen ≡ true → is_known l seen ≡ false → eqb l xid ≡ false
other_xid xid l seen is isnt =
    elim (eqb l xid) as (λ b. eqb l xid ≡ b → b ≡ false) [
      | true ↦ λ e. let same : l ≡ xid = grind (arith, nat_tests) in
          not_both (is_known l seen) isnt (subst (λ y. is_known y seen ≡ true) (sym same) is)
      | false ↦ λ e. refl
    ] refl

module _ (xid : ℕ) (n m : Nesting) (all : List StreamedItem) (p : Part xid n all) (l : ℕ) where
  abort_next : (undone seen : Bool) → is_known l n.undone ≡ undone → is_known l n.seen ≡ seen
      → cond undone (Some n) (cond seen None (Some (record n { seen = with_known l n.seen; undone = with_known l n.undone }))) ≡ Some m
      → Part xid m (SubtransactionAbort l ∷ all)
  abort_next true seen is e h =
      subst (λ k. Part xid k (SubtransactionAbort l ∷ all)) (some_is n m h) (abort_again xid n all p l is)
  abort_next false true is e h = absurd (cc)
  abort_next false false is e h =
      subst (λ k. Part xid k (SubtransactionAbort l ∷ all))
      (some_is (record n { seen = with_known l n.seen; undone = with_known l n.undone }) m h) (abort_first xid n all p l e)

  module _ (i : Item) where
    goes_on : (path : Option (List ℕ)) → path_to l n.path ≡ path → survived n (mark (Change l i)) path ≡ Some m
        → Part xid m (Change l i ∷ all)
    goes_on None is h = absurd (cc)
    goes_on (Some path) is h =
        subst (λ k. Part xid k (Change l i ∷ all)) (some_is (new xid n all p l i path (starts_with l n.path path is)
        (bottom_stays xid l n.path path is p.bottom) (on_with xid n all p l path is)) m h)
        (survives xid n all p l i path (starts_with l n.path path is) (bottom_stays xid l n.path path is p.bottom)
        (on_with xid n all p l path is))

    by_seen : (seen : Bool) → is_known l n.seen ≡ seen
        → survived n (mark (Change l i)) (cond seen (path_to l n.path) (Some (l ∷ n.path))) ≡ Some m → Part xid m (Change l i ∷ all)
    by_seen true is h = goes_on (path_to l n.path) refl h
    by_seen false is h =
        let starts : StartsWith l (l ∷ n.path) = record { outer = n.path; is = refl } in
        let there = ap (λ b. cond b (Some (l ∷ n.path)) (path_to xid n.path)) (other_xid xid l n.seen p.root is) ∙ p.bottom in
        subst (λ k. Part xid k (Change l i ∷ all))
        (some_is (new xid n all p l i (l ∷ n.path) starts there (begun_with xid n all p l is)) m h)
        (survives xid n all p l i (l ∷ n.path) starts there (begun_with xid n all p l is))

    item_next : (undone : Bool) → is_known l n.undone ≡ undone
        → cond undone (Some n) (survived n (mark (Change l i)) (path_with n l)) ≡ Some m → Part xid m (Change l i ∷ all)
    item_next true is h = subst (λ k. Part xid k (Change l i ∷ all)) (some_is n m h) (item_gone xid n all p l i is)
    item_next false is h = by_seen (is_known l n.seen) refl h

  next : (e : StreamedItem) → subxid_of e ≡ l → nested n (mark e) ≡ Some m → Part xid m (e ∷ all)
  next (Change subxid i) same h =
      subst (λ y. Part xid m (Change y i ∷ all)) (sym same)
      (item_next i (is_known l n.undone) refl
      (subst (λ y. item_nested n (mark (Change y i)) ≡ Some m) same (sym (item_as n (mark (Change subxid i)) i) ∙ h)))
  next (SubtransactionAbort subxid) same h =
      subst (λ y. Part xid m (SubtransactionAbort y ∷ all)) (sym same)
      (abort_next (is_known l n.undone) (is_known l n.seen) refl refl
      (subst (λ y. abort_nested n y ≡ Some m) same h))

part : (xid : ℕ) (all : List StreamedItem) (n : Nesting) → nest (at_end xid) (marks all) ≡ Ok n → Part xid n all
part xid [] n e = subst (λ k. Part xid k []) (ok_is (at_end xid) n (nest (at_end xid) []) refl e) (start xid)
part xid (x ∷ all) n e = go (nest (at_end xid) (marks all)) e (λ m. part xid all m)
  where
    go : (r : Result Nesting Noted) → then_nested (mark x) r ≡ Ok n → ((m : Nesting) → r ≡ Ok m → Part xid m all)
        → Part xid n (x ∷ all)
    go (Err y) e rest = absurd (cc)
    go (Ok m) e rest = next xid m n all (rest m refl) (subxid_of x) x refl (or_is (mark x) (nested m (mark x)) n e)

-- ---- the law

module _ (xid : ℕ) (all : List StreamedItem) (n : Nesting) (p : Part xid n all) where
  whole : (cs : List RowChange) → Shown n.path n.seen p.gone p.s p.sv cs → IsStreamed xid all p.sv cs
  whole cs shown =
      let left = left_to xid n.path (xid ∷ []) p.s p.sv cs shown.xs p.bottom shown.zipped in
      let u = rolled_back p.gone p.dead xid [] p.s p.sv cs left.0 p.is left.1 in
      let z = u.1 in
      let xs_are : u.0 ≡ xid ∷ xids_of z.0 =
      z.10 ∙ ap (λ t. xid ∷ (xids_of z.0 ++ t)) z.13.3 ∙ ap (λ t. xid ∷ t) (append-nil (xids_of z.0)) in
      let s_is : z.1 ≡ all = sym (p.parts ∙ z.7 ∙ ap (λ t. z.1 ++ t) z.13.0 ∙ append-nil z.1) in
      let sv_is : z.3 ≡ p.sv = sym (z.8 ∙ ap (λ t. z.3 ++ t) z.13.1 ∙ append-nil z.3) in
      let cs_are : surviving_changes z.0 ≡ cs =
      sym (z.9 ∙ ap (λ t. surviving_changes z.0 ++ t) z.13.2 ∙ append-nil (surviving_changes z.0)) in (
        z.0,
        z.12,
        subst AllDiffer xs_are (differ u.0 (λ x. counted (times x u.0) (times x p.gone) (times x left.0) (times x shown.xs) (u.2 x)
            (left.2 x) (shown.once x))),
        cs_are,
        subst (λ t. IsStreamOf z.0 xid t p.sv) s_is (subst (λ t. IsStreamOf z.0 xid z.1 t) sv_is z.11),
      )
    where
      counted : (u g l x : ℕ) → u ≡ g + l → l ≡ x → g + x ≤ 1 → u ≤ 1
      counted u g l x e f h = omega arith

-- ---- a work without regard to definitions

abbrev Total : (ℕ → Option RelationDef) → Type 0
Total find = (oid : ℕ) → (def : RelationDef) × (find oid ≡ Some def)

abbrev blank : ℕ → Option RelationDef
blank oid = Some (record { oid = oid; namespace = []; name = []; letter = 0; columns = [] })

finds_blank : Finds blank
finds_blank oid def e = let same : record { oid = oid; namespace = []; name = []; letter = 0; columns = [] } ≡ def = cc in
    sym (ap (λ (d : RelationDef). d.oid) same)

total_behind : (i : Item) (find : ℕ → Option RelationDef) → Total find → Total (found_behind i find)
total_behind (item.Relation def) find total oid =
    elim (eqb def.oid oid) as (λ b. (d : RelationDef) × (cond b (Some def) (find oid) ≡ Some d)) [
      | true ↦ (def, refl)
      | false ↦ total oid
    ]
total_behind (item.Insert o row) find total oid = total oid
total_behind (item.Update o prior row) find total oid = total oid
total_behind (item.Delete o kind row) find total oid = total oid
total_behind (item.Truncate options oids) find total oid = total oid

all_defined : (find : ℕ → Option RelationDef) → Total find → (oids : List ℕ) → (ds : List RelationDef) × (definitions_of find oids ≡ Ok ds)
all_defined find total [] = ([], refl)
all_defined find total (oid ∷ oids) =
    let first = total oid in
    let rest = all_defined find total oids in
    (first.0 ∷ rest.0, ap (λ o. with_definition oid o (definitions_of find oids)) first.1 ∙ ap (with_definition oid (Some first.0)) rest.1)

all_described : (items : List Item) (find : ℕ → Option RelationDef) → Total find
    → (cs : List RowChange) × (described_from find items ≡ Ok cs)
all_described [] find total = ([], refl)
all_described (i ∷ items) find total =
    let ds = all_defined find total (named i) in
    let rest = all_described items (found_behind i find) (total_behind i find total) in (
      changes_of i ds.0 ++ rest.0,
      ap (λ r. with_changes i r (described_from (found_behind i find) items)) ds.1 ∙ ap (with_changes i (Ok ds.0)) rest.1,
    )

-- what is known where all is nested
pub record IsNested (xid : ℕ) (streamed : List StreamedItem) (noted : List Noted) : Type 0 where
  pub items : List Item
  pub same : map what_of items ≡ whats noted
  pub some : (earlier : List RelationDef) (changes : List RowChange) → described earlier items ≡ Ok changes
      → IsStreamed xid streamed items changes
  pub any : (changes : List RowChange) × IsStreamed xid streamed items changes

pub is_nested : (xid : ℕ) (streamed : List StreamedItem) (n : Nesting) → nest (at_end xid) (marks streamed) ≡ Ok n
    → IsNested xid streamed n.surviving
is_nested xid streamed n e =
    let p = part xid streamed n e in
    let all = all_described p.sv blank (λ oid. (_, refl)) in
    record {
      items = p.sv;
      same = p.same;
      some = λ earlier changes d.
          whole xid streamed n p changes (p.shown (λ oid. last_of oid earlier) (finds_last earlier) changes d);
      any = (all.0, whole xid streamed n p all.0 (p.shown blank finds_blank all.0 all.1));
    }

pub nested_is_streamed : NestedIsStreamed
nested_is_streamed xid streamed n e = let k = is_nested xid streamed n e in (k.items, k.same, k.some)
