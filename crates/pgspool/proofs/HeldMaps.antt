-- The map of what is held, and what all of it costs.
use Rattle.std.proofs.Common.{◌≡◌, ◌+◌, ℕ, Bool, true, false, List, [], ◌∷◌, Option, None, Some}
use Rattle.std.proofs.Common.{cond, refl, sym, ap, ◌∙◌, arith, true≢false}
use Rattle.std.specs.Prelude.{is_some, unwrap_or, map as mapped}
use Rattle.std.specs.Ordering.{nat_cmp, eq_by_cmp, is_eq}
use Rattle.std.specs.declared.cmp.Ordering.{Ordering}
use Rattle.std.specs.declared.cmp.Ordering.TheVariants.{Less, Equal, Greater}
use Rattle.std.specs.Cmp.{nat_cmp_total}
use Rattle.std.specs.List.{sum_by}
use Rattle.std.specs.FinMap as map
use Rattle.std.specs.FinMap.{find, put, entries, get-entries, entries-insert, get-insert}
use Rattle.std.specs.FinMap.{get-remove, same_map, nat_cmp-IsAntisymmetric}
use Rattle.std.proofs.lemmas.List.{nil_from_length}
use Rattle.std.proofs.lemmas.List.Sums.{sum_by-cons}
use Rattle.std.proofs.lemmas.Bool.Decides.{nat_tests}
use Rattle.pgspool.specs.Labels.{LabelledItem, HeldMap, held_of, costs, all_costs}
use Rattle.pgspool.specs.Laws.{AllCostsChange, AllCostsShrink, ClosedStaysClosed}

abbrev Entries : Type 0
Entries = List (ℕ × List LabelledItem)

sum_of : Entries → ℕ
sum_of es = sum_by costs (mapped (λ e. e.1) es)

sum_of-cons : (e : ℕ × List LabelledItem) (es : Entries) → sum_of (e ∷ es) ≡ costs e.1 + sum_of es
unfolding sum_of
sum_of-cons e es = sum_by-cons costs e.1 (mapped (λ e. e.1) es)

not_Some : {A : Type 0} (x : A) → Some x ≡ None → ⊥
not_Some x e = true≢false (ap is_some e)

found-first : (xid : ℕ) (e : ℕ × List LabelledItem) (es : Entries) (o : Ordering) → nat_cmp xid e.0 ≡ o
    → find nat_cmp xid (e ∷ es) ≡ cond (is_eq o) (Some e.1) (find nat_cmp xid es)
found-first xid e es o is = ap (λ (o : Ordering). cond (is_eq o) (Some e.1) (find nat_cmp xid es)) is

put-first : (xid : ℕ) (items : List LabelledItem) (e : ℕ × List LabelledItem) (es : Entries) (o : Ordering) → nat_cmp xid e.0 ≡ o
    → put nat_cmp xid items (e ∷ es) ≡ map.Entries.by_order o ((xid, items) ∷ e ∷ es) ((e.0, items) ∷ es) (e ∷ put nat_cmp xid items es)
put-first xid items e es o is =
    ap (λ (o : Ordering). map.Entries.by_order o ((xid, items) ∷ e ∷ es) ((e.0, items) ∷ es) (e ∷ put nat_cmp xid items es)) is

swap_sums : (a b c : ℕ) → a + (b + c) ≡ b + (a + c)
swap_sums a b c = omega arith

sum_of-put : (xid : ℕ) (items : List LabelledItem) (es : Entries) → find nat_cmp xid es ≡ None
    → sum_of (put nat_cmp xid items es) ≡ costs items + sum_of es
sum_of-put xid items [] none = sum_of-cons (xid, items) []
sum_of-put xid items (e ∷ es) none =
    elim (nat_cmp xid e.0) as (λ o. nat_cmp xid e.0 ≡ o → sum_of (put nat_cmp xid items (e ∷ es)) ≡ costs items + sum_of (e ∷ es)) [
      | Less ↦ λ o. ap sum_of (put-first xid items e es Less o) ∙ sum_of-cons (xid, items) (e ∷ es)
      | Equal ↦ λ o. absurd (not_Some e.1 (sym (found-first xid e es Equal o) ∙ none))
      | Greater ↦ λ o. ap sum_of (put-first xid items e es Greater o) ∙ sum_of-cons e (put nat_cmp xid items es)
          ∙ ap (λ n. costs e.1 + n) (sum_of-put xid items es (sym (found-first xid e es Greater o) ∙ none))
          ∙ swap_sums (costs e.1) (costs items) (sum_of es)
          ∙ ap (λ n. costs items + n) (sym (sum_of-cons e es))
    ] refl

all_costs-insert_new : (held : HeldMap) (xid : ℕ) (items : List LabelledItem) → map.get held xid ≡ None
    → all_costs (map.insert held xid items) ≡ costs items + all_costs held
unfolding sum_of
all_costs-insert_new held xid items none =
    ap (λ (es : Entries). sum_by costs (mapped (λ e. e.1) es)) (entries-insert nat_cmp_total held xid items)
    ∙ sum_of-put xid items (entries held) (sym (get-entries held xid) ∙ none)

put_back : (a b : Bool) (x y : Option (List LabelledItem)) → (b ≡ true → x ≡ y) → cond b x (cond b None y) ≡ y
put_back a true x y e = e refl
put_back a false x y e = refl

pub same_key : (x : ℕ) → eq_by_cmp nat_cmp x x ≡ true
same_key x = grind (arith, nat_tests)

pub one_key : (x y : ℕ) → eq_by_cmp nat_cmp x y ≡ true → x ≡ y
one_key x y e = grind (arith, nat_tests)

pub same_held : (one other : HeldMap) → ((q : ℕ) → map.get one q ≡ map.get other q) → one ≡ other
same_held = same_map nat_cmp_total nat_cmp-IsAntisymmetric

-- an open transaction's items put back
insert-remove : (held : HeldMap) (xid : ℕ) (items : List LabelledItem) → map.get held xid ≡ Some items
    → held ≡ map.insert (map.remove held xid) xid items
insert-remove held xid items some = same_held held (map.insert (map.remove held xid) xid items) (λ q. sym (
    get-insert nat_cmp_total (map.remove held xid) xid items q
    ∙ ap (cond (eq_by_cmp nat_cmp q xid) (Some items)) (get-remove nat_cmp_total held xid q)
    ∙ put_back true (eq_by_cmp nat_cmp q xid) (Some items) (map.get held q) (λ e. sym some ∙ ap (map.get held) (sym (one_key q xid e)))))

insert_over : (b : Bool) (x y : Option (List LabelledItem)) → cond b x (cond b None y) ≡ cond b x y
insert_over true x y = refl
insert_over false x y = refl

insert-insert : (held : HeldMap) (xid : ℕ) (items : List LabelledItem)
    → map.insert held xid items ≡ map.insert (map.remove held xid) xid items
insert-insert held xid items = same_held (map.insert held xid items) (map.insert (map.remove held xid) xid items) (λ q.
    get-insert nat_cmp_total held xid items q ∙ sym (
    get-insert nat_cmp_total (map.remove held xid) xid items q
    ∙ ap (cond (eq_by_cmp nat_cmp q xid) (Some items)) (get-remove nat_cmp_total held xid q)
    ∙ insert_over (eq_by_cmp nat_cmp q xid) (Some items) (map.get held q)))

get-remove_same : (held : HeldMap) (xid : ℕ) → map.get (map.remove held xid) xid ≡ None
get-remove_same held xid = get-remove nat_cmp_total held xid xid ∙ ap (λ b. cond b None (map.get held xid)) (same_key xid)

none_there : (b : Bool) (x : Option (List LabelledItem)) → (b ≡ true → x ≡ None) → cond b None x ≡ x
none_there true x e = sym (e refl)
none_there false x e = refl

remove-absent : (held : HeldMap) (xid : ℕ) → map.get held xid ≡ None → map.remove held xid ≡ held
remove-absent held xid none = same_held (map.remove held xid) held (λ q. get-remove nat_cmp_total held xid q
    ∙ none_there (eq_by_cmp nat_cmp q xid) (map.get held q) (λ e. ap (map.get held) (one_key q xid e) ∙ none))

pub absent : (o : Option (List LabelledItem)) → is_some o ≡ false → o ≡ None
absent None e = refl
absent (Some x) e = absurd (true≢false e)

pub closed_stays_closed : ClosedStaysClosed
closed_stays_closed held xid closed = remove-absent held xid (absent (map.get held xid) closed)

pub all_costs_shrink : AllCostsShrink
all_costs_shrink held xid =
    elim (map.get held xid) as (λ o. map.get held xid ≡ o → all_costs (map.remove held xid) + costs (unwrap_or o []) ≡ all_costs held) [
      | None ↦ λ o. ap (λ (h : HeldMap). all_costs h + 0) (remove-absent held xid o) ∙ omega arith
      | Some items ↦ λ o.
          let whole : all_costs held ≡ costs items + all_costs (map.remove held xid) =
          ap all_costs (insert-remove held xid items o)
          ∙ all_costs-insert_new (map.remove held xid) xid items (get-remove_same held xid) in
          omega arith
    ] refl

pub all_costs_change : AllCostsChange
all_costs_change held xid items =
    let new : all_costs (map.insert held xid items) ≡ costs items + all_costs (map.remove held xid) =
    ap all_costs (insert-insert held xid items) ∙ all_costs-insert_new (map.remove held xid) xid items (get-remove_same held xid) in
    let old : all_costs (map.remove held xid) + costs (held_of held xid) ≡ all_costs held = all_costs_shrink held xid in
    omega arith

pub all_costs-empty : all_costs map.empty ≡ 0
all_costs-empty = ap (λ (es : Entries). sum_by costs (mapped (λ e. e.1) es))
    (no_entries (map.empty) (map.len-empty nat_cmp (List LabelledItem)))
  where
    no_entries : (m : HeldMap) → map.len m ≡ 0 → entries m ≡ []
    no_entries m e = nil_from_length (entries m) (sym (map.len-entries m) ∙ e)
