-- The changes that find no row, one after the other.
use Rattle.std.proofs.Common.{◌≡◌, ℕ, List, [], ◌∷◌, ◌++◌, append-nil, Bool, true, false}
use Rattle.std.proofs.Common.{Some, None, Result, Ok, Err, refl, sym, ap, ◌∙◌}
use Rattle.std.specs.Prelude.{if◌then◌else◌}
use Rattle.std.specs.FinMap as map
use Rattle.pglogical.specs.declared.message.RelationDef.{RelationDef}
use Rattle.pgapply.specs.declared.op.Op.{Op}
use Rattle.pgapply.specs.declared.misses.Misses.{Misses}
use Rattle.pgapply.specs.declared.fault.StoreFault.{StoreFault}
use Rattle.pgapply.specs.Value.{Rows, Tables}
use Rattle.pgapply.specs.Apply.{Change, ◌>>=◌, apply, fold_changes, found_rows}
use Rattle.pgapply.specs.Missing.{all_missing, behind, finds_none, missing, missing_in, oids_of}
use Rattle.pgapply.specs.Missing.{with_miss, with_misses}

-- ---- one change

none_behind : (r : Result Tables StoreFault) → behind r (λ _. []) ≡ []
none_behind (Ok next) = refl
none_behind (Err e) = refl

missing_one : (v : Tables) (change : Change) → all_missing v (change ∷ []) ≡ oids_of (missing v change)
unfolding all_missing
missing_one v change = ap (λ l. oids_of (missing v change) ++ l) (none_behind (apply v change)) ∙ append-nil (oids_of (missing v change))

noted_one : (missed : Bool) (end oid : ℕ) (before : Misses)
    → (if missed then with_miss before end oid else before) ≡ with_misses before end (oids_of (if missed then Some oid else None))
noted_one true end oid before = refl
noted_one false end oid before = refl

pub counted_one : (v : Tables) (def : RelationDef) (op : Op) (rows : Rows) → found_rows (map.get v def.oid) def op ≡ Ok rows
    → (end : ℕ) (before after : Misses) (missed : Bool) → missed ≡ finds_none def op rows
    → after ≡ (if missed then with_miss before end def.oid else before)
    → after ≡ with_misses before end (all_missing v (record { definition = def; op = op } ∷ []))
counted_one v def op rows found end before after missed tells noted =
    noted ∙ noted_one missed end def.oid before ∙ ap (λ b. with_misses before end (oids_of (if b then Some def.oid else None))) tells
    ∙ sym (ap (with_misses before end)
    (missing_one v (record { definition = def; op = op }) ∙ ap (λ r. oids_of (missing_in r def op)) found))

-- ---- several changes

misses_append : (a b : List ℕ) (m : Misses) (end : ℕ) → with_misses m end (a ++ b) ≡ with_misses (with_misses m end a) end b
misses_append [] b m end = refl
misses_append (x ∷ a) b m end = misses_append a b (with_miss m end x) end

append_twice : (a b c : List ℕ) → a ++ (b ++ c) ≡ a ++ b ++ c
append_twice [] b c = refl
append_twice (x ∷ a) b c = ap (λ l. x ∷ l) (append_twice a b c)

behind_then : (r : Result Tables StoreFault) (first : Tables → List ℕ) (folds : Tables → Result Tables StoreFault)
    (more whole : Tables → List ℕ) → ((t : Tables) → whole t ≡ first t ++ behind (folds t) more)
    → behind r whole ≡ behind r first ++ behind (r >>= folds) more
behind_then (Ok t) first folds more whole is = is t
behind_then (Err e) first folds more whole is = refl

missing_append : (a b : List Change) (v : Tables)
    → all_missing v (a ++ b) ≡ all_missing v a ++ behind (fold_changes v a) (λ next. all_missing next b)
unfolding all_missing fold_changes
missing_append [] b v = refl
missing_append (c ∷ a) b v =
    ap (λ l. oids_of (missing v c) ++ l)
    (behind_then (apply v c) (λ next. all_missing next a) (λ next. fold_changes next a) (λ next. all_missing next b)
    (λ next. all_missing next (a ++ b)) (missing_append a b))
    ∙ append_twice (oids_of (missing v c)) _ _

pub counted_more : (v next : Tables) (a b : List Change) (end : ℕ) (m : Misses) → fold_changes v a ≡ Ok next
    → with_misses m end (all_missing v (a ++ b)) ≡ with_misses (with_misses m end (all_missing v a)) end (all_missing next b)
counted_more v next a b end m made =
    ap (with_misses m end) (missing_append a b v ∙ ap (λ r. all_missing v a ++ behind r (λ next. all_missing next b)) made)
    ∙ misses_append (all_missing v a) (all_missing next b) m end

pub counted_none : (v : Tables) (end : ℕ) (m : Misses) → m ≡ with_misses m end (all_missing v [])
unfolding all_missing
counted_none v end m = refl
