-- Changes that are described one after the other.
use Rattle.std.proofs.Common.{◌≡◌, ◌≤◌, ◌+◌, inl, inr, true, subst, IfErr, OnOk, OnErr, ℕ, zero}
use Rattle.std.proofs.Common.{suc, List, [], ◌∷◌, ◌++◌, cond, Option, Some, None, Result, Ok, Err}
use Rattle.std.proofs.Common.{refl, sym, ap, ◌∙◌, append_assoc, arith, length, drop}
use Rattle.std.specs.Prelude.{◌==◌, option_map, slice_get, IsErrAnd, map as mapped}
use Rattle.std.proofs.lemmas.Bool.{cases_Bool}
use Rattle.std.proofs.Math.Path.{fun_ext}
use Rattle.std.proofs.lemmas.List.{drop_more, drop_all, append-nil}
use Rattle.std.proofs.lemmas.Option.{slice_get_within, get_or_from_slice_get}
use Rattle.std.specs.Ordering.{nat_cmp, eq_by_cmp}
use Rattle.std.specs.Cmp.{nat_cmp_total}
use Rattle.std.specs.FinMap as map
use Rattle.std.specs.FinMap.{get-insert}
use Rattle.std.proofs.lemmas.Bool.Decides.{nat_tests}
use Rattle.pglogical.specs.declared.message.RelationDef.{RelationDef}
use Rattle.pglogical.specs.declared.message.OldKind.{OldKind}
use Rattle.pglogical.specs.declared.message.Item.{Item}
use Rattle.pglogical.specs.declared.message.Item.TheVariants.{Relation, Insert, Update, Delete}
use Rattle.pglogical.specs.declared.message.Item.TheVariants.{Truncate}
use Rattle.pgtuple.specs.declared.cell.Cell.{Cell}
use Rattle.pgspool.specs.Labels.{LabelledItem, items_of}
use Rattle.pgapply.specs.declared.op.Op.TheVariants as op
use Rattle.pgapply.specs.Apply.{Change}
use Rattle.pgsub_core.specs.declared.fault.Fault.{Fault}
use Rattle.pgsub_core.specs.Server.Work.{changes_of}
use Rattle.pgsub_core.specs.Server.Described.{described_from, definitions_of, with_definition}
use Rattle.pgsub_core.specs.Server.Described.{with_changes, found_behind}
use Rattle.pgsub_core.specs.Machine.Replica.{RelationCache}
use Rattle.pgsub_core.specs.Calls.Drafts.{known_to, behind_changes, AreNumbered, Adds}
use Rattle.pgsub_core.specs.Calls.Drafts.{IsUndescribed, of_truncate, truncated, LacksDefinition}

same_test : (x y : ℕ) → eq_by_cmp nat_cmp x y ≡ (y == x)
same_test x y = grind (arith, nat_tests)

relation_adds_none : (def : RelationDef) (rest : Result (List Change) ℕ) → with_changes (Relation def) (Ok []) rest ≡ rest
relation_adds_none def (Ok changes) = refl
relation_adds_none def (Err missing) = refl

pub known_behind : (relations : RelationCache) (def : RelationDef)
    → found_behind (Relation def) (known_to relations) ≡ known_to (map.insert relations def.oid def)
known_behind relations def =
    fun_ext (λ oid. sym (get-insert nat_cmp_total relations def.oid def oid
    ∙ ap (λ b. cond b (Some def) (map.get relations oid)) (same_test oid def.oid)))

pub described-relation : (relations : RelationCache) (def : RelationDef) (items : List Item)
    → described_from (known_to (map.insert relations def.oid def)) items ≡ described_from (known_to relations) (Relation def ∷ items)
described-relation relations def items =
    sym (relation_adds_none def (described_from (found_behind (Relation def) (known_to relations)) items)
    ∙ ap (λ find. described_from find items) (known_behind relations def))

adds_changes : (done : List Change) (i : Item) (definitions : List RelationDef) (rest : Result (List Change) ℕ)
    → behind_changes (done ++ changes_of i definitions) rest ≡ behind_changes done (with_changes i (Ok definitions) rest)
adds_changes done i definitions (Ok changes) = ap Ok (append_assoc done (changes_of i definitions) changes)
adds_changes done i definitions (Err missing) = refl

module _ (relations : RelationCache) (oid : ℕ) (old new : List Change) (items : List Item) where
  pub described-insert : (row : List Cell) → Adds relations oid (op.Insert row) old new
      → behind_changes new (described_from (known_to relations) items)
      ≡ behind_changes old (described_from (known_to relations) (Insert oid row ∷ items))
  described-insert row adds =
      rw (adds.changes, adds.known) (adds_changes old (Insert oid row) (adds.def ∷ []) (described_from (known_to relations) items))

  pub described-update : (prior : Option (OldKind × List Cell)) (row : List Cell) → Adds relations oid (op.Update prior row) old new
      → behind_changes new (described_from (known_to relations) items)
      ≡ behind_changes old (described_from (known_to relations) (Update oid prior row ∷ items))
  described-update prior row adds =
      rw (adds.changes, adds.known) (adds_changes old (Update oid prior row) (adds.def ∷ []) (described_from (known_to relations) items))

  pub described-delete : (kind : OldKind) (row : List Cell) → Adds relations oid (op.Delete kind row) old new
      → behind_changes new (described_from (known_to relations) items)
      ≡ behind_changes old (described_from (known_to relations) (Delete oid kind row ∷ items))
  described-delete kind row adds =
      rw (adds.changes, adds.known) (adds_changes old (Delete oid kind row) (adds.def ∷ []) (described_from (known_to relations) items))

module _ (relations : RelationCache) (oid : ℕ) (f : Fault) (unknown : IsUndescribed relations oid f) (items : List Item) where
  pub lacks-insert : (row : List Cell) → LacksDefinition (described_from (known_to relations) (Insert oid row ∷ items)) f
  lacks-insert row = (oid, unknown.0, rw unknown.1 refl)

  pub lacks-update : (prior : Option (OldKind × List Cell)) (row : List Cell)
      → LacksDefinition (described_from (known_to relations) (Update oid prior row ∷ items)) f
  lacks-update prior row = (oid, unknown.0, rw unknown.1 refl)

  pub lacks-delete : (kind : OldKind) (row : List Cell)
      → LacksDefinition (described_from (known_to relations) (Delete oid kind row ∷ items)) f
  lacks-delete kind row = (oid, unknown.0, rw unknown.1 refl)

-- ---- a Truncate

module _ (relations : RelationCache) (options : ℕ) where
  truncate_adds : (old new : List Change) (definitions : Result (List RelationDef) ℕ) (rest : Result (List Change) ℕ)
      → behind_changes new (Ok []) ≡ behind_changes old (of_truncate definitions)
      → (oids : List ℕ) → behind_changes new rest ≡ behind_changes old (with_changes (Truncate options oids) definitions rest)
  truncate_adds old new (Ok definitions) rest h oids =
      let ends : new ++ [] ≡ old ++ mapped (λ (def : RelationDef). record { definition = def; op = op.Truncate }) definitions = cc in
      ap (λ changes. behind_changes changes rest) (sym (append-nil new) ∙ ends) ∙ adds_changes old (Truncate options oids) definitions rest
  truncate_adds old new (Err missing) rest h oids = absurd (cc)

  pub described-truncate : (oids : List ℕ) (old new : List Change) (items : List Item)
      → behind_changes new (Ok []) ≡ behind_changes old (truncated (known_to relations) oids)
      → behind_changes new (described_from (known_to relations) items)
      ≡ behind_changes old (described_from (known_to relations) (Truncate options oids ∷ items))
  described-truncate oids old new items h =
      truncate_adds old new (definitions_of (known_to relations) oids) (described_from (known_to relations) items) h oids

  missing_definition : (definitions : Result (List RelationDef) ℕ) (missing : ℕ) (oids : List ℕ) (rest : Result (List Change) ℕ)
      → of_truncate definitions ≡ Err missing → with_changes (Truncate options oids) definitions rest ≡ Err missing
  missing_definition (Ok definitions) missing oids rest h = absurd (cc)
  missing_definition (Err oid) missing oids rest h = let same : oid ≡ missing = cc in ap Err same

  pub lacks-truncate : (f : Fault) (oids : List ℕ) (items : List Item) → LacksDefinition (truncated (known_to relations) oids) f
      → LacksDefinition (described_from (known_to relations) (Truncate options oids ∷ items)) f
  lacks-truncate f oids items h =
      (h.0, h.1, missing_definition (definitions_of (known_to relations) oids) h.0 oids (described_from (known_to relations) items) h.2)

-- one relation more of a Truncate
one_more : (def : RelationDef) (cur next : List Change) (oid : ℕ) (definitions : Result (List RelationDef) ℕ)
    → next ≡ cur ++ record { definition = def; op = op.Truncate } ∷ []
    → behind_changes next (of_truncate definitions) ≡ behind_changes cur (of_truncate (with_definition oid (Some def) definitions))
one_more def cur next oid (Ok definitions) is =
    rw is (ap Ok (append_assoc cur (record { definition = def; op = op.Truncate } ∷ [])
    (mapped (λ (d : RelationDef). record { definition = d; op = op.Truncate }) definitions)))
one_more def cur next oid (Err missing) is = refl

pub truncates_one : (relations : RelationCache) (oid : ℕ) (oids : List ℕ) (cur next : List Change) → Adds relations oid op.Truncate cur next
    → behind_changes next (truncated (known_to relations) oids) ≡ behind_changes cur (truncated (known_to relations) (oid ∷ oids))
truncates_one relations oid oids cur next adds =
    rw adds.known (one_more adds.def cur next oid (definitions_of (known_to relations) oids) adds.changes)

pub lacks_one : (relations : RelationCache) (oid : ℕ) (oids : List ℕ) (f : Fault) → IsUndescribed relations oid f
    → LacksDefinition (truncated (known_to relations) (oid ∷ oids)) f
lacks_one relations oid oids f unknown = (oid, unknown.0, rw unknown.1 refl)

-- what lacks a definition behind changes that were described
pub lacks_behind : (done before : List Change) (rest whole : Result (List Change) ℕ) (f : Fault)
    → behind_changes done rest ≡ behind_changes before whole → LacksDefinition rest f → LacksDefinition whole f
lacks_behind done before rest (Ok changes) f h lacks = let e = lacks.2 in absurd (cc)
lacks_behind done before rest (Err missing) f h lacks = let e = lacks.2 in let same : missing ≡ lacks.0 = cc in
    (lacks.0, lacks.1, ap Err same)

-- once no item is left, all are described
pub described_whole : (done : List Change) (find : ℕ → Option RelationDef) (items : List Item) (n : ℕ) (whole : Result (List Change) ℕ)
    → length items ≤ n → behind_changes done (described_from find (drop n items)) ≡ behind_changes [] whole → whole ≡ Ok done
described_whole done find items n (Ok changes) le h =
    let ends : ◌≡◌ {A = Result (List Change) ℕ} (Ok (done ++ [])) (Ok changes) =
    ap (λ rest. behind_changes done (described_from find rest)) (sym (drop_all n items le)) ∙ h in
    sym ends ∙ ap Ok (append-nil done)
described_whole done find items n (Err missing) le h =
    let ends : ◌≡◌ {A = Result (List Change) ℕ} (Ok (done ++ [])) (Err missing) =
    ap (λ rest. behind_changes done (described_from find rest)) (sym (drop_all n items le)) ∙ h in
    absurd (cc)

-- ---- places

pub slice_get-drop : {A : Type 0} (xs : List A) (place : ℕ) (x : A) → slice_get xs place ≡ Some x → drop place xs ≡ x ∷ drop (place + 1) xs
slice_get-drop xs place x h =
    drop_more xs place x (slice_get_within xs place x h) ∙ ap (λ y. y ∷ drop (place + 1) xs) (get_or_from_slice_get xs place x x h)

slice_get-items_of : (held : List LabelledItem) (place : ℕ)
    → option_map (λ (l : LabelledItem). l.1) (slice_get held place) ≡ slice_get (items_of held) place
slice_get-items_of [] place = refl
slice_get-items_of (l ∷ held) zero = refl
slice_get-items_of (l ∷ held) (suc place) = slice_get-items_of held place

pub item_at : (held : List LabelledItem) (place : ℕ) (item : Item)
    → Some item ≡ option_map (λ (l : LabelledItem). l.1) (slice_get held place)
    → drop place (items_of held) ≡ item ∷ drop (place + 1) (items_of held)
item_at held place item found = slice_get-drop (items_of held) place item (sym (found ∙ slice_get-items_of held place))

pub items-length : (held : List LabelledItem) → length (items_of held) ≡ length held
items-length [] = refl
items-length (l ∷ held) = ap suc (items-length held)

-- ---- numbers of definitions

at_front : {A : Type 0} (xs ys : List A) (k : ℕ) (x : A) → slice_get xs k ≡ Some x → slice_get (xs ++ ys) k ≡ Some x
at_front [] ys k x h = absurd (cc)
at_front (y ∷ xs) ys zero x h = h
at_front (y ∷ xs) ys (suc k) x h = at_front xs ys k x h

at_end : {A : Type 0} (xs : List A) (x : A) → slice_get (xs ++ x ∷ []) (length xs) ≡ Some x
at_end [] x = refl
at_end (y ∷ xs) x = at_end xs x

one_oid : (a b : ℕ) → (a == b) ≡ true → a ≡ b
one_oid a b h = grind (arith, nat_tests)

same_some : {A : Type 0} (x y : A) → ◌≡◌ {A = Option A} (Some x) (Some y) → x ≡ y
same_some x y h = cc

module _ (relations : RelationCache) (definitions : List RelationDef) (numbers after : ℕ → Option ℕ) where
  pub numbered_then : (oid number : ℕ) (def : RelationDef) → AreNumbered relations definitions numbers → map.get relations oid ≡ Some def
      → number ≡ length definitions
      → ((o : ℕ) → after o ≡ cond (oid == o) (Some number) (numbers o)) → AreNumbered relations (definitions ++ def ∷ []) after
  numbered_then oid number def are known last says o n is = elim (cases_Bool (oid == o)) [
    | inl same ↦
        let one : number ≡ n = same_some number n (sym (says o ∙ ap (λ b. cond b (Some number) (numbers o)) same) ∙ is) in
        record {
          def = def;
          known = ap (map.get relations) (sym (one_oid oid o same)) ∙ known;
          at = ap (slice_get (definitions ++ def ∷ [])) (sym one ∙ last) ∙ at_end definitions def;
        }
    | inr other ↦
        let was = are o n (sym (says o ∙ ap (λ b. cond b (Some number) (numbers o)) other) ∙ is) in
        record { def = was.def; known = was.known; at = at_front definitions (def ∷ []) n was.def was.at }
  ]

  pub numbered_relation : (def : RelationDef) → AreNumbered relations definitions numbers → after def.oid ≡ None
      → ((o n : ℕ) → after o ≡ Some n → numbers o ≡ Some n)
      → AreNumbered (map.insert relations def.oid def) definitions after
  numbered_relation def are gone others o n is = elim (cases_Bool (def.oid == o)) [
    | inl same ↦ absurd (let none : after o ≡ None = ap after (sym (one_oid def.oid o same)) ∙ gone in cc)
    | inr other ↦
        let was = are o n (others o n is) in
        record {
          def = was.def;
          known = get-insert nat_cmp_total relations def.oid def o
              ∙ ap (λ b. cond b (Some def) (map.get relations o)) (same_test o def.oid ∙ other) ∙ was.known;
          at = was.at;
        }
  ]

-- a fault that `?` hands on
pub on_residual : {T E : Type 0} (r : Result T E) (e : E) (P : E → Type 0) → IsErrAnd r (λ y. y ≡ e) → P e → IfErr r P
on_residual (Ok t) e P h p = tt
on_residual (Err y) e P h p = subst P (sym h) p

-- a fault that `?` turns into this one
pub on_told : {T E : Type 0} (r : Result T E) (e : E) (Q P : E → Type 0) → IsErrAnd r (λ y. (y ≡ e) × Q y) → P e → IfErr r P
on_told (Ok t) e Q P h p = tt
on_told (Err y) e Q P h p = subst P (sym h.0) p

pub on_ok : {T E : Type 0} (r : Result T E) (A B : Type 0) → OnOk r A → (A → B) → OnOk r B
on_ok (Ok t) A B h go = go h
on_ok (Err e) A B h go = tt

pub on_ok_three : {T E : Type 0} (r : Result T E) (A A' A'' B : Type 0) → OnOk r A → OnOk r A' → OnOk r A'' → (A → A' → A'' → B) → OnOk r B
on_ok_three (Ok t) A A' A'' B h k l go = go h k l
on_ok_three (Err e) A A' A'' B h k l go = tt

pub on_ok_two : {T E : Type 0} (r : Result T E) (A A' B : Type 0) → OnOk r A → OnOk r A' → (A → A' → B) → OnOk r B
on_ok_two (Ok t) A A' B h k go = go h k
on_ok_two (Err e) A A' B h k go = tt

pub if_err : {T E : Type 0} (r : Result T E) (P Q : E → Type 0) → IfErr r P → ((e : E) → P e → Q e) → IfErr r Q
if_err (Ok t) P Q h go = tt
if_err (Err e) P Q h go = go e h

pub if_err_kept : {T E : Type 0} (r : Result T E) (P Q : E → Type 0) (A : Type 0) → IfErr r P → OnErr r A → ((e : E) → P e → A → Q e)
    → IfErr r Q
if_err_kept (Ok t) P Q A h k go = tt
if_err_kept (Err e) P Q A h k go = go e h k
