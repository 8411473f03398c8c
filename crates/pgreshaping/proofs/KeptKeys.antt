-- Which key cells a row has under columns that come in the place of others.
use Rattle.std.proofs.Common.{◌≡◌, ℕ, suc, List, [], ◌∷◌, length, map, Bool, true, false, refl, sym}
use Rattle.std.proofs.Common.{ap}
use Rattle.std.proofs.Common.{◌∙◌, arith, true≢false}
use Rattle.std.specs.Prelude.{◌&&◌, ◌||◌, ◌==◌, if◌then◌else◌}
use Rattle.std.specs.List.{list_any}
use Rattle.std.proofs.lemmas.Bool.{or_parts}
use Rattle.std.proofs.lemmas.List.{length-map}
use Rattle.pgtuple.specs.declared.cell.Cell.{Cell}
use Rattle.pglogical.specs.declared.message.Column.{Column}
use Rattle.pglogical.specs.declared.message.RelationDef.{RelationDef}
use Rattle.pglogical.specs.Spelling.{IsDefinition}
use Rattle.pgrel.specs.Identity.{keyed, key_cells, identity_default, identity_index}
use Rattle.pgrel.specs.Carried.{carried_cells, has_name, named_cell}
use Rattle.pgtables.specs.Kept as stored
use Rattle.pgencoded.specs.Spelled.{spelled_definition}
use Rattle.pgreshaping.specs.Carries.{IsReadAs, flags_and_names}
use Rattle.pgreshaping.specs.Rewrites.{BeginsKey, KeepsKey, LeavesKey, StaysKnown}

-- ---- a column goes before others

one_later : (k n : Bool) (a b : Cell) (p q : List Cell) → (k && n) ≡ false → p ≡ q
    → (if k then ((if n then a else b) ∷ p) else p) ≡ (if k then (b ∷ q) else q)
one_later true true a b p q off e = absurd (true≢false off)
one_later true false a b p q off e = ap (λ l. b ∷ l) e
one_later false n a b p q off e = e

-- it changes no cell of a key column with another name
pub key_later : (c : Column) (cs : List Column) (x : Cell) (xs : List Cell) (new : List Column)
    → list_any (λ (d : Column). d.key && has_name d.name c) new ≡ false
    → key_cells new (carried_cells (c ∷ cs) (x ∷ xs) new) ≡ key_cells new (carried_cells cs xs new)
key_later c cs x xs [] none = refl
key_later c cs x xs (d ∷ new) none =
    let parts = or_parts (d.key && has_name d.name c) (list_any (λ (d : Column). d.key && has_name d.name c) new) none in
    one_later d.key (has_name d.name c) x (named_cell d.name cs xs) _ _ parts.0 (key_later c cs x xs new parts.1)

first_named : (n : Bool) (a b : Cell) → n ≡ true → (if n then a else b) ≡ a
first_named true a b e = refl
first_named false a b e = absurd (true≢false (sym e))

not_keyed : (k : Bool) (x : Cell) (p : List Cell) → k ≡ false → p ≡ (if k then (x ∷ p) else p)
not_keyed true x p e = absurd (true≢false e)
not_keyed false x p e = refl

is_keyed : (k : Bool) (x : Cell) (p : List Cell) → k ≡ true → (x ∷ p) ≡ (if k then (x ∷ p) else p)
is_keyed true x p e = refl
is_keyed false x p e = absurd (true≢false (sym e))

no_cell : (n : ℕ) → 0 ≡ suc n → ⊥
no_cell n e = omega (arith, e)

less_one : (n m : ℕ) → suc n ≡ suc m → n ≡ m
less_one n m e = omega (arith, e)

-- it isn't of the key
pub leaves_other : (c : Column) (new : List Column) → c.key ≡ false → list_any (λ (d : Column). d.key && has_name d.name c) new ≡ false
    → LeavesKey c new new
leaves_other c new other none old keeps [] width = absurd (no_cell (length old) width)
leaves_other c new other none old keeps (x ∷ xs) width =
    key_later c old x xs new none ∙ keeps xs (less_one _ _ width) ∙ not_keyed c.key x (key_cells old xs) other

-- it is of the key, and the first of the others has its name
pub leaves_own : (c : Column) (new left : List Column) → c.key ≡ true → BeginsKey c new left
    → list_any (λ (d : Column). d.key && has_name d.name c) left ≡ false → LeavesKey c new left
leaves_own c new left own begins none old keeps [] width = absurd (no_cell (length old) width)
leaves_own c new left own begins none old keeps (x ∷ xs) width =
    begins.2 (λ d. named_cell d.name (c ∷ old) (x ∷ xs))
    ∙ (λ i. first_named (has_name begins.0.name c) x (named_cell begins.0.name old xs) begins.1 i
    ∷ (key_later c old x xs left none ∙ keeps xs (less_one _ _ width)) i)
    ∙ is_keyed c.key x (key_cells old xs) own

-- ---- the first column of a key

pub passes_other : (f : Column → Cell) (d : Column) (rest : List Column) (cells : List Cell) → d.key ≡ false
    → cells ≡ key_cells (d ∷ rest) (map f (d ∷ rest)) → cells ≡ key_cells rest (map f rest)
passes_other f d rest cells other e = e ∙ sym (not_keyed d.key (f d) (key_cells rest (map f rest)) other)

pub meets_own : (f : Column → Cell) (d : Column) (rest : List Column) (cells : List Cell) → d.key ≡ true
    → cells ≡ key_cells (d ∷ rest) (map f (d ∷ rest)) → cells ≡ f d ∷ key_cells rest (map f rest)
meets_own f d rest cells own e = e ∙ sym (is_keyed d.key (f d) (key_cells rest (map f rest)) own)

-- ---- no column is left

no_keys : (columns : List Column) (f : Column → Cell) → list_any (λ (c : Column). c.key) columns ≡ false
    → key_cells columns (map f columns) ≡ []
no_keys [] f none = refl
no_keys (c ∷ columns) f none =
    let parts = or_parts c.key (list_any (λ (c : Column). c.key) columns) none in
    sym (not_keyed c.key (f c) (key_cells columns (map f columns)) parts.0) ∙ no_keys columns f parts.1

pub keeps_none : (left : List Column) → list_any (λ (c : Column). c.key) left ≡ false → KeepsKey [] left
keeps_none left none cells width = no_keys left (λ c. named_cell c.name [] cells) none

-- ---- a definition that was read

head_same : {A : Type 0} (x y : A) (xs ys : List A) → ◌≡◌ {A = List A} (x ∷ xs) (y ∷ ys) → x ≡ y
head_same x y xs ys e = cc

rest_same : {A : Type 0} (x y : A) (xs ys : List A) → ◌≡◌ {A = List A} (x ∷ xs) (y ∷ ys) → xs ≡ ys
rest_same x y xs ys e = cc

any_key : (a b : List Column) → flags_and_names a ≡ flags_and_names b
    → list_any (λ (c : Column). c.key) a ≡ list_any (λ (c : Column). c.key) b
any_key [] [] e = refl
any_key [] (y ∷ b) e = absurd (cc)
any_key (x ∷ a) [] e = absurd (cc)
any_key (x ∷ a) (y ∷ b) e =
    λ i. ap (λ p. p.0) (head_same _ _ _ _ e) i || any_key a b (rest_same _ _ _ _ e) i

same_key_cells : (a b : List Column) (cells : List Cell) → flags_and_names a ≡ flags_and_names b → key_cells a cells ≡ key_cells b cells
same_key_cells [] [] cells e = refl
same_key_cells [] (y ∷ b) cells e = absurd (cc)
same_key_cells (x ∷ a) [] cells e = absurd (cc)
same_key_cells (x ∷ a) (y ∷ b) [] e = refl
same_key_cells (x ∷ a) (y ∷ b) (cell ∷ cells) e =
    let rest = same_key_cells a b cells (rest_same _ _ _ _ e) in
    λ i. if ap (λ p. p.0) (head_same _ _ _ _ e) i then (cell ∷ rest i) else rest i

by_key : (k : Bool) (a b : List Cell) → k ≡ true → (if k then a else b) ≡ a
by_key true a b e = refl
by_key false a b e = absurd (true≢false (sym e))

pub stays_known : (there before def : RelationDef) (at : stored.Definition) → IsReadAs at def before → IsDefinition there
    → at ≡ spelled_definition there → there.letter ≡ def.letter → keyed before ≡ true → keyed def ≡ true
    → KeepsKey before.columns def.columns → StaysKnown there before def
stays_known there before def at read is e letter was now keeps =
    let same = read.columns there is e in
    let same_keyed : keyed there ≡ keyed before =
    (λ i. ((letter ∙ sym read.letter) i == identity_default || (letter ∙ sym read.letter) i == identity_index)
    && any_key there.columns before.columns (sym same) i) in
    let keyed_there : keyed there ≡ true = same_keyed ∙ was in
    record {
      was_keyed = keyed_there;
      is_keyed = now;
      known = λ cells width.
          let fits : length cells ≡ length before.columns =
          width ∙ sym (length-map there.columns _) ∙ ap length (sym same) ∙ length-map before.columns _ in
          by_key (keyed def) _ _ now ∙ keeps cells fits ∙ same_key_cells before.columns there.columns cells same
          ∙ sym (by_key (keyed there) _ cells keyed_there);
    }
