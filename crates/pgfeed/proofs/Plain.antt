-- What a feed tells in JSON has no floats, so that its text is the compact one.
use Rattle.std.proofs.Common.{◌≡◌, ℕ, ℤ, pos, negsuc, List, [], ◌∷◌, Bool, true, false, Result, Ok}
use Rattle.std.proofs.Common.{Err, IfOk, refl, String, string_bytes, cond}
use Rattle.std.specs.declared.alloc.AllocError.{AllocError}
use Rattle.std.specs.declared.alloc.Global.{Global}
use Rattle.serde_json.specs.declared.value.Value.{Value}
use Rattle.serde_json.specs.Data.{Data, null, string}
use Rattle.serde_json.specs.Find.{is_float, of_integer}
use Rattle.serde_json.specs.View.{view}
use Rattle.serde_json.specs.Written.{compact_text, has_float}
use Rattle.pglogical.specs.declared.message.Column.{Column}
use Rattle.pglogical.specs.declared.message.RelationDef.{RelationDef}
use Rattle.pgrel.specs.Identity.{keyed}
use Rattle.pgjson.specs.Cells.{list}
use Rattle.pgfeed.specs.Texts.{columns_data, key_data, key_names}

integer_plain : (n : ℤ) → is_float (of_integer n) ≡ false
integer_plain (pos n) = refl
integer_plain (negsuc n) = refl

pub columns_plain : (columns : List Column) → has_float (columns_data columns) ≡ false
columns_plain [] = refl
columns_plain (column ∷ columns) = rw (integer_plain column.modifier, columns_plain columns)

key_plain : (key : Bool) (name : List ℕ) (names : List Data) → has_float (list names) ≡ false
    → has_float (list (cond key (string name ∷ names) names)) ≡ false
key_plain true name names plain = plain
key_plain false name names plain = plain

pub keys_plain : (columns : List Column) → has_float (list (key_names columns)) ≡ false
keys_plain [] = refl
keys_plain (column ∷ columns) = key_plain column.key column.name (key_names columns) (keys_plain columns)

if_keyed : (is : Bool) (names : List Data) → has_float (list names) ≡ false → has_float (cond is (list names) null) ≡ false
if_keyed true names plain = plain
if_keyed false names plain = refl

pub key_data_plain : (def : RelationDef) → has_float (key_data def) ≡ false
unfolding key_data
key_data_plain def = if_keyed (keyed def) (key_names def.columns) (keys_plain def.columns)

-- the text of a value that stands for data without floats
pub text_as : (text : Result (String Global) AllocError) (value : Value) (d : Data) → view value ≡ d → has_float d ≡ false
    → IfOk text (λ s. has_float (view value) ≡ false → string_bytes s ≡ compact_text (view value))
    → IfOk text (λ s. string_bytes s ≡ compact_text d)
text_as (Ok s) value d is plain h = rw is at (h (rw is plain))
text_as (Err e) value d is plain h = tt
