-- Which bytes are told as a text, and how many bytes messages have.
use Rattle.std.proofs.Common.{◌≡◌, ◌+◌, ◌≤◌, ◌==◌, ℕ, List, [], ◌∷◌, ◌++◌, Bool, true, false}
use Rattle.std.proofs.Common.{Option, Some, None, refl, sym, ap, ◌∙◌, arith, append_assoc, Result}
use Rattle.std.proofs.Common.{Ok, Err, String, string_bytes, IfOk}
use Rattle.std.specs.Prelude.{IfSome}
use Rattle.std.specs.List.{list_any}
use Rattle.std.specs.declared.alloc.AllocError.{AllocError}
use Rattle.std.specs.declared.alloc.Global.{Global}
use Rattle.std.specs.Str.{IsUtf8, is_utf8}
use Rattle.std.proofs.lemmas.Str.{IsUtf8-from_is_utf8, is_utf8-from_IsUtf8}
use Rattle.json.specs.Print.{quoted}
use Rattle.serde_json.specs.Data.{string}
use Rattle.serde_json.specs.Written.{compact_text}
use Rattle.pgjson.specs.Cells.{hex_data}
use Rattle.pgledger.specs.declared.heard.Heard.{Heard}
use Rattle.pgfeed.specs.declared.hearing.Hearing.{Hearing}
use Rattle.pgfeed.specs.Hearing.{IsWithin, message_size, messages_size}
use Rattle.pgfeed.specs.Texts.{content_data, is_text, message_line, messages_text}

pub text_is : (bytes : List ℕ) → IsUtf8 bytes → list_any (λ b. b == 0) bytes ≡ false → is_text bytes ≡ true
unfolding is_text
text_is bytes utf8 none = rw (is_utf8-from_IsUtf8 bytes utf8, none) refl

pub zero_is_none : (bytes : List ℕ) → IsUtf8 bytes → list_any (λ b. b == 0) bytes ≡ true → is_text bytes ≡ false
unfolding is_text
zero_is_none bytes utf8 some = rw (is_utf8-from_IsUtf8 bytes utf8, some) refl

never_utf8 : (bytes : List ℕ) (is : Bool) → is_utf8 bytes ≡ is → (IsUtf8 bytes → ⊥) → is ≡ false
never_utf8 bytes true same none = absurd (none (IsUtf8-from_is_utf8 bytes same))
never_utf8 bytes false same none = refl

pub other_is_none : (bytes : List ℕ) → (IsUtf8 bytes → ⊥) → is_text bytes ≡ false
unfolding is_text
other_is_none bytes none = rw (never_utf8 bytes (is_utf8 bytes) refl none) refl

text_data : (bytes : List ℕ) → is_text bytes ≡ true → content_data bytes ≡ string bytes
unfolding content_data
text_data bytes is = rw is refl

other_data : (bytes : List ℕ) → is_text bytes ≡ false → content_data bytes ≡ hex_data bytes
unfolding content_data
other_data bytes is = rw is refl

pub as_text : (r : Result (String Global) AllocError) (text bytes : List ℕ) → text ≡ bytes → is_text bytes ≡ true
    → IfOk r (λ s. string_bytes s ≡ quoted text) → IfOk r (λ s. string_bytes s ≡ compact_text (content_data bytes))
as_text (Ok s) text bytes same is h = h ∙ ap quoted same ∙ ap compact_text (sym (text_data bytes is))
as_text (Err e) text bytes same is h = tt

pub as_hex : (r : Result (String Global) AllocError) (bytes : List ℕ) → is_text bytes ≡ false
    → IfOk r (λ s. string_bytes s ≡ compact_text (hex_data bytes)) → IfOk r (λ s. string_bytes s ≡ compact_text (content_data bytes))
as_hex (Ok s) bytes is h = h ∙ ap compact_text (sym (other_data bytes is))
as_hex (Err e) bytes is h = tt

size_more : (messages : List Heard) (m : Heard) → messages_size (messages ++ m ∷ []) ≡ messages_size messages + message_size m
size_more [] m = omega arith
size_more (x ∷ messages) m = let more = size_more messages m in omega (arith, more)

no_bytes : (limit : Option ℕ) (n : ℕ) → n ≡ 0 → IfSome limit (λ most. n ≤ most)
no_bytes None n none = tt
no_bytes (Some most) n none = omega (arith, none)

-- where nothing was heard, and behind one more that was
pub none_within : (limit : Option ℕ) (h : Hearing) → h.bytes ≡ 0 → h.messages.items ≡ [] → IsWithin limit h
none_within limit h none empty = record { counted = none ∙ ap messages_size (sym empty); within = no_bytes limit h.bytes none }

pub kept_within : (limit : ℕ) (old new : Hearing) (m : Heard) → IsWithin (Some limit) old
    → new.messages.items ≡ old.messages.items ++ m ∷ [] → new.bytes ≡ old.bytes + message_size m → new.bytes ≤ limit
    → IsWithin (Some limit) new
kept_within limit old new m within items bytes low = record {
  counted = omega (arith, bytes, within.counted, size_more old.messages.items m, ap messages_size items);
  within = low;
}

-- the line of one message more
pub one_more : (all text next : List ℕ) (here : List Heard) (m : Heard) (more : List Heard) → text ++ messages_text here ≡ all
    → here ≡ m ∷ more → next ≡ text ++ message_line m → next ++ messages_text more ≡ all
unfolding messages_text
one_more all text next here m more so is adds =
    ap (λ xs. xs ++ messages_text more) adds ∙ append_assoc text (message_line m) (messages_text more)
    ∙ ap (λ ms. text ++ messages_text ms) (sym is) ∙ so
