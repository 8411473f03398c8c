-- The lines of messages are read in one way.
use Rattle.std.proofs.Common.{◌≡◌, ◌<◌, ◌+◌, ℕ, List, [], ◌∷◌, ◌++◌, Bool, true, false, Option}
use Rattle.std.proofs.Common.{Some, None, Ok, refl, ap, ap₂, sym, ◌∙◌, cond, drop, length, arith}
use Rattle.std.proofs.Common.{append_assoc, get_or}
use Rattle.std.specs.Prelude.{codes}
use Rattle.std.specs.List.{AllByRecursion}
use Rattle.std.proofs.lemmas.List.{append_cancel_left}
use Rattle.json.specs.Print.{escape, escape_byte, quoted}
use Rattle.json.specs.Text.{content, plain}
use Rattle.json.proofs.Printed.Strings.{content-escape}
use Rattle.hex.specs.Hex.{IsBytes, decode_of, encode_lower}
use Rattle.hex.proofs.HexLemmas.{decode_of-encode_lower}
use Rattle.serde_json.specs.Data.{string}
use Rattle.serde_json.specs.Written.{compact_text}
use Rattle.pgjson.specs.Cells.{hex_data}
use Rattle.pglsn.specs.Texts.{lsn_text}
use Rattle.pglogical.specs.declared.message.RelationDef.{RelationDef}
use Rattle.pgledger.specs.declared.heard.Heard.{Heard}
use Rattle.pgledger.specs.declared.image.Image.{Image}
use Rattle.pgledger.specs.declared.image.Image.TheVariants.{Inserted, Updated, Deleted, Truncated}
use Rattle.pgledger.specs.declared.image.Image.TheVariants.{Missed}
use Rattle.pgledger.specs.Images.{Line}
use Rattle.pgfeed.specs.declared.told.Told.{Told}
use Rattle.pgfeed.specs.Fits.{FitsHeard}
use Rattle.pgfeed.specs.Reading.{MessagesAreTold}
use Rattle.pgfeed.specs.Texts.{body_text, content_data, fresh_text, image_line, is_text}
use Rattle.pgfeed.specs.Texts.{message_line, messages_text, named, place, table_front, table_line}
use Rattle.pgfeed.specs.Cutting.Fronts.{first_stop, lsn_injective, lsn_lacks}

-- ---- a message

-- a string is read in one way, whatever follows
one_string : (s t r q : List ℕ) → quoted s ++ r ≡ quoted t ++ q → (s ≡ t) × (r ≡ q)
one_string s t r q same =
    let behind : escape s ++ 34 ∷ r ≡ escape t ++ 34 ∷ q =
    sym (append_assoc (escape s) (34 ∷ []) r) ∙ ap (drop 1) same ∙ append_assoc (escape t) (34 ∷ []) q in
    let read : Some s ≡ Some t = sym (content-escape s r) ∙ ap (content plain) behind ∙ content-escape t q in
    let is : s ≡ t = cc in
    (is, append_cancel_left (quoted s) r q (same ∙ ap (λ xs. quoted xs ++ q) (sym is)))

hex_begins : (bytes r : List ℕ) → compact_text (hex_data bytes) ++ r
    ≡ 123 ∷ 34 ∷ 104 ∷ 101 ∷ 120 ∷ 34 ∷ 58 ∷ (quoted (encode_lower bytes) ++ 125 ∷ r)
unfolding escape_byte
hex_begins bytes r =
    ap (λ xs. 123 ∷ 34 ∷ 104 ∷ 101 ∷ 120 ∷ 34 ∷ 58 ∷ xs) (append_assoc (quoted (encode_lower bytes)) (125 ∷ []) r)

same_bytes : (a b : List ℕ) → IsBytes a → IsBytes b → encode_lower a ≡ encode_lower b → a ≡ b
same_bytes a b fits small same =
    let read : Ok a ≡ Ok b = sym (decode_of-encode_lower a fits) ∙ ap decode_of same ∙ decode_of-encode_lower b small in
    cc

never : (a b : ℕ) → a ≡ b → a < b → ⊥
never a b same less = omega arith

above : (a b : ℕ) → a ≡ b → b < a → ⊥
above a b same less = omega arith

-- a text isn't hexadecimal
apart : (a b r q : List ℕ) → quoted a ++ r ≡ compact_text (hex_data b) ++ q → ⊥
apart a b r q same = never 34 123 (ap (λ (xs : List ℕ). get_or xs 0 0) (same ∙ hex_begins b q)) (omega arith)

one_content : (is other : Bool) (a b r q : List ℕ) → IsBytes a → IsBytes b
    → compact_text (cond is (string a) (hex_data a)) ++ r ≡ compact_text (cond other (string b) (hex_data b)) ++ q → (a ≡ b) × (r ≡ q)
one_content true true a b r q fits small same = one_string a b r q same
one_content true false a b r q fits small same = absurd (apart a b r q same)
one_content false true a b r q fits small same = absurd (apart b a q r (sym same))
one_content false false a b r q fits small same =
    let behind : quoted (encode_lower a) ++ 125 ∷ r ≡ quoted (encode_lower b) ++ 125 ∷ q =
    ap (drop 7) (sym (hex_begins a r) ∙ same ∙ hex_begins b q) in
    let read = one_string (encode_lower a) (encode_lower b) (125 ∷ r) (125 ∷ q) behind in
    (same_bytes a b fits small read.0, ap (drop 1) read.1)

parts : (a b c d e f g r : List ℕ) → (a ++ (b ++ (c ++ (d ++ (e ++ (f ++ g)))))) ++ r ≡ a ++ (b ++ (c ++ (d ++ (e ++ (f ++ (g ++ r))))))
parts a b c d e f g r = simp append_assoc

-- what stands behind the prefix, and behind the LSN
abbrev behind_prefix : Heard → List ℕ → List ℕ
behind_prefix m r = codes ",\"content\":" ++ (compact_text (content_data m.content) ++ (codes "}\n" ++ r))

abbrev behind_lsn : Heard → List ℕ → List ℕ
behind_lsn m r = codes ",\"prefix\":" ++ (quoted m.prefix ++ behind_prefix m r)

line_parts : (m : Heard) (r : List ℕ) → message_line m ++ r ≡ codes "{\"op\":\"m\",\"lsn\":\"" ++ (lsn_text m.lsn ++ 34 ∷ behind_lsn m r)
line_parts m r =
    parts (codes "{\"op\":\"m\",\"lsn\":\"") (lsn_text m.lsn) (codes "\",\"prefix\":") (quoted m.prefix) (codes ",\"content\":")
    (compact_text (content_data m.content)) (codes "}\n") r

content_there : (a b r q : List ℕ) → IsBytes a → IsBytes b
    → compact_text (content_data a) ++ r ≡ compact_text (content_data b) ++ q → (a ≡ b) × (r ≡ q)
unfolding content_data
content_there a b r q fits small same = one_content (is_text a) (is_text b) a b r q fits small same

one_message : (m n : Heard) (r q : List ℕ) → FitsHeard m → FitsHeard n → message_line m ++ r ≡ message_line n ++ q → (m ≡ n) × (r ≡ q)
one_message m n r q fits small same =
    let whole : codes "{\"op\":\"m\",\"lsn\":\"" ++ (lsn_text m.lsn ++ 34 ∷ behind_lsn m r)
    ≡ codes "{\"op\":\"m\",\"lsn\":\"" ++ (lsn_text n.lsn ++ 34 ∷ behind_lsn n q) = sym (line_parts m r) ∙ same ∙ line_parts n q in
    let opened : lsn_text m.lsn ++ 34 ∷ behind_lsn m r ≡ lsn_text n.lsn ++ 34 ∷ behind_lsn n q = ap (drop 17) whole in
    let ends = first_stop 34 (lsn_text m.lsn) (lsn_text n.lsn) (behind_lsn m r) (behind_lsn n q) (lsn_lacks m.lsn fits.lsn_fits)
    (lsn_lacks n.lsn small.lsn_fits) opened in
    let lsn : m.lsn ≡ n.lsn = lsn_injective m.lsn n.lsn fits.lsn_fits small.lsn_fits ends.0 in
    let prefixes : quoted m.prefix ++ behind_prefix m r ≡ quoted n.prefix ++ behind_prefix n q = ap (drop 10) ends.1 in
    let prefix = one_string m.prefix n.prefix (behind_prefix m r) (behind_prefix n q) prefixes in
    let contents : compact_text (content_data m.content) ++ (codes "}\n" ++ r)
    ≡ compact_text (content_data n.content) ++ (codes "}\n" ++ q) = ap (drop 11) prefix.1 in
    let last = content_there m.content n.content (codes "}\n" ++ r) (codes "}\n" ++ q) fits.content_fits small.content_fits contents in
    (λ i. record { lsn = lsn i; prefix = prefix.0 i; content = last.0 i }, ap (drop 2) last.1)

-- ---- no change begins as a message

-- the letter of an operation
abbrev letter : List ℕ → ℕ
letter text = get_or text 7 0

change_letter : (at n : ℕ) (image : Image) (r : List ℕ) → letter (image_line at n image ++ r) ≡ 109 → ⊥
change_letter at n (Inserted row) r is = never 99 109 is (omega arith)
change_letter at n (Updated old new) r is = above 117 109 is (omega arith)
change_letter at n (Deleted row) r is = never 100 109 is (omega arith)
change_letter at n Truncated r is = above 116 109 is (omega arith)
change_letter at n (Missed old new) r is = above 120 109 is (omega arith)

table_letter : (def : RelationDef) (r : List ℕ) → letter (table_line def ++ r) ≡ 109 → ⊥
unfolding table_front
table_letter def r is = above 116 109 is (omega arith)

first_letter : (found : Option ℕ) (def : RelationDef) (at n : ℕ) (image : Image) (r : List ℕ)
    → letter ((fresh_text found def ++ image_line (named found at) n image) ++ r) ≡ 109 → ⊥
first_letter (Some place) def at n image r is = change_letter place n image r is
first_letter None def at n image r is =
    table_letter def (image_line at n image ++ r) (ap letter (sym (append_assoc (table_line def) (image_line at n image) r)) ∙ is)

no_message : (told : List Told) (at n : ℕ) (lines : List Line) (m : Heard) (q : List ℕ)
    → body_text told at n lines ≡ message_line m ++ q → ⊥
unfolding body_text
no_message told at n [] m q same = never 0 109 (ap letter same) (omega arith)
no_message told at n (line ∷ lines) m q same =
    first_letter (place told line.definition) line.definition at n line.image _ (ap letter same)

-- ---- the messages of a commit

abbrev NoMessage : List ℕ → Type 0
NoMessage text = (m : Heard) (q : List ℕ) → text ≡ message_line m ++ q → ⊥

one_list : (ms ns : List Heard) (xs ys : List ℕ) → AllByRecursion FitsHeard ms → AllByRecursion FitsHeard ns → NoMessage xs → NoMessage ys
    → messages_text ms ++ xs ≡ messages_text ns ++ ys → ms ≡ ns
unfolding messages_text
one_list [] [] xs ys fits small left right same = refl
one_list [] (n ∷ ns) xs ys fits small left right same =
    absurd (left n (messages_text ns ++ ys) (same ∙ append_assoc (message_line n) (messages_text ns) ys))
one_list (m ∷ ms) [] xs ys fits small left right same =
    absurd (right m (messages_text ms ++ xs) (sym same ∙ append_assoc (message_line m) (messages_text ms) xs))
one_list (m ∷ ms) (n ∷ ns) xs ys fits small left right same =
    let first = one_message m n (messages_text ms ++ xs) (messages_text ns ++ ys) fits.0 small.0
    (sym (append_assoc (message_line m) (messages_text ms) xs) ∙ same ∙ append_assoc (message_line n) (messages_text ns) ys) in
    ap₂ (λ x (xs : List Heard). x ∷ xs) first.0 (one_list ms ns xs ys fits.1 small.1 left right first.1)

pub one_telling : MessagesAreTold
one_telling front other e f body fits small is also =
    one_list e.messages f.messages
    (body_text is.told (length front + length (messages_text e.messages)) 0 e.lines)
    (body_text also.told (length other + length (messages_text f.messages)) 0 f.lines) fits small
    (λ m q same. no_message is.told (length front + length (messages_text e.messages)) 0 e.lines m q same)
    (λ m q same. no_message also.told (length other + length (messages_text f.messages)) 0 f.lines m q same) (sym is.body_is ∙ also.body_is)
