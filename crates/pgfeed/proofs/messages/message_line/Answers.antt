use Rattle.std.proofs.Common.{◌≡◌, ◌++◌, List, ℕ, Result, IfOk, String, string_bytes, rules}
use Rattle.std.specs.Prelude.{codes}
use Rattle.std.specs.declared.alloc.AllocError.{AllocError}
use Rattle.std.specs.declared.alloc.Global.{Global}
use Rattle.json.specs.Print.{quoted}
use Rattle.serde_json.specs.Written.{compact_text}
use Rattle.pglsn.specs.Texts.{lsn_text}
use Rattle.pgfeed.specs.Texts.{content_data}
use Rattle.pgfeed.proofs.messages.message_line.Goals as goal

abbrev line : ℕ → List ℕ → List ℕ → List ℕ
line lsn prefix content =
    codes "{\"op\":\"m\",\"lsn\":\"" ++ (lsn_text lsn ++ (codes "\",\"prefix\":" ++ (prefix
    ++ (codes ",\"content\":" ++ (content ++ codes "}\n")))))

with_parts : (r : Result (String Global) AllocError) (lsn : ℕ) (a b a' b' : List ℕ) → a ≡ a' → b ≡ b'
    → IfOk r (λ s. string_bytes s ≡ line lsn a b) → IfOk r (λ s. string_bytes s ≡ line lsn a' b')
with_parts r lsn a b a' b' p q h = rw (← p, ← q) h

pub returns : goal.returns
returns c =
    let prefix : string_bytes c.in_ok-prefix.prefix ≡ quoted c.args.message.now.prefix = search rules in
    let content : string_bytes c.in_ok-content.content ≡ compact_text (content_data c.args.message.now.content) = search rules in
    with_parts _ _ _ _ (quoted c.args.message.now.prefix) (compact_text (content_data c.args.message.now.content)) prefix content
    c.format.ensures.ok
