use Rattle.std.proofs.Common.{◌≡◌, ◌++◌, List, ℕ, Result, IfOk, String, string_bytes}
use Rattle.std.specs.Prelude.{codes}
use Rattle.std.specs.declared.alloc.AllocError.{AllocError}
use Rattle.std.specs.declared.alloc.Global.{Global}
use Rattle.serde_json.specs.Written.{compact_text}
use Rattle.pgjson.specs.Messages.{letter_data}
use Rattle.pgfeed.specs.Texts.{columns_data, key_data, table_rest}
use Rattle.pgfeed.proofs.tables.table_rest.Goals as goal

abbrev rest : List ℕ → List ℕ → List ℕ → List ℕ
rest letter key columns =
    codes "\"identity\":" ++ (letter ++ (codes ",\"key\":" ++ (key ++ (codes ",\"columns\":" ++ (columns ++ codes "}\n")))))

with_parts : (r : Result (String Global) AllocError) (a b c a' b' c' : List ℕ) → a ≡ a' → b ≡ b' → c ≡ c'
    → IfOk r (λ s. string_bytes s ≡ rest a b c) → IfOk r (λ s. string_bytes s ≡ rest a' b' c')
with_parts r a b c a' b' c' p q s h = rw (← p, ← q, ← s) h

pub returns : goal.returns
unfolding table_rest
returns c =
    let def = c.args.def.now in
    with_parts _ _ _ _ (compact_text (letter_data def.letter)) (compact_text (key_data def)) (compact_text (columns_data def.columns))
    c.in_ok-letter.ensures c.in_ok-key.ensures c.in_ok-columns.ensures c.format.ensures.ok
