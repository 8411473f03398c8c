use Rattle.std.proofs.Common.{◌≡◌, ◌++◌, ◌+◌, ℕ, suc, List, [], ◌∷◌, length, replicate, ap, ◌∙◌}
use Rattle.std.proofs.Common.{arith, length-append, append_assoc, string_bytes}
use Rattle.pgfeed.proofs.heads.padded.Goals as goal

-- a blank more, and one fewer after it
one_blank : (text old : List ℕ) (k n : ℕ) → n ≡ suc k → text ≡ old ++ 32 ∷ [] → text ++ replicate k 32 ≡ old ++ replicate n 32
one_blank text old k n more is = rw (more, is) (append_assoc old (32 ∷ []) (replicate k 32))

pub loop-text-preserved : goal.loop-text-preserved
unfolding lib.Utf8.encode
loop-text-preserved c =
    let is : string_bytes c.push.new.self ≡ string_bytes c.loop-text.text ++ 32 ∷ [] = c.in_ok-push.ensures.bytes in
    let long : length (string_bytes c.push.new.self) ≡ length (string_bytes c.loop-text.text) + 1 =
    ap length is ∙ length-append (string_bytes c.loop-text.text) (32 ∷ []) in
    record {
      padded = one_blank _ _ _ _ (omega arith) is ∙ c.loop-text.invariant.padded;
      within = omega arith;
    }
