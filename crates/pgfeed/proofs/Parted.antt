-- A commit that comes in parts: its lines are those of the parts, one after the other.
use Rattle.std.proofs.Common.{◌≡◌, ◌+◌, ◌++◌, ℕ, suc, List, [], ◌∷◌, length, append_assoc}
use Rattle.std.proofs.Common.{append-nil}
use Rattle.std.proofs.Common.{length-append, ap, refl, sym, ◌∙◌, arith, Option}
use Rattle.pgcrc.specs.Covering.{Covers}
use Rattle.pgledger.specs.declared.heard.Heard.{Heard}
use Rattle.pgledger.specs.Images.{Line}
use Rattle.pgfeed.specs.declared.draft.Draft.{Draft}
use Rattle.pgfeed.specs.declared.told.Told.{Told}
use Rattle.pgapply.specs.declared.commit.About.{About}
use Rattle.pgcrc.specs.Crc.{crc32}
use Rattle.pgfeed.specs.Drafts.{IsDraft, IsLineOf, changes_at}
use Rattle.pgfeed.specs.Fits.{FitsLine}
use Rattle.pgfeed.specs.Texts.{body_text, commit_told, crc_text, entry_crc, line_text, line_told}
use Rattle.pgfeed.specs.Texts.{messages_text, padded, told_after}
use Rattle.pgfeed.proofs.Bodies.{no_text, none_told}

-- the lines of some changes, and then those of others
body_behind : (told : List Told) (at n : ℕ) (ls ms : List Line) → body_text told at n (ls ++ ms)
    ≡ body_text told at n ls ++ body_text (told_after told at n ls) (at + length (body_text told at n ls)) (n + length ls) ms
unfolding body_text told_after
body_behind told at n [] ms = ap (λ k. body_text told k n ms) (omega arith) ∙ ap (λ k. body_text told (at + 0) k ms) (omega arith)
body_behind told at n (line ∷ ls) ms =
    let own : List ℕ = line_text told at n line in
    let now : List Told = line_told told at line in
    let rest : List ℕ = body_text now (at + length own) (suc n) ls in
    let after : List Told = told_after now (at + length own) (suc n) ls in
    ap (λ xs. own ++ xs) (body_behind now (at + length own) (suc n) ls ms)
    ∙ sym (append_assoc own rest (body_text after (at + length own + length rest) (suc n + length ls) ms))
    ∙ ap (λ k. (own ++ rest) ++ body_text after k (suc n + length ls) ms) (omega (arith, length-append own rest))
    ∙ ap (λ k. (own ++ rest) ++ body_text after (at + length (own ++ rest)) k ms) (omega arith)

-- and what is told behind them
told_behind : (told : List Told) (at n : ℕ) (ls ms : List Line)
    → told_after told at n (ls ++ ms) ≡ told_after (told_after told at n ls) (at + length (body_text told at n ls)) (n + length ls) ms
unfolding body_text told_after
told_behind told at n [] ms = ap (λ k. told_after told k n ms) (omega arith) ∙ ap (λ k. told_after told (at + 0) k ms) (omega arith)
told_behind told at n (line ∷ ls) ms =
    let own : List ℕ = line_text told at n line in
    let now : List Told = line_told told at line in
    let rest : List ℕ = body_text now (at + length own) (suc n) ls in
    let after : List Told = told_after now (at + length own) (suc n) ls in
    told_behind now (at + length own) (suc n) ls ms
    ∙ ap (λ k. told_after after k (suc n + length ls) ms) (omega (arith, length-append own rest))
    ∙ ap (λ k. told_after after (at + length (own ++ rest)) k ms) (omega arith)

-- a draft of its messages alone
pub begins : (told : List Told) (size : ℕ) (messages : List Heard) (text : List ℕ) (d : Draft) → text ≡ messages_text messages
    → d.size ≡ length text → d.count ≡ 0 → d.told.items ≡ [] → Covers d.crc text → IsDraft told size messages [] text d
begins told size messages text d is long none untold covers = record {
  body_is = is ∙ sym (append-nil (messages_text messages))
      ∙ ap (λ xs. messages_text messages ++ xs) (sym (no_text told (changes_at size messages) 0));
  told_is = ap (λ ts. told ++ ts) untold ∙ append-nil told ∙ sym (none_told told (changes_at size messages) 0);
  size_is = long;
  count_is = none;
  covers = covers;
}

-- the changes of a part more
pub adds_lines : (told : List Told) (size : ℕ) (messages : List Heard) (ls ms : List Line) (body text : List ℕ) (old new : Draft)
    → IsDraft told size messages ls body old
    → text ≡ body_text (told ++ old.told.items) (size + 256 + old.size) old.count ms
    → told ++ new.told.items ≡ told_after (told ++ old.told.items) (size + 256 + old.size) old.count ms
    → new.size ≡ old.size + length text → new.count ≡ old.count + length ms → Covers new.crc (body ++ text)
    → IsDraft told size messages (ls ++ ms) (body ++ text) new
adds_lines told size messages ls ms body text old new k is tells long many covers =
    let heard : List ℕ = messages_text messages in
    let at : ℕ = changes_at size messages in
    let before : List ℕ = body_text told at 0 ls in
    let after : List Told = told_after told at 0 ls in
    let place : size + 256 + old.size ≡ at + length before =
    omega (arith, k.size_is, ap length k.body_is, length-append heard before) in
    let number : old.count ≡ 0 + length ls = omega (arith, k.count_is) in
    record {
      body_is = ap (λ xs. xs ++ text) k.body_is ∙ append_assoc heard before text
          ∙ ap (λ xs. heard ++ (before ++ xs)) (is ∙ ap (λ ts. body_text ts (size + 256 + old.size) old.count ms) k.told_is
          ∙ ap (λ p. body_text after p old.count ms) place ∙ ap (λ n. body_text after (at + length before) n ms) number)
          ∙ ap (λ xs. heard ++ xs) (sym (body_behind told at 0 ls ms));
      told_is = tells ∙ ap (λ ts. told_after ts (size + 256 + old.size) old.count ms) k.told_is
          ∙ ap (λ p. told_after after p old.count ms) place ∙ ap (λ n. told_after after (at + length before) n ms) number
          ∙ sym (told_behind told at 0 ls ms);
      size_is = omega (arith, long, k.size_is, length-append body text);
      count_is = omega (arith, many, k.count_is, length-append ls ms);
      covers = covers;
    }

-- the text of a part, which began as none
pub part_text : (text begun : List ℕ) (told : List Told) (start n : ℕ) (ls ms : List Line) → begun ≡ [] → ls ≡ ms
    → text ≡ begun ++ body_text told (start + length begun) n ls → text ≡ body_text told start n ms
part_text text begun told start n ls ms none same is =
    is ∙ ap (λ xs. xs ++ body_text told (start + length xs) n ls) none ∙ ap (λ k. body_text told k n ls) (omega arith)
    ∙ ap (body_text told start n) same

pub part_told : (now told : List Told) (begun : List ℕ) (start n : ℕ) (ls ms : List Line) → begun ≡ [] → ls ≡ ms
    → now ≡ told_after told (start + length begun) n ls → now ≡ told_after told start n ms
part_told now told begun start n ls ms none same is =
    is ∙ ap (λ xs. told_after told (start + length xs) n ls) none ∙ ap (λ k. told_after told k n ls) (omega arith)
    ∙ ap (told_after told start n) same

-- the line of the commit, whose checksum is of what it tells and of the draft's text
pub line_is : (told : List Told) (size prev end : ℕ) (about : Option About) (messages : List Heard) (ls : List Line)
    (body front line : List ℕ) (crc : ℕ) (d : Draft) → IsDraft told size messages ls body d
    → front ≡ commit_told end prev d.size d.count about
    → FitsLine end prev d.size d.count about → crc ≡ crc32 (front ++ body) → line ≡ padded 256 (front ++ crc_text crc)
    → IsLineOf prev end about messages ls body line
unfolding entry_crc
line_is told size prev end about messages ls body front line crc d k tells fits sums is = record {
  is = rw (is, sums, tells, k.size_is, k.count_is) refl;
  fits = rw (k.size_is, k.count_is) at fits;
}
