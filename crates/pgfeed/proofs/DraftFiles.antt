-- The text of a draft in its file.
use Rattle.std.proofs.Common.{◌≡◌, ◌<◌, ◌≤◌, ◌+◌, ◌-◌, ◌++◌, ◌⊎◌, inl, inr, ℕ, List, [], ◌∷◌}
use Rattle.std.proofs.Common.{length}
use Rattle.std.proofs.Common.{length-append, get_or, ap, refl, sym, ◌∙◌, arith, subst, Option, Some}
use Rattle.std.proofs.Common.{⊎_elim}
use Rattle.std.proofs.lemmas.Bool.{cases_order}
use Rattle.std.proofs.lemmas.List.{get_or_append_left, get_or-append_right}
use Rattle.sqlite_disk.specs.Disk.{Holds, Torn}
use Rattle.pgapply.specs.declared.commit.About.{About}
use Rattle.pgledger.specs.declared.heard.Heard.{Heard}
use Rattle.pgledger.specs.Entries.{Entry}
use Rattle.pgledger.specs.Images.{Line}
use Rattle.pgfeed.specs.declared.draft.Draft.{Draft}
use Rattle.pgfeed.specs.declared.segment.Segment.{Segment}
use Rattle.pgfeed.specs.Cutting.Walking.{entry_length, entry_splits, own_length}
use Rattle.pgfeed.specs.Drafts.{HasDraft, IsDraft, IsLineOf, drafted}
use Rattle.pgfeed.specs.Fits.{FitsEntry}
use Rattle.pgfeed.specs.Next.{Adds, Remembers, next_body, next_text, next_told}
use Rattle.pgfeed.specs.Texts.{entry_text}
use Rattle.pgfeed.proofs.Following.{remembers_as}

none_or_some : (xs : List ℕ) → (length xs ≡ 0) ⊎ (0 < length xs)
none_or_some [] = inl refl
none_or_some (x ∷ xs) = inr (omega arith)

below_or_not : (a b : ℕ) → (a < b) ⊎ (b ≤ a)
below_or_not a b =
    ⊎_elim (λ (e : a ≡ b). inr (omega (arith, e))) (λ (o : (a < b) ⊎ (b < a)).
    ⊎_elim (λ (lt : a < b). inl lt) (λ (gt : b < a). inr (omega (arith, gt))) o) (cases_order a b)

-- two texts, one behind the other
holds_two : (file : List ℕ) (at : ℕ) (a b : List ℕ) → at + (length a + length b) ≤ length file
    → ((i : ℕ) → i < length a → get_or file (at + i) 0 ≡ get_or a i 0)
    → ((i : ℕ) → i < length b → get_or file (at + length a + i) 0 ≡ get_or b i 0) → Holds file at (a ++ b)
holds_two file at a b within first second = record {
  within = omega (arith, within, length-append a b);
  each = λ i lt. elim (below_or_not i (length a)) [
    | inl less ↦ first i less ∙ sym (get_or_append_left a b 0 i less)
    | inr more ↦
        let j : ℕ = i - length a in
        let here : get_or file (at + i) 0 ≡ get_or file (at + length a + j) 0 = ap (λ k. get_or file k 0) (omega arith) in
        here ∙ second j (omega (arith, lt, length-append a b)) ∙ sym (get_or-append_right a b (length a) i 0 refl more)
  ];
}

-- a text is written behind another one, which stays
pub holds_behind_text : (file new : List ℕ) (at : ℕ) (a b : List ℕ) → (0 < length a → Holds file at a)
    → Torn (at + length a) (length b) file new → (0 < length b → Holds new (at + length a) b) → 0 < length (a ++ b) → Holds new at (a ++ b)
holds_behind_text file new at a b first torn second some =
    let within : at + (length a + length b) ≤ length new = elim (none_or_some b) [
      | inl none ↦ let there = first (omega (arith, some, none, length-append a b)) in
          omega (arith, none, there.within, torn.no_shorter)
      | inr more ↦ let there = second more in omega (arith, there.within)
    ] in
    holds_two new at a b within
    (λ i lt. let there = first (omega arith) in
    torn.below (at + i) (omega (arith, there.within)) (omega arith) ∙ there.each i lt)
    (λ i lt. let there = second (omega arith) in there.each i lt)

-- a line is written into the room before a text, which stays
holds_line : (file new : List ℕ) (at : ℕ) (line body : List ℕ) → 0 < length line → (0 < length body → Holds file (at + length line) body)
    → Torn at (length line) file new → (0 < length line → Holds new at line) → Holds new at (line ++ body)
holds_line file new at line body some behind torn written =
    let head = written some in
    let within : at + (length line + length body) ≤ length new = elim (none_or_some body) [
      | inl none ↦ omega (arith, none, head.within)
      | inr more ↦ let there = behind more in omega (arith, there.within, torn.no_shorter)
    ] in
    holds_two new at line body within (λ i lt. head.each i lt)
    (λ i lt. let there = behind (omega arith) in
    torn.above (at + length line + i) (omega (arith, there.within)) (omega arith) ∙ there.each i lt)

module _ {D : Type 0} (seen : D → List ℕ) where
  -- the lines of a part are written behind those of the draft
  pub has_more : (old new : Segment D) (messages : List Heard) (ls ms : List Line) (text : List ℕ) (d more : Draft)
      → (k : HasDraft seen old messages ls) → k.draft ≡ d → new.size ≡ old.size → new.told.items ≡ old.told.items
      → new.draft ≡ Some more
      → (IsDraft old.told.items old.size messages ls k.body d
      → IsDraft old.told.items old.size messages (ls ++ ms) (k.body ++ text) more)
      → Torn (old.size + 256 + d.size) (length text) (seen old.disk) (seen new.disk)
      → (0 < length text → Holds (seen new.disk) (old.size + 256 + d.size) text) → HasDraft seen new messages (ls ++ ms)
  has_more old new messages ls ms text d more k same size tells there adds torn written =
      let is : IsDraft old.told.items old.size messages ls k.body d =
      subst (λ x. IsDraft old.told.items old.size messages ls k.body x) same k.is_draft in
      let place : old.size + 256 + d.size ≡ old.size + 256 + length k.body = omega (arith, is.size_is) in
      record {
        draft = more;
        body = k.body ++ text;
        there = there;
        is_draft = subst (λ n. IsDraft new.told.items n messages (ls ++ ms) (k.body ++ text) more) (sym size)
            (subst (λ ts. IsDraft ts old.size messages (ls ++ ms) (k.body ++ text) more) (sym tells) (adds is));
        holds = λ some. subst (λ n. Holds (seen new.disk) (n + 256) (k.body ++ text)) (sym size)
            (holds_behind_text (seen old.disk) (seen new.disk) (old.size + 256) k.body text k.holds
            (subst (λ p. Torn p (length text) (seen old.disk) (seen new.disk)) place torn)
            (subst (λ p. 0 < length text → Holds (seen new.disk) p text) place written) some);
      }

  -- the line of the commit is written before its lines
  pub adds_draft : (old new : Segment D) (end : ℕ) (about : Option About) (messages : List Heard) (ls : List Line) (line : List ℕ)
      (d : Draft) → (k : HasDraft seen old messages ls) → k.draft ≡ d → old.last < end
      → (IsDraft old.told.items old.size messages ls k.body d → IsLineOf old.last end about messages ls k.body line)
      → (0 < length line → Holds (seen new.disk) old.size line) → Torn old.size (length line) (seen old.disk) (seen new.disk)
      → new.size ≡ old.size + 256 + d.size → new.last ≡ end → Remembers (old.told.items ++ d.told.items) new.told.items
      → Adds seen old new (drafted end about messages ls)
  adds_draft old new end about messages ls line d k same above lines written torn size last told =
      let e : Entry = drafted end about messages ls in
      let is : IsDraft old.told.items old.size messages ls k.body d =
      subst (λ x. IsDraft old.told.items old.size messages ls k.body x) same k.is_draft in
      let it = lines is in
      let body : k.body ≡ next_body old e = is.body_is in
      let fits : FitsEntry old.last e (next_body old e) = subst (λ text. FitsEntry old.last e text) body it.fits in
      let long : length line ≡ 256 = ap length it.is ∙ own_length old.last e k.body it.fits in
      let text : line ++ k.body ≡ next_text old e =
      ap (λ xs. xs ++ k.body) it.is ∙ sym (entry_splits old.last e k.body) ∙ ap (entry_text old.last e) body in
      let behind : 0 < length k.body → Holds (seen old.disk) (old.size + length line) k.body =
      subst (λ n. 0 < length k.body → Holds (seen old.disk) (old.size + n) k.body) (sym long) k.holds in
      record {
        above = above;
        fits = fits;
        holds = subst (Holds (seen new.disk) old.size) text
            (holds_line (seen old.disk) (seen new.disk) old.size line k.body (omega (arith, long)) behind torn written);
        size_is = omega (arith, size, is.size_is, ap length body, entry_length old.last e (next_body old e) fits);
        last_is = last;
        told_is = remembers_as (old.told.items ++ d.told.items) (next_told old e) new.told.items is.told_is told;
      }
