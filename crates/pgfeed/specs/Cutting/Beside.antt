-- A feed that is opened again keeps the entries up to the LSN, from the first segment that is
-- there.
use Rattle.std.proofs.Common.{◌≡◌, ◌<◌, ◌≤◌, ℕ, List, [], ◌∷◌, ◌++◌, append_assoc, ap, refl, sym}
use Rattle.std.proofs.Common.{◌∙◌, subst, arith, Bool}
use Rattle.std.specs.List.{AllByRecursion}
use Rattle.pgledger.specs.Entries.{Entry, last_end}
use Rattle.pgfeed.specs.declared.feed.Feed.{Feed}
use Rattle.pgfeed.specs.Beside.{KeepsRest, LastsFrom, told_from}
use Rattle.pgfeed.specs.Feeds.{KeepsAll, ReopensAt}
use Rattle.pgfeed.specs.Cutting.Following.{all_entries, cut_last}
use Rattle.pgfeed.specs.Cutting.Written.{ends_up}
use Rattle.pgfeed.specs.Cutting.Kept.{end_append}

-- entries above an LSN end above it
above_end : (p at : ℕ) (gone stay : List Entry) → p < at → AllByRecursion (λ (e : Entry). p < e.end) (gone ++ stay)
    → p < last_end at gone
above_end p at [] stay up all = up
above_end p at (g ∷ gone) stay up all = above_end p g.end gone stay all.0 all.1

-- those that end at or below an LSN aren't among the ones above it
pub split_at : (at p : ℕ) (gone stay told later : List Entry) → told ++ later ≡ gone ++ stay → last_end at gone ≤ p → last_end at told ≡ p
    → AllByRecursion (λ (e : Entry). p < e.end) later → (mid : List Entry) × (told ≡ gone ++ mid) × (stay ≡ mid ++ later)
split_at at p [] stay told later same low ends all = (told, refl, sym same)
split_at at p (g ∷ gone) stay [] later same low ends all =
    let above : AllByRecursion (λ (e : Entry). p < e.end) (g ∷ (gone ++ stay)) =
    subst (AllByRecursion (λ (e : Entry). p < e.end)) same all in
    let up = above_end p g.end gone stay above.0 above.1 in
    absurd (omega (arith, up, low))
split_at at p (g ∷ gone) stay (t ∷ told) later same low ends all =
    let head : t ≡ g = cc in
    let tail : told ++ later ≡ gone ++ stay = cc in
    let there : last_end g.end told ≡ p = subst (λ (x : Entry). last_end x.end told ≡ p) head ends in
    let more = split_at g.end p gone stay told later tail low there all in
    (more.0, (let rest = more.1 in cc), more.2)

module _ {F D : Type 0} (seen : D → List ℕ) (may_leave : D → List ℕ → Type 0) (is_clean : D → Bool) (is_true : F → Type 0)
    (places : F → List ℕ) (has : F → ℕ → List ℕ → Type 0) where
  -- where it begins is at or below where its entries end
  pub begins_low : (l : Feed F D) (es : List Entry) → KeepsAll seen may_leave is_clean is_true places has l es
      → l.begins ≤ last_end l.begins es
  begins_low l es k = ends_up l.begins es (all_entries seen may_leave is_clean is_true places has l es k)

  pub cut_ledger : ((d : D) → may_leave d (seen d)) → (old new : Feed F D) (p : ℕ) (told later : List Entry)
      → ReopensAt seen may_leave is_clean is_true places has old p new
      → KeepsRest seen may_leave is_clean is_true places has old (told ++ later) → last_end 0 told ≡ p
      → LastsFrom seen may_leave is_clean is_true places has old p
      → AllByRecursion (λ (e : Entry). p < e.end) later
      → KeepsRest seen may_leave is_clean is_true places has new told × (told_from new ≡ told_from old)
      × LastsFrom seen may_leave is_clean is_true places has new p
  cut_ledger may_stay old new p told later opened k ends lasting above =
      let split = split_at 0 p k.gone k.stay told later k.is (let low = lasting.0 in omega (arith, k.begins_is)) ends above in
      let mid : List Entry = split.0 in
      let kept : KeepsAll seen may_leave is_clean is_true places has old (mid ++ later) =
      subst (KeepsAll seen may_leave is_clean is_true places has old) split.2 k.kept in
      let there : last_end old.begins mid ≡ p =
      ap (λ q. last_end q mid) k.begins_is ∙ sym (end_append 0 k.gone mid) ∙ ap (last_end 0) (sym split.1) ∙ ends in
      let o = opened (mid ++ later) kept lasting.1.0 in
      let cut = cut_last seen may_leave is_clean is_true places has may_stay old new p o.0 mid later o.1 kept there lasting.1 o.2 o.3 o.4 in
      let last = cut.0 in
      let begins : new.begins ≡ last_end 0 (k.gone ++ last.before) =
      last.begins_is ∙ ap (λ q. last_end q last.before) k.begins_is ∙ sym (end_append 0 k.gone last.before) in
      let end : last_end new.begins last.stay ≡ p =
      ap (λ q. last_end q last.stay) last.begins_is ∙ sym (end_append old.begins last.before last.stay)
      ∙ ap (last_end old.begins) (sym last.is) ∙ there in
      let low = begins_low new last.stay last.kept in (
        record {
          gone = k.gone ++ last.before;
          stay = last.stay;
          is = split.1 ∙ ap (λ es. k.gone ++ es) last.is ∙ sym (append_assoc k.gone last.before last.stay);
          begins_is = begins;
          kept = last.kept;
        },
        refl,
        (omega (arith, low, end), cut.1),
      )
