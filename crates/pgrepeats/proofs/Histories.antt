-- What is noted of a history's commits, and what is answered of the next one.
use Rattle.std.proofs.Common.{◌≡◌, ◌≤◌, ◌<◌, ◌⊎◌, ◌∙◌, inl, inr, ⊎_elim, ℕ, List, [], ◌∷◌, Bool}
use Rattle.std.proofs.Common.{true, false}
use Rattle.std.proofs.Common.{Option, None, Some, Ok, refl, sym, ap, subst, arith}
use Rattle.std.proofs.Common.{if◌then◌else◌}
use Rattle.std.proofs.lemmas.Bool.{cases_eq, cases_order}
use Rattle.pgrepeats.specs.declared.commit.Commit.{Commit}
use Rattle.pgrepeats.specs.declared.fault.Contradiction.{Contradiction}
use Rattle.pgrepeats.specs.declared.fault.Contradiction.TheVariants as contradiction
use Rattle.pgrepeats.specs.declared.fault.Part.{Part}
use Rattle.pgrepeats.specs.declared.fault.Part.TheVariants as part
use Rattle.pgrepeats.specs.declared.past.Answer.{Answer}
use Rattle.pgrepeats.specs.declared.past.Answer.TheVariants as answer
use Rattle.pgrepeats.specs.declared.noted.Noted.{Noted}
use Rattle.pgrepeats.specs.declared.past.Past.{Past}
use Rattle.pgrepeats.specs.Past.{noted_at, commit_at, must_come, Answers, Begins, Contradicts}
use Rattle.pgrepeats.specs.Past.{IsBefore}
use Rattle.pgrepeats.specs.Past.{IsFirst, IsForgotten, IsLeftOut, IsNew, WasAnother}
use Rattle.pgrepeats.specs.Laws.{IsHistory, IsOf, IsNext, HasComeTo, EndsOne, IsPastOf}
use Rattle.pgrepeats.specs.Laws.{HistoriesAreNotContradicted, AnswersKeepThePast}
use Rattle.pgrepeats.specs.Laws.{SessionsKeepThePast}

-- ---- a history

above : (from : ℕ) (cs : List Commit) (d : Commit) → IsHistory from cs → IsOf cs d → (from ≤ d.lsn) × (d.lsn < d.end)
above from [] d h is = absurd is
above from (c ∷ cs) d h (inl e) =
    (subst (λ (x : Commit). from ≤ x.lsn) e h.0, subst (λ (x : Commit). x.lsn < x.end) e h.1)
above from (c ∷ cs) d h (inr is) =
    let rest = above c.end cs d h.2 is in (omega (arith, h.0, h.1, rest.0), rest.1)

one : (from : ℕ) (cs : List Commit) (c d : Commit) → IsHistory from cs → IsOf cs c → IsOf cs d → c.end ≡ d.end → c ≡ d
one from [] c d h is other e = absurd is
one from (x ∷ xs) c d h (inl a) (inl b) e = sym a ∙ b
one from (x ∷ xs) c d h (inl a) (inr b) e =
    let r = above x.end xs d h.2 b in
    let same : x.end ≡ c.end = ap (λ (y : Commit). y.end) a in
    absurd (omega (arith, r.0, r.1, same, e))
one from (x ∷ xs) c d h (inr a) (inl b) e =
    let r = above x.end xs c h.2 a in
    let same : x.end ≡ d.end = ap (λ (y : Commit). y.end) b in
    absurd (omega (arith, r.0, r.1, same, e))
one from (x ∷ xs) c d h (inr a) (inr b) e = one x.end xs c d h.2 a b e

apart : (from : ℕ) (cs : List Commit) (c d : Commit) → IsHistory from cs → IsOf cs c → IsOf cs d → c.end < d.end → c.end ≤ d.lsn
apart from [] c d h is other lt = absurd is
apart from (x ∷ xs) c d h (inl a) (inl b) lt =
    let same : c.end ≡ d.end = ap (λ (y : Commit). y.end) (sym a ∙ b) in absurd (omega (arith, same, lt))
apart from (x ∷ xs) c d h (inl a) (inr b) lt =
    let r = above x.end xs d h.2 b in
    let same : x.end ≡ c.end = ap (λ (y : Commit). y.end) a in
    omega (arith, r.0, same)
apart from (x ∷ xs) c d h (inr a) (inl b) lt =
    let r = above x.end xs c h.2 a in
    let same : x.end ≡ d.end = ap (λ (y : Commit). y.end) b in
    absurd (omega (arith, r.0, r.1, same, lt))
apart from (x ∷ xs) c d h (inr a) (inr b) lt = apart x.end xs c d h.2 a b lt

-- up to there, or behind it
up_to : (a b : ℕ) → (a ≤ b) ⊎ (b < a)
up_to a b =
    ⊎_elim (λ (e : a ≡ b). inl (omega (arith, e))) (λ (o : (a < b) ⊎ (b < a)).
    ⊎_elim (λ (lt : a < b). inl (omega (arith, lt))) (λ (gt : b < a). inr gt) o) (cases_order a b)

some_is : (a b : ℕ) → Some a ≡ Some b → a ≡ b
some_is a b e = cc

module _ (history : List Commit) (p : Past) (at : ℕ) (d : Commit) (h : IsHistory 0 history) (i : IsPastOf history p at)
    (next : IsNext history at d) where
  -- ---- what is answered isn't a contradiction

  same_at : (n : Noted) → noted_at p d.end ≡ Some n → commit_at d.end n ≡ d
  same_at n e = one 0 history (commit_at d.end n) d h (i.noted d.end n e).0 next.is refl

  not_another : (x : Part) → WasAnother p d x → ⊥
  not_another part.Lsn (n, e, differs) = differs (ap (λ (c : Commit). c.lsn) (same_at n e))
  not_another part.Xid (n, e, differs) = differs (ap (λ (c : Commit). c.xid) (same_at n e))
  not_another part.Time (n, e, differs) = differs (ap (λ (c : Commit). c.time) (same_at n e))
  not_another part.Changes (n, e, differs) = differs (ap (λ (c : Commit). c.digest) (same_at n e))

  not_passed : (l : ℕ) (c : Commit) → p.last ≡ Some l → IsOf history c → must_come c ≡ true → l < c.end → c.end < d.end → ⊥
  not_passed l c e is must lo hi =
      ⊎_elim (λ (came : c.end ≤ at). (i.last l e).1 c is must lo came) (λ (left : at < c.end). next.none c is must left hi)
      (up_to c.end at)

  not_left : (l end : ℕ) → p.last ≡ Some l → l < end → end < d.end → EndsOne history end → ⊥
  not_left l end e lt below (inl zero) = omega (arith, lt, zero)
  not_left l end e lt below (inr (c, is, must, same)) =
      not_passed l c e is must (omega (arith, lt, same)) (omega (arith, below, same))

  not_left_out : (end : ℕ) (o : Option ℕ) → p.last ≡ o → IsLeftOut o end → end < d.end → EndsOne history end → ⊥
  not_left_out end None e out below ends = out
  not_left_out end (Some l) e out below ends = not_left l end e out below ends

  before_is : (end : ℕ) → IsBefore p d end → (end < d.end) × EndsOne history end
  before_is end (inl (n, e, same)) =
      let k = i.noted d.end n e in (omega (arith, k.4, same), subst (EndsOne history) same k.3)
  before_is end (inr (over, same)) =
      (omega (arith, over, same, i.changed.1), subst (EndsOne history) same i.changed.0)

  not_over : (lsn : ℕ) → lsn ≡ d.lsn → p.newest < d.end → d.lsn < p.newest
      → (p.newest ≡ 0) ⊎ ((c : Commit) × IsOf history c × (c.end ≡ p.newest)) → ⊥
  not_over lsn e over under (inl zero) = omega (arith, under, zero)
  not_over lsn e over under (inr (c, is, same)) =
      let k = apart 0 history c d h is next.is (omega (arith, same, over)) in omega (arith, k, same, under)

  not_contradicted : (x : Contradiction) → Contradicts p d x → ⊥
  not_contradicted (contradiction.Another end x) (e, was) = not_another x was
  not_contradicted (contradiction.Inserted end) (e, was) = i.whole d next.is was.3 was.1 was.2 was.0
  not_contradicted (contradiction.LeftOut end) (b, out) =
      let k = before_is end b in not_left_out end p.last refl out k.0 k.1
  not_contradicted (contradiction.Overlaps lsn end) (e, same, over, under) = not_over lsn e over under i.newest

  -- ---- it came before

  kept_equal : (n : Noted) → noted_at p d.end ≡ Some n → IsPastOf history (record p { last = Some d.end }) d.end
  kept_equal n e =
      let k = i.noted d.end n e in
      record {
        noted = i.noted;
        whole = i.whole;
        changed = i.changed;
        newest = i.newest;
        since = i.since;
        ahead = λ some c is must over. omega (arith, over, k.2);
        last = λ l same.
            let eq : d.end ≡ l = some_is d.end l same in (
              omega (arith, eq),
              λ c is must lo hi. omega (arith, eq, lo, hi),
            );
      }

  -- ---- nothing is known of it

  kept_unknown : (count : ℕ) → d.end ≤ p.newest → IsPastOf history (record p { last = Some d.end; unknown = count }) d.end
  kept_unknown count below = record {
    noted = i.noted;
    whole = i.whole;
    changed = i.changed;
    newest = i.newest;
    since = i.since;
    ahead = λ some c is must over. omega (arith, over, below);
    last = λ l same.
        let eq : d.end ≡ l = some_is d.end l same in (omega (arith, eq), λ c is must lo hi. omega (arith, eq, lo, hi));
  }

  -- ---- it is new

  module _ (new : Past) (w : IsNew p d new) where
    low : (k : ℕ) (n : Noted) → noted_at p k ≡ Some n → noted_at new k ≡ Some n → k < d.end → Begins p d new → new.since ≤ k
    low k n e there below (inl (same, some)) = omega (arith, same, (i.noted k n e).1)
    low k n e there below (inr (inl (m, first, least, some))) =
        least k n e
    low k n e there below (inr (inr (same, none))) =
        let no : noted_at new k ≡ None = none k (λ eq. omega (arith, eq, below)) in
        let bad : Some n ≡ None = sym there ∙ no in absurd (cc)

    before_ends : EndsOne history w.noted.before × (w.noted.before < d.end)
    before_ends =
        ⊎_elim (λ (same : w.noted.before ≡ p.changed).
        (subst (EndsOne history) (sym same) i.changed.0, omega (arith, same, i.changed.1, w.above)))
        (λ (zero : (w.noted.before ≡ 0) × (d.xid ≡ 2)). (inl zero.0, omega (arith, zero.0, w.above))) w.before

    since_low : Begins p d new → new.since ≤ d.end
    since_low (inl (same, some)) = omega (arith, same, i.since, w.above)
    since_low (inr (inl (m, first, least, some))) = omega (arith, (i.noted new.since m first).2, w.above)
    since_low (inr (inr (same, none))) = omega (arith, same)

    new_noted : (k : ℕ) (n : Noted) → noted_at new k ≡ Some n
        → IsOf history (commit_at k n) × (new.since ≤ k) × (k ≤ new.newest) × EndsOne history n.before × (n.before < k)
    new_noted k n e =
        ⊎_elim (λ (same : k ≡ d.end).
        let is : w.noted ≡ n =
        let both : Some w.noted ≡ Some n = sym w.is ∙ sym (ap (noted_at new) same) ∙ e in cc in (
          subst (IsOf history) (sym w.same ∙ ap (λ (x : Noted). commit_at d.end x) is ∙ ap (λ x. commit_at x n) (sym same)) next.is,
          omega (arith, same, since_low w.keeps.since_is),
          omega (arith, same, w.newest),
          subst (λ (x : Noted). EndsOne history x.before) is before_ends.0,
          omega (arith, same, subst (λ (x : Noted). x.before < d.end) is before_ends.1),
        ))
        (λ (other : k ≡ d.end → ⊥).
        let was : noted_at p k ≡ Some n = w.keeps.none_more k n other e in
        let f = i.noted k n was in (
          f.0,
          low k n was e (omega (arith, f.2, w.above)) w.keeps.since_is,
          omega (arith, f.2, w.above, w.newest),
          f.3,
          f.4,
        )) (cases_eq k d.end)

    -- one that must come and isn't noted, above where what is noted begins
    not_missing : (c : Commit) → IsOf history c → must_come c ≡ true → new.since < c.end → c.end < d.end
        → (c.end ≤ p.newest → noted_at p c.end ≡ None) → Begins p d new → ⊥
    not_missing c is must lo hi none (inl (same, some)) =
        ⊎_elim (λ (in_it : c.end ≤ p.newest). i.whole c is must (omega (arith, same, lo)) in_it (none in_it))
        (λ (over : p.newest < c.end). next.none c is must (i.ahead some c is must over) hi) (up_to c.end p.newest)
    not_missing c is must lo hi none (inr (inl (m, first, least, some))) =
        ⊎_elim (λ (in_it : c.end ≤ p.newest). i.whole c is must (omega (arith, (i.noted new.since m first).1, lo)) in_it (none in_it))
        (λ (over : p.newest < c.end). next.none c is must (i.ahead some c is must over) hi) (up_to c.end p.newest)
    not_missing c is must lo hi none (inr (inr (same, gone))) = omega (arith, same, lo, hi)

    new_whole : (c : Commit) → IsOf history c → must_come c ≡ true → new.since < c.end → c.end ≤ new.newest → noted_at new c.end ≡ None
        → ⊥
    new_whole c is must lo hi none =
        ⊎_elim (λ (same : c.end ≡ d.end).
        let bad : Some w.noted ≡ None = sym w.is ∙ sym (ap (noted_at new) same) ∙ none in cc)
        (λ (other : c.end ≡ d.end → ⊥).
        not_missing c is must lo (omega (arith, hi, w.newest, other)) (λ in_it. sym (w.keeps.all_since c.end lo in_it other) ∙ none)
        w.keeps.since_is) (cases_eq c.end d.end)

    changed_is : (b : Bool) → must_come d ≡ b → new.changed ≡ (if b then d.end else w.noted.before)
        → EndsOne history new.changed × (new.changed ≤ d.end)
    changed_is true must same = (inr (d, next.is, must, sym same), omega (arith, same))
    changed_is false must same =
        (subst (EndsOne history) (sym same) before_ends.0, omega (arith, same, before_ends.1))

    kept_new : IsPastOf history new d.end
    kept_new =
        let ch = changed_is (must_come d) refl w.changed in
        record {
          noted = new_noted;
          whole = new_whole;
          changed = (ch.0, omega (arith, ch.1, w.newest));
          newest = inr (d, next.is, sym w.newest);
          since = omega (arith, since_low w.keeps.since_is, w.newest);
          ahead = λ some c is must over. omega (arith, over, w.newest);
          last = λ l same.
              let eq : d.end ≡ l = some_is d.end l (sym w.last ∙ same) in (
                omega (arith, eq),
                λ c is must lo hi. omega (arith, eq, lo, hi),
              );
        }

  kept : (new : Past) (a : Answer) → Answers p d new (Ok a) → IsPastOf history new d.end
  kept new answer.New w = kept_new new w
  kept new answer.Equal w =
      subst (λ (x : Past). IsPastOf history x d.end) (sym w.goes) (kept_equal w.noted w.was)
  kept new answer.Unknown w =
      subst (λ (x : Past). IsPastOf history x d.end) (sym w.goes) (kept_unknown _ w.below)

pub histories_are_not_contradicted : HistoriesAreNotContradicted
histories_are_not_contradicted history p at d x h i next c = not_contradicted history p at d h i next x c

pub answers_keep_the_past : AnswersKeepThePast
answers_keep_the_past history p new at d a h i next w = kept history p at d h i next new a w

-- ---- sessions

first_past : (history : List Commit) (limit start : ℕ) (p : Past) → IsFirst limit p → IsPastOf history p start
first_past history limit start p f = record {
  noted = λ k n e. let bad : Some n ≡ None = sym e ∙ f.none k in absurd (cc);
  whole = λ c is must lo hi none. omega (arith, lo, hi, f.newest);
  changed = (inl f.changed, omega (arith, f.changed));
  newest = inl f.newest;
  since = omega (arith, f.since);
  ahead = λ some c is must over. absurd (omega (arith, some, f.empty));
  last = λ l e. let bad : None ≡ Some l = sym f.last ∙ e in absurd (cc);
}

forgotten_past : (history : List Commit) (p new : Past) (at start : ℕ) → IsPastOf history p at → IsForgotten p new
    → IsPastOf history new start
forgotten_past history p new at start i f = record {
  noted = λ k n e. let bad : Some n ≡ None = sym e ∙ f.none k in absurd (cc);
  whole = λ c is must lo hi none. omega (arith, lo, hi, f.newest, f.since);
  changed = (inl f.changed, omega (arith, f.changed));
  newest = subst (λ k. (k ≡ 0) ⊎ ((c : Commit) × IsOf history c × (c.end ≡ k))) (sym f.newest) i.newest;
  since = omega (arith, f.since, f.newest);
  ahead = λ some c is must over. absurd (omega (arith, some, f.empty));
  last = λ l e. let bad : None ≡ Some l = sym f.last ∙ e in absurd (cc);
}

next_past : (history : List Commit) (p : Past) (at start : ℕ) → IsPastOf history p at → HasComeTo history p start
    → IsPastOf history (record p { last = None }) start
next_past history p at start i come = record {
  noted = i.noted;
  whole = i.whole;
  changed = i.changed;
  newest = i.newest;
  since = i.since;
  ahead = come;
  last = λ l e. absurd (cc);
}

pub sessions_keep_the_past : SessionsKeepThePast
sessions_keep_the_past = (first_past, forgotten_past, next_past)
