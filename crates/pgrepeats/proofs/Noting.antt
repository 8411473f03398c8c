-- A new commit, once what has to be forgotten is.
use Rattle.std.proofs.Common.{◌≡◌, ◌≢◌, ◌≤◌, ◌<◌, ◌⊎◌, ◌∙◌, inl, inr, ⊎_elim, ℕ, Result, Ok, Err}
use Rattle.std.proofs.Common.{None, Some}
use Rattle.std.proofs.Common.{refl, sym, ap, subst, if◌then◌else◌, Bool, true, false, arith}
use Rattle.std.proofs.Common.{[], ◌+◌, ◌∷◌, length}
use Rattle.std.proofs.lemmas.Bool.{cases_eq}
use Rattle.pgrepeats.specs.declared.commit.Commit.{Commit}
use Rattle.pgrepeats.specs.declared.fault.Trouble.{Trouble}
use Rattle.pgrepeats.specs.declared.fault.Trouble.TheVariants as trouble
use Rattle.pgrepeats.specs.declared.past.Answer.{Answer}
use Rattle.pgrepeats.specs.declared.past.Answer.TheVariants as answer
use Rattle.pgrepeats.specs.declared.noted.Noted.{Noted}
use Rattle.pgrepeats.specs.declared.past.Past.{Past}
use Rattle.pgrepeats.specs.Past.{noted_at, commit_at, must_come, Answers, Begins, BeginsAt, Forgets}
use Rattle.pgrepeats.specs.Past.{IsFirstForgotten, IsNew, IsNoted, Keeps}
use Rattle.pgrepeats.specs.Past.{NoneIsLeftOut, Notes, Readies}
use Rattle.pgrepeats.specs.Rings.{Entries, IsLeast, Updates, noted_in}

module _ (p mid new : Past) (d : Commit) (r : Readies p d mid) (w : IsNoted mid d new) where
  begins : Begins p d mid → Begins p d new
  begins (inl (same, some)) = inl (w.since ∙ same, some)
  begins (inr (inl (m, first, least, some))) = inr (inl (
    m,
    subst (λ (k : ℕ). noted_at p k ≡ Some m) (sym w.since) first,
    subst (λ (k : ℕ). IsLeast p.commits k) (sym w.since) least,
    some,
  ))
  begins (inr (inr (same, none))) = inr (inr (w.since ∙ same, λ k other. w.others k other ∙ none k other))

  kept : (k : ℕ) (n : Noted) → k ≢ d.end → noted_at p k ≡ Some n → d.xid ≢ 2
      → (noted_at new k ≡ Some n) ⊎ ((p.limit ≤ length p.commits) × IsLeast p.commits k)
  kept k n other e server =
      ⊎_elim (λ (there : noted_at mid k ≡ Some n). inl (w.others k other ∙ there))
      (λ (gone : (p.limit ≤ length p.commits) × IsLeast p.commits k). inr gone) (r.first_goes server k n e)

  keeps : Keeps p d new
  keeps = record {
    none_more = λ k n other e. r.none_more k n (sym (w.others k other) ∙ e);
    all_since = λ k lt le other. w.others k other ∙ r.all_since k (subst (λ (s : ℕ). s < k) w.since lt) le;
    first_goes = λ server k n other e. kept k n other e server;
    since_is = begins r.since_is;
  }

  before_is : (w.noted.before ≡ p.changed) ⊎ ((w.noted.before ≡ 0) × (d.xid ≡ 2))
  before_is =
      ⊎_elim (λ (same : mid.changed ≡ p.changed). inl (w.before ∙ same))
      (λ (none : (mid.changed ≡ 0) × (d.xid ≡ 2)). inr (w.before ∙ none.0, none.1)) r.before

  new_is : p.newest < d.end → p.newest ≤ d.lsn → NoneIsLeftOut p.last p.changed → IsNew p d new
  new_is over apart none = record {
    above = over;
    apart = apart;
    none = none;
    noted = w.noted;
    is = w.is;
    same = w.same;
    before = before_is;
    keeps = keeps;
    limit = w.limit ∙ r.limit;
    bound = λ some fits. omega (arith, w.more, r.room some fits);
    newest = w.newest;
    changed = w.changed ∙ ap (λ (x : ℕ). if must_come d then d.end else x) (sym w.before);
    last = w.last;
  }

pub answers_new : (p mid new : Past) (d : Commit) (x : Result Answer Trouble) → p.newest < d.end → p.newest ≤ d.lsn
    → NoneIsLeftOut p.last p.changed → Readies p d mid → Notes mid d new x → Answers p d new x
answers_new p mid new d (Ok answer.New) over apart none r w = new_is p mid new d r w over apart none
answers_new p mid new d (Ok answer.Equal) over apart none r w = absurd w
answers_new p mid new d (Ok answer.Unknown) over apart none r w = absurd w
answers_new p mid new d (Err (trouble.Contradicted x)) over apart none r w = absurd w
answers_new p mid new d (Err trouble.Memory) over apart none r w = tt

-- ---- one is noted

pub is_noted : (p new : Past) (d : Commit) (n : Noted) → commit_at d.end n ≡ d → n.before ≡ p.changed
    → Updates p.commits new.commits d.end (Some n) → length new.commits ≡ length p.commits + 1 → new.limit ≡ p.limit
    → new.since ≡ p.since → new.newest ≡ d.end
    → new.changed ≡ (if must_come d then d.end else p.changed) → new.last ≡ Some d.end → IsNoted p d new
is_noted p new d n same before up more limit since newest changed last = record {
  noted = n;
  is = up.0;
  same = same;
  before = before;
  others = up.1;
  more = more;
  limit = limit;
  since = since;
  newest = newest;
  changed = changed;
  last = last;
}

pub chosen : (b : Bool) (c : ℕ) (x y : ℕ) → b ≡ true → c ≡ x → c ≡ (if b then x else y)
chosen b c x y is e = e ∙ sym (ap (λ (t : Bool). if t then x else y) is)

pub not_chosen : (b : Bool) (c : ℕ) (x y : ℕ) → b ≡ false → c ≡ y → c ≡ (if b then x else y)
not_chosen b c x y is e = e ∙ sym (ap (λ (t : Bool). if t then x else y) is)

-- ---- what has to be forgotten is

none_in : (k : ℕ) (es : Entries) → length es ≡ 0 → noted_in es k ≡ None
none_in k [] e = refl
none_in k (x ∷ es) e = absurd (omega (arith, e))

empty_none : (p : Past) → length p.commits ≡ 0 → (k : ℕ) → noted_at p k ≡ None
empty_none p e k = none_in k p.commits e

no_some : (o : _) (n : Noted) → o ≡ None → o ≡ Some n → ⊥
no_some o n none some = let bad : None ≡ Some n = sym none ∙ some in cc

fewer : {a b : ℕ} → (a ≡ 0) ⊎ (a < b) → 0 < b → a < b
fewer (inl none) pos = omega (arith, none, pos)
fewer (inr few) pos = few

module _ (p mid : Past) (d : Commit) (over : p.newest < d.end) where
  -- none is left
  all_gone : (new : Past) → ((k : ℕ) → noted_at mid k ≡ None) → (mid.limit ≡ p.limit)
      → (mid.changed ≡ p.changed) ⊎ ((mid.changed ≡ 0) × (d.xid ≡ 2))
      → (d.xid ≢ 2 → (k : ℕ) (n : Noted) → noted_at p k ≡ Some n → (p.limit ≤ length p.commits) × IsLeast p.commits k)
      → (0 < p.limit → length p.commits ≤ p.limit → length mid.commits < p.limit) → new ≡ record mid { since = d.end } → Readies p d new
  all_gone new none limit before first room is =
      subst (λ (x : Past). Readies p d x) (sym is) (
      record {
        none_more = λ k n e. absurd (no_some _ n (none k) e);
        all_since = λ k lt le. absurd (omega (arith, lt, le, over));
        first_goes = λ server k n e. inr (first server k n e);
        since_is = inr (inr (refl, λ k other. none k));
        before = before;
        limit = limit;
        room = room;
      }
      )

  module _ (f : IsFirstForgotten p mid) (full : p.limit ≤ length p.commits) (some : 0 < length p.commits) where
    gone : (k : ℕ) → k ≡ f.end → noted_at mid k ≡ None
    gone k e = ap (noted_at mid) e ∙ f.goes.0

    stays : (k : ℕ) → (k ≡ f.end → ⊥) → noted_at mid k ≡ noted_at p k
    stays k other = f.goes.1 k other

    first : (k : ℕ) (n : Noted) → noted_at p k ≡ Some n
        → (noted_at mid k ≡ Some n) ⊎ ((p.limit ≤ length p.commits) × IsLeast p.commits k)
    first k n e =
        ⊎_elim (λ (same : k ≡ f.end).
        inr (full, subst (λ (x : ℕ). IsLeast p.commits x) (sym same) f.least))
        (λ (other : k ≡ f.end → ⊥). inl (stays k other ∙ e)) (cases_eq k f.end)

    -- others are left
    one_gone : Readies p d mid
    one_gone = record {
      none_more = λ k n e.
          ⊎_elim (λ (same : k ≡ f.end). absurd (no_some _ n (gone k same) e))
          (λ (other : k ≡ f.end → ⊥). sym (stays k other) ∙ e) (cases_eq k f.end);
      all_since = λ k lt le. stays k (λ same. omega (arith, lt, same, f.since));
      first_goes = λ server k n e. first k n e;
      since_is = inr (inl (
        f.noted,
        subst (λ (k : ℕ). noted_at p k ≡ Some f.noted) (sym f.since) f.was,
        subst (λ (k : ℕ). IsLeast p.commits k) (sym f.since) f.least,
        some,
      ));
      before = inl f.changed;
      limit = f.limit;
      room = λ pos fits. omega (arith, f.fewer, fits);
    }

    -- the only one is gone
    only : ((k : ℕ) → noted_at mid k ≡ None) → (k : ℕ) (n : Noted) → noted_at p k ≡ Some n
        → (p.limit ≤ length p.commits) × IsLeast p.commits k
    only none k n e =
        ⊎_elim (λ (there : noted_at mid k ≡ Some n). absurd (no_some _ n (none k) there))
        (λ (last : (p.limit ≤ length p.commits) × IsLeast p.commits k). last) (first k n e)

  pub readied : (new : Past) → Forgets p d.xid mid → BeginsAt mid d.end new → Readies p d new
  readied new (inl (xid, f)) (inl (empty, is)) =
      all_gone new f.none f.limit_is (inr (f.changed, xid)) (λ server. absurd (server xid))
      (λ pos fits. omega (arith, f.empty, pos)) is
  readied new (inl (xid, f)) (inr (some, is)) = absurd (omega (arith, some, f.empty))
  readied new (inr (inl (full, some, f))) (inl (empty, is)) =
      all_gone new (empty_none mid empty) f.limit (inl f.changed) (λ server k n e. only f full some (empty_none mid empty) k n e)
      (λ pos fits. omega (arith, empty, pos)) is
  readied new (inr (inl (full, some, f))) (inr (left, is)) =
      subst (λ (x : Past). Readies p d x) (sym is) (one_gone f full some)
  readied new (inr (inr (server, same, few))) (inl (empty, is)) =
      let none : (k : ℕ) → noted_at mid k ≡ None = empty_none mid empty in
      all_gone new none (ap (λ (x : Past). x.limit) same) (inl (ap (λ (x : Past). x.changed) same))
      (λ other k n e. absurd (no_some _ n (none k) (ap (λ (x : Past). noted_at x k) same ∙ e)))
      (λ pos fits. omega (arith, empty, pos)) is
  readied new (inr (inr (server, same, few))) (inr (some, is)) =
      subst (λ (x : Past). Readies p d x) (sym (is ∙ same)) (
      record {
        none_more = λ k n e. e;
        all_since = λ k lt le. refl;
        first_goes = λ other k n e. inl e;
        since_is = inl (refl, subst (λ (x : Past). 0 < length x.commits) same some);
        before = inl refl;
        limit = refl;
        room = λ pos fits. fewer few pos;
      }
      )
