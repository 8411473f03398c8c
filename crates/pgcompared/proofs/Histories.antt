-- No session of the same history is contradicted.
use Rattle.std.proofs.Common.{◌≡◌, ◌≤◌, ◌∙◌, ℕ, List, [], ◌∷◌, Bool, true}
use Rattle.std.proofs.Common.{false}
use Rattle.std.proofs.Common.{Option, None, Some, refl, sym, ap, subst, arith, not, nat_lt}
use Rattle.std.proofs.Common.{◌&&◌, Ok, max, nat_le}
use Rattle.std.proofs.Common.{true≢false}
use Rattle.std.specs.List.{AllByRecursion}
use Rattle.std.proofs.lemmas.Bool.Decides.{nat_tests}
use Rattle.pgrepeats.specs.declared.commit.Commit.{Commit}
use Rattle.pgrepeats.specs.declared.past.Answer.{Answer}
use Rattle.pgrepeats.specs.declared.past.Answer.TheVariants as answer
use Rattle.pgrepeats.specs.declared.past.Past.{Past}
use Rattle.pgrepeats.specs.Past.{Answers}
use Rattle.pgrepeats.specs.Laws.{IsHistory, IsNext, IsPastOf}
use Rattle.pgrepeats.proofs.Histories.{answers_keep_the_past, histories_are_not_contradicted}
use Rattle.pgrepeats.proofs.Histories.{sessions_keep_the_past}
use Rattle.pgcompared.specs.declared.finding.Finding.{Finding}
use Rattle.pgcompared.specs.declared.finding.Finding.TheVariants as finding
use Rattle.pgcompared.specs.declared.noting.Noting.{Noting}
use Rattle.pgcompared.specs.declared.noting.Told.{Told}
use Rattle.pgcompared.specs.declared.session.Ended.{Ended}
use Rattle.pgcompared.specs.declared.session.Ended.TheVariants as ended
use Rattle.pgcompared.specs.Commits.{AreOfCommits}
use Rattle.pgcompared.specs.Frames.{is_lost}
use Rattle.pgcompared.specs.Laws.{AreNext, FindsNothing, FoundNothing, HearsEach, HearsLife}
use Rattle.pgcompared.specs.Laws.{IsNotingOf, LivesAreNotContradicted, Session}
use Rattle.pgcompared.specs.Laws.{SessionsAreNotContradicted, WasHeard}
use Rattle.pgcompared.specs.Noting.{BeginsSession, ForgetsIf, HearsEnded, TellsAs, is_above}
use Rattle.pgcompared.specs.Noting.{noting_from}

module _ (history : List Commit) (valid : IsHistory 0 history) where
  -- before the first commit
  first_is : (p mid : Past) (start at : ℕ) (d : Commit) (b : Bool) → nat_lt p.newest d.end ≡ b → IsPastOf history p at → p.last ≡ None
      → IsNext history start d → ForgetsIf b p mid → IsPastOf history mid start
  first_is p mid start at d true over past none next forgets = sessions_keep_the_past.1 history p mid at start past forgets
  first_is p mid start at d false over past none next same =
      let below : d.end ≤ p.newest = grind (arith, nat_tests) in
      subst (λ x. IsPastOf history x start) (sym (same ∙ (λ i. record p { last = none i })))
      (sessions_keep_the_past.2 history p at start past
      (λ some c is must above. omega (arith, below, above, next.above)))

  is_past : (n : Noting) (mid : Past) (start : ℕ) (d : Commit) (b : Bool) → n.is_whole ≡ b → IsNotingOf history n start b
      → IsNext history start d → ForgetsIf (not b && nat_lt n.past.newest d.end) n.past mid → IsPastOf history mid start
  is_past n mid start d true is_whole past next same = subst (λ x. IsPastOf history x start) (sym same) past
  is_past n mid start d false is_whole past next forgets =
      first_is n.past mid start past.0 d (nat_lt n.past.newest d.end) refl past.1 past.2 next forgets

  -- one that is compared
  told_is : (n new : Noting) (start at : ℕ) (d : Commit) (forgot : Bool) (t : Told) (o : Option Finding) → IsPastOf history n.past start
      → IsNext history start d → TellsAs n at d forgot new t o → is_lost o ≡ false
      → (o ≡ None) × IsPastOf history new.past d.end × (new.is_whole ≡ n.is_whole)
  told_is n new start at d forgot t None past next a heard =
      (refl, answers_keep_the_past history n.past new.past start d a.answer valid past next a.is, a.whole)
  told_is n new start at d forgot t (Some (finding.Contradicted place c)) past next a heard =
      absurd (histories_are_not_contradicted history n.past start d c valid past next a.1)
  told_is n new start at d forgot t (Some (finding.Lost place why)) past next a heard = absurd (true≢false heard)

  still : (n : Noting) (at : ℕ) (b : Bool) → n.is_whole ≡ b → IsNotingOf history n at b → IsNotingOf history n at n.is_whole
  still n at b is past = subst (IsNotingOf history n at) (sym is) past

  past_at : (m : Noting) (k : ℕ) (b : Bool) → IsNotingOf history m k b → (at' : ℕ) × IsPastOf history m.past at'
  past_at m k true past = (k, past)
  past_at m k false past = (past.0, past.1)

  one : (n new : Noting) (start at : ℕ) (e : Ended) (c : Commit) (t : Told) (same : AreOfCommits (e ∷ []) (c ∷ []))
      → IsNotingOf history n start n.is_whole → IsNext history start c → HearsEnded n at e new t → WasHeard t
      → FoundNothing t × IsNotingOf history new c.end new.is_whole
  one n new start at (ended.Whole d) c t same past next (mid, forgets, tells) heard =
      let next' : IsNext history start d = subst (IsNext history start) (sym same.0) next in
      let mid_is = is_past n mid start d n.is_whole refl past next' forgets in
      let told = told_is (record n { past = mid; is_whole = true }) new start at d (is_above n d) t t.found mid_is next' tells heard in
      (told.0, still new c.end true told.2 (subst (λ (k : ℕ). IsPastOf history new.past k) (ap (λ (x : Commit). x.end) same.0) told.1))
  one n new start at (ended.Over end) c t same past next (mid, forgets, new_is, told) heard =
      let before : (at' : ℕ) × IsPastOf history n.past at' = past_at n start n.is_whole past in (
        ap (λ (x : Told). x.found) told,
        still new c.end true (ap (λ (x : Noting). x.is_whole) new_is)
            (subst (λ (x : Noting). IsPastOf history x.past c.end) (sym new_is)
            (sessions_keep_the_past.1 history n.past mid before.0 c.end before.1 forgets)),
      )

  pub each : (n new : Noting) (start last : ℕ) (cs : List Commit) (es : List Ended) (told : List Told)
      → IsNotingOf history n start n.is_whole → AreNext history start cs last → AreOfCommits es cs → HearsEach n es new told
      → AllByRecursion WasHeard told → AllByRecursion FoundNothing told × IsNotingOf history new last new.is_whole
  each n new start last [] [] told past next same hears heard = (
    subst (AllByRecursion FoundNothing) (sym hears.1) tt,
    subst (λ (x : Noting). IsNotingOf history x last x.is_whole) (sym hears.0)
        (subst (λ k. IsNotingOf history n k n.is_whole) (sym next) past),
  )
  each n new start last (c ∷ cs) [] told past next same hears heard = absurd same
  each n new start last [] (e ∷ es) told past next same hears heard = absurd same
  each n new start last (c ∷ cs) (e ∷ es) told past next same (at, mid, t, later, hears, rest, told_are) heard =
      let heard' = subst (AllByRecursion WasHeard) told_are heard in
      let now = one n mid start at e c t (same.0, tt) past next.0 hears heard'.0 in
      let rest_is = each mid new c.end last cs es later now.1 next.1 same.1 rest heard'.1 in
      (subst (AllByRecursion FoundNothing) (sym told_are) (now.0, rest_is.0), rest_is.1)

module _ (history : List Commit) (valid : IsHistory 0 history) where
  -- ---- up to where commits came

  abbrev Covers : ℕ → Noting → Type 0
  Covers came n = came ≤ max n.reached n.past.newest

  up : (p new : Past) (start : ℕ) (d : Commit) (a : Answer) → IsPastOf history p start → Answers p d new (Ok a)
      → (p.newest ≤ new.newest) × (d.end ≤ new.newest)
  up p new start d answer.New i w = (omega (arith, w.above, w.newest), omega (arith, w.newest))
  up p new start d answer.Equal i w =
      let same : new.newest ≡ p.newest = ap (λ (x : Past). x.newest) w.goes in
      (omega (arith, same), omega (arith, same, (i.noted d.end w.noted w.was).2))
  up p new start d answer.Unknown i w =
      let same : new.newest ≡ p.newest = ap (λ (x : Past). x.newest) w.goes in (omega (arith, same), omega (arith, same, w.below))

  forgets_none : (p mid : Past) (b : Bool) → ForgetsIf b p mid → mid.newest ≡ p.newest
  forgets_none p mid true f = f.newest
  forgets_none p mid false same = ap (λ (x : Past). x.newest) same

  told_up : (n new : Noting) (start at : ℕ) (d : Commit) (forgot : Bool) (t : Told) (o : Option Finding) → IsPastOf history n.past start
      → IsNext history start d → TellsAs n at d forgot new t o → is_lost o ≡ false
      → (new.reached ≡ n.reached) × (n.past.newest ≤ new.past.newest) × (d.end ≤ new.past.newest)
  told_up n new start at d forgot t None past next a heard =
      let it = up n.past new.past start d a.answer past a.is in (a.reached, it.0, it.1)
  told_up n new start at d forgot t (Some (finding.Contradicted place c)) past next a heard =
      absurd (histories_are_not_contradicted history n.past start d c valid past next a.1)
  told_up n new start at d forgot t (Some (finding.Lost place why)) past next a heard = absurd (true≢false heard)

  one_covers : (n new : Noting) (start at came : ℕ) (e : Ended) (c : Commit) (t : Told) (same : AreOfCommits (e ∷ []) (c ∷ []))
      → IsNotingOf history n start n.is_whole → IsNext history start c → HearsEnded n at e new t → WasHeard t → Covers came n
      → Covers (max came c.end) new
  one_covers n new start at came (ended.Whole d) c t same past next (mid, forgets, tells) heard covers =
      let next' : IsNext history start d = subst (IsNext history start) (sym same.0) next in
      let mid_is = is_past history valid n mid start d n.is_whole refl past next' forgets in
      let it = told_up (record n { past = mid; is_whole = true }) new start at d (is_above n d) t t.found mid_is next' tells heard in
      let newest = forgets_none n.past mid (is_above n d) forgets in
      let end : d.end ≡ c.end = ap (λ (x : Commit). x.end) same.0 in
      omega (arith, covers, it.0, it.1, it.2, newest, end)
  one_covers n new start at came (ended.Over end) c t same past next (mid, forgets, new_is, told) heard covers =
      let reached : new.reached ≡ max n.reached end = ap (λ (x : Noting). x.reached) new_is in
      let newest : new.past.newest ≡ mid.newest = ap (λ (x : Noting). x.past.newest) new_is in
      let ends : end ≡ c.end = same.0 in
      omega (arith, covers, reached, newest, forgets.newest, ends)

  each_covers : (n new : Noting) (start last came : ℕ) (cs : List Commit) (es : List Ended) (told : List Told) → start ≤ came
      → IsNotingOf history n start n.is_whole → AreNext history start cs last → AreOfCommits es cs → HearsEach n es new told
      → AllByRecursion WasHeard told → Covers came n → Covers (max came last) new
  each_covers n new start last came [] [] told low past next same hears heard covers =
      let is : new ≡ n = hears.0 in
      omega (arith, low, next, covers, ap (λ (x : Noting). x.reached) is, ap (λ (x : Noting). x.past.newest) is)
  each_covers n new start last came (c ∷ cs) [] told low past next same hears heard covers = absurd same
  each_covers n new start last came [] (e ∷ es) told low past next same hears heard covers = absurd same
  each_covers n new start last came (c ∷ cs) (e ∷ es) told low past next same (at, mid, t, later, hears, rest, told_are) heard covers =
      let heard' = subst (AllByRecursion WasHeard) told_are heard in
      let now = one history valid n mid start at e c t (same.0, tt) past next.0 hears heard'.0 in
      let mid_covers = one_covers n mid start at came e c t (same.0, tt) past next.0 hears heard'.0 covers in
      let above : c.end ≤ max came c.end = omega arith in
      let end_covers = each_covers mid new c.end last (max came c.end) cs es later above now.1 next.1 same.1 rest heard'.1 mid_covers in
      omega (arith, end_covers)

  -- ---- the next session

  -- before a session's first commit
  record IsReady (came : ℕ) (n : Noting) : Type 0 where
    at : ℕ
    past : IsPastOf history n.past at
    none : n.past.last ≡ None
    whole : n.is_whole ≡ nat_le n.reached n.past.newest
    covers : Covers came n

  noting_is : (n : Noting) (start came : ℕ) (b : Bool) → b ≡ nat_le n.reached n.past.newest → start ≤ came → IsReady came n
      → IsNotingOf history n start b
  noting_is n start came true e low r =
      let above : n.reached ≤ n.past.newest = grind (arith, nat_tests) in
      subst (λ x. IsPastOf history x start) (λ i. record n.past { last = sym r.none i })
      (sessions_keep_the_past.2 history n.past r.at start r.past
      (λ some c is must over. omega (arith, above, over, low, r.covers)))
  noting_is n start came false e low r = (r.at, r.past, r.none)

  ready : (came : ℕ) (p : Past) (at reached equal : ℕ) → IsPastOf history p at → came ≤ max reached p.newest
      → IsReady came (noting_from p reached equal)
  ready came p at reached equal past covers = record {
    at = at;
    past = sessions_keep_the_past.2 history p at at past past.ahead;
    none = refl;
    whole = refl;
    covers = covers;
  }

  ready_next : (came : ℕ) (n next : Noting) → ((at : ℕ) × IsPastOf history n.past at) → Covers came n → BeginsSession false n next
      → IsReady came next
  ready_next came n next past covers (mid, same, next_is) =
      subst (IsReady came) (sym next_is)
      (ready came mid past.0 n.reached n.equal (subst (λ x. IsPastOf history x past.0) (sym same) past.1)
      (subst (λ (x : Past). came ≤ max n.reached x.newest) (sym same) covers))

  life : (came : ℕ) (n new : Noting) (sessions : List (Session history)) → IsReady came n → HearsLife history came n sessions new
      → AllByRecursion FindsNothing sessions × ((at : ℕ) × IsPastOf history new.past at)
  life came n new [] r same = (tt, (r.at, subst (λ (x : Noting). IsPastOf history x.past r.at) (sym same) r.past))
  life came n new (s ∷ later) r (mid, next, low, hears, begins, rest) =
      let first = noting_is n s.start came n.is_whole r.whole low r in
      let now = each history valid n mid s.start s.last s.commits s.ended s.told first s.next s.same hears s.heard in
      let covers = each_covers n mid s.start s.last came s.commits s.ended s.told low first s.next s.same hears s.heard r.covers in
      let r' = ready_next (max came s.last) mid next (past_at history valid mid s.last mid.is_whole now.1) covers begins in
      let others = life (max came s.last) next new later r' rest in
      ((now.0, others.0), others.1)

pub sessions_are_not_contradicted : SessionsAreNotContradicted
sessions_are_not_contradicted history n new start last cs es told valid past next same hears heard =
    each history valid n new start last cs es told past next same hears heard

pub lives_are_not_contradicted : LivesAreNotContradicted
lives_are_not_contradicted history past at came sessions new valid is lives =
    life history valid came (noting_from past came 0) new sessions
    (ready history valid came past at came 0 is (omega arith)) lives
