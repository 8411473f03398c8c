-- Of the entries that tell a history's transactions a feed has the last ones: these tell the
-- transactions behind where it begins.
use Rattle.std.proofs.Common.{◌≡◌, ◌<◌, ◌≤◌, ◌++◌, ◌∷◌, [], ℕ, List, true, false, cond, ap, arith}
use Rattle.std.proofs.Common.{subst, sym, refl, ◌∙◌, append_assoc, inl, inr}
use Rattle.std.specs.Prelude.{Option, nat_le, nat_lt}
use Rattle.std.specs.List.{AllByRecursion, filter}
use Rattle.std.proofs.lemmas.Bool.{cases_lt}
use Rattle.std.proofs.lemmas.Bool.Decides.{nat_tests}
use Rattle.std.proofs.lemmas.List.Elements.{filter-append}
use Rattle.pgapply.specs.declared.commit.About.{About}
use Rattle.pgapply.specs.Apply.{Change}
use Rattle.pgapply.specs.Tallies.{TakenCommit, taken_commit}
use Rattle.pgapply.specs.Value.{Tables}
use Rattle.pgledger.specs.Entries.{Entry, LeadTo, last_end}
use Rattle.pgledger.specs.Records.{TellTo}
use Rattle.pgfeed.specs.Reading.{AreEntries}
use Rattle.pgfeed.specs.Cutting.Beside.{split_at}
use Rattle.pgfeed.specs.Cutting.Kept.{end_append, entries_append, entries_behind}
use Rattle.pgfeed.specs.Cutting.Written.{ends_up}
use Rattle.pgsub_core.specs.Server.Work.{surviving_changes}
use Rattle.pgsub_core.specs.Server.History.{Transaction, ended_after, ended_by}
use Rattle.pgsub_core.specs.Subscriber.Tallied.{ended_between, taken_of, told_of}

-- ---- commits

abbrev AllAbove : ℕ → List TakenCommit → Type 0
AllAbove p cs = AllByRecursion (λ (c : TakenCommit). p < c.end) cs

abbrev AllBy : ℕ → List TakenCommit → Type 0
AllBy p cs = AllByRecursion (λ (c : TakenCommit). c.end ≤ p) cs

-- those that end behind an LSN
abbrev behind : ℕ → List TakenCommit → List TakenCommit
behind p cs = filter (λ (c : TakenCommit). nat_lt p c.end) cs

behind_none : (p : ℕ) (cs : List TakenCommit) → AllBy p cs → behind p cs ≡ []
behind_none p [] all = refl
behind_none p (c ∷ cs) all =
    let by : c.end ≤ p = all.0 in
    let no : nat_lt p c.end ≡ false = grind (arith, nat_tests) in
    rw no (behind_none p cs all.1)

behind_all : (p : ℕ) (cs : List TakenCommit) → AllAbove p cs → behind p cs ≡ cs
behind_all p [] all = refl
behind_all p (c ∷ cs) all =
    let up : p < c.end = all.0 in
    let yes : nat_lt p c.end ≡ true = grind (arith, nat_tests) in
    rw yes (ap (λ rest. c ∷ rest) (behind_all p cs all.1))

-- with one more in front, or none
with_above : (p end : ℕ) (about : Option About) (changes : List Change) (cs : List TakenCommit) → p < end → AllAbove p cs
    → AllAbove p (taken_commit end about changes ++ cs)
with_above p end about [] cs up all = all
with_above p end about (change ∷ changes) cs up all = (up, all)

with_by : (p end : ℕ) (about : Option About) (changes : List Change) (cs : List TakenCommit) → end ≤ p → AllBy p cs
    → AllBy p (taken_commit end about changes ++ cs)
with_by p end about [] cs by all = all
with_by p end about (change ∷ changes) cs by all = (by, all)

above_less : (p q : ℕ) (cs : List TakenCommit) → p ≤ q → AllAbove q cs → AllAbove p cs
above_less p q [] low all = tt
above_less p q (c ∷ cs) low all = (let up : q < c.end = all.0 in omega arith, above_less p q cs low all.1)

-- ---- commits of transactions

one_behind : (p end : ℕ) (about : Option About) (changes : List Change) (cs : List TakenCommit) → p < end
    → behind p (taken_commit end about changes ++ cs) ≡ taken_commit end about changes ++ behind p cs
one_behind p end about [] cs up = refl
one_behind p end about (change ∷ changes) cs up = let yes : nat_lt p end ≡ true = grind (arith, nat_tests) in rw yes refl

none_behind : (p end : ℕ) (about : Option About) (changes : List Change) (cs : List TakenCommit) → end ≤ p
    → behind p (taken_commit end about changes ++ cs) ≡ behind p cs
none_behind p end about [] cs by = refl
none_behind p end about (change ∷ changes) cs by = let no : nat_lt p end ≡ false = grind (arith, nat_tests) in rw no refl

-- of the transactions behind an LSN those behind a later one
taken_behind : (p q : ℕ) (ts : List Transaction) → p ≤ q → behind q (taken_of (ended_after p ts)) ≡ taken_of (ended_after q ts)
taken_behind p q [] low = refl
taken_behind p q (t ∷ ts) low = elim (cases_lt q t.end)
    [ inl late ↦ is_behind late (taken_behind p q ts low) | inr early ↦ is_not early (taken_behind p q ts low) ]
  where
    is_behind : q < t.end → behind q (taken_of (ended_after p ts)) ≡ taken_of (ended_after q ts)
        → behind q (taken_of (ended_after p (t ∷ ts))) ≡ taken_of (ended_after q (t ∷ ts))
    is_behind late rest =
        let above_q : nat_lt q t.end ≡ true = grind (arith, nat_tests) in
        let above_p : nat_lt p t.end ≡ true = grind (arith, nat_tests) in
        rw (above_q, above_p)
        (one_behind q t.end (told_of t) (surviving_changes t.work) (taken_of (ended_after p ts)) late
        ∙ ap (λ cs. taken_commit t.end (told_of t) (surviving_changes t.work) ++ cs) rest)

    is_not : t.end ≤ q → behind q (taken_of (ended_after p ts)) ≡ taken_of (ended_after q ts)
        → behind q (taken_of (ended_after p (t ∷ ts))) ≡ taken_of (ended_after q (t ∷ ts))
    is_not early rest =
        let by_q : nat_lt q t.end ≡ false = grind (arith, nat_tests) in
        rw by_q (elim (nat_lt p t.end)
        as (λ b. behind q (taken_of (cond b (t ∷ ended_after p ts) (ended_after p ts))) ≡ taken_of (ended_after q ts)) [
          | true ↦ none_behind q t.end (told_of t) (surviving_changes t.work) (taken_of (ended_after p ts)) early ∙ rest
          | false ↦ rest
        ])

-- between an LSN and itself nothing stands
pub none_between : (p : ℕ) (ts : List Transaction) → ended_between p p ts ≡ []
none_between p [] = refl
none_between p (t ∷ ts) =
    elim (nat_le t.end p) as (λ b. nat_le t.end p ≡ b → ended_after p (cond b (t ∷ ended_by p ts) (ended_by p ts)) ≡ []) [
      | true ↦ λ e. let no : nat_lt p t.end ≡ false = grind (arith, nat_tests) in rw no (none_between p ts)
      | false ↦ λ e. none_between p ts
    ] refl

-- ---- entries

pub lead_end : (es : List Entry) (base : Tables) (at : ℕ) (tables : Tables) (place : ℕ) → LeadTo base at es tables place
    → last_end at es ≡ place
lead_end [] base at tables place leads = sym leads.1
lead_end (e ∷ es) base at tables place leads = lead_end es leads.1.2.0 e.end tables place leads.1.2.2

pub lead_entries : (es : List Entry) (base : Tables) (at : ℕ) (tables : Tables) (place : ℕ) → LeadTo base at es tables place
    → AreEntries at es
lead_entries [] base at tables place leads = tt
lead_entries (e ∷ es) base at tables place leads = (leads.0, lead_entries es leads.1.2.0 e.end tables place leads.1.2.2)

-- what comes behind some of them leads on from there
pub leads_behind : (gone stay : List Entry) (base : Tables) (at : ℕ) (tables : Tables) (place : ℕ)
    → LeadTo base at (gone ++ stay) tables place → (mid : Tables) × LeadTo mid (last_end at gone) stay tables place
leads_behind [] stay base at tables place leads = (base, leads)
leads_behind (g ∷ gone) stay base at tables place leads = leads_behind gone stay leads.1.2.0 g.end tables place leads.1.2.2

pub tell_end : (es : List Entry) (base : Tables) (at : ℕ) (cs : List TakenCommit) (tables : Tables) (place : ℕ)
    → TellTo base at es cs tables place → last_end at es ≡ place
tell_end [] base at cs tables place tells = sym tells.2
tell_end (e ∷ es) base at cs tables place tells = tell_end es tells.1.2.2.0 e.end tells.1.2.0 tables place tells.1.2.2.2

pub tell_entries : (es : List Entry) (base : Tables) (at : ℕ) (cs : List TakenCommit) (tables : Tables) (place : ℕ)
    → TellTo base at es cs tables place → AreEntries at es
tell_entries [] base at cs tables place tells = tt
tell_entries (e ∷ es) base at cs tables place tells =
    (tells.0, tell_entries es tells.1.2.2.0 e.end tells.1.2.0 tables place tells.1.2.2.2)

-- each ends behind the LSN
pub entries_above : (at : ℕ) (es : List Entry) → AreEntries at es → AllByRecursion (λ (e : Entry). at < e.end) es
entries_above at [] are = tt
entries_above at (e ∷ es) are = (are.0, less at e.end es are.0 (entries_above e.end es are.1))
  where
    less : (p q : ℕ) (es : List Entry) → p < q → AllByRecursion (λ (e : Entry). q < e.end) es
        → AllByRecursion (λ (e : Entry). p < e.end) es
    less p q [] low all = tt
    less p q (e ∷ es) low all = (let up : q < e.end = all.0 in omega arith, less p q es low all.1)

-- so do the commits that they tell
tell_above : (es : List Entry) (base : Tables) (at : ℕ) (cs : List TakenCommit) (tables : Tables) (place : ℕ)
    → TellTo base at es cs tables place → AllAbove at cs
tell_above [] base at cs tables place tells = subst (AllAbove at) (sym tells.0) tt
tell_above (e ∷ es) base at cs tables place tells =
    let rest : List TakenCommit = tells.1.2.0 in
    let up : at < e.end = tells.0 in
    subst (AllAbove at) (sym tells.1.2.1)
    (with_above at e.end e.about tells.1.0 rest up
    (above_less at e.end rest (omega arith) (tell_above es tells.1.2.2.0 e.end rest tables place tells.1.2.2.2)))

-- What comes behind some of them tells the commits behind these.
record TellsBehind (gone stay : List Entry) (at : ℕ) (cs : List TakenCommit) (tables : Tables) (place : ℕ) : Type 0 where
  pub mid : Tables
  pub front : List TakenCommit
  pub rest : List TakenCommit
  pub are : cs ≡ front ++ rest
  pub by : AllBy (last_end at gone) front
  pub tells : TellTo mid (last_end at gone) stay rest tables place

tells_behind : (gone stay : List Entry) (base : Tables) (at : ℕ) (cs : List TakenCommit) (tables : Tables) (place : ℕ)
    → AreEntries at gone → TellTo base at (gone ++ stay) cs tables place → TellsBehind gone stay at cs tables place
tells_behind [] stay base at cs tables place rise tells =
    record { mid = base; front = []; rest = cs; are = refl; by = tt; tells = tells }
tells_behind (e ∷ gone) stay base at cs tables place rise tells =
    let more = tells_behind gone stay tells.1.2.2.0 e.end tells.1.2.0 tables place rise.1 tells.1.2.2.2 in
    let own : List TakenCommit = taken_commit e.end e.about tells.1.0 in
    record {
      mid = more.mid;
      front = own ++ more.front;
      rest = more.rest;
      are = tells.1.2.1 ∙ ap (λ rest. own ++ rest) more.are ∙ sym (append_assoc own more.front more.rest);
      by = with_by (last_end e.end gone) e.end e.about tells.1.0 more.front (ends_up e.end gone rise.1) more.by;
      tells = more.tells;
    }

-- Of entries that tell the transactions between two places those behind some of them tell the
-- transactions behind where these end.
pub transactions_behind : (history : List Transaction) (gone stay : List Entry) (base : Tables) (from at : ℕ) (tables : Tables)
    (place : ℕ)
    → AreEntries from gone → last_end from gone ≡ at
    → TellTo base from (gone ++ stay) (taken_of (ended_between from place history)) tables place
    → (mid : Tables) × TellTo mid at stay (taken_of (ended_between at place history)) tables place
transactions_behind history gone stay base from at tables place rise ends tells =
    let it = tells_behind gone stay base from (taken_of (ended_between from place history)) tables place rise tells in
    let there : TellTo it.mid at stay it.rest tables place = subst (λ p. TellTo it.mid p stay it.rest tables place) ends it.tells in
    let low = ends_up from gone rise in
    let by : AllBy at it.front = subst (λ p. AllBy p it.front) ends it.by in
    let cut : behind at (it.front ++ it.rest) ≡ it.rest =
    filter-append (λ (c : TakenCommit). nat_lt at c.end) it.front it.rest ∙ ap (λ cs. cs ++ behind at it.rest) (behind_none at it.front by)
    ∙ behind_all at it.rest (tell_above stay it.mid at it.rest tables place there) in
    let same : it.rest ≡ taken_of (ended_between at place history) =
    sym cut ∙ ap (behind at) (sym it.are) ∙ taken_behind from at (ended_by place history) (omega (arith, low, ends)) in
    (it.mid, subst (λ cs. TellTo it.mid at stay cs tables place) same there)

-- ---- what went with the first segments

-- Of entries some went, and with them some of the later part: these are the others.
pub record IsCut (before since later stay : List Entry) (from at : ℕ) : Type 0 where
  pub gone : List Entry
  pub here : List Entry
  pub since_is : since ≡ gone ++ here
  pub stay_is : stay ≡ here ++ later
  pub ends : last_end from gone ≡ at

end_behind : (before own gone : List Entry) (from at : ℕ) → last_end 0 before ≡ from → gone ≡ before ++ own → last_end 0 gone ≡ at
    → last_end from own ≡ at
end_behind before own gone from at first parts ends =
    ap (λ p. last_end p own) (sym first) ∙ sym (end_append 0 before own) ∙ ap (last_end 0) (sym parts) ∙ ends

cut_here : (before since later stay gone here : List Entry) (from at : ℕ) → AreEntries 0 (before ++ since) → last_end 0 before ≡ from
    → before ++ since ≡ gone ++ here → stay ≡ here ++ later → last_end 0 gone ≡ at → from ≤ at → IsCut before since later stay from at
cut_here before since later stay gone here from at rise first parts rest ends low =
    let behind : AllByRecursion (λ (e : Entry). at < e.end) here =
    entries_above at here
    (subst (λ p. AreEntries p here) ends (entries_behind 0 gone here (subst (AreEntries 0) parts rise))) in
    let cut = split_at 0 at before since gone here (sym parts) (omega (arith, first, low)) ends behind in
    record {
      gone = cut.0;
      here = here;
      since_is = cut.2;
      stay_is = rest;
      ends = end_behind before cut.0 gone from at first cut.1 ends;
    }

pub cut_since : (before since later gone stay : List Entry) (from at place : ℕ) → AreEntries 0 before → last_end 0 before ≡ from
    → AreEntries from since → last_end from since ≡ place → AllByRecursion (λ (e : Entry). place < e.end) later
    → before ++ since ++ later ≡ gone ++ stay → last_end 0 gone ≡ at → from ≤ at → at ≤ place
    → IsCut before since later stay from at
cut_since before since later gone stay from at place rise first more last above same ends low high =
    let all : AreEntries 0 (before ++ since) = entries_append 0 before since rise (subst (λ p. AreEntries p since) (sym first) more) in
    let whole : last_end 0 (before ++ since) ≡ place =
    end_append 0 before since ∙ ap (λ p. last_end p since) first ∙ last in
    let split = split_at 0 place gone stay (before ++ since) later same (omega (arith, ends, high)) whole above in
    cut_here before since later stay gone split.0 from at all first split.1 split.2 ends low
