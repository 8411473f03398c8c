-- A store's ledger goes on with its commits, and is the same where it is opened anew.
use Rattle.std.proofs.Common.{◌≡◌, ◌≢◌, ◌<◌, ◌≤◌, ◌++◌, ◌⊎◌, inl, inr, ℕ, List, [], ◌∷◌}
use Rattle.std.proofs.Common.{Bool, true}
use Rattle.std.proofs.Common.{false, Result, Ok, Err, OnOk, OnErr, Option, refl, sym, ap, subst}
use Rattle.std.proofs.Common.{◌∙◌, arith}
use Rattle.std.specs.Prelude.{◌==◌}
use Rattle.std.specs.Cmp.{unsigned_Decides}
use Rattle.std.proofs.lemmas.List.{append-nil}
use Rattle.std.specs.List.{AllByRecursion}
use Rattle.pgapply.specs.declared.commit.About.{About}
use Rattle.pgapply.specs.Value.{Tables}
use Rattle.pgapply.specs.Apply.{Change, fold_changes}
use Rattle.pgledger.specs.declared.heard.Heard.{Heard}
use Rattle.pgledger.specs.Images.{images}
use Rattle.pgledger.specs.Entries.{Entry, entry_of, last_end, LeadTo}
use Rattle.pgledger.specs.Ledgers.{Appends, AppendsAtMost, CutsAt, Keeps, Rests, StaysOrSticks}
use Rattle.pgledger.specs.Ledgers.{Syncs}
use Rattle.pgapply.specs.Tallies.{TakenCommit, taken_commit}
use Rattle.pgledger.specs.Records.{Plans, Records, RecordsSince, StagesSince, TellTo, TellsSince}

-- ---- results

pub of_ok : {A E : Type 0} {P Q R S : Type 0} (r : Result A E) → OnOk r P → OnOk r Q → OnOk r R → (P → Q → R → S) → OnOk r S
of_ok (Ok x) p q r f = f p q r
of_ok (Err e) p q r f = tt

pub both_ok : {A E : Type 0} (P Q : Type 0) (r : Result A E) → OnOk r P → OnOk r Q → OnOk r (P × Q)
both_ok P Q (Ok x) p q = (p, q)
both_ok P Q (Err e) p q = tt

pub both_err : {A E : Type 0} (P Q : Type 0) (r : Result A E) → OnErr r P → OnErr r Q → OnErr r (P × Q)
both_err P Q (Ok x) p q = tt
both_err P Q (Err e) p q = (p, q)

pub of_err : {A E : Type 0} {P Q R S : Type 0} (r : Result A E) → OnErr r P → OnErr r Q → OnErr r R → (P → Q → R → S) → OnErr r S
of_err (Ok x) p q r f = tt
of_err (Err e) p q r f = f p q r

pub of_both : {A E : Type 0} {P Q R S : Type 0} (r : Result A E) → OnOk r P → OnErr r Q → OnErr r R → (P → S) → (Q → R → S) → S
of_both (Ok x) p q r f g = f p
of_both (Err e) p q r f g = g q r

either : (b : Bool) → (b ≡ true) ⊎ (b ≡ false)
either true = inl refl
either false = inr refl

-- something is staged
pub some_staged : (reach place : ℕ) (is_empty : Bool) → place ≤ reach → is_empty ≡ (reach == place) → is_empty ≡ false → place < reach
some_staged reach place is_empty order told differ =
    let apart : reach ≢ place = λ same. let yes : (reach == place) ≡ true = (unsigned_Decides reach place).1 same in let never : ⊥ = cc in
    never in
    omega (arith, order, apart)

-- what was told ends where it leads
ends : (es : List Entry) (t : Tables) (at : ℕ) (t' : Tables) (at' : ℕ) → LeadTo t at es t' at' → last_end at es ≡ at'
ends [] t at t' at' l = sym l.1
ends (e ∷ es) t at t' at' l = ends es l.1.2.0 e.end t' at' l.1.2.2

goes_on : (es : List Entry) (t : Tables) (at : ℕ) (t' : Tables) (at' end : ℕ) (about : Option About) (messages : List Heard)
    (changes : List Change) (next : Tables) → LeadTo t at es t' at' → at' < end → fold_changes t' changes ≡ Ok next
    → LeadTo t at (es ++ entry_of end about messages changes (images t' changes) ∷ []) next end
goes_on [] t at t' at' end about messages changes next l later e =
    let place = l.1 in (
      omega arith,
      (
        changes,
        ap (λ (x : Tables). entry_of end about messages changes (images x changes)) l.0,
        (next, subst (λ (x : Tables). fold_changes x changes ≡ Ok next) l.0 e, (refl, refl)),
      ),
    )
goes_on (x ∷ es) t at t' at' end about messages changes next l later e =
    (l.0, (l.1.0, l.1.1, (l.1.2.0, l.1.2.1, goes_on es l.1.2.0 x.end t' at' end about messages changes next l.1.2.2 later e)))

one_more : (P : Entry → Type 0) (es : List Entry) (e : Entry) → AllByRecursion P es → P e → AllByRecursion P (es ++ e ∷ [])
one_more P [] e all p = (p, tt)
one_more P (x ∷ es) e all p = (all.0, one_more P es e all.1 p)

append_twice : {A : Type 0} (a b c : List A) → a ++ (b ++ c) ≡ a ++ b ++ c
append_twice [] b c = refl
append_twice (x ∷ a) b c = ap (λ l. x ∷ l) (append_twice a b c)

-- a commit more is told
tells_on : (es : List Entry) (t : Tables) (at : ℕ) (commits : List TakenCommit) (t' : Tables) (at' end : ℕ) (about : Option About)
    (messages : List Heard) (changes : List Change) (next : Tables) → TellTo t at es commits t' at' → at' < end
    → fold_changes t' changes ≡ Ok next
    → TellTo t at (es ++ entry_of end about messages changes (images t' changes) ∷ []) (commits ++ taken_commit end about changes) next end
tells_on [] t at commits t' at' end about messages changes next l later e =
    let place = l.2 in
    let one = taken_commit end about changes in (
      omega arith,
      (
        changes,
        ap (λ (x : Tables). entry_of end about messages changes (images x changes)) l.1,
        (
          [],
          ap (λ (cs : List TakenCommit). cs ++ one) l.0 ∙ sym (append-nil one),
          (next, subst (λ (x : Tables). fold_changes x changes ≡ Ok next) l.1 e, (refl, refl, refl)),
        ),
      ),
    )
tells_on (x ∷ es) t at commits t' at' end about messages changes next l later e =
    let one = taken_commit end about changes in
    let rest = l.1.2 in
    let behind = rest.2 in (
      l.0,
      (
        l.1.0,
        l.1.1,
        (
          rest.0 ++ one,
          ap (λ (cs : List TakenCommit). cs ++ one) rest.1 ∙ sym (append_twice (taken_commit x.end x.about l.1.0) rest.0 one),
          (
            behind.0,
            behind.1,
            tells_on es behind.0 x.end rest.0 t' at' end about messages changes next behind.2 later e,
          ),
        ),
      ),
    )

module _ {L : Type 0} (begins : L → ℕ) (keeps : L → List Entry → Type 0) (outlasts : L → ℕ → Type 0) (is_stuck : L → Bool)
    (is_wanting is_hearing : L → Bool) (reopens : L → ℕ → L → Type 0) where
  -- ---- a ledger that begins, and one that is opened anew

  pub begun : (l : L) (tables : Tables) (place reach : ℕ) → keeps l [] → begins l ≡ place → outlasts l place
      → Records begins keeps outlasts is_stuck l tables place reach
  begun l tables place reach kept here lasting =
      record {
        base = tables;
        told = [];
        later = [];
        kept = kept;
        leads = (refl, sym here);
        lasting = lasting;
        above = tt;
        none = λ _ _. refl;
      }

  module _ (cuts : CutsAt keeps begins outlasts reopens) (old new : L) where
    cut : (es later : List Entry) (base tables : Tables) (place p reach : ℕ) → p ≡ place → reopens old p new → keeps old (es ++ later)
        → LeadTo base (begins old) es tables place → outlasts old place
        → AllByRecursion (λ (e : Entry). place < e.end) later → Records begins keeps outlasts is_stuck new tables p reach
    cut es later base tables place p reach is r kept leads lasting above =
        let at : reopens old place new = subst (λ q. reopens old q new) is r in
        let it = cuts old new place es later at kept (ends es base (begins old) tables place leads) lasting above in
        subst (λ q. Records begins keeps outlasts is_stuck new tables q reach) (sym is) (record {
          base = base;
          told = es;
          later = [];
          kept = subst (keeps new) (sym (append-nil es)) it.0;
          leads = subst (λ b. LeadTo base b es tables place) (sym it.1) leads;
          lasting = it.2;
          above = tt;
          none = λ _ _. refl;
        })

    -- what a crash leaves of it leads to the same tables
    pub same_records : (tables : Tables) (place reach p reach' : ℕ) → p ≡ place → reopens old p new
        → Records begins keeps outlasts is_stuck old tables place reach → Records begins keeps outlasts is_stuck new tables p reach'
    same_records tables place reach p reach' is r k = cut k.told k.later k.base tables place p reach' is r k.kept k.leads k.lasting k.above

  -- a run that begins here has told nothing yet
  pub fresh : (l : L) (tables : Tables) (place reach : ℕ) → Records begins keeps outlasts is_stuck l tables place reach
      → RecordsSince begins keeps outlasts is_stuck l place [] tables place reach
  fresh l tables place reach k = record {
    records = k;
    since = record {
      before = k.told;
      since = [];
      are = sym (append-nil k.told);
      mid = tables;
      leads = k.leads;
      tells = (refl, refl, refl);
    };
  }

  -- so has one over what a crash leaves
  pub same_since : CutsAt keeps begins outlasts reopens → (old new : L) (from : ℕ) (commits : List TakenCommit) (tables : Tables)
      (place reach p reach' from' : ℕ) (commits' : List TakenCommit) → p ≡ place → reopens old p new → commits' ≡ [] → from' ≡ p
      → RecordsSince begins keeps outlasts is_stuck old from commits tables place reach
      → RecordsSince begins keeps outlasts is_stuck new from' commits' tables p reach'
  same_since cuts old new from commits tables place reach p reach' from' commits' is r none at k =
      subst (λ cs. RecordsSince begins keeps outlasts is_stuck new from' cs tables p reach') (sym none)
      (subst (λ f. RecordsSince begins keeps outlasts is_stuck new f [] tables p reach') (sym at)
      (fresh new tables p reach' (same_records cuts old new tables place reach p reach' is r k.records)))

  -- ---- the same, as it is told by a store that was called

  pub at_records : (l : L) (from : ℕ) (tables : Tables) (commits commits' : List TakenCommit) (place place' reach : ℕ) → commits' ≡ commits
      → place' ≡ place → RecordsSince begins keeps outlasts is_stuck l from commits tables place reach
      → RecordsSince begins keeps outlasts is_stuck l from commits' tables place' reach
  at_records l from tables commits commits' place place' reach same is k =
      subst (λ cs. RecordsSince begins keeps outlasts is_stuck l from cs tables place' reach) (sym same)
      (subst (λ p. RecordsSince begins keeps outlasts is_stuck l from commits tables p reach) (sym is) k)

  pub at_reach : (l : L) (from : ℕ) (tables : Tables) (commits : List TakenCommit) (place reach reach' : ℕ) → reach' ≡ reach
      → RecordsSince begins keeps outlasts is_stuck l from commits tables place reach
      → RecordsSince begins keeps outlasts is_stuck l from commits tables place reach'
  at_reach l from tables commits place reach reach' is k =
      subst (λ r. RecordsSince begins keeps outlasts is_stuck l from commits tables place r) (sym is) k

  pub at_plans : (l : L) (from : ℕ) (tables : Tables) (commits commits' staged staged' : List TakenCommit) (place place' reach reach' : ℕ)
      → commits' ≡ commits → staged' ≡ staged → place' ≡ place → reach' ≡ reach
      → Plans begins keeps outlasts is_stuck l from commits staged tables place reach
      → Plans begins keeps outlasts is_stuck l from commits' staged' tables place' reach'
  at_plans l from tables commits commits' staged staged' place place' reach reach' same staged_same is reach_is h =
      subst (λ cs. Plans begins keeps outlasts is_stuck l from cs staged' tables place' reach') (sym same)
      (subst (λ cs. Plans begins keeps outlasts is_stuck l from commits cs tables place' reach') (sym staged_same)
      (subst (λ p. Plans begins keeps outlasts is_stuck l from commits staged tables p reach') (sym is)
      (subst (λ r. Plans begins keeps outlasts is_stuck l from commits staged tables place r) (sym reach_is) h)))

  -- ---- what becomes of a ledger in a call

  module _ (old new : L) (rests : Rests begins is_wanting is_hearing outlasts reopens old new) (from : ℕ) (commits : List TakenCommit)
      (tables : Tables) (place : ℕ) where
    -- it keeps what it kept, and may be stuck then
    pub kept_records : (reach reach' : ℕ) → Keeps keeps old new
        → (is_stuck new ≡ false → reach' ≡ place → (is_stuck old ≡ false) × (reach ≡ place))
        → RecordsSince begins keeps outlasts is_stuck old from commits tables place reach
        → RecordsSince begins keeps outlasts is_stuck new from commits tables place reach'
    kept_records reach reach' keep free r =
        let k = r.records in
        record {
          records = record {
            base = k.base;
            told = k.told;
            later = k.later;
            kept = keep _ k.kept;
            leads = subst (λ b. LeadTo k.base b k.told tables place) (sym rests.begins_is) k.leads;
            lasting = rests.outlasts_more place k.lasting;
            above = k.above;
            none = λ stands here. let was = free stands here in k.none was.0 was.1;
          };
          since = subst (λ b. TellsSince k.base b k.told from commits tables place) (sym rests.begins_is) r.since;
        }

    -- perhaps a commit more is told that ends later
    pub more_records : (reach reach' end : ℕ) → place < end → AppendsAtMost keeps end old new → (is_stuck new ≡ false → reach' ≡ place → ⊥)
        → RecordsSince begins keeps outlasts is_stuck old from commits tables place reach
        → RecordsSince begins keeps outlasts is_stuck new from commits tables place reach'
    more_records reach reach' end later adds never r =
        let k = r.records in
        let leads = subst (λ b. LeadTo k.base b k.told tables place) (sym rests.begins_is) k.leads in
        let since = subst (λ b. TellsSince k.base b k.told from commits tables place) (sym rests.begins_is) r.since in
        let lasting = rests.outlasts_more place k.lasting in
        elim (adds (k.told ++ k.later) k.kept) [
          | inl same ↦ record {
            records = record {
              base = k.base;
              told = k.told;
              later = k.later;
              kept = same;
              leads = leads;
              lasting = lasting;
              above = k.above;
              none = λ stands here. absurd (never stands here);
            };
            since = since;
          }
          | inr one ↦ record {
            records = record {
              base = k.base;
              told = k.told;
              later = k.later ++ one.0 ∷ [];
              kept = subst (keeps new) (sym (append_twice k.told k.later (one.0 ∷ []))) one.2;
              leads = leads;
              lasting = lasting;
              above =
                  one_more (λ (e : Entry). place < e.end) k.later one.0 k.above (let end_is = one.1 in omega (arith, later, end_is));
              none = λ stands here. absurd (never stands here);
            };
            since = since;
          }
        ]

    -- what was staged is dropped, and the store is where it was
    pub dropped_records : (reach place' reach' from' : ℕ) (commits' : List TakenCommit) → Keeps keeps old new
        → (is_stuck new ≡ false → (is_stuck old ≡ false) × (reach ≡ place)) → place' ≡ place → from' ≡ from → commits' ≡ commits
        → RecordsSince begins keeps outlasts is_stuck old from commits tables place reach
        → RecordsSince begins keeps outlasts is_stuck new from' commits' tables place' reach'
    dropped_records reach place' reach' from' commits' keep free is begun same r =
        subst (λ f. RecordsSince begins keeps outlasts is_stuck new f commits' tables place' reach') (sym begun)
        (at_records new from tables commits commits' place place' reach' same is
        (kept_records reach reach' keep (λ stands _. free stands) r))

    -- it keeps what it kept, and stays free if it is
    module _ (keep : Keeps keeps old new) (free : is_stuck new ≡ false → is_stuck old ≡ false) (reach : ℕ) where
      pub still_records : RecordsSince begins keeps outlasts is_stuck old from commits tables place reach
          → RecordsSince begins keeps outlasts is_stuck new from commits tables place reach
      still_records r = kept_records reach reach keep (λ stands here. (free stands, here)) r

      pub still_plans : (staged : List TakenCommit) → Plans begins keeps outlasts is_stuck old from commits staged tables place reach
          → Plans begins keeps outlasts is_stuck new from commits staged tables place reach
      still_plans staged h = record {
        held = λ here. still_records (h.held here);
        staged = λ stands. let r = h.staged (free stands) in
            let k = r.stages in
            record {
              stages = record {
                base = k.base;
                told = k.told;
                kept = keep k.told k.kept;
                leads = subst (λ b. LeadTo k.base b k.told tables reach) (sym rests.begins_is) k.leads;
              };
              since = subst (λ b. TellsSince k.base b k.told from staged tables reach) (sym rests.begins_is) r.since;
            };
      }

    -- a commit was refused
    module _ (end : ℕ) (later : place < end) (adds : AppendsAtMost keeps end old new) (untold : StaysOrSticks is_stuck old new) where
      pub refused_records : (reach : ℕ) → RecordsSince begins keeps outlasts is_stuck old from commits tables place reach
          → RecordsSince begins keeps outlasts is_stuck new from commits tables place reach
      refused_records reach k = elim untold [
        | inl same ↦ subst (λ l. RecordsSince begins keeps outlasts is_stuck l from commits tables place reach) (sym same) k
        | inr stuck ↦ more_records reach reach end later adds (λ stands _. let never : ⊥ = cc in never) k
      ]

      pub refused_plans : (staged : List TakenCommit) (reach : ℕ)
          → Plans begins keeps outlasts is_stuck old from commits staged tables place reach
          → Plans begins keeps outlasts is_stuck new from commits staged tables place reach
      refused_plans staged reach h = elim untold [
        | inl same ↦ subst (λ l. Plans begins keeps outlasts is_stuck l from commits staged tables place reach) (sym same) h
        | inr stuck ↦ record {
          held = λ here.
              more_records reach reach end later adds (λ stands _. let never : ⊥ = cc in never) (h.held here);
          staged =
              λ stands. absurd (let never : ⊥ = cc in never);
        }
      ]

    -- a commit that came in parts was refused
    module _ (end : ℕ) (later : place < end) (adds : AppendsAtMost keeps end old new)
        (free : is_stuck new ≡ false → is_stuck old ≡ false) (kept : is_stuck new ≡ false → Keeps keeps old new) (reach : ℕ) where
      pub dropped_parts_records : RecordsSince begins keeps outlasts is_stuck old from commits tables place reach
          → RecordsSince begins keeps outlasts is_stuck new from commits tables place reach
      dropped_parts_records k = elim (either (is_stuck new)) [
        | inl stuck ↦ more_records reach reach end later adds (λ stands _. let never : ⊥ = cc in never) k
        | inr stands ↦ still_records (kept stands) free reach k
      ]

      pub dropped_parts_plans : (staged : List TakenCommit) → Plans begins keeps outlasts is_stuck old from commits staged tables place
          reach
          → Plans begins keeps outlasts is_stuck new from commits staged tables place reach
      dropped_parts_plans staged h = elim (either (is_stuck new)) [
        | inl stuck ↦ record {
          held = λ here. dropped_parts_records (h.held here);
          staged = λ stands. absurd (let never : ⊥ = cc in never);
        }
        | inr stands ↦ still_plans (kept stands) free reach staged h
      ]

    -- a commit more is staged
    pub more_staged : (end : ℕ) (about : Option About) (messages : List Heard) (changes : List Change) (next : Tables) → place < end
        → fold_changes tables changes ≡ Ok next
        → Appends keeps (entry_of end about messages changes (images tables changes)) old new
        → StagesSince begins keeps outlasts is_stuck old from commits tables place
        → StagesSince begins keeps outlasts is_stuck new from (commits ++ taken_commit end about changes) next end
    more_staged end about messages changes next later e adds r =
        let k = r.stages in
        let s = r.since in
        let one = entry_of end about messages changes (images tables changes) ∷ [] in
        record {
          stages = record {
            base = k.base;
            told = k.told ++ one;
            kept = adds k.told k.kept;
            leads = subst (λ b. LeadTo k.base b (k.told ++ one) next end) (sym rests.begins_is)
                (goes_on k.told k.base (begins old) tables place end about messages changes next k.leads later e);
          };
          since = record {
            before = s.before;
            since = s.since ++ one;
            are = ap (λ (es : List Entry). es ++ one) s.are ∙ sym (append_twice s.before s.since one);
            mid = s.mid;
            leads = subst (λ b. LeadTo k.base b s.before s.mid from) (sym rests.begins_is) s.leads;
            tells = tells_on s.since s.mid from commits tables place end about messages changes next s.tells later e;
          };
        }

    -- all that is staged is taken
    pub settled_records : (reach' : ℕ) → Keeps keeps old new → Syncs keeps begins outlasts old new
        → StagesSince begins keeps outlasts is_stuck old from commits tables place
        → RecordsSince begins keeps outlasts is_stuck new from commits tables place reach'
    settled_records reach' keep syncs r =
        let k = r.stages in
        record {
          records = record {
            base = k.base;
            told = k.told;
            later = [];
            kept = subst (keeps new) (sym (append-nil k.told)) (keep k.told k.kept);
            leads = subst (λ b. LeadTo k.base b k.told tables place) (sym rests.begins_is) k.leads;
            lasting = subst (outlasts new) (ends k.told k.base (begins old) tables place k.leads) (syncs k.told k.kept);
            above = tt;
            none = λ _ _. refl;
          };
          since = subst (λ b. TellsSince k.base b k.told from commits tables place) (sym rests.begins_is) r.since;
        }

  -- where nothing is staged, what is held is what is staged
  pub held_plans : (l : L) (from : ℕ) (commits staged : List TakenCommit) (tables : Tables) (place reach : ℕ) → reach ≡ place
      → staged ≡ commits → RecordsSince begins keeps outlasts is_stuck l from commits tables place reach
      → Plans begins keeps outlasts is_stuck l from commits staged tables place reach
  held_plans l from commits staged tables place reach here same r =
      let k = r.records in
      record {
        held = λ _. r;
        staged = λ stands. record {
          stages = record {
            base = k.base;
            told = k.told;
            kept = subst (keeps l) (ap (λ xs. k.told ++ xs) (k.none stands here) ∙ append-nil k.told) k.kept;
            leads = subst (λ p. LeadTo k.base (begins l) k.told tables p) (sym here) k.leads;
          };
          since =
              subst (λ cs. TellsSince k.base (begins l) k.told from cs tables reach) (sym same)
              (subst (λ p. TellsSince k.base (begins l) k.told from commits tables p) (sym here) r.since);
        };
      }
