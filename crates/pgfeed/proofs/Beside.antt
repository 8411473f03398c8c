-- What the calls of a feed leave of it as the ledger of the store beside it.
use Rattle.std.proofs.Common.{◌≡◌, ◌<◌, ◌⊎◌, inl, inr, ℕ, List, [], ◌∷◌, ◌++◌, append-nil}
use Rattle.std.proofs.Common.{append_assoc, ap, refl, sym, ◌∙◌, subst, arith, Bool, true, None}
use Rattle.std.specs.Prelude.{is_some}
use Rattle.std.specs.List.{AllByRecursion}
use Rattle.std.proofs.lemmas.Bool.{cases_lt}
use Rattle.pgapply.specs.Apply.{fold_changes}
use Rattle.pgapply.specs.Value.{Tables}
use Rattle.pgledger.specs.Entries.{Entry, LeadTo, entry_of, last_end}
use Rattle.pgledger.specs.Images.{images}
use Rattle.pgledger.specs.Ledgers.{Appends, AppendsAtMost, Keeps, Rests, Syncs}
use Rattle.pgfeed.specs.declared.feed.Feed.{Feed}
use Rattle.pgfeed.specs.declared.folder.SegmentLimits.{SegmentLimits}
use Rattle.pgfeed.specs.declared.segment.Segment.{Segment}
use Rattle.pgfeed.specs.Beside.{FeedsBegin, FeedsGoOn, KeepsRest, LastsFrom}
use Rattle.pgfeed.specs.Beside.{LeftIsReopened, RestsLead}
use Rattle.pgfeed.specs.Feeds.{CutsIn, Goes, IsFresh, KeepsAll, LastsUpTo, OpensIn}
use Rattle.pgfeed.specs.Feeds.{ReopensAt, first_of}
use Rattle.pgfeed.specs.Segments.{Lasts}
use Rattle.pgfeed.specs.Cutting.Beside.{begins_low, cut_ledger, split_at}
use Rattle.pgfeed.specs.Cutting.Kept.{end_append}
use Rattle.pgfeed.proofs.Lasting.{left_in}

module _ {F D : Type 0} (seen : D → List ℕ) (may_leave : D → List ℕ → Type 0) (is_clean : D → Bool) (is_true : F → Type 0)
    (places : F → List ℕ) (has : F → ℕ → List ℕ → Type 0) where
  -- ---- calls

  abbrev All : Feed F D → List Entry → Type 0
  All = KeepsAll seen may_leave is_clean is_true places has

  abbrev Rest : Feed F D → List Entry → Type 0
  Rest = KeepsRest seen may_leave is_clean is_true places has

  module _ (old new : Feed F D) (begins : new.begins ≡ old.begins) where
    pub rest_keeps : Keeps All old new → Keeps Rest old new
    rest_keeps keeps es k = record {
      gone = k.gone;
      stay = k.stay;
      is = k.is;
      begins_is = begins ∙ k.begins_is;
      kept = keeps k.stay k.kept;
    }

    pub rest_appends : (e : Entry) → Appends All e old new → Appends Rest e old new
    rest_appends e appends es k = record {
      gone = k.gone;
      stay = k.stay ++ e ∷ [];
      is = ap (λ xs. xs ++ e ∷ []) k.is ∙ append_assoc k.gone k.stay (e ∷ []);
      begins_is = begins ∙ k.begins_is;
      kept = appends k.stay k.kept;
    }

    pub rest_at_most : (end : ℕ) → Keeps All old new → AppendsAtMost Rest end old new
    rest_at_most end keeps es k = inl (rest_keeps keeps es k)

    pub rest_syncs : Syncs All (λ (l : Feed F D). l.begins) (LastsUpTo seen may_leave is_clean is_true places has) old new
        → Syncs Rest (λ (l : Feed F D). 0) (LastsFrom seen may_leave is_clean is_true places has) old new
    rest_syncs syncs es k =
        let low = begins_low seen may_leave is_clean is_true places has old k.stay k.kept in
        let end : last_end old.begins k.stay ≡ last_end 0 es =
        ap (λ q. last_end q k.stay) k.begins_is ∙ sym (end_append 0 k.gone k.stay) ∙ ap (last_end 0) (sym k.is) in (
          omega (arith, low, end, begins),
          subst (LastsUpTo seen may_leave is_clean is_true places has new) end (syncs k.stay k.kept),
        )

    pub rest_rests : new.limits ≡ old.limits → Goes seen may_leave is_clean is_true places has old new
        → Rests (λ (l : Feed F D). 0) (λ (l : Feed F D). true) (λ (l : Feed F D). is_some l.limits.messages)
        (LastsFrom seen may_leave is_clean is_true places has) (ReopensAt seen may_leave is_clean is_true places has) old new
    rest_rests limits goes = record {
      begins_is = refl;
      wanting_is = refl;
      hearing_is = ap (λ (m : SegmentLimits). is_some m.messages) limits;
      outlasts_more = λ p h. (let low = h.0 in omega (arith, begins), goes.lasts_more p h.1);
      reopens_less = goes.opens_less;
    }

  -- ---- laws

  -- entries that lead somewhere lead there from where the first ones of them end
  leads_behind : (gone stay : List Entry) (base : Tables) (at : ℕ) (tables : Tables) (place : ℕ)
      → LeadTo base at (gone ++ stay) tables place → (mid : Tables) × LeadTo mid (last_end at gone) stay tables place
  leads_behind [] stay base at tables place leads = (base, leads)
  leads_behind (g ∷ gone) stay base at tables place leads = leads_behind gone stay leads.1.2.0 g.end tables place leads.1.2.2

  lead_end : (told : List Entry) (base : Tables) (at : ℕ) (tables : Tables) (place : ℕ) → LeadTo base at told tables place
      → last_end at told ≡ place
  lead_end [] base at tables place leads = sym leads.1
  lead_end (e ∷ told) base at tables place leads = lead_end told leads.1.2.0 e.end tables place leads.1.2.2

  pub rests_lead : RestsLead seen may_leave is_clean is_true places has
  rests_lead l tables place reach r =
      let k = r.kept in
      let low = r.lasting.0 in
      let split = split_at 0 place k.gone k.stay r.told r.later k.is (omega (arith, k.begins_is, low))
      (lead_end r.told r.base 0 tables place r.leads) r.above in
      let mid : List Entry = split.0 in
      let behind = leads_behind k.gone mid r.base 0 tables place (subst (λ es. LeadTo r.base 0 es tables place) split.1 r.leads) in
      record {
        base = behind.0;
        told = mid;
        later = r.later;
        kept = subst (All l) split.2 k.kept;
        leads = subst (λ q. LeadTo behind.0 q mid tables place) (sym k.begins_is) behind.1;
      }

  -- a commit that changes no row ends there, or there is none
  first_told : (tables : Tables) (place : ℕ) → (told : List Entry) × (last_end 0 told ≡ place) × LeadTo tables 0 told tables place
  unfolding fold_changes
  first_told tables place = elim (cases_lt 0 place) [
    | inl up ↦ (entry_of place None [] [] (images tables []) ∷ [], refl, (up, ([], refl, (tables, refl, (refl, refl)))))
    | inr none ↦ ([], omega (arith, none), (refl, omega (arith, none)))
  ]

  no_list : (bases above : List ℕ) (base : ℕ) → [] ≡ bases ++ (base ∷ above) → ⊥
  no_list [] above base e = cc
  no_list (b ∷ bases) above base e = cc

  none_there : {P Q : Type 0} (found bases above : List ℕ) (base place : ℕ) → found ≡ []
      → ((found ≡ bases ++ (base ∷ above)) × P) ⊎ ((found ≡ []) × (bases ≡ []) × (base ≡ place) × Q)
      → (bases ≡ []) × (base ≡ place) × Q
  none_there found bases above base place none (inl some) = absurd (no_list bases above base (sym none ∙ some.0))
  none_there found bases above base place none (inr new) = (new.1, new.2, new.3)

  new_keeps : (folder : F) (place : ℕ) (l : Feed F D) → (opens : OpensIn seen may_leave is_clean is_true places has folder place l)
      → (c : CutsIn seen may_leave is_clean is_true places has folder place l.folder l.begins l.segment) → c.bases ≡ []
      → IsFresh seen may_leave l.segment
      → (l.begins ≡ l.segment.base) × All l []
  new_keeps folder place l opens c none fresh =
      let begins : l.begins ≡ l.segment.base = c.first ∙ ap (λ bs. first_of bs l.segment.base) none in (
        begins,
        record {
          before = [];
          now = [];
          is = refl;
          entries = tt;
          ends = begins;
          kept = fresh.0;
          whole = λ _. record {
            bases = [];
            above = [];
            there = c.stay ∙ ap (λ bs. bs ++ l.segment.base ∷ []) none;
            below = subst (AllByRecursion (λ (e : Segment D). e.base < l.segment.base)) (sym opens.alone) tt;
            ended = (begins, refl);
            over = inl refl;
            free = λ _. refl;
          };
        },
      )

  pub begins_with : FeedsBegin seen may_leave is_clean is_true places has
  begins_with folder l tables place reach opens honest empty =
      let c = opens.cuts honest in
      let new = none_there (places folder) c.bases c.above l.segment.base place empty c.there in
      let fresh : IsFresh seen may_leave l.segment = new.2 in
      let keeps = new_keeps folder place l opens c new.0 fresh in
      let first = first_told tables place in
      let at = new.1 in
      let last = opens.last in
      record {
        base = tables;
        told = first.0;
        later = [];
        kept = record { gone = first.0; stay = []; is = refl; begins_is = keeps.0 ∙ at ∙ sym first.1; kept = keeps.1 };
        leads = first.2;
        lasting = (
          omega (arith, keeps.0, at),
          (omega (arith, last), λ _. subst (Lasts l.segment.base l.segment.size (may_leave l.segment.disk)) at fresh.1),
        );
        above = tt;
        none = λ _ _. refl;
      }

  pub left_is_reopened : LeftIsReopened seen may_leave is_clean is_true places has
  left_is_reopened l other place gone folder left opens honest es k up =
      (gone, folder, left_in seen may_leave is_clean is_true places has l place es k gone folder left, opens, honest)

  pub goes_on : ((d : D) → may_leave d (seen d)) → FeedsGoOn seen may_leave is_clean is_true places has
  goes_on may_stay l other tables place reach reach' opened r =
      let it = cut_ledger seen may_leave is_clean is_true places has may_stay l other place r.told r.later opened r.kept
      (lead_end r.told r.base 0 tables place r.leads) r.lasting r.above in
      record {
        base = r.base;
        told = r.told;
        later = [];
        kept = subst (Rest other) (sym (append-nil r.told)) it.0;
        leads = r.leads;
        lasting = it.2;
        above = tt;
        none = λ _ _. refl;
      }
