-- What a watch knows behind the messages before it, and what one message more does.
use Rattle.std.proofs.Common.{◌≡◌, ◌≢◌, ◌<◌, ◌≤◌, ◌⊎◌, inl, inr, ℕ, List, [], ◌∷◌, Bool, true}
use Rattle.std.proofs.Common.{false, cond, ◌&&◌, nat_le, nat_lt, Option, Some, None, Result}
use Rattle.std.proofs.Common.{ℤ, Ok, Err, refl, sym, ap, subst, ◌∙◌, arith}
use Rattle.std.proofs.lemmas.Bool.Decides.{nat_tests, leb_tells}
use Rattle.pglogical.specs.declared.message.RelationDef.{RelationDef}
use Rattle.pglogical.specs.declared.message.Item.{Item}
use Rattle.pglogical.specs.declared.message.Message.{Message}
use Rattle.pgorder.specs.Steps.{Context, Outside, InPair, InBlock}
use Rattle.pgapply.specs.Apply.{Change}
use Rattle.pgsub_core.specs.Server.Described.{relations_after, described}
use Rattle.pgsub_core.specs.Server.Stream.{pair_of, pair_items, Committed}
use Rattle.pgsub_core.specs.Server.Stream.{Completed, commits_of}
use Rattle.pgsub_core.specs.Server.Work.{Work, IsWork, surviving_changes, xids_of, AllDiffer}
use Rattle.pgsub_core.specs.Server.History.{Transaction, ChangesRows}
use Rattle.pgsub_core.specs.Server.Delivers.{IsCommitOf}
use Rattle.pgwatch.specs.Known.{OidSet}
use Rattle.pgwatch.specs.declared.fault.Breach.{Breach}
use Rattle.pgwatch.specs.declared.fault.Breach.TheVariants as breach
use Rattle.pgwatch.specs.declared.facts.Facts.{Facts}
use Rattle.pgwatch.specs.declared.facts.Missing.{Missing}
use Rattle.pgwatch.specs.declared.watch.Watch.{Watch}
use Rattle.pgwatch.specs.Hearing.{commit_judged, described_judged, misplaced, by_place}
use Rattle.pgwatched.proofs.Describing.{Knows, IsPair, none-any}

-- Behind these messages, of which the last stands first, the relations are known that were
-- described; in a pair it is known how far its items are described.
abbrev pub IsAt : Context → OidSet → Facts → List Message → List RelationDef → Type 0
IsAt Outside known f before earlier = (pair_of before ≡ None) × Knows known earlier
IsAt (InPair lsn xid) known f before earlier =
    (pair_of before ≡ Some xid) × Knows known (relations_after earlier (pair_items before))
    × IsPair f.missing f.changes (described earlier (pair_items before))
IsAt (InBlock xid) known f before earlier = (pair_of before ≡ None) × Knows known earlier

abbrev pub WatchIsAt : Watch → List Message → List RelationDef → Type 0
WatchIsAt w before earlier = IsAt w.order.state.context w.known w.facts before earlier

-- a message that commits nothing
pub record IsQuiet (f : Facts) (w : Watch) (before : List Message) (earlier : List RelationDef) (m : Message) : Type 0 where
  pub none : commits_of before m ≡ []
  pub start : w.facts.start ≡ f.start
  pub last : w.facts.last_end ≡ f.last_end
  pub told : w.facts.told ≡ f.told
  pub goes : WatchIsAt w (m ∷ before) earlier

-- the commit of a pair or of a streamed transaction, in its place
pub record IsCommit (f : Facts) (w : Watch) (before : List Message) (earlier : List RelationDef) (m : Message) : Type 0 where
  pub completed : Completed
  pub xid : ℕ
  pub lsn : ℕ
  pub end : ℕ
  pub time : ℤ
  pub items : List Item
  pub changes : List Change
  pub one : commits_of before m ≡ Committed completed ∷ []
  pub described : described earlier items ≡ Ok changes
  -- it is some transaction's, and of any that it may be of, these items survive
  pub some : (work : Work) × IsWork work × AllDiffer (xid ∷ xids_of work) × (surviving_changes work ≡ changes)
      × IsCommitOf (record { xid = xid; work = work; lsn = lsn; end = end; time = time }) completed items
  pub only : (t : Transaction) (surviving : List Item) → AllDiffer (t.xid ∷ xids_of t.work) → IsCommitOf t completed surviving
      → (lsn ≡ t.lsn) × (end ≡ t.end) × (surviving ≡ items)
  pub behind : f.last_end ≤ lsn
  pub ends : lsn < end
  pub after : f.start < end
  pub above : changes ≢ [] → f.told < end
  pub start : w.facts.start ≡ f.start
  pub last : w.facts.last_end ≡ end
  pub told : w.facts.told ≡ f.told
  pub goes : WatchIsAt w (m ∷ before) (relations_after earlier items)

abbrev pub IsStep : Facts → Watch → List Message → List RelationDef → Message → Type 0
IsStep f w before earlier m = IsQuiet f w before earlier m ⊎ IsCommit f w before earlier m

-- why a commit is refused
abbrev pub IsMisplaced : Facts → ℕ → ℕ → Type 0
IsMisplaced f lsn end = (lsn < f.last_end) ⊎ (end ≤ lsn) ⊎ (end ≤ f.start)

abbrev pub IsWhy : Facts → ℕ → ℕ → Result (List Change) ℕ → Type 0
IsWhy f lsn end described =
    IsMisplaced f lsn end ⊎ ((oid : ℕ) × (described ≡ Err oid))
    ⊎ ((changes : List Change) × (described ≡ Ok changes) × (changes ≢ []) × (end ≤ f.told))

-- It is the commit of no transaction that may come next.
pub record IsRefusal (f : Facts) (before : List Message) (earlier : List RelationDef) (m : Message) : Type 0 where
  pub completed : Completed
  pub one : commits_of before m ≡ Committed completed ∷ []
  pub none : (t : Transaction) (surviving : List Item) → AllDiffer (t.xid ∷ xids_of t.work) → IsCommitOf t completed surviving
      → f.last_end ≤ t.lsn → t.lsn < t.end → f.start < t.end → (ChangesRows t → f.told < t.end)
      → described earlier surviving ≡ Ok (surviving_changes t.work) → ⊥

module _ (f : Facts) where
  away_from : (lsn end l e : ℕ) → lsn ≡ l → end ≡ e → f.last_end ≤ l → l < e → f.start < e → IsMisplaced f lsn end → ⊥
  away_from lsn end l e same_lsn same_end place ends after (inl below) = omega arith
  away_from lsn end l e same_lsn same_end place ends after (inr (inl empty)) = omega arith
  away_from lsn end l e same_lsn same_end place ends after (inr (inr early)) = omega arith

  pub refused_for : (lsn end l e : ℕ) (r : Result (List Change) ℕ) (changes : List Change) → lsn ≡ l → end ≡ e → f.last_end ≤ l → l < e
      → f.start < e → ((changes ≡ [] → ⊥) → f.told < e) → r ≡ Ok changes → IsWhy f lsn end r → ⊥
  refused_for lsn end l e r changes same_lsn same_end place ends after tells made (inl away) =
      away_from lsn end l e same_lsn same_end place ends after away
  refused_for lsn end l e r changes same_lsn same_end place ends after tells made (inr (inl missing)) = never missing.1
    where
      never : r ≡ Err missing.0 → ⊥
      never e = cc
  refused_for lsn end l e r changes same_lsn same_end place ends after tells made (inr (inr kept)) =
      let lt : f.told < e = tells (λ none. kept.2 (same_changes kept.1 ∙ none)) in
      let le : end ≤ f.told = kept.3 in
      omega arith
    where
      same_changes : r ≡ Ok kept.0 → kept.0 ≡ changes
      same_changes e = cc

-- ---- a commit that is judged

pub missing_none : (o : Option Missing) (changes : Bool) (r : Result (List Change) ℕ) → o ≡ None → IsPair o changes r
    → IsPair None changes r
missing_none None changes r e pair = pair
missing_none (Some missing) changes r e pair = absurd (cc)

pub record IsGood (f g : Facts) (lsn end : ℕ) : Type 0 where
  pub behind : f.last_end ≤ lsn
  pub ends : lsn < end
  pub after : f.start < end
  pub described : f.missing ≡ None
  pub above : f.changes ≡ true → f.told < end
  pub start : g.start ≡ f.start
  pub last : g.last_end ≡ end
  pub told : g.told ≡ f.told

module _ (f : Facts) (at lsn end : ℕ) where
  told_good : (g : Facts) (b : Bool) → (f.changes && nat_le end f.told) ≡ b → f.missing ≡ None
      → f.last_end ≤ lsn → lsn < end → f.start < end
      → cond b (Err (breach.BelowKeepalive at end f.told_at f.told)) (Ok (record f { last_end = end; last_at = at })) ≡ Ok g
      → IsGood f g lsn end
  told_good g true is none behind ends after e = absurd (cc)
  told_good g false is none behind ends after e =
      let same : record f { last_end = end; last_at = at } ≡ g = cc in
      subst (λ (g : Facts). IsGood f g lsn end) same (record {
        behind = behind;
        ends = ends;
        after = after;
        described = none;
        above = λ changes. let above : nat_le end f.told ≡ false = ap (λ b. b && nat_le end f.told) (sym changes) ∙ is
            in grind (arith, leb_tells);
        start = refl;
        last = refl;
        told = refl;
      })

  missing_good : (g : Facts) (o : Option Missing) → f.missing ≡ o → f.last_end ≤ lsn → lsn < end → f.start < end
      → described_judged f at end o ≡ Ok g → IsGood f g lsn end
  missing_good g (Some missing) is behind ends after e = absurd (cc)
  missing_good g None is behind ends after e = told_good g (f.changes && nat_le end f.told) refl is behind ends after e

  pub good : (g : Facts) → commit_judged f at lsn end ≡ Ok g → IsGood f g lsn end
  good g =
      elim (nat_lt lsn f.last_end) as
      (λ b. nat_lt lsn f.last_end ≡ b
      → by_place f at end (cond b (Some (breach.BelowCommit at lsn f.last_at f.last_end))
      (cond (nat_le end lsn) (Some (breach.EndNotAbove at lsn end))
      (cond (nat_le end f.start) (Some (breach.BelowStart at end f.start)) None)))
      ≡ Ok g → IsGood f g lsn end) [
        | true ↦ λ is e. absurd (cc)
        | false ↦ λ behind. elim (nat_le end lsn) as
            (λ b. nat_le end lsn ≡ b
            → by_place f at end (cond b (Some (breach.EndNotAbove at lsn end))
            (cond (nat_le end f.start) (Some (breach.BelowStart at end f.start)) None))
            ≡ Ok g → IsGood f g lsn end) [
              | true ↦ λ is e. absurd (cc)
              | false ↦ λ ends. elim (nat_le end f.start) as
                  (λ b. nat_le end f.start ≡ b
                  → by_place f at end (cond b (Some (breach.BelowStart at end f.start)) None) ≡ Ok g → IsGood f g lsn end) [
                    | true ↦ λ is e. absurd (cc)
                    | false ↦ λ after e. missing_good g f.missing refl (grind (arith, nat_tests)) (grind (arith, leb_tells))
                        (grind (arith, leb_tells)) e
                  ] refl
            ] refl
      ] refl

  -- one that is refused
  told_bad : (b : Breach) (r : Result (List Change) ℕ) → IsPair None f.changes r → (t : Bool) → (f.changes && nat_le end f.told) ≡ t
      → cond t (Err (breach.BelowKeepalive at end f.told_at f.told)) (Ok (record f { last_end = end; last_at = at })) ≡ Err b
      → IsWhy f lsn end r
  told_bad b r pair true is e =
      let parts = both_true f.changes (nat_le end f.told) is in
      inr (inr (
        pair.0,
        pair.1,
        none-any pair.0 (pair.2 ∙ parts.0),
        (let le : nat_le end f.told ≡ true = parts.1
            in grind (arith, leb_tells)),
      ))
    where
      both_true : (x y : Bool) → (x && y) ≡ true → (x ≡ true) × (y ≡ true)
      both_true true y e = (refl, e)
      both_true false y e = absurd (cc)
  told_bad b r pair false is e = absurd (cc)

  missing_bad : (b : Breach) (r : Result (List Change) ℕ) (o : Option Missing) → IsPair o f.changes r
      → described_judged f at end o ≡ Err b → IsWhy f lsn end r
  missing_bad b r (Some missing) pair e = inr (inl (missing.oid, pair))
  missing_bad b r None pair e = told_bad b r pair (f.changes && nat_le end f.told) refl e

  -- a commit that isn't in its place
  pub away : (b : Breach) → misplaced f at lsn end ≡ Some b → IsMisplaced f lsn end
  away b =
      elim (nat_lt lsn f.last_end) as
      (λ t. nat_lt lsn f.last_end ≡ t
      → cond t (Some (breach.BelowCommit at lsn f.last_at f.last_end))
      (cond (nat_le end lsn) (Some (breach.EndNotAbove at lsn end))
      (cond (nat_le end f.start) (Some (breach.BelowStart at end f.start)) None))
      ≡ Some b → IsMisplaced f lsn end) [
        | true ↦ λ is e. inl (grind (arith, nat_tests))
        | false ↦ λ behind. elim (nat_le end lsn) as
            (λ t. nat_le end lsn ≡ t
            → cond t (Some (breach.EndNotAbove at lsn end))
            (cond (nat_le end f.start) (Some (breach.BelowStart at end f.start)) None)
            ≡ Some b → IsMisplaced f lsn end) [
              | true ↦ λ is e. inr (inl (grind (arith, leb_tells)))
              | false ↦ λ ends. elim (nat_le end f.start) as
                  (λ t. nat_le end f.start ≡ t
                  → cond t (Some (breach.BelowStart at end f.start)) None ≡ Some b → IsMisplaced f lsn end) [
                    | true ↦ λ is e. inr (inr (grind (arith, leb_tells)))
                    | false ↦ λ after e. absurd (cc)
                  ] refl
            ] refl
      ] refl

  by_place_bad : (b : Breach) (r : Result (List Change) ℕ) → IsPair f.missing f.changes r → (o : Option Breach) → misplaced f at lsn end ≡ o
      → by_place f at end o ≡ Err b → IsWhy f lsn end r
  by_place_bad b r pair (Some why) is e = inl (away why is)
  by_place_bad b r pair None is e = missing_bad b r f.missing pair e

  pub bad : (b : Breach) (r : Result (List Change) ℕ) → IsPair f.missing f.changes r → commit_judged f at lsn end ≡ Err b
      → IsWhy f lsn end r
  bad b r pair e = by_place_bad b r pair (misplaced f at lsn end) refl e
