-- What is known of the causes of breaches: the last commit, the greatest keepalive, the first
-- change that isn't described, and what is kept of streamed transactions.
use Rattle.std.proofs.Common.{◌≡◌, ◌<◌, ◌≤◌, ◌⊎◌, inl, inr, ℕ, List}
use Rattle.std.proofs.Common.{[], ◌∷◌, Bool, true, false, cond, ◌||◌, ◌&&◌}
use Rattle.std.proofs.Common.{eqb, nat_le, nat_lt, Option, Some, None}
use Rattle.std.proofs.Common.{Result, Ok, Err, refl, sym, ap, subst, ◌∙◌, not}
use Rattle.std.proofs.Common.{arith}
use Rattle.std.specs.Prelude.{◌+◌}
use Rattle.std.proofs.lemmas.Bool.Decides.{nat_tests, leb_tells}
use Rattle.pglogical.specs.Named.{named}
use Rattle.pglogical.specs.declared.message.Item.{Item}
use Rattle.pglogical.specs.declared.message.Item.TheVariants as item
use Rattle.pglogical.specs.declared.message.Message.{Message}
use Rattle.pglogical.specs.declared.message.Message.TheVariants as message
use Rattle.pgwatch.specs.Known.{OidSet, is_known, with_known}
use Rattle.pgwatch.specs.declared.fault.Breach.{Breach}
use Rattle.pgwatch.specs.declared.fault.Breach.TheVariants as breach
use Rattle.pgwatch.specs.declared.facts.Facts.{Facts}
use Rattle.pgwatch.specs.declared.facts.Missing.{Missing}
use Rattle.pgwatch.specs.declared.watch.Watch.{Watch}
use Rattle.pgwatch.specs.declared.noted.Noted.{Noted}
use Rattle.pgwatch.specs.declared.noted.What.{What}
use Rattle.pgwatch.specs.declared.noted.What.TheVariants as what
use Rattle.pgwatch.specs.Known.{none_known}
use Rattle.pgwatch.specs.Nesting.{Nesting, path_with, survived, nested_as, nested, nest}
use Rattle.pgwatch.specs.Nesting.{or_misfit, then_nested, of_xid, without_xid}
use Rattle.pgwatch.specs.Hearing.{by_place, described_judged, misplaced}
use Rattle.pgwatch.specs.Hearing.{first_unknown, first_missing, is_full}
use Rattle.pgwatch.specs.Hearing.{what_of, replayed_as, replayed_one}
use Rattle.pgwatch.specs.Hearing.{replayed, then_watch}
use Rattle.pgwatch.specs.Hearing as hearing
use Rattle.pgsub_core.specs.Server.Work.{is_among}
use Rattle.pgsub_core.specs.Server.Stream.{Sent, Data, Keepalive}
use Rattle.pgwatched.specs.Watched.{Framed}
use Rattle.pgwatched.specs.Causes.{IsCommitAt, IsChangeOf, IsKeepaliveAt, Came, IsCaused}
use Rattle.pgwatched.specs.Causes.{IsPart, IsPartSent}
use Rattle.std.specs.List.{AllByRecursion}

-- ---- what is known of causes

abbrev pub MissingCame : Option Missing → List Framed → Type 0
MissingCame None seen = Unit {0}
MissingCame (Some missing) seen = Came missing.at (IsChangeOf missing.oid) seen

-- of the last commit, the greatest keepalive and the first change that isn't described
pub record KnowsCauses (f : Facts) (seen : List Framed) : Type 0 where
  pub last : (f.last_end ≡ 0) ⊎ Came f.last_at (IsCommitAt f.last_end) seen
  pub told : (f.told ≡ 0) ⊎ Came f.told_at (IsKeepaliveAt f.told) seen
  pub missing : MissingCame f.missing seen

pub earlier : (x : Framed) (at : ℕ) (is : Sent → Type 0) (n : ℕ) (seen : List Framed) → (n ≡ 0) ⊎ Came at is seen
    → (n ≡ 0) ⊎ Came at is (x ∷ seen)
earlier x at is n seen (inl none) = inl none
earlier x at is n seen (inr came) = inr (inr came)

pub missing_earlier : (x : Framed) (o : Option Missing) (seen : List Framed) → MissingCame o seen → MissingCame o (x ∷ seen)
missing_earlier x None seen came = tt
missing_earlier x (Some missing) seen came = inr came

-- one frame more
pub more : (f : Facts) (x : Framed) (seen : List Framed) → KnowsCauses f seen → KnowsCauses f (x ∷ seen)
more f x seen k = record {
  last = earlier x f.last_at (IsCommitAt f.last_end) f.last_end seen k.last;
  told = earlier x f.told_at (IsKeepaliveAt f.told) f.told seen k.told;
  missing = missing_earlier x f.missing seen k.missing;
}

-- ---- a commit that is judged

abbrev facts_of : Facts → Result Facts Breach → Facts
facts_of f (Ok g) = g
facts_of f (Err b) = f

abbrev breach_of : Breach → Result Facts Breach → Breach
breach_of b (Ok g) = b
breach_of b (Err e) = e

module _ (f : Facts) (at lsn end : ℕ) where
  abbrev ended : Facts
  ended = record f { last_end = end; last_at = at }

  told_moves : (g : Facts) (b : Bool) → cond b (Err (breach.BelowKeepalive at end f.told_at f.told)) (Ok ended) ≡ Ok g → ended ≡ g
  told_moves g true e = absurd (cc)
  told_moves g false e = ap (facts_of f) e

  described_moves : (g : Facts) (o : Option Missing) → described_judged f at end o ≡ Ok g → ended ≡ g
  described_moves g (Some missing) e = absurd (cc)
  described_moves g None e = told_moves g (f.changes && nat_le end f.told) e

  pub commit_moves : (g : Facts) (o : Option Breach) → by_place f at end o ≡ Ok g → ended ≡ g
  commit_moves g (Some b) e = absurd (cc)
  commit_moves g None e = described_moves g f.missing e

  module _ (seen : List Framed) (k : KnowsCauses f seen) where
    both_true : (x y : Bool) → (x && y) ≡ true → y ≡ true
    both_true true y e = e
    both_true false y e = absurd (cc)

    told_caused : (b : Breach) (t : Bool) → (f.changes && nat_le end f.told) ≡ t → lsn < end
        → cond t (Err (breach.BelowKeepalive at end f.told_at f.told)) (Ok ended) ≡ Err b → IsCaused b seen at
    told_caused b true is ends e =
        let le : nat_le end f.told ≡ true = both_true f.changes (nat_le end f.told) is in
        subst (λ b. IsCaused b seen at) (ap (breach_of b) e) (
          refl,
          grind (arith, leb_tells),
          elim k.told [
            | inl none ↦ absurd (let zero_told : f.told ≡ 0 = none in let below : end ≤ f.told = grind (arith, leb_tells) in omega arith)
            | inr came ↦ came
          ],
        )
    told_caused b false is ends e = absurd (cc)

    described_caused : (b : Breach) (o : Option Missing) → MissingCame o seen → lsn < end → described_judged f at end o ≡ Err b
        → IsCaused b seen at
    described_caused b (Some missing) came ends e = subst (λ b. IsCaused b seen at) (ap (breach_of b) e) (refl, came)
    described_caused b None came ends e = told_caused b (f.changes && nat_le end f.told) refl ends e

    -- where it stands in its place, it ends above its own LSN
    abbrev Placed : Option Breach → Type 0
    Placed (Some b) = IsCaused b seen at
    Placed None = lsn < end

    pub placed : Placed (misplaced f at lsn end)
    placed =
        elim (nat_lt lsn f.last_end) as
        (λ t. nat_lt lsn f.last_end ≡ t
        → Placed (cond t (Some (breach.BelowCommit at lsn f.last_at f.last_end))
        (cond (nat_le end lsn) (Some (breach.EndNotAbove at lsn end))
        (cond (nat_le end f.start) (Some (breach.BelowStart at end f.start)) None)))) [
          | true ↦ λ is. (
            refl,
            grind (arith, nat_tests),
            elim k.last [
              | inl none ↦ absurd (let below : lsn < f.last_end = grind (arith, nat_tests) in omega arith)
              | inr came ↦ came
            ],
          )
          | false ↦ λ behind. elim (nat_le end lsn) as
              (λ t. nat_le end lsn ≡ t
              → Placed (cond t (Some (breach.EndNotAbove at lsn end))
              (cond (nat_le end f.start) (Some (breach.BelowStart at end f.start)) None))) [
                | true ↦ λ is. (refl, grind (arith, leb_tells))
                | false ↦ λ ends. elim (nat_le end f.start) as
                    (λ t. nat_le end f.start ≡ t → Placed (cond t (Some (breach.BelowStart at end f.start)) None)) [
                      | true ↦ λ is. (refl, grind (arith, leb_tells))
                      | false ↦ λ after. grind (arith, leb_tells)
                    ] refl
              ] refl
        ] refl

    pub commit_caused : (b : Breach) (o : Option Breach) → Placed o → by_place f at end o ≡ Err b → IsCaused b seen at
    commit_caused b (Some why) is e = subst (λ b. IsCaused b seen at) (ap (breach_of b) e) is
    commit_caused b None ends e = described_caused b f.missing k.missing ends e

abbrev pub done : Watch → Result Watch Breach
done w = Ok w

-- ---- what is kept of streamed transactions came

abbrev pub IsNotedAs : Noted → Message → Type 0
IsNotedAs x (message.Item label i) = (what_of i ≡ x.what) × IsPart x.subxid (message.Item label i)
IsNotedAs x (message.StreamAbort xid label) = (what.Abort ≡ x.what) × (label ≡ x.subxid)
IsNotedAs x m = ⊥

abbrev IsNotedSent : Noted → Sent → Type 0
IsNotedSent x (Data s e clock m) = IsNotedAs x m
IsNotedSent x (Keepalive e clock reply) = ⊥

abbrev pub IsNoted : List Framed → Noted → Type 0
IsNoted seen x = Came x.at (IsNotedSent x) seen

abbrev pub AreNoted : List Noted → List Framed → Type 0
AreNoted noted seen = AllByRecursion (IsNoted seen) noted

came_as : (at : ℕ) (is as_well : Sent → Type 0) → ((s : Sent) → is s → as_well s) → (seen : List Framed) → Came at is seen
    → Came at as_well seen
came_as at is as_well go [] came = came
came_as at is as_well go (f ∷ seen) (inl here) = inl (here.0, go f.sent here.1)
came_as at is as_well go (f ∷ seen) (inr later) = inr (came_as at is as_well go seen later)

part_sent : (x : Noted) (s : Sent) → IsNotedSent x s → IsPartSent x.subxid s
part_sent x (Data s e clock (message.Item label i)) is = is.1
part_sent x (Data s e clock (message.StreamAbort xid label)) is = is.1
part_sent x (Data s e clock (message.Begin lsn time xid)) is = absurd is
part_sent x (Data s e clock (message.Commit lsn end time)) is = absurd is
part_sent x (Data s e clock (message.Origin lsn name)) is = absurd is
part_sent x (Data s e clock (message.TypeName xid oid namespace name)) is = absurd is
part_sent x (Data s e clock (message.Logical xid transactional lsn prefix content)) is = absurd is
part_sent x (Data s e clock (message.StreamStart xid first)) is = absurd is
part_sent x (Data s e clock message.StreamStop) is = absurd is
part_sent x (Data s e clock (message.StreamCommit xid lsn end time)) is = absurd is
part_sent x (Keepalive e clock reply) is = absurd is

pub part_came : (x : Noted) (seen : List Framed) → IsNoted seen x → Came x.at (IsPartSent x.subxid) seen
part_came x seen came = came_as x.at (IsNotedSent x) (IsPartSent x.subxid) (part_sent x) seen came

abbrev names_of : What → List ℕ
names_of (what.Relation oid) = []
names_of (what.Change oid) = oid ∷ []
names_of (what.Truncate oids) = oids
names_of what.Abort = []

named_as : (i : Item) → names_of (what_of i) ≡ named i
named_as (item.Relation def) = refl
named_as (item.Insert oid row) = refl
named_as (item.Update oid prior row) = refl
named_as (item.Delete oid kind row) = refl
named_as (item.Truncate options oids) = refl

change_sent : (x : Noted) (oid : ℕ) → is_among (names_of x.what) oid ≡ true → (s : Sent) → IsNotedSent x s → IsChangeOf oid s
change_sent x oid names (Data s e clock (message.Item label i)) is =
    subst (λ oids. is_among oids oid ≡ true) (ap names_of (sym is.0) ∙ named_as i) names
change_sent x oid names (Data s e clock (message.StreamAbort xid label)) is =
    absurd (let no : is_among (names_of what.Abort) oid ≡ true = subst (λ h. is_among (names_of h) oid ≡ true) (sym is.0) names in cc)
change_sent x oid names (Data s e clock (message.Begin lsn time xid)) is = absurd is
change_sent x oid names (Data s e clock (message.Commit lsn end time)) is = absurd is
change_sent x oid names (Data s e clock (message.Origin lsn name)) is = absurd is
change_sent x oid names (Data s e clock (message.TypeName xid o namespace name)) is = absurd is
change_sent x oid names (Data s e clock (message.Logical xid transactional lsn prefix content)) is = absurd is
change_sent x oid names (Data s e clock (message.StreamStart xid first)) is = absurd is
change_sent x oid names (Data s e clock message.StreamStop) is = absurd is
change_sent x oid names (Data s e clock (message.StreamCommit xid lsn end time)) is = absurd is
change_sent x oid names (Keepalive e clock reply) is = absurd is

-- all of a list, and of a part of it
module _ (P : Noted → Type 0) where
  pub of_all : (xid : ℕ) (s : List Noted) → AllByRecursion P s → AllByRecursion P (of_xid xid s)
  of_all xid [] all = tt
  of_all xid (x ∷ s) all =
      elim (eqb x.xid xid) as (λ b. AllByRecursion P (cond b (x ∷ of_xid xid s) (of_xid xid s))) [
        | true ↦ (all.0, of_all xid s all.1)
        | false ↦ of_all xid s all.1
      ]

  pub without_all : (xid : ℕ) (s : List Noted) → AllByRecursion P s → AllByRecursion P (without_xid xid s)
  without_all xid [] all = tt
  without_all xid (x ∷ s) all =
      elim (eqb x.xid xid) as (λ b. AllByRecursion P (cond (not b) (x ∷ without_xid xid s) (without_xid xid s))) [
        | true ↦ without_all xid s all.1
        | false ↦ (all.0, without_all xid s all.1)
      ]

  survived_all : (n m : Nesting) (x : Noted) (path : Option (List ℕ)) → P x → AllByRecursion P n.surviving → survived n x path ≡ Some m
      → AllByRecursion P m.surviving
  survived_all n m x None p all e = absurd (cc)
  survived_all n m x (Some path) p all e =
      let it : record { path = path; seen = with_known x.subxid n.seen; undone = none_known; surviving = x ∷ n.surviving } ≡ m = cc in
      subst (λ (m : Nesting). AllByRecursion P m.surviving) it (p, all)

  item_all : (n m : Nesting) (x : Noted) (undone : Bool) → P x → AllByRecursion P n.surviving
      → cond undone (Some n) (survived n x (path_with n x.subxid)) ≡ Some m → AllByRecursion P m.surviving
  item_all n m x true p all e = let it : n ≡ m = cc in subst (λ (m : Nesting). AllByRecursion P m.surviving) it all
  item_all n m x false p all e = survived_all n m x (path_with n x.subxid) p all e

  abort_all : (n m : Nesting) (xid : ℕ) (undone seen : Bool) → AllByRecursion P n.surviving
      → cond undone (Some n) (cond seen None (Some (record n { seen = with_known xid n.seen; undone = with_known xid n.undone }))) ≡ Some m
      → AllByRecursion P m.surviving
  abort_all n m xid true seen all e = let it : n ≡ m = cc in subst (λ (m : Nesting). AllByRecursion P m.surviving) it all
  abort_all n m xid false true all e = absurd (cc)
  abort_all n m xid false false all e =
      let it : record n { seen = with_known xid n.seen; undone = with_known xid n.undone } ≡ m = cc in
      subst (λ (m : Nesting). AllByRecursion P m.surviving) it all

  one_all : (n m : Nesting) (x : Noted) (h : What) → P x → AllByRecursion P n.surviving → nested_as n x h ≡ Some m
      → AllByRecursion P m.surviving
  one_all n m x (what.Relation oid) p all e = item_all n m x (is_known x.subxid n.undone) p all e
  one_all n m x (what.Change oid) p all e = item_all n m x (is_known x.subxid n.undone) p all e
  one_all n m x (what.Truncate oids) p all e = item_all n m x (is_known x.subxid n.undone) p all e
  one_all n m x what.Abort p all e = abort_all n m x.subxid (is_known x.subxid n.undone) (is_known x.subxid n.seen) all e

  or_some : (x : Noted) (o : Option Nesting) (m : Nesting) → or_misfit x o ≡ Ok m → o ≡ Some m
  or_some x None m e = absurd (cc)
  or_some x (Some n) m e = cc

  pub nested_all : (xs : List Noted) (n m : Nesting) → AllByRecursion P xs → AllByRecursion P n.surviving → nest n xs ≡ Ok m
      → AllByRecursion P m.surviving
  nested_all [] n m all first e = let it : n ≡ m = cc in subst (λ (m : Nesting). AllByRecursion P m.surviving) it first
  nested_all (x ∷ xs) n m all first e = go (nest n xs) e (λ k is. nested_all xs n k all.1 first is)
    where
      go : (r : Result Nesting Noted) → then_nested x r ≡ Ok m → ((k : Nesting) → r ≡ Ok k → AllByRecursion P k.surviving)
          → AllByRecursion P m.surviving
      go (Err y) e rest = absurd (cc)
      go (Ok k) e rest = one_all k m x x.what all.0 (rest k refl) (or_some x (nested k x) m e)

  pub misfit_in : (xs : List Noted) (n : Nesting) (y : Noted) → AllByRecursion P xs → nest n xs ≡ Err y → P y
  misfit_in [] n y all e = absurd (cc)
  misfit_in (x ∷ xs) n y all e = go (nest n xs) e (λ z is. misfit_in xs n z all.1 is)
    where
      of_one : (o : Option Nesting) → or_misfit x o ≡ Err y → P y
      of_one None e = let it : x ≡ y = cc in subst P it all.0
      of_one (Some m) e = absurd (cc)

      go : (r : Result Nesting Noted) → then_nested x r ≡ Err y → ((z : Noted) → r ≡ Err z → P z) → P y
      go (Err z) e rest = let it : z ≡ y = cc in subst P it (rest z refl)
      go (Ok k) e rest = of_one (nested k x) e

pub unknown_named : (known : OidSet) (oids : List ℕ) (oid : ℕ) → first_unknown known oids ≡ Some oid → is_among oids oid ≡ true
unknown_named known [] oid e = absurd (cc)
unknown_named known (o ∷ oids) oid e =
    elim (is_known o known) as
    (λ b. cond b (first_unknown known oids) (Some o) ≡ Some oid → (eqb o oid || is_among oids oid) ≡ true) [
      | true ↦ λ e. or_true (eqb o oid) (is_among oids oid) (unknown_named known oids oid e)
      | false ↦ λ e. let same : o ≡ oid = cc in let is : eqb o oid ≡ true = grind (arith, nat_tests) in ap (λ b. b || is_among oids oid) is
    ] e
  where
    or_true : (x y : Bool) → y ≡ true → (x || y) ≡ true
    or_true true y e = refl
    or_true false y e = e

-- items that are read again
module _ (seen : List Framed) (at : ℕ) where
  facts_in : (w u : Watch) → KnowsCauses w.facts seen → w.facts ≡ u.facts → KnowsCauses u.facts seen
  facts_in w u k same = subst (λ (f : Facts). KnowsCauses f seen) same k

  relation_known : (w u : Watch) (oid : ℕ) (there full : Bool) → KnowsCauses w.facts seen
      → cond there (Ok w) (cond full (Err (breach.Full at)) (Ok (record w { known = with_known oid w.known; held = w.held + 1 }))) ≡ Ok u
      → KnowsCauses u.facts seen
  relation_known w u oid true full k e = facts_in w u k (let it : w ≡ u = cc in ap (λ (w : Watch). w.facts) it)
  relation_known w u oid false true k e = absurd (cc)
  relation_known w u oid false false k e =
      facts_in w u k (let it : record w { known = with_known oid w.known; held = w.held + 1 } ≡ u = cc in ap (λ (w : Watch). w.facts) it)

  missing_known : (x : Noted) (o : Option Missing) (known : OidSet) (u : Option ℕ) → first_unknown known (names_of x.what) ≡ u
      → IsNoted seen x → MissingCame o seen → MissingCame (first_missing o x.at u) seen
  missing_known x (Some missing) known u is noted came = came
  missing_known x None known None is noted came = tt
  missing_known x None known (Some oid) is noted came =
      came_as x.at (IsNotedSent x) (IsChangeOf oid) (change_sent x oid (unknown_named known (names_of x.what) oid is)) seen noted

  change_known_again : (w u : Watch) (x : Noted) (oids : List ℕ) → names_of x.what ≡ oids → IsNoted seen x → KnowsCauses w.facts seen
      → done (hearing.changed_by w x.at oids) ≡ Ok u → KnowsCauses u.facts seen
  change_known_again w u x oids names noted k e =
      let it : hearing.changed_by w x.at oids ≡ u = cc in
      subst (λ (v : Watch). KnowsCauses v.facts seen) it (record {
        last = k.last;
        told = k.told;
        missing = subst (λ os. MissingCame (first_missing w.facts.missing x.at (first_unknown w.known os)) seen) names
            (missing_known x w.facts.missing w.known (first_unknown w.known (names_of x.what)) refl noted k.missing);
      })

  one_known_again : (w u : Watch) (x : Noted) (h : What) → x.what ≡ h → IsNoted seen x → KnowsCauses w.facts seen
      → replayed_as w at x.at h ≡ Ok u → KnowsCauses u.facts seen
  one_known_again w u x (what.Relation oid) is noted k e = relation_known w u oid (is_known oid w.known) (is_full w) k e
  one_known_again w u x (what.Change oid) is noted k e = change_known_again w u x (oid ∷ []) (ap names_of is) noted k e
  one_known_again w u x (what.Truncate oids) is noted k e = change_known_again w u x oids (ap names_of is) noted k e
  one_known_again w u x what.Abort is noted k e = facts_in w u k (let it : w ≡ u = cc in ap (λ (w : Watch). w.facts) it)

  pub replays_known : (xs : List Noted) → AreNoted xs seen → (w u : Watch) → KnowsCauses w.facts seen → replayed w at xs ≡ Ok u
      → KnowsCauses u.facts seen
  replays_known [] noted w u k e = facts_in w u k (let it : w ≡ u = cc in ap (λ (w : Watch). w.facts) it)
  replays_known (x ∷ xs) noted w u k e = go (replayed_one w at x) refl e (λ v. replays_known xs noted.1 v u)
    where
      go : (r : Result Watch Breach) → replayed_one w at x ≡ r → then_watch r (λ new. replayed new at xs) ≡ Ok u
          → ((v : Watch) → KnowsCauses v.facts seen → replayed v at xs ≡ Ok u → KnowsCauses u.facts seen) → KnowsCauses u.facts seen
      go (Err b) is e rest = absurd (cc)
      go (Ok v) is e rest = rest v (one_known_again w v x x.what refl noted.0 k is) e
