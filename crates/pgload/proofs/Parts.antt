-- What a part makes of a load.
use Rattle.std.proofs.Common.{◌≡◌, ◌≤◌, ◌<◌, ◌⊎◌, inl, inr, ◌++◌, ℕ, List, [], ◌∷◌, Option, Some}
use Rattle.std.proofs.Common.{None, false, Ok, Err, refl, sym, ap, subst, ◌∙◌, arith, append-nil}
use Rattle.std.specs.Prelude.{is_some}
use Rattle.std.specs.FinMap as map
use Rattle.std.specs.List.{AllByRecursion}
use Rattle.std.proofs.lemmas.Grind.{flat_map-append}
use Rattle.pglogical.specs.declared.message.RelationDef.{RelationDef}
use Rattle.pgcopy.specs.Reading.{with_rows, copy_reading}
use Rattle.pgcopy.specs.Copied.{Copied, fresh, reading_behind}
use Rattle.pgapply.specs.declared.fault.StoreFault.{StoreFault}
use Rattle.pgapply.specs.Value.{Tables}
use Rattle.pgapply.specs.Apply.{Change, fold_changes}
use Rattle.pgapply.specs.declared.fault.StoreFault.TheVariants as store
use Rattle.pgapply.specs.Stored.{IsFault}
use Rattle.pgapply.specs.Taken.{Folds, Leaves, LeavesFold, RefusesWork}
use Rattle.pgload.specs.Faults.{fault_of_store}
use Rattle.pgload.proofs.Loads.{gives_its_rows}
use Rattle.pgload.specs.declared.fault.LoadFault.{LoadFault}
use Rattle.pgload.specs.declared.fault.LoadFault.TheVariants.{Order}
use Rattle.pgload.specs.Loads.{TableText, format_of, rows_of, IsWholeText, inserts, load_changes}
use Rattle.pgload.specs.Loading.{Come, with_text, Begins, Text, Ends, after_part, nothing_came}
use Rattle.pgload.specs.Loading.{Opened, most_parts, IsUnderWay, HasTaken, IsLoading, Stands}
use Rattle.pgload.specs.Loading.{HasCome, TextStops, Goes, IsEndFault, HasLoaded, IsAtEnd, IsBadEnd}

whole-push : (max_line : ℕ) (tables : List TableText) (table : TableText) → AllByRecursion (IsWholeText max_line) tables
    → IsWholeText max_line table → AllByRecursion (IsWholeText max_line) (tables ++ table ∷ [])
whole-push max_line [] table all one = (one, tt)
whole-push max_line (first ∷ tables) table all one = (all.0, whole-push max_line tables table all.1 one)

changes-push : (max_line : ℕ) (tables : List TableText) (table : TableText)
    → load_changes max_line (tables ++ table ∷ []) ≡ load_changes max_line tables ++ inserts table.definition (rows_of max_line table)
changes-push max_line tables table =
    flat_map-append (λ (it : TableText). inserts it.definition (rows_of max_line it)) tables (table ∷ [])
    ∙ ap (λ last. load_changes max_line tables ++ last) (append-nil (inserts table.definition (rows_of max_line table)))

pub no_table : (opened : Option Opened) → false ≡ is_some opened → opened ≡ None
no_table None e = refl
no_table (Some opened) e = absurd (let no : ⊥ = cc in no)

starts : (max_line : ℕ) (def : RelationDef) (reader : Copied) → reader ≡ fresh (format_of max_line def) → (more : List ℕ)
    → copy_reading (format_of max_line def) more ≡ with_rows [] (reading_behind reader more)
unfolding reading_behind
starts max_line def reader is more = rw is refl

same_made : (tables : Tables) → fold_changes tables [] ≡ Ok tables
unfolding fold_changes
same_made tables = refl

never_made : (tables : Tables) (of : StoreFault) → fold_changes tables [] ≡ Err of → ⊥
never_made tables of e = let both = sym (same_made tables) ∙ e in let no : ⊥ = cc in no

-- no changes have no fault
end_why : (Serves : Type 0) (going : Option TableText) (point : ℕ) (of : StoreFault)
    → (Serves → (tables : Tables) × IsFault of (fold_changes tables []))
    → IsEndFault Serves going point (fault_of_store of)
end_why Serves going point store.Clash why = λ own. absurd (never_made (why own).0 store.Clash (why own).1)
end_why Serves going point store.NoIdentity why = λ own. absurd (never_made (why own).0 store.NoIdentity (why own).1)
end_why Serves going point store.UnknownIdentity why = λ own. absurd (never_made (why own).0 store.UnknownIdentity (why own).1)
end_why Serves going point store.UnchangedInInsert why = λ own. absurd (never_made (why own).0 store.UnchangedInInsert (why own).1)
end_why Serves going point store.Width why = λ own. absurd (never_made (why own).0 store.Width (why own).1)
end_why Serves going point store.TooManyCopies why = λ own. absurd (never_made (why own).0 store.TooManyCopies (why own).1)
end_why Serves going point store.Refused why = λ own. refl
end_why Serves going point store.NotAStore why = λ own. absurd (never_made (why own).0 store.NotAStore (why own).1)
end_why Serves going point store.Memory why = tt

nothing_made : fold_changes map.empty [] ≡ Ok map.empty
unfolding fold_changes
nothing_made = refl

module _ {C : Type 0} (holds : C → Tables → Type 0) (place : C → ℕ) (reopens : C → C → Type 0) (serves is_honest : C → Type 0) where
  pub begun : (max_line : ℕ) (store : C) → serves store → holds store map.empty → place store ≡ 0
      → Leaves holds place reopens store
      → HasCome holds place reopens serves is_honest max_line nothing_came store None None
  begun max_line store own none at leaves = record {
    going_on = refl;
    whole = tt;
    stands = record {
      under_way = record {
        part = omega (arith, at);
        leaves = λ honest other left. let same : place other ≡ place store = (leaves other left).1 in omega (arith, at, same);
      };
      made = λ serving. (map.empty, nothing_made, none);
    };
  }

  pub stands_under_way : (max_line : ℕ) (ended : List TableText) (going : Option TableText) (store : C) (opened : Option Opened)
      → Stands holds place reopens serves is_honest max_line ended going store opened → IsUnderWay holds place reopens serves is_honest
      store
  stands_under_way max_line ended None store None is = is.under_way
  stands_under_way max_line ended None store (Some opened) is = absurd is
  stands_under_way max_line ended (Some table) store None is = absurd is
  stands_under_way max_line ended (Some table) store (Some opened) is = is.taken.under_way

  -- ---- a table begins

  module _ (max_line : ℕ) (ended : List TableText) (store : C) (def : RelationDef) where
    pub begin_refused : (going : Option TableText) (opened : Opened) (after : Option Opened) (closed : Option LoadFault)
        → Stands holds place reopens serves is_honest max_line ended going store (Some opened)
        → Goes holds place reopens serves is_honest max_line (after_part ended going (Begins def)) store after closed (Err Order)
    begin_refused None opened after closed is = absurd is
    begin_refused (Some table) opened after closed is = (refl, is.taken.under_way)

    pub begin_goes : (going : Option TableText) (opened : Opened)
        → AllByRecursion (IsWholeText max_line) ended
        → Stands holds place reopens serves is_honest max_line ended going store None
        → opened.definition ≡ def → opened.reader ≡ fresh (format_of max_line def) → opened.rows ≡ []
        → Goes holds place reopens serves is_honest max_line (after_part ended going (Begins def)) store (Some opened) None (Ok tt)
    begin_goes None opened whole is definition reader rows = record {
      going_on = refl;
      whole = whole;
      stands = record {
        stored = [];
        waiting = [];
        read = record {
          definition = definition;
          reads = λ more. starts max_line def opened.reader reader more;
          buffer = record { spelled = rows; wire = tt };
        };
        taken = subst (λ changes. HasTaken holds place reopens serves is_honest changes store) (sym (append-nil (load_changes max_line
            ended))) is;
      };
    }
    begin_goes (Some table) opened whole is definition reader rows = absurd is

  -- ---- its text comes

  module _ (max_line : ℕ) (ended : List TableText) (piece : List ℕ) (old new : C) where
    pub text_refused : (going : Option TableText) (after : Option Opened) (closed : Option LoadFault)
        → Stands holds place reopens serves is_honest max_line ended going old None
        → Goes holds place reopens serves is_honest max_line (after_part ended going (Text piece)) old after closed (Err Order)
    text_refused None after closed is = (refl, is.under_way)
    text_refused (Some table) after closed is = absurd is

    pub text_goes : (going : Option TableText) (opened after : Opened) → AllByRecursion (IsWholeText max_line) ended
        → Stands holds place reopens serves is_honest max_line ended going old (Some opened)
        → ((table : TableText) → IsLoading holds place reopens serves is_honest max_line (load_changes max_line ended) table old opened
        → IsLoading holds place reopens serves is_honest max_line (load_changes max_line ended) (with_text table piece) new after)
        → Goes holds place reopens serves is_honest max_line (after_part ended going (Text piece)) new (Some after) None (Ok tt)
    text_goes None opened after whole is goes = absurd is
    text_goes (Some table) opened after whole is goes = record { going_on = refl; whole = whole; stands = goes table is }

    pub text_stops : (going : Option TableText) (opened : Opened) (after : Option Opened) (closed : Option LoadFault) (fault : LoadFault)
        → AllByRecursion (IsWholeText max_line) ended
        → Stands holds place reopens serves is_honest max_line ended going old (Some opened)
        → ((table : TableText) → IsLoading holds place reopens serves is_honest max_line (load_changes max_line ended) table old opened
        → TextStops holds place reopens serves is_honest max_line (load_changes max_line ended) (with_text table piece) new fault)
        → Goes holds place reopens serves is_honest max_line (after_part ended going (Text piece)) new after closed (Err fault)
    text_stops None opened after closed fault whole is stops = absurd is
    text_stops (Some table) opened after closed fault whole is stops =
        record { earlier = ended; last = with_text table piece; parts = refl; whole = whole; stops = stops table is }

  -- ---- its text ends

  module _ (max_line : ℕ) (ended : List TableText) (old new : C) where
    pub end_refused : (going : Option TableText) (after : Option Opened) (closed : Option LoadFault)
        → Stands holds place reopens serves is_honest max_line ended going old None
        → Goes holds place reopens serves is_honest max_line (after_part ended going Ends) old after closed (Err Order)
    end_refused None after closed is = (refl, is.under_way)
    end_refused (Some table) after closed is = absurd is

    pub end_goes : (going : Option TableText) (opened : Opened) → AllByRecursion (IsWholeText max_line) ended
        → Stands holds place reopens serves is_honest max_line ended going old (Some opened)
        → ((table : TableText) → IsLoading holds place reopens serves is_honest max_line (load_changes max_line ended) table old opened
        → IsWholeText max_line table × HasTaken holds place reopens serves is_honest
        (load_changes max_line ended ++ inserts table.definition (rows_of max_line table)) new)
        → Goes holds place reopens serves is_honest max_line (after_part ended going Ends) new None None (Ok tt)
    end_goes None opened whole is ends = absurd is
    end_goes (Some table) opened whole is ends = record {
      going_on = refl;
      whole = whole-push max_line ended table whole (ends table is).0;
      stands = subst (λ changes. HasTaken holds place reopens serves is_honest changes new) (sym (changes-push max_line ended table))
          (ends table is).1;
    }

    pub end_stops : (going : Option TableText) (opened : Opened) (after : Option Opened) (closed : Option LoadFault) (fault : LoadFault)
        → AllByRecursion (IsWholeText max_line) ended
        → Stands holds place reopens serves is_honest max_line ended going old (Some opened)
        → ((table : TableText) → IsLoading holds place reopens serves is_honest max_line (load_changes max_line ended) table old opened
        → TextStops holds place reopens serves is_honest max_line (load_changes max_line ended) table new fault)
        → Goes holds place reopens serves is_honest max_line (after_part ended going Ends) new after closed (Err fault)
    end_stops None opened after closed fault whole is stops = absurd is
    end_stops (Some table) opened after closed fault whole is stops =
        record { earlier = ended; last = table; parts = refl; whole = whole; stops = stops table is }

  -- ---- the load ends

  has_ended : (max_line : ℕ) (ended : List TableText) (going : Option TableText) (store : C)
      → Stands holds place reopens serves is_honest max_line ended going store None
      → (going ≡ None) × HasTaken holds place reopens serves is_honest (load_changes max_line ended) store
  has_ended max_line ended None store is = (refl, is)
  has_ended max_line ended (Some table) store is = absurd is

  has_loaded : (max_line : ℕ) (tables : List TableText) (point : ℕ) (old new : C) (changes : List Change) → changes ≡ []
      → HasTaken holds place reopens serves is_honest (load_changes max_line tables) old
      → place new ≡ point → (serves new → serves old × Folds holds old new changes)
      → HasLoaded holds place reopens serves is_honest max_line tables point new
  has_loaded max_line tables point old new changes none is at folds = record {
    position = at;
    made = λ own.
        let was = is.made (folds own).0 in
        let next = (folds own).1 was.0 was.2 in (
          next.0,
          gives_its_rows max_line tables point [] tt ∙ was.1 ∙ sym (same_made was.0)
              ∙ ap (fold_changes was.0) (sym none) ∙ next.1,
          next.2,
        );
  }

  module _ (max_line : ℕ) (come : Come) (closed : Option LoadFault) (point : ℕ) (old new : C) (changes : List Change) (none : changes ≡ [])
      (has : HasCome holds place reopens serves is_honest max_line come old None closed)
      (above : most_parts < point)
      (served : serves new → serves old) (honest : is_honest new → is_honest old)
      (crash : is_honest new → (other : C) → reopens new other
      → reopens old other ⊎ (serves old × LeavesFold holds place old changes point other)) where
    left : is_honest new → (other : C) → reopens new other
        → (place other ≤ most_parts) ⊎ HasLoaded holds place reopens serves is_honest max_line come.ended point other
    left true other found =
        let taken = (has_ended max_line come.ended come.going old has.stands).1 in
        elim (crash true other found) [
          | inl was ↦ inl (taken.under_way.leaves (honest true) other was)
          | inr all ↦ inr (has_loaded max_line come.ended point old other changes none taken all.1.1 (λ own. (all.0, all.1.0)))
        ]

    pub at_end : (serves new → Folds holds old new changes) → place new ≡ point → (is_honest new → serves new)
        → IsAtEnd holds place reopens serves is_honest max_line come point new
    at_end folds at still =
        let ended = has_ended max_line come.ended come.going old has.stands in
        record {
          all = ended.0;
          whole = has.whole;
          loaded = has_loaded max_line come.ended point old new changes none ended.1 at (λ own. (served own, folds own));
          served = still;
          above = above;
          leaves = left;
        }

    pub bad_end : (of : StoreFault) → (serves new → RefusesWork holds old changes of) → place new ≡ place old
        → IsBadEnd holds place reopens serves is_honest max_line come point new (fault_of_store of)
    bad_end of why kept =
        let taken = (has_ended max_line come.ended come.going old has.stands).1 in
        record {
          part = subst (λ p. p ≤ most_parts) (sym kept) taken.under_way.part;
          why = end_why (serves new) come.going point of (λ own.
              let was = taken.made (served own) in
              (was.0, subst (λ its. IsFault of (fold_changes was.0 its)) none (why own was.0 was.2)));
          leaves = left;
        }
