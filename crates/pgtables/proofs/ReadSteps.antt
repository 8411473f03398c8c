-- A text that writes nothing is read outside a transaction, row by row or whole, and changes
-- nothing.
use Rattle.std.proofs.Common.{◌≡◌, inl, inr, ℕ, List, [], ◌∷◌, ◌++◌, Option, Some, None, Ok, Err}
use Rattle.std.proofs.Common.{Result, ◌≤◌, IfOk, IfErr, IfSome, OnOk, OnErr, IsTrue, IsSome, Bool}
use Rattle.std.proofs.Common.{true, false, if◌then◌else◌, true≢false, refl, sym, subst, ◌∙◌, arith}
use Rattle.std.specs.Prelude.{option_copied, Vec}
use Rattle.std.specs.declared.alloc.Global.{Global}
use Rattle.std.specs.Borrow.{Bor}
use Rattle.std.specs.List.{AllZip}
use Rattle.sqlite.specs.declared.error.Error.{Error}
use Rattle.sqlite.specs.Order.{Row}
use Rattle.sqlite.specs.Tree.{Trees}
use Rattle.sqlite.specs.Store.{Ghosts}
use Rattle.sqlite.specs.Effect.{IsDatabase, Reads}
use Rattle.sqlite.specs.View.{doubt}
use Rattle.sqlite.specs.Held.{Held, state}
use Rattle.sqlite.specs.State.{State, HasCleanDisk, IsUnchanged, Survives, CommitsShowing, Shown}
use Rattle.sqlite.specs.State.{FailsToQuery}
use Rattle.sqlite.specs.Listing.{understood, reads_listing, listing_schema, if_select, is_select}
use Rattle.sqlite.specs.Command.{Command as Plan}
use Rattle.sqlite.specs.Given.{IsPlain, Returns, HasGiven, HasBegun, Advances, IsRefused}
use Rattle.sqlite.specs.Next.{HasMoved}
use Rattle.sqlite.specs.declared.Rows.{Rows}
use Rattle.sqlite.proofs.Callers.{command_of, reads_as, unchanged_then}
use Rattle.sqlite.proofs.StateLemmas.{survives_then, survives_weaker}
use Rattle.sqlite_schema.specs.declared.schema.Schema.{Schema}
use Rattle.sqlite_schema.specs.declared.command.Command.{Command}
use Rattle.sqlite_schema.specs.declared.command.Returning.{Returning}
use Rattle.sqlite_resolve.specs.declared.compiled.Compiled.{Compiled}
use Rattle.sqlite_resolve.specs.declared.error.CompileError.{CompileError}
use Rattle.sqlite_resolve.specs.declared.error.CompileError.TheVariants.{NoSuchTable}
use Rattle.sqlite_resolve.specs.Lowering.{Checked, and_then}
use Rattle.sqlite_resolve.specs.Compile.{compiled, first, returning, planned, meaning, with_command}
use Rattle.pgtables.specs.Kept.{IfServing}
use Rattle.pgtables.proofs.Stays.{to_query_stays}

pub on_ok : {X E : Type 0} (r : Result X E) (P : Type 0) → P → OnOk r P
on_ok (Ok x) P it = it
on_ok (Err e) P it = tt

pub if_ok : {X E : Type 0} (r : Result X E) (P Q : X → Type 0) → ((x : X) → P x → Q x) → IfOk r P → IfOk r Q
if_ok (Ok x) P Q means it = means x it
if_ok (Err e) P Q means it = tt

pub if_some : {X : Type 0} (o : Option X) (P Q : X → Type 0) → ((x : X) → P x → Q x) → IfSome o P → IfSome o Q
if_some (Some x) P Q means it = means x it
if_some None P Q means it = tt

pub zip_on : {A B : Type 0} (R : A → B → Type 0) (xs : List A) (ys : List B) (x : A) (y : B) → AllZip R xs ys → R x y
    → AllZip R (xs ++ x ∷ []) (ys ++ y ∷ [])
zip_on R [] [] x y h one = (one, tt)
zip_on R [] (z ∷ ys) x y h one = absurd h
zip_on R (w ∷ xs) [] x y h one = absurd h
zip_on R (w ∷ xs) (z ∷ ys) x y h one = (h.0, zip_on R xs ys x y h.1 one)

-- it shows no rows of a write, whatever the schema is
abbrev pub IsReadOnly : List ℕ → Type 0
IsReadOnly text = (schema : Schema) (base : ℕ) → and_then (first text) (λ p. returning schema base p.statement) ≡ Ok None

abbrev ReturnsNone : Compiled → Type 0
ReturnsNone c = c.returning ≡ None

planned_none : {F : Type 0} (make : F × (Command × Option Returning) → Compiled)
    → ((plan : F × (Command × Option Returning)) → (make plan).returning ≡ plan.1.1) → (formats : F) (r : Checked (Option Returning))
    → r ≡ Ok None
    → (c : Checked Command) → IfOk
    (and_then (and_then (and_then r (λ shown. and_then c (λ c. Ok (c, shown)))) (λ found. Ok (formats, found))) (λ plan. Ok (make plan)))
    ReturnsNone
planned_none make keeps formats (Ok r) is (Ok c) = let none : r ≡ None = cc in keeps (formats, (c, r)) ∙ none
planned_none make keeps formats (Ok r) is (Err e) = tt
planned_none make keeps formats (Err e) is c = tt

then_none : {P : Type 0} (f : Checked P) (reads : ℕ → P → Checked (Option Returning)) (k : P → Checked Compiled)
    → ((base : ℕ) → and_then f (reads base) ≡ Ok None)
    → ((p : P) → ((base : ℕ) → reads base p ≡ Ok None) → IfOk (k p) ReturnsNone) → IfOk (and_then f k) ReturnsNone
then_none (Ok p) reads k h each = each p h
then_none (Err e) reads k h each = tt

never_returns : (r : Result Compiled CompileError) → ((c : Compiled) → r ≡ Ok c → c.returning ≡ None) → ¬ Returns r
never_returns (Ok c) none some = true≢false (sym (subst IsSome (none c refl) some))
never_returns (Err e) none some = some

module _ (text : List ℕ) (read_only : IsReadOnly text) where
  compiled_none : (schema : Schema) → IfOk (compiled schema text) ReturnsNone
  unfolding compiled planned meaning
  compiled_none schema = then_none (first text) (λ base p. returning schema base p.statement) _ (read_only schema)
      (λ p h. planned_none (with_command p) (λ _. refl) _ _ (h _) _)

  pub understood_none : (schema : Schema) (c : Compiled) → understood schema text ≡ Ok c → c.returning ≡ None
  unfolding understood
  understood_none schema c is =
      subst (λ r. IfOk r ReturnsNone) is
      (elim (reads_listing schema text) as
      (λ b. IfOk (if b then if_select (compiled listing_schema text) else compiled schema text) ReturnsNone) [
        | true ↦ selected (compiled listing_schema text) (compiled_none listing_schema)
        | false ↦ compiled_none schema
      ])
    where
      chosen : (b : Bool) (c : Compiled) → ReturnsNone c → IfOk (if b then Ok c else Err NoSuchTable) ReturnsNone
      chosen true c h = h
      chosen false c h = tt

      selected : (r : Checked Compiled) → IfOk r ReturnsNone → IfOk (if_select r) ReturnsNone
      selected (Ok c) h = chosen (is_select c.command) c h
      selected (Err e) h = tt

  never_commits : (s : State) (db : Trees) → ¬ CommitsShowing text [] s db
  unfolding CommitsShowing
  never_commits s db h = true≢false (sym (subst IsSome (understood_none s.now.schema h.0 h.1.is) h.2))

  pub commits_nothing : (old new : State) → Survives old new (CommitsShowing text [] old) → Survives old new (λ _. ⊥)
  commits_nothing old new = survives_weaker old new _ _ (λ _ db. never_commits old db)

  begun_read : {S : Type 0} (g : Ghosts S) (old new : Held S) → HasBegun g text [] old new
      → HasGiven g text [] new [] × IsUnchanged (state g old) (state g new)
  begun_read g old new (inl h) = h
  begun_read g old new (inr h) = absurd (never_returns _ (understood_none old.schema) h.0)

  -- the whole answer leaves all as it was
  pub shown_same : (old new : State) (rows : List Row) → Shown text [] old new rows → IsUnchanged old new
  unfolding Shown
  shown_same old new rows h = let none = understood_none old.now.schema h.0 h.1.is in (rw none at h.2).3

  module _ {S : Type 0} (g : Ghosts S) where
    -- ---- a query that doesn't begin

    module _ {Q : Type 0} (old new : Held S) (result : Result Q Error) (e : Error) (is : result ≡ Err e)
        (refused : OnErr result (IsRefused g text [] old result new)) where
      refusal : IsRefused g {X = Q} text [] old (Err e) new
      refusal = subst (λ r. OnErr r (IsRefused g {X = Q} text [] old r new)) is refused

      pub refused_survives : Survives (state g old) (state g new) (λ _. ⊥)
      refused_survives = commits_nothing (state g old) (state g new) refusal.survives

      pub refused_stays : (IsTrue (state g old).is_open → (state g old).now ≡ (state g old).committed)
          → IfServing g new (IsTrue (state g old).is_open × ((state g new).now ≡ (state g old).now))
      refused_stays even clean still = to_query_stays g old new even text [] e (refusal.err clean) still

    -- ---- the rows so far

    -- this holds of the rows that were given so far, and nothing has changed
    pub record HasRead (P : List Row → Type 0) (old now : Held S) : Type 0 where
      pub settled : (state g now).in_transaction ≡ false
      pub survives : Survives (state g old) (state g now) (λ _. ⊥)
      pub given : HasCleanDisk (state g now)
          → (given : List Row) × HasGiven g text [] now given × P given × IsUnchanged (state g old) (state g now)

    pub begins : (P : List Row → Type 0) → P [] → (old now : Held S) → (state g now).in_transaction ≡ false
        → Survives (state g old) (state g now) (CommitsShowing text [] (state g old))
        → (HasCleanDisk (state g now) → HasBegun g text [] old now) → HasRead P old now
    begins P none old now settled survives begun = record {
      settled = settled;
      survives = commits_nothing (state g old) (state g now) survives;
      given = λ clean. let it = begun_read g old now (begun clean) in ([], it.0, none, it.1);
    }

    module _ (P : List Row → Type 0) (old : Held S) (mid new : Rows S g) (so_far : HasRead P old mid.conn.now)
        (result : Result (Option (Bor Row)) Error) (moved : HasMoved g mid result new) where
      same : (found : Option (Bor Row)) → result ≡ Ok found → HasCleanDisk (state g new.conn.now)
          → IsUnchanged (state g mid.conn.now) (state g new.conn.now)
      same found is clean = subst (λ r. OnOk r (IsUnchanged (state g mid.conn.now) (state g new.conn.now))) is (moved.same clean)

      advances : (found : Option (Bor Row)) → result ≡ Ok found → HasCleanDisk (state g new.conn.now)
          → Advances g mid.conn.now new.conn.now (option_copied found)
      advances found is clean = subst (λ r. IfOk r (λ row. Advances g mid.conn.now new.conn.now (option_copied row))) is (moved.ok clean)

      -- a row more
      pub one_more : (Q : List Row → Type 0) (row : Bor Row) → result ≡ Ok (Some row)
          → ((given : List Row) → P given → Q (given ++ row.now ∷ [])) → HasRead Q old new.conn.now
      one_more Q row is adds = record {
        settled = moved.mode so_far.settled;
        survives = survives_then (state g old) (state g mid.conn.now) (state g new.conn.now) _ _ _ (λ _ db none. none) (λ _ db none. none)
            so_far.survives moved.survives;
        given = λ clean.
            let it = so_far.given (omega (arith, moved.survives.clean)) in (
              it.0 ++ row.now ∷ [],
              advances (Some row) is clean text [] it.0 it.1,
              adds it.0 it.2,
              unchanged_then (state g old) (state g mid.conn.now) (state g new.conn.now) it.3 (same (Some row) is clean),
            );
      }

      -- all of them: an answer
      pub whole : result ≡ Ok None → HasCleanDisk (state g new.conn.now)
          → (rows : List Row) × Shown text [] (state g mid.conn.now) (state g new.conn.now) rows × P rows
          × IsUnchanged (state g old) (state g mid.conn.now)
      whole is clean = let it = so_far.given (omega (arith, moved.survives.clean)) in
          (it.0, advances None is clean text [] it.0 it.1, it.2, it.3)

    -- ---- the whole answer at once

    module _ (old new : Held S) (result : Result (Vec Row Global) Error)
        (ok : HasCleanDisk (state g new) → IfOk result (λ rows. Shown text [] (state g old) (state g new) rows.items)) where
      pub all_same : HasCleanDisk (state g new) → OnOk result (IsUnchanged (state g old) (state g new))
      all_same clean = go result ok
        where
          go : (r : Result (Vec Row Global) Error)
              → (HasCleanDisk (state g new) → IfOk r (λ rows. Shown text [] (state g old) (state g new) rows.items))
              → OnOk r (IsUnchanged (state g old) (state g new))
          go (Ok rows) shown = shown_same (state g old) (state g new) rows.items (shown clean)
          go (Err e) shown = tt

      pub all_stays : (HasCleanDisk (state g new) → IfErr result (FailsToQuery text [] (state g old) (state g new)))
          → (IsTrue (state g old).is_open → (state g old).now ≡ (state g old).committed)
          → IfServing g new (IsTrue (state g old).is_open × ((state g new).now ≡ (state g old).now))
      all_stays err even clean still = go result ok err
        where
          go : (r : Result (Vec Row Global) Error)
              → (HasCleanDisk (state g new) → IfOk r (λ rows. Shown text [] (state g old) (state g new) rows.items))
              → (HasCleanDisk (state g new) → IfErr r (FailsToQuery text [] (state g old) (state g new)))
              → IsTrue (state g old).is_open × ((state g new).now ≡ (state g old).now)
          go (Ok rows) shown fails = let it = shown_same (state g old) (state g new) rows.items (shown clean) in
              (it.0.was_open, it.0.now_is)
          go (Err e) shown fails = to_query_stays g old new even text [] e (fails clean) still

      pub all_open : (rows : Vec Row Global) → result ≡ Ok rows → HasCleanDisk (state g new) → IsTrue (state g new).is_open
      all_open rows is clean = let it = subst (λ r. OnOk r (IsUnchanged (state g old) (state g new))) is (all_same clean) in it.0.is_open

      -- what the whole answer tells, with what is known of an open connection alone
      pub all_told : (P : Type 0) (rows : Vec Row Global) → result ≡ Ok rows → doubt (state g old).is_clean ≤ doubt (state g new).is_clean
          → IfServing g old P → (IsTrue (state g old).is_open → IsDatabase (state g old).now)
          → HasCleanDisk (state g new) → P × IsDatabase (state g old).now × Shown text [] (state g old) (state g new) rows.items
      all_told P rows is doubts ours sound clean =
          let shown = subst (λ r. IfOk r (λ rows. Shown text [] (state g old) (state g new) rows.items)) is (ok clean) in
          let was_open = (shown_same (state g old) (state g new) rows.items shown).0.was_open in
          (ours (omega arith) was_open, sound was_open, shown)

  -- what the answer is
  pub answers : (schema : Schema) (plan : Plan) → command_of (understood schema text) ≡ plan → IsPlain (understood schema text)
      → reads_listing schema text ≡ false
      → (old new : State) (rows : List Row) → old.now.schema ≡ schema → Shown text [] old new rows → Reads plan old.now [] rows
  answers schema plan is plain unlisted old new rows ours h = reads_as text [] old new schema ours plan is plain unlisted rows h
