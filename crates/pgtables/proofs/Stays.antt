-- A query that fails changes nothing that is seen outside a transaction.
use Rattle.std.proofs.Common.{Option, ◌≡◌, inl, inr, ℕ, List, Some, None, sym, ◌∙◌}
use Rattle.std.specs.Prelude.{IsTrue}
use Rattle.sqlite.specs.Order.{Row}
use Rattle.sqlite.specs.declared.error.Error.{Error}
use Rattle.sqlite.specs.Store.{Ghosts}
use Rattle.sqlite.specs.Held.{Held, state}
use Rattle.sqlite.specs.State.{IsUnchanged, Fails, FailsToQuery, FailsToShow, IsNotRun}
use Rattle.sqlite_schema.specs.declared.command.Returning.{Returning}
use Rattle.sqlite_resolve.specs.declared.compiled.Compiled.{Compiled}

module _ {S : Type 0} (g : Ghosts S) (old new : Held S)
    (even : IsTrue (state g old).is_open → (state g old).now ≡ (state g old).committed) where
  abbrev Stays : Type 0
  Stays = IsTrue (state g old).is_open × ((state g new).now ≡ (state g old).now)

  fails_stays : (big : Type 0) (e : Error) → Fails (state g old) (state g new) big e → IsTrue (state g new).is_open → Stays
  fails_stays big e h still =
      let was_open = h.3.was_open still in
      (was_open, (h.3.undone still).0 ∙ sym (even was_open))

  unchanged_stays : IsUnchanged (state g old) (state g new) → Stays
  unchanged_stays h = (h.0.was_open, h.0.now_is)

  not_run_stays : (sql : List ℕ) (params : Row) (e : Error) → IsNotRun (state g old) (state g new) sql params e
      → IsTrue (state g new).is_open → Stays
  unfolding IsNotRun
  not_run_stays sql params e (inl h) still = unchanged_stays h.1
  not_run_stays sql params e (inr h) still = fails_stays ⊥ e h still

  to_show_stays : (sql : List ℕ) (c : Compiled) (params : Row) (e : Error) (what : Option Returning)
      → FailsToShow (state g old) (state g new) sql c params e what → IsTrue (state g new).is_open → Stays
  to_show_stays sql c params e None h still = unchanged_stays h.3
  to_show_stays sql c params e (Some what) (inl h) still = unchanged_stays h.1
  to_show_stays sql c params e (Some what) (inr h) still = fails_stays _ e h still

  -- a query that failed changes nothing while the store is open
  pub to_query_stays : (sql : List ℕ) (params : Row) (e : Error) → FailsToQuery sql params (state g old) (state g new) e
      → IsTrue (state g new).is_open → Stays
  unfolding FailsToQuery
  to_query_stays sql params e (inl h) still = not_run_stays sql params e h still
  to_query_stays sql params e (inr h) still = to_show_stays sql h.0 _ e h.0.returning h.2 still
