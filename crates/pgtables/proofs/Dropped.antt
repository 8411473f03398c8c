-- The batch that drops the tables that are present.
use Rattle.std.proofs.Common.{◌≡◌, inl, inr, ◌≤◌, ℕ, Bool, true, false, List, [], ◌++◌, length}
use Rattle.std.proofs.Common.{take, drop, slice_get, codes, Some, None, Ok, Err, Result, OnOk, refl}
use Rattle.std.proofs.Common.{sym, ap, subst, subst₂, ◌∙◌, arith}
use Rattle.std.proofs.lemmas.Bool.{cases_Bool}
use Rattle.sqlite_tied.specs.Compute.{everything}
use Rattle.sqlite.specs.declared.error.Error.{Error}
use Rattle.sqlite.specs.Listing.{understood}
use Rattle.sqlite.specs.Given.{IsPlain}
use Rattle.sqlite.specs.Batch.{first_len, RunInTurn, Step, ExecutesAllInside}
use Rattle.sqlite.specs.Change.{without_table}
use Rattle.sqlite.specs.Clock.{timed}
use Rattle.sqlite.specs.Command.{Command}
use Rattle.sqlite.specs.Command.TheVariants.{DropTable, Nothing}
use Rattle.sqlite.specs.Does.{Tally, AtPlace, Drops}
use Rattle.sqlite.specs.Effect.{Database}
use Rattle.sqlite.specs.Held.{Held, state}
use Rattle.sqlite.specs.Rows.{Task}
use Rattle.sqlite.specs.Schema.{Schema}
use Rattle.sqlite.specs.State.{State, HasCleanDisk, KeepsCommit, ExecutesIn, Writes, Runs, mode_of}
use Rattle.sqlite.specs.State.{text_of, shows_rows}
use Rattle.sqlite.specs.Store.{Ghosts}
use Rattle.sqlite.specs.Table.{Table}
use Rattle.sqlite.specs.View.{doubt}
use Rattle.sqlite.proofs.Callers.{command_of, statement_of}
use Rattle.pgtables.specs.Schema.{no_schema, rel, held_table, pos_at}
use Rattle.pgtables.specs.Kept.{IfServing, IsBare}
use Rattle.pgtables.specs.Remains.{IsOver}
use Rattle.pgtables.proofs.Made.{past, turn}
use Rattle.pgtables.proofs.Remaining.{over}
use Rattle.pgtables.proofs.Upserts.{went, same_value}

-- ---- the batch and its statements

abbrev pub drop_text : List ℕ
drop_text = codes "DROP TABLE IF EXISTS rel; DROP TABLE IF EXISTS held; DROP TABLE IF EXISTS pos"

abbrev rel_text : List ℕ
rel_text = codes "DROP TABLE IF EXISTS rel;"

abbrev held_text : List ℕ
held_text = codes " DROP TABLE IF EXISTS held;"

abbrev pos_text : List ℕ
pos_text = codes " DROP TABLE IF EXISTS pos"

first_is : take (first_len drop_text) drop_text ≡ rel_text
unfolding understood everything
first_is = refl

rest_is : drop (first_len drop_text) drop_text ≡ held_text ++ pos_text
unfolding understood everything
rest_is = refl

second_is : take (first_len (held_text ++ pos_text)) (held_text ++ pos_text) ≡ held_text
unfolding understood everything
second_is = refl

last_is : drop (first_len (held_text ++ pos_text)) (held_text ++ pos_text) ≡ pos_text
unfolding understood everything
last_is = refl

third_is : take (first_len pos_text) pos_text ≡ pos_text
unfolding understood everything
third_is = refl

none_left : drop (first_len pos_text) pos_text ≡ []
unfolding understood everything
none_left = refl

-- a statement is understood so, and shows nothing
abbrev Is : Schema → List ℕ → Command → Type 0
Is schema sql command = (command_of (understood schema sql) ≡ command) × IsPlain (understood schema sql)

rel_goes : (h p : Bool) → Is (over true h p) rel_text (DropTable 0)
unfolding understood everything
rel_goes true true = (refl, (refl, refl))
rel_goes true false = (refl, (refl, refl))
rel_goes false true = (refl, (refl, refl))
rel_goes false false = (refl, (refl, refl))

rel_gone : (h p : Bool) → Is (over false h p) rel_text Nothing
unfolding understood everything
rel_gone true true = (refl, (refl, refl))
rel_gone true false = (refl, (refl, refl))
rel_gone false true = (refl, (refl, refl))
rel_gone false false = (refl, (refl, refl))

held_goes : (p : Bool) → Is (over false true p) held_text (DropTable 0)
unfolding understood everything
held_goes true = (refl, (refl, refl))
held_goes false = (refl, (refl, refl))

held_gone : (p : Bool) → Is (over false false p) held_text Nothing
unfolding understood everything
held_gone true = (refl, (refl, refl))
held_gone false = (refl, (refl, refl))

pos_goes : Is (over false false true) pos_text (DropTable 0)
unfolding understood everything
pos_goes = (refl, (refl, refl))

pos_gone : Is (over false false false) pos_text Nothing
unfolding understood everything
pos_gone = (refl, (refl, refl))

without_rel : (h p : Bool) → without_table (over true h p) 0 ≡ over false h p
without_rel true true = refl
without_rel true false = refl
without_rel false true = refl
without_rel false false = refl

without_held : (p : Bool) → without_table (over false true p) 1 ≡ over false false p
without_held true = refl
without_held false = refl

-- ---- what a statement of the batch leaves

in_batch : (sql : List ℕ) (old new : State) (schema : Schema) (command : Command) (count : ℕ) → old.now.schema ≡ schema
    → Is schema sql command → ExecutesIn true sql [] old new (Ok count)
    → Runs old new None command (statement_of sql (understood schema sql)) [] count
unfolding ExecutesIn
in_batch sql old new schema command count has is h =
    let known = sym h.1.is ∙ ap (λ s. understood s sql) has in
    let bare = subst IsPlain (sym known) is.1 in
    let ran : Runs old new h.0.returning h.0.command (text_of sql h.0) (timed [] h.0.formats h.1.now) count =
    elim (cases_Bool (shows_rows true h.0)) [
      | inl shows ↦ absurd (let e = (rw shows at h.2).0 in cc)
      | inr runs ↦ rw runs at h.2
    ] in
    subst₂ (λ k t. Runs old new None k t [] count) (ap command_of known ∙ is.0) (ap (statement_of sql) known) (rw (bare.0, bare.1) at ran)

drops : (sql : List ℕ) (old new : State) (schema : Schema) (table : Table) (count : ℕ) → old.now.schema ≡ schema
    → Is schema sql (DropTable 0) → slice_get schema.tables 0 ≡ Some table → ExecutesIn true sql [] old new (Ok count)
    → new.now.schema ≡ without_table schema table.tree
drops sql old new schema table count has is first h =
    let w : Writes old new None (DropTable 0) (statement_of sql (understood schema sql)) [] count =
    in_batch sql old new schema (DropTable 0) count has is h in
    let found : slice_get old.now.schema.tables 0 ≡ Some table = ap (λ (s : Schema). slice_get s.tables 0) has ∙ first in
    let task_on = λ (t : Table). let task : Task =
    record { limit = old.step_limit; keys = (mode_of old).keys; schema = old.now.schema; table = t; params = [] } in task in
    let all : Drops (task_on table) (mode_of old) old.now.trees (Ok (w.tally, new.now)) =
    subst (λ o. AtPlace (λ t. Drops (task_on t) (mode_of old) old.now.trees) o (Ok (w.tally, new.now))) found w.changed in
    let emptied = went all in
    let uncounted = went emptied.2 in
    let tested = went uncounted.2 in
    let left = went tested.2 in
    let now : new.now ≡ left.0 = ap (λ (p : Tally × Database). p.1) (same_value left.2) in
    ap (λ (d : Database). d.schema) now ∙ left.1.0 ∙ ap (λ s. without_table s table.tree) has

stays : (sql : List ℕ) (old new : State) (schema : Schema) (count : ℕ) → old.now.schema ≡ schema → Is schema sql Nothing
    → ExecutesIn true sql [] old new (Ok count) → new.now.schema ≡ schema
stays sql old new schema count has is h =
    let same : Runs old new None Nothing (statement_of sql (understood schema sql)) [] count =
    in_batch sql old new schema Nothing count has is h in
    ap (λ (d : Database). d.schema) same.0.0.now_is ∙ has

rel_step : (d h p : Bool) (old new : State) (count : ℕ) → old.now.schema ≡ over d h p → ExecutesIn true rel_text [] old new (Ok count)
    → new.now.schema ≡ over false h p
rel_step true h p old new count has ran = drops rel_text old new (over true h p) rel count has (rel_goes h p) refl ran ∙ without_rel h p
rel_step false h p old new count has ran = stays rel_text old new (over false h p) count has (rel_gone h p) ran

held_step : (h p : Bool) (old new : State) (count : ℕ) → old.now.schema ≡ over false h p → ExecutesIn true held_text [] old new (Ok count)
    → new.now.schema ≡ over false false p
held_step true p old new count has ran =
    drops held_text old new (over false true p) held_table count has (held_goes p) refl ran ∙ without_held p
held_step false p old new count has ran = stays held_text old new (over false false p) count has (held_gone p) ran

pos_step : (p : Bool) (old new : State) (count : ℕ) → old.now.schema ≡ over false false p → ExecutesIn true pos_text [] old new (Ok count)
    → new.now.schema ≡ no_schema
pos_step true old new count has ran = drops pos_text old new (over false false true) pos_at count has pos_goes refl ran
pos_step false old new count has ran = stays pos_text old new (over false false false) count has pos_gone ran

module _ {S : Type 0} (g : Ghosts S) where
  batch_dropped : (d h p : Bool) (old new : Held S) → (state g old).now.schema ≡ over d h p
      → ExecutesAllInside g 0 drop_text old new (Ok tt) → (state g new).now.schema ≡ no_schema
  unfolding ExecutesAllInside
  batch_dropped d h p old new has ran =
      let a = turn g drop_text (length drop_text) old new (λ e. cc) ran in
      let step_1 = subst (λ t. Step g t old a.0 (Ok a.1)) first_is a.3 in
      let left_1 = rel_step d h p (state g old) (state g a.0) a.1 has step_1.runs in
      let b = turn g (held_text ++ pos_text) a.2 a.0 new (λ e. cc) (subst (λ t. RunInTurn g (Some 0) a.2 t a.0 new (Ok tt)) rest_is a.4) in
      let step_2 = subst (λ t. Step g t a.0 b.0 (Ok b.1)) second_is b.3 in
      let left_2 = held_step h p (state g a.0) (state g b.0) b.1 left_1 step_2.runs in
      let c = turn g pos_text b.2 b.0 new (λ e. cc) (subst (λ t. RunInTurn g (Some 0) b.2 t b.0 new (Ok tt)) last_is b.4) in
      let step_3 = subst (λ t. Step g t b.0 c.0 (Ok c.1)) third_is c.3 in
      let left_3 = pos_step p (state g b.0) (state g c.0) c.1 left_2 step_3.runs in
      let end = past g c.2 c.0 new (subst (λ t. RunInTurn g (Some 0) c.2 t c.0 new (Ok tt)) none_left c.4) in
      ap (λ h. (state g h).now.schema) end ∙ left_3

  pub dropped_then : (old new : Held S) (result : Result (Unit {0}) Error) → IfServing g old (IsOver g old)
      → doubt (state g old).is_clean ≤ doubt (state g new).is_clean
      → (HasCleanDisk (state g new) → KeepsCommit (state g old) (state g new))
      → (HasCleanDisk (state g new) → OnOk result ((state g new).in_transaction ≡ (state g old).in_transaction))
      → (HasCleanDisk (state g new) → ExecutesAllInside g 0 drop_text old new result) → OnOk result (IfServing g new (IsBare g new))
  dropped_then old new (Err e) was doubts kept inside ran = tt
  dropped_then old new (Ok u) was doubts kept inside ran = λ clean still.
      let it = was (omega arith) ((kept clean).was_open still) in
      let left = it.ours.left in
      record {
        inside = inside clean ∙ it.inside;
        bare = batch_dropped left.has_definitions left.has_rows left.has_position old new it.ours.is (ran clean);
      }
