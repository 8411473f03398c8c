use Rattle.std.proofs.lemmas.Result.{err_from_is_err_and}
use Rattle.std.proofs.Common.{◌≡◌, ℕ, List, [], length, subst, sym, ap, ◌∙◌, ◌++◌}
use Rattle.std.specs.Prelude.{◌==◌}
use Rattle.pgcopy.specs.Reading.{Open}
use Rattle.pgcopy.specs.Copied.{reading_behind}
use Rattle.pgload.specs.Loads.{inserts, rows_of}
use Rattle.pgload.specs.Loading.{Opened, HasTaken, TextStops}
use Rattle.pgload.proofs.Texts.{with_nothing, no_rows, whole_text, all_taken}
use Rattle.pgload.proofs.table.OpenTable.end.Goals as goal
use Rattle.pgload.proofs.table.OpenTable.end.Goals.{then-not-is_empty+in_ok-store}
use Rattle.pgload.proofs.table.OpenTable.end.Goals.{else-not-is_empty}

pub returns-in_err-store : goal.returns-in_err-store
returns-in_err-store g c = record {
  goes = λ max_line before table is.
      let s = g.C.ReplicaStore in
      let p = err_from_is_err_and c.from_residual.result c.from_residual.ensures.1 in
      rw (p.1, p.2)
      (subst (λ it. TextStops s.holds s.place s.reopens s.serves s.is_honest max_line before it c.store.new.store c.in_err-store.field-0.0)
      (with_nothing table) (c.in_err-store.ensures.goes max_line before table is []));
  honest = λ now. c.store.ensures.honest now;
}

pub returns : goal.returns
returns g c = record {
  goes = λ max_line before table is.
      let s = g.C.ReplicaStore in
      let end = subst (λ (it : Opened). (reading_behind it.reader []).end ≡ Open []) c.self.view_is
      (c.is_whole.ensures.0 c.if-not-is_whole.false) in (
        whole_text s.holds s.place s.reopens s.serves s.is_honest max_line before table c.args.store.now c.args.self is end,
        elim c.if-not-is_empty.branch [
          | then-not-is_empty+in_ok-store w ↦ subst (λ it.
              HasTaken s.holds s.place s.reopens s.serves s.is_honest (before ++ inserts table.definition (rows_of max_line table)) it)
              (sym w.store-is)
              (all_taken s.holds s.place s.reopens s.serves s.is_honest max_line before table w.store.new.store w.store.new.self
              (w.in_ok-store.ensures.goes max_line before table is) w.in_ok-store.ensures.stored)
          | else-not-is_empty w ↦
              let none = subst (λ (it : Opened). it.rows ≡ []) c.self.view_is
              (no_rows c.self.inside.rows.items
              (w.if-not-is_empty.ensures ∙ ap (λ (bytes : List ℕ). length bytes == 0) c.as_slice.ensures.value)) in
              subst (λ it. HasTaken s.holds s.place s.reopens s.serves s.is_honest (before ++ inserts table.definition (rows_of max_line
              table)) it)
              (sym w.store-is)
              (all_taken s.holds s.place s.reopens s.serves s.is_honest max_line before table c.args.store.now c.args.self is none)
        ],
      );
  honest = λ now. elim c.if-not-is_empty.branch [
    | then-not-is_empty+in_ok-store w ↦ w.store.ensures.honest (subst g.C.ReplicaStore.is_honest w.store-is now)
    | else-not-is_empty w ↦ subst g.C.ReplicaStore.is_honest w.store-is now
  ];
}
