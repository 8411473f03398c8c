use Rattle.std.proofs.Common.{◌≡◌, ◌∷◌, ◌++◌, [], refl, arith, append-nil, sym, ◌∙◌}
use Rattle.std.specs.Prelude.{option_copied}
use Rattle.std.specs.List.{flat_map}
use Rattle.std.proofs.lemmas.Option.{IfSome_then}
use Rattle.std.proofs.lemmas.Result.{err_from_is_err_and}
use Rattle.pgtuple.proofs.Appending.{Keeps-more}
use Rattle.pgtuple.specs.Cells.{cell_spelling}
use Rattle.pgtuple.specs.Limits.{IsCell, IsTextCell}
use Rattle.pgcopy.specs.Rows.{fields_behind, fields_for, row_of}
use Rattle.pgcopy.proofs.Cells.{starts, goes_on, ends_bad, ends_missing, ends_extra, is_done}
use Rattle.pgcopy.proofs.Cells.{some_behind, none_behind}
use Rattle.pgcopy.proofs.Pushed.{All-push, spelling-push, keeps_front}
use Rattle.pgcopy.proofs.row.push_fields.Goals as goal

pub loop-init : goal.loop-init
unfolding row_of
loop-init c = record {
  front = [];
  read = starts c.args.columns (fields_behind (option_copied c.fields-rest.result)) (fields_for c.args.columns c.args.line.now)
      c.fields-rest.ensures.fields;
  fit = tt;
  texts = tt;
  bytes = sym (append-nil c.args.rows.now.items);
  most = IfSome_then c.fields-rest.result c.fields-rest.ensures.line (λ x p. omega (arith, p));
}

pub returns-in_default : goal.returns-in_default
returns-in_default c =
    let none : fields_behind (option_copied c.loop.rest) ≡ [] = rw c.in_default.is refl in
    record {
      is = ends_missing c.loop.invariant.front c.args.columns c.loop.counter (fields_behind (option_copied c.loop.rest))
          (row_of c.args.columns c.args.line.now) c.loop-test.true none c.loop.invariant.read;
      keeps = keeps_front c.args.rows.now.items (flat_map cell_spelling c.loop.invariant.front) c.loop.rows.items c.loop.invariant.bytes;
    }

pub returns-in_err-push_field : goal.returns-in_err-push_field
returns-in_err-push_field c =
    let fields :
    fields_behind (option_copied c.loop.rest) ≡ c.first_field.result.0.now ∷ fields_behind (option_copied c.first_field.result.1) =
    rw c.in-Some.is c.first_field.ensures.fields in
    let p = err_from_is_err_and c.from_residual.result c.from_residual.ensures.1 in
    rw (p.1, p.2) (record {
      is = ends_bad c.in_err-push_field.field-0.0 c.loop.invariant.front c.args.columns c.loop.counter
          (fields_behind (option_copied c.loop.rest)) (fields_behind (option_copied c.first_field.result.1)) c.first_field.result.0.now
          (row_of c.args.columns c.args.line.now) c.loop-test.true fields c.in_err-push_field.ensures.is c.loop.invariant.read;
      keeps = Keeps-more c.args.rows.now.items c.loop.rows.items c.push_field.new.rows.items (flat_map cell_spelling c.loop.invariant.front)
          c.loop.invariant.bytes c.in_err-push_field.ensures.keeps;
    })

pub loop-preserved : goal.loop-preserved
loop-preserved c =
    let fields :
    fields_behind (option_copied c.loop.rest) ≡ c.first_field.result.0.now ∷ fields_behind (option_copied c.first_field.result.1) =
    rw c.in-Some.is c.first_field.ensures.fields in
    let most = rw c.in-Some.is at c.loop.invariant.most in
    record {
      front = c.loop.invariant.front ++ c.in_ok-push_field.ensures.cell ∷ [];
      read = goes_on c.loop.invariant.front c.args.columns c.loop.counter (fields_behind (option_copied c.loop.rest))
          (fields_behind (option_copied c.first_field.result.1)) c.first_field.result.0.now c.in_ok-push_field.ensures.cell
          (row_of c.args.columns c.args.line.now) c.loop-test.true fields c.in_ok-push_field.ensures.value c.loop.invariant.read;
      fit = All-push IsCell c.loop.invariant.front c.in_ok-push_field.ensures.cell c.loop.invariant.fit c.in_ok-push_field.ensures.fits;
      texts = All-push IsTextCell c.loop.invariant.front c.in_ok-push_field.ensures.cell c.loop.invariant.texts
          c.in_ok-push_field.ensures.text;
      bytes = spelling-push c.args.rows.now.items c.loop.invariant.front c.in_ok-push_field.ensures.cell c.loop.rows.items
          c.push_field.new.rows.items c.loop.invariant.bytes c.in_ok-push_field.ensures.bytes;
      most = IfSome_then c.first_field.result.1 c.first_field.ensures.behind (λ x p. omega (arith, p, most));
    }

pub returns-then-is_some : goal.returns-then-is_some
returns-then-is_some c =
    let some = some_behind c.loop.rest (sym c.is_some.ensures ∙ c.if-is_some.true) in
    record {
      is = ends_extra c.loop.invariant.front c.args.columns c.loop.counter (fields_behind (option_copied c.loop.rest)) some.0
          (row_of c.args.columns c.args.line.now) c.loop-test.false some.1 c.loop.invariant.read;
      keeps = keeps_front c.args.rows.now.items (flat_map cell_spelling c.loop.invariant.front) c.loop.rows.items c.loop.invariant.bytes;
    }

pub returns : goal.returns
returns c = record {
  cells = c.loop.invariant.front;
  value = is_done c.loop.invariant.front c.args.columns c.loop.counter (fields_behind (option_copied c.loop.rest))
      (row_of c.args.columns c.args.line.now) c.loop-test.false (none_behind c.loop.rest (sym c.is_some.ensures ∙ c.if-is_some.false))
      c.loop.invariant.read;
  fit = c.loop.invariant.fit;
  texts = c.loop.invariant.texts;
  bytes = c.loop.invariant.bytes;
}
