use Rattle.std.proofs.Common.{◌∙◌, ap, sym, map, string_bytes, is_some, Option, Bor, List, ℕ}
use Rattle.clap.specs.Words.{app_of, found_of, rows_of}
use Rattle.pgcommand.proofs.Answering.{is_named, parsed, refused_as}
use Rattle.pgcommand.proofs.Answering.{refused_misnamed, refused_without}
use Rattle.pgcommand.proofs.Building.{pair_of}
use Rattle.pgcommand.proofs.command_of.Goals as goal

pub task_of-requires : goal.task_of-requires
task_of-requires c =
    let p = parsed (map string_bytes c.args.words.now) (app_of c.in_ok-command.command) c.in-Ok.matches c.in_ok-command.ensures.0
    c.in-Ok.ensures.matches c.in-Ok.ensures.kinds in
    (is_named _ c.in-Ok.matches c.in-Some.name.now (rows_of (found_of c.in-Some.found.now)) p
    (pair_of _ _ _ _ _ c.in-Some.ensures.name c.in-Some.ensures.rows)).1

pub returns-in-Err-clause-refused : goal.returns-in-Err-clause-refused
returns-in-Err-clause-refused c =
    refused_as (map string_bytes c.args.words.now) (app_of c.in_ok-command.command) c.in-Err.error c.usage_fault.result
    c.in_ok-command.ensures.0 c.usage_fault.ensures c.in-Err.ensures.kinds

pub returns-in-Some-missing_word-clause-refused : goal.returns-in-Some-missing_word-clause-refused
returns-in-Some-missing_word-clause-refused c =
    let p = parsed (map string_bytes c.args.words.now) (app_of c.in_ok-command.command) c.in-Ok.matches c.in_ok-command.ensures.0
    c.in-Ok.ensures.matches c.in-Ok.ensures.kinds in
    let name = c.in-Some.name.now in
    let rows = rows_of (found_of c.in-Some.found.now) in
    refused_without (map string_bytes c.args.words.now) c.in_ok-missing.field-0
    c.usage_fault-in-Some-missing_word.result (
      p.none,
      name,
      rows,
      (is_named _ c.in-Ok.matches name rows p (pair_of _ _ _ _ _ c.in-Some.ensures.name c.in-Some.ensures.rows)).0,
      sym c.missing_word.ensures ∙ ap (λ (o : Option (Bor (List ℕ))). is_some o) c.in-Some-missing_word.is,
    )
    c.in_ok-missing.ensures c.usage_fault-in-Some-missing_word.ensures

pub returns-clause-asked : goal.returns-clause-asked
returns-clause-asked c =
    let p = parsed (map string_bytes c.args.words.now) (app_of c.in_ok-command.command) c.in-Ok.matches c.in_ok-command.ensures.0
    c.in-Ok.ensures.matches c.in-Ok.ensures.kinds in
    let name = c.in-Some.name.now in
    let rows = rows_of (found_of c.in-Some.found.now) in (
      p.none,
      name,
      rows,
      (is_named _ c.in-Ok.matches name rows p (pair_of _ _ _ _ _ c.in-Some.ensures.name c.in-Some.ensures.rows)).0,
      sym c.missing_word.ensures ∙ ap (λ (o : Option (Bor (List ℕ))). is_some o) c.in_default-missing_word.is,
      sym c.unknown_watch.ensures ∙ ap (λ (o : Option (Bor (List ℕ))). is_some o) c.in-None.is,
      c.in_ok-task_of-in-None.ensures,
    )

pub returns-in-Some-unknown_watch-clause-refused : goal.returns-in-Some-unknown_watch-clause-refused
returns-in-Some-unknown_watch-clause-refused c =
    let p = parsed (map string_bytes c.args.words.now) (app_of c.in_ok-command.command) c.in-Ok.matches c.in_ok-command.ensures.0
    c.in-Ok.ensures.matches c.in-Ok.ensures.kinds in
    let name = c.in-Some.name.now in
    let rows = rows_of (found_of c.in-Some.found.now) in
    refused_misnamed (map string_bytes c.args.words.now) c.in_ok-unknown-in-Some-unknown_watch.field-0
    c.usage_fault-in-Some-unknown_watch.result (
      p.none,
      name,
      rows,
      (is_named _ c.in-Ok.matches name rows p (pair_of _ _ _ _ _ c.in-Some.ensures.name c.in-Some.ensures.rows)).0,
      sym c.unknown_watch.ensures ∙ ap (λ (o : Option (Bor (List ℕ))). is_some o) c.in-Some-unknown_watch.is,
    )
    c.in_ok-unknown-in-Some-unknown_watch.ensures c.usage_fault-in-Some-unknown_watch.ensures
