use Rattle.std.proofs.Common.{refl, ◌∙◌, ap}
use Rattle.sqlite.specs.Effect.{Database}
use Rattle.sqlite_trees.specs.Objects.{catalog_tree}
use Rattle.pgmemory.proofs.Clean.{clean_over}
use Rattle.pgmemory.proofs.Unused.{schema_is_empty, found_empty}
use Rattle.pgmemory.proofs.Refusing.{wants_room}
use Rattle.pgmemory.proofs.opening.open.Goals as goal

pub returns-in-Ok : goal.returns-in-Ok
returns-in-Ok c =
    let clean = clean_over (λ _. refl) c.in-Ok.conn in
    let opened = c.in-Ok.ensures.opened clean in
    let empty = found_empty _ c.in-Ok.conn c.new-2.ensures (c.in-Ok.ensures.found clean) in
    let no_schema = schema_is_empty c.in-Ok.conn.schema _ (ap (λ (d : Database). d.trees catalog_tree) opened.0.clean ∙ empty.1)
    (opened.1 opened.0.is_open).0 in
    record { empty = (opened.0, opened.1, no_schema); fresh = c.in-Ok.ensures.fresh; clean = clean; refused = tt }

pub returns-clause-refused : goal.returns-clause-refused
returns-clause-refused c =
    wants_room (record { log = c.new.result; db = c.new-2.result }) c.in-Err.field-0-1 c.in-Err.error c.new-2.ensures c.in-Err.ensures.cause
