use Rattle.pgtables.specs.Schema.{store_schema}
use Rattle.pgtables.proofs.Listed.{schema_once}
use Rattle.pgadopt.proofs.opening.sees_schema.Goals as goal

pub returns : goal.returns
returns g c v are is_open =
    let live = c.schema-schema.ensures.live is_open in
    schema_once _ c.args.conn.now.schema store_schema live.0.lists are.kept.sound.lists
