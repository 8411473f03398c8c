use Rattle.pgrows.specs.Rows.{tables_of}
use Rattle.pgencoded.proofs.Deciding.{truncated}
use Rattle.pgchanging.proofs.changing.truncate.Goals as goal

pub returns-clause-made : goal.returns-clause-made
returns-clause-made g c clean =
    let made = c.in_ok-delete_rows.ensures.made clean in (
      record { was_open = made.was_open; is_open = made.is_open },
      λ v rows h. truncated v c.args.def.now rows (tables_of g.S.Store c.args.rows.now) (tables_of g.S.Store c.delete_rows.new.self) h
          made.made,
    )
