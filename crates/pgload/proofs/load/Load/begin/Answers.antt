use Rattle.std.proofs.Common.{Some, Ok, subst, sym, ap, ◌∙◌}
use Rattle.pgcopy.specs.Copied.{fresh}
use Rattle.pgload.specs.Loads.{format_of}
use Rattle.pgload.specs.Loading.{Goes, Stands, Begins, come_after}
use Rattle.pgload.proofs.Parts.{begin_goes, no_table}
use Rattle.pgload.proofs.load.Load.begin.Goals as goal

pub returns-clause-goes : goal.returns-clause-goes
returns-clause-goes g c come has =
    let s = g.C.ReplicaStore in
    let max_line = c.args.self.now.limits.max_line in
    subst (λ closed. Goes s.holds s.place s.reopens s.serves s.is_honest max_line (come_after come (Begins c.args.definition))
    c.args.self.now.store (Some c.new.result) closed (Ok tt))
    (sym has.going_on)
    (begin_goes s.holds s.place s.reopens s.serves s.is_honest max_line come.ended c.args.self.now.store c.args.definition come.going
    c.new.result has.whole
    (subst (λ opened. Stands s.holds s.place s.reopens s.serves s.is_honest max_line come.ended come.going c.args.self.now.store opened)
    (no_table c.args.self.now.table c.if-is_some.ensures) has.stands)
    c.new.ensures.definition (c.new.ensures.reader ∙ ap (λ max. fresh (format_of max c.args.definition)) c.max_line-max_line.ensures.same)
    c.new.ensures.rows)
