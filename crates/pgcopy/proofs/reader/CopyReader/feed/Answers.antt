use Rattle.std.proofs.Common.{refl, sym, ◌∙◌, subst, arith, List, ℕ, drop, ◌+◌}
use Rattle.pgcopy.specs.Copied.{IsFed}
use Rattle.pgcopy.proofs.Lines.{none_found, first_found, again_failed, failed_behind, marked_behind}
use Rattle.pgcopy.proofs.reader.CopyReader.feed.Goals as goal

pub returns-in-Some-clause-fed : goal.returns-in-Some-clause-fed
returns-in-Some-clause-fed c =
    rw (← c.self.view_is) (
      refl,
      λ more. again_failed _ c.args.piece.now more c.in-Some.reason c.in-Some.is,
      λ more. failed_behind _ more c.in-Some.reason c.in-Some.is,
    )

pub returns-then-self-clause-fed : goal.returns-then-self-clause-fed
returns-then-self-clause-fed c =
    rw (← c.self.view_is) (omega arith, refl, λ more. refl, λ more. marked_behind _ more c.in_default.is c.if-self.true)

pub end_line-requires-clause-front : goal.end_line-requires-clause-front
end_line-requires-clause-front c =
    (first_found c.args.piece.now c.in-Some-line_end.end (sym c.line_end.ensures ∙ c.in-Some-line_end.is)).front

pub hold-requires-clause-part : goal.hold-requires-clause-part
hold-requires-clause-part c = none_found c.args.piece.now (sym c.line_end.ensures ∙ c.in-None.is)

pub returns-in-Some-line_end-clause-fed : goal.returns-in-Some-line_end-clause-fed
returns-in-Some-line_end-clause-fed c =
    let end = c.in-Some-line_end.end in
    let first = first_found c.args.piece.now end (sym c.line_end.ensures ∙ c.in-Some-line_end.is) in
    subst
    (λ (bytes : List ℕ). IsFed c.args.self.now bytes c.args.rows.now.items c.end_line.result c.end_line.new.self
    c.end_line.new.rows.items)
    (sym first.whole) (c.end_line.ensures.fed (drop (end + 1) c.args.piece.now))
