use Rattle.std.proofs.Common.{◌∷◌, refl, sym, subst, arith, length-append}
use Rattle.pgcopy.specs.declared.fault.Reason.TheVariants.{TooLong}
use Rattle.pgcopy.specs.Reading.{newline}
use Rattle.pgcopy.specs.Copied.{IsOpen}
use Rattle.pgcopy.proofs.Lines.{long_goes_on, row_goes_on, marker_goes_on, bad_goes_on}
use Rattle.pgcopy.proofs.Lines.{failed_behind, marked_behind}
use Rattle.pgcopy.proofs.reader.CopyReader.end_line.Goals as goal

pub returns-then-front-self-clause-fed : goal.returns-then-front-self-clause-fed
returns-then-front-self-clause-fed c =
    let state = subst IsOpen (sym c.self.view_is) c.requires.state in
    rw (c.refuse.ensures.fault, c.refuse.ensures.kept, ← c.self.view_is)
    (λ behind. (
      refl,
      long_goes_on _ c.args.front.now (newline ∷ behind) state c.requires.front
          (omega (arith, length-append c.self.inside.held.items c.args.front.now, c.self.inside.held.ok.0)),
      λ more. failed_behind _ more TooLong refl,
    ))

pub returns-in-Ok-true-clause-fed : goal.returns-in-Ok-true-clause-fed
returns-in-Ok-true-clause-fed c =
    let state = subst IsOpen (sym c.self.view_is) c.requires.state in
    let read = rw c.in-Ok-true.field-0-test at c.in-Ok-true.ensures.read in
    rw (c.in-Ok-true.ensures.ok, c.saturating_add-self-inside.ensures, ← c.self.view_is)
    (λ behind. (
      omega (arith, length-append c.args.front.now (newline ∷ behind)),
      read.1,
      read.3,
      read.4,
      row_goes_on _ c.args.front.now behind read.1 state c.requires.front
          (omega (arith, length-append c.self.inside.held.items c.args.front.now, c.self.inside.held.ok.0)) read.0 read.2,
    ))

pub returns-in-Ok-false-clause-fed : goal.returns-in-Ok-false-clause-fed
returns-in-Ok-false-clause-fed c =
    let state = subst IsOpen (sym c.self.view_is) c.requires.state in
    let read = rw c.in-Ok-false.field-0-test at c.in-Ok-false.ensures.read in
    rw (c.in-Ok-false.ensures.ok, ← c.self.view_is)
    (λ behind. (
      omega (arith, length-append c.args.front.now (newline ∷ behind)),
      read.1,
      marker_goes_on _ c.args.front.now behind state c.requires.front
          (omega (arith, length-append c.self.inside.held.items c.args.front.now, c.self.inside.held.ok.0)) read.0,
      λ more. marked_behind _ more state.whole refl,
    ))

pub returns-in-Err-Bad-clause-fed : goal.returns-in-Err-Bad-clause-fed
returns-in-Err-Bad-clause-fed c =
    let state = subst IsOpen (sym c.self.view_is) c.requires.state in
    let read = rw c.in-Err-Bad.field-0-is at c.in-Err-Bad.ensures.read in
    rw (c.refuse-in-Err-Bad.ensures.fault, c.refuse-in-Err-Bad.ensures.kept, c.in-Err-Bad.ensures.err, ← c.self.view_is)
    (λ behind. (
      read.2,
      bad_goes_on _ c.args.front.now behind c.in-Err-Bad.reason state c.requires.front
          (omega (arith, length-append c.self.inside.held.items c.args.front.now, c.self.inside.held.ok.0)) read.0 read.1,
      λ more. failed_behind _ more c.in-Err-Bad.reason refl,
    ))
