use Rattle.std.proofs.Common.{refl, sym, subst, arith, [], append-nil, length-append}
use Rattle.pgcopy.specs.declared.fault.Reason.TheVariants.{TooLong}
use Rattle.pgcopy.specs.Copied.{IsOpen}
use Rattle.pgcopy.proofs.Lines.{part_goes_on, long_goes_on, failed_behind}
use Rattle.pgcopy.proofs.reader.CopyReader.hold.Goals as goal

pub returns-then-part-self-clause-fed : goal.returns-then-part-self-clause-fed
returns-then-part-self-clause-fed c =
    let state = subst IsOpen (sym c.self.view_is) c.requires.state in
    let goes = long_goes_on _ c.args.part.now [] state c.requires.part
    (omega (arith, length-append c.self.inside.held.items c.args.part.now, c.self.inside.held.ok.0)) in
    rw (c.refuse.ensures.fault, c.refuse.ensures.kept, ← c.self.view_is)
    (λ rows. (refl, rw (append-nil c.args.part.now) at goes, λ more. failed_behind _ more TooLong refl))

pub returns-clause-fed : goal.returns-clause-fed
returns-clause-fed c =
    let state = subst IsOpen (sym c.self.view_is) c.requires.state in
    rw (c.in_ok-extend_from_slice.ensures.items, ← c.self.view_is)
    (λ rows. (
      refl,
      part_goes_on _ c.args.part.now state c.requires.part
          (omega (arith, length-append c.self.inside.held.items c.args.part.now, c.self.inside.held.ok.0)),
    ))
