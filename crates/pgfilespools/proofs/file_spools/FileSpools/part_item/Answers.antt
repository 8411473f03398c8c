use Rattle.std.proofs.Common.{◌≡◌, ◌+◌, ◌∙◌, sym, ap, length, Some}
use Rattle.pgfilespools.specs.Spooled.{FileSpooled}
use Rattle.pgfilespools.proofs.Spooling.{part_there}
use Rattle.pgfilespools.proofs.file_spools.FileSpools.part_item.Goals as goal

pub returns-clause-others : goal.returns-clause-others
returns-clause-others g c none =
    let p = c.in_ok-loaded.field-0.now in
    let there : c.args.self.now.part ≡ Some p = ap (λ (v : FileSpooled). v.part) (sym c.self.view_is) ∙ sym c.in_ok-loaded.ensures.value in
    absurd (none p.1.0 (length p.1.1 + p.1.0) (part_there c.args.self.now p c.args.xid there c.if-loaded-xid.false))
