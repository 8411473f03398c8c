use Rattle.std.proofs.Common.{ap, sym, ◌∙◌, length}
use Rattle.pglogical.specs.Forms.{oids_of}
use Rattle.pglogical.proofs.Oids.{length-oids}
use Rattle.pglogical.proofs.oid_refs.OidRefs.len.Goals as goal

pub returns-in-Spelled : goal.returns-in-Spelled
returns-in-Spelled c = sym (length-oids c.in-Spelled.bytes.now) ∙ ap (λ o. length (oids_of o)) (sym c.in-Spelled.is)
    ∙ ap length c.self.view_is
