use Rattle.std.proofs.Common.{◌∙◌, ap}
use Rattle.pgapply.specs.Works.{change_values}
use Rattle.pgledger.specs.Images.{images}
use Rattle.pgchanging.specs.Looks.{begun_telling, told_more}
use Rattle.pgchanging.proofs.ToldImages.{told_adds}
use Rattle.pgstore.proofs.Parted.{takes_part}
use Rattle.pgstore.proofs.parting.take_part.Goals as goal

pub returns-clause-made : goal.returns-clause-made
returns-clause-made g c clean still =
    let p = g.P.Parts in
    let parts = c.args.parts.now in
    let definitions = c.definitions.result.now in
    let entries = c.entries.result in
    takes_part g.S.Store c.args.rows.now c.take_changes.new.rows definitions entries (p.is_honest parts) (p.here parts) c.args.end
    c.args.misses.now c.take_changes.new.misses
    (λ honest. ap (λ ds. change_values ds entries) c.definitions.ensures.definitions ∙ c.entries.ensures.changes
    ∙ c.in_ok-work.ensures.changes honest)
    (c.in_ok-take_changes.ensures.made.made clean still) (c.in_ok-take_changes.ensures.counts clean still)

pub returns-clause-told : goal.returns-clause-told
returns-clause-told g c clean still honest asks v h =
    let l = g.L.Ledger in
    let definitions = c.definitions.result.now in
    let entries = c.entries.result in
    let is = c.in_ok-work.ensures.changes honest in
    let told = c.in_ok-take_changes.ensures.told clean still v h
    ∙ ap (λ t. told_more t (images v (change_values definitions entries))) c.new-telling.ensures
    ∙ ap (λ cs. told_more (begun_telling c.wants.result) (images v cs))
    (ap (λ ds. change_values ds entries) c.definitions.ensures.definitions ∙ c.entries.ensures.changes ∙ is) in
    told_adds l.drafts l.is_wanting c.args.ledger.now c.append_part.new.self c.wants.result c.wants.ensures c.take_changes.new.telling v
    c.images.result.now _ (g.P.Parts.here c.args.parts.now) is asks told c.images.ensures c.in_ok-append_part.ensures.added

pub returns-clause-drafted : goal.returns-clause-drafted
returns-clause-drafted g c has = (_, c.in_ok-append_part.ensures.added has.0 has.1)
