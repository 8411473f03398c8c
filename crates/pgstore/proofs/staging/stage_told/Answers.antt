use Rattle.std.proofs.Common.{inl, inr, refl, ap, ◌∙◌}
use Rattle.pgapply.specs.Works.{change_values}
use Rattle.pgledger.specs.Images.{images}
use Rattle.pgledger.specs.Entries.{entry_of, messages_of}
use Rattle.pgledger.proofs.Calls.{rests_same}
use Rattle.pgchanging.specs.Looks.{begun_telling, told_more}
use Rattle.pgchanging.proofs.ToldImages.{told_appends}
use Rattle.pgstore.proofs.staging.stage_told.Goals as goal

pub returns-in-Ok-clause-told : goal.returns-in-Ok-clause-told
returns-in-Ok-clause-told g c clean v h =
    let l = g.L.Ledger in
    let changes = c.args.commit.now.work.now.changes in
    let told = c.in_ok-stage_all.ensures.told clean v h
    ∙ ap (λ t. told_more t (images v (change_values c.args.definitions.now c.args.changes.now))) c.new-telling.ensures
    ∙ ap (λ cs. told_more (begun_telling c.wants.result) (images v cs)) c.requires.are in
    told_appends l.keeps l.is_wanting g.met.L.Ledger.unasked c.args.ledger.now c.append.new.self c.append.ensures.rests.wanting_is
    c.args.commit.now.end c.args.commit.now.about (messages_of (l.heard c.args.ledger.now)) changes
    c.wants.result c.wants.ensures c.stage_all.new.telling c.images.result.now (images v changes) told c.images.ensures
    c.in-Ok.ensures.appended

pub returns-in-Ok-clause-at_most : goal.returns-in-Ok-clause-at_most
returns-in-Ok-clause-at_most g c es kept =
    inr (
      entry_of c.args.commit.now.end c.args.commit.now.about (messages_of (g.L.Ledger.heard c.args.ledger.now))
          c.args.commit.now.work.now.changes c.images.result.now,
      refl,
      c.in-Ok.ensures.appended es kept,
    )

pub returns-in_err-stage_all-clause-at_most : goal.returns-in_err-stage_all-clause-at_most
returns-in_err-stage_all-clause-at_most g c es kept = inl kept

pub returns-in_err-stage_all-clause-rests : goal.returns-in_err-stage_all-clause-rests
returns-in_err-stage_all-clause-rests g c =
    let l = g.L.Ledger in
    rests_same l.begins l.is_wanting l.is_hearing l.outlasts l.reopens c.args.ledger.now
