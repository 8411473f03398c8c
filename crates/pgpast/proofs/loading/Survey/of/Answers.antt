use Rattle.std.proofs.Common.{◌<◌, ◌∙◌, ap, arith}
use Rattle.pgpast.specs.Loaded.{slots_of}
use Rattle.pgpast.specs.declared.loading.Survey.{Survey}
use Rattle.pgpast.proofs.Slots.{passed, stepped}
use Rattle.pgpast.proofs.loading.Survey.of.Goals as goal
use Rattle.pgpast.proofs.loading.Survey.of.Goals.{in-Some, in-None}

pub loop-slot-preserved : goal.loop-slot-preserved
loop-slot-preserved c =
    let bytes = c.args.bytes.now in
    let slot = c.loop-slot.slot in
    let i = c.loop-slot.invariant in
    let lt : slot < slots_of bytes = omega (arith, c.loop-slot-test.true, c.count_of-count.ensures.is) in
    elim c.match-record_at.branch [
      | in-Some w ↦
          let both =
          stepped bytes slot c.loop-slot.survey.newest c.match-record_at.survey.newest i.1 i.2 lt w.in-Some.record w.in-Some.ensures.fit
          w.in-Some.ensures.some
          (ap (λ (x : Survey). x.newest) w.survey-is ∙ w.see.ensures) in
          (omega (arith, lt), both.0, both.1)
      | in-None w ↦
          let both =
          passed bytes slot c.loop-slot.survey.newest c.match-record_at.survey.newest i.1 i.2 (c.record_at.ensures.none w.in-None.is)
          (ap (λ (x : Survey). x.newest) w.survey-is) in
          (omega (arith, lt), both.0, both.1)
    ]
