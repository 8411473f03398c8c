use Rattle.std.proofs.Common.{◌∙◌}
use Rattle.pglogical.specs.Spelling.{int32}
use Rattle.pglogical.proofs.Appended.{one_appended, all_appended, Keeps-trans, Keeps-appended}
use Rattle.pgtuple.proofs.Appending.{on_err}
use Rattle.pglogical.proofs.encoding.put_oids.Goals as goal

pub loop-oid-preserved : goal.loop-oid-preserved
loop-oid-preserved c = record {
  joined = one_appended int32 c.loop-oid.out.items c.put_u32.new.out.items c.loop-oid.oid-iterator c.in-Some.oid c.next.new.self
      c.in-Some.ensures.steps c.in_ok-put_u32.ensures.ok ∙ c.loop-oid.invariant.joined;
  kept = Keeps-appended _ _ _ _ c.loop-oid.invariant.kept c.in_ok-put_u32.ensures.ok;
}

pub returns-clause-ok : goal.returns-clause-ok
returns-clause-ok c = all_appended int32 c.loop-oid.out.items c.loop-oid.oid-iterator c.in-None.ensures.steps.0
    ∙ c.loop-oid.invariant.joined

pub returns-in_err-put_u32-clause-err : goal.returns-in_err-put_u32-clause-err
returns-in_err-put_u32-clause-err c =
    on_err c.from_residual.result (Keeps-trans _ _ _ c.loop-oid.invariant.kept c.in_err-put_u32.ensures.err)
