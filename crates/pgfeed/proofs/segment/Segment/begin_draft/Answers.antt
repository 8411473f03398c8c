use Rattle.std.proofs.Common.{◌≡◌, ◌+◌, ap, subst, refl, arith, string_bytes, length}
use Rattle.pgfeed.specs.declared.segment.Segment.{Segment}
use Rattle.sqlite_disk.specs.Disk.{Holds}
use Rattle.pgfeed.proofs.segment.Segment.begin_draft.Goals as goal

pub returns-clause-begun : goal.returns-clause-begun
returns-clause-begun g c =
    let text = string_bytes c.in_ok-draft.text in
    let same = c.put_text.ensures.same in
    let size : c.put_text.new.self.size ≡ c.drop_draft.new.self.size = ap (λ (s : Segment g.row.D.Denot). s.size) same in
    let place : c.in-Some.at ≡ c.put_text.new.self.size + 256 = omega (arith, size, c.in-Some.ensures) in
    record {
      draft = c.in_ok-draft.draft;
      body = text;
      there = refl;
      is_draft = c.in_ok-draft.ensures c.put_text.new.self.told.items c.put_text.new.self.size;
      holds = λ some. subst (λ at. Holds (g.D.Disk.seen c.put_text.new.self.disk) at text) place
          (subst (Holds (g.D.Disk.seen c.put_text.new.self.disk) c.in-Some.at) c.as_str.ensures.value
          (c.in_ok-put_text.ensures.written (omega (arith, some, ap length c.as_str.ensures.value))));
    }
