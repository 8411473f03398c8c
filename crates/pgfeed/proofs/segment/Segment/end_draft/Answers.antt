use Rattle.std.proofs.Common.{◌≡◌, ◌<◌, ◌++◌, ap, ◌∙◌, sym, subst, refl, rules, arith}
use Rattle.std.proofs.Common.{string_bytes, length, Some}
use Rattle.pgfeed.specs.declared.segment.Segment.{Segment}
use Rattle.pgfeed.specs.Next.{Remembers}
use Rattle.sqlite_disk.specs.Disk.{Holds, Torn}
use Rattle.pgfeed.proofs.DraftFiles.{adds_draft}
use Rattle.pgfeed.proofs.segment.Segment.end_draft.Goals as goal

pub returns-clause-adds : goal.returns-clause-adds
returns-clause-adds g c messages ls k =
    let seen = g.D.Disk.seen in
    let old = c.args.self.now in
    let line = string_bytes c.in_ok-line.line in
    let own : Some k.draft ≡ Some c.in-Some.draft = sym k.there ∙ sym c.take.ensures.value ∙ c.in-Some.is in
    let is : k.draft ≡ c.in-Some.draft = cc in
    let same = c.put_text.ensures.same in
    let above : old.last < c.args.end = search rules in
    let told = ap (λ (s : Segment g.row.D.Denot). s.told.items) same in
    adds_draft seen old _ c.args.end c.args.about messages ls line c.in-Some.draft k is above
    (λ held. c.in_ok-line.ensures old.told.items old.size messages ls k.body held)
    (λ some. subst (Holds (seen c.put_text.new.self.disk) old.size) c.as_str.ensures.value
    (c.in_ok-put_text.ensures.written (omega (arith, some, ap length c.as_str.ensures.value))))
    (subst (λ xs. Torn old.size (length xs) (seen old.disk) (seen c.put_text.new.self.disk)) c.as_str.ensures.value c.put_text.ensures.torn)
    c.in-Some-start.ensures refl
    (subst (λ ts. Remembers (ts ++ c.in-Some.draft.told.items) c.remember.new.told.items) told c.in_ok-remember.ensures.remembered)
