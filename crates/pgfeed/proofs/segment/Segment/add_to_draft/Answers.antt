use Rattle.std.proofs.Common.{◌≡◌, ◌+◌, ap, ◌∙◌, sym, subst, refl, arith}
use Rattle.std.proofs.Common.{string_bytes, length, Some}
use Rattle.pgledger.specs.Images.{lines}
use Rattle.pgfeed.specs.declared.segment.Segment.{Segment}
use Rattle.sqlite_disk.specs.Disk.{Holds, Torn}
use Rattle.pgfeed.proofs.DraftFiles.{has_more}
use Rattle.pgfeed.proofs.segment.Segment.add_to_draft.Goals as goal

pub returns-clause-added : goal.returns-clause-added
returns-clause-added g c messages ls k =
    let seen = g.D.Disk.seen in
    let old = c.args.self.now in
    let text = string_bytes c.in_ok-draft.text in
    let own : Some k.draft ≡ Some c.in-Some.draft = sym k.there ∙ sym c.take.ensures.value ∙ c.in-Some.is in
    let is : k.draft ≡ c.in-Some.draft = cc in
    let same = c.put_text.ensures.same in
    let place : c.in-Some-start.at ≡ old.size + 256 + c.in-Some.draft.size = c.in-Some-start.ensures in
    let adds = rw c.as_slice-told.ensures.value at c.in_ok-draft.ensures in
    has_more seen old _ messages ls (lines c.args.part.now.changes c.args.images.now) text c.in-Some.draft c.in_ok-draft.draft k is
    (ap (λ (s : Segment g.row.D.Denot). s.size) same) (ap (λ (s : Segment g.row.D.Denot). s.told.items) same) refl
    (λ held. adds messages ls k.body held)
    (subst (λ at. Torn at (length text) (seen old.disk) (seen c.put_text.new.self.disk)) place
    (subst (λ xs. Torn c.in-Some-start.at (length xs) (seen old.disk) (seen c.put_text.new.self.disk)) c.as_str.ensures.value
    c.put_text.ensures.torn))
    (λ some. subst (λ at. Holds (seen c.put_text.new.self.disk) at text) place
    (subst (Holds (seen c.put_text.new.self.disk) c.in-Some-start.at) c.as_str.ensures.value
    (c.in_ok-put_text.ensures.written (omega (arith, some, ap length c.as_str.ensures.value)))))
