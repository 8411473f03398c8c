use Rattle.std.proofs.Common.{[], sym, subst, string_bytes, length, ◌<◌, List, ℕ}
use Rattle.std.proofs.lemmas.Result.{IfOk-weaker}
use Rattle.pgcrc.specs.Covering.{Covers}
use Rattle.pgfeed.specs.Cutting.Widths.{told_width}
use Rattle.pgfeed.proofs.Parted.{line_is}
use Rattle.pgfeed.proofs.draft.Draft.line.Goals as goal

pub commit_line-requires : goal.commit_line-requires
commit_line-requires c =
    let P : List ℕ → Type 0 = λ text. length text < 238 in
    subst P (sym c.in_ok-front.ensures.text) (told_width _ _ _ _ _ c.in_ok-front.ensures.fits)

pub returns : goal.returns
returns c = IfOk-weaker c.commit_line.result _ _ (λ text is told size messages ls body k.
    let front : List ℕ = string_bytes c.in_ok-front.front in
    let covers : Covers c.update.new.self front =
    subst (Covers c.update.new.self) c.as_bytes.ensures.value (c.update.ensures [] c.new-crc.ensures) in
    let sums = c.followed_by-crc.ensures front body covers (c.value.ensures body k.covers) (sym k.size_is) in
    line_is told size c.args.prev c.args.end c.args.about messages ls body front _ _ c.args.self.now k c.in_ok-front.ensures.text
    c.in_ok-front.ensures.fits sums is) c.commit_line.ensures
