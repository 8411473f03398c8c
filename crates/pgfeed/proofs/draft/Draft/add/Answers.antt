use Rattle.std.proofs.Common.{◌≡◌, ◌∙◌, ◌+◌, ◌++◌, List, ℕ, ap, subst, arith, string_bytes}
use Rattle.std.proofs.Common.{length, min}
use Rattle.pgapply.specs.Works.{change_values}
use Rattle.pgledger.specs.Images.{Line, lines}
use Rattle.pgfeed.specs.Texts.{body_text, told_after}
use Rattle.pgcrc.specs.Covering.{Covers}
use Rattle.pgfeed.proofs.Bodies.{counted}
use Rattle.pgfeed.proofs.Parted.{adds_lines, part_text, part_told}
use Rattle.pgfeed.proofs.draft.Draft.add.Goals as goal

pub returns : goal.returns
returns c messages ls body k =
    let text : List ℕ = string_bytes c.in_ok-text.field-0.text in
    let defs = c.definitions-definitions.ensures.definitions in
    let images = c.args.images.now in
    let made : change_values c.definitions-definitions.result.now c.entries-entries.result ≡ c.args.part.now.changes =
    ap (λ them. change_values them c.entries-entries.result) defs ∙ c.entries-entries.ensures.changes in
    let all : List Line = lines c.args.part.now.changes images in
    let same : lines (change_values c.definitions-definitions.result.now c.entries-entries.result) images ≡ all =
    ap (λ them. lines them images) made in
    let start : c.in-Some.start ≡ c.args.size + 256 + c.args.self.size = c.in-Some.ensures in
    let is : text ≡ body_text (c.args.told.now ++ c.args.self.told.items) (c.args.size + 256 + c.args.self.size) c.args.self.count all =
    part_text text _ _ _ _ _ all c.new.ensures.bytes same c.in_ok-text.ensures.text
    ∙ ap (λ at. body_text (c.args.told.now ++ c.args.self.told.items) at c.args.self.count all) start in
    let tells = part_told _ _ _ _ _ _ all c.new.ensures.bytes same c.in_ok-text.ensures.told
    ∙ ap (λ at. told_after (c.args.told.now ++ c.args.self.told.items) at c.args.self.count all) start in
    let bytes = c.as_bytes.ensures.value in
    let long : c.in-Some-checked_add-2.size ≡ c.args.self.size + length text =
    omega (arith, c.in-Some-checked_add-2.ensures, c.len-2.ensures, c.as_bytes.ensures.len, ap length bytes) in
    let added : c.min-added.result ≡ min (length c.entries-entries.result) (length images) = rw c.len.ensures at c.min-added.ensures in
    let count : c.min-added.result ≡ length all =
    counted c.min-added.result _ c.entries-entries.result c.args.part.now.changes images c.entries-entries.ensures.changes
    c.entries-entries.ensures.numbered added in
    let many : c.in-Some-checked_add.count ≡ c.args.self.count + length all = omega (arith, c.in-Some-checked_add.ensures, count) in
    let covers : Covers c.update.new.self (body ++ text) =
    subst (λ xs. Covers c.update.new.self (body ++ xs)) bytes (c.update.ensures body k.covers) in
    adds_lines c.args.told.now c.args.size messages ls all body text c.args.self _ k is tells long many covers
