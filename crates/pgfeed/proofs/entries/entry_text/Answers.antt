use Rattle.std.proofs.Common.{◌≡◌, ◌<◌, ◌+◌, ◌++◌, ℕ, List, length}
use Rattle.std.proofs.Common.{string_bytes, arith, ap, sym, ◌∙◌}
use Rattle.std.proofs.Common.{subst}
use Rattle.pgledger.specs.Images.{lines}
use Rattle.pgapply.specs.Works.{change_values}
use Rattle.pgcrc.specs.Crc.{crc32}
use Rattle.pgfeed.specs.Cutting.Widths.{told_width}
use Rattle.pgfeed.specs.Texts.{body_text, commit_told, crc_text, messages_text, padded, told_after}
use Rattle.pgfeed.proofs.Bodies.{entry_fits, entry_is, told_of}
use Rattle.pgfeed.proofs.entries.entry_text.Goals as goal

pub commit_line-requires : goal.commit_line-requires
commit_line-requires c =
    let P : List ℕ → Type 0 = λ text. length text < 238 in
    subst P (sym c.in_ok-front.ensures.text) (told_width _ _ _ _ _ c.in_ok-front.ensures.fits)

pub returns : goal.returns
returns c =
    let own : List ℕ = string_bytes c.in_ok-body.body.text in
    let front : List ℕ = string_bytes c.in_ok-front.front in
    let start : c.in-Some.start ≡ c.args.size + 256 = omega arith in
    let tells : front ≡ commit_told c.args.commit.now.end c.args.prev (length c.as_str-lines.result.now) c.min-count.result
    c.args.commit.now.about = c.in_ok-front.ensures.text in
    let sums : c.crc_of-crc.result ≡ crc32 (front ++ own) =
    c.crc_of-crc.ensures ∙ ap (λ xs. crc32 (xs ++ c.as_str-lines.result.now)) c.as_str.ensures.value
    ∙ ap (λ xs. crc32 (front ++ xs)) c.as_str-lines.ensures.value in
    let head : string_bytes c.in_ok-text.text ≡ padded 256 (front ++ crc_text c.crc_of-crc.result) = c.in_ok-text.ensures in
    let whole : string_bytes c.push_str.new.self ≡ string_bytes c.in_ok-text.text ++ c.as_str-lines.result.now =
    c.in_ok-push_str.ensures.bytes in
    let defs = c.args.commit.now.work.now.definitions in
    let them = lines (change_values defs c.entries-entries.result) c.args.images.now in
    let heard : List ℕ = messages_text c.args.messages.now in
    let body : own ≡ heard ++ body_text c.args.told.now (c.args.size + 256 + length heard) 0 them =
    (rw c.definitions-definitions.ensures.definitions at c.in_ok-body.ensures.text)
    ∙ ap (λ k. heard ++ body_text c.args.told.now (k + length heard) 0 them) start in
    let told : c.args.told.now ++ c.in_ok-body.body.told.items
    ≡ told_after c.args.told.now (c.args.size + 256 + length heard) 0 them =
    (rw c.definitions-definitions.ensures.definitions at c.in_ok-body.ensures.told)
    ∙ ap (λ k. told_after c.args.told.now (k + length heard) 0 them) start in
    let many = rw c.len.ensures at c.min-count.ensures in
    let made = c.entries-entries.ensures.changes in
    let numbered = c.entries-entries.ensures.numbered in
    record {
      text = entry_is _ _ front own _ _ _ _ _ _ _ c.args.messages.now defs c.entries-entries.result _ _ made numbered body many
          (rw c.as_str-lines.ensures.value at tells) sums head (rw c.as_str-lines.ensures.value at whole);
      told = told_of _ _ _ defs c.entries-entries.result _ _ made told;
      fits = entry_fits own _ _ _ _ _ _ _ c.args.messages.now defs c.entries-entries.result _ _ made numbered body many
          (ap length c.as_str-lines.ensures.value) c.in_ok-front.ensures.fits;
    }
