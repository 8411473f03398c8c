use Rattle.std.proofs.Common.{◌≡◌, ◌++◌, length, string_bytes, arith, ap, ◌∙◌, length-append, rules}
use Rattle.pgfeed.specs.Cutting.Widths.{crc_width}
use Rattle.pgfeed.specs.Texts.{crc_text}
use Rattle.pgfeed.proofs.heads.commit_line.Goals as goal

pub padded-requires : goal.padded-requires
padded-requires c =
    let whole : string_bytes c.push_str.new.self ≡ string_bytes c.args.told ++ c.as_str.result.now = c.in_ok-push_str.ensures.bytes in
    let is : c.as_str.result.now ≡ crc_text c.args.crc = c.as_str.ensures.value ∙ c.in_ok-crc.ensures in
    omega (
      arith,
      ap length whole,
      length-append (string_bytes c.args.told) c.as_str.result.now,
      ap length is,
      crc_width c.args.crc (search rules),
      c.requires,
    )
