use Rattle.std.proofs.Common.{◌≡◌, ◌++◌, ◌∙◌, ap}
use Rattle.std.specs.Int.{to_le_bytes, w32}
use Rattle.pgcrc.specs.Crc.{crc32}
use Rattle.pgrepeats.specs.Digests.{block}
use Rattle.pgrepeats.proofs.digest.Digest.add.Goals as goal

pub returns : goal.returns
returns c =
    let crc : c.crc_of-self.result ≡ crc32 (block c.args.self.now.crc c.args.change) =
    c.crc_of-self.ensures
    ∙ ap (λ xs. crc32 (xs ++ c.to_le_bytes-crc.result ++ c.to_le_bytes-len.result)) c.to_le_bytes-before.ensures
    ∙ ap (λ xs. crc32 (to_le_bytes w32 c.args.self.now.crc ++ xs ++ c.to_le_bytes-len.result)) c.to_le_bytes-crc.ensures
    ∙ ap (λ xs. crc32 (to_le_bytes w32 c.args.self.now.crc ++ to_le_bytes w32 c.args.change.crc ++ xs)) c.to_le_bytes-len.ensures in
    λ i. record { changes = c.saturating_add-self.ensures i; crc = crc i }
