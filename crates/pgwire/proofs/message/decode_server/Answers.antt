use Rattle.std.proofs.Common.{arith}
use Rattle.pgwire.proofs.Messages.{found, only, first, refused}
use Rattle.pgwire.proofs.message.decode_server.Goals as goal

pub returns : goal.returns
returns c =
    let bytes = c.args.bytes.now in
    record {
      gives = c.read.ensures;
      found = found bytes c.read.result (λ i. omega (arith, c.type_inv.bytes i)) c.read.ensures;
      only = only bytes c.read.result c.read.ensures;
      first = first bytes c.read.result (λ i. omega (arith, c.type_inv.bytes i)) c.read.ensures;
      refused = refused bytes c.read.result c.read.ensures;
    }
