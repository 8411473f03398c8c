use Rattle.std.proofs.Common.{◌<◌, ◌^◌, List, ℕ, length, arith, subst}
use Rattle.pgtuple.specs.Limits.{IsBytes}
use Rattle.pgspool.proofs.EncodedLemmas.{readable}
use Rattle.pgfilespools.proofs.stored.can_be_read.Goals as goal

pub returns : goal.returns
returns c =
    let fits : IsBytes c.args.spelled.now = λ i. omega (arith, c.type_inv.spelled i) in record {
      label = omega arith;
      size = subst (λ (b : List ℕ). length b < 2 ^ 32) c.requires.spelled c.requires.size;
      readable = readable c.args.item.now (subst IsBytes c.requires.spelled fits) (c.fits_wire.ensures c.requires.spellable);
    }
