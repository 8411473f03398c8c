use Rattle.std.proofs.Common.{◌+◌, ◌-◌, arith, drop, sym, subst}
use Rattle.std.proofs.lemmas.List.{length-take, length-drop, length-append}
use Rattle.pgwire.proofs.Headers.{IsBytes, IsBytes-append, IsBytes-take, IsBytes-drop}
use Rattle.pgwire.proofs.header.Header.with_some.Goals as goal

pub invariant_of-result : goal.invariant_of-result
invariant_of-result c =
    let old = c.args.self.bytes in
    let old_fits : IsBytes old = c.args.self.bytes_fit in
    let piece_fits : IsBytes c.args.piece.now = λ i. omega (arith, c.type_inv.piece i) in
    let new_fits : IsBytes c.copy_from_slice.new.self = subst IsBytes (sym c.copy_from_slice.ensures.after) (IsBytes-take _ _ piece_fits) in
    record {
      within = omega arith;
      five = grind (arith, length-append, length-take, length-drop);
      bytes_fit = let a = c.args.self.len in let n = c.min-count.result in
          IsBytes-append _ _ (IsBytes-take _ _ old_fits)
          (IsBytes-append _ _ new_fits (IsBytes-drop (a + n - a) (drop a old) (IsBytes-drop a old old_fits)));
    }
