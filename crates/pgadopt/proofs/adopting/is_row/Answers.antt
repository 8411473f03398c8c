use Rattle.std.proofs.Common.{◌≡◌, ◌≤◌, Ok, length, sym, ap, ◌∙◌, arith}
use Rattle.std.specs.Prelude.{if◌then◌else◌}
use Rattle.pgrel.specs.Identity.{keyed, checked_insert}
use Rattle.pgapply.specs.Value.{identity_key, most_copies}
use Rattle.std.specs.Cmp.{unsigned_Decides}
use Rattle.std.specs.Cmp.Lexicographic.{pointwise_decides}
use Rattle.pgadopt.proofs.Adopted.{row_stands, passed, within}
use Rattle.pgadopt.proofs.adopting.is_row.Goals as goal
use Rattle.pgadopt.proofs.adopting.is_row.Goals.{then-keyed, else-keyed}

pub returns : goal.returns
returns c = record {
  row = λ same.
      let found = c.in-Ok.ensures.found in
      let whole : c.in-Ok.len ≡ length c.args.body.now = c.if-len-body.false in
      let checked : checked_insert c.args.def.now c.in-Ok.row ≡ Ok tt =
      sym c.check_insert.ensures ∙ passed c.check_insert.result c.if-is_err.ensures.negation in
      let some : 1 ≤ c.args.copies = omega arith in
      let most : c.if-keyed.most ≡ (if keyed c.args.def.now then 1 else most_copies) = elim c.if-keyed.branch [
        | then-keyed w ↦ w.most-is ∙ ap (λ b. if b then 1 else most_copies) w.if-keyed.ensures
        | else-keyed w ↦ w.most-is ∙ ap (λ b. if b then 1 else most_copies) w.if-keyed.ensures
      ] in
      let few = within (keyed c.args.def.now) c.args.copies c.if-keyed.most c.if-copies-most.false most in
      let equal = (pointwise_decides unsigned_Decides c.as_slice.result.now c.args.ident.now).0 (sym c.eq.ensures ∙ same) in
      let known : c.args.ident.now ≡ identity_key c.args.def.now c.in-Ok.row =
      sym equal ∙ c.as_slice.ensures ∙ c.in_ok-encode_identity.ensures.ok in
      row_stands c.args.def.now c.args.ident.now c.args.body.now c.args.copies c.in-Ok.row c.in-Ok.len c.in-Ok.ensures.exact found.0 found.1
      whole checked some few known;
}
