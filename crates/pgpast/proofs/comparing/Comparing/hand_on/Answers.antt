use Rattle.std.proofs.Common.{◌∙◌, ◌≤◌, ap, arith, subst, take, length, List, ℕ}
use Rattle.pgpast.proofs.Handings.{ahead_is, behind_is, kept_is}
use Rattle.pgpast.proofs.comparing.Comparing.hand_on.Goals as goal

pub returns-clause-kept : goal.returns-clause-kept
returns-clause-kept g c =
    kept_is c.args.self.now.room.items c.copy_from_slice.new.self _ c.args.self.now.from c.args.self.now.safe c.args.self.now.len
    c.min-count.result
    (subst (λ (xs : List ℕ). c.min-count.result ≤ length xs) c.kept-kept.ensures (omega (arith, c.min.ensures, c.min-count.ensures)))
    (omega (arith, c.saturating_sub.ensures, c.min.ensures, c.min-count.ensures))
    (c.copy_from_slice.ensures.after ∙ ap (λ (xs : List ℕ). take c.min-count.result xs) c.kept-kept.ensures)

pub returns-clause-ahead : goal.returns-clause-ahead
returns-clause-ahead g c =
    ahead_is c.args.self.now.room.items c.copy_from_slice.new.self _ c.args.self.now.from c.args.self.now.safe c.args.self.now.len
    c.min-count.result
    (subst (λ (xs : List ℕ). c.min-count.result ≤ length xs) c.kept-kept.ensures (omega (arith, c.min.ensures, c.min-count.ensures)))
    (omega (arith, c.saturating_sub.ensures, c.min.ensures, c.min-count.ensures))
    (c.copy_from_slice.ensures.after ∙ ap (λ (xs : List ℕ). take c.min-count.result xs) c.kept-kept.ensures)

pub returns-clause-behind : goal.returns-clause-behind
returns-clause-behind g c =
    behind_is c.args.self.now.room.items c.copy_from_slice.new.self c.args.buf.now c.args.self.now.from c.args.self.now.safe
    c.args.self.now.len c.min-count.result
    (subst (λ (xs : List ℕ). c.min-count.result ≤ length xs) c.kept-kept.ensures (omega (arith, c.min.ensures, c.min-count.ensures)))
    (omega (arith, c.saturating_sub.ensures, c.min.ensures, c.min-count.ensures))
    (c.copy_from_slice.ensures.after ∙ ap (λ (xs : List ℕ). take c.min-count.result xs) c.kept-kept.ensures)
