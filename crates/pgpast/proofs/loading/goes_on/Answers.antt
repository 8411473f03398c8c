use Rattle.std.proofs.Common.{◌∙◌, ◌-◌, ap, sym, length, List}
use Rattle.std.specs.Option.{option_copied}
use Rattle.std.specs.Prelude.{slice_get}
use Rattle.pgpast.specs.declared.record.Record.{Record}
use Rattle.pgpast.proofs.Chains.{follows_last, may_follow}
use Rattle.pgpast.proofs.loading.goes_on.Goals as goal

pub returns-in-Some : goal.returns-in-Some
returns-in-Some c =
    let last = ap option_copied (sym c.in-Some.is) ∙ c.last.ensures.value
    ∙ ap (λ (rs : List Record). slice_get rs (length rs - 1)) c.deref.ensures.value in (
      λ is. may_follow c.args.chain.now.items c.in-Some.last.now c.args.older.now last (c.follows.ensures.0 is),
      λ may. c.follows.ensures.1 (follows_last c.args.chain.now.items c.in-Some.last.now c.args.older.now last may),
    )
