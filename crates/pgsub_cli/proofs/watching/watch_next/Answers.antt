use Rattle.std.proofs.Common.{◌∙◌, ℕ, List, ap, subst}
use Rattle.std.specs.List.{flat_map}
use Rattle.std.proofs.lemmas.Result.{IfOk-weaker}
use Rattle.pgsub_cli.specs.Watched.{IsWatched}
use Rattle.pgsub_cli.proofs.watching.watch_next.Goals as goal

pub returns : goal.returns
returns c =
    let is = subst (λ bytes. IsWatched c.args.version bytes c.watch_session.result)
    (c.as_slice-bytes.ensures.value ∙ c.in_ok-bytes.ensures ∙ ap (flat_map (λ (piece : List ℕ). piece)) c.as_slice.ensures)
    c.watch_session.ensures.found in
    IfOk-weaker c.add_lines.result _ _ (λ well adds. (c.watch_session.result, is, adds)) c.add_lines.ensures
