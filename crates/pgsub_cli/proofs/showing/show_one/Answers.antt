use Rattle.std.proofs.Common.{List, ℕ, subst}
use Rattle.std.specs.List.{flat_map}
use Rattle.pgtuple.specs.declared.bytes.Bytes.{Bytes}
use Rattle.pgshow.specs.Shown.{IsShownAs, fault_in}
use Rattle.pgsub_cli.specs.Limits.{longest_payload}
use Rattle.pgsub_cli.proofs.ShownLines.{is_stopped, is_whole}
use Rattle.pgsub_cli.proofs.showing.show_one.Goals as goal

pub returns-in-Ok : goal.returns-in-Ok
returns-in-Ok c =
    let s = c.show_session.ensures in
    let shown = subst (λ (pieces : List Bytes).
    IsShownAs c.args.version longest_payload (flat_map (λ (piece : List ℕ). piece) pieces) s.0 (fault_in c.show_session.result))
    c.as_slice.ensures s.2 in
    (s.0, s.1, is_whole c.args.version _ s.0 c.show_session.result c.in-Ok.field-0 c.in-Ok.is shown)

pub returns-in-Err : goal.returns-in-Err
returns-in-Err c =
    let s = c.show_session.ensures in
    let shown = subst (λ (pieces : List Bytes).
    IsShownAs c.args.version longest_payload (flat_map (λ (piece : List ℕ). piece) pieces) s.0 (fault_in c.show_session.result))
    c.as_slice.ensures s.2 in
    (s.0, s.1, is_stopped c.args.version _ s.0 c.show_session.result c.in-Err.fault c.fault_of.result c.in-Err.is c.fault_of.ensures shown)
