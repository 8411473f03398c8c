use Rattle.std.proofs.Common.{sym, refl, subst, [], List, ℕ}
use Rattle.pgpast.specs.Handing.{IsHanded}
use Rattle.pgpast.proofs.Handings.{begins, part_empty}
use Rattle.pgpast.proofs.comparing.Comparing.new.Goals as goal

pub returns-clause-handed : goal.returns-clause-handed
returns-clause-handed g c v limit max past reached is =
    let holds = g.F.NotesFile.holds in
    let hears = g.L.RepeatListener.hears in
    let loses = g.L.RepeatListener.loses in
    subst (λ (behind : List ℕ). IsHanded holds hears loses v limit max past reached
    (c.args.notes, c.args.listener) c.args.stops [] [] behind c.args.compared (c.args.notes, c.args.listener))
    (sym (part_empty c.in_ok-room.room.items)) (begins holds hears loses v limit max past reached
    (c.args.notes, c.args.listener) c.args.stops [] c.args.compared is refl)
