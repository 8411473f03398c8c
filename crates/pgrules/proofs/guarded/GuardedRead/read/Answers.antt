use Rattle.std.proofs.Common.{[], subst, List, ℕ}
use Rattle.pgrules.specs.Guarding.{IsGuarded}
use Rattle.pgrules.proofs.Keeping.{none_kept, reads_between, reads_from}
use Rattle.pgrules.proofs.guarded.GuardedRead.read.Goals as goal

pub returns-then-self-clause-bytes : goal.returns-then-self-clause-bytes
returns-then-self-clause-bytes g c =
    reads_between c.args.self.now.kept c.args.self.now.room.items _ _ _ _ c.if-self-gt0.false c.read.ensures.bytes

pub returns-clause-bytes : goal.returns-clause-bytes
returns-clause-bytes g c =
    reads_from c.args.self.now.kept c.args.self.now.room.items _ _ _ _ c.if-self-gt0.false c.read_watched.ensures.bytes

pub returns-clause-failed : goal.returns-clause-failed
returns-clause-failed g c v limit max first given most k =
    c.read_watched.ensures.failed v limit max first given most
    (subst (λ (xs : List ℕ). IsGuarded g.L.FindingListener.hears v limit max first c.args.self.now.stops given [] xs c.args.self.now.watch
    c.args.self.now.listener)
    (none_kept c.args.self.now.kept c.args.self.now.room.items c.if-self-gt0.false) k)
