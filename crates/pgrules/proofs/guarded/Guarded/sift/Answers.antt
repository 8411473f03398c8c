use Rattle.std.proofs.Common.{◌∙◌, ◌++◌, ap, sym, take, drop, List, ℕ}
use Rattle.pgrules.proofs.Guards.{behind_part, two_parts}
use Rattle.pgrules.proofs.Keeping.{none_handed, some_handed}
use Rattle.pgrules.proofs.guarded.Guarded.sift.Goals as goal

pub returns-clause-parts : goal.returns-clause-parts
returns-clause-parts g c =
    two_parts c.hear-safe.result c.args.len c.args.buf.now c.hear-safe.ensures.bound
    ∙ ap (λ (xs : List ℕ). take c.hear-safe.result c.args.buf.now ++ xs) (sym c.keep.ensures.kept)

pub returns-then-len-gt0-clause-all : goal.returns-then-len-gt0-clause-all
returns-then-len-gt0-clause-all g c =
    c.keep.ensures.kept ∙ behind_part c.hear-safe.result c.args.len c.args.buf.now c.hear-safe.ensures.bound
    ∙ ap (λ k. drop k (take c.args.len c.args.buf.now)) c.if-safe-eq0.true

pub returns-then-len-gt0-clause-failed : goal.returns-then-len-gt0-clause-failed
returns-then-len-gt0-clause-failed g c v limit max first given most k =
    rw (c.keep.ensures.watch.0, c.keep.ensures.watch.1)
    (none_handed g.L.FindingListener.hears v limit max first c.args.self.now.stops given c.hear-safe.new.self.watch
    c.hear-safe.new.self.listener c.args.buf.now _ c.hear-safe.result c.args.len c.hear-safe.ensures.bound c.keep.ensures.kept
    (c.hear-safe.ensures.guarded v limit max first given most k) c.if-safe-eq0.true)

pub returns-clause-handed : goal.returns-clause-handed
returns-clause-handed g c v limit max first given most k =
    rw (c.keep.ensures.watch.0, c.keep.ensures.watch.1)
    (some_handed g.L.FindingListener.hears v limit max first c.args.self.now.stops given c.hear-safe.new.self.watch
    c.hear-safe.new.self.listener c.args.buf.now _ c.hear-safe.result c.args.len c.hear-safe.ensures.bound c.keep.ensures.kept
    (c.hear-safe.ensures.guarded v limit max first given most k))
