use Rattle.std.proofs.Common.{subst, sym, ◌∙◌, ◌++◌}
use Rattle.pgload.specs.Inputs.{HasStopped}
use Rattle.pgload.proofs.Frames.{not_filled}
use Rattle.pgload.proofs.loading.Loading.fill.Goals as goal

pub returns-in-Err-clause-stops : goal.returns-in-Err-clause-stops
returns-in-Err-clause-stops g c bytes read =
    let s = g.C.ReplicaStore in
    subst (λ store. HasStopped s.holds s.place s.reopens s.serves s.is_honest c.args.self.now.load.limits.max_line
    c.args.self.now.deframer.max (bytes ++ c.args.piece.now) store
    c.refuse.new.self.table c.refuse.new.self.closed c.refuse.result) (sym c.refuse.ensures.store)
    (subst (λ fault. HasStopped s.holds s.place s.reopens s.serves s.is_honest c.args.self.now.load.limits.max_line
    c.args.self.now.deframer.max (bytes ++ c.args.piece.now)
    c.args.self.now.load.store c.refuse.new.self.table c.refuse.new.self.closed fault)
    (sym (c.refuse.ensures.fault ∙ c.from.ensures))
    (not_filled s.holds s.place s.reopens s.serves s.is_honest c.args.self.now.load.limits.max_line bytes c.args.self.now.deframer
    c.args.self.now.load.store c.args.self.now.load.table
    c.args.self.now.load.closed read
    c.feed.new.self c.args.piece.now c.in-Err.fault c.refuse.new.self.table c.refuse.new.self.closed c.in-Err.ensures.fed))
