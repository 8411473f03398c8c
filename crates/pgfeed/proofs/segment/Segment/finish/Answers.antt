use Rattle.std.proofs.Common.{◌≡◌, ℕ, List, length, subst, sym, ◌∙◌, arith}
use Rattle.std.proofs.lemmas.Result.{on_ok_weaker}
use Rattle.sqlite_disk.specs.Disk.{Only, Torn}
use Rattle.pgfeed.specs.Texts.{closing_line}
use Rattle.pgfeed.proofs.Calls.{finished}
use Rattle.pgfeed.proofs.segment.Segment.finish.Goals as goal

pub returns-clause-finished : goal.returns-clause-finished
returns-clause-finished g c =
    let wrote = c.in-Ok-write_at.ensures in
    let synced = c.sync_file.ensures in
    on_ok_weaker c.sync_file.result (λ durable clean es kept.
    let was_clean = wrote.clean (synced.clean clean) in
    let line : List ℕ = c.as_bytes.result.now in
    let is : line ≡ closing_line c.args.self.now.last = c.as_bytes.ensures.value ∙ c.in_ok-line.ensures in
    let long : length (g.D.Disk.seen c.args.self.now.disk) ≡ c.args.self.now.size = omega (arith, c.in-Ok.ensures.len was_clean) in
    let torn : Torn c.args.self.now.size (length line) (g.D.Disk.seen c.args.self.now.disk) (g.D.Disk.seen c.sync_file.new.disk) =
    subst (λ file. Torn c.args.self.now.size (length line) file (g.D.Disk.seen c.sync_file.new.disk)) c.in-Ok.ensures.seen
    (subst (λ file. Torn c.args.self.now.size (length line) (g.D.Disk.seen c.len.new.self) file) (sym synced.seen) wrote.others) in
    let only : Only (g.D.Disk.seen c.sync_file.new.disk) (g.D.Disk.may_leave c.sync_file.new.disk) =
    subst (λ file. Only file (g.D.Disk.may_leave c.sync_file.new.disk)) (sym synced.seen) durable in
    finished _ _ _ _ _ _ line (g.D.Disk.may_leave c.sync_file.new.disk) es kept long is torn (rw synced.seen wrote.written) only)
    synced.durable
