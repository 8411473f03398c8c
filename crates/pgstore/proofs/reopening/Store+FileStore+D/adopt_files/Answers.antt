use Rattle.std.proofs.Common.{arith}
use Rattle.sqlite.specs.Held.{state}
use Rattle.sqlite.specs.State.{HasCleanDisk}
use Rattle.sqlite.specs.Files.{image_of, over_files}
use Rattle.pgstore.proofs.Reopened.{adopted_holds}
use Rattle.pgstore.proofs.reopening.Store+FileStore+D.adopt_files.Goals as goal

pub returns-in-Ok-adopt-clause-stood : goal.returns-in-Ok-adopt-clause-stood
returns-in-Ok-adopt-clause-stood g c honest =
    let clean : HasCleanDisk (state over_files c.in-Ok.conn) = omega (arith, c.in-Ok-adopt.ensures.crash.clean, honest) in
    let found = c.in-Ok.ensures.found clean in
    let opened = c.in-Ok.ensures.opened clean in
    adopted_holds over_files (image_of g.D.Disk c.args.files) c.in-Ok.conn _ (record { holds = found.holds; reads = found.reads }) opened.0
    opened.1 (c.in-Ok-adopt.ensures.adopted honest)

pub returns-in-Ok-adopt-clause-disks : goal.returns-in-Ok-adopt-clause-disks
returns-in-Ok-adopt-clause-disks g c honest =
    let clean : HasCleanDisk (state over_files c.in-Ok.conn) = omega (arith, c.in-Ok-adopt.ensures.crash.clean, honest) in
    (c.in-Ok.ensures.found clean).honest

pub returns-in-Err-adopt-clause-unchanged : goal.returns-in-Err-adopt-clause-unchanged
returns-in-Err-adopt-clause-unchanged g c honest =
    let clean : HasCleanDisk (state over_files c.in-Ok.conn) = omega (arith, c.in-Err-adopt.ensures.crash_refused.clean, honest) in
    let found = c.in-Ok.ensures.found clean in
    c.in-Err-adopt.ensures.as_found (image_of g.D.Disk c.args.files) (record { holds = found.holds; reads = found.reads })
    (c.in-Ok.ensures.opened clean).0

pub returns-in-Err-adopt-clause-disks_refused : goal.returns-in-Err-adopt-clause-disks_refused
returns-in-Err-adopt-clause-disks_refused g c honest =
    let clean : HasCleanDisk (state over_files c.in-Ok.conn) = omega (arith, c.in-Err-adopt.ensures.crash_refused.clean, honest) in
    (c.in-Ok.ensures.found clean).honest

pub returns-in-Err-adopt-clause-fault : goal.returns-in-Err-adopt-clause-fault
returns-in-Err-adopt-clause-fault g c = rw c.new.ensures c.in-Err-adopt.ensures.fault
