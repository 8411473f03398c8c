-- Two commits are the same where all that is known of them is.
use Rattle.std.proofs.Common.{◌≡◌}
use Rattle.pgrepeats.specs.declared.commit.Commit.{Commit}

pub same_commit : (c d : Commit) → c.end ≡ d.end → c.lsn ≡ d.lsn → c.xid ≡ d.xid → c.time ≡ d.time → c.digest ≡ d.digest → c ≡ d
same_commit c d end lsn xid time digest =
    λ i. record { end = end i; lsn = lsn i; xid = xid i; time = time i; digest = digest i }
