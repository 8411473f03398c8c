-- A run whose feed isn't opened ends with a status that closing its store doesn't change.
use Rattle.std.proofs.Common.{◌≡◌, Option, None, Some, refl}
use Rattle.pgapply.specs.declared.fault.StoreFault.{StoreFault}
use Rattle.pgfeed.specs.declared.fault.FeedFault.{FeedFault}
use Rattle.pgfeed.specs.declared.fault.FeedFault.TheVariants as feed
use Rattle.pgsub_cli.specs.Storing.{status_of_unopened}
use Rattle.pgruns.specs.Fed.{status_of_unapplied, status_of_unfed}
use Rattle.pgruns.specs.Filed.{status_closed, status_of_unclosed}

pub unfed_stays : (f : FeedFault) (closing : Option StoreFault)
    → status_closed status_of_unclosed (status_of_unfed f) closing ≡ status_of_unfed f
unfed_stays f None = refl
unfed_stays feed.NotAFeed (Some _) = refl
unfed_stays feed.TooLong (Some _) = refl
unfed_stays feed.Refused (Some _) = refl
unfed_stays feed.Memory (Some _) = refl

pub unapplied_stays : (f : FeedFault) (closing : Option StoreFault)
    → status_closed status_of_unopened (status_of_unapplied f) closing ≡ status_of_unapplied f
unapplied_stays f None = refl
unapplied_stays feed.NotAFeed (Some _) = refl
unapplied_stays feed.TooLong (Some _) = refl
unapplied_stays feed.Refused (Some _) = refl
unapplied_stays feed.Memory (Some _) = refl
