-- The fault that a store is told of a segment that isn't made.
use Rattle.pgapply.specs.declared.fault.StoreFault.{StoreFault}
use Rattle.pgapply.specs.declared.fault.StoreFault.TheVariants as store
use Rattle.pgfeed.specs.declared.fault.FeedFault.{FeedFault}
use Rattle.pgfeed.specs.declared.fault.FeedFault.TheVariants as feed

-- want of memory is told as such
abbrev pub told_of : FeedFault → StoreFault
told_of feed.Memory = store.Memory
told_of f = store.Refused
