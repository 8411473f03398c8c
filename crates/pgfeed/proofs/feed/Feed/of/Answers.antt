use Rattle.pgfeed.proofs.feed.Feed.of.Goals as goal

pub returns-clause-within : goal.returns-clause-within
returns-clause-within g c = c.new-2.ensures.within c.args.limits.messages
