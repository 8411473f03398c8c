-- What a run over a store takes of its task, and what that is of a task that doesn't say it.
use Rattle.std.specs.Prelude.{ℕ, Bool, false, Option, None}
use Rattle.pgcommand.specs.declared.feed.FeedOptions.{FeedOptions}
use Rattle.pgcommand.specs.declared.limits.Limits.{Limits}
use Rattle.pgcommand.specs.declared.task.Task.{Task}
use Rattle.pgcommand.specs.declared.task.Task.TheVariants.{Apply, Dump, Follow}

abbrev pub limits_in : Task → Limits
limits_in (Apply version limits raw progress store cache feed file) = limits
limits_in (Follow version limits store cache feed spool watch repeats load trust) = limits
limits_in _ = record { max_buffered = 67108864; max_frame = 16777216 }

abbrev pub cache_in : Task → ℕ
cache_in (Apply version limits raw progress store cache feed file) = cache
cache_in (Dump store cache) = cache
cache_in (Follow version limits store cache feed spool watch repeats load trust) = cache
cache_in _ = 20000

abbrev pub feed_in : Task → Option FeedOptions
feed_in (Apply version limits raw progress store cache feed file) = feed
feed_in (Follow version limits store cache feed spool watch repeats load trust) = feed
feed_in _ = None

abbrev pub loads : Task → Bool
loads (Follow version limits store cache feed spool watch repeats load trust) = load
loads _ = false

abbrev pub trusts_store : Task → Bool
trusts_store (Follow version limits store cache feed spool watch repeats load trust) = trust
trusts_store _ = false
