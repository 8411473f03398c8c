-- The exit status of following, at each way to end.
use Rattle.std.proofs.Common.{◌≡◌, None, Some, refl}
use Rattle.pgwire.specs.declared.fault.WireFault.TheVariants as wire
use Rattle.pgspool.specs.declared.fault.SpoolFault.TheVariants as spool
use Rattle.pgapply.specs.declared.fault.StoreFault.TheVariants as store
use Rattle.pgsub_core.specs.declared.fault.Fault.TheVariants as fault
use Rattle.pgfollow.specs.declared.fault.FollowFault.TheVariants as follow
use Rattle.pgsub_cli.specs.FollowStatus.{status_of_follow, status_of_unfollowed}

ended : status_of_follow 0 None ≡ 0
ended = refl

ended_without_rows : status_of_follow 3 None ≡ 16
ended_without_rows = refl

rejected_frame : status_of_follow 0 (Some (follow.Stream (fault.Wire wire.BadLength))) ≡ 1
rejected_frame = refl

rejected_commit : status_of_follow 0 (Some (follow.Stream (fault.Store store.Clash))) ≡ 1
rejected_commit = refl

no_store : status_of_unfollowed store.NotAStore ≡ 3
no_store = refl

spools_full : status_of_follow 0 (Some (follow.Stream (fault.Spool spool.SpoolFull))) ≡ 10
spools_full = refl

too_many_open : status_of_follow 0 (Some (follow.Stream (fault.Spool spool.TooManyOpen))) ≡ 10
too_many_open = refl

spools_failed : status_of_follow 0 (Some (follow.Stream (fault.Spool spool.NoRoom))) ≡ 13
spools_failed = refl

frame_too_large : status_of_follow 0 (Some (follow.Stream (fault.Wire wire.TooLarge))) ≡ 11
frame_too_large = refl

not_opened : status_of_unfollowed store.Refused ≡ 12
not_opened = refl

store_failed : status_of_follow 0 (Some (follow.Stream (fault.Store store.Refused))) ≡ 13
store_failed = refl

out_of_memory : status_of_follow 0 (Some (follow.Stream fault.Memory)) ≡ 14
out_of_memory = refl

out_of_memory_at_the_start : status_of_unfollowed store.Memory ≡ 14
out_of_memory_at_the_start = refl

input_failed : status_of_follow 0 (Some follow.Read) ≡ 15
input_failed = refl

output_failed : status_of_follow 0 (Some follow.Write) ≡ 15
output_failed = refl
