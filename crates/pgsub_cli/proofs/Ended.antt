-- By which fault following ended.
use Rattle.std.proofs.Common.{◌≡◌, ◌↔◌, Some, Result, Ok, Err, IfErr, IfSome}
use Rattle.pgfollow.specs.declared.fault.FollowFault.{FollowFault}
use Rattle.pgfollow.specs.Live.{ended_by}

-- It ended by a fault exactly where it returned that.
pub ended_is : {A : Type 0} (followed : Result A FollowFault) (f : FollowFault) → (ended_by followed ≡ Some f) ↔ (followed ≡ Err f)
ended_is (Ok done) f = (λ is. absurd (cc), λ is. absurd (cc))
ended_is (Err g) f = (λ is. cc, λ is. cc)

pub ended_as : {A : Type 0} (followed : Result A FollowFault) (P : FollowFault → Type 0) → IfErr followed P → IfSome (ended_by followed) P
ended_as (Ok done) P all = all
ended_as (Err g) P all = all
