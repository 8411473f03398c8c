-- What is fed, followed and compared, at the edges.
use Rattle.std.proofs.Common.{◌≡◌, ◌∷◌, ◌++◌, [], List, true, false, Some, None, Err, inl, inr, pos}
use Rattle.std.proofs.Common.{refl, sym, ap, subst, ◌∙◌, arith}
use Rattle.pgorder.specs.declared.Version.TheVariants.{Two}
use Rattle.pgspool.specs.declared.fault.SpoolFault.TheVariants as spool
use Rattle.pgapply.specs.declared.rows.DumpRow.{DumpRow}
use Rattle.pgapply.specs.declared.fault.StoreFault.TheVariants as store
use Rattle.pgwire.specs.Frames as wire
use Rattle.pgwire.specs.declared.fault.WireFault.TheVariants as wire_fault
use Rattle.pgsub_core.specs.declared.converging.Side.TheVariants.{Left, Right}
use Rattle.pgsub_core.specs.declared.converging.Verdict.TheVariants.{Same, Positions, Rows}
use Rattle.pgsub_core.specs.declared.fault.Fault.{Fault}
use Rattle.pgsub_core.specs.declared.fault.Fault.TheVariants as fault
use Rattle.pgsub_core.specs.Machine.Replica.{Running}
use Rattle.pgsub_core.specs.Subscriber.Subscribed.{Subscribed, newly, progress_of}
use Rattle.pgsub_core.specs.Server.Stream.{Sent}
use Rattle.pgsub_core.specs.Machine.Taking.{take_sessions}
use Rattle.pgsub_core.specs.Subscriber.Handled.{IsFollowed}
use Rattle.pgsub_core.specs.Machine.Feeding.{IsFed, IsFedWhole, IsFedUntil}
use Rattle.pgsub_core.specs.Subscriber.Verdicts.{IsVerdictOf, SideIsFollowed, LeftIsFollowed}
use Rattle.pgsub_core.specs.Subscriber.Verdicts.{RightIsFollowed}
use Rattle.pgsub_core.specs.Subscriber.Converging.{failed_side}
use Rattle.pgsub_core.proofs.Followed.{fed_followed}
use Rattle.pgsub_core.proofs.Samples.{text, empty_one, first_tables}
use Rattle.pgsub_core.proofs.Steps.{running}

abbrev open_one : Subscribed
open_one = empty_one 1000

abbrev closed_one : Subscribed
closed_one = record open_one { closed = true }

-- ---- Closed

closed_again : IsFed (pos 0) closed_one (100 ∷ []) closed_one (Some fault.Closed)
closed_again = (refl, refl)

closed_changes_nothing : IsFed (pos 0) closed_one (100 ∷ []) (record closed_one { position = 5 }) (Some fault.Closed) → ⊥
closed_changes_nothing fed = let same : 5 ≡ 0 = ap (λ (s : Subscribed). s.position) fed.1 in omega (arith, same)

open_is_not_closed : IsFed (pos 0) open_one [] open_one (Some fault.Closed) → ⊥
open_is_not_closed fed = let same : false ≡ true = fed.0 in cc

closed_takes_nothing : (new : Subscribed) → IsFed (pos 0) closed_one [] new None → ⊥
closed_takes_nothing new fed = let same : true ≡ false = fed.0 in cc

-- ---- CopyDone in an earlier piece

abbrev done_one : Subscribed
done_one = record open_one { copy_done = true }

after_done : IsFed (pos 0) done_one (100 ∷ []) (record done_one { closed = true }) (Some (fault.Wire wire_fault.AfterDone))
after_done = (
  refl,
  record {
    fs = [];
    rest = 100 ∷ [];
    state = done_one;
    whole = refl;
    each = refl;
    takes = refl;
    left = record { tables = refl; progress = refl; settings = record { version = refl; max_frame = refl; limit = refl }; replies = refl };
    closed = refl;
    why = (wire_fault.AfterDone, refl, (refl, omega arith));
  },
)

-- it isn't the front of a frame
not_waiting : (new : Subscribed) → IsFedWhole (pos 0) done_one (100 ∷ []) new → ⊥
not_waiting new fed =
    let rest : fed.rest ≡ [] = fed.deframed.last refl in
    let fs : fed.fs ≡ [] = fed.deframed.each in
    let whole : 99 ∷ 0 ∷ 0 ∷ 0 ∷ 4 ∷ 100 ∷ [] ≡ 99 ∷ 0 ∷ 0 ∷ 0 ∷ 4 ∷ [] =
    fed.deframed.whole ∙ ap (λ gs. wire.frames (wire.CopyDone ∷ gs) ++ fed.rest) fs
    ∙ ap (λ r. wire.frames (wire.CopyDone ∷ []) ++ r) rest in
    absurd (cc)

-- ---- a fault closes

fault_closes : (f : Fault) → IsFedUntil (pos 0) open_one (99 ∷ 0 ∷ 0 ∷ 0 ∷ 4 ∷ 100 ∷ []) open_one f → ⊥
fault_closes f fed = let same : false ≡ true = fed.closed in cc

-- no part's want of memory is answered as that part's fault
never_of_spools : (new : Subscribed) → IsFed (pos 0) open_one [] new (Some (fault.Spool spool.Memory)) → ⊥
never_of_spools new fed = fed.1.why

never_of_frames : (new : Subscribed) → IsFed (pos 0) open_one [] new (Some (fault.Wire wire_fault.Memory)) → ⊥
never_of_frames new fed = fed.1.why

never_of_a_reader : (new : Subscribed) → IsFed (pos 0) open_one [] new (Some fault.Read) → ⊥
never_of_a_reader new fed = fed.1.why

-- ---- following no sessions at all: nothing is appended, and nothing is closed

appends_nothing : IsFollowed (pos 0) [] [] [] open_one (record open_one { replies = 1 ∷ [] }) None → ⊥
appends_nothing f =
    let none = f.why.0 in
    let state : open_one ≡ f.state =
    running (subst (λ (handled : List (List Sent)). take_sessions (pos 0) open_one handled ≡ Running f.state) none f.takes) in
    let replies : 1 ∷ [] ≡ [] = ap (λ (s : Subscribed). s.replies) (f.left_by) ∙ ap (λ (s : Subscribed). s.replies) (sym state) in
    cc

-- ---- a subscriber over a store at 0/130

stands_at_130 : progress_of (newly first_tables 304 Two 16777216 1000) ≡ record { position = 304; confirmed = 304; received = 304 }
stands_at_130 = refl

-- ---- each answer of a comparison

abbrev row : DumpRow
row = record { oid = 16384; namespace = []; name = []; cells = text 49 ∷ []; copies = 1 }

both_same : IsVerdictOf 560 560 (row ∷ []) (row ∷ []) (Same 560)
both_same = (refl, refl, refl)

positions_differ : IsVerdictOf 304 0 (row ∷ []) [] (Positions 304 0)
positions_differ = (refl, refl, λ same. absurd (omega arith))

rows_differ : IsVerdictOf 304 304 (row ∷ []) [] (Rows 304)
rows_differ = (refl, refl, λ same. absurd (cc))

not_always_same : IsVerdictOf 304 304 (row ∷ []) [] (Same 304) → ⊥
not_always_same is = let same = is.2 in absurd (cc)

positions_first : IsVerdictOf 304 0 (row ∷ []) [] (Rows 304) → ⊥
positions_first is = omega (arith, is.1)

side_of_left : failed_side (Err (record { side = Left; fault = fault.Memory })) ≡ Some (Left, fault.Memory)
side_of_left = refl

-- a fault of the left side: the right one isn't touched
right_untouched : RightIsFollowed (pos 0) ([] ∷ []) open_one open_one (Some (Left, fault.Memory))
right_untouched = refl

right_touched : RightIsFollowed (pos 0) ([] ∷ []) open_one (record open_one { position = 5 }) (Some (Left, fault.Memory)) → ⊥
right_touched is = let same : 5 ≡ 0 = ap (λ (s : Subscribed). s.position) is in omega (arith, same)

-- a fault of the right side: the left one was followed to its end
nothing_followed : SideIsFollowed (pos 0) [] open_one open_one None
nothing_followed = record
    { fed = refl; followed = λ history all_complete is. fed_followed (pos 0) history [] all_complete open_one open_one None is refl }

left_followed : LeftIsFollowed (pos 0) [] open_one open_one (Some (Right, fault.Store store.Clash))
left_followed = nothing_followed

-- reading the rows of a side can be refused behind all that was followed, and not with a fault of
-- its sessions
left_unread : LeftIsFollowed (pos 0) [] open_one open_one (Some (Left, fault.Store store.Refused))
left_unread = inr (inr refl, nothing_followed)

left_blamed : LeftIsFollowed (pos 0) [] open_one open_one (Some (Left, fault.Store store.Clash)) → ⊥
left_blamed (inl side) = side.fed
left_blamed (inr (inl memory, side)) = cc
left_blamed (inr (inr refused, side)) = cc

right_blamed : RightIsFollowed (pos 0) [] open_one open_one (Some (Right, fault.Store store.Clash)) → ⊥
right_blamed is = left_blamed is
