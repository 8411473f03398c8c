-- The history with a repair, and what of it comes behind a start.
use Rattle.std.proofs.Common.{◌≡◌, ◌<◌, ◌≤◌, ◌++◌, ℕ, List, [], ◌∷◌, true, false, cond, refl, sym}
use Rattle.std.proofs.Common.{ap, subst, ◌∙◌, arith}
use Rattle.std.specs.List.{AllByRecursion}
use Rattle.std.specs.Prelude.{nat_lt}
use Rattle.std.proofs.lemmas.Bool.Decides.{nat_tests}
use Rattle.pgsub_core.specs.Server.Work.{AllDiffer}
use Rattle.pgsub_core.specs.Server.History.{Transaction, IsHistoryFrom, ended_after}
use Rattle.pgadding.specs.Addition.{rows_xid}
use Rattle.pgadding.specs.Around.{IsAround}
use Rattle.pgadding.specs.Repair.{Repair, IsRepair, repair_transaction}
use Rattle.pgadding.specs.Repairing.{with_repair}
use Rattle.pgadding.specs.Repaired.{WithRepairIsHistory}
use Rattle.pgadding.proofs.Following.{AreUnseen}
use Rattle.pgadding.proofs.Histories.{EndBelow, unseen_history, ends_above, after-append}
use Rattle.pgadding.proofs.Histories.{after-none, after-all, later_starts, below_starts}
use Rattle.pgadding.proofs.RepairCommit.{repair_work, repair_xids}

repair_history : (r : Repair) (from : ℕ) (above : List Transaction) → IsRepair r → from < r.point → AreUnseen r.point above
    → IsHistoryFrom from above → IsHistoryFrom from (repair_transaction r ∷ above)
repair_history r from above is lt unseen h = (
  omega arith,
  omega arith,
  repair_work r.tables is,
  subst (λ xs. AllDiffer (rows_xid ∷ xs)) (sym (repair_xids r.tables)) (refl, tt),
  unseen_history r.point from above unseen h,
)

seen_history : (r : Repair) (from : ℕ) (ts above : List Transaction) → IsRepair r → from < r.point → EndBelow r.point ts
    → AreUnseen r.point above
    → IsHistoryFrom from (ts ++ above) → IsHistoryFrom from (ts ++ repair_transaction r ∷ above)
seen_history r from [] above is lt ends unseen h = repair_history r from above is lt unseen h
seen_history r from (t ∷ ts) above is lt ends unseen h = (h.0, h.1, h.2, h.3, seen_history r t.end ts above is ends.0 ends.1 unseen h.4)

stored_history : (r : Repair) (from : ℕ) (other below above : List Transaction) → IsRepair r → from < r.point → EndBelow r.point other
    → EndBelow r.point below → AreUnseen r.point above
    → IsHistoryFrom from (other ++ (below ++ above)) → IsHistoryFrom from (with_repair r other below above)
stored_history r from [] below above is lt stored ends unseen h = seen_history r from below above is lt ends unseen h
stored_history r from (t ∷ other) below above is lt stored ends unseen h =
    (h.0, h.1, h.2, h.3, stored_history r t.end other below above is stored.0 stored.1 ends unseen h.4)

pub with_repair_history : WithRepairIsHistory
with_repair_history r other below above is around =
    stored_history r 0 other below above is (let some : 1 ≤ r.point = around.some in omega arith) around.stored around.seen around.unseen
    around.history

-- ---- what comes behind a start

pub repair_first : (r : Repair) (s : ℕ) (above : List Transaction) → s < r.point → ended_after s above ≡ above
    → ended_after s (repair_transaction r ∷ above) ≡ repair_transaction r ∷ above
repair_first r s above lt rest =
    let yes : nat_lt s r.point ≡ true = grind (arith, nat_tests) in
    ap (λ b. cond b (repair_transaction r ∷ ended_after s above) (ended_after s above)) yes ∙ ap (λ ts. repair_transaction r ∷ ts) rest

pub after-repair : (r : Repair) (s : ℕ) (other below above : List Transaction) → IsAround r.point other below above → s < r.point
    → AllByRecursion (λ (t : Transaction). t.end ≤ s) other
    → ended_after s (with_repair r other below above) ≡ ended_after s below ++ repair_transaction r ∷ above
after-repair r s other below above around lt stored =
    let behind = repair_transaction r ∷ above in
    after-append s other (below ++ behind) ∙ ap (λ ts. ts ++ ended_after s (below ++ behind)) (after-none s other stored)
    ∙ after-append s below behind
    ∙ ap (λ ts. ended_after s below ++ ts)
    (repair_first r s above lt
    (after-all s above (later_starts s r.point above (omega arith)
    (ends_above r.point 0 other below above around.unseen around.history))))

-- from the point on both have the same
pub after-repaired : (r : Repair) (s : ℕ) (other before below above : List Transaction) → IsAround r.point other below above
    → IsAround r.point before below above → r.point ≤ s
    → ended_after s (before ++ (below ++ above)) ≡ ended_after s (with_repair r other below above)
after-repaired r s other before below above copy server le =
    let isnt : nat_lt s r.point ≡ false = grind (arith, nat_tests) in
    let gone : (ts : List Transaction) → EndBelow r.point ts → ended_after s ts ≡ [] =
    λ ts ends. after-none s ts (below_starts s r.point ts le ends) in
    after-append s before (below ++ above) ∙ ap (λ ts. ts ++ ended_after s (below ++ above)) (gone before server.stored)
    ∙ after-append s below above ∙ ap (λ ts. ts ++ ended_after s above) (gone below server.seen)
    ∙ sym (after-append s other (below ++ repair_transaction r ∷ above)
    ∙ ap (λ ts. ts ++ ended_after s (below ++ repair_transaction r ∷ above)) (gone other copy.stored)
    ∙ after-append s below (repair_transaction r ∷ above)
    ∙ ap (λ ts. ts ++ ended_after s (repair_transaction r ∷ above)) (gone below server.seen)
    ∙ ap (λ b. cond b (repair_transaction r ∷ ended_after s above) (ended_after s above)) isnt)
