-- The history with the rows, and what of it comes behind a start.
use Rattle.std.proofs.Common.{◌≡◌, ◌<◌, ◌≤◌, ◌++◌, ℕ, List, [], ◌∷◌, true, false, cond, refl, sym}
use Rattle.std.proofs.Common.{ap, subst, ◌∙◌, arith}
use Rattle.std.specs.List.{AllByRecursion}
use Rattle.std.specs.Prelude.{nat_lt}
use Rattle.std.proofs.lemmas.List.Elements.{filter-append}
use Rattle.std.proofs.lemmas.Bool.Decides.{nat_tests}
use Rattle.pglogical.specs.declared.message.RelationDef.{RelationDef}
use Rattle.pgsub_core.specs.Server.Work.{IsWork, xids_of, AllDiffer}
use Rattle.pgsub_core.specs.Server.History.{Transaction, IsHistory, IsHistoryFrom, ended_after}
use Rattle.pgadding.specs.LeftOut.{transaction_without}
use Rattle.pgadding.specs.Addition.{OwnChange, Inserted, Updated, Deleted, Emptied, Addition}
use Rattle.pgadding.specs.Addition.{made_of, owned}
use Rattle.pgadding.specs.Addition.{rows_transaction, rows_xid}
use Rattle.pgadding.specs.Around.{IsAround, with_rows}
use Rattle.pgadding.proofs.LeftWork.{is_work, xids-without}
use Rattle.pgadding.proofs.Following.{IsSeen, AreSeen, AreUnseen, all_without}

abbrev pub EndBelow : ℕ → List Transaction → Type 0
EndBelow point ts = AllByRecursion (λ (t : Transaction). t.end < point) ts

-- ---- it is a history

owned_work : (def : RelationDef) (owns : List OwnChange) → IsWork (owned def owns)
owned_work def [] = tt
owned_work def (Inserted row ∷ owns) = (tt, refl, owned_work def owns)
owned_work def (Updated prior row ∷ owns) = (tt, refl, owned_work def owns)
owned_work def (Deleted kind row ∷ owns) = (tt, refl, owned_work def owns)
owned_work def (Emptied options ∷ owns) = (tt, refl, owned_work def owns)

owned_xids : (def : RelationDef) (owns : List OwnChange) → xids_of (owned def owns) ≡ []
owned_xids def [] = refl
owned_xids def (own ∷ owns) = owned_xids def owns

pub unseen_history : (point from : ℕ) (above : List Transaction) → AreUnseen point above → IsHistoryFrom from above
    → IsHistoryFrom point above
unseen_history point from [] unseen h = tt
unseen_history point from (t ∷ above) unseen h = (unseen.0, h.1, h.2, h.3, h.4)

rows_history : (a : Addition) (from : ℕ) (above : List Transaction) → from < a.point → AreUnseen a.point above → IsHistoryFrom from above
    → IsHistoryFrom from (rows_transaction a ∷ above)
rows_history a from above lt unseen h = (
  omega arith,
  omega arith,
  (tt, refl, owned_work a.definition (made_of a)),
  subst (λ xs. AllDiffer (rows_xid ∷ xs)) (sym (owned_xids a.definition (made_of a))) (refl, tt),
  unseen_history a.point from above unseen h,
)

seen_history : (a : Addition) (from : ℕ) (below above : List Transaction) → from < a.point → EndBelow a.point below
    → AreUnseen a.point above
    → IsHistoryFrom from (below ++ above) → IsHistoryFrom from (all_without a.definition.oid below ++ rows_transaction a ∷ above)
seen_history a from [] above lt ends unseen h = rows_history a from above lt unseen h
seen_history a from (t ∷ below) above lt ends unseen h = (
  h.0,
  h.1,
  is_work a.definition.oid t.work h.2,
  subst (λ xs. AllDiffer (t.xid ∷ xs)) (sym (xids-without a.definition.oid t.work)) h.3,
  seen_history a t.end below above ends.0 ends.1 unseen h.4,
)

stored_history : (a : Addition) (from : ℕ) (before below above : List Transaction) → from < a.point → EndBelow a.point before
    → EndBelow a.point below → AreUnseen a.point above
    → IsHistoryFrom from (before ++ (below ++ above)) → IsHistoryFrom from (with_rows a before below above)
stored_history a from [] below above lt stored ends unseen h = seen_history a from below above lt ends unseen h
stored_history a from (t ∷ before) below above lt stored ends unseen h =
    (h.0, h.1, h.2, h.3, stored_history a t.end before below above stored.0 stored.1 ends unseen h.4)

pub with_rows_history : (a : Addition) (before below above : List Transaction) → IsAround a.point before below above
    → IsHistory (with_rows a before below above)
with_rows_history a before below above is =
    stored_history a 0 before below above (let some : 1 ≤ a.point = is.some in omega arith) is.stored is.seen is.unseen is.history

-- ---- what is known of its transactions

pub seen_from : (point from : ℕ) (below above : List Transaction) → EndBelow point below → IsHistoryFrom from (below ++ above)
    → AreSeen point below
seen_from point from [] above ends h = tt
seen_from point from (t ∷ below) above ends h = (
  record { begins = (let last : t.end < point = ends.0 in let long : t.lsn < t.end = h.1 in omega arith); ends = ends.0; work = h.2 },
  seen_from point t.end below above ends.1 h.4,
)

seen_behind : (point from : ℕ) (before below above : List Transaction) → EndBelow point below
    → IsHistoryFrom from (before ++ (below ++ above)) → AreSeen point below
seen_behind point from [] below above ends h = seen_from point from below above ends h
seen_behind point from (t ∷ before) below above ends h = seen_behind point t.end before below above ends h.4

pub all_seen : (point : ℕ) (before below above : List Transaction) → IsAround point before below above → AreSeen point below
all_seen point before below above is = seen_behind point 0 before below above is.seen is.history

late_ends : (point from : ℕ) (above : List Transaction) → AreUnseen point above → IsHistoryFrom from above
    → AllByRecursion (λ (t : Transaction). point < t.end) above
late_ends point from [] unseen h = tt
late_ends point from (t ∷ above) unseen h =
    ((let late : point ≤ t.lsn = unseen.0 in let long : t.lsn < t.end = h.1 in omega arith), late_ends point t.end above unseen.1 h.4)

ends_behind : (point from : ℕ) (ts above : List Transaction) → AreUnseen point above → IsHistoryFrom from (ts ++ above)
    → AllByRecursion (λ (t : Transaction). point < t.end) above
ends_behind point from [] above unseen h = late_ends point from above unseen h
ends_behind point from (t ∷ ts) above unseen h = ends_behind point t.end ts above unseen h.4

pub ends_above : (point from : ℕ) (before below above : List Transaction) → AreUnseen point above
    → IsHistoryFrom from (before ++ (below ++ above)) → AllByRecursion (λ (t : Transaction). point < t.end) above
ends_above point from [] below above unseen h = ends_behind point from below above unseen h
ends_above point from (t ∷ before) below above unseen h = ends_above point t.end before below above unseen h.4

-- ---- what comes behind a start

pub after-append : (s : ℕ) (xs ys : List Transaction) → ended_after s (xs ++ ys) ≡ ended_after s xs ++ ended_after s ys
after-append s xs ys = filter-append (λ (t : Transaction). nat_lt s t.end) xs ys

pub after-none : (s : ℕ) (ts : List Transaction) → AllByRecursion (λ (t : Transaction). t.end ≤ s) ts → ended_after s ts ≡ []
after-none s [] h = refl
after-none s (t ∷ ts) h =
    let by : t.end ≤ s = h.0 in
    let isnt : nat_lt s t.end ≡ false = grind (arith, nat_tests) in
    ap (λ b. cond b (t ∷ ended_after s ts) (ended_after s ts)) isnt ∙ after-none s ts h.1

pub after-all : (s : ℕ) (ts : List Transaction) → AllByRecursion (λ (t : Transaction). s < t.end) ts → ended_after s ts ≡ ts
after-all s [] h = refl
after-all s (t ∷ ts) h =
    let late : s < t.end = h.0 in
    let yes : nat_lt s t.end ≡ true = grind (arith, nat_tests) in
    ap (λ b. cond b (t ∷ ended_after s ts) (ended_after s ts)) yes ∙ ap (λ rest. t ∷ rest) (after-all s ts h.1)

after-without : (s oid : ℕ) (ts : List Transaction) → ended_after s (all_without oid ts) ≡ all_without oid (ended_after s ts)
after-without s oid [] = refl
after-without s oid (t ∷ ts) =
    elim (nat_lt s t.end) as
    (λ b. cond b (transaction_without oid t ∷ ended_after s (all_without oid ts)) (ended_after s (all_without oid ts))
    ≡ all_without oid (cond b (t ∷ ended_after s ts) (ended_after s ts))) [
      | true ↦ ap (λ rest. transaction_without oid t ∷ rest) (after-without s oid ts)
      | false ↦ after-without s oid ts
    ]

all_kept : (P : Transaction → Type 0) (s : ℕ) (ts : List Transaction) → AllByRecursion P ts → AllByRecursion P (ended_after s ts)
all_kept P s [] h = tt
all_kept P s (t ∷ ts) h =
    elim (nat_lt s t.end) as (λ b. AllByRecursion P (cond b (t ∷ ended_after s ts) (ended_after s ts))) [
      | true ↦ (h.0, all_kept P s ts h.1)
      | false ↦ all_kept P s ts h.1
    ]

pub seen_after : (point s : ℕ) (ts : List Transaction) → AreSeen point ts → AreSeen point (ended_after s ts)
seen_after point s ts h = all_kept (IsSeen point) s ts h

pub later_starts : (s point : ℕ) (ts : List Transaction) → s ≤ point → AllByRecursion (λ (t : Transaction). point < t.end) ts
    → AllByRecursion (λ (t : Transaction). s < t.end) ts
later_starts s point [] le h = tt
later_starts s point (t ∷ ts) le h = ((let late : point < t.end = h.0 in omega arith), later_starts s point ts le h.1)

pub below_starts : (s point : ℕ) (ts : List Transaction) → point ≤ s → EndBelow point ts
    → AllByRecursion (λ (t : Transaction). t.end ≤ s) ts
below_starts s point [] le h = tt
below_starts s point (t ∷ ts) le h = ((let early : t.end < point = h.0 in omega arith), below_starts s point ts le h.1)

pub after-server : (point s : ℕ) (before below above : List Transaction) → IsAround point before below above → s < point
    → AllByRecursion (λ (t : Transaction). t.end ≤ s) before
    → ended_after s (before ++ (below ++ above)) ≡ ended_after s below ++ above
after-server point s before below above is lt stored =
    after-append s before (below ++ above) ∙ ap (λ ts. ts ++ ended_after s (below ++ above)) (after-none s before stored)
    ∙ after-append s below above
    ∙ ap (λ ts. ended_after s below ++ ts)
    (after-all s above (later_starts s point above (omega arith) (ends_above point 0 before below above is.unseen is.history)))

rows_first : (a : Addition) (s : ℕ) (above : List Transaction) → s < a.point → ended_after s above ≡ above
    → ended_after s (rows_transaction a ∷ above) ≡ rows_transaction a ∷ above
rows_first a s above lt rest =
    let yes : nat_lt s a.point ≡ true = grind (arith, nat_tests) in
    ap (λ b. cond b (rows_transaction a ∷ ended_after s above) (ended_after s above)) yes ∙ ap (λ ts. rows_transaction a ∷ ts) rest

pub after-copy : (a : Addition) (s : ℕ) (before below above : List Transaction) → IsAround a.point before below above → s < a.point
    → AllByRecursion (λ (t : Transaction). t.end ≤ s) before
    → ended_after s (with_rows a before below above) ≡ all_without a.definition.oid (ended_after s below) ++ rows_transaction a ∷ above
after-copy a s before below above is lt stored =
    let oid = a.definition.oid in
    let behind = rows_transaction a ∷ above in
    after-append s before (all_without oid below ++ behind)
    ∙ ap (λ ts. ts ++ ended_after s (all_without oid below ++ behind)) (after-none s before stored)
    ∙ after-append s (all_without oid below) behind
    ∙ ap (λ ts. ts ++ ended_after s behind) (after-without s oid below)
    ∙ ap (λ ts. all_without oid (ended_after s below) ++ ts)
    (rows_first a s above lt
    (after-all s above (later_starts s a.point above (omega arith) (ends_above a.point 0 before below above is.unseen is.history))))

-- behind the point both have the same
after-point : (a : Addition) (s : ℕ) (below above : List Transaction) → a.point ≤ s → EndBelow a.point below
    → ended_after s (below ++ above) ≡ ended_after s (all_without a.definition.oid below ++ rows_transaction a ∷ above)
after-point a s below above le ends =
    let oid = a.definition.oid in
    let isnt : nat_lt s a.point ≡ false = grind (arith, nat_tests) in
    let none = after-none s below (below_starts s a.point below le ends) in
    after-append s below above ∙ ap (λ ts. ts ++ ended_after s above) none
    ∙ sym (after-append s (all_without oid below) (rows_transaction a ∷ above)
    ∙ ap (λ ts. ts ++ ended_after s (rows_transaction a ∷ above)) (after-without s oid below ∙ ap (all_without oid) none)
    ∙ ap (λ b. cond b (rows_transaction a ∷ ended_after s above) (ended_after s above)) isnt)

pub after-stored : (a : Addition) (s : ℕ) (before below above : List Transaction) → a.point ≤ s → EndBelow a.point below
    → ended_after s (before ++ (below ++ above)) ≡ ended_after s (with_rows a before below above)
after-stored a s before below above le ends =
    after-append s before (below ++ above) ∙ ap (λ ts. ended_after s before ++ ts) (after-point a s below above le ends)
    ∙ sym (after-append s before (all_without a.definition.oid below ++ rows_transaction a ∷ above))
