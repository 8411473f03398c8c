-- The copy is one of the history with the rows, and from the point on one of the server's.
use Rattle.std.proofs.Common.{◌≡◌, ◌<◌, ◌≤◌, ◌++◌, ℕ, List, [], ◌∷◌, false, cond, nat_le, sym, ap}
use Rattle.std.proofs.Common.{subst, ◌∙◌, arith}
use Rattle.std.specs.FinMap as map
use Rattle.std.specs.List.{AllByRecursion}
use Rattle.std.proofs.lemmas.Bool.Decides.{nat_tests}
use Rattle.pgapply.specs.Apply.{fold_changes}
use Rattle.pgsub_core.specs.Server.Work.{surviving_changes}
use Rattle.pgsub_core.specs.Server.History.{Transaction, ChangesRows, all_changes, ended_by}
use Rattle.pgsub_core.specs.Server.History.{tables_as_of}
use Rattle.pgsub_core.specs.Server.Sessions.{EachStarts, IsSession}
use Rattle.pgsub_core.specs.Subscriber.Safe.{IsSafe, NothingBetween}
use Rattle.pgsub_core.specs.Subscriber.Outcomes.{IsAllowedOutcome}
use Rattle.pgsub_core.specs.Machine.ApplyState.{follow_all}
use Rattle.pgsub_core.proofs.Changes.{ended-none}
use Rattle.pgsub_core.proofs.AllSessions.{all_sessions_allowed}
use Rattle.pgadding.specs.Addition.{Addition, rows_transaction, rows_work}
use Rattle.pgadding.specs.Around.{IsAround, with_rows}
use Rattle.pgadding.specs.Bytes.{IsPassedSession}
use Rattle.pgadding.specs.Copies.{IsBefore, StartsSafe, EndsSafe, CopyIsTheServers}
use Rattle.pgadding.proofs.LeftItems.{other_changes}
use Rattle.pgadding.proofs.Following.{AreSeen, all_left, all_right, all_both, all_without}
use Rattle.pgadding.proofs.Following.{nothing_without}
use Rattle.pgadding.proofs.Histories.{with_rows_history, all_seen}
use Rattle.pgadding.proofs.Kept.{rows_changes, three, copy-changes, rows_kept}
use Rattle.pgadding.proofs.Bytes.{each_starts, one_session}

-- ---- nothing between

-- the transactions of a history that end by what is confirmed end by the position
abbrev pub EachStored : ℕ → ℕ → Transaction → Type 0
EachStored position confirmed t = ChangesRows t → t.end ≤ confirmed → t.end ≤ position

stored_without : (point oid position confirmed : ℕ) (ts : List Transaction) → AreSeen point ts
    → AllByRecursion (EachStored position confirmed) ts
    → AllByRecursion (EachStored position confirmed) (all_without oid ts)
stored_without point oid position confirmed [] seen h = tt
stored_without point oid position confirmed (t ∷ ts) seen h = (
  (λ changes by. h.0 (λ none. changes (nothing_without oid t seen.0.work none)) by),
  stored_without point oid position confirmed ts seen.1 h.1,
)

nothing_with_rows : (a : Addition) (before below above : List Transaction) (position confirmed : ℕ) → IsAround a.point before below above
    → confirmed < a.point
    → NothingBetween (before ++ (below ++ above)) position confirmed → NothingBetween (with_rows a before below above) position confirmed
nothing_with_rows a before below above position confirmed is lt h =
    let each = EachStored position confirmed in
    let oid = a.definition.oid in
    let rest : AllByRecursion (EachStored position confirmed) (below ++ above) =
    all_right (EachStored position confirmed) before (below ++ above) h in
    all_both (EachStored position confirmed) before (all_without oid below ++ rows_transaction a ∷ above)
    (all_left (EachStored position confirmed) before (below ++ above) h)
    (all_both (EachStored position confirmed) (all_without oid below) (rows_transaction a ∷ above)
    (stored_without a.point oid position confirmed below (all_seen a.point before below above is)
    (all_left (EachStored position confirmed) below above rest)) (
      (λ changes by. let late : a.point ≤ confirmed = by in absurd (omega arith)),
      all_right (EachStored position confirmed) below above rest,
    ))

pub seen_stored : (point position confirmed : ℕ) (ts : List Transaction) → point ≤ position → AreSeen point ts
    → AllByRecursion (EachStored position confirmed) ts
seen_stored point position confirmed [] le seen = tt
seen_stored point position confirmed (t ∷ ts) le seen =
    ((λ changes by. let early : t.end < point = seen.0.ends in omega arith), seen_stored point position confirmed ts le seen.1)

pub nothing_of_server : (a : Addition) (before below above : List Transaction) (position confirmed : ℕ)
    → IsAround a.point before below above → a.point ≤ position
    → NothingBetween (with_rows a before below above) position confirmed → NothingBetween (before ++ (below ++ above)) position confirmed
nothing_of_server a before below above position confirmed is le h =
    let oid = a.definition.oid in
    let behind = all_without oid below ++ rows_transaction a ∷ above in
    let rest : AllByRecursion (EachStored position confirmed) behind = all_right (EachStored position confirmed) before behind h in
    let last : AllByRecursion (EachStored position confirmed) (rows_transaction a ∷ above) =
    all_right (EachStored position confirmed) (all_without oid below) (rows_transaction a ∷ above) rest in
    all_both (EachStored position confirmed) before (below ++ above) (all_left (EachStored position confirmed) before behind h)
    (all_both (EachStored position confirmed) below above
    (seen_stored a.point position confirmed below le (all_seen a.point before below above is)) last.1)

-- ---- the same rows below the point

same_below : (a : Addition) (before below above : List Transaction) (position confirmed : ℕ) → IsAround a.point before below above
    → IsBefore a before below position confirmed
    → all_changes (ended_by position (with_rows a before below above)) ≡ all_changes (ended_by position (before ++ (below ++ above)))
same_below a before below above position confirmed is at =
    let oid = a.definition.oid in
    let first = all_changes (ended_by position before) in
    let last = all_changes (ended_by position above) in
    let low : position < a.point = at.low in
    let late : nat_le a.point position ≡ false = grind (arith, nat_tests) in
    let none = ended-none position below at.missing in
    copy-changes a position before below above (all_seen a.point before below above is)
    ∙ ap (λ ts. first ++ (other_changes oid (all_changes ts) ++ (rows_changes a position ++ last))) none
    ∙ ap (λ b. first ++ (cond b (surviving_changes (rows_work a)) [] ++ last)) late
    ∙ sym (three position before below above ∙ ap (λ ts. first ++ (all_changes ts ++ last)) none)

pub starts_safe : StartsSafe
unfolding tables_as_of
starts_safe a before below above tables position confirmed is at safe = record {
  same = ap (fold_changes map.empty) (same_below a before below above position confirmed is at) ∙ safe.same;
  stored = nothing_with_rows a before below above position confirmed is at.unconfirmed safe.stored;
  below = safe.below;
}

pub ends_safe : EndsSafe
ends_safe a before below above at_point tables position confirmed is e rows le safe = record {
  same = sym (rows_kept a before below above position at_point is e rows le) ∙ safe.same;
  stored = nothing_of_server a before below above position confirmed is le safe.stored;
  below = safe.below;
}

pub copy_is_the_servers : CopyIsTheServers
copy_is_the_servers v a before below above at_point p old new sessions all_complete is at e rows safe position confirmed sent ran le =
    let history = with_rows a before below above in
    let start : IsSafe history old.tables old.position old.confirmed =
    starts_safe a before below above old.tables old.position old.confirmed is at safe in
    let between : NothingBetween history p.position p.confirmed =
    subst (λ x. NothingBetween history x p.confirmed) (sym position)
    (subst (λ c. NothingBetween history old.position c) (sym confirmed) start.stored) in
    let followed : EachStarts (IsSession v history) p sessions all_complete =
    each_starts (IsSession v history) (IsPassedSession v a before below above)
    (λ s bytes complete passed. one_session v a before below above s bytes complete is passed) sessions all_complete p sent in
    let allowed : IsAllowedOutcome history (follow_all v old all_complete) =
    all_sessions_allowed v history sessions all_complete p p.confirmed old (with_rows_history a before below above is) position confirmed
    start (omega arith) between followed in
    ends_safe a before below above at_point new.tables new.position new.confirmed is e rows le
    (subst (IsAllowedOutcome history) ran allowed)
