-- The copy of a table that it didn't have.
use Rattle.std.proofs.Common.{◌≡◌, ◌<◌, ◌≤◌, ◌++◌, ℕ, List, [], ◌∷◌, Ok, sym, ap, subst, ◌∙◌, arith}
use Rattle.std.proofs.Common.{append_assoc}
use Rattle.std.specs.FinMap as map
use Rattle.std.specs.List.{AllByRecursion}
use Rattle.pgorder.specs.declared.Version.{Version}
use Rattle.pgapply.specs.Value.{Tables}
use Rattle.pgapply.specs.Apply.{fold_changes}
use Rattle.pgsub_core.specs.Server.Work.{AllDiffer, surviving_changes}
use Rattle.pgsub_core.specs.Server.History.{Transaction, IsHistoryFrom, all_changes, ended_after}
use Rattle.pgsub_core.specs.Server.History.{ended_by, tables_as_of}
use Rattle.pgsub_core.specs.Server.Stream.{Sent, commits_and_keepalives}
use Rattle.pgsub_core.specs.Server.Sessions.{EachStarts, IsSession}
use Rattle.pgsub_core.specs.Subscriber.Safe.{IsSafe, NothingBetween}
use Rattle.pgsub_core.specs.Subscriber.Outcomes.{IsAllowedOutcome}
use Rattle.pgsub_core.specs.Machine.ApplyState.{follow_all}
use Rattle.pgsub_core.specs.Server.Delivers.{CommitsFollow}
use Rattle.pgsub_core.proofs.AllSessions.{all_sessions_allowed}
use Rattle.pgadding.specs.Addition.{Addition, rows_work}
use Rattle.pgadding.specs.Around.{IsAround, IsWholeSession, with_rows}
use Rattle.pgadding.specs.Bytes.{IsPassedSession}
use Rattle.pgadding.specs.Rows.{AreRowsOf}
use Rattle.pgadding.specs.Copies.{IsBefore, NewTableIsTheServers}
use Rattle.pgadding.proofs.LeftItems.{other_changes}
use Rattle.pgadding.proofs.LeftWork.{is_work, xids-without, others-append}
use Rattle.pgadding.proofs.Following.{AreSeen, all_right, all_both, all_without}
use Rattle.pgadding.proofs.Histories.{with_rows_history, seen_from, after-append, after-none}
use Rattle.pgadding.proofs.Kept.{changes-without, server-changes, point-changes, copy-behind}
use Rattle.pgadding.proofs.Kept.{rows_made, then_last}
use Rattle.pgadding.proofs.Bytes.{each_starts, one_session}
use Rattle.pgadding.proofs.Copies.{EachStored, seen_stored, nothing_of_server, starts_safe}

-- ---- the history without the table up to the position

ends_without : (Q : ℕ → Type 0) (oid : ℕ) (ts : List Transaction) → AllByRecursion (λ (t : Transaction). Q t.end) ts
    → AllByRecursion (λ (t : Transaction). Q t.end) (all_without oid ts)
ends_without Q oid [] h = tt
ends_without Q oid (t ∷ ts) h = (h.0, ends_without Q oid ts h.1)

history_without : (oid from : ℕ) (before rest : List Transaction) → IsHistoryFrom from (before ++ rest)
    → IsHistoryFrom from (all_without oid before ++ rest)
history_without oid from [] rest h = h
history_without oid from (t ∷ before) rest h = (
  h.0,
  h.1,
  is_work oid t.work h.2,
  subst (λ xs. AllDiffer (t.xid ∷ xs)) (sym (xids-without oid t.work)) h.3,
  history_without oid t.end before rest h.4,
)

around_without : (a : Addition) (before below above : List Transaction) → IsAround a.point before below above
    → IsAround a.point (all_without a.definition.oid before) below above
around_without a before below above is = record {
  history = history_without a.definition.oid 0 before (below ++ above) is.history;
  some = is.some;
  stored = ends_without (λ end. end < a.point) a.definition.oid before is.stored;
  seen = is.seen;
  unseen = is.unseen;
}

-- what comes after a start is the same
after_same : (s oid : ℕ) (before rest : List Transaction) → AllByRecursion (λ (t : Transaction). t.end ≤ s) before
    → ended_after s (before ++ rest) ≡ ended_after s (all_without oid before ++ rest)
after_same s oid before rest stored =
    after-append s before rest ∙ ap (λ ts. ts ++ ended_after s rest) (after-none s before stored)
    ∙ sym (after-append s (all_without oid before) rest
    ∙ ap (λ ts. ts ++ ended_after s rest) (after-none s (all_without oid before) (ends_without (λ end. end ≤ s) oid before stored)))

session_without : (v : Version) (oid : ℕ) (before rest : List Transaction) (s : ℕ) (sent : List Sent)
    → AllByRecursion (λ (t : Transaction). t.end ≤ s) before
    → IsWholeSession v (before ++ rest) s sent → IsWholeSession v (all_without oid before ++ rest) s sent
session_without v oid before rest s sent stored session = record {
  delivered = record {
    shaped = session.delivered.shaped;
    commits = subst (λ ts. CommitsFollow [] ts (commits_and_keepalives [] sent)) (after_same s oid before rest stored)
        session.delivered.commits;
  };
  whole = session.whole;
  ends = session.ends;
  read = session.read;
}

passed_without : (v : Version) (a : Addition) (before below above : List Transaction) (s : ℕ) (bytes : List ℕ) (complete : List Sent)
    → IsPassedSession v a before below above s bytes complete
    → IsPassedSession v a (all_without a.definition.oid before) below above s bytes complete
passed_without v a before below above s bytes complete passed = record {
  sent = passed.sent;
  later = passed.later;
  stored = ends_without (λ end. end ≤ s) a.definition.oid before passed.stored;
  session = session_without v a.definition.oid before (below ++ above) s (passed.sent ++ passed.later) passed.stored passed.session;
  keeps = passed.keeps;
  written = passed.written;
}

-- ---- its rows from the point on

new_rows : (a : Addition) (before below above : List Transaction) (p : ℕ) (tables : Tables) → IsAround a.point before below above
    → tables_as_of (before ++ (below ++ above)) a.point ≡ Ok tables → AreRowsOf a tables → a.point ≤ p
    → tables_as_of (with_rows a (all_without a.definition.oid before) below above) p ≡ tables_as_of (before ++ (below ++ above)) p
unfolding tables_as_of
new_rows a before below above p tables is e rows le =
    let oid = a.definition.oid in
    let first = all_changes before in
    let both = all_changes below in
    let made = surviving_changes (rows_work a) in
    let last = all_changes (ended_by p above) in
    let seen : AreSeen a.point before = seen_from a.point 0 before (below ++ above) is.stored is.history in
    let at_point : fold_changes map.empty (first ++ both) ≡ Ok tables =
    ap (fold_changes map.empty) (sym (point-changes a.point before below above is)) ∙ e in
    let others : other_changes oid first ++ other_changes oid both ≡ other_changes oid (first ++ both) =
    sym (others-append oid first both) in
    ap (fold_changes map.empty)
    (copy-behind a p (all_without oid before) below above (around_without a before below above is) le
    ∙ ap (λ cs. cs ++ (other_changes oid both ++ (made ++ last))) (changes-without a.point oid before seen)
    ∙ sym (append_assoc (other_changes oid first) (other_changes oid both) (made ++ last))
    ∙ ap (λ cs. cs ++ (made ++ last)) others
    ∙ sym (append_assoc (other_changes oid (first ++ both)) made last))
    ∙ then_last (other_changes oid (first ++ both) ++ made) last tables (rows_made a [] (first ++ both) tables at_point rows)
    ∙ sym (ap (fold_changes map.empty) (server-changes a.point p before below above is le ∙ sym (append_assoc first both last))
    ∙ then_last (first ++ both) last tables at_point)

-- ---- whoever follows

-- nothing that changes rows lies between, where that holds without the table up to the position
nothing_of_all : (a : Addition) (before below above : List Transaction) (position confirmed : ℕ) → IsAround a.point before below above
    → a.point ≤ position
    → NothingBetween (all_without a.definition.oid before ++ (below ++ above)) position confirmed
    → NothingBetween (before ++ (below ++ above)) position confirmed
nothing_of_all a before below above position confirmed is le h =
    all_both (EachStored position confirmed) before (below ++ above)
    (seen_stored a.point position confirmed before le (seen_from a.point 0 before (below ++ above) is.stored is.history))
    (all_right (EachStored position confirmed) (all_without a.definition.oid before) (below ++ above) h)

pub new_table_is_the_servers : NewTableIsTheServers
new_table_is_the_servers v a before below above at_point p old new sessions all_complete is at e rows safe position confirmed sent ran le =
    let bare = all_without a.definition.oid before in
    let history = with_rows a bare below above in
    let around = around_without a before below above is in
    let low : IsBefore a bare below old.position old.confirmed = record {
      stored = ends_without (λ end. end ≤ old.position) a.definition.oid before at.stored;
      missing = at.missing;
      low = at.low;
      unconfirmed = at.unconfirmed;
    } in
    let start : IsSafe history old.tables old.position old.confirmed =
    starts_safe a bare below above old.tables old.position old.confirmed around low safe in
    let between : NothingBetween history p.position p.confirmed =
    subst (λ x. NothingBetween history x p.confirmed) (sym position)
    (subst (λ c. NothingBetween history old.position c) (sym confirmed) start.stored) in
    let followed : EachStarts (IsSession v history) p sessions all_complete =
    each_starts (IsSession v history) (IsPassedSession v a before below above)
    (λ s bytes complete passed.
    one_session v a bare below above s bytes complete around (passed_without v a before below above s bytes complete passed)) sessions
    all_complete p sent in
    let allowed : IsAllowedOutcome history (follow_all v old all_complete) =
    all_sessions_allowed v history sessions all_complete p p.confirmed old (with_rows_history a bare below above around) position confirmed
    start (omega arith) between followed in
    let reached : IsSafe history new.tables new.position new.confirmed = subst (IsAllowedOutcome history) ran allowed in
    record {
      same = sym (new_rows a before below above new.position at_point is e rows le) ∙ reached.same;
      stored = nothing_of_all a before below above new.position new.confirmed is le
          (nothing_of_server a bare below above new.position new.confirmed around le reached.stored);
      below = reached.below;
    }
