-- What is passed on with a repair is sessions of the history with it, and the copy is the server's.
use Rattle.std.proofs.Common.{◌≡◌, ◌<◌, ◌≤◌, ◌++◌, inl, inr, ℕ, List, [], ◌∷◌, true, false, cond}
use Rattle.std.proofs.Common.{nat_le, None, Ok, refl, sym, ap, subst, ◌∙◌, arith, append_assoc}
use Rattle.std.specs.FinMap as map
use Rattle.std.proofs.lemmas.Bool.Decides.{leb_tells, nat_tests}
use Rattle.pgorder.specs.declared.Version.{Version}
use Rattle.pgapply.specs.Value.{Tables, AreTables}
use Rattle.pgapply.specs.Apply.{Change, fold_changes, ◌>>=◌}
use Rattle.pgapply.proofs.KeepsForm.{fold_keeps, none_keeps}
use Rattle.pgsub_core.specs.Server.Work.{surviving_changes}
use Rattle.pgsub_core.specs.Server.History.{Transaction, all_changes, ended_after, ended_by}
use Rattle.pgsub_core.specs.Server.History.{tables_as_of}
use Rattle.pgsub_core.specs.Server.Stream.{Sent, messages_in, commits_and_keepalives}
use Rattle.pgsub_core.specs.Server.Delivers.{Delivers, CommitsFollow}
use Rattle.pgsub_core.specs.Server.Sessions.{EachStarts, IsSession, IsIncoming}
use Rattle.pgsub_core.specs.Subscriber.Safe.{IsSafe, NothingBetween}
use Rattle.pgsub_core.specs.Subscriber.Outcomes.{IsAllowedOutcome}
use Rattle.pgsub_core.specs.Machine.ApplyState.{follow_all}
use Rattle.pgsub_core.proofs.Changes.{fold-append}
use Rattle.pgsub_core.proofs.Fronts.{delivers_front}
use Rattle.pgsub_core.proofs.AllSessions.{all_sessions_allowed}
use Rattle.pgadding.specs.Around.{IsAround, IsWholeSession}
use Rattle.pgadding.specs.Repair.{Repair, IsRepair, repair_transaction, mended_work}
use Rattle.pgadding.specs.Repairing.{repairing, repaired_on, with_repair}
use Rattle.pgadding.specs.Repaired.{AreAround, AreStored, RepairedIsDelivered, IsRepairedSession}
use Rattle.pgadding.specs.Repaired.{IsRepairedIncoming, RepairedSessionsAreSessions}
use Rattle.pgadding.specs.Repaired.{RepairedRowsAreTheServers, MendedRowsAreTheServers}
use Rattle.pgadding.specs.Repaired.{UnrepairedIsTheSame, RepairedCopyIsTheServers}
use Rattle.pgadding.proofs.Ordered.{InOrder, in_order, shaped}
use Rattle.pgadding.proofs.Following.{all_left, all_right, all_both}
use Rattle.pgadding.proofs.Histories.{all_seen, seen_from, seen_after, after-server}
use Rattle.pgadding.proofs.Kept.{three, server-changes, point-changes, then_last, ended_whole}
use Rattle.pgadding.proofs.Bytes.{each_starts}
use Rattle.pgadding.proofs.Copies.{EachStored, seen_stored}
use Rattle.pgadding.proofs.MendedTables.{repair_makes, is_repair, some_made, fold_same}
use Rattle.pgadding.proofs.RepairHistories.{with_repair_history, after-repair, after-repaired}
use Rattle.pgadding.proofs.RepairPassed.{RepairReady, repair_passed, repairing_order}
use Rattle.pgadding.proofs.RepairPassed.{repairing_front}

-- ---- sessions

whole_repaired : (v : Version) (r : Repair) (other before below above : List Transaction) (s : ℕ) (sent : List Sent) → IsRepair r
    → AreAround r.point other before below above → AreStored s other before
    → IsWholeSession v (before ++ (below ++ above)) s sent → s < r.point
    → Delivers v (with_repair r other below above) s (repairing r None sent)
whole_repaired v r other before below above s sent is around stored session lt =
    let shape = session.delivered.shaped in
    let order : InOrder None (messages_in sent) =
    in_order v shape.pieces (messages_in sent) shape.rest shape.follow session.whole shape.front in
    let ready : RepairReady r above None [] [] (ended_after s below) sent = record {
      order = order;
      ends = session.ends;
      at = refl;
      here = tt;
      seen = seen_after r.point s below (all_seen r.point before below above around.server);
      follow = subst (λ ts. CommitsFollow [] ts (commits_and_keepalives [] sent))
          (after-server r.point s before below above around.server lt stored.servers) session.delivered.commits;
    } in
    record {
      shaped = shaped v (messages_in (repairing r None sent)) (repairing_order r None sent order);
      commits = subst (λ ts. CommitsFollow [] ts (commits_and_keepalives [] (repairing r None sent)))
          (sym (after-repair r s other below above around.copy lt stored.others))
          (repair_passed r above is around.server.unseen sent None [] [] (ended_after s below) ready);
    }

stored_repaired : (v : Version) (r : Repair) (other before below above : List Transaction) (s : ℕ) (sent : List Sent)
    → AreAround r.point other before below above → r.point ≤ s
    → Delivers v (before ++ (below ++ above)) s sent → Delivers v (with_repair r other below above) s sent
stored_repaired v r other before below above s sent around le delivered = record {
  shaped = delivered.shaped;
  commits = subst (λ ts. CommitsFollow [] ts (commits_and_keepalives [] sent))
      (after-repaired r s other before below above around.copy around.server le) delivered.commits;
}

pub repaired_delivered : RepairedIsDelivered
repaired_delivered v r other before below above s sent later is around stored session =
    let history = with_repair r other below above in
    elim (nat_le r.point s) as
    (λ b. nat_le r.point s ≡ b → Delivers v (with_repair r other below above) s (cond b sent (repairing r None sent))) [
      | true ↦ λ e. stored_repaired v r other before below above s sent around (grind (arith, leb_tells))
          (delivers_front v (before ++ (below ++ above)) s sent later session.delivered)
      | false ↦ λ e.
          let lt : s < r.point = grind (arith, leb_tells) in
          let front = repairing_front r None sent later in
          delivers_front v history s (repairing r None sent) front.more
          (subst (Delivers v history s) front.all
          (whole_repaired v r other before below above s (sent ++ later) is around stored session lt))
    ] refl

one_session : (v : Version) (r : Repair) (other before below above : List Transaction) → IsRepair r
    → AreAround r.point other before below above → (s : ℕ) (bytes : List ℕ) (complete : List Sent)
    → IsRepairedSession v r other before below above s bytes complete → IsSession v (with_repair r other below above) s bytes complete
one_session v r other before below above is around s bytes complete passed = record {
  sent = repaired_on r s passed.sent;
  done = passed.written.done;
  behind = passed.written.behind;
  delivered = repaired_delivered v r other before below above s passed.sent passed.later is around passed.stored passed.session;
  fits = passed.written.fits;
  at_end = passed.written.at_end;
  front = passed.written.front;
  later = passed.written.later;
  rest = passed.written.rest;
  parts = passed.written.parts;
  stands = passed.written.stands;
  short = passed.written.short;
}

one_incoming : (v : Version) (r : Repair) (other before below above : List Transaction) → IsRepair r
    → AreAround r.point other before below above → (s : ℕ) (bytes : List ℕ) (complete : List Sent)
    → IsRepairedIncoming v r other before below above s bytes complete → IsIncoming v (with_repair r other below above) s bytes complete
one_incoming v r other before below above is around s bytes complete (inl passed) =
    inl (one_session v r other before below above is around s bytes complete passed)
one_incoming v r other before below above is around s bytes complete (inr ends) =
    inr (ends.0, one_session v r other before below above is around s _ complete ends.1)

pub repaired_sessions : RepairedSessionsAreSessions
repaired_sessions v r other before below above p sessions all_complete is around h =
    each_starts (IsIncoming v (with_repair r other below above)) (IsRepairedIncoming v r other before below above)
    (one_incoming v r other before below above is around) sessions all_complete p h

-- ---- rows

-- the repair's changes, where it ends by p
abbrev repair_changes : Repair → ℕ → List Change
repair_changes r p = cond (nat_le r.point p) (surviving_changes (mended_work r.tables)) []

behind_it : (r : Repair) (p : ℕ) (above : List Transaction)
    → all_changes (ended_by p (repair_transaction r ∷ above)) ≡ repair_changes r p ++ all_changes (ended_by p above)
behind_it r p above =
    elim (nat_le r.point p) as
    (λ b. all_changes (cond b (repair_transaction r ∷ ended_by p above) (ended_by p above))
    ≡ cond b (surviving_changes (mended_work r.tables)) [] ++ all_changes (ended_by p above)) [ true ↦ refl | false ↦ refl ]

copy_changes : (r : Repair) (p : ℕ) (other below above : List Transaction)
    → all_changes (ended_by p (with_repair r other below above)) ≡ all_changes (ended_by p other)
    ++ (all_changes (ended_by p below) ++ (repair_changes r p ++ all_changes (ended_by p above)))
copy_changes r p other below above =
    three p other below (repair_transaction r ∷ above)
    ∙ ap (λ cs. all_changes (ended_by p other) ++ (all_changes (ended_by p below) ++ cs)) (behind_it r p above)

-- from the point on
copy_behind : (r : Repair) (p : ℕ) (other below above : List Transaction) → IsAround r.point other below above → r.point ≤ p
    → all_changes (ended_by p (with_repair r other below above)) ≡ all_changes other
    ++ (all_changes below ++ (surviving_changes (mended_work r.tables) ++ all_changes (ended_by p above)))
copy_behind r p other below above around le =
    let last = all_changes (ended_by p above) in
    let there : nat_le r.point p ≡ true = grind (arith, nat_tests) in
    copy_changes r p other below above
    ∙ ap (λ ts. all_changes ts ++ (all_changes (ended_by p below) ++ (repair_changes r p ++ last)))
    (ended_whole r.point p other le around.stored)
    ∙ ap (λ ts. all_changes other ++ (all_changes ts ++ (repair_changes r p ++ last))) (ended_whole r.point p below le around.seen)
    ∙ ap (λ b. all_changes other ++ (all_changes below ++ (cond b (surviving_changes (mended_work r.tables)) [] ++ last))) there

-- what a history gives is of the form
given_form : (cs : List Change) (tables : Tables) → fold_changes map.empty cs ≡ Ok tables → AreTables tables
given_form cs tables e = fold_keeps cs map.empty tables none_keeps e

pub repaired_rows : RepairedRowsAreTheServers
unfolding tables_as_of
repaired_rows r other before below above p is le =
    let around = is.around in
    let copied = all_changes other in
    let first = all_changes before in
    let both = all_changes below in
    let mended = surviving_changes (mended_work r.tables) in
    let last = all_changes (ended_by p above) in
    let ours : fold_changes map.empty (copied ++ both) ≡ Ok is.copy =
    ap (fold_changes map.empty) (sym (point-changes r.point other below above around.copy)) ∙ is.ours in
    let theirs : fold_changes map.empty (first ++ both) ≡ Ok is.server =
    ap (fold_changes map.empty) (sym (point-changes r.point before below above around.server)) ∙ is.theirs in
    let makes : fold_changes is.copy mended ≡ Ok is.server =
    repair_makes r is.copy is.server (given_form (copied ++ both) is.copy ours) (given_form (first ++ both) is.server theirs) is.differs in
    ap (fold_changes map.empty) (copy_behind r p other below above around.copy le ∙ sym (append_assoc copied both (mended ++ last)))
    ∙ then_last (copied ++ both) (mended ++ last) is.copy ours
    ∙ fold-append mended last is.copy
    ∙ ap (λ t. t >>= λ n. fold_changes n last) makes
    ∙ sym (ap (fold_changes map.empty) (server-changes r.point p before below above around.server le ∙ sym (append_assoc first both last))
    ∙ then_last (first ++ both) last is.server theirs)

-- what is made of some tables at the point, and then
pub mended_rows : MendedRowsAreTheServers
unfolding tables_as_of
mended_rows r other before below above p copy server ours theirs around e f is le g h oid among =
    let copied = all_changes other in
    let first = all_changes before in
    let both = all_changes below in
    let mended = surviving_changes (mended_work r.tables) in
    let last = all_changes (ended_by p above) in
    let here : fold_changes map.empty (copied ++ both) ≡ Ok copy =
    ap (fold_changes map.empty) (sym (point-changes r.point other below above around.copy)) ∙ e in
    let there : fold_changes map.empty (first ++ both) ≡ Ok server =
    ap (fold_changes map.empty) (sym (point-changes r.point before below above around.server)) ∙ f in
    let made = some_made r copy server (given_form (copied ++ both) copy here) (given_form (first ++ both) server there) is in
    let mine : fold_changes made.next last ≡ Ok ours =
    sym (ap (fold_changes map.empty) (copy_behind r p other below above around.copy le ∙ sym (append_assoc copied both (mended ++ last)))
    ∙ then_last (copied ++ both) (mended ++ last) copy here
    ∙ fold-append mended last copy
    ∙ ap (λ t. t >>= λ n. fold_changes n last) made.is) ∙ g in
    let its : fold_changes server last ≡ Ok theirs =
    sym (ap (fold_changes map.empty) (server-changes r.point p before below above around.server le ∙ sym (append_assoc first both last))
    ∙ then_last (first ++ both) last server there) ∙ h in
    fold_same oid last made.next server ours theirs (made.these oid among) mine its

-- below the point
copy_below : (r : Repair) (p : ℕ) (other below above : List Transaction) → p < r.point
    → all_changes (ended_by p (with_repair r other below above)) ≡ all_changes (ended_by p (other ++ (below ++ above)))
copy_below r p other below above lt =
    let late : nat_le r.point p ≡ false = grind (arith, nat_tests) in
    copy_changes r p other below above
    ∙ ap (λ b. all_changes (ended_by p other)
    ++ (all_changes (ended_by p below) ++ (cond b (surviving_changes (mended_work r.tables)) [] ++ all_changes (ended_by p above))))
    late
    ∙ sym (three p other below above)

-- ---- the copy

-- nothing that changes rows lies between, where it doesn't without the repair
nothing_with : (r : Repair) (other below above : List Transaction) (position confirmed : ℕ) → confirmed < r.point
    → NothingBetween (other ++ (below ++ above)) position confirmed → NothingBetween (with_repair r other below above) position confirmed
nothing_with r other below above position confirmed lt h =
    let rest = all_right (EachStored position confirmed) other (below ++ above) h in
    all_both (EachStored position confirmed) other (below ++ repair_transaction r ∷ above)
    (all_left (EachStored position confirmed) other (below ++ above) h)
    (all_both (EachStored position confirmed) below (repair_transaction r ∷ above)
    (all_left (EachStored position confirmed) below above rest) (
      (λ changes by. let late : r.point ≤ confirmed = by in absurd (omega arith)),
      all_right (EachStored position confirmed) below above rest,
    ))

nothing_without : (r : Repair) (other below above : List Transaction) (position confirmed : ℕ)
    → NothingBetween (with_repair r other below above) position confirmed → NothingBetween (other ++ (below ++ above)) position confirmed
nothing_without r other below above position confirmed h =
    let behind = below ++ repair_transaction r ∷ above in
    let rest = all_right (EachStored position confirmed) other behind h in
    all_both (EachStored position confirmed) other (below ++ above) (all_left (EachStored position confirmed) other behind h)
    (all_both (EachStored position confirmed) below above
    (all_left (EachStored position confirmed) below (repair_transaction r ∷ above) rest)
    (all_right (EachStored position confirmed) below (repair_transaction r ∷ above) rest).1)

-- from the point on all that the server has below it is stored
nothing_of_server : (r : Repair) (other before below above : List Transaction) (position confirmed : ℕ)
    → IsAround r.point before below above → r.point ≤ position
    → NothingBetween (with_repair r other below above) position confirmed → NothingBetween (before ++ (below ++ above)) position confirmed
nothing_of_server r other before below above position confirmed around le h =
    let rest = all_right (EachStored position confirmed) other (below ++ repair_transaction r ∷ above) h in
    all_both (EachStored position confirmed) before (below ++ above)
    (seen_stored r.point position confirmed before le (seen_from r.point 0 before (below ++ above) around.stored around.history))
    (all_both (EachStored position confirmed) below above
    (all_left (EachStored position confirmed) below (repair_transaction r ∷ above) rest)
    (all_right (EachStored position confirmed) below (repair_transaction r ∷ above) rest).1)

pub unrepaired : UnrepairedIsTheSame
unfolding tables_as_of
unrepaired r other below above tables position confirmed around low unconfirmed safe = record {
  same = ap (fold_changes map.empty) (sym (copy_below r position other below above low)) ∙ safe.same;
  stored = nothing_without r other below above position confirmed safe.stored;
  below = safe.below;
}

starts_safe : (r : Repair) (other below above : List Transaction) (tables : Tables) (position confirmed : ℕ) → position < r.point
    → confirmed < r.point
    → IsSafe (other ++ (below ++ above)) tables position confirmed → IsSafe (with_repair r other below above) tables position confirmed
unfolding tables_as_of
starts_safe r other below above tables position confirmed low unconfirmed safe = record {
  same = ap (fold_changes map.empty) (copy_below r position other below above low) ∙ safe.same;
  stored = nothing_with r other below above position confirmed unconfirmed safe.stored;
  below = safe.below;
}

pub repaired_copy : RepairedCopyIsTheServers
repaired_copy v r other before below above p old new sessions all_complete is low unconfirmed safe position confirmed sent ran le =
    let history = with_repair r other below above in
    let around = is.around in
    let changes : IsRepair r = is_repair is.copy is.server r.tables is.differs.mended.each in
    let start : IsSafe history old.tables old.position old.confirmed =
    starts_safe r other below above old.tables old.position old.confirmed low unconfirmed safe in
    let between : NothingBetween history p.position p.confirmed =
    subst (λ x. NothingBetween history x p.confirmed) (sym position)
    (subst (λ c. NothingBetween history old.position c) (sym confirmed) start.stored) in
    let followed : EachStarts (IsSession v history) p sessions all_complete =
    each_starts (IsSession v history) (IsRepairedSession v r other before below above)
    (one_session v r other before below above changes around) sessions all_complete p sent in
    let allowed : IsAllowedOutcome history (follow_all v old all_complete) =
    all_sessions_allowed v history sessions all_complete p p.confirmed old (with_repair_history r other below above changes around.copy)
    position confirmed start (omega arith) between followed in
    let reached : IsSafe history new.tables new.position new.confirmed = subst (IsAllowedOutcome history) ran allowed in
    record {
      same = sym (repaired_rows r other before below above new.position is le) ∙ reached.same;
      stored = nothing_of_server r other before below above new.position new.confirmed around.server le reached.stored;
      below = reached.below;
    }
