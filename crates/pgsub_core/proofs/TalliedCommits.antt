-- What the commits of a history's session count is the history's tally between the positions.
use Rattle.std.proofs.Common.{◌≡◌, ◌<◌, ◌≤◌, ℕ, List, [], ◌∷◌, ◌++◌, true, false, cond, Option}
use Rattle.std.proofs.Common.{Result, Ok, Err, refl, sym, ap, subst, ◌∙◌, arith, append_assoc, inl}
use Rattle.std.proofs.Common.{inr, max}
use Rattle.std.specs.Prelude.{nat_lt}
use Rattle.std.specs.FinMap as map
use Rattle.std.proofs.lemmas.Bool.{cases_lt}
use Rattle.std.proofs.lemmas.Bool.Decides.{nat_tests}
use Rattle.pglogical.specs.declared.message.RelationDef.{RelationDef}
use Rattle.pglogical.specs.declared.message.Item.{Item}
use Rattle.pgapply.specs.declared.commit.About.{About}
use Rattle.pgapply.specs.declared.fault.StoreFault.{StoreFault}
use Rattle.pgapply.specs.Value.{Tables}
use Rattle.pgapply.specs.Apply.{fold_changes}
use Rattle.pgapply.specs.Tallies.{Tally, with_commit}
use Rattle.pgsub_core.specs.Server.Work.{surviving_changes, xids_of, AllDiffer}
use Rattle.pgsub_core.specs.Server.History.{Transaction, IsHistory, IsHistoryFrom}
use Rattle.pgsub_core.specs.Server.Described.{described, described_from, relations_after}
use Rattle.pgsub_core.specs.Server.Stream.{CommitOrKeepalive, Committed, KeepaliveEnd, Completed}
use Rattle.pgsub_core.specs.Server.Stream.{WholeCommit, StreamedCommit, end_of}
use Rattle.pgsub_core.specs.Server.Delivers.{ChangeNothing, IsCommitOf, CommitsFollow}
use Rattle.pgsub_core.specs.Machine.Replica.{Replica, RelationCache, Running, stored, taken}
use Rattle.pgsub_core.specs.Machine.Replica.{on_commit, then_run, apply_all, all_cached}
use Rattle.pgsub_core.specs.Machine.Replica.{surviving_items}
use Rattle.pgsub_core.specs.Machine.Counted.{changes_counted, commit_counted}
use Rattle.pgsub_core.specs.Subscriber.Tallied.{told_of, history_tallied}
use Rattle.pgsub_core.proofs.Changes.{AllEndBy-append, AllEndBy-nothing, later-after}
use Rattle.pgsub_core.proofs.Surviving.{commit_survives}
use Rattle.pgsub_core.proofs.RelationCaches.{Knows, knows_all, described_by_cache}
use Rattle.pgsub_core.proofs.Safety.{IsAmid, amid-keepalive, amid-repeat, amid-commit, commit_end}
use Rattle.pgsub_core.proofs.Safety.{differ-of}
use Rattle.pgsub_core.proofs.Reaching.{above, reached_by}
use Rattle.pgsub_core.proofs.Steps.{running}
use Rattle.pgsub_core.proofs.CountedRuns.{then_count, told_by, commits_counted}
use Rattle.pgsub_core.proofs.TalliedBetween.{tallied_none, tallied_on, tallied_next}

-- a commit tells what its transaction is
commit_tells : (t : Transaction) (c : Completed) (surviving : List Item) → IsCommitOf t c surviving → told_by c ≡ told_of t
commit_tells t (WholeCommit xid lsn end time items) surviving h = rw (h.0, h.1, h.3) refl
commit_tells t (StreamedCommit xid lsn end time streamed) surviving h = rw (h.0, h.1, h.3) refl

-- what is counted of a commit and of what comes behind it, where all is applied
abbrev IsTallied : List Transaction → List CommitOrKeepalive → Replica → Replica → Tally → ℕ → Option About → List Item → Type 0
IsTallied history ms old new m end about items =
    then_run (on_commit old end items) (λ mid. apply_all mid ms) ≡ Running new
    → then_count (on_commit old end items) (λ mid. commits_counted mid ms (commit_counted old end about items m))
    (commit_counted old end about items m)
    ≡ history_tallied history old.position new.position m

-- what comes behind a commit counts what is tallied from there on
abbrev CountsOn : List Transaction → List CommitOrKeepalive → Replica → List Transaction → RelationCache → Type 0
CountsOn history ms new later relations =
    (mid : Replica) → mid.relations ≡ relations → IsAmid history mid later → apply_all mid ms ≡ Running new → (m : Tally)
    → commits_counted mid ms m ≡ history_tallied history mid.position new.position m

module _ (history : List Transaction) (is : IsHistory history) (ms : List CommitOrKeepalive) (old new : Replica)
    (left_out later : List Transaction) (t : Transaction) (relations : RelationCache) (nothing : ChangeNothing left_out)
    (amid : IsAmid history old (left_out ++ t ∷ later)) (rest : CountsOn history ms new later relations) where
  abbrev came : List Transaction
  came = amid.gone ++ left_out

  whole : came ++ t ∷ later ≡ history
  whole = append_assoc amid.gone left_out (t ∷ later) ∙ amid.parts

  passed : old.position < t.end → (m : Tally) (r : Result Tables StoreFault) → fold_changes old.tables (surviving_changes t.work) ≡ r
      → then_run (stored old t.end relations r) (λ mid. apply_all mid ms) ≡ Running new
      → then_count (stored old t.end relations r)
      (λ mid. commits_counted mid ms (with_commit m old.tables t.end (told_of t) (surviving_changes t.work)))
      (with_commit m old.tables t.end (told_of t) (surviving_changes t.work))
      ≡ history_tallied history old.position new.position m
  passed lt m (Err fault) made h = absurd (cc)
  passed lt m (Ok tables) made h =
      let mid : Replica = record { tables = tables; position = t.end; confirmed = max old.confirmed t.end; relations = relations } in
      let here = amid-commit history old left_out later t relations tables is nothing lt made amid in
      let low : t.end ≤ new.position = let at = (reached_by ms mid new (omega arith) h).0 in let more = above ms t.end in omega arith in
      let after = later-after 0 came t later (subst IsHistory (sym whole) is) in
      let by = AllEndBy-append old.position amid.gone left_out amid.ended (AllEndBy-nothing old.position left_out nothing) in
      rest mid refl here h (with_commit m old.tables t.end (told_of t) (surviving_changes t.work))
      ∙ ap (history_tallied history t.end new.position)
      (sym (tallied_next history came later t old.position old.tables m whole by lt after amid.safe.same))
      ∙ sym (tallied_on history old.position t.end new.position old.tables tables m is (omega arith) low amid.safe.same here.safe.same)

  module _ (earlier : List RelationDef) (items : List Item) (knows : Knows old.relations earlier)
      (desc : described earlier items ≡ Ok (surviving_changes t.work)) (known : all_cached old.relations items ≡ relations) where
    commit_passes : old.position < t.end → (m : Tally) → IsTallied history ms old new m t.end (told_of t) items
    commit_passes lt m h =
        let yes : nat_lt old.position t.end ≡ true = grind (arith, nat_tests) in
        let find = described_from (λ oid. map.get old.relations oid) items in
        let found : find ≡ Ok (surviving_changes t.work) = described_by_cache old.relations earlier items knows ∙ desc in
        let is_stored : on_commit old t.end items ≡ stored old t.end relations (fold_changes old.tables (surviving_changes t.work)) =
        ap (λ b. cond b (taken old t.end (all_cached old.relations items) find)
        (Running (record old { relations = all_cached old.relations items }))) yes
        ∙ ap (taken old t.end (all_cached old.relations items)) found
        ∙ ap (λ cache. stored old t.end cache (fold_changes old.tables (surviving_changes t.work))) known in
        let is_counted : commit_counted old t.end (told_of t) items m
        ≡ with_commit m old.tables t.end (told_of t) (surviving_changes t.work) =
        ap (λ b. cond b (changes_counted old.tables t.end (told_of t) find m) m) yes
        ∙ ap (λ r. changes_counted old.tables t.end (told_of t) r m) found in
        ap (λ (k : Tally). then_count (on_commit old t.end items) (λ mid. commits_counted mid ms k) k) is_counted
        ∙ ap (λ o. then_count o (λ mid. commits_counted mid ms (with_commit m old.tables t.end (told_of t) (surviving_changes t.work)))
        (with_commit m old.tables t.end (told_of t) (surviving_changes t.work))) is_stored
        ∙ passed lt m (fold_changes old.tables (surviving_changes t.work)) refl
        (sym (ap (λ o. then_run o (λ mid. apply_all mid ms)) is_stored) ∙ h)

    commit_repeats : t.end ≤ old.position → (m : Tally) → IsTallied history ms old new m t.end (told_of t) items
    commit_repeats le m h =
        let no : nat_lt old.position t.end ≡ false = grind (arith, nat_tests) in
        let find = described_from (λ oid. map.get old.relations oid) items in
        let is_kept : on_commit old t.end items ≡ Running (record old { relations = relations }) =
        ap (λ b. cond b (taken old t.end (all_cached old.relations items) find)
        (Running (record old { relations = all_cached old.relations items }))) no
        ∙ ap (λ cache. Running (record old { relations = cache })) known in
        let is_counted : commit_counted old t.end (told_of t) items m ≡ m =
        ap (λ b. cond b (changes_counted old.tables t.end (told_of t) find m) m) no in
        ap (λ (k : Tally). then_count (on_commit old t.end items) (λ mid. commits_counted mid ms k) k) is_counted
        ∙ ap (λ o. then_count o (λ mid. commits_counted mid ms m) m) is_kept
        ∙ rest (record old { relations = relations }) refl (amid-repeat history old left_out later t relations nothing le amid)
        (sym (ap (λ o. then_run o (λ mid. apply_all mid ms)) is_kept) ∙ h) m

    commit_tallied : (m : Tally) → IsTallied history ms old new m t.end (told_of t) items
    commit_tallied m h = elim (cases_lt old.position t.end) [ inl lt ↦ commit_passes lt m h | inr le ↦ commit_repeats le m h ]

-- from the middle of a session on
pub commits_tallied : (history : List Transaction) → IsHistory history
    → (ms : List CommitOrKeepalive) (old new : Replica) (earlier : List RelationDef) (remaining : List Transaction)
    → IsAmid history old remaining → Knows old.relations earlier → CommitsFollow earlier remaining ms → apply_all old ms ≡ Running new
    → (m : Tally) → commits_counted old ms m ≡ history_tallied history old.position new.position m
commits_tallied history is [] old new earlier remaining amid knows follow h m =
    sym (ap (λ (r : Replica). history_tallied history old.position r.position m) (sym (running h)) ∙ tallied_none history old.position m)
commits_tallied history is (KeepaliveEnd end true ∷ ms) old new earlier remaining amid knows follow h m =
    commits_tallied history is ms (record old { confirmed = max old.confirmed end }) new earlier remaining
    (amid-keepalive history old remaining end follow.0 amid) knows follow.1 h m
commits_tallied history is (KeepaliveEnd end false ∷ ms) old new earlier remaining amid knows follow h m =
    commits_tallied history is ms old new earlier remaining amid knows follow.1 h m
commits_tallied history is (Committed completed ∷ ms) old new earlier remaining amid knows follow h m =
    let left_out = follow.0 in
    let t = follow.1 in
    let later = follow.2 in
    let items = follow.3 in
    let here : IsAmid history old (left_out ++ t ∷ later) = subst (IsAmid history old) follow.4 amid in
    let ordered : IsHistoryFrom 0 ((here.gone ++ left_out) ++ t ∷ later) = rw append_assoc (subst IsHistory (sym here.parts) is) in
    let differ : AllDiffer (t.xid ∷ xids_of t.work) = differ-of 0 (here.gone ++ left_out) t later ordered in
    let on : CountsOn history ms new later (all_cached old.relations items) = λ mid known amid' h' m'.
    commits_tallied history is ms mid new (relations_after earlier items) later amid'
    (subst (λ relations. Knows relations (relations_after earlier items)) (sym known) (knows_all items old.relations earlier knows))
    follow.8 h' m' in
    let one = commit_tallied history is ms old new left_out later t (all_cached old.relations items) follow.5 here on earlier items knows
    follow.7 refl m in
    let ends : end_of completed ≡ t.end = commit_end t completed items follow.6 in
    let survive : surviving_items completed ≡ items = commit_survives t completed items differ follow.6 in
    let tells : told_by completed ≡ told_of t = commit_tells t completed items follow.6 in
    subst (λ e. IsTallied history ms old new m e (told_by completed) (surviving_items completed)) (sym ends)
    (subst (λ about. IsTallied history ms old new m t.end about (surviving_items completed)) (sym tells)
    (subst (IsTallied history ms old new m t.end (told_of t)) (sym survive) one)) h
