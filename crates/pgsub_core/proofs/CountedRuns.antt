-- What is counted message by message, and what commit by commit.
use Rattle.std.proofs.Common.{List, [], ◌∷◌, Option, Some}
use Rattle.pgorder.specs.declared.Version.{Version}
use Rattle.pgorder.specs.Steps.{order_step}
use Rattle.pgapply.specs.declared.commit.About.{About}
use Rattle.pgapply.specs.Tallies.{Tally}
use Rattle.pgsub_core.specs.Server.Stream.{Sent, Data, Keepalive, CommitOrKeepalive, Committed}
use Rattle.pgsub_core.specs.Server.Stream.{KeepaliveEnd, Completed, WholeCommit, StreamedCommit}
use Rattle.pgsub_core.specs.Server.Stream.{end_of}
use Rattle.pgsub_core.specs.Machine.Replica.{Replica, Outcome, Running, Stopped, surviving_items}
use Rattle.pgsub_core.specs.Machine.Replica.{apply_one}
use Rattle.pgsub_core.specs.Machine.ApplyState.{ApplyState, step}
use Rattle.pgsub_core.specs.Machine.Counted.{commit_counted, step_counted}

abbrev pub then_count : {S F : Type 0} → Outcome S F → (S → Tally) → Tally → Tally
then_count (Running next) more m = more next
then_count (Stopped state why) more m = m

abbrev pub sent_counted : Version → ApplyState → Sent → Tally → Tally
sent_counted v st (Data start end clock message) m = step_counted st.replica st.held message (order_step v st.order message) m
sent_counted v st (Keepalive end clock asks) m = m

abbrev pub run_counted : Version → ApplyState → List Sent → Tally → Tally
run_counted v st [] m = m
run_counted v st (x ∷ sent) m = then_count (step v st x) (λ next. run_counted v next sent (sent_counted v st x m)) (sent_counted v st x m)

-- what its message told
abbrev pub told_by : Completed → Option About
told_by (WholeCommit xid lsn end time items) = Some (record { final_lsn = lsn; xid = xid; time = time })
told_by (StreamedCommit xid lsn end time streamed) = Some (record { final_lsn = lsn; xid = xid; time = time })

abbrev pub one_counted : Replica → CommitOrKeepalive → Tally → Tally
one_counted old (Committed completed) m = commit_counted old (end_of completed) (told_by completed) (surviving_items completed) m
one_counted old (KeepaliveEnd end quiet) m = m

abbrev pub commits_counted : Replica → List CommitOrKeepalive → Tally → Tally
commits_counted old [] m = m
commits_counted old (x ∷ ms) m = then_count (apply_one old x) (λ new. commits_counted new ms (one_counted old x m)) (one_counted old x m)
