use Rattle.std.proofs.Common.{◌≡◌, ℕ, List, refl, subst, sym}
use Rattle.pgsub_cli.specs.declared.reporting.Counted.{Counted}
use Rattle.pgsub_cli.specs.declared.reported.Reported.{Reported}
use Rattle.pgsub_cli.specs.declared.reporting.Commits.{Commits}
use Rattle.pgsub_cli.specs.Reports.{input_within}
use Rattle.pgsub_cli.specs.StoreAfter.{HoldsAfter, MayBeLeft, LosesNothing}
use Rattle.pgsub_cli.specs.Storing.{PrintsOver}
use Rattle.pgsub_cli.proofs.Within.{holds_within, left_within, loses_within, prints_within}
use Rattle.pgsub_cli.proofs.reporting.run_opened.Goals as goal

pub returns-clause-ends : goal.returns-clause-ends
returns-clause-ends g c =
    let it = g.C.ReplicaStore in
    let gives : g.row.R.Denot → List ℕ → Type 0 = g.R.Input.gives in
    let begins : g.row.R.Denot → List ℕ → Type 0 = g.R.Input.begins in
    let failed : g.row.R.Denot → Type 0 = g.R.Input.failed in
    let reader : Counted g.row.R.Denot g.row.K.Denot g.row.P.Denot → g.row.R.Denot = λ q. q.file in
    let inner : Reported g.row.C.Denot (Commits g.row.K.Denot g.row.P.Denot) → g.row.C.Denot = λ s. s.store in
    let there = c.run_within-status.result.1 in
    let out' = c.run_within-status.new.out in
    let e = c.run_within-status.ensures.ends in (
      e.0,
      e.1,
      subst (λ i. PrintsOver gives begins failed it.holds it.place it.is_honest g.W.Output.takes g.W.Output.failed c.args.limits i
          c.args.store c.into_store.result c.args.out.now out' e.0)
          c.count_bytes-counted.ensures
          (subst (λ s. PrintsOver gives begins failed it.holds it.place it.is_honest g.W.Output.takes g.W.Output.failed c.args.limits
          (input_within reader c.count_bytes-counted.result) s c.into_store.result c.args.out.now out' e.0) c.new-store.ensures
          (subst (λ s. PrintsOver gives begins failed it.holds it.place it.is_honest g.W.Output.takes g.W.Output.failed c.args.limits
          (input_within reader c.count_bytes-counted.result) (inner c.new-store.result) s c.args.out.now out' e.0)
          (sym c.into_store.ensures)
          (prints_within reader inner gives begins failed it.holds it.place it.is_honest g.W.Output.takes g.W.Output.failed c.args.limits
          c.count_bytes-counted.result c.new-store.result there c.args.out.now out' e.0 e.2))),
      e.3,
    )

pub returns-clause-kept : goal.returns-clause-kept
returns-clause-kept g c serves =
    let it = g.C.ReplicaStore in
    let gives : g.row.R.Denot → List ℕ → Type 0 = g.R.Input.gives in
    let begins : g.row.R.Denot → List ℕ → Type 0 = g.R.Input.begins in
    let failed : g.row.R.Denot → Type 0 = g.R.Input.failed in
    let reader : Counted g.row.R.Denot g.row.K.Denot g.row.P.Denot → g.row.R.Denot = λ q. q.file in
    let inner : Reported g.row.C.Denot (Commits g.row.K.Denot g.row.P.Denot) → g.row.C.Denot = λ s. s.store in
    let there = c.run_within-status.result.1 in
    subst (λ i. HoldsAfter gives begins failed it.holds it.place c.args.limits i c.args.store c.into_store.result)
    c.count_bytes-counted.ensures
    (subst (λ s. HoldsAfter gives begins failed it.holds it.place c.args.limits (input_within reader c.count_bytes-counted.result) s
    c.into_store.result) c.new-store.ensures
    (subst (λ s. HoldsAfter gives begins failed it.holds it.place c.args.limits (input_within reader c.count_bytes-counted.result)
    (inner c.new-store.result) s) (sym c.into_store.ensures)
    (holds_within reader inner gives begins failed it.holds it.place c.args.limits c.count_bytes-counted.result c.new-store.result there
    (c.run_within-status.ensures.kept (subst it.serves c.into_store.ensures serves)))))

pub returns-clause-left : goal.returns-clause-left
returns-clause-left g c honest =
    let it = g.C.ReplicaStore in
    let gives : g.row.R.Denot → List ℕ → Type 0 = g.R.Input.gives in
    let begins : g.row.R.Denot → List ℕ → Type 0 = g.R.Input.begins in
    let failed : g.row.R.Denot → Type 0 = g.R.Input.failed in
    let reader : Counted g.row.R.Denot g.row.K.Denot g.row.P.Denot → g.row.R.Denot = λ q. q.file in
    let inner : Reported g.row.C.Denot (Commits g.row.K.Denot g.row.P.Denot) → g.row.C.Denot = λ s. s.store in
    let there = c.run_within-status.result.1 in
    let outer : g.row.C.Denot → Reported g.row.C.Denot (Commits g.row.K.Denot g.row.P.Denot) =
    λ s. record {
      store = s;
      listener = c.new-store.result.listener;
      commits = c.new-store.result.commits;
      changes = c.new-store.result.changes;
    } in
    let back : (s : g.row.C.Denot) → inner (outer s) ≡ s = λ _. refl in
    subst (λ i. MayBeLeft gives begins failed it.holds it.place it.reopens it.serves c.args.limits i c.args.store c.into_store.result)
    c.count_bytes-counted.ensures
    (subst (λ s. MayBeLeft gives begins failed it.holds it.place it.reopens it.serves c.args.limits
    (input_within reader c.count_bytes-counted.result) s c.into_store.result) c.new-store.ensures
    (subst (λ s. MayBeLeft gives begins failed it.holds it.place it.reopens it.serves c.args.limits
    (input_within reader c.count_bytes-counted.result) (inner c.new-store.result) s) (sym c.into_store.ensures)
    (left_within reader inner gives begins failed it.holds it.place outer back it.reopens it.serves c.args.limits
    c.count_bytes-counted.result c.new-store.result there
    (c.run_within-status.ensures.left (subst it.is_honest c.into_store.ensures honest)))))

pub returns-clause-crash : goal.returns-clause-crash
returns-clause-crash g c honest serves =
    let it = g.C.ReplicaStore in
    let gives : g.row.R.Denot → List ℕ → Type 0 = g.R.Input.gives in
    let begins : g.row.R.Denot → List ℕ → Type 0 = g.R.Input.begins in
    let failed : g.row.R.Denot → Type 0 = g.R.Input.failed in
    let reader : Counted g.row.R.Denot g.row.K.Denot g.row.P.Denot → g.row.R.Denot = λ q. q.file in
    let inner : Reported g.row.C.Denot (Commits g.row.K.Denot g.row.P.Denot) → g.row.C.Denot = λ s. s.store in
    let there = c.run_within-status.result.1 in
    let outer : g.row.C.Denot → Reported g.row.C.Denot (Commits g.row.K.Denot g.row.P.Denot) =
    λ s. record {
      store = s;
      listener = c.new-store.result.listener;
      commits = c.new-store.result.commits;
      changes = c.new-store.result.changes;
    } in
    let back : (s : g.row.C.Denot) → inner (outer s) ≡ s = λ _. refl in
    subst (λ i. LosesNothing gives begins failed it.holds it.place it.reopens c.args.limits i c.args.store c.into_store.result)
    c.count_bytes-counted.ensures
    (subst (λ s. LosesNothing gives begins failed it.holds it.place it.reopens c.args.limits
    (input_within reader c.count_bytes-counted.result) s c.into_store.result) c.new-store.ensures
    (subst (λ s. LosesNothing gives begins failed it.holds it.place it.reopens c.args.limits
    (input_within reader c.count_bytes-counted.result) (inner c.new-store.result) s) (sym c.into_store.ensures)
    (loses_within reader inner gives begins failed it.holds it.place outer back it.reopens c.args.limits c.count_bytes-counted.result
    c.new-store.result there
    (c.run_within-status.ensures.crash (subst it.is_honest c.into_store.ensures honest)
    (subst it.serves (sym c.new-store.ensures) serves)))))
