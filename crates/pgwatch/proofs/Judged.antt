-- A streamed transaction that commits, by what survives of it.
use Rattle.std.proofs.Common.{◌≡◌, ℕ, List, Result, Ok, Err, ap}
use Rattle.pgwatch.specs.declared.fault.Breach.{Breach}
use Rattle.pgwatch.specs.declared.fault.Breach.TheVariants as breach
use Rattle.pgwatch.specs.declared.nest.Misfit.TheVariants as misfit
use Rattle.pgwatch.specs.declared.noted.Noted.{Noted}
use Rattle.pgwatch.specs.declared.watch.Watch.{Watch}
use Rattle.pgwatch.specs.Nesting.{Nesting, surviving_of}
use Rattle.pgwatch.specs.Hearing.{begun, then_watch, replayed, commits, nest_judged}

module _ (w : Watch) (at lsn end : ℕ) where
  abbrev read : List Noted → Result Watch Breach
  read sv = then_watch (replayed (record w { facts = begun w.facts }) at sv) (λ new. commits new at lsn end)

  pub judged_ok : (r : Result Nesting Noted) (sv : List Noted) → surviving_of r ≡ Ok sv → nest_judged w at lsn end r ≡ read sv
  judged_ok (Ok n) sv e = let same : n.surviving ≡ sv = cc in ap read same
  judged_ok (Err x) sv e = absurd (cc)

  pub judged_err : (r : Result Nesting Noted) (cause subxid : ℕ) → surviving_of r ≡ Err (misfit.Unnested cause subxid)
      → nest_judged w at lsn end r ≡ Err (breach.Unnested at cause subxid)
  judged_err (Ok n) cause subxid e = absurd (cc)
  judged_err (Err x) cause subxid e = cc
