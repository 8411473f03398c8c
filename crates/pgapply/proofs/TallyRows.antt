-- What a store has taken of two commits, and of one that changes nothing.
-- PostgreSQL documentation, Logical Replication Message Formats, Commit, Stream Commit.
use Rattle.std.proofs.Common.{◌≡◌, ◌∷◌, [], Some, None, pos, refl}
use Rattle.std.specs.FinMap as map
use Rattle.pgapply.specs.declared.commit.About.{About}
use Rattle.pgapply.specs.declared.op.Op.TheVariants as op
use Rattle.pgapply.specs.Apply.{Change, apply, rows_after}
use Rattle.pgapply.specs.Missing.{all_missing}
use Rattle.pgapply.specs.Tallies.{Tally, nothing_taken, with_commit}
use Rattle.pgapply.proofs.MissingRows.{delete_t}
use Rattle.pgapply.proofs.Relations.{t, lookups}
use Rattle.pgtuple.specs.Cells.{tuple_spelling}

abbrev about : About
about = record { final_lsn = 256; xid = 740; time = pos 748872000000000 }

abbrev truncate_t : Change
truncate_t = record { definition = t; op = op.Truncate }

abbrev truncated : Tally
truncated = with_commit nothing_taken map.empty 304 (Some about) (truncate_t ∷ [])

one_commit :
    truncated
    ≡ record {
      misses = record { count = 0; first = None };
      commits = record { end = 304; about = Some about; changes = truncate_t ∷ [] } ∷ [];
    }
unfolding all_missing apply rows_after
one_commit = simp lookups

-- a commit without changes isn't noted
without_changes : with_commit truncated map.empty 560 None [] ≡ truncated
unfolding all_missing apply rows_after
without_changes = refl

-- the second one comes behind the first, and its change finds no row
two_commits :
    with_commit truncated map.empty 560 None (delete_t 49 ∷ [])
    ≡ record {
      misses = record { count = 1; first = Some (record { end = 560; oid = 16384 }) };
      commits = record { end = 304; about = Some about; changes = truncate_t ∷ [] }
          ∷ record { end = 560; about = None; changes = delete_t 49 ∷ [] } ∷ [];
    }
unfolding all_missing apply rows_after tuple_spelling
two_commits = simp lookups
