-- Worked rows of the tally of a history, with changes that find no row.
use Rattle.std.proofs.Common.{◌≡◌, ◌∷◌, ◌++◌, [], List, ℕ, pos, Some}
use Rattle.pgtuple.specs.Cells.{tuple_spelling}
use Rattle.pgtuple.specs.declared.cell.Cell.TheVariants.{Null}
use Rattle.pglogical.specs.declared.message.Item.{Item}
use Rattle.pglogical.specs.declared.message.Item.TheVariants as item
use Rattle.pglogical.specs.declared.message.OldKind.TheVariants.{Key}
use Rattle.pgapply.specs.declared.misses.Misses.{Misses}
use Rattle.pgapply.specs.Apply.{apply, fold_changes, rows_after}
use Rattle.pgapply.specs.Missing.{all_missing, nothing_missed}
use Rattle.pgapply.specs.Tallies.{TakenCommit, nothing_taken}
use Rattle.pgsub_core.specs.Server.Work.{Changed, RolledBack, Nothing, changes_of}
use Rattle.pgsub_core.specs.Server.History.{Transaction, tables_as_of}
use Rattle.pgsub_core.specs.Subscriber.Tallied.{history_tallied}
use Rattle.pgsub_core.proofs.Samples.{t, text, insert_t, update_t, lookups}

abbrev delete_t : ℕ → Item
delete_t key = item.Delete 16384 Key (text key ∷ Null ∷ [])

-- row 49 comes; it is deleted twice, with a part between that is rolled back; row 51 is updated;
-- all of the last one is rolled back
abbrev history : List Transaction
history = record { xid = 9; work = Changed (insert_t 49 97) (t ∷ []) Nothing; lsn = 256; end = 304; time = pos 700 }
    ∷ record {
      xid = 10;
      work = Changed (delete_t 49) (t ∷ []) (RolledBack 11 [] (Changed (delete_t 49) (t ∷ []) Nothing));
      lsn = 512;
      end = 560;
      time = pos 800;
    }
    ∷ record { xid = 12; work = Changed (update_t 51 99) (t ∷ []) Nothing; lsn = 768; end = 816; time = pos 900 }
    ∷ record { xid = 13; work = RolledBack 14 [] Nothing; lsn = 900; end = 948; time = pos 950 } ∷ []

abbrev insertion : TakenCommit
insertion = record {
  end = 304;
  about = Some (record { final_lsn = 256; xid = 9; time = pos 700 });
  changes = changes_of (insert_t 49 97) (t ∷ []);
}

abbrev deletions : TakenCommit
deletions = record {
  end = 560;
  about = Some (record { final_lsn = 512; xid = 10; time = pos 800 });
  changes = changes_of (delete_t 49) (t ∷ []) ++ changes_of (delete_t 49) (t ∷ []);
}

abbrev update : TakenCommit
update = record {
  end = 816;
  about = Some (record { final_lsn = 768; xid = 12; time = pos 900 });
  changes = changes_of (update_t 51 99) (t ∷ []);
}

abbrev one : ℕ → Misses
one end = record { count = 1; first = Some (record { end = end; oid = 16384 }) }

tallied_first : history_tallied history 0 304 nothing_taken ≡ record { misses = nothing_missed; commits = insertion ∷ [] }
unfolding tables_as_of fold_changes all_missing apply rows_after tuple_spelling
tallied_first = simp lookups

-- the second deletion finds what the first one left
tallied_second : history_tallied history 0 560 nothing_taken ≡ record { misses = one 560; commits = insertion ∷ deletions ∷ [] }
unfolding tables_as_of fold_changes all_missing apply rows_after tuple_spelling
tallied_second = simp lookups

tallied_all : history_tallied history 304 816 nothing_taken
    ≡ record { misses = record { count = 2; first = Some (record { end = 560; oid = 16384 }) }; commits = deletions ∷ update ∷ [] }
unfolding tables_as_of fold_changes all_missing apply rows_after tuple_spelling
tallied_all = simp lookups

-- what ends by the first place doesn't count again, and of what changes nothing nothing is noted
tallied_behind_second : history_tallied history 560 948 nothing_taken ≡ record { misses = one 816; commits = update ∷ [] }
unfolding tables_as_of fold_changes all_missing apply rows_after tuple_spelling
tallied_behind_second = simp lookups
