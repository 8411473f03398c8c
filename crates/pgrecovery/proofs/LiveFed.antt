-- The parts of the worked live run, and what the subscriber and the rows are once each is fed.
use Rattle.std.proofs.Common.{◌≡◌, ◌++◌, [], ◌∷◌, List, ℕ, true, Some, Ok, refl, arith, inl, inr}
use Rattle.std.proofs.Common.{None, take, drop}
use Rattle.std.specs.FinMap as map
use Rattle.pgtuple.specs.Cells.{tuple_spelling}
use Rattle.pgtuple.specs.declared.cell.Cell.TheVariants.{Null}
use Rattle.pglogical.specs.declared.message.OldKind.TheVariants.{Key}
use Rattle.pglogical.specs.Spelling.{item_spelling}
use Rattle.pglogical.specs.declared.message.Item.TheVariants as item
use Rattle.pgorder.specs.Steps.{InPair, OrderState}
use Rattle.pgorder.specs.OpenXids.{none_open}
use Rattle.pgspool.specs.Labels.{LabelledItem}
use Rattle.pgwire.specs.Frames as wire
use Rattle.pgapply.specs.Value.{Rows, Tables}
use Rattle.pgapply.specs.Apply.{Change, apply, fold_changes, rows_after}
use Rattle.pgapply.specs.Missing.{all_missing, nothing_missed}
use Rattle.pgapply.specs.Tallies.{TakenCommit, Tally, nothing_taken}
use Rattle.pgapply.specs.declared.op.Op.TheVariants as op
use Rattle.pgsub_core.specs.Server.History.{tables_as_of}
use Rattle.pgsub_core.specs.Server.Described.{described_from}
use Rattle.pgsub_core.specs.Machine.Replica.{RelationCache}
use Rattle.pgsub_core.specs.Subscriber.Subscribed.{Subscribed}
use Rattle.pgsub_core.proofs.Samples.{change_t, delete_t, empty_one, first_rows, first_tables}
use Rattle.pgsub_core.proofs.Samples.{insert_t, lookups, place, put_t, row_of, t, text, update_t}
use Rattle.pgfollow.specs.Live.{settled}
use Rattle.pgrecovery.proofs.LiveFrames.{begin_10, begin_11, commit_10, commit_11, delete, framed}
use Rattle.pgrecovery.proofs.LiveFrames.{insert, keepalive, relation, short, update, begin_10_read}
use Rattle.pgrecovery.proofs.LiveFrames.{begin_11_read, commit_10_read, commit_11_read, delete_read}
use Rattle.pgrecovery.proofs.LiveFrames.{insert_read, keepalive_read, relation_read, update_read}
use Rattle.pgrecovery.proofs.LiveTakes.{takes_none, takes_more, takes_begin, takes_item}
use Rattle.pgrecovery.proofs.LiveTakes.{takes_commit, takes_repeat, takes_keepalive, told}
use Rattle.pgrecovery.proofs.LiveParts.{FeedsPart}
use Rattle.pgrecovery.proofs.LiveSessions.{history, session_1, session_2}

-- ---- the parts' bytes

-- the first session, cut inside the payload of Relation, the header of Commit and CopyDone
abbrev pub bytes_1 : List ℕ
bytes_1 = take 81 session_1

abbrev pub bytes_2 : List ℕ
bytes_2 = take 92 (drop 81 session_1)

abbrev pub bytes_3 : List ℕ
bytes_3 = take 56 (drop 173 session_1)

abbrev pub bytes_4 : List ℕ
bytes_4 = drop 229 session_1

-- the second one, cut inside the payload of Update, and behind the first byte of the keepalive's
-- frame
abbrev pub bytes_5 : List ℕ
bytes_5 = take 300 session_2

abbrev pub bytes_6 : List ℕ
bytes_6 = take 130 (drop 300 session_2)

abbrev pub bytes_7 : List ℕ
bytes_7 = drop 430 session_2

-- ---- the rows

abbrev pub changes_10 : List Change
changes_10 = change_t 49 97 ∷ []

abbrev pub changes_11 : List Change
changes_11 = record { definition = t; op = op.Update None (text 49 ∷ text 98 ∷ []) }
    ∷ record { definition = t; op = op.Delete Key (text 51 ∷ Null ∷ []) } ∷ []

abbrev pub last_rows : Rows
last_rows = map.insert (map.remove first_rows (place 49)) (place 49) (row_of 49 98)

abbrev pub last_tables : Tables
last_tables = put_t (put_t first_tables last_rows) last_rows

-- ---- the tally

abbrev taken_10 : TakenCommit
taken_10 = record { end = 560; about = Some (told 512 10); changes = changes_10 }

abbrev taken_11 : TakenCommit
taken_11 = record { end = 816; about = Some (told 768 11); changes = changes_11 }

abbrev pub tally_10 : Tally
tally_10 = record { misses = nothing_missed; commits = taken_10 ∷ [] }

-- the deletion of xid 11 finds no row
abbrev pub tally_11 : Tally
tally_11 = record {
  misses = record { count = 1; first = Some (record { end = 816; oid = 16384 }) };
  commits = taken_10 ∷ taken_11 ∷ [];
}

folds_10 : fold_changes map.empty changes_10 ≡ Ok first_tables
unfolding fold_changes apply rows_after
folds_10 = simp lookups

folds_11 : fold_changes first_tables changes_11 ≡ Ok last_tables
unfolding fold_changes apply rows_after tuple_spelling
folds_11 = simp lookups

missing_10 : all_missing map.empty changes_10 ≡ []
unfolding all_missing apply rows_after
missing_10 = simp lookups

missing_11 : all_missing first_tables changes_11 ≡ 16384 ∷ []
unfolding all_missing apply rows_after tuple_spelling
missing_11 = simp lookups

-- those are the rows of the history
pub rows_10 : tables_as_of history 560 ≡ Ok first_tables
unfolding tables_as_of
rows_10 = folds_10

pub rows_11 : tables_as_of history 816 ≡ Ok last_tables
unfolding tables_as_of fold_changes apply rows_after tuple_spelling
rows_11 = simp lookups

-- the row is (1, b) then
last_row : map.get last_rows (place 49) ≡ Some (row_of 49 98)
unfolding tuple_spelling
last_row = simp lookups

-- ---- the subscriber once each part is fed

abbrev pub known : RelationCache
known = map.insert map.empty 16384 t

abbrev items_10 : List LabelledItem
items_10 = (10, item.Relation t) ∷ (10, insert_t 49 97) ∷ []

abbrev items_11 : List LabelledItem
items_11 = (11, update_t 49 98) ∷ (11, delete_t 51) ∷ []

abbrev in_pair : ℕ → ℕ → OrderState
in_pair lsn xid = record { context = InPair lsn xid; open_xids = none_open }

-- a status at time 7, as bytes: what was received, and what is confirmed
abbrev pub status : List ℕ → List ℕ → List ℕ
status received confirmed = 100 ∷ 0 ∷ 0 ∷ 0 ∷ 38 ∷ 114 ∷ (received ++ (confirmed ++ (confirmed ++ (short 0 7 ++ 0 ∷ []))))

-- over an empty store
abbrev pub opened : Subscribed
opened = empty_one 1000

-- Begin has come, and of the frame of Relation 30 bytes
abbrev pub fed_1 : Subscribed
fed_1 = record opened {
  received = 480;
  order = in_pair 512 10;
  held = map.insert map.empty 10 [];
  partial = take 30 (framed 69 relation);
}

-- the pair's items are held, and of the frame of Commit 2 bytes have come
abbrev pub fed_2 : Subscribed
fed_2 = record fed_1 { held = map.insert map.empty 10 items_10; partial = 100 ∷ 0 ∷ [] }

-- they are stored and confirmed, and of CopyDone 2 bytes have come
abbrev pub fed_3 : Subscribed
fed_3 = record opened {
  tables = first_tables;
  position = 560;
  confirmed = 560;
  received = 560;
  relations = known;
  partial = 99 ∷ 0 ∷ [];
}

-- the session has ended
abbrev pub fed_4 : Subscribed
fed_4 = record fed_3 { partial = []; copy_done = true }

-- and the next one begins
abbrev pub reconnected : Subscribed
reconnected = settled true fed_4

-- the same transaction has come again, which stores nothing, then the Begin of another, and of the
-- frame of Update 22 bytes
abbrev pub fed_5 : Subscribed
fed_5 = record fed_3 {
  received = 720;
  order = in_pair 768 11;
  held = map.insert map.empty 11 [];
  partial = take 22 (framed 49 update);
}

-- that one is stored and confirmed, and of the keepalive's frame one byte has come
abbrev pub fed_6 : Subscribed
fed_6 = record fed_3 { tables = last_tables; position = 816; confirmed = 816; received = 816; partial = 100 ∷ [] }

-- the keepalive's end is confirmed, and its reply waits
abbrev pub fed_7 : Subscribed
fed_7 = record fed_6 { confirmed = 896; received = 896; partial = []; replies = status (short 3 128) (short 3 128) }

-- ---- each part leaves that

some_partial : wire.IsPartial 16777216 (100 ∷ 0 ∷ [])
some_partial = record { tag = λ _. inl refl; payload = λ h. absurd (omega (arith, h)) }

pub feeds_1 : FeedsPart nothing_taken nothing_taken opened fed_1 bytes_1
feeds_1 = record {
  fs = wire.CopyData begin_10 ∷ [];
  rest = take 30 (framed 69 relation);
  state = record fed_1 { partial = [] };
  deframed = record {
    whole = refl;
    each = ((omega arith, omega arith), tt);
    partial = record { tag = λ _. inl refl; payload = λ _. (refl, omega arith, omega arith, omega arith) };
    last = λ done. absurd (cc);
  };
  take = takes_begin opened begin_10_read takes_none;
  left = refl;
  unclosed = refl;
}

pub feeds_2 : FeedsPart nothing_taken nothing_taken fed_1 fed_2 bytes_2
unfolding item_spelling tuple_spelling
feeds_2 = record {
  fs = wire.CopyData relation ∷ wire.CopyData insert ∷ [];
  rest = 100 ∷ 0 ∷ [];
  state = record fed_2 { partial = fed_1.partial };
  deframed = record {
    whole = refl;
    each = ((omega arith, omega arith), ((omega arith, omega arith), tt));
    partial = some_partial;
    last = λ done. absurd (cc);
  };
  take = takes_item fed_1 [] relation_read refl (takes_item fed_1 ((10, item.Relation t) ∷ []) insert_read refl takes_none);
  left = refl;
  unclosed = refl;
}

pub feeds_3 : FeedsPart nothing_taken tally_10 fed_2 fed_3 bytes_3
feeds_3 = record {
  fs = wire.CopyData commit_10 ∷ [];
  rest = 99 ∷ 0 ∷ [];
  state = record fed_3 { partial = fed_2.partial };
  deframed = record {
    whole = refl;
    each = ((omega arith, omega arith), tt);
    partial = record { tag = λ _. inr refl; payload = λ h. absurd (omega (arith, h)) };
    last = λ done. absurd (cc);
  };
  take = takes_commit fed_2 items_10 commit_10_read refl refl folds_10 missing_10 takes_none;
  left = refl;
  unclosed = refl;
}

pub feeds_4 : FeedsPart tally_10 tally_10 fed_3 fed_4 bytes_4
feeds_4 = record {
  fs = wire.CopyDone ∷ [];
  rest = [];
  state = record fed_4 { partial = fed_3.partial };
  deframed = record {
    whole = refl;
    each = refl;
    partial = record { tag = λ h. absurd (omega (arith, h)); payload = λ h. absurd (omega (arith, h)) };
    last = λ done. refl;
  };
  take = takes_more refl refl takes_none;
  left = refl;
  unclosed = refl;
}

pub feeds_5 : FeedsPart tally_10 tally_10 reconnected fed_5 bytes_5
unfolding item_spelling tuple_spelling
feeds_5 = record {
  fs = wire.CopyData begin_10 ∷ wire.CopyData relation ∷ wire.CopyData insert ∷ wire.CopyData commit_10 ∷ wire.CopyData begin_11 ∷ [];
  rest = take 22 (framed 49 update);
  state = record fed_5 { partial = [] };
  deframed = record {
    whole = refl;
    each = (
      (omega arith, omega arith),
      (
        (omega arith, omega arith),
        (
          (omega arith, omega arith),
          (
            (omega arith, omega arith),
            ((omega arith, omega arith), tt),
          ),
        ),
      ),
    );
    partial = record { tag = λ _. inl refl; payload = λ _. (refl, omega arith, omega arith, omega arith) };
    last = λ done. absurd (cc);
  };
  take = takes_begin reconnected begin_10_read
      (takes_item reconnected [] relation_read refl
      (takes_item reconnected ((10, item.Relation t) ∷ []) insert_read refl
      (takes_repeat reconnected items_10 commit_10_read refl
      (takes_begin (record reconnected { relations = known }) begin_11_read takes_none))));
  left = refl;
  unclosed = refl;
}

described_11 : described_from (λ oid. map.get known oid) (update_t 49 98 ∷ delete_t 51 ∷ []) ≡ Ok changes_11
described_11 = simp lookups

pub feeds_6 : FeedsPart tally_10 tally_11 fed_5 fed_6 bytes_6
unfolding item_spelling tuple_spelling
feeds_6 = record {
  fs = wire.CopyData update ∷ wire.CopyData delete ∷ wire.CopyData commit_11 ∷ [];
  rest = 100 ∷ [];
  state = record fed_6 { partial = fed_5.partial };
  deframed = record {
    whole = refl;
    each = ((omega arith, omega arith), ((omega arith, omega arith), ((omega arith, omega arith), tt)));
    partial = record { tag = λ _. inl refl; payload = λ h. absurd (omega (arith, h)) };
    last = λ done. absurd (cc);
  };
  take = takes_item fed_5 [] update_read refl
      (takes_item fed_5 ((11, update_t 49 98) ∷ []) delete_read refl
      (takes_commit (record fed_5 { received = 744 }) items_11 commit_11_read refl described_11 folds_11 missing_11 takes_none));
  left = refl;
  unclosed = refl;
}

pub feeds_7 : FeedsPart tally_11 tally_11 fed_6 fed_7 bytes_7
feeds_7 = record {
  fs = wire.CopyData keepalive ∷ [];
  rest = [];
  state = record fed_7 { partial = fed_6.partial };
  deframed = record {
    whole = refl;
    each = ((omega arith, omega arith), tt);
    partial = record { tag = λ h. absurd (omega (arith, h)); payload = λ h. absurd (omega (arith, h)) };
    last = λ done. absurd (cc);
  };
  take = takes_keepalive fed_6 keepalive_read takes_none;
  left = refl;
  unclosed = refl;
}
