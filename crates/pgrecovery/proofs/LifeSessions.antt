-- The history of a worked life, the rows that it gives, and the sessions of its three runs as
-- bytes: they are such of this history. LSNs are small, so that they are easy to read.
use Rattle.std.proofs.Common.{◌≡◌, ◌≤◌, ◌<◌, ◌+◌, ◌++◌, [], ◌∷◌, List, ℕ, false, true, Some, None}
use Rattle.std.proofs.Common.{Ok, refl, pos, negsuc, arith, inl, inr, length}
use Rattle.std.specs.Prelude.{FitsSigned, ◌^◌, take, drop}
use Rattle.std.specs.Int.{w32, w64}
use Rattle.std.proofs.lemmas.Int.{fits_signed_from_abs}
use Rattle.std.specs.Str.{is_utf8, chars}
use Rattle.std.specs.List.{AllByRecursion}
use Rattle.std.specs.FinMap as map
use lib.Utf8.{encode}
use Rattle.pgtuple.specs.Limits.{IsWireTuple}
use Rattle.pgtuple.specs.Cells.{tuple_spelling}
use Rattle.pgtuple.specs.declared.cell.Cell.TheVariants.{Null}
use Rattle.pglogical.specs.Spelling.{message_spelling, IsWireMessage, item_spelling}
use Rattle.pglogical.specs.declared.message.Message.{Message}
use Rattle.pglogical.specs.declared.message.Item.TheVariants as item
use Rattle.pgorder.specs.OpenXids.{open_rows}
use Rattle.pgorder.specs.Shape.{Pair}
use Rattle.pgorder.specs.declared.Version.TheVariants.{Two}
use Rattle.pgwire.specs.Frames as wire
use Rattle.pgapply.specs.Value.{Rows, Tables}
use Rattle.pgapply.specs.Apply.{apply, fold_changes, rows_after}
use Rattle.pgsub_core.specs.Server.History.{IsHistory, Transaction, tables_as_of}
use Rattle.pgsub_core.specs.Server.Delivers.{Delivers}
use Rattle.pgsub_core.specs.Server.Stream.{Sent, Data, Keepalive}
use Rattle.pgsub_core.specs.Server.Sessions.{IsSession, IsWireSent, frames_of}
use Rattle.pgsub_core.specs.Server.Work.{Changed, Nothing}
use Rattle.pgsub_core.proofs.Samples.{alone, begin, commit, delete_t, insert_t, lookups, place}
use Rattle.pgsub_core.proofs.Samples.{put_t}
use Rattle.pgsub_core.proofs.Samples.{row_of, t, text, update_t}

-- ---- the history

-- (1, a) and (2, b) are inserted, (1, a) becomes (1, c), (2, b) goes, and (3, d) is inserted
abbrev pub tx_10 : Transaction
tx_10 = record { xid = 10; work = Changed (insert_t 49 97) (t ∷ []) Nothing; lsn = 256; end = 304; time = pos 0 }

abbrev pub tx_11 : Transaction
tx_11 = record { xid = 11; work = Changed (insert_t 50 98) (t ∷ []) Nothing; lsn = 400; end = 448; time = pos 0 }

abbrev pub tx_12 : Transaction
tx_12 = record { xid = 12; work = Changed (update_t 49 99) (t ∷ []) Nothing; lsn = 512; end = 560; time = pos 0 }

abbrev pub tx_13 : Transaction
tx_13 = record { xid = 13; work = Changed (delete_t 50) (t ∷ []) Nothing; lsn = 624; end = 672; time = pos 0 }

abbrev pub tx_14 : Transaction
tx_14 = record { xid = 14; work = Changed (insert_t 51 100) (t ∷ []) Nothing; lsn = 768; end = 816; time = pos 0 }

abbrev pub history : List Transaction
history = tx_10 ∷ tx_11 ∷ tx_12 ∷ tx_13 ∷ tx_14 ∷ []

pub is_history : IsHistory history
is_history = (
  omega arith,
  omega arith,
  (tt, refl, tt),
  (refl, tt),
  (
    omega arith,
    omega arith,
    (tt, refl, tt),
    (refl, tt),
    (
      omega arith,
      omega arith,
      (tt, refl, tt),
      (refl, tt),
      (omega arith, omega arith, (tt, refl, tt), (refl, tt), (omega arith, omega arith, (tt, refl, tt), (refl, tt), tt)),
    ),
  ),
)

-- ---- the rows

abbrev pub rows_304 : Rows
rows_304 = map.insert map.empty (place 49) (row_of 49 97)

abbrev pub rows_448 : Rows
rows_448 = map.insert rows_304 (place 50) (row_of 50 98)

abbrev pub rows_560 : Rows
rows_560 = map.insert (map.remove rows_448 (place 49)) (place 49) (row_of 49 99)

abbrev pub rows_672 : Rows
rows_672 = map.remove rows_560 (place 50)

abbrev pub rows_816 : Rows
rows_816 = map.insert rows_672 (place 51) (row_of 51 100)

abbrev pub tables_304 : Tables
tables_304 = put_t map.empty rows_304

abbrev pub tables_448 : Tables
tables_448 = put_t tables_304 rows_448

abbrev pub tables_560 : Tables
tables_560 = put_t tables_448 rows_560

abbrev pub tables_672 : Tables
tables_672 = put_t tables_560 rows_672

abbrev pub tables_816 : Tables
tables_816 = put_t tables_672 rows_816

-- they are those of the history at these LSNs
pub as_of_0 : tables_as_of history 0 ≡ Ok map.empty
unfolding tables_as_of fold_changes
as_of_0 = refl

pub as_of_304 : tables_as_of history 304 ≡ Ok tables_304
unfolding tables_as_of fold_changes apply rows_after tuple_spelling
as_of_304 = simp lookups

pub as_of_560 : tables_as_of history 560 ≡ Ok tables_560
unfolding tables_as_of fold_changes apply rows_after tuple_spelling
as_of_560 = simp lookups

pub as_of_672 : tables_as_of history 672 ≡ Ok tables_672
unfolding tables_as_of fold_changes apply rows_after tuple_spelling
as_of_672 = simp lookups

pub as_of_816 : tables_as_of history 816 ≡ Ok tables_816
unfolding tables_as_of fold_changes apply rows_after tuple_spelling
as_of_816 = simp lookups

-- in the end (1, c) and (3, d) are there, and nothing at key 2
pub row_1 : map.get rows_816 (place 49) ≡ Some (row_of 49 99)
unfolding tuple_spelling
row_1 = simp lookups

pub row_2 : map.get rows_816 (place 50) ≡ None
unfolding tuple_spelling
row_2 = simp lookups

pub row_3 : map.get rows_816 (place 51) ≡ Some (row_of 51 100)
unfolding tuple_spelling
row_3 = simp lookups

-- ---- the messages

-- XLogData at this LSN
abbrev pub data_at : ℕ → Message → Sent
data_at lsn m = Data lsn lsn (pos 0) m

abbrev pub relation : Message
relation = alone (item.Relation t)

abbrev pub complete_10 : List Sent
complete_10 = data_at 240 (begin 256 10) ∷ data_at 240 relation ∷ data_at 240 (alone (insert_t 49 97)) ∷ data_at 304 (commit 256 304) ∷ []

abbrev pub complete_11 : List Sent
complete_11 = data_at 384 (begin 400 11) ∷ data_at 384 (alone (insert_t 50 98)) ∷ data_at 448 (commit 400 448) ∷ []

abbrev pub complete_12 : List Sent
complete_12 = data_at 496 (begin 512 12) ∷ data_at 496 (alone (update_t 49 99)) ∷ data_at 560 (commit 512 560) ∷ []

abbrev pub complete_13 : List Sent
complete_13 = data_at 608 (begin 624 13) ∷ data_at 608 (alone (delete_t 50)) ∷ data_at 672 (commit 624 672) ∷ []

abbrev pub complete_14 : List Sent
complete_14 = data_at 752 (begin 768 14) ∷ data_at 752 relation ∷ data_at 752 (alone (insert_t 51 100)) ∷ data_at 816 (commit 768 816) ∷ []

abbrev pub next_13 : Sent
next_13 = data_at 608 (begin 624 13)

-- run one: three transactions, and the front of a frame of the fourth
abbrev pub complete_1 : List Sent
complete_1 = complete_10 ++ (complete_11 ++ complete_12)

-- what is handled where the second commit is rejected
abbrev pub handled_1 : List Sent
handled_1 = complete_10 ++ data_at 384 (begin 400 11) ∷ data_at 384 (alone (insert_t 50 98)) ∷ []

abbrev rest_2 : List Sent
rest_2 = complete_13 ++ Keepalive 700 (pos 0) false ∷ []

-- run two: all of these again, the fourth, and a keepalive
abbrev pub complete_2 : List Sent
complete_2 = complete_10 ++ (complete_11 ++ (complete_12 ++ rest_2))

-- run three: from what the keepalive confirmed on
abbrev pub complete_3 : List Sent
complete_3 = complete_14

-- ---- the bytes

abbrev pub frame_of : Sent → List ℕ
frame_of m = wire.frames (frames_of (m ∷ []))

abbrev copy_done : List ℕ
copy_done = 99 ∷ 0 ∷ 0 ∷ 0 ∷ 4 ∷ []

abbrev pub bytes_1 : List ℕ
bytes_1 = wire.frames (frames_of complete_1) ++ take 20 (frame_of next_13)

abbrev pub bytes_2 : List ℕ
bytes_2 = wire.frames (frames_of complete_2) ++ copy_done

abbrev pub bytes_3 : List ℕ
bytes_3 = wire.frames (frames_of complete_3) ++ copy_done

front_1 : bytes_1 ++ drop 20 (frame_of next_13) ≡ wire.frames (frames_of (complete_1 ++ next_13 ∷ []) ++ [])
unfolding message_spelling item_spelling tuple_spelling
front_1 = refl

short_1 : length (take 20 (frame_of next_13)) < length (frame_of next_13)
unfolding message_spelling
short_1 = omega arith

front_2 : bytes_2 ++ [] ≡ wire.frames (frames_of complete_2 ++ wire.CopyDone ∷ [])
unfolding message_spelling item_spelling tuple_spelling
front_2 = refl

front_3 : bytes_3 ++ [] ≡ wire.frames (frames_of complete_3 ++ wire.CopyDone ∷ [])
unfolding message_spelling item_spelling tuple_spelling
front_3 = refl

-- ---- a server may send them

delivers_1 : Delivers Two history 0 (complete_1 ++ next_13 ∷ [])
delivers_1 = record {
  shaped = record {
    pieces = Pair 256 (pos 0) 10 (relation ∷ alone (insert_t 49 97) ∷ []) 304 (pos 0)
        ∷ Pair 400 (pos 0) 11 (alone (insert_t 50 98) ∷ []) 448 (pos 0) ∷ Pair 512 (pos 0) 12 (alone (update_t 49 99) ∷ []) 560 (pos 0)
        ∷ Pair 624 (pos 0) 13 [] 672 (pos 0) ∷ [];
    rest = commit 624 672 ∷ [];
    follow = (
      ((tt, (tt, tt)), simp open_rows),
      (((tt, tt), simp open_rows), (((tt, tt), simp open_rows), ((tt, simp open_rows), tt))),
    );
    front = refl;
  };
  commits = (
    [],
    _,
    _,
    item.Relation t ∷ insert_t 49 97 ∷ [],
    refl,
    tt,
    (refl, refl, refl, refl, refl),
    refl,
    (
      [],
      _,
      _,
      insert_t 50 98 ∷ [],
      refl,
      tt,
      (refl, refl, refl, refl, refl),
      refl,
      ([], _, _, update_t 49 99 ∷ [], refl, tt, (refl, refl, refl, refl, refl), refl, tt),
    ),
  );
}

delivers_2 : Delivers Two history 0 complete_2
delivers_2 = record {
  shaped = record {
    pieces = Pair 256 (pos 0) 10 (relation ∷ alone (insert_t 49 97) ∷ []) 304 (pos 0)
        ∷ Pair 400 (pos 0) 11 (alone (insert_t 50 98) ∷ []) 448 (pos 0) ∷ Pair 512 (pos 0) 12 (alone (update_t 49 99) ∷ []) 560 (pos 0)
        ∷ Pair 624 (pos 0) 13 (alone (delete_t 50) ∷ []) 672 (pos 0) ∷ [];
    rest = [];
    follow = (
      ((tt, (tt, tt)), simp open_rows),
      (((tt, tt), simp open_rows), (((tt, tt), simp open_rows), (((tt, tt), simp open_rows), tt))),
    );
    front = refl;
  };
  commits = (
    [],
    _,
    _,
    item.Relation t ∷ insert_t 49 97 ∷ [],
    refl,
    tt,
    (refl, refl, refl, refl, refl),
    refl,
    (
      [],
      _,
      _,
      insert_t 50 98 ∷ [],
      refl,
      tt,
      (refl, refl, refl, refl, refl),
      refl,
      (
        [],
        _,
        _,
        update_t 49 99 ∷ [],
        refl,
        tt,
        (refl, refl, refl, refl, refl),
        refl,
        ([], _, _, delete_t 50 ∷ [], refl, tt, (refl, refl, refl, refl, refl), refl, (((λ _. omega arith), tt), tt)),
      ),
    ),
  );
}

-- the Relation message comes again in each session
delivers_3 : Delivers Two history 700 complete_3
delivers_3 = record {
  shaped = record {
    pieces = Pair 768 (pos 0) 14 (relation ∷ alone (insert_t 51 100) ∷ []) 816 (pos 0) ∷ [];
    rest = [];
    follow = (((tt, (tt, tt)), simp open_rows), tt);
    front = refl;
  };
  commits = ([], _, _, item.Relation t ∷ insert_t 51 100 ∷ [], refl, tt, (refl, refl, refl, refl, refl), refl, tt);
}

-- ---- they fit the wire

clock_fits : FitsSigned w64 (pos 0)
clock_fits = fits_signed_from_abs w64 (pos 0) (omega arith)

any_modifier : FitsSigned w32 (negsuc 0)
any_modifier = fits_signed_from_abs w32 (negsuc 0) (omega arith)

data_fits : (lsn : ℕ) (m : Message) → lsn < 2 ^ 64 → IsWireMessage m → length (message_spelling m) + 29 ≤ 2147483647
    → IsWireSent (data_at lsn m)
data_fits lsn m place wire short = (place, place, clock_fits, wire, short)

begin_fits : (at lsn xid : ℕ) → at < 2 ^ 64 → lsn < 2 ^ 64 → xid < 2 ^ 32 → IsWireSent (data_at at (begin lsn xid))
unfolding message_spelling
begin_fits at lsn xid a l x = data_fits at (begin lsn xid) a (l, clock_fits, x) (omega arith)

pub commit_fits : (lsn end : ℕ) → lsn < 2 ^ 64 → end < 2 ^ 64 → IsWireSent (data_at end (commit lsn end))
unfolding message_spelling
commit_fits lsn end l e = data_fits end (commit lsn end) e (l, e, clock_fits) (omega arith)

one_text : (byte : ℕ) → is_utf8 (byte ∷ []) ≡ true → IsWireTuple (text byte ∷ Null ∷ [])
one_text byte utf8 = record { tuple = record { width = omega arith; each = (omega arith, (tt, tt)) }; texts = (utf8, (tt, tt)) }

two_texts : (a b : ℕ) → is_utf8 (a ∷ []) ≡ true → is_utf8 (b ∷ []) ≡ true → IsWireTuple (text a ∷ text b ∷ [])
two_texts a b x y = record { tuple = record { width = omega arith; each = (omega arith, (omega arith, tt)) }; texts = (x, (y, tt)) }

relation_fits : (at : ℕ) → at < 2 ^ 64 → IsWireSent (data_at at relation)
unfolding message_spelling item_spelling is_utf8 chars encode
relation_fits at fits = data_fits at relation fits (
  tt,
  (
    omega arith,
    record {
      plain = (
        (λ e. absurd (cc)),
        ((λ e. absurd (cc)), ((λ e. absurd (cc)), ((λ e. absurd (cc)), ((λ e. absurd (cc)), ((λ e. absurd (cc)), tt))))),
      );
      utf8 = refl;
    },
    record { plain = ((λ e. absurd (cc)), tt); utf8 = refl },
    inl refl,
    omega arith,
    (
      (record { plain = ((λ e. absurd (cc)), ((λ e. absurd (cc)), tt)); utf8 = refl }, omega arith, any_modifier),
      ((record { plain = ((λ e. absurd (cc)), tt); utf8 = refl }, omega arith, any_modifier), tt),
    ),
  ),
)
    (omega arith)

insert_fits : (at a b : ℕ) → at < 2 ^ 64 → is_utf8 (a ∷ []) ≡ true → is_utf8 (b ∷ []) ≡ true
    → IsWireSent (data_at at (alone (insert_t a b)))
unfolding message_spelling item_spelling tuple_spelling
insert_fits at a b fits x y = data_fits at (alone (insert_t a b)) fits (tt, (omega arith, two_texts a b x y)) (omega arith)

update_fits : (at a b : ℕ) → at < 2 ^ 64 → is_utf8 (a ∷ []) ≡ true → is_utf8 (b ∷ []) ≡ true
    → IsWireSent (data_at at (alone (update_t a b)))
unfolding message_spelling item_spelling tuple_spelling
update_fits at a b fits x y = data_fits at (alone (update_t a b)) fits (tt, (omega arith, tt, two_texts a b x y)) (omega arith)

delete_fits : (at a : ℕ) → at < 2 ^ 64 → is_utf8 (a ∷ []) ≡ true → IsWireSent (data_at at (alone (delete_t a)))
unfolding message_spelling item_spelling tuple_spelling
delete_fits at a fits x = data_fits at (alone (delete_t a)) fits (tt, (omega arith, one_text a x)) (omega arith)

with_10 : (rest : List Sent) → AllByRecursion IsWireSent rest → AllByRecursion IsWireSent (complete_10 ++ rest)
unfolding is_utf8 chars encode
with_10 rest fits = (
  begin_fits 240 256 10 (omega arith) (omega arith) (omega arith),
  (
    relation_fits 240 (omega arith),
    (insert_fits 240 49 97 (omega arith) refl refl, (commit_fits 256 304 (omega arith) (omega arith), fits)),
  ),
)

with_12 : (rest : List Sent) → AllByRecursion IsWireSent rest → AllByRecursion IsWireSent (complete_11 ++ (complete_12 ++ rest))
unfolding is_utf8 chars encode
with_12 rest fits = (
  begin_fits 384 400 11 (omega arith) (omega arith) (omega arith),
  (
    insert_fits 384 50 98 (omega arith) refl refl,
    (
      commit_fits 400 448 (omega arith) (omega arith),
      (
        begin_fits 496 512 12 (omega arith) (omega arith) (omega arith),
        (update_fits 496 49 99 (omega arith) refl refl, (commit_fits 512 560 (omega arith) (omega arith), fits)),
      ),
    ),
  ),
)

pub fits_1 : AllByRecursion IsWireSent (complete_1 ++ next_13 ∷ [])
fits_1 = with_10 (complete_11 ++ (complete_12 ++ next_13 ∷ []))
    (with_12 (next_13 ∷ []) (begin_fits 608 624 13 (omega arith) (omega arith) (omega arith), tt))

pub fits_2 : AllByRecursion IsWireSent complete_2
unfolding is_utf8 chars encode
fits_2 = with_10 (complete_11 ++ (complete_12 ++ rest_2)) (with_12 rest_2 (
  begin_fits 608 624 13 (omega arith) (omega arith) (omega arith),
  (
    delete_fits 608 50 (omega arith) refl,
    (commit_fits 624 672 (omega arith) (omega arith), ((omega arith, clock_fits), tt)),
  ),
))

pub fits_3 : AllByRecursion IsWireSent complete_3
unfolding is_utf8 chars encode
fits_3 = (
  begin_fits 752 768 14 (omega arith) (omega arith) (omega arith),
  (
    relation_fits 752 (omega arith),
    (insert_fits 752 51 100 (omega arith) refl refl, (commit_fits 768 816 (omega arith) (omega arith), tt)),
  ),
)

-- ---- they are sessions of the history

pub session_1 : IsSession Two history 0 bytes_1 complete_1
unfolding message_spelling
session_1 = record {
  sent = complete_1 ++ next_13 ∷ [];
  done = [];
  behind = drop 20 (frame_of next_13);
  delivered = delivers_1;
  fits = fits_1;
  at_end = inl refl;
  front = front_1;
  later = next_13 ∷ [];
  rest = take 20 (frame_of next_13);
  parts = refl;
  stands = refl;
  short = short_1;
}

pub session_2 : IsSession Two history 0 bytes_2 complete_2
session_2 = record {
  sent = complete_2;
  done = wire.CopyDone ∷ [];
  behind = [];
  delivered = delivers_2;
  fits = fits_2;
  at_end = inr refl;
  front = front_2;
  later = [];
  rest = copy_done;
  parts = refl;
  stands = refl;
  short = tt;
}

pub session_3 : IsSession Two history 700 bytes_3 complete_3
session_3 = record {
  sent = complete_3;
  done = wire.CopyDone ∷ [];
  behind = [];
  delivered = delivers_3;
  fits = fits_3;
  at_end = inr refl;
  front = front_3;
  later = [];
  rest = copy_done;
  parts = refl;
  stands = refl;
  short = tt;
}
