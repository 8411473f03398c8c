-- The history of the worked live run, and its sessions as bytes: they are such of this history.
use Rattle.std.proofs.Common.{◌≡◌, ◌≤◌, ◌++◌, [], ◌∷◌, List, ℕ, true, Ok, refl, pos, arith, inl}
use Rattle.std.proofs.Common.{inr, length, ◌<◌, ◌+◌, negsuc}
use Rattle.std.specs.Prelude.{FitsSigned, ◌^◌}
use Rattle.std.specs.Int.{w32, w64}
use Rattle.std.proofs.lemmas.Int.{fits_signed_from_abs}
use Rattle.std.specs.Str.{is_utf8, chars}
use Rattle.std.specs.List.{AllByRecursion}
use Rattle.std.specs.FinMap as map
use lib.Utf8.{encode}
use Rattle.pgtuple.specs.Limits.{IsWireTuple}
use Rattle.pgtuple.specs.Cells.{tuple_spelling}
use Rattle.pgtuple.specs.declared.cell.Cell.TheVariants.{Null}
use Rattle.pglogical.specs.Spelling.{message_spelling, IsWireMessage, item_spelling}
use Rattle.pglogical.specs.declared.message.Message.{Message}
use Rattle.pglogical.specs.declared.message.Item.TheVariants as item
use Rattle.pgorder.specs.OpenXids.{open_rows}
use Rattle.pgorder.specs.Shape.{Pair}
use Rattle.pgorder.specs.declared.Version.TheVariants.{Two}
use Rattle.pgwire.specs.Frames as wire
use Rattle.pgapply.specs.Apply.{fold_changes}
use Rattle.pgsub_core.specs.Server.History.{IsHistory, Transaction, tables_as_of}
use Rattle.pgsub_core.specs.Server.Delivers.{Delivers}
use Rattle.pgsub_core.specs.Server.Stream.{Sent, Keepalive}
use Rattle.pgsub_core.specs.Server.Sessions.{IsSession, IsWireSent, frames_of}
use Rattle.pgsub_core.specs.Subscriber.Safely.{IsSent}
use Rattle.pgsub_core.specs.Server.Work.{Changed, Nothing}
use Rattle.pgsub_core.specs.Subscriber.Safe.{IsSafe}
use Rattle.pgsub_core.proofs.Samples.{alone, begin, commit, delete_t, empty_one, insert_t, place, t}
use Rattle.pgsub_core.proofs.Samples.{text, update_t}
use Rattle.pgrecovery.proofs.LiveTakes.{data_at}
use Rattle.pgrecovery.proofs.LiveFrames.{begin_10, begin_11, commit_10, commit_11, copy_done}
use Rattle.pgrecovery.proofs.LiveFrames.{delete, framed, insert, keepalive, relation, short, update}

-- ---- the history

-- (1, a) is inserted, and becomes (1, b); then a row is deleted that isn't there
abbrev pub history : List Transaction
history = record { xid = 10; work = Changed (insert_t 49 97) (t ∷ []) Nothing; lsn = 512; end = 560; time = pos 0 }
    ∷ record {
      xid = 11;
      work = Changed (update_t 49 98) (t ∷ []) (Changed (delete_t 51) (t ∷ []) Nothing);
      lsn = 768;
      end = 816;
      time = pos 0;
    }
    ∷ []

rows_0 : tables_as_of history 0 ≡ Ok map.empty
unfolding tables_as_of fold_changes
rows_0 = refl

pub safe_0 : IsSafe history map.empty 0 0
safe_0 = record {
  same = rows_0;
  stored = ((λ changes by. by), ((λ changes by. by), tt));
  below = omega arith;
}

-- ---- the bytes

-- the transaction of xid 10, and CopyDone, which ends a session where its bytes are recorded
abbrev pub session_1 : List ℕ
session_1 = framed 50 begin_10 ++ (framed 69 relation ++ (framed 49 insert ++ (framed 55 commit_10 ++ copy_done)))

-- the same again, as where the status that confirmed it was lost, the transaction of xid 11, and a
-- keepalive that asks for a reply
abbrev pub session_2 : List ℕ
session_2 = framed 50 begin_10 ++ (framed 69 relation ++ (framed 49 insert ++ (framed 55 commit_10
    ++ (framed 50 begin_11 ++ (framed 49 update ++ (framed 44 delete ++ (framed 55 commit_11 ++ framed 22 keepalive)))))))

-- ---- the messages

abbrev complete_10 : List Sent
complete_10 = data_at 480 (begin 512 10) ∷ data_at 480 (alone (item.Relation t)) ∷ data_at 480 (alone (insert_t 49 97))
    ∷ data_at 560 (commit 512 560) ∷ []

abbrev complete_11 : List Sent
complete_11 = data_at 720 (begin 768 11) ∷ data_at 720 (alone (update_t 49 98)) ∷ data_at 744 (alone (delete_t 51))
    ∷ data_at 816 (commit 768 816) ∷ Keepalive 896 (pos 0) true ∷ []

abbrev pub complete_1 : List Sent
complete_1 = complete_10

abbrev pub complete_2 : List Sent
complete_2 = complete_10 ++ complete_11

-- their frames are the sessions' bytes
spelled_1 : session_1 ≡ wire.frames (frames_of complete_1 ++ wire.CopyDone ∷ [])
unfolding message_spelling item_spelling tuple_spelling
spelled_1 = refl

spelled_2 : session_2 ≡ wire.frames (frames_of complete_2 ++ [])
unfolding message_spelling item_spelling tuple_spelling
spelled_2 = refl

is_history : IsHistory history
is_history = (
  omega arith,
  omega arith,
  (tt, refl, tt),
  (refl, tt),
  (omega arith, omega arith, (tt, refl, (tt, refl, tt)), (refl, tt), tt),
)

delivers_1 : Delivers Two history 0 complete_1
delivers_1 = record {
  shaped = record {
    pieces = Pair 512 (pos 0) 10 (alone (item.Relation t) ∷ alone (insert_t 49 97) ∷ []) 560 (pos 0) ∷ [];
    rest = [];
    follow = (((tt, (tt, tt)), simp open_rows), tt);
    front = refl;
  };
  commits = ([], _, _, item.Relation t ∷ insert_t 49 97 ∷ [], refl, tt, (refl, refl, refl, refl, refl), refl, tt);
}

-- the second session describes the changes of xid 11 by the Relation message of the transaction
-- that is repeated
delivers_2 : Delivers Two history 0 complete_2
delivers_2 = record {
  shaped = record {
    pieces = Pair 512 (pos 0) 10 (alone (item.Relation t) ∷ alone (insert_t 49 97) ∷ []) 560 (pos 0)
        ∷ Pair 768 (pos 0) 11 (alone (update_t 49 98) ∷ alone (delete_t 51) ∷ []) 816 (pos 0) ∷ [];
    rest = [];
    follow = (((tt, (tt, tt)), simp open_rows), (((tt, (tt, tt)), simp open_rows), tt));
    front = refl;
  };
  commits = (
    [],
    _,
    _,
    item.Relation t ∷ insert_t 49 97 ∷ [],
    refl,
    tt,
    (refl, refl, refl, refl, refl),
    refl,
    ([], _, _, update_t 49 98 ∷ delete_t 51 ∷ [], refl, tt, (refl, refl, refl, refl, refl), refl, (tt, tt)),
  );
}

-- ---- they fit the wire

clock_fits : FitsSigned w64 (pos 0)
clock_fits = fits_signed_from_abs w64 (pos 0) (omega arith)

any_modifier : FitsSigned w32 (negsuc 0)
any_modifier = fits_signed_from_abs w32 (negsuc 0) (omega arith)

data_fits : (lsn : ℕ) (m : Message) → lsn < 2 ^ 64 → IsWireMessage m → length (message_spelling m) + 29 ≤ 2147483647
    → IsWireSent (data_at lsn m)
data_fits lsn m place wire short = (place, place, clock_fits, wire, short)

begin_fits : (at lsn xid : ℕ) → at < 2 ^ 64 → lsn < 2 ^ 64 → xid < 2 ^ 32 → IsWireSent (data_at at (begin lsn xid))
unfolding message_spelling
begin_fits at lsn xid a l x = data_fits at (begin lsn xid) a (l, clock_fits, x) (omega arith)

commit_fits : (at lsn end : ℕ) → at < 2 ^ 64 → lsn < 2 ^ 64 → end < 2 ^ 64 → IsWireSent (data_at at (commit lsn end))
unfolding message_spelling
commit_fits at lsn end a l e = data_fits at (commit lsn end) a (l, e, clock_fits) (omega arith)

one_text : (byte : ℕ) → is_utf8 (byte ∷ []) ≡ true → IsWireTuple (text byte ∷ Null ∷ [])
one_text byte utf8 = record { tuple = record { width = omega arith; each = (omega arith, (tt, tt)) }; texts = (utf8, (tt, tt)) }

two_texts : (a b : ℕ) → is_utf8 (a ∷ []) ≡ true → is_utf8 (b ∷ []) ≡ true → IsWireTuple (text a ∷ text b ∷ [])
two_texts a b x y = record { tuple = record { width = omega arith; each = (omega arith, (omega arith, tt)) }; texts = (x, (y, tt)) }

relation_fits : IsWireSent (data_at 480 (alone (item.Relation t)))
unfolding message_spelling item_spelling is_utf8 chars encode
relation_fits = data_fits 480 (alone (item.Relation t)) (omega arith) (
  tt,
  (
    omega arith,
    record {
      plain = (
        (λ e. absurd (cc)),
        ((λ e. absurd (cc)), ((λ e. absurd (cc)), ((λ e. absurd (cc)), ((λ e. absurd (cc)), ((λ e. absurd (cc)), tt))))),
      );
      utf8 = refl;
    },
    record { plain = ((λ e. absurd (cc)), tt); utf8 = refl },
    inl refl,
    omega arith,
    (
      (record { plain = ((λ e. absurd (cc)), ((λ e. absurd (cc)), tt)); utf8 = refl }, omega arith, any_modifier),
      ((record { plain = ((λ e. absurd (cc)), tt); utf8 = refl }, omega arith, any_modifier), tt),
    ),
  ),
)
    (omega arith)

insert_fits : IsWireSent (data_at 480 (alone (insert_t 49 97)))
unfolding message_spelling item_spelling tuple_spelling is_utf8 chars encode
insert_fits = data_fits 480 (alone (insert_t 49 97)) (omega arith) (tt, (omega arith, two_texts 49 97 refl refl)) (omega arith)

update_fits : IsWireSent (data_at 720 (alone (update_t 49 98)))
unfolding message_spelling item_spelling tuple_spelling is_utf8 chars encode
update_fits = data_fits 720 (alone (update_t 49 98)) (omega arith) (tt, (omega arith, tt, two_texts 49 98 refl refl)) (omega arith)

delete_fits : IsWireSent (data_at 744 (alone (delete_t 51)))
unfolding message_spelling item_spelling tuple_spelling is_utf8 chars encode
delete_fits = data_fits 744 (alone (delete_t 51)) (omega arith) (tt, (omega arith, one_text 51 refl)) (omega arith)

fits_11 : AllByRecursion IsWireSent complete_11
fits_11 = (
  begin_fits 720 768 11 (omega arith) (omega arith) (omega arith),
  (update_fits, (delete_fits, (commit_fits 816 768 816 (omega arith) (omega arith) (omega arith), ((omega arith, clock_fits), tt)))),
)

with_10 : (rest : List Sent) → AllByRecursion IsWireSent rest → AllByRecursion IsWireSent (complete_10 ++ rest)
with_10 rest fits = (
  begin_fits 480 512 10 (omega arith) (omega arith) (omega arith),
  (relation_fits, (insert_fits, (commit_fits 560 512 560 (omega arith) (omega arith) (omega arith), fits))),
)

-- ---- they are sessions of the history

is_session_1 : IsSession Two history 0 session_1 complete_1
unfolding message_spelling item_spelling tuple_spelling
is_session_1 = record {
  sent = complete_1;
  done = wire.CopyDone ∷ [];
  behind = [];
  delivered = delivers_1;
  fits = with_10 [] tt;
  at_end = inr refl;
  front = spelled_1;
  later = [];
  rest = copy_done;
  parts = refl;
  stands = refl;
  short = tt;
}

is_session_2 : IsSession Two history 0 session_2 complete_2
unfolding message_spelling item_spelling tuple_spelling
is_session_2 = record {
  sent = complete_2;
  done = [];
  behind = [];
  delivered = delivers_2;
  fits = with_10 complete_11 fits_11;
  at_end = inl refl;
  front = spelled_2;
  later = [];
  rest = [];
  parts = refl;
  stands = refl;
  short = tt;
}

-- they are sent to a subscriber over an empty store; the second starts as low as the first
pub is_sent : IsSent history (empty_one 1000) (session_1 ∷ session_2 ∷ []) (complete_1 ∷ complete_2 ∷ [])
is_sent = record {
  is_history = is_history;
  safe = safe_0;
  start = 0;
  above = omega arith;
  nothing = safe_0.stored;
  sent = ((0, omega arith, inl is_session_1), ((0, omega arith, inl is_session_2), tt));
}
