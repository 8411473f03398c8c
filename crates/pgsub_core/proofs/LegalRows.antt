-- A session of what is rare and legal: repeated Relation messages, aborts of what nobody knows,
-- equal xids, commits right behind one another, a pair while a stream is open, keepalives inside a
-- pair and a block, Truncate, Origin, Type and Message.
use Rattle.std.proofs.Common.{◌≡◌, ◌∷◌, ◌++◌, [], List, ℕ, true, false, Option, None, Some, refl}
use Rattle.std.proofs.Common.{ap, ◌∙◌, pos, arith}
use Rattle.std.specs.FinMap as map
use Rattle.pgtuple.specs.Cells.{tuple_spelling}
use Rattle.pglogical.specs.declared.message.Item.{Item}
use Rattle.pglogical.specs.declared.message.Item.TheVariants as item
use Rattle.pglogical.specs.declared.message.Message.{Message}
use Rattle.pglogical.specs.declared.message.Message.TheVariants as message
use Rattle.pgorder.specs.OpenXids.{open_rows}
use Rattle.pgorder.specs.declared.Version.TheVariants.{Two}
use Rattle.pgorder.specs.Shape.{StreamPart, Pair, Block, StreamEnd, Abort, LogicalMessage}
use Rattle.pgapply.specs.Apply.{apply, fold_changes, rows_after}
use Rattle.pgsub_core.specs.Server.Work.{Work, Nothing, Changed, Subtransaction, RolledBack}
use Rattle.pgsub_core.specs.Server.History.{Transaction, IsHistory}
use Rattle.pgsub_core.specs.Server.Streamed.{StreamedItem, Change, SubtransactionAbort, IsStreamOf}
use Rattle.pgsub_core.specs.Server.Stream.{Sent, Keepalive}
use Rattle.pgsub_core.specs.Server.Delivers.{Delivers}
use Rattle.pgsub_core.specs.Machine.ApplyState.{follow_all}
use Rattle.pgsub_core.specs.Machine.Replica.{Replica, Halt, Outcome, Running, then_run}
use Rattle.pgapply.specs.Value.{Tables}
use Rattle.pgsub_core.proofs.OneSession.{session_agrees}
use Rattle.pgsub_core.proofs.Samples.{t, w, insert_t, put_t, first_tables, sent, alone, under}
use Rattle.pgsub_core.proofs.Samples.{empty_replica, stands, lookups}

abbrev truncate : Item
truncate = item.Truncate 3 (16384 ∷ 16385 ∷ [])

abbrev streamed_work : Work
streamed_work = Subtransaction 5 (Changed truncate (t ∷ w ∷ []) Nothing) (RolledBack 6 (9 ∷ []) Nothing)

-- xids 10, 10 and 0; each commit right behind the one before, at a time of its own
abbrev legal_history : List Transaction
legal_history =
    record { xid = 10; work = Nothing; lsn = 100; end = 120; time = pos 4 }
    ∷ record { xid = 10; work = Changed (insert_t 49 97) (t ∷ []) Nothing; lsn = 120; end = 160; time = pos 5 }
    ∷ record { xid = 0; work = streamed_work; lsn = 160; end = 200; time = pos 6 } ∷ []

legal_is_history : IsHistory legal_history
legal_is_history = (
  omega arith,
  omega arith,
  tt,
  (refl, tt),
  (
    omega arith,
    omega arith,
    (tt, refl, tt),
    (refl, tt),
    (omega arith, omega arith, ((tt, refl, tt), tt), (refl, (refl, (refl, (refl, tt)))), tt),
  ),
)

abbrev origin : Message
origin = message.Origin 7 (111 ∷ [])

abbrev type_in_block : Message
type_in_block = message.TypeName (Some 5) 49152 (112 ∷ []) (109 ∷ [])

abbrev logical_in_block : Message
logical_in_block = message.Logical (Some 5) true 90 (112 ∷ []) (104 ∷ [])

abbrev inner : List Message
inner = origin ∷ type_in_block ∷ logical_in_block ∷ under 5 (item.Relation t) ∷ under 5 (item.Relation t) ∷ under 5 (item.Relation w)
    ∷ under 5 truncate ∷ under 6 (insert_t 50 98) ∷ []

abbrev pair_inner : List Message
pair_inner = message.Origin 8 [] ∷ alone (item.Relation t) ∷ alone (insert_t 49 97) ∷ []

abbrev legal_parts : List StreamPart
legal_parts =
    Abort 77 78 ∷ LogicalMessage false 50 [] [] ∷ Block 0 true inner ∷ Abort 0 6 ∷ Abort 0 6 ∷ Abort 0 9
    ∷ Pair 120 (pos 0) 10 pair_inner 160 (pos 5) ∷ StreamEnd 0 160 200 (pos 6) ∷ Abort 0 0 ∷ []

abbrev legal : List Sent
legal =
    sent (message.StreamAbort 77 78) ∷ sent (message.Logical None false 50 [] []) ∷ sent (message.StreamStart 0 true)
    ∷ sent origin ∷ sent type_in_block ∷ sent logical_in_block ∷ sent (under 5 (item.Relation t)) ∷ sent (under 5 (item.Relation t))
    ∷ Keepalive 119 (pos 0) true
    ∷ sent (under 5 (item.Relation w)) ∷ sent (under 5 truncate) ∷ sent (under 6 (insert_t 50 98)) ∷ sent message.StreamStop
    ∷ sent (message.StreamAbort 0 6) ∷ sent (message.StreamAbort 0 6) ∷ sent (message.StreamAbort 0 9)
    ∷ sent (message.Begin 120 (pos 0) 10) ∷ sent (message.Origin 8 []) ∷ sent (alone (item.Relation t)) ∷ Keepalive 159 (pos 0) false
    ∷ sent (alone (insert_t 49 97)) ∷ sent (message.Commit 120 160 (pos 5))
    ∷ Keepalive 199 (pos 0) true ∷ sent (message.StreamCommit 0 160 200 (pos 6)) ∷ sent (message.StreamAbort 0 0)
    ∷ Keepalive 5000 (pos 0) false ∷ []

abbrev of_sub : List StreamedItem
of_sub = Change 5 (item.Relation t) ∷ Change 5 (item.Relation t) ∷ Change 5 (item.Relation w) ∷ Change 5 truncate ∷ []

abbrev of_rolled_back : List StreamedItem
of_rolled_back = Change 6 (insert_t 50 98) ∷ SubtransactionAbort 6 ∷ SubtransactionAbort 6 ∷ SubtransactionAbort 9 ∷ []

abbrev surviving_of_sub : List Item
surviving_of_sub = item.Relation t ∷ item.Relation t ∷ item.Relation w ∷ truncate ∷ []

legal_streamed : IsStreamOf streamed_work 0 (of_sub ++ of_rolled_back) surviving_of_sub
legal_streamed = (
  [],
  of_sub,
  of_rolled_back,
  surviving_of_sub,
  [],
  refl,
  refl,
  (t ∷ t ∷ w ∷ [], [], [], refl, refl, ([], refl, refl)),
  ([], of_rolled_back, [], [], refl, refl, record { named = (refl, (refl, (refl, (refl, tt)))); aborted = (refl, tt) }, ([], refl, refl)),
)

legal_delivered : Delivers Two legal_history 0 legal
legal_delivered = record {
  shaped = record {
    pieces = legal_parts;
    rest = [];
    follow = (
      tt,
      (
        tt,
        (
          ((tt, (tt, (tt, (tt, (tt, (tt, (tt, (tt, tt)))))))), simp open_rows),
          (tt, (tt, (tt, (((tt, (tt, (tt, tt))), simp open_rows), (simp open_rows, (tt, tt)))))),
        ),
      ),
    );
    front = refl;
  };
  commits = (
    ((λ changes. absurd (changes refl)), ((λ _. omega arith), ((λ _. omega arith), tt))),
    (
      ((λ changes. absurd (changes refl)), ((λ _. omega arith), ((λ _. omega arith), tt))),
      (
        record { xid = 10; work = Nothing; lsn = 100; end = 120; time = pos 4 } ∷ [],
        _,
        _,
        item.Relation t ∷ insert_t 49 97 ∷ [],
        refl,
        (refl, tt),
        (refl, refl, refl, refl, refl),
        refl,
        (((λ _. omega arith), tt), ([], _, [], surviving_of_sub, refl, tt, (refl, refl, refl, refl, legal_streamed), refl, (tt, tt))),
      ),
    ),
  );
}

abbrev left : Outcome Replica Halt → Tables × (ℕ × Option Halt)
left o = stands (then_run o (λ new. Running new))

legal_followed : stands (follow_all Two empty_replica (legal ∷ []))
    ≡ (map.insert (put_t first_tables map.empty) 16385 (record { definition = w; rows = map.empty }), (200, None))
unfolding fold_changes apply rows_after tuple_spelling
legal_followed = ap left (session_agrees Two legal_history empty_replica 0 legal legal_delivered) ∙ simp lookups
