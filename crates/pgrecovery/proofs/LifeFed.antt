-- The worked life's subscriber is fed its sessions' bytes: in run one up to a commit that the store
-- rejects, in the others to the end.
use Rattle.std.proofs.Common.{◌≡◌, ◌++◌, [], ◌∷◌, List, true, false, Some, None}
use Rattle.std.proofs.Common.{Option, refl, sym, ap, ◌∙◌, pos, arith, inl, subst}
use Rattle.std.specs.Prelude.{take}
use Rattle.std.specs.List.{AllByRecursion}
use Rattle.std.specs.FinMap as map
use Rattle.pgtuple.specs.Cells.{tuple_spelling}
use Rattle.pglogical.specs.Spelling.{message_spelling, item_spelling}
use Rattle.pgorder.specs.Laws.{AreMessagesFor}
use Rattle.pgorder.specs.States.{is_in_block}
use Rattle.pgorder.specs.Steps.{initial_order}
use Rattle.pgorder.specs.declared.Version.TheVariants.{Two}
use Rattle.pgwire.specs.Frames as wire
use Rattle.pgwire.proofs.Messages.{payload_again}
use Rattle.pgapply.specs.declared.fault.StoreFault.TheVariants as store_fault
use Rattle.pgsub_core.specs.declared.fault.Fault.{Fault}
use Rattle.pgsub_core.specs.declared.fault.Fault.TheVariants as fault
use Rattle.pgsub_core.specs.Machine.Replica.{Running, then_run}
use Rattle.pgsub_core.specs.Machine.Taking.{ReachesStore, take_frame, take_frames}
use Rattle.pgsub_core.specs.Machine.Taking as taking
use Rattle.pgsub_core.specs.Server.Sessions.{IsWireSent, frames_of, server_message}
use Rattle.pgsub_core.specs.Server.Stream.{Sent, messages_in}
use Rattle.pgsub_core.specs.Server.Work.{surviving_changes}
use Rattle.pgsub_core.specs.Subscriber.Following.{AreFed}
use Rattle.pgsub_core.specs.Subscriber.Subscribed.{Subscribed}
use Rattle.pgsub_core.proofs.FedSessions.{complete_read, take_frames-append}
use Rattle.pgsub_core.proofs.FrameMessages.{data_taken, frames_taken}
use Rattle.pgsub_core.proofs.ReadAgain.{read_again}
use Rattle.pgsub_core.proofs.Samples.{commit, insert_t}
use Rattle.pgrecovery.proofs.LifeSessions.{bytes_1, bytes_2, bytes_3, commit_fits, complete_1}
use Rattle.pgrecovery.proofs.LifeSessions.{complete_2}
use Rattle.pgrecovery.proofs.LifeSessions.{complete_3, history, session_1}
use Rattle.pgrecovery.proofs.LifeSessions.{complete_12, data_at, fits_1, fits_2, fits_3, frame_of}
use Rattle.pgrecovery.proofs.LifeSessions.{handled_1}
use Rattle.pgrecovery.proofs.LifeSessions.{next_13, tables_304, tables_448, tables_672, tx_11}
use Rattle.pgrecovery.proofs.LifeEntries.{folds_11}
use Rattle.pgrecovery.proofs.LifeTakes.{at, clock, commit_taken, described_11, taken_1, taken_1_all}
use Rattle.pgrecovery.proofs.LifeTakes.{taken_2, taken_3, takes_1_all}
use Rattle.pgrecovery.proofs.LifeTakes.{takes_1, takes_2, takes_3, told_t}

-- the store's disk failed as it settled what was staged
abbrev pub refused : Option Fault
refused = Some (fault.Store store_fault.Refused)

-- what the subscriber is then: closed, with all but what a disconnection forgets
abbrev pub fed_1 : Subscribed
fed_1 = record (at tables_304 304 304 384 told_t) { closed = true }

-- in the others CopyDone has come
abbrev pub fed_2 : Subscribed
fed_2 = record taken_2 { copy_done = true }

abbrev pub fed_3 : Subscribed
fed_3 = record taken_3 { copy_done = true }

-- ---- frames are taken as their messages

by_messages : (sent : List Sent) (old new : Subscribed) → AllByRecursion IsWireSent sent → AreMessagesFor false (messages_in sent)
    → old.order ≡ initial_order → taking.take_all clock old sent ≡ Running new
    → take_frames clock old (frames_of sent) ≡ Running new
by_messages sent old new fits for order takes =
    frames_taken read_again clock sent old fits
    (subst (λ o. AreMessagesFor (is_in_block o.context) (messages_in sent)) (sym order) for)
    ∙ takes

with_done : (fs : List wire.Frame) (old new : Subscribed) → take_frames clock old fs ≡ Running new
    → take_frames clock old (fs ++ wire.CopyDone ∷ []) ≡ Running (record new { copy_done = true })
with_done fs old new takes =
    take_frames-append clock fs (wire.CopyDone ∷ []) old ∙ ap (λ o. then_run o (λ last. take_frames clock last (wire.CopyDone ∷ []))) takes

none_partial : wire.IsPartial 16777216 []
none_partial = record { tag = λ h. absurd (omega (arith, h)); payload = λ h. absurd (omega (arith, h)) }

-- ---- the runs

pub feeds_2 : AreFed clock (at tables_304 304 304 304 map.empty) (bytes_2 ∷ []) fed_2 None
unfolding message_spelling item_spelling tuple_spelling
feeds_2 = (
  fed_2,
  record {
    fs = frames_of complete_2 ++ wire.CopyDone ∷ [];
    rest = [];
    state = fed_2;
    deframed = record {
      whole = refl;
      each = (
        (omega arith, omega arith),
        (
          (omega arith, omega arith),
          (
            (omega arith, omega arith),
            (
              (omega arith, omega arith),
              (
                (omega arith, omega arith),
                (
                  (omega arith, omega arith),
                  (
                    (omega arith, omega arith),
                    (
                      (omega arith, omega arith),
                      (
                        (omega arith, omega arith),
                        (
                          (omega arith, omega arith),
                          (
                            (omega arith, omega arith),
                            ((omega arith, omega arith), ((omega arith, omega arith), ((omega arith, omega arith), refl))),
                          ),
                        ),
                      ),
                    ),
                  ),
                ),
              ),
            ),
          ),
        ),
      );
      partial = none_partial;
      last = λ _. refl;
    };
    takes = with_done (frames_of complete_2) (at tables_304 304 304 304 map.empty) taken_2
        (by_messages complete_2 (at tables_304 304 304 304 map.empty) taken_2 fits_2
        (tt, (tt, (tt, (tt, (tt, (tt, (tt, (tt, (tt, (tt, (tt, (tt, (tt, tt))))))))))))) refl takes_2.all);
    left = refl;
  },
  refl,
)

pub feeds_3 : AreFed clock (at tables_672 672 672 672 map.empty) (bytes_3 ∷ []) fed_3 None
unfolding message_spelling item_spelling tuple_spelling
feeds_3 = (
  fed_3,
  record {
    fs = frames_of complete_3 ++ wire.CopyDone ∷ [];
    rest = [];
    state = fed_3;
    deframed = record {
      whole = refl;
      each = (
        (omega arith, omega arith),
        ((omega arith, omega arith), ((omega arith, omega arith), ((omega arith, omega arith), refl))),
      );
      partial = none_partial;
      last = λ _. refl;
    };
    takes = with_done (frames_of complete_3) (at tables_672 672 672 672 map.empty) taken_3
        (by_messages complete_3 (at tables_672 672 672 672 map.empty) taken_3 fits_3 (tt, (tt, (tt, (tt, tt)))) refl takes_3.all);
    left = refl;
  },
  refl,
)

-- in run one the next message is the commit that the store rejects
abbrev next_11 : Sent
next_11 = data_at 448 (commit 400 448)

next_fits : IsWireSent next_11
next_fits = commit_fits 400 448 (omega arith) (omega arith)

abbrev frame_11 : wire.Frame
frame_11 = wire.CopyData (wire.payload (server_message next_11))

reaches_11 : ReachesStore (take_frame clock taken_1 frame_11)
reaches_11 = subst ReachesStore (sym (data_taken read_again clock taken_1 448 448 (pos 0) (commit 400 448) next_fits tt
    ∙ commit_taken (at tables_304 304 304 384 told_t) 400 11 448 ((11, insert_t 50 98) ∷ []) (surviving_changes tx_11.work) tables_448
    refl described_11 folds_11)) tt

pub feeds_1 : AreFed clock (at map.empty 0 0 0 map.empty) (bytes_1 ∷ []) fed_1 refused
unfolding message_spelling item_spelling tuple_spelling
feeds_1 = inl (record {
  fs = frames_of handled_1;
  rest = wire.frames (frames_of (next_11 ∷ complete_12)) ++ take 20 (frame_of next_13);
  state = taken_1;
  whole = refl;
  each = (
    (omega arith, omega arith),
    (
      (omega arith, omega arith),
      (
        (omega arith, omega arith),
        ((omega arith, omega arith), ((omega arith, omega arith), ((omega arith, omega arith), tt))),
      ),
    ),
  );
  takes = by_messages handled_1 (at map.empty 0 0 0 map.empty) taken_1 fits_handled (tt, (tt, (tt, (tt, (tt, (tt, tt)))))) refl takes_1.all;
  left = record { tables = refl; progress = refl; settings = record { version = refl; max_frame = refl; limit = refl }; replies = refl };
  closed = refl;
  why = (
    frame_11,
    record {
      more = wire.frames (frames_of complete_12) ++ take 20 (frame_of next_13);
      going_on = refl;
      whole = refl;
      allowed = (omega arith, omega arith);
    },
    record {
      payload = wire.payload (server_message next_11);
      start = 448;
      current = 448;
      clock = pos 0;
      body = message_spelling (commit 400 448);
      message = commit 400 448;
      end = 448;
      frame = refl;
      xlog_data = payload_again (server_message next_11) (next_fits.0, next_fits.1, next_fits.2);
      decodes = read_again false (commit 400 448) next_fits.3 tt;
      commits = refl;
      passes = omega arith;
    },
    reaches_11,
  );
})
  where
    fits_handled : AllByRecursion IsWireSent handled_1
    fits_handled = (fits_1.0, (fits_1.1.0, (fits_1.1.1.0, (fits_1.1.1.1.0, (fits_1.1.1.1.1.0, (fits_1.1.1.1.1.1.0, tt))))))

-- what it would be if the store had all that was staged and memory had run out then
abbrev pub fed_1_all : Subscribed
fed_1_all = record taken_1_all { closed = true }

pub feeds_1_all : AreFed clock (at map.empty 0 0 0 map.empty) (bytes_1 ∷ []) fed_1_all (Some fault.Memory)
unfolding message_spelling item_spelling tuple_spelling
feeds_1_all = inl (record {
  fs = frames_of complete_1;
  rest = take 20 (frame_of next_13);
  state = taken_1_all;
  whole = refl;
  each = (
    (omega arith, omega arith),
    (
      (omega arith, omega arith),
      (
        (omega arith, omega arith),
        (
          (omega arith, omega arith),
          (
            (omega arith, omega arith),
            (
              (omega arith, omega arith),
              (
                (omega arith, omega arith),
                ((omega arith, omega arith), ((omega arith, omega arith), ((omega arith, omega arith), tt))),
              ),
            ),
          ),
        ),
      ),
    ),
  );
  takes = by_messages complete_1 (at map.empty 0 0 0 map.empty) taken_1_all fits_all
      (tt, (tt, (tt, (tt, (tt, (tt, (tt, (tt, (tt, (tt, tt)))))))))) refl takes_1_all.all;
  left = record { tables = refl; progress = refl; settings = record { version = refl; max_frame = refl; limit = refl }; replies = refl };
  closed = refl;
  why = tt;
})
  where
    fits_all : AllByRecursion IsWireSent complete_1
    fits_all = (complete_read Two history 0 bytes_1 complete_1 session_1).0
