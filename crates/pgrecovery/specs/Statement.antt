-- The whole statement, for somebody who checks the claim: each name on which these clauses stand,
-- with the module that says what it means. Modules come in reading order.
--
--   pgsub_core::follow.safe
--   pgrecovery::one_life_holds_one_history.life
--   pgrecovery::one_fed_life_holds_one_history.life
--   pgrecovery::one_fed_life_tells_one_history.life
--
-- `tools/statement --names` prints this file, and `--text` the definitions themselves.
pub use Rattle.pgsub_core.specs.Server.Work.{Work, changes_of, surviving_changes, is_among}
pub use Rattle.pgsub_core.specs.Server.Work.{AllDiffer, IsChange, IsWork, xids_of}
pub use Rattle.pgsub_core.specs.Server.History.{Transaction, ChangesRows, all_changes, ended_by}
pub use Rattle.pgsub_core.specs.Server.History.{ended_after, IsHistoryFrom, IsHistory}
unfoldable pub use Rattle.pgsub_core.specs.Server.History.{tables_as_of}
pub use Rattle.pgapply.specs.Apply.{◌>>=◌, Change, joined, moved, carry_row, carried_for}
pub use Rattle.pgapply.specs.Apply.{found_rows, without_row, deleted, store_fault, in_store, row_at}
pub use Rattle.pgapply.specs.Apply.{added, with_row, updated}
unfoldable pub use Rattle.pgapply.specs.Apply.{carry_rows, rows_after, apply, fold_changes}
pub use Rattle.pgsub_core.specs.Subscriber.Safe.{NothingBetween, IsSafe, RefusesNext}
pub use Rattle.pgspool.specs.Labels.{LabelledItem, HeldMap, cost, costs, all_costs, cut, held_of}
pub use Rattle.pgspool.specs.Labels.{items_of}
pub use Rattle.pgorder.specs.Steps.{Context, OrderState, StepResult, in_version_2, step_begin}
pub use Rattle.pgorder.specs.Steps.{step_commit, step_inner, step_item, step_stream_abort}
pub use Rattle.pgorder.specs.Steps.{step_stream_commit, step_stream_start, step_stream_stop}
pub use Rattle.pgorder.specs.Steps.{order_step, initial_order}
pub use Rattle.pgorder.specs.OpenXids.{OpenXids, is_open, with_open, without, none_open}
pub use Rattle.pgsub_core.specs.Machine.Replica.{RelationCache, Outcome, GoesOrStops, Replica, Halt}
pub use Rattle.pgsub_core.specs.Machine.Replica.{on_keepalive, cached, all_cached, stored, taken}
pub use Rattle.pgsub_core.specs.Machine.Replica.{on_commit, then_run}
pub use Rattle.pgapply.specs.Value.{Row, Rows, Table, Tables, identity_key, most_copies, IsRow}
pub use Rattle.pgapply.specs.Value.{AreRows, IsTable, AreTables}
pub use Rattle.pgsub_core.specs.Subscriber.Subscribed.{Subscribed, IsSafeFor, progress_of}
pub use Rattle.pgsub_core.specs.Subscriber.Subscribed.{session_bytes, bytes_of, replica_of}
pub use Rattle.pgsub_core.specs.Subscriber.Subscribed.{apply_state_of, status_of, with_status}
pub use Rattle.pgsub_core.specs.Subscriber.Subscribed.{disconnect, newly}
pub use Rattle.pgsub_core.specs.Subscriber.Confirming.{IsSafeStatus, AreSafeReplies}
pub use Rattle.pgwire.specs.Frames.{Frame, copy_data_tag, copy_done_tag, frame, frames, tag_of}
pub use Rattle.pgwire.specs.Frames.{max_length, BreaksLength, IsTag, length_of, IsFramingFault}
pub use Rattle.pgwire.specs.Payloads.{flag_byte}
pub use Rattle.pgwire.specs.Statuses.{status_tag, status_payload, status_frame}
pub use Rattle.pgsub_core.specs.Server.Stream.{Sent, Completed, CommitOrKeepalive, Kind}
pub use Rattle.pgsub_core.specs.Server.Stream.{pair_commit, kind, pair_items_behind, pair_items}
pub use Rattle.pgsub_core.specs.Server.Stream.{pair_behind, pair_of, block_behind, block_of}
pub use Rattle.pgsub_core.specs.Server.Stream.{is_block, with_item, streamed_behind}
pub use Rattle.pgsub_core.specs.Server.Stream.{streamed_since_first_segment, commits_at, commits_of}
pub use Rattle.pgsub_core.specs.Server.Stream.{is_absent, is_quiet, commits_and_keepalives, end_of}
pub use Rattle.pgsub_core.specs.Server.Stream.{messages_in}
pub use Rattle.pgsub_core.specs.Subscriber.Safely.{IsHandled, KeepsSettings, IsFollowedSafely}
pub use Rattle.pgsub_core.specs.Subscriber.Safely.{IsSent}
pub use Rattle.pgrel.specs.Carried.{has_name, named_cell, carried_cells, carried}
pub use Rattle.pgrel.specs.Identity.{key_cells, identity_default, identity_index, keyed, identity}
pub use Rattle.pgrel.specs.Identity.{same_column, same_shape, is_unchanged, has_unchanged}
pub use Rattle.pgrel.specs.Identity.{has_width, checked_insert, known_cells, identity_full}
pub use Rattle.pgrel.specs.Identity.{sent_in_full, lacks_identity, new_has_width, old_has_width}
pub use Rattle.pgrel.specs.Identity.{searched_tuple, searched_identity, resolved}
pub use Rattle.pgtuple.specs.Cells.{cell_spelling}
unfoldable pub use Rattle.pgtuple.specs.Cells.{tuple_spelling}
pub use Rattle.pgsub_core.specs.Server.Reached.{Progress, disconnected, fields_after}
pub use Rattle.pgsub_core.specs.Server.Reached.{position_after, quiet_end, reached}
pub use Rattle.pgsub_core.specs.Server.Streamed.{StreamedItem, aborts, EachIsAborted, subxid_of}
pub use Rattle.pgsub_core.specs.Server.Streamed.{IsRolledBackStream, relation_items, relations}
pub use Rattle.pgsub_core.specs.Server.Streamed.{IsStreamOf}
pub use Rattle.pgsub_core.specs.Server.Sessions.{reached_all, EachStarts, IsForeign, server_message}
pub use Rattle.pgsub_core.specs.Server.Sessions.{frames_of, last_frame, whole_frames, EndsForeign}
pub use Rattle.pgsub_core.specs.Server.Sessions.{IsPartOfNextFrame, IsWireSent, IsSession}
pub use Rattle.pgsub_core.specs.Server.Sessions.{IsIncoming, AreIncoming, starting_by}
pub use Rattle.pglogical.specs.Tags.{begin_tag, commit_tag, delete_tag, insert_tag, key_tuple_tag}
pub use Rattle.pglogical.specs.Tags.{old_tuple_tag, new_tuple_tag, relation_tag, truncate_tag}
pub use Rattle.pglogical.specs.Tags.{update_tag, message_tag, origin_tag, stream_abort_tag}
pub use Rattle.pglogical.specs.Tags.{stream_commit_tag, stream_start_tag, stream_stop_tag, type_tag}
pub use Rattle.pglogical.specs.Spelling.{c_string, clock, flag_byte as flag_byte_of_pglogical}
pub use Rattle.pglogical.specs.Spelling.{int32, int64, column_spelling, columns_spelling}
pub use Rattle.pglogical.specs.Spelling.{kind_letter, prior_spelling, xid_in_block}
pub use Rattle.pglogical.specs.Spelling.{HasXidExactlyInBlock, IsText, IsName, IsColumn, IsLetter}
pub use Rattle.pglogical.specs.Spelling.{IsWire, IsXid, IsWireMessage, IsDefinition}
unfoldable pub use Rattle.pglogical.specs.Spelling.{item_spelling, message_spelling}
pub use Rattle.pgsub_core.specs.Server.Delivers.{ChangeNothing, IsCommitOf, CommitsFollow, Delivers}
pub use Rattle.pgsub_core.specs.Server.Described.{with_definition, definitions_of, found_behind}
pub use Rattle.pgsub_core.specs.Server.Described.{with_changes, described_from, last_of, described}
pub use Rattle.pgsub_core.specs.Server.Described.{relation_of, relations_after}
pub use Rattle.pglogical.specs.Named.{named}
pub use Rattle.pgorder.specs.Shape.{StreamPart, IsInner, MayComeNext, open_after, MayFollow}
pub use Rattle.pgorder.specs.Shape.{messages_of, IsShaped}
pub use Rattle.pgtuple.specs.Limits.{IsTextCell, max_int32, IsCell, max_columns, IsTuple}
pub use Rattle.pgtuple.specs.Limits.{IsWireTuple}
pub use Rattle.pgsub_core.specs.Subscriber.Applied.{Applied, Framing, IsKept, subscribed}
pub use Rattle.pgsub_core.specs.Subscriber.SubscriberValue.{SubscriberValue, seen}
pub use Rattle.pgsub_core.specs.Subscriber.Following.{FollowsSafely, FollowsSessions}
pub use Rattle.pgtables.specs.Kept.{AreKeyed, IsApart, Definition, number_in, definition_in, oid_in}
pub use Rattle.pgtables.specs.Kept.{rel_row, AreDefined, Copies, copies_in, held_row, key_in}
pub use Rattle.pgtables.specs.Kept.{AreHeld, pos_row, Tables as Tables_of_pgtables, map_by}
pub use Rattle.pgtables.specs.Kept.{tables_in, IsKept as IsKept_of_pgtables}
pub use Rattle.pgtables.specs.Schema.{needed, no_stamps, held, held_table, held_index, pos_table}
pub use Rattle.pgtables.specs.Schema.{pos_at, rel, store_schema}
pub use Rattle.pgencoded.specs.Spelled.{AreTupleRows, IsReadable, IsSpellable, AreSpellable, row_in}
pub use Rattle.pgencoded.specs.Spelled.{spelled_definition, spelled_row, IsSpelled, IsStored}
pub use Rattle.pglogical.specs.Typed.{IsTypedColumn, AreTypedColumns}
pub use Rattle.pgapply.specs.Stored.{Stored}
pub use Rattle.pgrows.specs.Rows.{database, shown_mark, saved_in, AreBelow, AreLow, IsSaved}
pub use Rattle.pgrows.specs.Rows.{IsBehind, GoesOn, state}
pub use Rattle.pgencoded.specs.DatabaseValue.{AreOf, IsPlaceOf, IsValueOf, nothing_stored}
pub use Rattle.pgapply.specs.Tallies.{TakenCommit, Tally, taken_commit, with_commit, nothing_taken}
pub use Rattle.pgstore.specs.StoreValue.{Group, StoreValue, Holds, IsHonest, Serves}
pub use Rattle.pgencoded.specs.Acts.{committed_of}
pub use Rattle.pgstore.specs.Reopened.{IsCopiedTo, CrashLeaves, IsEmptyContent, HoldsContent}
pub use Rattle.pgstore.specs.Reopened.{Reopens}
pub use Rattle.pgrecovery.specs.Life.{ClosedAs, Run, place_of, IsRun, AreRuns, HoldsHistory}
pub use Rattle.pgrecovery.specs.Life.{HoldThrough, OneLife}
pub use Rattle.pgmemory.specs.Stopped.{Leaves}
pub use Rattle.pgsub_core.specs.Subscriber.Handled.{IsLeft, IsLeftBy, NoneForeign, end_by_kind}
pub use Rattle.pgsub_core.specs.Subscriber.Handled.{commit_end, IsAllowedFault, foreign_fault}
pub use Rattle.pgsub_core.specs.Subscriber.Handled.{IsForeignBehind, IsNextBehind, IsRefusedBehind}
pub use Rattle.pgsub_core.specs.Subscriber.Handled.{IsTooLargeBehind, StopsFor, StopsAt, IsFollowed}
pub use Rattle.pgsub_core.specs.Subscriber.Causes.{Cause, order_cause, relation_cause, spool_cause}
pub use Rattle.pgsub_core.specs.Subscriber.Causes.{store_cause, wire_cause, cause}
pub use Rattle.pgsub_core.specs.Machine.Taking.{passes_limit, message_passes_limit, IsStoreFault}
pub use Rattle.pgsub_core.specs.Machine.Taking.{ReachesStore, fault_of, receive, reply, with_state}
pub use Rattle.pgsub_core.specs.Machine.Taking.{handled, taken_with, take, take_all, take_sessions}
pub use Rattle.pgsub_core.specs.Machine.ApplyState.{ApplyState, ApplyResult, committed, pushed}
pub use Rattle.pgsub_core.specs.Machine.ApplyState.{on_event, on_message, step}
pub use Rattle.pgtables.specs.Remains.{rows_if, remaining, listed, IsIndexOfRows, AreRemains}
pub use Rattle.pgtables.specs.Remains.{schema_of}
pub use Rattle.pgsub_core.specs.Subscriber.Crashing.{IsLeftSafely, LeavesHistory, StandsAsFed}
pub use Rattle.pgrecovery.specs.Recovered.{OverFiles, holds_tables, position_of}
pub use Rattle.pgrecovery.specs.FedLife.{FedStore, FedRun, fed_position, holds_fed, IsLeftFed}
pub use Rattle.pgrecovery.specs.FedLife.{fed_newly, reopens_fed}
pub use Rattle.pgrecovery.specs.FedLife.{IsFollowed as IsFollowed_of_pgrecovery, IsFedRun}
pub use Rattle.pgrecovery.specs.FedLife.{IsLeftBy as IsLeftBy_of_pgrecovery, AreFedRuns, HoldsFed}
pub use Rattle.pgrecovery.specs.FedLife.{HoldFedThrough, OneFedLife}
pub use Rattle.pgledger.specs.Images.{Line, lines, deleted_image, searched_row, updated_image}
pub use Rattle.pgledger.specs.Images.{rows_or_none, change_image, images_after}
unfoldable pub use Rattle.pgledger.specs.Images.{image_of, images}
pub use Rattle.pgledger.specs.Entries.{Entry, last_end, entry_of, LeadTo}
pub use Rattle.pgfeed.specs.Reading.{AreEntries, Stands, IsBody, AreWritten, BeginsWith, HasItsCrc}
pub use Rattle.pgfeed.specs.Reading.{Walks}
pub use Rattle.pgfeed.specs.Feeds.{IsHonestFeed, AreEnded, HasHeadAt, NoneAt, SomeLeaves, MayHave}
pub use Rattle.pgfeed.specs.Feeds.{LeavesAt, IsWhole, KeepsAll, LastsUpTo, BeginAt, BeginBelow}
pub use Rattle.pgfeed.specs.Feeds.{Follow, IsLeftIn, IsFresh, IsCutAt, OpenedFrom, first_of, CutsIn}
pub use Rattle.pgfeed.specs.Feeds.{OpensIn, ReopensAt}
pub use Rattle.pgfeed.specs.Texts.{Bodies, column_data, columns_data, key_names, table_line}
pub use Rattle.pgfeed.specs.Texts.{if_there, newer, same_column as same_column_of_pgfeed}
pub use Rattle.pgfeed.specs.Texts.{same_definition, told_at, newest, place, fresh_text}
pub use Rattle.pgfeed.specs.Texts.{change_front, row_data, change_line, sent_rows, sent_op}
pub use Rattle.pgfeed.specs.Texts.{sent_text, missed_line, image_line, named as named_of_pgfeed}
pub use Rattle.pgfeed.specs.Texts.{line_text, told_with, line_told, message_line, entry_body}
pub use Rattle.pgfeed.specs.Texts.{commit_front, unix_micros, about_text, commit_rest, commit_told}
pub use Rattle.pgfeed.specs.Texts.{crc_text, commit_object, commit_size, padded, commit_line}
pub use Rattle.pgfeed.specs.Texts.{entry_line, segment_front, segment_rest, segment_object}
pub use Rattle.pgfeed.specs.Texts.{segment_size, segment_head, closing_object, closing_line}
unfoldable pub use Rattle.pgfeed.specs.Texts.{table_front, key_data, table_rest, body_text, is_text}
unfoldable pub use Rattle.pgfeed.specs.Texts.{content_data, messages_text, entry_crc, entry_text}
unfoldable pub use Rattle.pgfeed.specs.Texts.{entries_text}
pub use Rattle.pgfeed.specs.Fits.{FitsAbout, FitsLine, FitsEntry}
pub use Rattle.pgapply.specs.Dump.{shown_namespace}
pub use Rattle.pgjson.specs.Messages.{integer, natural, letter_data, old_data, prior_data}
pub use Rattle.pgjson.specs.Cells.{list, hex_data, cell_data, cells_data}
pub use Rattle.pglsn.specs.Texts.{upper_digit}
unfoldable pub use Rattle.pglsn.specs.Texts.{half_text, lsn_text}
pub use Rattle.pgcrc.specs.Crc.{differ, divisor, is_odd, message_bits, ones}
unfoldable pub use Rattle.pgcrc.specs.Crc.{after_bit, after_bits, bits, crc32}
pub use Rattle.pgfeed.specs.Segments.{IsHead, IsFinished, IsEnded, Begins, IsFront, HasHead}
pub use Rattle.pgfeed.specs.Segments.{KeepsEntries, LastsAs, Lasts, HasWhatLasts, most_tested}
pub use Rattle.pgfeed.specs.Segments.{EndsTested, IsCut, IsFound}
pub use Rattle.pgfeed.specs.Beside.{KeepsRest, LastsFrom, is_stuck_feed, told_from, RecordsRest}
pub use Rattle.pgfeed.specs.Beside.{LeadsFrom}
pub use Rattle.pgledger.specs.Records.{Records, tally_since, TellTo, TellsSince, RecordsSince}
pub use Rattle.pgfeed.specs.Hearing.{if_whole, all_heard}
pub use Rattle.pgfeed.specs.Lasting.{IsLeftOf}
pub use Rattle.pgrecovery.specs.ToldLife.{fed_tally, holds_told, IsToldRun, TellsThere, TellThrough}
pub use Rattle.pgrecovery.specs.ToldLife.{OneToldLife}
pub use Rattle.pgsub_core.specs.Subscriber.Tallied.{ended_between, tallied_over, told_of}
pub use Rattle.pgsub_core.specs.Subscriber.Tallied.{transactions_tallied, history_tallied, taken_of}
pub use Rattle.pgapply.specs.Missing.{behind, is_absent as is_absent_of_pgapply, finds_none}
pub use Rattle.pgapply.specs.Missing.{missing_in, missing, oids_of, first_miss, with_miss}
pub use Rattle.pgapply.specs.Missing.{with_misses, nothing_missed}
unfoldable pub use Rattle.pgapply.specs.Missing.{all_missing}
