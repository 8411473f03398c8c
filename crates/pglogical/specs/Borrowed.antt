-- The message that is borrowed.
-- PostgreSQL documentation, Logical Replication Message Formats.
use Rattle.pglogical.specs.declared.message_ref.MessageRef.{MessageRef}
use Rattle.pglogical.specs.declared.message_ref.MessageRef.TheVariants as borrowed
use Rattle.pglogical.specs.declared.message.Message.{Message}
use Rattle.pglogical.specs.declared.message.Message.TheVariants as owned

abbrev pub message_value : MessageRef → Message
message_value (borrowed.Begin lsn time xid) = owned.Begin lsn time xid
message_value (borrowed.Commit lsn end time) = owned.Commit lsn end time
message_value (borrowed.Origin lsn name) = owned.Origin lsn name.now
message_value (borrowed.TypeName xid oid namespace name) = owned.TypeName xid oid namespace.now name.now
message_value (borrowed.Logical xid transactional lsn prefix content) = owned.Logical xid transactional lsn prefix.now content.now
message_value (borrowed.Item xid item) = owned.Item xid item
message_value (borrowed.StreamStart xid first) = owned.StreamStart xid first
message_value borrowed.StreamStop = owned.StreamStop
message_value (borrowed.StreamCommit xid lsn end time) = owned.StreamCommit xid lsn end time
message_value (borrowed.StreamAbort xid label) = owned.StreamAbort xid label
