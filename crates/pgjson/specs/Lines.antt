-- PostgreSQL documentation, Streaming Replication Protocol (XLogData, Primary keepalive message)
-- and Message Formats (CopyDone): a line for each frame, in JSON without blanks.
use Rattle.std.specs.Prelude.{ℕ, ℤ, List, [], ◌∷◌, ◌++◌, Bool, codes}
use Rattle.serde_json.specs.Data.{Data, string}
use Rattle.serde_json.specs.Written.{compact_text}
use Rattle.pglogical.specs.declared.message.Message.{Message}
use Rattle.pgjson.specs.Cells.{list}
use Rattle.pgjson.specs.Messages.{bit, integer, lsn_data, message_data, natural}

abbrev pub line : Data → List ℕ
line d = compact_text d ++ 10 ∷ []

-- XLogData: where it starts, the end of the WAL, the server's clock, and the logical message in it
abbrev pub data_data : ℕ → ℕ → ℤ → Message → Data
data_data start end clock m = list (string (codes "data") ∷ lsn_data start ∷ lsn_data end ∷ integer clock ∷ message_data m ∷ [])

-- a keepalive: the end of the WAL, the server's clock, and whether it asks for a reply
abbrev pub keepalive_data : ℕ → ℤ → Bool → Data
keepalive_data end clock reply = list (string (codes "keepalive") ∷ lsn_data end ∷ integer clock ∷ natural (bit reply) ∷ [])

abbrev pub done_data : Data
done_data = list (string (codes "done") ∷ [])
