-- Items kept as the bytes that spell them outside a block, one behind the other, with the label and
-- the start of each.
use Rattle.std.specs.Prelude.{◌≡◌, ℕ, List, [], ◌∷◌, ◌+◌, ◌-◌, length, take, drop, Option, Some}
use Rattle.std.specs.Prelude.{None, Result, Ok, Err, false, unwrap_or}
use Rattle.std.specs.List.{flat_map}
use Rattle.pglogical.specs.declared.message.Item.{Item}
use Rattle.pglogical.specs.declared.message.Item.TheVariants.{Truncate}
use Rattle.pglogical.specs.declared.message.Message.{Message}
use Rattle.pglogical.specs.declared.message.Message.TheVariants as message
use Rattle.pglogical.specs.declared.fault.DecodeFault.{DecodeFault}
use Rattle.pglogical.specs.Spelling.{item_spelling}
use Rattle.pglogical.specs.Reading.{message_at}
use Rattle.pgspool.specs.declared.mark.Mark.{Mark}
use Rattle.pgspool.specs.Labels.{LabelledItem}

-- the spellings, one behind the other
abbrev pub spelled : List LabelledItem → List ℕ
spelled held = flat_map (λ (l : LabelledItem). item_spelling None l.1) held

-- where each item begins
abbrev pub marks_from : ℕ → List LabelledItem → List Mark
marks_from n [] = []
marks_from n (l ∷ ls) = record { subxid = l.0; start = n } ∷ marks_from (n + length (item_spelling None l.1)) ls

abbrev pub start_or : ℕ → Option Mark → ℕ
start_or end None = end
start_or end (Some m) = m.start

-- the item of a message
abbrev pub item_part : Message → Option Item
item_part (message.Item xid item) = Some item
item_part (message.Begin lsn time xid) = None
item_part (message.Commit lsn end time) = None
item_part (message.Origin lsn name) = None
item_part (message.TypeName xid oid namespace name) = None
item_part (message.Logical xid transactional lsn prefix content) = None
item_part (message.StreamStart xid first) = None
item_part message.StreamStop = None
item_part (message.StreamCommit xid lsn end time) = None
item_part (message.StreamAbort xid label) = None

-- the item that was read
abbrev pub item_at_all : Result Message DecodeFault → Option Item
item_at_all (Ok m) = item_part m
item_at_all (Err f) = None

-- a change of nothing where there is none
abbrev pub item_read : Result Message DecodeFault → Item
item_read read = unwrap_or (item_at_all read) (Truncate 0 [])

abbrev pub item_in : List ℕ → Item
item_in bytes = item_read (message_at false bytes)

-- the spelling of an item is read as it
abbrev pub IsReadable : Item → Type 0
IsReadable item = message_at false (item_spelling None item) ≡ Ok (message.Item None item)

-- where the next item begins, or the end
abbrev pub next_start : List Mark → ℕ → ℕ
next_start [] end = end
next_start (m ∷ ms) end = m.start

-- the items, from the bytes at the first one's start on
abbrev pub held_in : List Mark → List ℕ → List LabelledItem
held_in [] bytes = []
held_in (m ∷ ms) bytes =
    (m.subxid, item_in (take (next_start ms (m.start + length bytes) - m.start) bytes))
    ∷ held_in ms (drop (next_start ms (m.start + length bytes) - m.start) bytes)
