-- The first byte of each message, which names it, and the byte before each tuple of a change.
-- PostgreSQL documentation, Logical Replication Message Formats.
use Rattle.std.specs.Prelude.{ℕ, List, [], ◌∷◌}

-- B
abbrev pub begin_tag : ℕ
begin_tag = 66

-- C
abbrev pub commit_tag : ℕ
commit_tag = 67

-- O
abbrev pub origin_tag : ℕ
origin_tag = 79

-- R
abbrev pub relation_tag : ℕ
relation_tag = 82

-- Y
abbrev pub type_tag : ℕ
type_tag = 89

-- I
abbrev pub insert_tag : ℕ
insert_tag = 73

-- U
abbrev pub update_tag : ℕ
update_tag = 85

-- D
abbrev pub delete_tag : ℕ
delete_tag = 68

-- T
abbrev pub truncate_tag : ℕ
truncate_tag = 84

-- M
abbrev pub message_tag : ℕ
message_tag = 77

-- S
abbrev pub stream_start_tag : ℕ
stream_start_tag = 83

-- E
abbrev pub stream_stop_tag : ℕ
stream_stop_tag = 69

-- c
abbrev pub stream_commit_tag : ℕ
stream_commit_tag = 99

-- A
abbrev pub stream_abort_tag : ℕ
stream_abort_tag = 65

-- the first bytes of all messages
abbrev pub message_tags : List ℕ
message_tags = begin_tag ∷ commit_tag ∷ origin_tag ∷ relation_tag ∷ type_tag ∷ insert_tag ∷ update_tag ∷ delete_tag ∷ truncate_tag
    ∷ message_tag ∷ stream_start_tag ∷ stream_stop_tag ∷ stream_commit_tag ∷ stream_abort_tag ∷ []

-- N: the new tuple
abbrev pub new_tuple_tag : ℕ
new_tuple_tag = 78

-- K: the old tuple, with the key columns alone
abbrev pub key_tuple_tag : ℕ
key_tuple_tag = 75

-- O: the old tuple, with all columns
abbrev pub old_tuple_tag : ℕ
old_tuple_tag = 79
