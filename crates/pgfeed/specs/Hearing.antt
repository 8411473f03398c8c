-- What a feed has heard of the transaction whose commit comes next.
use Rattle.std.specs.Prelude.{◌≡◌, ◌≤◌, ◌+◌, ℕ, List, [], ◌∷◌, Option, Some, None, IfSome, length}
use Rattle.pgledger.specs.declared.heard.Heard.{Heard}
use Rattle.pgfeed.specs.declared.fault.MessageFault.{MessageFault}
use Rattle.pgfeed.specs.declared.hearing.Hearing.{Hearing}

abbrev pub if_whole : Option MessageFault → List Heard → Option (List Heard)
if_whole None messages = Some messages
if_whole (Some fault) messages = None

-- the messages, if all could be kept
abbrev pub all_heard : Hearing → Option (List Heard)
all_heard h = if_whole h.lost h.messages.items

-- how many bytes count of a message
abbrev pub message_size : Heard → ℕ
message_size message = length message.prefix + length message.content

abbrev pub messages_size : List Heard → ℕ
messages_size [] = 0
messages_size (message ∷ messages) = message_size message + messages_size messages

-- their bytes are counted, and no more than that, if there is a limit
pub record IsWithin (limit : Option ℕ) (h : Hearing) : Type 0 where
  pub counted : h.bytes ≡ messages_size h.messages.items
  pub within : IfSome limit (λ most. h.bytes ≤ most)
