use Rattle.std.proofs.Common.{◌≡◌, ◌++◌, drop, string_bytes}
use Rattle.pgfeed.specs.Texts.{messages_text}
use Rattle.pgfeed.proofs.messages.messages_text.Given as goal

abbrev pub invariant-loop-message : goal.invariant-loop-message
invariant-loop-message l = string_bytes l.text ++ messages_text (drop l.message-index l.messages) ≡ messages_text l.messages
