use Rattle.std.proofs.Common.{◌≡◌, ◌∙◌, subst}
use Rattle.pglogical.specs.Borrowed.{message_value}
use Rattle.pglogical.specs.declared.message_ref.MessageRef.{MessageRef}
use Rattle.pglogical.specs.Spelling.{message_spelling}
use Rattle.pgcompared.proofs.Spellings.{spelled}
use Rattle.pgcompared.proofs.session.hold.Goals as goal

pub hold_item-requires : goal.hold_item-requires
hold_item-requires c =
    subst (λ (m : MessageRef). c.args.body.now ≡ message_spelling (message_value m)) c.in-Item.is c.requires
    ∙ spelled c.in-Item.xid c.in-Item.item
