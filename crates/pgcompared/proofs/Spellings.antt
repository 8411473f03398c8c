-- The encoding of an item in a block and outside.
use Rattle.std.proofs.Common.{◌≡◌, ◌≤◌, ◌++◌, ℕ, Option, None, Some, refl, length, take, drop}
use Rattle.std.proofs.Common.{arith}
use Rattle.pglogical.specs.declared.message.Item.{Item}
use Rattle.pglogical.specs.declared.message.Item.TheVariants as item
use Rattle.pglogical.specs.declared.message.Message.TheVariants as message
use Rattle.pglogical.specs.Spelling.{item_spelling, message_spelling}

pub spelled : (xid : Option ℕ) (i : Item) → message_spelling (message.Item xid i) ≡ item_spelling xid i
unfolding message_spelling
spelled xid i = refl

-- the xid stands behind the tag
pub without_xid : (x : ℕ) (i : Item)
    → take 1 (item_spelling (Some x) i) ++ drop 5 (item_spelling (Some x) i) ≡ item_spelling None i
unfolding item_spelling
without_xid x (item.Relation def) = refl
without_xid x (item.Insert oid row) = refl
without_xid x (item.Update oid prior row) = refl
without_xid x (item.Delete oid kind row) = refl
without_xid x (item.Truncate options oids) = refl

pub is_long : (x : ℕ) (i : Item) → 5 ≤ length (item_spelling (Some x) i)
unfolding item_spelling
is_long x (item.Relation def) = omega arith
is_long x (item.Insert oid row) = omega arith
is_long x (item.Update oid prior row) = omega arith
is_long x (item.Delete oid kind row) = omega arith
is_long x (item.Truncate options oids) = omega arith
