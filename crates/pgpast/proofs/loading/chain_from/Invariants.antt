use Rattle.std.proofs.Common.{◌≡◌, ◌<◌, ◌≤◌, ◌-◌, length}
use Rattle.pgpast.specs.Loaded.{AreDown, IsChain, IsFirstOf, slot_below, slot_under, slots_of}
use Rattle.pgpast.proofs.loading.chain_from.Given as goal

abbrev pub invariant-loop-slot : goal.invariant-loop-slot
invariant-loop-slot l =
    IsChain l.bytes l.chain.items × IsFirstOf l.chain.items l.fn.first × AreDown l.bytes l.newest l.chain.items
    × (slot_below (slots_of l.bytes) l.newest l.chain.items ≡ slot_under (slots_of l.bytes) l.slot) × (l.slot < slots_of l.bytes)
    × (length l.chain.items ≤ slots_of l.bytes)

abbrev pub decreases-loop-slot : goal.decreases-loop-slot
decreases-loop-slot l = slots_of l.bytes - length l.chain.items
