use Rattle.pgledger.specs.Drafts.{HasDraft}
use Rattle.pgrows.specs.Rows.{tables_of}
use Rattle.pgencoded.specs.Acts.{Goes, IfOpened}
use Rattle.pgreshaping.specs.Known.{AreStored}
use Rattle.pgstore.specs.Parted.{AddsParts, OnlyDrafts, TakesParts}
use Rattle.pgstore.proofs.parting.take_parts.Given as goal

-- the parts so far were taken and told, and what is known is stored
abbrev pub invariant-parts : goal.invariant-parts
invariant-parts g l =
    g.P.Parts.leads l.initial.parts l.parts
    × Goes g.S.Store l.initial.rows l.rows
    × IfOpened g.S.Store l.initial.rows l.rows
    (TakesParts g.S.Store l.initial.rows l.rows (g.P.Parts.is_honest l.parts) (g.P.Parts.left l.initial.parts) (g.P.Parts.left l.parts)
    l.end l.initial.misses l.misses)
    × IfOpened g.S.Store l.initial.rows l.rows (AreStored l.known (tables_of g.S.Store l.rows))
    × IfOpened g.S.Store l.initial.rows l.rows (g.P.Parts.is_honest l.parts
    → AddsParts g.S.Store g.L.Ledger.drafts g.L.Ledger.is_wanting l.initial.rows l.rows (g.P.Parts.left l.initial.parts)
    (g.P.Parts.left l.parts) l.initial.ledger l.ledger)
    × OnlyDrafts g.L.Ledger.begins g.L.Ledger.keeps g.L.Ledger.outlasts g.L.Ledger.is_stuck g.L.Ledger.is_wanting g.L.Ledger.is_hearing
    g.L.Ledger.heard g.L.Ledger.reopens l.initial.ledger l.ledger
    × (HasDraft g.L.Ledger.drafts l.initial.ledger → HasDraft g.L.Ledger.drafts l.ledger)

-- fewer parts are left
abbrev pub decreases-parts : goal.decreases-parts
decreases-parts g l = g.P.Parts.most_left l.parts
