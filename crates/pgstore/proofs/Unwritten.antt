-- Files without bytes are as a run leaves them: they list no table.
use Rattle.std.proofs.Common.{◌≡◌, [], inl, refl, subst}
use Rattle.sqlite.specs.Recovery.{Image}
use Rattle.sqlite_trees.specs.Objects.{catalog_tree}
use Rattle.sqlite_catalog.specs.Listing.{AreListed}
use Rattle.sqlite.specs.Files.{AreFoundIn}
use Rattle.pgmemory.proofs.Unused.{nothing_is_empty}
use Rattle.pgtables.specs.Schema.{store_schema}
use Rattle.pgstore.specs.Reopened.{IsAsLeft}

pub unwritten_are_left : (content : Image) → content ≡ record { log = []; db = [] } → IsAsLeft content
unwritten_are_left content same db found lists =
    let none : db catalog_tree ≡ [] =
    (nothing_is_empty (record { log = []; db = [] }) db (inl (inl refl)) (subst (λ i. AreFoundIn i db) same found)).1 in
    let all : AreListed [] store_schema = subst (λ rows. AreListed rows store_schema) none lists.listed in
    absurd all.tables
