-- What spools over a file are seen as: each open transaction's items, the most bytes that all of
-- them may cost, the items of the transaction that was read back last, those of the part that was
-- read back last, and whether the file has given back what was written.
use Rattle.std.specs.Prelude.{◌≡◌, ◌+◌, ℕ, Bool, List, Option, Some, nat_eq, length, slice_range}
use Rattle.std.specs.Prelude.{refl}
use Rattle.std.specs.Coded.{Coded, code_by, coded×, coded_ℕ, coded_bool, coded_list, coded_option}
use Rattle.std.specs.Map.{lookup}
use Rattle.pglogical.specs.contracts.message.Item as item
use Rattle.pgspill.specs.declared.piece.Owner.{Owner}
use Rattle.pgspool.specs.Labels.{LabelledItem, HeldMap, held_of}
use Rattle.pgspool.specs.Spooled.{held_code, held_by, IsCounted}
use Rattle.pgfilespools.specs.declared.file_items.FileItems.{FileItems}
use Rattle.pgfilespools.specs.Kept.{AreKept, items_kept}

pub record FileSpooled : Type 0 where
  pub held : HeldMap
  pub most : ℕ
  pub loaded : Option (ℕ × List LabelledItem)
  pub part : Option (ℕ × (ℕ × List LabelledItem))
  pub is_honest : Bool

abbrev pub loaded_code : Coded (Option (ℕ × List LabelledItem))
loaded_code = coded_option (coded× coded_ℕ (coded_list (coded× coded_ℕ item.the_row.coded)))

abbrev pub part_code : Coded (Option (ℕ × (ℕ × List LabelledItem)))
part_code = coded_option (coded× coded_ℕ (coded× coded_ℕ (coded_list (coded× coded_ℕ item.the_row.coded))))

abbrev pub spooled_code : Coded FileSpooled
spooled_code = code_by ((HeldMap × ℕ) × (Option (ℕ × List LabelledItem) × (Option (ℕ × (ℕ × List LabelledItem)) × Bool)))
    (coded× (coded× held_code coded_ℕ) (coded× loaded_code (coded× part_code coded_bool)))
    (λ s. ((s.held, s.most), (s.loaded, (s.part, s.is_honest))))
    (λ p. record { held = p.0.0; most = p.0.1; loaded = p.1.0; part = p.1.1.0; is_honest = p.1.1.1 }) (λ _. refl)

-- the items of this transaction stand in memory as they are held
abbrev pub IsLoaded : FileSpooled → ℕ → Type 0
IsLoaded s xid = s.loaded ≡ Some (xid, held_of s.held xid)

-- as many items of this transaction stand in memory as are held, whatever was read of them
pub record IsReady (s : FileSpooled) (xid : ℕ) : Type 0 where
  pub items : List LabelledItem
  pub loaded : s.loaded ≡ Some (xid, items)
  pub all : length items ≡ length (held_of s.held xid)

-- the items of this transaction from one index up to another stand in memory as they are held
abbrev pub IsPart : FileSpooled → ℕ → ℕ → ℕ → Type 0
IsPart s xid from to = s.part ≡ Some (xid, (from, slice_range (held_of s.held xid) from to))

-- as many items stand in memory as these are, whatever was read of them
pub record HasPart (s : FileSpooled) (xid from to : ℕ) : Type 0 where
  pub items : List LabelledItem
  pub part : s.part ≡ Some (xid, (from, items))
  pub all : length items + from ≡ to

abbrev pub Transactions : Type 0
Transactions = List (ℕ × FileItems)

-- each transaction's items are kept under its own xid
abbrev pub EachIsKept : ℕ → List ℕ → List (Option Owner) → Transactions → Type 0
EachIsKept key file owners entries =
    (xid : ℕ) (t : FileItems) → Some t ≡ lookup (nat_eq xid) entries → AreKept key file owners t × (t.strand.xid ≡ xid)

-- what all of them hold
abbrev pub held_in_file : List ℕ → Transactions → HeldMap
held_in_file file entries = held_by (items_kept file) entries

pub record AreSpooled (key : ℕ) (file : List ℕ) (owners : List (Option Owner)) (entries : Transactions) (bytes most : ℕ) : Type 0 where
  pub each : EachIsKept key file owners entries
  pub counted : IsCounted (held_in_file file entries) bytes most
