-- The changes of a transaction whose items are read part after part.
use Rattle.std.specs.Prelude.{◌≡◌, ◌<◌, ◌≤◌, ◌⊎◌, ◌-◌, ℕ, List, [], Bool, IsTrue, length, take}
use Rattle.std.specs.Prelude.{drop}
use Rattle.std.specs.Prelude.{Option, Some, None, Result, Ok, Err, refl}
use Rattle.std.proofs.Common.{◌∙◌}
use Rattle.std.specs.Coded.{Coded, code_by, coded×, coded_ℕ}
use Rattle.pglogical.specs.declared.message.Item.{Item}
use Rattle.pgspool.specs.declared.fault.SpoolFault.{SpoolFault}
use Rattle.pgspool.specs.Labels.{HeldMap, items_of, held_of}
use Rattle.pgapply.specs.declared.fault.StoreFault.{StoreFault}
use Rattle.pgapply.specs.Apply.{Change}
use Rattle.pgapply.specs.Parts.{AreSteps}
use Rattle.pgsub_core.specs.declared.fault.Fault.{Fault}
use Rattle.pgsub_core.specs.Server.Described.{described_from}
use Rattle.pgsub_core.specs.Machine.Codes.{relations_code}
use Rattle.pgsub_core.specs.Machine.Faults.{fault_of_spool, fault_of_store, IsOfSpools}
use Rattle.pgsub_core.specs.Machine.Replica.{RelationCache, all_cached}
use Rattle.pgsub_core.specs.Calls.Drafts.{known_to}

-- the items from one index up to another, without that one
abbrev pub part : List Item → ℕ → ℕ → List Item
part items from to = take (to - from) (drop from items)

abbrev pub given_changes : Result (List Change) ℕ → List Change
given_changes (Ok changes) = changes
given_changes (Err missing) = []

-- the changes of items, none where one of them lacks its definition
abbrev pub changes_in : RelationCache → List Item → List Change
changes_in relations items = given_changes (described_from (known_to relations) items)

-- none lacks it
abbrev pub IsDescribed : RelationCache → List Item → Type 0
IsDescribed relations items = described_from (known_to relations) items ≡ Ok (changes_in relations items)

-- Where the reading of a transaction's items stands: the spools, under which name they are
-- borrowed,
-- what the relation cache is before this part, and the part.
pub record Parting (P : Type 0) : Type 0 where
  pub spools : P
  pub name : ℕ
  pub relations : RelationCache
  pub xid : ℕ
  pub from : ℕ
  pub to : ℕ

abbrev pub parting_code : {P : Type 0} → Coded P → Coded (Parting P)
parting_code {P} spools =
    code_by (P × (ℕ × (RelationCache × (ℕ × (ℕ × ℕ)))))
    (coded× spools (coded× coded_ℕ (coded× relations_code (coded× coded_ℕ (coded× coded_ℕ coded_ℕ)))))
    (λ a. (a.spools, (a.name, (a.relations, (a.xid, (a.from, a.to))))))
    (λ p. record {
      spools = p.0;
      name = p.1.0;
      relations = p.1.1.0;
      xid = p.1.1.1.0;
      from = p.1.1.1.1.0;
      to = p.1.1.1.1.1;
    }) (λ _. refl)

-- The part was read, as it was written where the spools are honest; and then all items from it on
-- can be described.
pub record IsPart (honest : Type 0) (has_part is_part : ℕ → ℕ → Type 0) (items : List Item) (relations : RelationCache) (from to : ℕ)
    : Type 0 where
  pub order : from ≤ to
  pub within : to ≤ length items
  pub ready : from < to → has_part from to
  pub read : honest → from < to → is_part from to
  pub described : honest → IsDescribed relations (drop from items)

module _ {P : Type 0} (held : P → HeldMap) where
  abbrev pub items_in : Parting P → List Item
  items_in p = items_of (held_of (held p.spools) p.xid)

  abbrev pub here_in : Parting P → List Change
  here_in p = changes_in p.relations (part (items_in p) p.from p.to)

  -- those of the items behind the part
  abbrev pub left_in : Parting P → List Change
  left_in p = changes_in (all_cached p.relations (part (items_in p) p.from p.to)) (drop p.to (items_in p))

  abbrev pub most_left_in : Parting P → ℕ
  most_left_in p = length (items_in p) - p.to

  -- They are the same spools, which hold what they held, and don't become honest.
  pub record LeadsOn (most : P → ℕ) (is_honest : P → Bool) (old new : Parting P) : Type 0 where
    pub name_is : new.name ≡ old.name
    pub held_is : held new.spools ≡ held old.spools
    pub most_is : most new.spools ≡ most old.spools
    pub honest : IsTrue (is_honest new.spools) → IsTrue (is_honest old.spools)

-- so its calls are steps
pub leads_steps : {P : Type 0} (held : P → HeldMap) (most : P → ℕ) (is_honest : P → Bool)
    → AreSteps (LeadsOn held most is_honest) (λ (p : Parting P). IsTrue (is_honest p.spools))
leads_steps held most is_honest = record {
  none = λ p. record { name_is = refl; held_is = refl; most_is = refl; honest = λ h. h };
  more = λ p q r one two. record {
    name_is = two.name_is ∙ one.name_is;
    held_is = two.held_is ∙ one.held_is;
    most_is = two.most_is ∙ one.most_is;
    honest = λ h. one.honest (two.honest h);
  };
  honest = λ p q one h. one.honest h;
}

-- the fault that stopped a staging: that of the spools, which the store can't tell, before its own
abbrev pub fault_told : StoreFault → Option SpoolFault → Fault
fault_told fault None = fault_of_store fault
fault_told fault (Some of_spools) = fault_of_spool of_spools

abbrev pub staging_told : Result (Unit {0}) StoreFault → Option SpoolFault → Result (Unit {0}) Fault
staging_told (Ok done) of_spools = Ok done
staging_told (Err fault) of_spools = Err (fault_told fault of_spools)

-- the spools stopped it, or the store for this reason
abbrev pub StopsStaging : Type 0 → (StoreFault → Type 0) → Fault → Type 0
StopsStaging may_fail refuses f = IsOfSpools may_fail f ⊎ ((k : StoreFault) × (f ≡ fault_of_store k) × refuses k)
