-- Logical Replication Message Formats, Relation: the relations that were described, as a set of
-- OIDs.
use Rattle.std.specs.Prelude.{◌≡◌, ℕ, Bool, false, ◌==◌, ◌||◌}
use Rattle.std.proofs.Common.{ap, ◌∙◌}
use Rattle.std.specs.Coded.{Coded, coded_ℕ}
use Rattle.std.specs.Ordering.{nat_cmp}
use Rattle.std.specs.Cmp.{nat_cmp_total, unsigned_tied, nat_eq_equiv}
use Rattle.std.specs.FinSet as set
use Rattle.std.specs.FinSet.{contains-empty, contains-insert}

abbrev pub OidSet : Type 0
OidSet = set.FinSet nat_cmp

abbrev pub oid_set_code : Coded OidSet
oid_set_code = set.code coded_ℕ

abbrev pub none_known : OidSet
none_known = set.empty

abbrev pub is_known : ℕ → OidSet → Bool
is_known oid known = set.contains known oid

abbrev pub with_known : ℕ → OidSet → OidSet
with_known oid known = set.insert known oid

pub is_known-none : (x : ℕ) → is_known x none_known ≡ false
is_known-none x = contains-empty nat_cmp x

pub is_known-with : (x y : ℕ) (known : OidSet) → is_known x (with_known y known) ≡ (y == x || is_known x known)
is_known-with x y known =
    contains-insert nat_cmp_total known y x ∙ ap (λ b. b || is_known x known) (unsigned_tied x y ∙ nat_eq_equiv.symm x y)
