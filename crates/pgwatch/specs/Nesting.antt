-- Logical Streaming Replication Protocol: which items of a streamed transaction survive, read from
-- the last to the first, and the one that fits no nesting of subtransactions.
use Rattle.std.specs.Prelude.{ℕ, List, [], ◌∷◌, ◌==◌, Option, Some, None, Result, Ok, Err}
use Rattle.std.specs.Prelude.{if◌then◌else◌, refl, not}
use Rattle.std.specs.List.{filter}
use Rattle.std.specs.Coded.{Coded, code_by, coded×, coded_ℕ, coded_list}
use Rattle.pgwatch.specs.Known.{OidSet, oid_set_code, none_known, is_known, with_known}
use Rattle.pgwatch.specs.contracts.noted.Noted as noted
use Rattle.pgwatch.specs.declared.nest.Misfit.{Misfit}
use Rattle.pgwatch.specs.declared.nest.Misfit.TheVariants as misfit
use Rattle.pgwatch.specs.declared.noted.Noted.{Noted}
use Rattle.pgwatch.specs.declared.noted.What.{What}
use Rattle.pgwatch.specs.declared.noted.What.TheVariants as what

-- Before a part of a streamed transaction: the xids that its last item before it may have without
-- being another subtransaction's, the innermost first; the xids that the part has; those that are
-- aborted with nothing that survives before them in it; and what of it survives.
pub record Nesting : Type 0 where
  pub path : List ℕ
  pub seen : OidSet
  pub undone : OidSet
  pub surviving : List Noted

abbrev pub nesting_code : Coded Nesting
nesting_code = code_by (List ℕ × (OidSet × (OidSet × List Noted)))
    (coded× (coded_list coded_ℕ) (coded× oid_set_code (coded× oid_set_code (coded_list noted.the_row.coded))))
    (λ n. (n.path, (n.seen, (n.undone, n.surviving))))
    (λ p. record { path = p.0; seen = p.1.0; undone = p.1.1.0; surviving = p.1.1.1 }) (λ _. refl)

abbrev pub at_end : ℕ → Nesting
at_end xid = record { path = xid ∷ []; seen = with_known xid none_known; undone = none_known; surviving = [] }

-- up to this xid
abbrev pub path_to : ℕ → List ℕ → Option (List ℕ)
path_to xid [] = None
path_to xid (x ∷ xs) = if x == xid then Some (x ∷ xs) else path_to xid xs

-- An xid that was seen goes on, where it isn't left yet; another one begins.
abbrev pub path_with : Nesting → ℕ → Option (List ℕ)
path_with n xid = if is_known xid n.seen then path_to xid n.path else Some (xid ∷ n.path)

abbrev pub survived : Nesting → Noted → Option (List ℕ) → Option Nesting
survived n x None = None
survived n x (Some path) = Some (record {
  path = path;
  seen = with_known x.subxid n.seen;
  undone = none_known;
  surviving = x ∷ n.surviving;
})

-- one of an xid that is aborted behind it is gone, another one survives
abbrev pub item_nested : Nesting → Noted → Option Nesting
item_nested n x = if is_known x.subxid n.undone then Some n else survived n x (path_with n x.subxid)

abbrev pub abort_nested : Nesting → ℕ → Option Nesting
abort_nested n xid = if is_known xid n.undone then Some n
    else (if is_known xid n.seen then None
    else Some (record n { seen = with_known xid n.seen; undone = with_known xid n.undone }))

abbrev pub nested_as : Nesting → Noted → What → Option Nesting
nested_as n x (what.Relation oid) = item_nested n x
nested_as n x (what.Change oid) = item_nested n x
nested_as n x (what.Truncate oids) = item_nested n x
nested_as n x what.Abort = abort_nested n x.subxid

abbrev pub nested : Nesting → Noted → Option Nesting
nested n x = nested_as n x x.what

abbrev pub or_misfit : Noted → Option Nesting → Result Nesting Noted
or_misfit x None = Err x
or_misfit x (Some n) = Ok n

abbrev pub then_nested : Noted → Result Nesting Noted → Result Nesting Noted
then_nested x (Ok n) = or_misfit x (nested n x)
then_nested x (Err y) = Err y

-- all of them, from the last on, or the one that doesn't fit
abbrev pub nest : Nesting → List Noted → Result Nesting Noted
nest n [] = Ok n
nest n (x ∷ later) = then_nested x (nest n later)

abbrev pub surviving_of : Result Nesting Noted → Result (List Noted) Misfit
surviving_of (Ok n) = Ok n.surviving
surviving_of (Err x) = Err (misfit.Unnested x.at x.subxid)

-- what survives of a transaction
abbrev pub unnested : ℕ → List Noted → Result (List Noted) Misfit
unnested xid xs = surviving_of (nest (at_end xid) xs)

-- ---- of all transactions that are open

abbrev pub of_xid : ℕ → List Noted → List Noted
of_xid xid all = filter (λ (x : Noted). x.xid == xid) all

abbrev pub without_xid : ℕ → List Noted → List Noted
without_xid xid all = filter (λ (x : Noted). not (x.xid == xid)) all
