-- Identities, shapes and checks of four tables, as the definitions give them.
use Rattle.std.proofs.Common.{◌≡◌, refl, ◌∷◌, [], ◌++◌, List, ℕ, Bool, Some, None, Ok, Err, negsuc}
use Rattle.std.proofs.Common.{true, false}
use Rattle.std.specs.Prelude.{codes}
use Rattle.pgtuple.specs.declared.cell.Cell.{Cell}
use Rattle.pgtuple.specs.declared.cell.Cell.TheVariants.{Null, Unchanged, Text, Binary}
use Rattle.pglogical.specs.declared.message.RelationDef.{RelationDef}
use Rattle.pglogical.specs.declared.message.Column.{Column}
use Rattle.pglogical.specs.declared.message.OldKind.TheVariants.{Key, Full}
use Rattle.pgrel.specs.declared.fault.RelFault.TheVariants.{Width, UnknownIdentity}
use Rattle.pgrel.specs.declared.fault.RelFault.TheVariants.{UnchangedInInsert, NoIdentity}
use Rattle.pgrel.specs.Carried.{carried}
use Rattle.pgrel.specs.Identity.{keyed, identity, same_shape, resolved, checked_insert}
use Rattle.pgrel.specs.Identity.{checked_identity, searched_identity}

abbrev column : Bool → List ℕ → ℕ → Column
column key name type_oid = record { key = key; name = name; type_oid = type_oid; modifier = negsuc 0 }

abbrev relation : ℕ → List ℕ → ℕ → List Column → RelationDef
relation oid name letter columns = record { oid = oid; namespace = codes "public"; name = name; letter = letter; columns = columns }

-- replica identity DEFAULT, with the key column id
abbrev t : RelationDef
t = relation 16384 (codes "t") 100 (column true (codes "id") 23 ∷ column false (codes "v") 25 ∷ [])

-- the same table with a third column
abbrev t3 : RelationDef
t3 = record t { columns = t.columns ++ column false (codes "z") 25 ∷ [] }

abbrev w : RelationDef
w = relation 16385 (codes "w") 100 (column true (codes "id") 23 ∷ column false (codes "v") 25 ∷ column false (codes "w") 25 ∷ [])

-- replica identity FULL: each column is flagged
abbrev f : RelationDef
f = relation 16386 (codes "f") 102 (column true (codes "v") 25 ∷ [])

-- replica identity NOTHING
abbrev n : RelationDef
n = relation 16387 (codes "n") 110 (column false (codes "v") 25 ∷ [])

-- replica identity DEFAULT of a table without a primary key
abbrev unflagged : RelationDef
unflagged = record n { letter = 100 }

-- replica identity USING INDEX, over two columns of three
abbrev by_index : RelationDef
by_index = relation 16388 (codes "i") 105 (column true (codes "a") 23 ∷ column false (codes "b") 25 ∷ column true (codes "c") 25 ∷ [])

abbrev no_columns : RelationDef
no_columns = relation 16389 (codes "e") 100 []

abbrev text : ℕ → Cell
text byte = Text (byte ∷ [])

-- keyed, or a bag
t_keyed : keyed t ≡ true
t_keyed = refl

w_keyed : keyed w ≡ true
w_keyed = refl

index_keyed : keyed by_index ≡ true
index_keyed = refl

f_bag : keyed f ≡ false
f_bag = refl

n_bag : keyed n ≡ false
n_bag = refl

flagged_n_bag : keyed (record f { letter = 110 }) ≡ false
flagged_n_bag = refl

unflagged_bag : keyed unflagged ≡ false
unflagged_bag = refl

unflagged_index_bag : keyed (record n { letter = 105 }) ≡ false
unflagged_index_bag = refl

no_columns_bag : keyed no_columns ≡ false
no_columns_bag = refl

-- identities: the key cells in column order, nulls among them; of a bag the row
t_identity : identity t (text 49 ∷ text 97 ∷ []) ≡ text 49 ∷ []
t_identity = refl

t_null_identity : identity t (Null ∷ text 99 ∷ []) ≡ Null ∷ []
t_null_identity = refl

index_identity : identity by_index (text 49 ∷ text 97 ∷ Null ∷ []) ≡ text 49 ∷ Null ∷ []
index_identity = refl

f_identity : identity f (text 120 ∷ []) ≡ text 120 ∷ []
f_identity = refl

unflagged_identity : identity unflagged (text 120 ∷ []) ≡ text 120 ∷ []
unflagged_identity = refl

no_columns_identity : identity no_columns [] ≡ []
no_columns_identity = refl

-- shapes
t_itself : same_shape t t ≡ true
t_itself = refl

t_t3 : same_shape t t3 ≡ false
t_t3 = refl

t3_t : same_shape t3 t ≡ false
t3_t = refl

other_name : same_shape t (record t { oid = 1; namespace = []; name = codes "u" }) ≡ true
other_name = refl

other_type : same_shape f (record f { columns = record { key = true; name = codes "v"; type_oid = 23; modifier = negsuc 4 } ∷ [] }) ≡ true
other_type = refl

other_letter : same_shape n unflagged ≡ false
other_letter = refl

other_flag : same_shape n (record n { columns = column true (codes "v") 25 ∷ [] }) ≡ false
other_flag = refl

other_column_name : same_shape n (record n { columns = column false (codes "u") 25 ∷ [] }) ≡ false
other_column_name = refl

other_order : same_shape t (record t { columns = column false (codes "v") 25 ∷ column true (codes "id") 23 ∷ [] }) ≡ false
other_order = refl

-- the identity that an update or a delete searches
old_key_searched : searched_identity t (Some (Key, text 49 ∷ Null ∷ [])) (Some (text 50 ∷ Unchanged ∷ [])) ≡ Ok (text 49 ∷ [])
old_key_searched = refl

new_searched : searched_identity t None (Some (text 49 ∷ Unchanged ∷ [])) ≡ Ok (text 49 ∷ [])
new_searched = refl

delete_searched : searched_identity t (Some (Key, text 49 ∷ Null ∷ [])) None ≡ Ok (text 49 ∷ [])
delete_searched = refl

keyed_full_searched : searched_identity t (Some (Full, text 49 ∷ text 97 ∷ [])) None ≡ Ok (text 49 ∷ [])
keyed_full_searched = refl

null_searched : searched_identity t (Some (Key, Null ∷ Null ∷ [])) None ≡ Ok (Null ∷ [])
null_searched = refl

full_searched : searched_identity f (Some (Full, text 120 ∷ [])) (Some (text 121 ∷ [])) ≡ Ok (text 120 ∷ [])
full_searched = refl

full_without_old : searched_identity f None (Some (text 120 ∷ [])) ≡ Err NoIdentity
full_without_old = refl

full_by_key : searched_identity f (Some (Key, text 120 ∷ [])) (Some (text 121 ∷ [])) ≡ Err NoIdentity
full_by_key = refl

nothing_without_old : searched_identity n None (Some (text 120 ∷ [])) ≡ Err NoIdentity
nothing_without_old = refl

nothing_in_full : searched_identity n (Some (Full, text 120 ∷ [])) None ≡ Err NoIdentity
nothing_in_full = refl

unflagged_in_full : searched_identity unflagged (Some (Full, text 120 ∷ [])) None ≡ Err NoIdentity
unflagged_in_full = refl

-- the order of the checks
width_first : searched_identity n None (Some (text 120 ∷ text 121 ∷ [])) ≡ Err Width
width_first = refl

old_width_first : searched_identity t (Some (Key, Unchanged ∷ [])) (Some (Unchanged ∷ text 97 ∷ [])) ≡ Err Width
old_width_first = refl

new_width_too : searched_identity f (Some (Key, Unchanged ∷ [])) (Some []) ≡ Err Width
new_width_too = refl

no_identity_first : searched_identity n None (Some (Unchanged ∷ [])) ≡ Err NoIdentity
no_identity_first = refl

unknown_key : searched_identity t (Some (Key, Unchanged ∷ Null ∷ [])) None ≡ Err UnknownIdentity
unknown_key = refl

unknown_new_key : searched_identity t None (Some (Unchanged ∷ text 97 ∷ [])) ≡ Err UnknownIdentity
unknown_new_key = refl

unknown_full : searched_identity f (Some (Full, Unchanged ∷ [])) None ≡ Err UnknownIdentity
unknown_full = refl

-- the identity of a row
row_known : checked_identity t (Unchanged ∷ text 97 ∷ []) ≡ Ok (Unchanged ∷ [])
row_known = refl

row_width : checked_identity t (text 49 ∷ []) ≡ Err Width
row_width = refl

-- inserts
insert_whole : checked_insert t (text 49 ∷ Null ∷ []) ≡ Ok tt
insert_whole = refl

insert_width : checked_insert t (Unchanged ∷ []) ≡ Err Width
insert_width = refl

insert_unchanged : checked_insert t (text 57 ∷ Unchanged ∷ []) ≡ Err UnchangedInInsert
insert_unchanged = refl

-- a cell that wasn't sent is the old row's
big_kept : resolved (text 49 ∷ text 98 ∷ Unchanged ∷ []) (text 49 ∷ text 97 ∷ Text (codes "big") ∷ []) ≡ text 49 ∷ text 98
    ∷ Text (codes "big") ∷ []
big_kept = refl

null_is_sent : resolved (Null ∷ []) (text 97 ∷ []) ≡ Null ∷ []
null_is_sent = refl

-- ---- rows carried to another shape

-- a new column is null
third_column : carried t t3 (text 49 ∷ text 97 ∷ []) ≡ text 49 ∷ text 97 ∷ Null ∷ []
third_column = refl

-- an old column goes
column_dropped : carried t3 t (text 49 ∷ text 97 ∷ text 98 ∷ []) ≡ text 49 ∷ text 97 ∷ []
column_dropped = refl

all_dropped : carried t no_columns (text 49 ∷ text 97 ∷ []) ≡ []
all_dropped = refl

-- cells follow the names of their columns, whatever their places, types and key flags are
columns_swapped : carried t (record t { columns = column true (codes "v") 20 ∷ column false (codes "id") 25 ∷ [] }) (text 49 ∷ text 97 ∷ [])
    ≡ text 97 ∷ text 49 ∷ []
columns_swapped = refl

-- a renamed column is a new one
column_renamed : carried t (record t { columns = column true (codes "id") 23 ∷ column false (codes "V") 25 ∷ [] }) (text 49 ∷ text 97 ∷ [])
    ≡ text 49 ∷ Null ∷ []
column_renamed = refl

-- of two old columns of one name the first, for each new one of it
first_of_two : carried (record t { columns = column true (codes "v") 23 ∷ column false (codes "v") 25 ∷ [] })
    (record t { columns = column true (codes "v") 23 ∷ column false (codes "v") 25 ∷ [] }) (text 49 ∷ text 97 ∷ []) ≡ text 49 ∷ text 49 ∷ []
first_of_two = refl

-- a cell is carried as it is
binary_carried : carried f (record f { letter = 100 }) (Binary (0 ∷ 255 ∷ []) ∷ []) ≡ Binary (0 ∷ 255 ∷ []) ∷ []
binary_carried = refl
