-- A store that refuses a statement stands in for no other fault: of a Commit outside a pair, of one
-- whose LSN isn't that of its Begin, and of one whose change no Relation message has described.
use Rattle.std.proofs.Common.{◌≡◌, ◌∷◌, [], ℤ, pos, sym, subst}
use Rattle.std.specs.FinMap as map
use Rattle.pgrel.specs.declared.fault.RelFault.TheVariants as rel
use Rattle.pgorder.specs.Steps.{InPair, initial_order}
use Rattle.pgsub_core.specs.declared.fault.Fault.TheVariants as fault
use Rattle.pgsub_core.specs.Server.Stream.{Sent}
use Rattle.pgsub_core.specs.Machine.Replica.{Stopped}
use Rattle.pgsub_core.specs.Subscriber.Subscribed.{Subscribed}
use Rattle.pgsub_core.specs.Machine.Taking.{take, ReachesStore}
use Rattle.pgsub_core.specs.Subscriber.Handled.{IsRefusedBehind}
use Rattle.pgsub_core.proofs.Samples.{insert_t, sent, commit, empty_one, spools}

-- the only message of the only session
next_reaches : (now : ℤ) (m : Sent) (s : Subscribed) → IsRefusedBehind now ([] ∷ []) ((m ∷ []) ∷ []) s → ReachesStore (take now s m)
next_reaches now m s refused =
    let same : m ≡ refused.0 = let parts = refused.1.1 in cc in
    subst (λ (x : Sent). ReachesStore (take now s x)) (sym same) refused.5

outside_pair : (now : ℤ) → IsRefusedBehind now ([] ∷ []) ((sent (commit 256 304) ∷ []) ∷ []) (empty_one 1000) → ⊥
outside_pair now refused = next_reaches now (sent (commit 256 304)) (empty_one 1000) refused

-- inside the pair of xid 10 that began at LSN 256, with one Insert
abbrev in_pair : Subscribed
in_pair = record (empty_one 1000)
    { order = record initial_order { context = InPair 256 10 }; held = map.insert map.empty 10 ((10, insert_t 49 97) ∷ []) }

other_lsn : (now : ℤ) → IsRefusedBehind now ([] ∷ []) ((sent (commit 257 304) ∷ []) ∷ []) in_pair → ⊥
other_lsn now refused = next_reaches now (sent (commit 257 304)) in_pair refused

its_relation_is_unknown : take (pos 0) in_pair (sent (commit 256 304)) ≡ Stopped in_pair (fault.Relation (rel.UnknownRelation 16384))
its_relation_is_unknown = simp spools

undescribed : IsRefusedBehind (pos 0) ([] ∷ []) ((sent (commit 256 304) ∷ []) ∷ []) in_pair → ⊥
undescribed refused = subst ReachesStore its_relation_is_unknown (next_reaches (pos 0) (sent (commit 256 304)) in_pair refused)
