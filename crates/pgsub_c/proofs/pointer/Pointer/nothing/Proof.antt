-- `nothing` owns nothing.
use Rattle.std.proofs.Common.{◌≡◌, [], ◌∷◌, refl, None}
use mir.Val.{Val}
use base.Logic.{SProp, emp, id⊢}
use types.Kit.{‵, raw, ◌⊛◌, ◌$◌, ◌∵◌, !, qed, by, move, keep, drop, split}
use types.Kit.{use0, use1}
use types.Run.{lit, no_more, and_then, returns, enter}
use types.ByLocal.{alloc_all, pass_all, free_all, look_at, sets}
use types.Part.{agg}
use contract.Monad.{fact, fact_i}
use contract.Running.{tables}
use denote.RattleType.{RattleType, owns}
use denote.Signature.{types_at}
use denote.RawPtr.{null_ptr}
use denote.Steps.{nothing}
use denote.Param.{layout}
use denote.Triple.Entry.{alive}
use denote.Triple.Walked.{Stays, walk_of}
use Rattle.core.proofs.cell.Inside.{Good}
use Rattle.std_alloc.specs.Box.Ownership.{box_owns}
use Rattle.std.proofs.raw_atomic.Walks.{proved_at, leaves}
use Rattle.pgsub_c.specs.Held.{heap_block, held}
use Rattle.std.proofs.Common.{Option}
use lib.Dec.{lit<}
use Rattle.pgembed.specs.InMemory.{InMemory}
use Rattle.pgembed.specs.InMemory.{in_memory_row}
use Rattle.pgsub_c.specs.contracts.pointer.Pointer as pointer
use Rattle.pgsub_c.proofs.Steps.{word, pointer_in}
use Rattle.pgsub_c.specs.contracts.pointer.Pointer.nothing.{ended, clauses}
use Rattle.pgsub_c.specs.contracts.pointer.Pointer.nothing.Key.{name as #self}
use Rattle.pgsub_c.proofs.pointer.Pointer.nothing.Statement.{statement}
use Rattle.pgsub_c.proofs.pointer.Pointer.nothing.Code as code

pub nothing_spec : {M : Type 1} → statement M
nothing_spec 𝓤 𝓛 𝓜 𝓡 wired =
    let H = 𝓛.H in let 𝓣 = tables 𝓤 H 𝓜 𝓡 𝓡.env in let R : RattleType = in_memory_row in let c = clauses 𝓛 𝓜.mem 𝓡.returns in
    let fn = code.function in let hs : Stays ended.signature.params ended.kept = tt in
    proved_at 𝓛 ended hs c 𝓜 𝓡 tt #self fn (code.unfolded 𝓤 H 𝓜 𝓡 wired) (λ z are.
    let κs = z.0.0 in let Post : Val → SProp 𝓤 = (walk_of 𝓛 ended hs c).post z in let nowhere : Option InMemory = None in
    let good : Good (layout pointer.the_row) (word null_ptr) = (tt, (record { fits = lit< tt }, tt)) in
    qed 𝓛 ((raw (alive 𝓛 ended.signature κs z.0.1) ⊛ ‵ (owns (types_at ended.signature.params κs) z.0.3 z.0.4)) ∷ raw
    ((c κs z.0.3).requires z.1) ∷ []) ∵ move ! (1 ∷ []) $
    drop ! $ split ! $ move ! (1 ∷ []) $ drop ! $
    enter ! 𝓣.C 𝓣.Λ fn [] Post $ alloc_all ! (λ l. pass_all ! refl tt $
    sets ! (agg ! (and_then ! (lit ! tt) (no_more !))) refl good $
    nothing ! $ use1 𝓛 (‵ (held (box_owns heap_block R null_ptr) None)) (id⊢ 𝓤 _) $ pointer_in ! null_ptr None $
    use0 𝓛 (raw (fact 𝓤 (nowhere ≡ nowhere))) (fact_i 𝓤 _ (emp 𝓤) refl) $ nothing ! $
    returns ! (look_at ! 0 refl) $ free_all ! refl $ keep ! (3 ∷ 0 ∷ 2 ∷ 1 ∷ []) $
    by ! (leaves 𝓛 ended hs c z (word null_ptr) (record { at = null_ptr; value = None }) tt tt)))
