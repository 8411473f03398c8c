-- `into_loose` has the box again.
use Rattle.std.proofs.Common.{◌≡◌, List, [], ◌∷◌, ◌++◌, refl, sym, ap, ◌∙◌, subst, Some}
use Rattle.std.proofs.Common.{IsSome}
use mir.Val.{Val, vptr}
use base.Logic.{SProp, ent, emp, id⊢, never, fst∗}
use types.Logic.{sem}
use mir.Raw.{raw as bare}
use denote.Memory.{lone}
use prog.Wp.{WpFn}
use types.Kit.{‵, raw, ◌⊛◌, ◌$◌, ◌∵◌, !, qed, by, move, keep, drop, split, fsplit, fjoin, suffices}
use types.Kit.{use0, use1, rewrite}
use types.Run.{stop, fld, of_opd, no_more, and_then, returns, enter}
use types.ByLocal.{alloc_all, pass_all, free_all, look_at, get, get_in, sets}
use types.Part.{agg, sub, whole}
use contract.Monad.{fact, fact_i}
use contract.Running.{tables}
use denote.Exit.{yes}
use denote.RattleType.{RattleType, owns}
use denote.Signature.{types_at, plain}
use denote.RawPtr.{Ptr, block_ptr, null_ptr, in_a_block}
use denote.Steps.{nothing, heard}
use denote.Triple.Entry.{alive}
use denote.Triple.Walked.{Stays, stay_dropped, walk_of}
use Rattle.core.proofs.alloc.Calls.{Goes-blank, handle_tells}
use Rattle.std_alloc.specs.Box.Ownership.{box_owns}
use Rattle.std.specs.contracts.alloc.Global as heap
use Rattle.std.proofs.alloc.Global.TheLaws as heap_laws
use Rattle.std.specs.contracts.impls.GlobalAllocator.TheImpl.{ghosts}
use Rattle.std.proofs.raw_atomic.Walks.{proved_at, leaves}
use Rattle.pgsub_c.specs.Held.{heap_block, held}
use Rattle.pgembed.specs.InMemory.{in_memory_row}
use Rattle.pgsub_c.specs.contracts.pointer.Pointer as pointer
use Rattle.pgsub_c.proofs.Steps.{al, some_of, both, word, loose_good, loose_in}
use Rattle.pgsub_c.proofs.Steps.{pointer_out}
use Rattle.pgsub_c.specs.contracts.pointer.Pointer.into_loose.{ended, clauses}
use Rattle.pgsub_c.specs.contracts.pointer.Pointer.into_loose.Key.{name as #self}
use Rattle.pgsub_c.proofs.pointer.Pointer.into_loose.Statement.{statement}
use Rattle.pgsub_c.proofs.pointer.Pointer.into_loose.Code as code

pub into_loose_spec : {M : Type 1} → statement M
into_loose_spec 𝓤 𝓛 𝓜 𝓡 wired =
    let H = 𝓛.H in let 𝓣 = tables 𝓤 H 𝓜 𝓡 𝓡.env in let R : RattleType = in_memory_row in let Z : RattleType = heap.the_row in
    let LZ = heap_laws.the_row_laws in let c = clauses 𝓛 𝓜.mem 𝓡.returns in
    let fn = code.function in let P : RattleType = pointer.the_row in
    let hs : Stays ended.signature.params ended.kept = (stay_dropped (plain (λ _. P)) yes, (stay_dropped (plain (λ _. Z)) yes, tt)) in
    proved_at 𝓛 ended hs c 𝓜 𝓡 (
      Goes-blank 𝓛 0 (plain (λ _. P)) yes (λ κs x f. tt),
      (
        Goes-blank 𝓛 0 (plain (λ _. Z)) yes
            (λ κs x f. tt),
        tt,
      ),
    ) #self fn (code.unfolded 𝓤 H 𝓜 𝓡 wired) (λ z are.
    let κs = z.0.0 in let d = z.0.3.0 in let a = z.0.3.1.0 in let Post : Val → SProp 𝓤 = (walk_of 𝓛 ended hs c).post z in
    let Run : List Val → SProp 𝓤 = λ ws. WpFn 𝓤 H 𝓣.C 𝓣.Λ fn ws Post in
    qed 𝓛 ((raw (alive 𝓛 ended.signature κs z.0.1) ⊛ ‵ (owns (types_at ended.signature.params κs) z.0.3 z.0.4)) ∷ raw (fact 𝓤
    (IsSome d.value)) ∷ []) ∵ move ! (1 ∷ []) $
    heard ! (IsSome d.value) (λ is_full. let found = some_of d.value is_full in let x = found.0 in let full = found.1 in split ! $
    move ! (1 ∷ []) $ fsplit ! $ pointer_out ! d z.0.4.0 (λ ws.
    rewrite ! 0 (λ y. ‵ (held (box_owns heap_block R d.at) y)) full refl $ use1 𝓛 (‵ (box_owns heap_block R d.at x)) (id⊢ 𝓤 _) $
    in_a_block ! d.at (λ p. box_owns heap_block R p x) (fst∗ 𝓤 (never 𝓤) (sem 𝓛 (heap_block (bare (lone R.mir)) null_ptr))) (λ b o e. move !
    (1 ∷ []) $
    fsplit ! $ handle_tells (al R Z LZ ghosts) ! a z.0.4.1.0 (λ h eh fits. move ! (1 ∷ []) $ drop ! $
    -- [the handle; the box; the tokens]
    let p = block_ptr b o in let typed = loose_good R Z LZ ghosts b o h fits in let args : List Val = word p ∷ h ∷ [] in
    suffices ! (Run args) (subst (λ (us : List Val). ent 𝓤 (Run args) (Run us)) (sym (λ i. (ws ∙ ap (λ (q : Ptr). word q ∷ []) e) i ++
    (eh i ++ []))) (id⊢ 𝓤 (Run args))) $
    enter ! 𝓣.C 𝓣.Λ fn args Post $ alloc_all ! (λ l. pass_all ! refl ((tt, (tt, tt)), (fits, tt)) $
    sets ! (of_opd ! (get_in ! (fld ! refl (stop !)) (sub ! 0 refl (whole !)))) refl (tt, tt) $
    sets ! (of_opd ! (get ! refl)) refl (tt, tt) $
    sets ! (agg ! (and_then ! (get ! refl) (and_then ! (get ! refl) (no_more !)))) refl typed $
    move ! (1 ∷ []) $ use1 𝓛 (‵ (box_owns (ghosts.dealloc_token a) R p x)) (id⊢ 𝓤 _) $ loose_in R Z LZ ghosts ! b o h a x $
    use0 𝓛 (raw (fact 𝓤 (d.value ≡ Some x))) (fact_i 𝓤 (d.value ≡ Some x) (emp 𝓤) full) $ nothing ! $ nothing ! $ fjoin ! $ nothing ! $
    fjoin ! $
    returns ! (look_at ! 0 refl) $ free_all ! refl $ keep ! (3 ∷ 0 ∷ 2 ∷ 1 ∷ []) $
    by ! (leaves 𝓛 ended hs c z (both (vptr b o) h) (record { at = p; alloc = a; value = x }) (tt, (tt, tt)) (tt, (tt, tt)))))))))
