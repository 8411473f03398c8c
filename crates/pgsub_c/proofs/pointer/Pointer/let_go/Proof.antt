-- `let_go` has nothing to free.
use Rattle.std.proofs.Common.{List, [], ◌∷◌, ◌++◌, refl, sym, subst}
use mir.Val.{Val, vunit}
use base.Logic.{SProp, ent, id⊢}
use prog.Wp.{WpFn}
use types.Kit.{‵, raw, ◌⊛◌, ◌$◌, ◌∵◌, !, qed, by, move, keep, drop, split, fsplit, fjoin, suffices}
use types.Kit.{feq_i}
use types.Run.{stop, fld, of_opd, unit_lit, returns, enter}
use types.ByLocal.{alloc_all, pass_all, free_all, look_at, get_in, sets}
use types.Part.{sub, whole}
use contract.Running.{tables}
use denote.Exit.{yes}
use denote.RattleType.{RattleType, owns}
use denote.Signature.{types_at, plain}
use denote.Steps.{nothing}
use denote.Triple.Entry.{alive}
use denote.Triple.Walked.{Stays, stay_dropped, walk_of}
use Rattle.core.proofs.alloc.Calls.{Goes-blank}
use Rattle.core.proofs.atomic.Steps.{Ptr-Good}
use Rattle.std.proofs.raw_atomic.Walks.{proved_at, leaves}
use Rattle.pgsub_c.specs.contracts.pointer.Pointer as pointer
use Rattle.pgsub_c.proofs.Steps.{word_typed, word}
use Rattle.pgsub_c.proofs.Steps.{pointer_out}
use Rattle.pgsub_c.specs.contracts.pointer.Pointer.let_go.{ended, clauses}
use Rattle.pgsub_c.specs.contracts.pointer.Pointer.let_go.Key.{name as #self}
use Rattle.pgsub_c.proofs.pointer.Pointer.let_go.Statement.{statement}
use Rattle.pgsub_c.proofs.pointer.Pointer.let_go.Code as code

pub let_go_spec : {M : Type 1} → statement M
let_go_spec 𝓤 𝓛 𝓜 𝓡 wired =
    let H = 𝓛.H in let 𝓣 = tables 𝓤 H 𝓜 𝓡 𝓡.env in let c = clauses 𝓛 𝓜.mem 𝓡.returns in
    let fn = code.function in let P : RattleType = pointer.the_row in
    let hs : Stays ended.signature.params ended.kept = (stay_dropped (plain (λ _. P)) yes, tt) in
    proved_at 𝓛 ended hs c 𝓜 𝓡 (Goes-blank 𝓛 0 (plain (λ _. P)) yes (λ κs x f. tt), tt) #self fn (code.unfolded 𝓤 H 𝓜 𝓡 wired) (λ z are.
    let κs = z.0.0 in let d = z.0.3.0 in let Post : Val → SProp 𝓤 = (walk_of 𝓛 ended hs c).post z in
    let Run : List Val → SProp 𝓤 = λ ws. WpFn 𝓤 H 𝓣.C 𝓣.Λ fn ws Post in
    qed 𝓛 ((raw (alive 𝓛 ended.signature κs z.0.1) ⊛ ‵ (owns (types_at ended.signature.params κs) z.0.3 z.0.4)) ∷ raw
    ((c κs z.0.3).requires z.1) ∷ []) ∵ move ! (1 ∷ []) $
    drop ! $ split ! $ move ! (1 ∷ []) $ fsplit ! $ pointer_out ! d z.0.4.0 (λ ws.
    drop ! $ drop ! $
    suffices ! (Run (word d.at ∷ [])) (subst (λ (us : List Val). ent 𝓤 (Run (word d.at ∷ [])) (Run us)) (sym (λ i. ws i ++ [])) (id⊢ 𝓤
    (Run (word d.at ∷ [])))) $
    enter ! 𝓣.C 𝓣.Λ fn (word d.at ∷ []) Post $ alloc_all ! (λ l. pass_all ! refl (word_typed d.at, tt) $
    sets ! (of_opd ! (get_in ! (fld ! refl (stop !)) (sub ! 0 refl (whole !)))) refl (Ptr-Good d.at) $
    sets ! (of_opd ! (unit_lit !)) refl (tt, tt) $
    feq_i ! _ (vunit ∷ []) _ refl $ nothing ! $ nothing ! $ nothing ! $ fjoin ! $
    returns ! (look_at ! 0 refl) $ free_all ! refl $ keep ! (3 ∷ 0 ∷ 2 ∷ 1 ∷ []) $
    by ! (leaves 𝓛 ended hs c z vunit tt (tt, tt) (tt, tt)))))
