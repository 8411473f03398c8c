-- The body is empty: the reference is opened, and closed at another mark.
use Rattle.std.proofs.Common.{[], ◌∷◌, refl}
use Rattle.std.specs.Prelude.{◌&&◌}
use Rattle.std.proofs.raw_atomic.Walks.{proved}
use mir.Syntax.{a_type, named, dcons, dnil}
use mir.MapTy.{inst_fn}
use mir.Val.{vunit}
use base.Logic.{id⊢}
use base.Fml.{ftrue, flft}
use contract.Running.{tables}
use types.Kit.{‵, raw, ◌⊛◌, ◌$◌, ◌∵◌, !, qed, move, keep, use1, split, join, fsplit3, feq_i}
use types.Kit.{suffices, frame, group, done}
use types.Run.{enter, of_opd, unit_lit, returns}
use types.ByLocal.{alloc_all, pass_all, free_all, look_at, sets}
use denote.Builtin.{RefOf}
use denote.Exit.{yes}
use denote.Param.{param, bounded}
use denote.Ref.{MutRef, ShrRef, mut_vals, mut_Tells, shr_vals, shr_Tells}
use denote.Signature.{plain}
use denote.Steps.{nothing, opens, closes}
use denote.Triple.Walked.{Stays, walk_of, says, stay_ref, Goes-ref, stay_dropped, Goes-dropped}
use denote.Triple.Walked.{ends_at}
use Rattle.pgspooled.specs.contracts.honesty.Honesty.{the_row as R}
use Rattle.pgspooled.specs.contracts.honesty.Honesty.note as it
use Rattle.pgspooled.proofs.honesty.Honesty.note.Statement.{statement}
use Rattle.pgspooled.proofs.honesty.Honesty.note.Code as code

pub note_spec : {M : Type 1} → statement M
note_spec 𝓤 𝓛 𝓜 𝓡 wired P _ G dict _ =
    let En = it.ended P G dict in
    let c = it.clauses P G dict 𝓛 𝓜.mem 𝓡.returns in
    let 𝓣 = tables 𝓤 𝓛.H 𝓜 𝓡 𝓡.env in
    let S = param 0 P in
    let spools = RefOf (1 ∷ []) tt (plain (λ _. S)) (λ _. tt) in
    let inst = bounded (a_type ∷ []) (P, tt) (dcons dict dnil) in
    let fn = inst_fn inst code.function in
    let stayed : Stays En.signature.params En.kept =
    (stay_ref (0 ∷ []) tt (plain (λ _. R)), (stay_dropped spools yes, tt)) in
    proved 𝓛 En stayed c 𝓜 𝓡
    (Goes-ref 𝓛 3 0 tt (plain (λ _. R)), (Goes-dropped 𝓛 3 spools yes (λ κs x w. refl), tt))
    (it.Key.name inst) fn (code.unfolded 𝓤 𝓛.H 𝓜 𝓡 wired (P, tt) dict)
    (λ κs. (mut_vals, (shr_vals, tt))) (λ κs. (mut_Tells (named 0) κs.0 R, (shr_Tells (named 1) κs.1.0 S, tt)))
    (λ κs qs bounds a _ are.
    let b = a.0.ref_ptr.0 in let o = a.0.ref_ptr.1 in
    let h = record a.0.now { is_true = a.0.now.is_true && G.is_honest a.1.0.now } in
    let y : (walk_of 𝓛 En stayed c).Ghost = ((κs, qs, bounds, a, (mut_vals a.0, (shr_vals a.1.0, tt))), tt) in
    qed 𝓛 (((‵ (flft κs.0 qs.0) ⊛ (‵ (flft κs.1.0 qs.1.0) ⊛ (‵ (flft κs.1.1.0 qs.1.1.0) ⊛ ‵ ftrue)))
    ⊛ (‵ ((MutRef (named 0) κs.0 R).own_val a.0 (mut_vals a.0))
    ⊛ (‵ ((ShrRef (named 1) κs.1.0 S).own_val a.1.0 (shr_vals a.1.0)) ⊛ ‵ ftrue)))
    ∷ raw ((c κs a).requires tt) ∷ []) ∵
    split ! $ split ! $ move ! (2 ∷ []) $ split ! $ keep ! (0 ∷ 2 ∷ 3 ∷ []) $
    enter ! _ _ _ _ _ $ alloc_all ! (λ l. pass_all ! refl ((tt, tt), ((tt, tt), tt)) $
    -- [the mark's reference; its token; the other tokens]
    fsplit3 ! $ move ! (1 ∷ 2 ∷ 3 ∷ []) $ opens ! tt R b o (λ us.
    sets ! (of_opd ! (unit_lit !)) refl (tt, tt) $
    move ! (1 ∷ []) $ use1 𝓛 (‵ (R.own_val h us)) (id⊢ 𝓤 _) $ move ! (1 ∷ []) $ closes ! tt R h us b o $
    -- [two parts of the reference; its token; its first part; the other tokens]
    returns ! (look_at ! 0 refl) $ free_all ! refl $ move ! (3 ∷ []) $
    suffices ! _ (ends_at 𝓛 En stayed c y vunit tt (h, (tt, tt)) (tt, (tt, tt))) $ says ! refl $
    group ! 3 $ nothing ! $ nothing ! $ join ! $ move ! (1 ∷ 0 ∷ []) $ join ! $ move ! (1 ∷ 2 ∷ []) $ join ! $ frame ! $ frame ! $
    feq_i ! _ (vunit ∷ []) _ refl $ done !)))
