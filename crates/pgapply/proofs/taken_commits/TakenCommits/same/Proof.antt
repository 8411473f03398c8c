-- A value without bytes, with the commits of the other one.
use Rattle.std.proofs.Common.{[], ◌∷◌, refl}
use Rattle.std.proofs.raw_atomic.Walks.{proved}
use mir.Syntax.{named}
use mir.Val.{vstruct, vcons, vnil}
use contract.Running.{tables}
use types.Kit.{‵, raw, ◌⊛◌, ◌$◌, ◌∵◌, !, qed, move, keep, split, fjoin, suffices, done}
use types.Run.{enter, no_more, and_then, returns}
use types.Part.{agg}
use types.ByLocal.{alloc_all, pass_all, free_all, look_at, get, sets}
use denote.Builtin.{RefOf}
use denote.Exit.{yes}
use denote.RattleType.{owns}
use denote.Ref.{shr_vals, shr_Tells}
use denote.Shadow.{pure_i}
use denote.Signature.{plain, types_at}
use denote.Steps.{nothing}
use denote.Triple.Entry.{alive}
use denote.Triple.Walked.{Stays, says, stay_dropped, Goes-dropped, ends_at}
use Rattle.pgapply.specs.declared.taken_commits.TakenCommits.{TakenCommits}
use Rattle.pgapply.specs.contracts.taken_commits.TakenCommits.{the_row as R}
use Rattle.pgapply.specs.contracts.taken_commits.TakenCommits.same as it
use Rattle.pgapply.proofs.taken_commits.TakenCommits.same.Statement.{statement}
use Rattle.pgapply.proofs.taken_commits.TakenCommits.same.Code as code

pub same_spec : {M : Type 1} → statement M
same_spec 𝓤 𝓛 𝓜 𝓡 wired =
    let En = it.ended in
    let c = it.clauses 𝓛 𝓜.mem 𝓡.returns in
    let 𝓣 = tables 𝓤 𝓛.H 𝓜 𝓡 𝓡.env in
    let mark = RefOf (0 ∷ []) tt (plain (λ _. R)) (λ _. tt) in
    let stayed : Stays En.signature.params En.kept = (stay_dropped mark yes, tt) in
    let empty = vstruct vnil in
    let v = vstruct (vcons empty vnil) in
    proved 𝓛 En stayed c 𝓜 𝓡 (Goes-dropped 𝓛 1 mark yes (λ κs x w. refl), tt) it.Key.name code.function (code.unfolded 𝓤 𝓛.H 𝓜 𝓡 wired)
    (λ κs. (shr_vals, tt)) (λ κs. (shr_Tells (named 0) κs.0 R, tt))
    (λ κs qs bounds a _ are.
    let made : TakenCommits = record { nothing = record {}; commits = a.0.now.commits } in
    qed 𝓛 ((raw (alive 𝓛 En.signature κs qs) ⊛ ‵ (owns (types_at En.signature.params κs) a (shr_vals a.0, tt)))
    ∷ raw ((c κs a).requires tt) ∷ []) ∵
    keep ! (0 ∷ []) $ split ! $ keep ! (0 ∷ []) $
    enter ! 𝓣.C 𝓣.Λ code.function _ _ $ alloc_all ! (λ l. pass_all ! refl ((tt, tt), tt) $
    sets ! (agg ! (no_more !)) refl (tt, tt) $
    sets ! (agg ! (and_then ! (get ! refl) (no_more !))) refl (tt, (tt, tt)) $
    returns ! (look_at ! 0 refl) $ free_all ! refl $
    pure_i ! (R.own_val made (v ∷ [])) ((λ vss. (tt, ((λ uss. (tt, tt)), tt))), tt)
    (((empty ∷ [], tt), (refl, ((tt, (refl, tt)), tt))), tt) $
    suffices ! _ (ends_at 𝓛 En stayed c ((κs, qs, bounds, a, (shr_vals a.0, tt)), tt) v made (tt, tt) (tt, tt)) $ says ! refl $
    nothing ! $ nothing ! $ fjoin ! $ move ! (2 ∷ 0 ∷ 1 ∷ []) $ done !))
