-- A value without bytes, with the commits of the other one and one more.
use Rattle.std.proofs.Common.{[], ◌∷◌, ◌++◌, refl}
use Rattle.std.proofs.raw_atomic.Walks.{proved}
use mir.Syntax.{a_type, named, dcons, dnil}
use mir.MapTy.{inst_fn}
use mir.Val.{vstruct, vcons, vnil}
use contract.Running.{tables}
use types.Kit.{‵, raw, ◌⊛◌, ◌$◌, ◌∵◌, !, qed, move, keep, split, fjoin, suffices, done}
use types.Run.{enter, no_more, and_then, returns}
use types.Part.{agg}
use types.ByLocal.{alloc_all, pass_all, free_all, look_at, get, sets}
use denote.Builtin.{RefOf}
use denote.Exit.{yes}
use denote.Param.{param, bounded}
use denote.RattleType.{owns, Valss}
use denote.Ref.{shr_vals, shr_Tells}
use denote.Shadow.{pure_i}
use denote.Signature.{plain, types_at}
use denote.Steps.{nothing}
use denote.Triple.Entry.{alive}
use denote.Triple.Walked.{Stays, says, stay_dropped, Goes-dropped, ends_at}
use Rattle.std.specs.contracts.option.Option as option
use Rattle.pglsn.specs.contracts.Lsn as lsn
use Rattle.pgapply.specs.contracts.commit.About as about
use Rattle.pgapply.specs.Tallies.{taken_commit}
use Rattle.pgapply.specs.declared.taken_commits.TakenCommits.{TakenCommits}
use Rattle.pgapply.specs.contracts.taken_commits.TakenCommits.{the_row as R}
use Rattle.pgapply.specs.contracts.taken_commits.TakenCommits.with_parts as it
use Rattle.pgapply.proofs.taken_commits.TakenCommits.with_parts.Statement.{statement}
use Rattle.pgapply.proofs.taken_commits.TakenCommits.with_parts.Code as code

pub with_parts_spec : {M : Type 1} → statement M
with_parts_spec 𝓤 𝓛 𝓜 𝓡 wired P _ G dict _ =
    let En = it.ended P G dict in
    let c = it.clauses P G dict 𝓛 𝓜.mem 𝓡.returns in
    let S = param 0 P in
    let inst = bounded (a_type ∷ []) (P, tt) (dcons dict dnil) in
    let fn = inst_fn inst code.function in
    let 𝓣 = tables 𝓤 𝓛.H 𝓜 𝓡 𝓡.env in
    let one = RefOf (0 ∷ []) tt (plain (λ _. R)) (λ _. tt) in
    let two = RefOf (1 ∷ []) tt (plain (λ _. lsn.the_row)) (λ _. tt) in
    let three = RefOf (2 ∷ []) tt (plain (λ _. option.the_row about.the_row)) (λ _. tt) in
    let four = RefOf (3 ∷ []) tt (plain (λ _. S)) (λ _. tt) in
    let stayed : Stays En.signature.params En.kept =
    (stay_dropped one yes, (stay_dropped two yes, (stay_dropped three yes, (stay_dropped four yes, tt)))) in
    let empty = vstruct vnil in
    let v = vstruct (vcons empty vnil) in
    proved 𝓛 En stayed c 𝓜 𝓡 (
      Goes-dropped 𝓛 5 one yes (λ κs x w. refl),
      (
        Goes-dropped 𝓛 5 two yes (λ κs x w. refl),
        (Goes-dropped 𝓛 5 three yes (λ κs x w. refl), (Goes-dropped 𝓛 5 four yes (λ κs x w. refl), tt)),
      ),
    )
    (it.Key.name inst) fn (code.unfolded 𝓤 𝓛.H 𝓜 𝓡 wired (P, tt) dict)
    (λ κs. (shr_vals, (shr_vals, (shr_vals, (shr_vals, tt)))))
    (λ κs. (
      shr_Tells (named 0) κs.0 R,
      (
        shr_Tells (named 1) κs.1.0 lsn.the_row,
        (shr_Tells (named 2) κs.1.1.0 (option.the_row about.the_row), (shr_Tells (named 3) κs.1.1.1.0 S, tt)),
      ),
    ))
    (λ κs qs bounds a _ are.
    let vss : Valss (types_at En.signature.params κs) = (shr_vals a.0, (shr_vals a.1.0, (shr_vals a.1.1.0, (shr_vals a.1.1.1.0, tt)))) in
    let made : TakenCommits =
    record { nothing = record {}; commits = a.0.now.commits ++ taken_commit a.1.0.now a.1.1.0.now (G.left a.1.1.1.0.now) } in
    qed 𝓛 ((raw (alive 𝓛 En.signature κs qs) ⊛ ‵ (owns (types_at En.signature.params κs) a vss)) ∷ raw ((c κs a).requires tt) ∷ []) ∵
    keep ! (0 ∷ []) $ split ! $ keep ! (0 ∷ []) $
    enter ! 𝓣.C 𝓣.Λ fn _ _ $ alloc_all ! (λ l. pass_all ! refl ((tt, tt), ((tt, tt), ((tt, tt), ((tt, tt), tt)))) $
    sets ! (agg ! (no_more !)) refl (tt, tt) $
    sets ! (agg ! (and_then ! (get ! refl) (no_more !))) refl (tt, (tt, tt)) $
    returns ! (look_at ! 0 refl) $ free_all ! refl $
    pure_i ! (R.own_val made (v ∷ [])) ((λ vss. (tt, ((λ uss. (tt, tt)), tt))), tt)
    (((empty ∷ [], tt), (refl, ((tt, (refl, tt)), tt))), tt) $
    suffices ! _ (ends_at 𝓛 En stayed c ((κs, qs, bounds, a, vss), tt) v made (tt, (tt, (tt, (tt, tt)))) (tt, (tt, (tt, (tt, tt))))) $
    says ! refl $ nothing ! $ nothing ! $ fjoin ! $ nothing ! $ fjoin ! $ nothing ! $ fjoin ! $ nothing ! $ fjoin !
    $ move ! (2 ∷ 0 ∷ 1 ∷ []) $ done !))
