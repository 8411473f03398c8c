-- A value without bytes, whose mark is true.
use Rattle.std.proofs.Common.{[], ◌∷◌, refl, true}
use Rattle.std.proofs.raw_atomic.Walks.{proved}
use mir.Val.{vstruct, vcons, vnil}
use contract.Running.{tables}
use types.Kit.{raw, ◌$◌, ◌∵◌, !, qed, keep, join, suffices, done}
use types.Run.{enter, no_more, and_then, returns}
use types.Part.{agg}
use types.ByLocal.{alloc_all, pass_all, free_all, look_at, get, sets}
use denote.Shadow.{pure_i}
use denote.Steps.{nothing}
use denote.Triple.Entry.{on_entry}
use denote.Triple.Walked.{says, ends_at}
use Rattle.pgspooled.specs.declared.honesty.Honesty.{Honesty}
use Rattle.pgspooled.specs.contracts.honesty.Honesty.{the_row}
use Rattle.pgspooled.specs.contracts.honesty.Honesty.new as it
use Rattle.pgspooled.proofs.honesty.Honesty.new.Statement.{statement}
use Rattle.pgspooled.proofs.honesty.Honesty.new.Code as code

abbrev made : Honesty
made = record { nothing = record {}; is_true = true }

pub new_spec : {M : Type 1} → statement M
new_spec 𝓤 𝓛 𝓜 𝓡 wired =
    let c = it.clauses 𝓛 𝓜.mem 𝓡.returns in
    let 𝓣 = tables 𝓤 𝓛.H 𝓜 𝓡 𝓡.env in
    let empty = vstruct vnil in
    let v = vstruct (vcons empty vnil) in
    proved 𝓛 it.ended tt c 𝓜 𝓡 tt it.Key.name code.function (code.unfolded 𝓤 𝓛.H 𝓜 𝓡 wired) (λ κs. tt) (λ κs. tt)
    (λ κs qs bounds a _ are.
    qed 𝓛 (raw (on_entry 𝓛 it.signature κs qs a tt) ∷ raw ((c κs a).requires tt) ∷ []) ∵ keep ! [] $
    enter ! 𝓣.C 𝓣.Λ code.function [] _ $ alloc_all ! (λ l. pass_all ! refl tt $
    sets ! (agg ! (no_more !)) refl (tt, tt) $
    sets ! (agg ! (and_then ! (get ! refl) (no_more !))) refl (tt, (tt, tt)) $
    returns ! (look_at ! 0 refl) $ free_all ! refl $
    pure_i ! (the_row.own_val made (v ∷ [])) ((λ vss. (tt, ((λ uss. (tt, tt)), tt))), tt)
    (((empty ∷ [], tt), (refl, ((tt, (refl, tt)), tt))), tt) $
    suffices ! _ (ends_at 𝓛 it.ended tt c ((κs, qs, bounds, a, tt), tt) v made tt tt) $ says ! refl $
    nothing ! $ join ! $ nothing ! $ done !))
