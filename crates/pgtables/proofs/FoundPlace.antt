-- The position that was read is that of `pos`.
use Rattle.std.proofs.Common.{◌≡◌, inl, inr, pos, Bool, true, false, true≢false, List, [], ◌∷◌, map}
use Rattle.std.proofs.Common.{length, drop, Some, refl, sym, ap, subst, ◌∙◌, arith}
use Rattle.std.specs.Int.{w64, to_be_bytes}
use Rattle.std.proofs.lemmas.Bool.{and_parts}
use Rattle.std.proofs.lemmas.List.Sorted.{length_permutation}
use Rattle.sqlite.specs.declared.types.Value.TheVariants.{Null, Int, Blob}
use Rattle.sqlite.specs.Order.{Row, column}
use Rattle.sqlite.specs.Tree.{Trees}
use Rattle.sqlite.specs.Query.{IsAnswer}
use Rattle.sqlite.specs.Effect.{IsDatabase}
use Rattle.sqlite.specs.State.{State, Shown}
use Rattle.sqlite_catalog.specs.Listing.{IsSound}
use Rattle.sqlite_rules.specs.Lists.{Has}
use Rattle.sqlite_rules.proofs.ListLemmas.{all_has}
use Rattle.sqlite_schema.specs.declared.schema.Constraint.TheVariants.{Datatype, NotNull}
use Rattle.sqlite_schema.specs.declared.schema.Kind.TheVariants as kind
use Rattle.sqlite_schema.specs.Rules.{are_typed, are_present, is_of}
use Rattle.sqlite_sql.specs.Ops.{is_null}
use Rattle.sqlite.specs.Schema.{Schema}
use Rattle.pgtables.specs.Schema.{pos_at}
use Rattle.pgtables.specs.Remains.{IsPresent}
use Rattle.pgtables.proofs.Remaining.{over, pos_listed}
use Rattle.pgtables.specs.declared.opened.FoundPosition.{FoundPosition}
use Rattle.pgtables.specs.declared.opened.FoundPosition.TheVariants.{Missing, At, Malformed}
use Rattle.pgtables.specs.Opened.{ArePlacesRead, IsFoundPosition}
use Rattle.pgtables.proofs.Steps.{bare}
use Rattle.pgtables.proofs.FoundTexts.{by_rowid, place_text, place_shown, place_command}
use Rattle.pgtables.proofs.FoundTexts.{place_read_only, place_read}
use Rattle.pgtables.proofs.FoundRows.{in_answer, all_shown, never, after, null_is}
use Rattle.pgtables.proofs.ReadSteps.{answers}

-- ---- a row of `pos` has three columns

typed_pos : (schema : Schema) (db : Trees) → Has schema.tables pos_at → IsSound schema db → (r : Row) → Has (db 3) r
    → are_typed (Some 0) 0 pos_at.columns (drop 1 r) ≡ true
typed_pos schema db listed sound r h =
    (and_parts _ _ (all_has _ (db 3) r (all_has _ schema.tables pos_at (sound.obeys.rules Datatype) listed) h)).0

present_pos : (schema : Schema) (db : Trees) → Has schema.tables pos_at → IsSound schema db → (r : Row) → Has (db 3) r
    → are_present (Some 0) 0 pos_at.columns r ≡ true
present_pos schema db listed sound r h = all_has _ (db 3) r (all_has _ schema.tables pos_at (sound.obeys.rules NotNull) listed) h

is_three : (r : Row) → are_typed (Some 0) 0 pos_at.columns (drop 1 r) ≡ true → are_present (Some 0) 0 pos_at.columns r ≡ true
    → r ≡ column r 0 ∷ Null ∷ column r 2 ∷ []
is_three [] typed present = absurd (never present)
is_three (a ∷ []) typed present = absurd (never present)
is_three (a ∷ b ∷ []) typed present = absurd (never present)
is_three (a ∷ b ∷ c ∷ []) typed present = ap (λ v. a ∷ v ∷ c ∷ []) (null_is b (and_parts _ _ typed).0)
is_three (a ∷ b ∷ c ∷ d ∷ r) typed present = absurd (after (is_null b) (after (is_of kind.Blob c) never) typed)

none_there : (rows : List Row) → ((r : Row) → ¬ Has rows r) → rows ≡ []
none_there [] none = refl
none_there (r ∷ rows) none = absurd (none r (inl refl))

one_there : (f : Row → Row) (rows : List Row) → 1 ≡ length (map f rows) → (r : Row) × (rows ≡ r ∷ [])
one_there f [] e = absurd (omega arith)
one_there f (r ∷ []) e = (r, refl)
one_there f (r ∷ s ∷ rows) e = absurd (omega arith)

module _ (schema : Schema) (db : Trees) (listed : Has schema.tables pos_at) (sound : IsSound schema db) (rows : List Row)
    (a : IsAnswer (by_rowid 3 place_shown) db [] rows) where
  pub position_found : (found : FoundPosition) → ArePlacesRead rows found → IsFoundPosition (db 3) found
  position_found Missing none =
      none_there (db 3) (λ r h. subst (λ l. Has l (column r 0 ∷ column r 2 ∷ [])) none (in_answer db 3 _ rows a r h))
  position_found (At position) (x, one, read) =
      let r = one_there _ (db 3) (ap length (sym one) ∙ length_permutation _ rows (all_shown db 3 _ rows a)) in
      let there : Has (db 3) r.0 = subst (λ l. Has l r.0) (sym r.1) (inl refl) in
      let shown : column r.0 0 ∷ column r.0 2 ∷ [] ≡ x =
      elim (subst (λ l. Has l (column r.0 0 ∷ column r.0 2 ∷ [])) one (in_answer db 3 _ rows a r.0 there))
      [ inl is ↦ is | inr none ↦ absurd none ] in
      let id : column r.0 0 ≡ Int (pos 0) = ap (λ y. column y 0) shown ∙ read.0 in
      let place : column r.0 2 ≡ Blob (to_be_bytes w64 position) = ap (λ y. column y 1) shown ∙ read.1 in (
        r.1 ∙ ap (λ y. y ∷ []) (is_three r.0 (typed_pos schema db listed sound r.0 there) (present_pos schema db listed sound r.0 there)
            ∙ (λ i. id i ∷ Null ∷ place i ∷ [])),
        read.2,
      )
  position_found Malformed read = tt

-- ---- the query, where the table is present

shown_found : (d h p : Bool) → p ≡ true → (old new : State) (rows : List Row) → old.now.schema ≡ over d h p → IsDatabase old.now
    → Shown place_text [] old new rows → (found : FoundPosition) → ArePlacesRead rows found → IsFoundPosition (old.now.trees 3) found
shown_found d h false present old new rows ours sound shown found read = absurd (true≢false (sym present))
shown_found d h true present old new rows ours sound shown found read =
    let plan = place_read d h in
    let answered = answers place_text place_read_only (over d h true) place_command plan.0 plan.1.0 plan.1.1 old new rows ours shown in
    let answer = subst (λ t. IsAnswer (by_rowid 3 place_shown) t [] rows) (bare old.now.trees) (answered.answer Null) in
    position_found (over d h true) old.now.trees (pos_listed d h) (subst (λ s. IsSound s old.now.trees) ours sound) rows answer found read

pub place_found : (old new : State) (rows : List Row) → IsPresent (λ left. left.has_position) old.now.schema → IsDatabase old.now
    → Shown place_text [] old new rows → (found : FoundPosition) → ArePlacesRead rows found → IsFoundPosition (old.now.trees 3) found
place_found old new rows stood sound shown found read =
    shown_found stood.left.has_definitions stood.left.has_rows stood.left.has_position stood.present old new rows stood.is sound shown found
    read
