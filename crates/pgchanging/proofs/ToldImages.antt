-- The images of changes, one after the other.
use Rattle.std.proofs.Common.{◌≡◌, ℕ, Bool, true, false, List, [], ◌∷◌, ◌++◌, append-nil, Option}
use Rattle.std.proofs.Common.{Some, None, Result, Ok, Err, refl, sym, ap, subst, ◌∙◌}
use Rattle.std.specs.Prelude.{IfSome}
use Rattle.std.specs.FinMap as map
use Rattle.pglogical.specs.declared.message.RelationDef.{RelationDef}
use Rattle.pgapply.specs.declared.op.Op.{Op}
use Rattle.pgapply.specs.declared.fault.StoreFault.{StoreFault}
use Rattle.pgapply.specs.declared.commit.About.{About}
use Rattle.pgapply.specs.Value.{Rows, Tables}
use Rattle.pgapply.specs.Apply.{Change, ◌>>=◌, apply, fold_changes, found_rows}
use Rattle.pgledger.specs.declared.image.Image.{Image}
use Rattle.pgledger.specs.Images.{Line, change_image, image_of, images, images_after, lines}
use Rattle.pgledger.specs.Images.{rows_or_none}
use Rattle.pgledger.specs.declared.heard.Heard.{Heard}
use Rattle.pgledger.specs.Entries.{Entry, entry_of}
use Rattle.pgledger.specs.Ledgers.{Appends, UnaskedKeeps}
use Rattle.pgledger.specs.Drafts.{AddsLines}
use Rattle.pgchanging.specs.Looks.{begun_telling, told_more}

-- ---- one change

none_after : (r : Result Tables StoreFault) → images_after r (λ _. []) ≡ []
none_after (Ok next) = refl
none_after (Err e) = refl

image_one : (v : Tables) (change : Change) → images v (change ∷ []) ≡ change_image v change ∷ []
unfolding images
image_one v change = ap (λ l. change_image v change ∷ l) (none_after (apply v change))

pub told_one : (v : Tables) (def : RelationDef) (op : Op) (rows : Rows) → found_rows (map.get v def.oid) def op ≡ Ok rows
    → (before after : Option (List Image)) → after ≡ told_more before (image_of def op rows ∷ [])
    → after ≡ told_more before (images v (record { definition = def; op = op } ∷ []))
told_one v def op rows found before after tells =
    tells ∙ sym (ap (told_more before)
    (image_one v (record { definition = def; op = op }) ∙ ap (λ r. image_of def op (rows_or_none r) ∷ []) found))

-- ---- several changes

append_twice : (a b c : List Image) → a ++ b ++ c ≡ a ++ (b ++ c)
append_twice [] b c = refl
append_twice (x ∷ a) b c = ap (λ l. x ∷ l) (append_twice a b c)

more_twice : (before : Option (List Image)) (a b : List Image) → told_more (told_more before a) b ≡ told_more before (a ++ b)
more_twice None a b = refl
more_twice (Some told) a b = ap Some (append_twice told a b)

after_then : (r : Result Tables StoreFault) (first : Tables → List Image) (folds : Tables → Result Tables StoreFault)
    (more whole : Tables → List Image) → ((t : Tables) → whole t ≡ first t ++ images_after (folds t) more)
    → images_after r whole ≡ images_after r first ++ images_after (r >>= folds) more
after_then (Ok t) first folds more whole is = is t
after_then (Err e) first folds more whole is = refl

images_append : (a b : List Change) (v : Tables) → images v (a ++ b) ≡ images v a ++ images_after (fold_changes v a) (λ next. images next b)
unfolding images fold_changes
images_append [] b v = refl
images_append (c ∷ a) b v =
    ap (λ l. change_image v c ∷ l)
    (after_then (apply v c) (λ next. images next a) (λ next. fold_changes next a) (λ next. images next b) (λ next. images next (a ++ b))
    (images_append a b))

pub told_then : (v next : Tables) (a b : List Change) (before : Option (List Image)) → fold_changes v a ≡ Ok next
    → told_more (told_more before (images v a)) (images next b) ≡ told_more before (images v (a ++ b))
told_then v next a b before made =
    more_twice before (images v a) (images next b)
    ∙ sym (ap (told_more before) (images_append a b v ∙ ap (λ r. images v a ++ images_after r (λ next. images next b)) made))

pub told_none : (v : Tables) (before : Option (List Image)) → before ≡ told_more before (images v [])
unfolding images
told_none v None = refl
told_none v (Some told) = ap Some (sym (append-nil told))

-- ---- a ledger that is told

module _ {L : Type 0} (keeps : L → List Entry → Type 0) (is_wanting : L → Bool) (unasked : UnaskedKeeps keeps is_wanting) (old new : L)
    (still : is_wanting new ≡ is_wanting old) (end : ℕ) (about : Option About)
    (messages : List Heard) (changes : List Change) where
  -- it has the images of the changes, or wants none
  pub told_appends : (wants : Bool) → wants ≡ is_wanting old → (telling : Option (List Image)) (shown more : List Image)
      → telling ≡ told_more (begun_telling wants) more → IfSome telling (λ told. shown ≡ told)
      → Appends keeps (entry_of end about messages changes shown) old new
      → Appends keeps (entry_of end about messages changes more) old new
  told_appends true asks telling shown more is shows appends es kept =
      subst (λ told. keeps new (es ++ entry_of end about messages changes told ∷ []))
      (subst (λ o. IfSome o (λ told. shown ≡ told)) is shows) (appends es kept)
  told_appends false asks telling shown more is shows appends es kept = unasked new (still ∙ sym asks) _

-- ---- a ledger that is given a commit in parts

lines_after : (a b : List Change) (next : Tables) (r : Result Tables StoreFault) → (r >>= λ t. fold_changes t a) ≡ Ok next
    → ((t : Tables) → fold_changes t a ≡ Ok next
    → lines (a ++ b) (images t (a ++ b)) ≡ lines a (images t a) ++ lines b (images next b))
    → lines (a ++ b) (images_after r (λ t. images t (a ++ b)))
    ≡ lines a (images_after r (λ t. images t a)) ++ lines b (images next b)
lines_after a b next (Ok t) made then = then t made
lines_after a b next (Err e) made then = absurd (let never : ⊥ = cc in never)

-- the lines of some changes, and those of more over what these lead to
pub lines_append : (a b : List Change) (v next : Tables) → fold_changes v a ≡ Ok next
    → lines (a ++ b) (images v (a ++ b)) ≡ lines a (images v a) ++ lines b (images next b)
unfolding images fold_changes
lines_append [] b v next made = ap (λ t. lines b (images t b)) (let same : v ≡ next = cc in same)
lines_append (c ∷ a) b v next made =
    ap (λ l. record { definition = c.definition; image = change_image v c } ∷ l)
    (lines_after a b next (apply v c) made (λ t. lines_append a b t next))

module _ {L : Type 0} (drafts : L → List Line → Type 0) (is_wanting : L → Bool) (old new : L) where
  -- it has the images of a part
  pub told_adds : (wants : Bool) → wants ≡ is_wanting old → (telling : Option (List Image)) (v : Tables) (shown : List Image)
      (given here : List Change) → given ≡ here → is_wanting old ≡ true → telling ≡ told_more (begun_telling wants) (images v here)
      → IfSome telling (λ told. shown ≡ told) → AddsLines drafts (lines given shown) old new
      → AddsLines drafts (lines here (images v here)) old new
  told_adds true asks telling v shown given here same wanting is shows adds ls has =
      subst (λ told. drafts new (ls ++ lines here told)) (subst (λ o. IfSome o (λ told. shown ≡ told)) is shows)
      (subst (λ cs. drafts new (ls ++ lines cs shown)) same (adds ls has))
  told_adds false asks telling v shown given here same wanting is shows adds ls has = absurd (let never : ⊥ = cc in never)
