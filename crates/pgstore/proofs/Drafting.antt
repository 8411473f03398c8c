-- A ledger that is given a commit part after part.
use Rattle.std.proofs.Common.{◌≡◌, ◌∙◌, ℕ, Bool, true, false, List, [], ◌∷◌, ◌++◌, Option, refl}
use Rattle.std.proofs.Common.{IsTrue, sym, ap, subst, append_assoc}
use Rattle.std.proofs.lemmas.List.{append-nil}
use Rattle.sqlite.specs.Store.{Ghosts}
use Rattle.pgtables.specs.Kept as stored
use Rattle.pgrows.specs.Rows.{state, tables_of}
use Rattle.pgapply.specs.declared.commit.About.{About}
use Rattle.pgapply.specs.declared.misses.Misses.{Misses}
use Rattle.pgapply.specs.Apply.{Change, ◌>>=◌, fold_changes}
use Rattle.pgledger.specs.declared.heard.Heard.{Heard}
use Rattle.pgledger.specs.Entries.{Entry, entry_of, messages_of}
use Rattle.pgledger.specs.Images.{Line, images, lines}
use Rattle.pgledger.specs.Ledgers.{Keeps, UnaskedKeeps}
use Rattle.pgledger.specs.Drafts.{BeginsDraft, KeepsDraft}
use Rattle.pgledger.proofs.Calls.{rests_same, rests_then}
use Rattle.pgchanging.specs.Looks.{AppendsFrom}
use Rattle.pgchanging.proofs.ToldImages.{lines_append}
use Rattle.pgstore.specs.Parted.{AddsImages, AddsParts, OnlyDrafts, TakesParts}
use Rattle.pgstore.proofs.Applying.{fold_append, fold_none}

-- ---- calls that change nothing but what it has of the commit

module _ {L : Type 0} (begins : L → ℕ) (keeps : L → List Entry → Type 0) (outlasts : L → ℕ → Type 0)
    (is_stuck is_wanting is_hearing : L → Bool) (heard : L → Option (List Heard)) (reopens : L → ℕ → L → Type 0) where
  pub drafts_same : (a : L) → OnlyDrafts begins keeps outlasts is_stuck is_wanting is_hearing heard reopens a a
  drafts_same a = record {
    kept = λ es k. k;
    heard_is = refl;
    was_free = λ free. free;
    rests = rests_same begins is_wanting is_hearing outlasts reopens a;
  }

  pub drafts_then : (a b c : L) → OnlyDrafts begins keeps outlasts is_stuck is_wanting is_hearing heard reopens a b
      → OnlyDrafts begins keeps outlasts is_stuck is_wanting is_hearing heard reopens b c
      → OnlyDrafts begins keeps outlasts is_stuck is_wanting is_hearing heard reopens a c
  drafts_then a b c one two = record {
    kept = λ es k. two.kept es (one.kept es k);
    heard_is = two.heard_is ∙ one.heard_is;
    was_free = λ free. one.was_free (two.was_free free);
    rests = rests_then begins is_wanting is_hearing outlasts reopens a b c one.rests two.rests;
  }

-- ---- the images of one part after the other

module _ {S L : Type 0} (g : Ghosts S) (drafts : L → List Line → Type 0) (is_wanting : L → Bool) where
  pub adds_none : (a : S) (all : List Change) (l : L) → IsTrue (state g a).is_open → AddsParts g drafts is_wanting a a all all l l
  adds_none a all l still = record {
    changes = [];
    are = refl;
    folds = (record { was_open = still; is_open = still }, λ v h. (v, fold_none v, h));
    adds = λ wanting v h ls has. subst (drafts l) (sym (append-nil ls)) has;
  }

  -- a part more
  pub adds_more : (a b c : S) (all left here rest : List Change) (before between behind : L)
      → AddsParts g drafts is_wanting a b all left before between
      → left ≡ here ++ rest → is_wanting between ≡ is_wanting before
      → (is_honest : Type 0) (end : ℕ) (was misses : Misses) → TakesParts g b c is_honest here [] end was misses → is_honest
      → AddsImages drafts is_wanting (tables_of g b) here between behind → AddsParts g drafts is_wanting a c all rest before behind
  adds_more a b c all left here rest before between behind one steps still is_honest end was misses next honest adds = record {
    changes = one.changes ++ here;
    are = one.are ∙ ap (λ l. one.changes ++ l) steps ∙ sym (append_assoc one.changes here rest);
    folds = (
      record { was_open = one.folds.0.was_open; is_open = next.folds.0.is_open },
      λ v h.
          let f = one.folds.1 v h in
          let n = next.folds.1 f.0 f.2 in (
            n.0,
            fold_append one.changes here v ∙ ap (λ r. r >>= λ t. fold_changes t here) f.1
                ∙ ap (fold_changes f.0) (next.are honest ∙ append-nil next.changes) ∙ n.1,
            n.2,
          ),
    );
    adds = λ wanting v h ls has.
        let f = one.folds.1 v h in
        subst (drafts behind)
        (append_assoc ls (lines one.changes (images v one.changes)) (lines here (images f.0 here))
        ∙ ap (λ more. ls ++ more) (sym (lines_append one.changes here v f.0 f.1)))
        (adds (still ∙ wanting) f.0 f.2 (ls ++ lines one.changes (images v one.changes)) (one.adds wanting v h ls has));
  }

  -- none is left
  pub adds_all : (a b : S) (all left : List Change) (before behind : L)
      → AddsParts g drafts is_wanting a b all left before behind → left ≡ []
      → AddsImages drafts is_wanting (tables_of g a) all before behind
  adds_all a b all left before behind one none =
      subst (λ cs. AddsImages drafts is_wanting (tables_of g a) cs before behind)
      (sym (one.are ∙ ap (λ l. one.changes ++ l) none ∙ append-nil one.changes)) one.adds

-- ---- the whole commit

module _ {L : Type 0} (drafts : L → List Line → Type 0) (keeps : L → List Entry → Type 0) (is_wanting : L → Bool)
    (heard : L → Option (List Heard)) (unasked : UnaskedKeeps keeps is_wanting) (old begun made new : L) where
  -- it has the images of all changes, or wants none
  pub parts_append : (t : stored.Tables) (changes : List Change) (end : ℕ) (about : Option About)
      → Keeps keeps old begun → Keeps keeps begun made → heard made ≡ heard old → is_wanting begun ≡ is_wanting old
      → is_wanting new ≡ is_wanting old → BeginsDraft drafts begun → AddsImages drafts is_wanting t changes begun made
      → KeepsDraft drafts keeps end about (heard made) made new
      → (wants : Bool) → is_wanting old ≡ wants → AppendsFrom keeps t end about (messages_of (heard old)) changes old new
  parts_append t changes end about one two same was is begins adds ends true wanting v h es kept =
      subst (λ o. keeps new (es ++ entry_of end about (messages_of o) changes (images v changes) ∷ []))
      same (ends (lines changes (images v changes)) (adds (was ∙ wanting) v h [] begins) es (two es (one es kept)))
  parts_append t changes end about one two same was is begins adds ends false wanting v h es kept = unasked new (is ∙ wanting) _
