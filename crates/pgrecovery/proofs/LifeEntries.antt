-- The entries of the worked life: their lines, and the rows that they lead to.
use Rattle.std.proofs.Common.{◌≡◌, ◌<◌, ◌++◌, [], ◌∷◌, List, ℕ}
use Rattle.std.proofs.Common.{Some}
use Rattle.std.proofs.Common.{Option, Ok, refl, sym, ap, ◌∙◌, pos, arith}
use Rattle.std.proofs.Common.{length, cond, ◌==◌}
use Rattle.std.specs.Prelude.{◌^◌, FitsSigned}
use Rattle.std.specs.Int.{w64}
use Rattle.std.proofs.lemmas.Int.{fits_signed_from_abs}
use Rattle.std.specs.Fmt.{digits}
use Rattle.std.specs.FinMap as map
use Rattle.json.specs.Print.{escape_byte}
use Rattle.pglsn.specs.Texts.{lsn_text, half_text}
use Rattle.pgtuple.specs.Cells.{tuple_spelling}
use Rattle.pgapply.specs.declared.commit.About.{About}
use Rattle.pgapply.specs.Apply.{Change, apply, fold_changes, rows_after}
use Rattle.pgapply.specs.Missing.{all_missing, nothing_missed, with_misses}
use Rattle.pgapply.specs.Tallies.{TakenCommit, Tally, nothing_taken, taken_commit, with_commit}
use Rattle.pgapply.specs.Value.{Tables}
use Rattle.pgledger.specs.declared.image.Image.{Image}
use Rattle.pgledger.specs.declared.image.Image.TheVariants.{Inserted, Updated, Deleted}
use Rattle.pgledger.specs.Images.{image_of, images}
use Rattle.pgledger.specs.Entries.{Entry, LeadTo, entry_of}
use Rattle.pgledger.specs.Records.{TellTo, tally_since}
use Rattle.pgfeed.specs.Texts.{Bodies, body_text, entry_body, key_data, messages_text}
use Rattle.pgfeed.specs.Texts.{table_front}
use Rattle.pgfeed.specs.Texts.{table_rest}
use Rattle.pgfeed.specs.Fits.{FitsEntry}
use Rattle.pgfeed.specs.Reading.{AreEntries}
use Rattle.pgsub_core.specs.Server.History.{Transaction}
use Rattle.pgsub_core.specs.Server.Work.{surviving_changes}
use Rattle.pgsub_core.specs.Subscriber.Tallied.{history_tallied, tallied_over, told_of}
use Rattle.pgsub_core.specs.Subscriber.Tallied.{transactions_tallied}
use Rattle.pgsub_core.proofs.TalliedBetween.{tallied_over_rows}
use Rattle.pgsub_core.proofs.Samples.{lookups, t, text}
use Rattle.pgrecovery.proofs.LifeSessions.{tables_304, tables_448, tables_560, tables_672}
use Rattle.pgrecovery.proofs.LifeSessions.{as_of_304, as_of_672, history, tables_816}
use Rattle.pgrecovery.proofs.LifeSessions.{tx_10, tx_11, tx_12, tx_13, tx_14}

-- ---- the entries

abbrev about : ℕ → ℕ → Option About
about lsn xid = Some (record { final_lsn = lsn; xid = xid; time = pos 0 })

abbrev told : ℕ → ℕ → ℕ → Image → Entry
told lsn xid end image = record { end = end; about = about lsn xid; messages = []; lines = record { definition = t; image = image } ∷ [] }

abbrev pub entry_10 : Entry
entry_10 = told 256 10 304 (Inserted (text 49 ∷ text 97 ∷ []))

abbrev pub entry_11 : Entry
entry_11 = told 400 11 448 (Inserted (text 50 ∷ text 98 ∷ []))

-- whole rows: the one that was there, and the one that replaces it
abbrev pub entry_12 : Entry
entry_12 = told 512 12 560 (Updated (text 49 ∷ text 97 ∷ []) (text 49 ∷ text 99 ∷ []))

abbrev pub entry_13 : Entry
entry_13 = told 624 13 672 (Deleted (text 50 ∷ text 98 ∷ []))

abbrev pub entry_14 : Entry
entry_14 = told 768 14 816 (Inserted (text 51 ∷ text 100 ∷ []))

-- what was there is computed from the rows: only the key of the one that goes was sent
image_12 : images tables_448 (surviving_changes tx_12.work) ≡ Updated (text 49 ∷ text 97 ∷ []) (text 49 ∷ text 99 ∷ []) ∷ []
unfolding images image_of apply rows_after tuple_spelling
image_12 = simp lookups

image_13 : images tables_560 (surviving_changes tx_13.work) ≡ Deleted (text 50 ∷ text 98 ∷ []) ∷ []
unfolding images image_of apply rows_after tuple_spelling
image_13 = simp lookups

clock_fits : FitsSigned w64 (pos 0)
clock_fits = fits_signed_from_abs w64 (pos 0) (omega arith)

-- Their lines: each commit tells the definition anew, as a feed may that was opened before it.
abbrev pub body_10 : List ℕ
body_10 = entry_body [] 1280 entry_10

abbrev pub body_11 : List ℕ
body_11 = entry_body [] 1717 entry_11

abbrev body_12 : List ℕ
body_12 = entry_body [] 2154 entry_12

abbrev pub body_13 : List ℕ
body_13 = entry_body [] 1280 entry_13

abbrev body_14 : List ℕ
body_14 = entry_body [] 1717 entry_14

abbrev pub bodies : Bodies
bodies end = cond (end == 304) body_10 (cond (end == 448) body_11 (cond (end == 560) body_12 (cond (end == 672) body_13 body_14)))

pub size_10 : length body_10 ≡ 181
unfolding messages_text body_text lsn_text half_text digits escape_byte table_front table_rest key_data lib.Utf8.encode
size_10 = refl

pub fits_10 : (prev : ℕ) → prev < 2 ^ 64 → FitsEntry prev entry_10 body_10
fits_10 prev low = record {
  end_fits = omega arith;
  prev_fits = low;
  bytes_fit = omega (arith, size_10);
  changes_fit = omega arith;
  about_fits = record { final_lsn = omega arith; xid = omega arith; time = clock_fits };
}

pub size_11 : length body_11 ≡ 181
unfolding messages_text body_text lsn_text half_text digits escape_byte table_front table_rest key_data lib.Utf8.encode
size_11 = refl

pub fits_11 : (prev : ℕ) → prev < 2 ^ 64 → FitsEntry prev entry_11 body_11
fits_11 prev low = record {
  end_fits = omega arith;
  prev_fits = low;
  bytes_fit = omega (arith, size_11);
  changes_fit = omega arith;
  about_fits = record { final_lsn = omega arith; xid = omega arith; time = clock_fits };
}

size_12 : length body_12 ≡ 186
unfolding messages_text body_text lsn_text half_text digits escape_byte table_front table_rest key_data lib.Utf8.encode
size_12 = refl

pub fits_12 : (prev : ℕ) → prev < 2 ^ 64 → FitsEntry prev entry_12 body_12
fits_12 prev low = record {
  end_fits = omega arith;
  prev_fits = low;
  bytes_fit = omega (arith, size_12);
  changes_fit = omega arith;
  about_fits = record { final_lsn = omega arith; xid = omega arith; time = clock_fits };
}

pub size_13 : length body_13 ≡ 181
unfolding messages_text body_text lsn_text half_text digits escape_byte table_front table_rest key_data lib.Utf8.encode
size_13 = refl

pub fits_13 : (prev : ℕ) → prev < 2 ^ 64 → FitsEntry prev entry_13 body_13
fits_13 prev low = record {
  end_fits = omega arith;
  prev_fits = low;
  bytes_fit = omega (arith, size_13);
  changes_fit = omega arith;
  about_fits = record { final_lsn = omega arith; xid = omega arith; time = clock_fits };
}

size_14 : length body_14 ≡ 181
unfolding messages_text body_text lsn_text half_text digits escape_byte table_front table_rest key_data lib.Utf8.encode
size_14 = refl

pub fits_14 : (prev : ℕ) → prev < 2 ^ 64 → FitsEntry prev entry_14 body_14
fits_14 prev low = record {
  end_fits = omega arith;
  prev_fits = low;
  bytes_fit = omega (arith, size_14);
  changes_fit = omega arith;
  about_fits = record { final_lsn = omega arith; xid = omega arith; time = clock_fits };
}

abbrev pub first_three : List Entry
first_three = entry_10 ∷ entry_11 ∷ entry_12 ∷ []

pub are_10 : AreEntries 0 (entry_10 ∷ [])
are_10 = (omega arith, tt)

pub are_three : AreEntries 0 first_three
are_three = (omega arith, (omega arith, (omega arith, tt)))

pub are_13 : AreEntries 560 (entry_13 ∷ [])
are_13 = (omega arith, tt)

pub are_14 : AreEntries 560 (entry_13 ∷ entry_14 ∷ [])
are_14 = (omega arith, (omega arith, tt))

-- ---- where they lead: each entry has the images of its transaction's changes over the rows before
-- it, and these changes give the rows after it

one_entry : (tables mid : Tables) (at : ℕ) (e : Entry) (changes : List Change) (is : List Image) (es : List Entry) (tables' : Tables)
    (at' : ℕ)
    → at < e.end → images tables changes ≡ is → e ≡ entry_of e.end e.about e.messages changes is → fold_changes tables changes ≡ Ok mid
    → LeadTo mid e.end es tables' at'
    → LeadTo tables at (e ∷ es) tables' at'
one_entry tables mid at e changes is es tables' at' up are entry folds more =
    (up, (changes, entry ∙ ap (λ is. entry_of e.end e.about e.messages changes is) (sym are), (mid, folds, more)))

image_10 : images map.empty (surviving_changes tx_10.work) ≡ Inserted (text 49 ∷ text 97 ∷ []) ∷ []
unfolding images image_of apply rows_after tuple_spelling
image_10 = simp lookups

image_11 : images tables_304 (surviving_changes tx_11.work) ≡ Inserted (text 50 ∷ text 98 ∷ []) ∷ []
unfolding images image_of apply rows_after tuple_spelling
image_11 = simp lookups

image_14 : images tables_672 (surviving_changes tx_14.work) ≡ Inserted (text 51 ∷ text 100 ∷ []) ∷ []
unfolding images image_of apply rows_after tuple_spelling
image_14 = simp lookups

pub folds_10 : fold_changes map.empty (surviving_changes tx_10.work) ≡ Ok tables_304
unfolding fold_changes apply rows_after tuple_spelling
folds_10 = simp lookups

pub folds_11 : fold_changes tables_304 (surviving_changes tx_11.work) ≡ Ok tables_448
unfolding fold_changes apply rows_after tuple_spelling
folds_11 = simp lookups

pub folds_12 : fold_changes tables_448 (surviving_changes tx_12.work) ≡ Ok tables_560
unfolding fold_changes apply rows_after tuple_spelling
folds_12 = simp lookups

pub folds_13 : fold_changes tables_560 (surviving_changes tx_13.work) ≡ Ok tables_672
unfolding fold_changes apply rows_after tuple_spelling
folds_13 = simp lookups

pub folds_14 : fold_changes tables_672 (surviving_changes tx_14.work) ≡ Ok tables_816
unfolding fold_changes apply rows_after tuple_spelling
folds_14 = simp lookups

pub lead_10 : (es : List Entry) (tables : Tables) (place : ℕ) → LeadTo tables_304 304 es tables place
    → LeadTo map.empty 0 (entry_10 ∷ es) tables place
lead_10 es tables place more =
    one_entry map.empty tables_304 0 entry_10 (surviving_changes tx_10.work) _ es tables place (omega arith) image_10 refl folds_10 more

pub lead_12 : (es : List Entry) (tables : Tables) (place : ℕ) → LeadTo tables_560 560 es tables place
    → LeadTo tables_304 304 (entry_11 ∷ entry_12 ∷ es) tables place
lead_12 es tables place more =
    one_entry tables_304 tables_448 304 entry_11 (surviving_changes tx_11.work) _ (entry_12 ∷ es) tables place (omega arith) image_11
    refl folds_11
    (one_entry tables_448 tables_560 448 entry_12 (surviving_changes tx_12.work) _ es tables place (omega arith) image_12 refl folds_12
    more)

pub lead_13 : (es : List Entry) (tables : Tables) (place : ℕ) → LeadTo tables_672 672 es tables place
    → LeadTo tables_560 560 (entry_13 ∷ es) tables place
lead_13 es tables place more =
    one_entry tables_560 tables_672 560 entry_13 (surviving_changes tx_13.work) _ es tables place (omega arith) image_13 refl folds_13 more

lead_14 : LeadTo tables_672 672 (entry_14 ∷ []) tables_816 816
lead_14 =
    one_entry tables_672 tables_816 672 entry_14 (surviving_changes tx_14.work) _ [] tables_816 816 (omega arith) image_14 refl folds_14
    (refl, refl)

-- what run three's feed keeps leads from the rows at the segment that is left to the last ones
pub leads_560 : LeadTo tables_560 560 (entry_13 ∷ entry_14 ∷ []) tables_816 816
leads_560 = lead_13 (entry_14 ∷ []) tables_816 816 lead_14

-- ---- which commits they tell: those of the history's transactions, as a store takes them

abbrev taken : ℕ → ℕ → ℕ → List Change → TakenCommit
taken lsn xid end changes = record { end = end; about = about lsn xid; changes = changes }

abbrev pub taken_10 : TakenCommit
taken_10 = taken 256 10 304 (surviving_changes tx_10.work)

abbrev pub taken_11 : TakenCommit
taken_11 = taken 400 11 448 (surviving_changes tx_11.work)

abbrev pub taken_12 : TakenCommit
taken_12 = taken 512 12 560 (surviving_changes tx_12.work)

abbrev pub taken_13 : TakenCommit
taken_13 = taken 624 13 672 (surviving_changes tx_13.work)

abbrev pub taken_14 : TakenCommit
taken_14 = taken 768 14 816 (surviving_changes tx_14.work)

one_told : (tables mid : Tables) (at : ℕ) (e : Entry) (changes : List Change) (is : List Image) (es : List Entry)
    (commits rest : List TakenCommit) (tables' : Tables) (at' : ℕ)
    → at < e.end → images tables changes ≡ is → e ≡ entry_of e.end e.about e.messages changes is
    → commits ≡ taken_commit e.end e.about changes ++ rest → fold_changes tables changes ≡ Ok mid
    → TellTo mid e.end es rest tables' at'
    → TellTo tables at (e ∷ es) commits tables' at'
one_told tables mid at e changes is es commits rest tables' at' up are entry told folds more =
    (up, (changes, entry ∙ ap (λ is. entry_of e.end e.about e.messages changes is) (sym are), (rest, told, (mid, folds, more))))

pub tells_10 : (es : List Entry) (cs : List TakenCommit) (tables : Tables) (place : ℕ) → TellTo tables_304 304 es cs tables place
    → TellTo map.empty 0 (entry_10 ∷ es) (taken_10 ∷ cs) tables place
tells_10 es cs tables place more =
    one_told map.empty tables_304 0 entry_10 (surviving_changes tx_10.work) _ es (taken_10 ∷ cs) cs tables place (omega arith) image_10 refl
    refl folds_10 more

pub tells_12 : (es : List Entry) (cs : List TakenCommit) (tables : Tables) (place : ℕ) → TellTo tables_560 560 es cs tables place
    → TellTo tables_304 304 (entry_11 ∷ entry_12 ∷ es) (taken_11 ∷ taken_12 ∷ cs) tables place
tells_12 es cs tables place more =
    one_told tables_304 tables_448 304 entry_11 (surviving_changes tx_11.work) _ (entry_12 ∷ es) (taken_11 ∷ taken_12 ∷ cs) (taken_12 ∷ cs)
    tables place (omega arith) image_11 refl refl folds_11
    (one_told tables_448 tables_560 448 entry_12 (surviving_changes tx_12.work) _ es (taken_12 ∷ cs) cs tables place (omega arith) image_12
    refl refl folds_12 more)

pub tells_13 : TellTo tables_560 560 (entry_13 ∷ []) (taken_13 ∷ []) tables_672 672
tells_13 =
    one_told tables_560 tables_672 560 entry_13 (surviving_changes tx_13.work) _ [] (taken_13 ∷ []) [] tables_672 672 (omega arith)
    image_13 refl refl folds_13 (refl, refl, refl)

pub tells_14 : TellTo tables_672 672 (entry_14 ∷ []) (taken_14 ∷ []) tables_816 816
tells_14 =
    one_told tables_672 tables_816 672 entry_14 (surviving_changes tx_14.work) _ [] (taken_14 ∷ []) [] tables_816 816 (omega arith)
    image_14 refl refl folds_14 (refl, refl, refl)

-- ---- what comes to a tally: of these changes each finds its row

missing_11 : all_missing tables_304 (surviving_changes tx_11.work) ≡ []
unfolding all_missing apply rows_after tuple_spelling
missing_11 = simp lookups

missing_12 : all_missing tables_448 (surviving_changes tx_12.work) ≡ []
unfolding all_missing apply rows_after tuple_spelling
missing_12 = simp lookups

missing_13 : all_missing tables_560 (surviving_changes tx_13.work) ≡ []
unfolding all_missing apply rows_after tuple_spelling
missing_13 = simp lookups

missing_14 : all_missing tables_672 (surviving_changes tx_14.work) ≡ []
unfolding all_missing apply rows_after tuple_spelling
missing_14 = simp lookups

one_counted : (tables mid : Tables) (tx : Transaction) (txs : List Transaction) (m : Tally)
    → fold_changes tables (surviving_changes tx.work) ≡ Ok mid → all_missing tables (surviving_changes tx.work) ≡ []
    → transactions_tallied tables (tx ∷ txs) m
    ≡ transactions_tallied mid txs (record {
      misses = m.misses;
      commits = m.commits ++ taken_commit tx.end (told_of tx) (surviving_changes tx.work);
    })
one_counted tables mid tx txs m folds none =
    let behind = with_commit m tables tx.end (told_of tx) (surviving_changes tx.work) in
    let commits = m.commits ++ taken_commit tx.end (told_of tx) (surviving_changes tx.work) in
    ap (λ r. tallied_over r (λ next. transactions_tallied next txs behind) behind) folds
    ∙ ap (λ oids. transactions_tallied mid txs (record { misses = with_misses m.misses tx.end oids; commits = commits })) none

-- behind some commits
abbrev pub tally_of : List TakenCommit → Tally
tally_of commits = record { misses = nothing_missed; commits = commits }

pub counted_2 : history_tallied history 304 672 (tally_since 304 nothing_taken)
    ≡ tally_since 304 (tally_of (taken_11 ∷ taken_12 ∷ taken_13 ∷ []))
counted_2 =
    tallied_over_rows history 304 672 tables_304 (tally_since 304 nothing_taken) as_of_304
    ∙ one_counted tables_304 tables_448 tx_11 (tx_12 ∷ tx_13 ∷ []) (tally_since 304 nothing_taken) folds_11 missing_11
    ∙ one_counted tables_448 tables_560 tx_12 (tx_13 ∷ []) (tally_since 304 (tally_of (taken_11 ∷ []))) folds_12 missing_12
    ∙ one_counted tables_560 tables_672 tx_13 [] (tally_since 304 (tally_of (taken_11 ∷ taken_12 ∷ []))) folds_13 missing_13

pub counted_3 : history_tallied history 672 816 (tally_since 672 nothing_taken) ≡ tally_since 672 (tally_of (taken_14 ∷ []))
counted_3 =
    tallied_over_rows history 672 816 tables_672 (tally_since 672 nothing_taken) as_of_672
    ∙ one_counted tables_672 tables_816 tx_14 [] (tally_since 672 nothing_taken) folds_14 missing_14
