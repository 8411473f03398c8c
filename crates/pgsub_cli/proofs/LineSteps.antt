-- Lines on their way to an output, from one step to the next.
use Rattle.std.proofs.Common.{◌≡◌, ◌≢◌, ◌++◌, ℕ, List, [], ◌∷◌, Bool, true, false, Option, None}
use Rattle.std.proofs.Common.{Some, Result, Ok, Err, IfOk, IfErr, refl, sym, ap, subst, ◌∙◌, inl}
use Rattle.std.proofs.Common.{inr, OnOk}
use Rattle.std.specs.List.{flat_map}
use Rattle.std.proofs.lemmas.Grind.{flat_map-append}
use Rattle.std.proofs.lemmas.List.{append_assoc, append-nil}
use Rattle.pgapply.specs.declared.rows.DumpRow.{DumpRow}
use Rattle.pgapply.specs.declared.fault.StoreFault.{StoreFault}
use Rattle.pgapply.specs.Stored.{IsOwnFault}
use Rattle.pgsub_core.specs.Machine.Faults.{IsReadFault, fault_of_store}
use Rattle.pgapply.specs.Dump.{dump}
use Rattle.pgapply.specs.Taken.{Stays}
use Rattle.pgapply.specs.Value.{Tables}
use Rattle.pgsub_core.specs.declared.fault.Fault.{Fault}
use Rattle.pgsub_cli.specs.declared.dumping.LineFault.{LineFault}
use Rattle.pgsub_cli.specs.declared.dumping.LineFault.TheVariants.{CannotWrite, Memory}
use Rattle.pgsub_cli.specs.declared.fault.Ending.{Ending}
use Rattle.pgsub_cli.specs.declared.fault.Ending.TheVariants.{Done}
use Rattle.pgsub_cli.specs.declared.fault.RunFault.{RunFault}
use Rattle.pgsub_cli.specs.declared.fault.RunFault.TheVariants as run
use Rattle.pgsub_cli.specs.DumpText.{dump_of, position_line, row_line}
use Rattle.pgsub_cli.specs.Dumped.{AreWritten, Dumps, EndsPrinting, PrintsLeft, PrintsLines}
use Rattle.pgsub_cli.specs.Dumped.{WrittenFront, joined}
use Rattle.pgsub_cli.specs.Lines.{IsWriting, after, run_fault_of}
use Rattle.pgsub_cli.specs.Storing.{IsShown}

-- a store's own fault is one of reading
pub own_read : (f : StoreFault) → IsOwnFault f → IsReadFault (fault_of_store f)
own_read f (inl memory) = inl (ap fault_of_store memory)
own_read f (inr refused) = inr (ap fault_of_store refused)

module _ {W : Type 0} (takes : W → List ℕ → W → Type 0) (failed : W → Type 0) where
  abbrev Writing : W → List ℕ → W → List ℕ → Option LineFault → Type 0
  Writing = IsWriting takes failed

  -- nothing was written yet
  pub begins : (old : W) (bytes lines : List ℕ) → bytes ≡ lines → Writing old bytes old lines None
  begins old bytes lines is = record { pieces = []; rest = lines; mid = old; written = refl; is = is; stands = (refl, refl) }

  module _ {old : W} {bytes : List ℕ} {out : W} {lines : List ℕ} where
    pub flushed : Writing old bytes out lines None → (new : W) (next : List ℕ) → takes out lines new → next ≡ []
        → Writing old bytes new next None
    flushed w new next took empty = record {
      pieces = lines ∷ w.pieces;
      rest = [];
      mid = new;
      written = (w.mid, w.written, subst (λ s. takes s lines new) w.stands.0 took);
      is = w.is ∙ ap (λ l. joined w.pieces ++ l) w.stands.1 ∙ sym (append-nil (joined w.pieces ++ lines));
      stands = (refl, sym empty);
    }

    pub kept : Writing old bytes out lines None → (text next : List ℕ) → next ≡ lines ++ text → Writing old (bytes ++ text) out next None
    kept w text next is = record {
      pieces = w.pieces;
      rest = w.rest ++ text;
      mid = w.mid;
      written = w.written;
      is = ap (λ l. l ++ text) w.is ∙ append_assoc (joined w.pieces) w.rest text;
      stands = (w.stands.0, ap (λ l. l ++ text) w.stands.1 ∙ sym is);
    }

    unwritten : Writing old bytes out lines None → (new : W) (next : List ℕ) → failed out
        → Writing old bytes new next (Some CannotWrite)
    unwritten w new next h =
        record { pieces = w.pieces; rest = w.rest; mid = w.mid; written = w.written; is = w.is; stands = subst failed w.stands.0 h }

    -- writing stopped with this fault
    pub stuck : Writing old bytes out lines None → (new : W) (next : List ℕ) (f : LineFault) → (f ≡ CannotWrite) × failed out
        → Writing old bytes new next (Some f)
    stuck w new next f is = subst (λ g. Writing old bytes new next (Some g)) (sym is.0) (unwritten w new next is.1)

    pub starved : Writing old bytes out lines None → (next : List ℕ) → Writing old bytes out next (Some Memory)
    starved w next = record { pieces = w.pieces; rest = w.rest; mid = w.mid; written = w.written; is = w.is; stands = w.stands.0 }

    -- what is written is a front, whatever follows the bytes
    front : (w : Writing old bytes out lines None) → (more : List ℕ) → WrittenFront takes old (bytes ++ more) out
    front w more = (
      joined w.pieces,
      w.rest ++ more,
      ap (λ l. l ++ more) w.is ∙ append_assoc (joined w.pieces) w.rest more,
      (w.pieces, refl, subst (λ s. AreWritten takes old w.pieces s) (sym w.stands.0) w.written),
    )

    -- nothing more is written
    pub stops : (f : LineFault) → Writing old bytes out lines (Some f) → (more : List ℕ)
        → PrintsLines takes failed (bytes ++ more) old out (Err (run_fault_of f))
    stops Memory w more = (
      inl refl,
      (
        joined w.pieces,
        w.rest ++ more,
        ap (λ l. l ++ more) w.is ∙ append_assoc (joined w.pieces) w.rest more,
        (w.pieces, refl, subst (λ s. AreWritten takes old w.pieces s) (sym w.stands) w.written),
      ),
    )
    stops CannotWrite w more = (
      w.mid,
      (joined w.pieces, w.rest ++ more, ap (λ l. l ++ more) w.is ∙ append_assoc (joined w.pieces) w.rest more, (w.pieces, refl, w.written)),
      w.stands,
    )

    -- they stop for this fault of reading
    pub unread : Writing old bytes out lines None → (more : List ℕ) (f : Fault) → IsReadFault f
        → PrintsLines takes failed (bytes ++ more) old out (Err (run.Stream f))
    unread w more f read = (read, front w more)

    -- all is written
    pub done : Writing old bytes out lines None → lines ≡ [] → PrintsLines takes failed bytes old out (Ok Done)
    done w empty = (
      w.pieces,
      sym (w.is ∙ ap (λ l. joined w.pieces ++ l) (w.stands.1 ∙ empty) ∙ append-nil (joined w.pieces)),
      subst (λ s. AreWritten takes old w.pieces s) (sym w.stands.0) w.written,
    )

  -- writing the last lines stopped with this fault
  pub unfinished : (old : W) (bytes : List ℕ) (out : W) (lines : List ℕ) → Writing old bytes out lines None
      → (new : W) (f : LineFault) → (f ≡ CannotWrite) × failed out → PrintsLines takes failed bytes old new (Err (run_fault_of f))
  unfinished old bytes out lines w new f is =
      subst (λ bs. PrintsLines takes failed bs old new (Err (run_fault_of f))) (append-nil bytes) (stops f (stuck w new [] f is) [])

  one_row_more : (rows : List DumpRow) (row : DumpRow) → flat_map row_line (rows ++ row ∷ []) ≡ flat_map row_line rows ++ row_line row
  one_row_more rows row =
      flat_map-append row_line rows (row ∷ []) ∙ ap (λ (l : List ℕ). flat_map row_line rows ++ l) (append-nil (row_line row))

  -- the line of a row is kept after those of others
  pub takes_row : (old : W) (text : List ℕ) (rows : List DumpRow) (row : DumpRow) (out : W) (lines : List ℕ) (fault : Option LineFault)
      → fault ≡ None → (new : W) (next : List ℕ)
      → ((before : W) (bytes : List ℕ) → Writing before bytes out lines None → Writing before (bytes ++ row_line row) new next None)
      → Writing old (text ++ flat_map row_line rows) out lines fault
      → Writing old (text ++ flat_map row_line (rows ++ row ∷ [])) new next fault
  takes_row old text rows row out lines fault none new next added w =
      subst (λ f. Writing old (text ++ flat_map row_line (rows ++ row ∷ [])) new next f) (sym none)
      (subst (λ bytes. Writing old bytes new next None)
      (append_assoc text (flat_map row_line rows) (row_line row) ∙ ap (λ (l : List ℕ). text ++ l) (sym (one_row_more rows row)))
      (added old (text ++ flat_map row_line rows)
      (subst (λ f. Writing old (text ++ flat_map row_line rows) out lines f) none w)))

  -- an empty text in front of the bytes
  pub unbegun : {old : W} {bytes : List ℕ} {out : W} {lines : List ℕ} {fault : Option LineFault} (text : List ℕ) → text ≡ []
      → Writing old (text ++ bytes) out lines fault → Writing old bytes out lines fault
  unbegun {old} {bytes} {out} {lines} {fault} text is = subst (λ t. Writing old (t ++ bytes) out lines fault) is

  module _ (rows : List DumpRow) (position : ℕ) (read : Result Bool StoreFault) (out mid : W) (lines : List ℕ)
      (fault : Option LineFault) (new : W) (ended : Result Ending RunFault) where
    -- how these rows end that were read so
    abbrev Ends : Type 0
    Ends = (old : W) (bytes more : List ℕ) → Writing old bytes mid lines fault → IfErr read IsOwnFault
        → (read ≡ Ok true → more ≡ position_line position) → PrintsLines takes failed (bytes ++ more) old new ended

    abbrev Front : Type 0
    Front = (done : List DumpRow) × (left : List DumpRow) × (rows ≡ done ++ left) × Writing out (flat_map row_line done) mid lines fault

    front_dumped : read ≢ Ok true → Front → IfErr read IsOwnFault → Ends → PrintsLines takes failed (dump_of rows position) out new ended
    front_dumped other (done, left, is, writing) own ends =
        let are : dump_of rows position ≡ flat_map row_line done ++ (flat_map row_line left ++ position_line position) =
        ap (λ (rs : List DumpRow). flat_map row_line rs ++ position_line position) is
        ∙ ap (λ (l : List ℕ). l ++ position_line position) (flat_map-append row_line done left)
        ∙ append_assoc (flat_map row_line done) (flat_map row_line left) (position_line position) in
        subst (λ (bytes : List ℕ). PrintsLines takes failed bytes out new ended) (sym are)
        (ends out (flat_map row_line done) (flat_map row_line left ++ position_line position) writing own (λ e. absurd (other e)))

  pub dumped : (rows : List DumpRow) (position : ℕ) (read : Result Bool StoreFault) (out mid : W) (lines : List ℕ)
      (fault : Option LineFault) (new : W) (ended : Result Ending RunFault) → Front rows position read out mid lines fault new ended
      → IfOk read (λ all. all ≡ true → Writing out (flat_map row_line rows) mid lines fault) → IfErr read IsOwnFault
      → Ends rows position read out mid lines fault new ended → PrintsLines takes failed (dump_of rows position) out new ended
  dumped rows position (Ok true) out mid lines fault new ended front all own ends =
      ends out (flat_map row_line rows) (position_line position) (all refl) own (λ _. refl)
  dumped rows position (Ok false) out mid lines fault new ended front all own ends =
      front_dumped rows position (Ok false) out mid lines fault new ended (λ e. absurd (cc)) front own ends
  dumped rows position (Err f) out mid lines fault new ended front all own ends =
      front_dumped rows position (Err f) out mid lines fault new ended (λ e. absurd (cc)) front own ends

-- lines that aren't written end it in one of its ways
pub ends_unwritten : (f : LineFault) → EndsPrinting IsReadFault (Err (run_fault_of f))
ends_unwritten Memory = inl refl
ends_unwritten CannotWrite = tt

pub ends_for : (P Q : Fault → Type 0) → ((f : Fault) → P f → Q f) → (r : Result Ending RunFault) → EndsPrinting P r → EndsPrinting Q r
ends_for P Q more (Ok Done) h = tt
ends_for P Q more (Ok e) h = absurd h
ends_for P Q more (Err (run.Stream f)) h = more f h
ends_for P Q more (Err run.CannotWrite) h = tt
ends_for P Q more (Err f) h = absurd h

-- ---- the lines of what a run leaves

module _ {W C : Type 0} (takes : W → List ℕ → W → Type 0) (failed : W → Type 0) (holds : C → Tables → Type 0) (place : C → ℕ)
    (serves : C → Type 0) (old mid new : C) (out out' : W) (stopped : Option Fault) where
  abbrev Shows : C → Option Fault → (List ℕ → Type 0) → Type 0
  Shows end f said = IsShown holds place serves stopped old end f said

  module _ (opened : serves old) (at : place new ≡ place old) (kept : serves new → Stays holds old new) where
    left_printed : (f : Option Fault) → stopped ≡ f → (printed : Result Ending RunFault) → EndsPrinting IsReadFault printed
        → OnOk printed (serves new)
        → ((tables : Tables) → holds old tables → PrintsLines takes failed (dump_of (dump tables) (place old)) out out' printed)
        → PrintsLeft takes failed (Shows new) (Shows old stopped) out out' (after f printed)
    left_printed None is (Ok Done) ends serving lines = (is, opened, λ tables k. (kept serving tables k, at, lines tables k))
    left_printed (Some f) is (Ok Done) ends serving lines = inl (is, opened, λ tables k. (kept serving tables k, at, lines tables k))
    left_printed f is (Ok e) ends serving lines = absurd ends
    left_printed f is (Err (run.Stream x)) ends serving lines = inr (ends, inr (refl, opened, λ tables k. (k, refl, (lines tables k).1)))
    left_printed f is (Err run.CannotWrite) ends serving lines = (refl, opened, λ tables k. (k, refl, lines tables k))
    left_printed f is (Err x) ends serving lines = absurd ends

  -- of a store that serves, after this had stopped the run
  pub held_printed : (serving : serves mid) → (serves mid → serves old) → (serves mid → Stays holds old mid) → place mid ≡ place old
      → (printed : Result Ending RunFault) → OnOk printed (serves new) → (serves new → Stays holds mid new) → place new ≡ place mid
      → EndsPrinting IsReadFault printed
      → ((tables : Tables) → holds mid tables → Dumps takes failed (dump tables) (place mid) out out' printed)
      → (ended : Result Ending RunFault) → ended ≡ after stopped printed
      → PrintsLeft takes failed (Shows new) (Shows old stopped) out out' ended
  held_printed serving served stayed at printed given stays there ends dumps ended is =
      subst (λ (e : Result Ending RunFault). PrintsLeft takes failed (Shows new) (Shows old stopped) out out' e) (sym is)
      (left_printed (served serving) (there ∙ at) (λ s tables k. stays s tables (stayed serving tables k)) stopped refl printed ends given
      (λ tables k.
      subst (λ (n : ℕ). PrintsLines takes failed (dump_of (dump tables) n) out out' printed) at (dumps tables (stayed serving tables k))))
