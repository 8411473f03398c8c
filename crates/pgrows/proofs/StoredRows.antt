-- What is read of a row that stands in a table.
use Rattle.std.proofs.Common.{◌≡◌, ◌≢◌, Result, Ok, Err, IfErr, sym, ◌∙◌}
use Rattle.std.specs.Prelude.{IsErrAnd}
use Rattle.sqlite_value.specs.Order.{Row}
use Rattle.sqlite.specs.declared.types.FromSqlError.{FromSqlError}
use Rattle.sqlite.specs.declared.types.FromSqlError.TheVariants.{OutOfMemory}
use Rattle.pgtables.specs.Kept.{Copies}
use Rattle.pgtables.specs.Shown.{FitsCopies}
use Rattle.pgrows.specs.declared.fault.ReadFault.{ReadFault}
use Rattle.pgrows.specs.declared.fault.ReadFault.TheVariants.{Malformed}
use Rattle.pgrows.specs.Stored.{HasCopies}

pub same_copies : (row : Row) (k l : Copies) → HasCopies row k → HasCopies row l → l ≡ k
same_copies row k l h m =
    let body : l.body ≡ k.body = let e = sym m.0 ∙ h.0 in cc in
    let copies : l.copies ≡ k.copies = let e = sym m.1 ∙ h.1 in cc in
    λ i. record { body = body i; copies = copies i }

-- only memory has run out
pub of_copies : {X : Type 0} (r : Result X FromSqlError) (row : Row) (k : Copies)
    → IfErr r (λ e. (k : Copies) → HasCopies row k → FitsCopies k → e ≡ OutOfMemory) → HasCopies row k → FitsCopies k
    → IfErr r (λ e. e ≡ OutOfMemory)
of_copies (Ok x) row k h has fits = tt
of_copies (Err e) row k h has fits = h k has fits

-- the fault that a `?` passes on
pub passed_on : {X : Type 0} (r : Result X ReadFault) (fault : ReadFault) → fault ≢ Malformed → IsErrAnd r (λ f. f ≡ fault)
    → IfErr r (λ f. f ≢ Malformed)
passed_on (Ok x) fault formed h = tt
passed_on (Err f) fault formed h = λ e. formed (sym h ∙ e)
