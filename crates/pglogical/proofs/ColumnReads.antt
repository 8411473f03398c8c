-- What the bytes of borrowed columns give, column by column.
use Rattle.std.proofs.Common.{◌≡◌, ◌≢◌, ℕ, zero, suc, ◌-◌, List, [], ◌∷◌, Result, length, Ok, Err}
use Rattle.std.proofs.Common.{refl, sym, ap, subst, ◌∙◌, arith}
use Rattle.pglogical.specs.declared.fault.DecodeFault.{DecodeFault}
use Rattle.pglogical.specs.declared.message.Column.{Column}
use Rattle.pglogical.specs.declared.column_refs.ColumnRef.{ColumnRef}
use Rattle.pglogical.specs.BorrowedColumns.{column_value}
use Rattle.pglogical.specs.Answers.{Gives}
use Rattle.pglogical.specs.Reading.{◌>>=◌, At, Read, column_at, columns_at}
use Rattle.pglogical.specs.Columns.{columns_read, IsRead}
use Rattle.pglogical.proofs.Fields.{bind_ok, ok_is}

read_is : (read : Read (List Column)) → IsRead read → (at : At) × (read ≡ Ok (columns_read read, at))
read_is (Ok x) h = (x.1, refl)
read_is (Err f) h = absurd h

pub is_read : (read : Read (List Column)) (columns : List Column) (at : At) → read ≡ Ok (columns, at)
    → IsRead read × (columns_read read ≡ columns)
is_read read columns at e = rw e (tt, refl)

-- the first column, and the others
record IsFirstRead (n : ℕ) (at : At) (first : Column × At) : Type 0 where
  pub here : column_at at ≡ Ok first
  pub there : IsRead (columns_at n first.1)
  pub all : columns_read (columns_at (suc n) at) ≡ first.0 ∷ columns_read (columns_at n first.1)

first_read : (n : ℕ) (at : At) → IsRead (columns_at (suc n) at) → (first : Column × At) × IsFirstRead n at first
unfolding columns_at
first_read n at h =
    let whole = read_is (columns_at (suc n) at) h in
    let one = bind_ok (column_at at) (λ first. columns_at n first.1 >>= λ others. Ok (first.0 ∷ others.0, others.1)) _ whole.1 in
    let others = bind_ok (columns_at n one.0.1) (λ others. Ok (one.0.0 ∷ others.0, others.1)) _ one.2 in
    let is = is_read (columns_at n one.0.1) others.0.0 others.0.1 others.1 in (
      one.0,
      record {
        here = one.1;
        there = is.0;
        all = ap (λ (r : Read (List Column)). columns_read r)
            (ap (λ (r : Read Column). r >>= λ first. columns_at n first.1 >>= λ others. Ok (first.0 ∷ others.0, others.1)) one.1
            ∙ ap (λ (r : Read (List Column)). r >>= λ others. Ok (one.0.0 ∷ others.0, others.1)) others.1)
            ∙ ap (λ (columns : List Column). one.0.0 ∷ columns) (sym is.1);
      },
    )

pub none_left : (n : ℕ) (at : At) → n ≡ 0 → columns_read (columns_at n at) ≡ []
unfolding columns_at
none_left n at e = rw e refl

-- the step from n to one less
pub record IsNextRead (n : ℕ) (at : At) (first : Column × At) : Type 0 where
  pub here : column_at at ≡ Ok first
  pub there : IsRead (columns_at (n - 1) first.1)
  pub all : columns_read (columns_at n at) ≡ first.0 ∷ columns_read (columns_at (n - 1) first.1)

pub next_read : (n : ℕ) (at : At) → n ≢ 0 → IsRead (columns_at n at) → (first : Column × At) × IsNextRead n at first
next_read zero at other h = absurd (other refl)
next_read (suc n) at other h =
    let first = first_read n at h in
    let less : suc n - 1 ≡ n = omega arith in (
      first.0,
      record {
        here = first.1.here;
        there = subst (λ (k : ℕ). IsRead (columns_at k first.0.1)) (sym less) first.1.there;
        all = first.1.all ∙ ap (λ (k : ℕ). first.0.0 ∷ columns_read (columns_at k first.0.1)) (sym less);
      },
    )

-- what is called a column is that column
pub known_column : (r : Result ColumnRef DecodeFault) (at new : At) (first : Column × At)
    → Gives (λ c. (column_value c, new)) r (column_at at) → column_at at ≡ Ok first
    → (c : ColumnRef) × (r ≡ Ok c) × (column_value c ≡ first.0) × (new ≡ first.1)
known_column (Ok c) at new first e here =
    let same : ◌≡◌ {A = Column × At} (column_value c, new) first = ok_is (column_value c, new) first (sym e ∙ here) in
    (c, refl, ap (λ (x : Column × At). x.0) same, ap (λ (x : Column × At). x.1) same)
known_column (Err f) at new first e here =
    let never : ◌≡◌ {A = Read Column} (Err f) (Ok first) = sym e ∙ here in
    absurd cc

pub count_read : (n : ℕ) (at : At) → IsRead (columns_at n at) → length (columns_read (columns_at n at)) ≡ n
unfolding columns_at
count_read zero at h = refl
count_read (suc n) at h = let first = first_read n at h in ap length first.1.all ∙ ap suc (count_read n first.0.1 first.1.there)
