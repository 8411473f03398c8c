-- The tally of a history between two places.
use Rattle.std.proofs.Common.{◌≡◌, ◌<◌, ◌≤◌, ℕ, List, [], ◌∷◌, ◌++◌, true, false, cond, Result, Ok}
use Rattle.std.proofs.Common.{Err, refl, sym, ap, ◌∙◌, append_assoc, append-nil, arith, inl}
use Rattle.std.proofs.Common.{inr}
use Rattle.std.specs.Prelude.{nat_lt, nat_le}
use Rattle.std.specs.FinMap as map
use Rattle.std.proofs.lemmas.Bool.{cases_lt}
use Rattle.std.proofs.lemmas.Bool.Decides.{nat_tests}
use Rattle.std.proofs.lemmas.List.Elements.{filter-append}
use Rattle.pgapply.specs.declared.fault.StoreFault.{StoreFault}
use Rattle.pgapply.specs.Value.{Tables}
use Rattle.pgapply.specs.Apply.{fold_changes, ◌>>=◌}
use Rattle.pgapply.specs.Missing.{all_missing}
use Rattle.pgapply.specs.Tallies.{Tally, taken_commit, with_commit}
use Rattle.pgsub_core.specs.Server.Work.{surviving_changes}
use Rattle.pgsub_core.specs.Server.History.{Transaction, IsHistory, IsHistoryFrom, all_changes}
use Rattle.pgsub_core.specs.Server.History.{ended_by, ended_after, tables_as_of, ChangesRows}
use Rattle.pgsub_core.specs.Server.Delivers.{ChangeNothing}
use Rattle.pgsub_core.specs.Subscriber.Tallied.{tallied_over, told_of, transactions_tallied}
use Rattle.pgsub_core.specs.Subscriber.Tallied.{ended_between, history_tallied, taken_of}
use Rattle.pgsub_core.specs.Subscriber.Tallied.{TallyHasTransactions}
use Rattle.pgsub_core.proofs.Changes.{AllEndBy, AllEndAfter, fold-append, changes-append}
use Rattle.pgsub_core.proofs.Changes.{none_changed, AllEndAfter-less, ended-append, ended-none}
use Rattle.pgsub_core.proofs.Changes.{history-after}

-- ---- of transactions

-- those that change nothing aren't noted
one_of_nothing : (tables : Tables) (t : Transaction) (ts : List Transaction) (m : Tally) → surviving_changes t.work ≡ []
    → transactions_tallied tables (t ∷ ts) m ≡ transactions_tallied tables ts m
unfolding all_missing fold_changes
one_of_nothing tables t ts m none =
    rw none (ap (λ commits. transactions_tallied tables ts (record { misses = m.misses; commits = commits })) (append-nil m.commits))

nothing_tallied : (tables : Tables) (xs ys : List Transaction) (m : Tally) → ChangeNothing xs
    → transactions_tallied tables (xs ++ ys) m ≡ transactions_tallied tables ys m
nothing_tallied tables [] ys m h = refl
nothing_tallied tables (t ∷ xs) ys m h = one_of_nothing tables t (xs ++ ys) m h.0 ∙ nothing_tallied tables xs ys m h.1

-- the tally of some and then of others, over what the first leave
tallied_more : (xs ys : List Transaction) (tables next : Tables) (m : Tally) → fold_changes tables (all_changes xs) ≡ Ok next
    → transactions_tallied tables (xs ++ ys) m ≡ transactions_tallied next ys (transactions_tallied tables xs m)
unfolding fold_changes
tallied_more [] ys tables next m h = ap (λ (t : Tables). transactions_tallied t ys m) (let same : tables ≡ next = cc in same)
tallied_more (t ∷ xs) ys tables next m h =
    goes (λ mid e. tallied_more xs ys mid next (with_commit m tables t.end (told_of t) (surviving_changes t.work)) e)
    (fold_changes tables (surviving_changes t.work))
    (sym (fold-append (surviving_changes t.work) (all_changes xs) tables) ∙ h)
  where
    behind : Tally
    behind = with_commit m tables t.end (told_of t) (surviving_changes t.work)

    goes : ((mid : Tables) → fold_changes mid (all_changes xs) ≡ Ok next
        → transactions_tallied mid (xs ++ ys) behind ≡ transactions_tallied next ys (transactions_tallied mid xs behind))
        → (r : Result Tables StoreFault)
        → (r >>= λ mid. fold_changes mid (all_changes xs)) ≡ Ok next
        → tallied_over r (λ mid. transactions_tallied mid (xs ++ ys) behind) behind
        ≡ transactions_tallied next ys (tallied_over r (λ mid. transactions_tallied mid xs behind) behind)
    goes rest (Ok mid) e = rest mid e
    goes rest (Err fault) e = absurd (cc)

-- ---- between two places

pub kept_after : (p q : ℕ) (ts : List Transaction) → AllEndAfter p ts → AllEndAfter p (ended_by q ts)
kept_after p q [] h = tt
kept_after p q (t ∷ ts) h =
    elim (nat_le t.end q) as (λ b. AllEndAfter p (cond b (t ∷ ended_by q ts) (ended_by q ts)))
    [ true ↦ (h.0, kept_after p q ts h.1) | false ↦ kept_after p q ts h.1 ]

all_after : (p : ℕ) (ts : List Transaction) → AllEndAfter p ts → ended_after p ts ≡ ts
all_after p [] h = refl
all_after p (t ∷ ts) h =
    let late : p < t.end = h.0 in
    let yes : nat_lt p t.end ≡ true = grind (arith, nat_tests) in
    rw yes (ap (λ rest. t ∷ rest) (all_after p ts h.1))

after_after : (p : ℕ) (ts : List Transaction) → AllEndAfter p (ended_after p ts)
after_after p [] = tt
after_after p (t ∷ ts) =
    elim (nat_lt p t.end) as (λ b. nat_lt p t.end ≡ b → AllEndAfter p (cond b (t ∷ ended_after p ts) (ended_after p ts)))
    [ true ↦ λ e. (grind (arith, nat_tests), after_after p ts) | false ↦ λ e. after_after p ts ] refl

-- of what ends by p nothing stands between that changes rows
kept_nothing : (p : ℕ) (t : Transaction) (ts : List Transaction) → (ChangesRows t → t.end ≤ p) → ChangeNothing (ended_after p ts)
    → ChangeNothing (ended_after p (t ∷ ts))
kept_nothing p t ts by rest =
    elim (nat_lt p t.end) as (λ b. nat_lt p t.end ≡ b → ChangeNothing (cond b (t ∷ ended_after p ts) (ended_after p ts))) [
      | true ↦ λ e. (
        none_changed (surviving_changes t.work) (t.end ≤ p) by
            (λ le. let lt : p < t.end = grind (arith, nat_tests) in omega arith),
        rest,
      )
      | false ↦ λ e. rest
    ] refl

none_between : (p q : ℕ) (ts : List Transaction) → AllEndBy p ts → ChangeNothing (ended_between p q ts)
none_between p q [] h = tt
none_between p q (t ∷ ts) h =
    elim (nat_le t.end q) as (λ b. ChangeNothing (ended_after p (cond b (t ∷ ended_by q ts) (ended_by q ts)))) [
      | true ↦ kept_nothing p t (ended_by q ts) h.0 (none_between p q ts h.1)
      | false ↦ none_between p q ts h.1
    ]

between-append : (p q : ℕ) (xs ys : List Transaction) → ended_between p q (xs ++ ys) ≡ ended_between p q xs ++ ended_between p q ys
between-append p q xs ys =
    ap (ended_after p) (ended-append q xs ys) ∙ filter-append (λ (t : Transaction). nat_lt p t.end) (ended_by q xs) (ended_by q ys)

-- what came ends by p, and what is to come ends later
pub tallied_behind : (p q : ℕ) (came later : List Transaction) (tables : Tables) (m : Tally) → AllEndBy p came → AllEndAfter p later
    → transactions_tallied tables (ended_between p q (came ++ later)) m ≡ transactions_tallied tables (ended_by q later) m
tallied_behind p q came later tables m by after =
    ap (λ ts. transactions_tallied tables ts m) (between-append p q came later)
    ∙ nothing_tallied tables (ended_between p q came) (ended_between p q later) m (none_between p q came by)
    ∙ ap (λ ts. transactions_tallied tables ts m) (all_after p (ended_by q later) (kept_after p q later after))

-- what ends by q is what ends by p, and what stands between
by_parts : (from p q : ℕ) (ts : List Transaction) → IsHistoryFrom from ts → p ≤ q → ended_by q ts ≡ ended_by p ts ++ ended_between p q ts
by_parts from p q [] is le = refl
by_parts from p q (t ∷ ts) is le = elim (cases_lt p t.end) [ inl lt ↦ late lt | inr early ↦ soon early (by_parts t.end p q ts is.4 le) ]
  where
    late : p < t.end → ended_by q (t ∷ ts) ≡ ended_by p (t ∷ ts) ++ ended_between p q (t ∷ ts)
    late lt =
        let after : AllEndAfter p (t ∷ ts) = (lt, AllEndAfter-less p t.end ts (omega arith) (history-after t.end ts is.4)) in
        sym (ap (λ front. front ++ ended_between p q (t ∷ ts)) (ended-none p (t ∷ ts) after)
        ∙ all_after p (ended_by q (t ∷ ts)) (kept_after p q (t ∷ ts) after))

    soon : t.end ≤ p → ended_by q ts ≡ ended_by p ts ++ ended_between p q ts
        → ended_by q (t ∷ ts) ≡ ended_by p (t ∷ ts) ++ ended_between p q (t ∷ ts)
    soon early rest =
        let by_q : nat_le t.end q ≡ true = grind (arith, nat_tests) in
        let by_p : nat_le t.end p ≡ true = grind (arith, nat_tests) in
        let not_after : nat_lt p t.end ≡ false = grind (arith, nat_tests) in
        rw (by_q, by_p, not_after) (ap (λ all. t ∷ all) rest)

-- so what stands between p and r stands between p and q or between q and r
between_parts : (p q r : ℕ) (ts : List Transaction) → IsHistory ts → p ≤ q → q ≤ r
    → ended_between p r ts ≡ ended_between p q ts ++ ended_between q r ts
between_parts p q r ts is le more =
    ap (ended_after p) (by_parts 0 q r ts is more)
    ∙ filter-append (λ (t : Transaction). nat_lt p t.end) (ended_by q ts) (ended_between q r ts)
    ∙ ap (λ rest. ended_between p q ts ++ rest)
    (all_after p (ended_between q r ts) (AllEndAfter-less p q (ended_between q r ts) le (after_after q (ended_by r ts))))

-- ---- the commits

-- where all of them can be made, each that changes rows is there
commits_added : (ts : List Transaction) (tables next : Tables) (m : Tally) → fold_changes tables (all_changes ts) ≡ Ok next
    → (transactions_tallied tables ts m).commits ≡ m.commits ++ taken_of ts
commits_added [] tables next m h = sym (append-nil m.commits)
commits_added (t ∷ ts) tables next m h =
    goes (λ mid e. commits_added ts mid next behind e) (fold_changes tables (surviving_changes t.work))
    (sym (fold-append (surviving_changes t.work) (all_changes ts) tables) ∙ h)
  where
    behind : Tally
    behind = with_commit m tables t.end (told_of t) (surviving_changes t.work)

    goes : ((mid : Tables) → fold_changes mid (all_changes ts) ≡ Ok next
        → (transactions_tallied mid ts behind).commits ≡ behind.commits ++ taken_of ts)
        → (r : Result Tables StoreFault)
        → (r >>= λ mid. fold_changes mid (all_changes ts)) ≡ Ok next
        → (tallied_over r (λ mid. transactions_tallied mid ts behind) behind).commits ≡ m.commits ++ taken_of (t ∷ ts)
    goes rest (Ok mid) e =
        rest mid e ∙ append_assoc m.commits (taken_commit t.end (told_of t) (surviving_changes t.work)) (taken_of ts)
    goes rest (Err fault) e = absurd (cc)

-- ---- of a history

pub tallied_over_rows : (history : List Transaction) (p q : ℕ) (tables : Tables) (m : Tally) → tables_as_of history p ≡ Ok tables
    → history_tallied history p q m ≡ transactions_tallied tables (ended_between p q history) m
tallied_over_rows history p q tables m same = ap (λ r. tallied_over r (λ t. transactions_tallied t (ended_between p q history) m) m) same

-- nothing stands between a place and itself
pub tallied_none : (history : List Transaction) (p : ℕ) (m : Tally) → history_tallied history p p m ≡ m
tallied_none history p m = by (tables_as_of history p) (empty history)
  where
    empty : (ts : List Transaction) → ended_between p p ts ≡ []
    empty [] = refl
    empty (t ∷ ts) =
        elim (nat_le t.end p) as (λ b. nat_le t.end p ≡ b → ended_after p (cond b (t ∷ ended_by p ts) (ended_by p ts)) ≡ []) [
          | true ↦ λ e. let no : nat_lt p t.end ≡ false = grind (arith, nat_tests) in rw no (empty ts)
          | false ↦ λ e. empty ts
        ] refl

    by : (r : Result Tables StoreFault) → ended_between p p history ≡ []
        → tallied_over r (λ tables. transactions_tallied tables (ended_between p p history) m) m ≡ m
    by (Ok tables) none = ap (λ ts. transactions_tallied tables ts m) none
    by (Err fault) none = refl

-- the rows at q are those at p with what changes between
rows_between : (history : List Transaction) (p q : ℕ) (tables next : Tables) → IsHistory history → p ≤ q
    → tables_as_of history p ≡ Ok tables → tables_as_of history q ≡ Ok next
    → fold_changes tables (all_changes (ended_between p q history)) ≡ Ok next
unfolding tables_as_of
rows_between history p q tables next is le at to =
    sym (ap (λ r. r >>= λ t. fold_changes t (all_changes (ended_between p q history))) at)
    ∙ sym (fold-append (all_changes (ended_by p history)) (all_changes (ended_between p q history)) map.empty)
    ∙ ap (fold_changes map.empty)
    (sym (changes-append (ended_by p history) (ended_between p q history)) ∙ ap all_changes (sym (by_parts 0 p q history is le)))
    ∙ to

-- the commits between two places
pub tally_has_transactions : TallyHasTransactions
tally_has_transactions history p q tables next m is le at to =
    ap (λ (k : Tally). k.commits) (tallied_over_rows history p q tables m at)
    ∙ commits_added (ended_between p q history) tables next m (rows_between history p q tables next is le at to)

-- its tally between p and r is that between p and q and then between q and r
pub tallied_on : (history : List Transaction) (p q r : ℕ) (tables next : Tables) (m : Tally) → IsHistory history → p ≤ q → q ≤ r
    → tables_as_of history p ≡ Ok tables → tables_as_of history q ≡ Ok next
    → history_tallied history p r m ≡ history_tallied history q r (history_tallied history p q m)
tallied_on history p q r tables next m is le more at to =
    tallied_over_rows history p r tables m at
    ∙ ap (λ ts. transactions_tallied tables ts m) (between_parts p q r history is le more)
    ∙ tallied_more (ended_between p q history) (ended_between q r history) tables next m (rows_between history p q tables next is le at to)
    ∙ ap (transactions_tallied next (ended_between q r history)) (sym (tallied_over_rows history p q tables m at))
    ∙ sym (tallied_over_rows history q r next (history_tallied history p q m) to)

-- up to the next transaction behind p that comes it gets that one
pub tallied_next : (history came later : List Transaction) (t : Transaction) (p : ℕ) (tables : Tables) (m : Tally)
    → came ++ t ∷ later ≡ history → AllEndBy p came → p < t.end → AllEndAfter t.end later → tables_as_of history p ≡ Ok tables
    → history_tallied history p t.end m ≡ with_commit m tables t.end (told_of t) (surviving_changes t.work)
tallied_next history came later t p tables m parts by lt after at =
    let here : nat_le t.end t.end ≡ true = grind (arith, nat_tests) in
    let one : ended_by t.end (t ∷ later) ≡ t ∷ [] = rw here (ap (λ rest. t ∷ rest) (ended-none t.end later after)) in
    tallied_over_rows history p t.end tables m at
    ∙ ap (λ ts. transactions_tallied tables (ended_between p t.end ts) m) (sym parts)
    ∙ tallied_behind p t.end came (t ∷ later) tables m by (lt, AllEndAfter-less p t.end later (omega arith) after)
    ∙ ap (λ ts. transactions_tallied tables ts m) one
    ∙ alone (fold_changes tables (surviving_changes t.work))
  where
    behind : Tally
    behind = with_commit m tables t.end (told_of t) (surviving_changes t.work)

    alone : (r : Result Tables StoreFault) → tallied_over r (λ next. behind) behind ≡ behind
    alone (Ok next) = refl
    alone (Err fault) = refl
