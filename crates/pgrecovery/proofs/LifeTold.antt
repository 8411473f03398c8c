-- What the law says of the worked life's feed: which transactions its entries are, as each run ends
-- and as the next one begins.
use Rattle.std.proofs.Common.{◌≡◌, [], ◌∷◌, List, ℕ, None, max, refl, subst, sym, arith}
use Rattle.std.proofs.Math.Logic.{∥∥₁_elim, ∥∥₁_map, ∥∥₁_prop}
use Rattle.std.specs.Prelude.{⊤}
use Rattle.std.specs.List.{AllByRecursion}
use Rattle.std.specs.FinMap as map
use Rattle.sqlite_disk.specs.declared.Disk as disk
use Rattle.sqlite.specs.Files.{over_files}
use Rattle.pgorder.specs.declared.Version.TheVariants.{Two}
use Rattle.pgapply.specs.Value.{Tables}
use Rattle.pgledger.specs.Records.{TellTo}
use Rattle.pgsub_core.specs.Server.Stream.{Sent}
use Rattle.pgsub_core.specs.Subscriber.Safe.{IsSafe}
use Rattle.pgsub_core.specs.Subscriber.Safely.{IsSent}
use Rattle.pgsub_core.specs.Subscriber.Subscribed.{newly}
use Rattle.pgsub_core.specs.Subscriber.SubscriberValue.{seen}
use Rattle.pgsub_core.specs.Subscriber.Tallied.{ended_between, taken_of}
use Rattle.pgrecovery.specs.Recovered.{holds_tables}
use Rattle.pgrecovery.specs.FedLife.{fed_position}
use Rattle.pgrecovery.specs.ToldLife.{IsToldRun, TellThrough, TellsThere, holds_told}
use Rattle.pgrecovery.proofs.ToldLife.{one_told_life}
use Rattle.pgrecovery.proofs.LifeSessions.{as_of_304, bytes_2, bytes_3, complete_2, complete_3}
use Rattle.pgrecovery.proofs.LifeSessions.{history, is_history}
use Rattle.pgrecovery.proofs.LifeSessions.{tables_304, tables_672, tables_816}
use Rattle.pgrecovery.proofs.LifeEntries.{entry_10, entry_11, entry_12, taken_11, taken_12}
use Rattle.pgrecovery.proofs.LifeEntries.{counted_2, counted_3, taken_13, taken_14, tells_10}
use Rattle.pgrecovery.proofs.LifeFeeds.{MemoryFeed, feed_1_ended, has, is_clean, is_true, keeps_1}
use Rattle.pgrecovery.proofs.LifeFeeds.{may_leave, places, shows, told_2, told_3}
use Rattle.pgrecovery.proofs.LifeFed.{feeds_2, feeds_3}
use Rattle.pgrecovery.proofs.LifeRows.{Fed, Given, Holds_2, Holds_3, IsLived, One, Store, are_runs}
use Rattle.pgrecovery.proofs.LifeRows.{begun_2, begun_3, ended_2, ended_3, fed_place, holds_2}
use Rattle.pgrecovery.proofs.LifeRows.{holds_3}
use Rattle.pgrecovery.proofs.LifeRows.{new_files, new_files_are_empty, runs, safe_of}

-- ---- which transactions end where

-- behind where run two began: xid 10, which came again, isn't among them
between_2 : taken_of (ended_between (max 304 0) 672 history) ≡ taken_11 ∷ taken_12 ∷ taken_13 ∷ []
between_2 = refl

-- of these those behind the segment that others removed
between_3 : taken_of (ended_between (max 304 560) 672 history) ≡ taken_13 ∷ []
between_3 = refl

between_4 : taken_of (ended_between (max 672 560) 816 history) ≡ taken_14 ∷ []
between_4 = refl

-- ---- amid a group

-- Of the three that run one's feed has the store has the first: it is told, and the others end
-- later.
amid_group : (any : MemoryFeed) (alone : any.ended.items ≡ []) (untold : any.segment.told.items ≡ [])
    → (unheard : _)
    → TellsThere shows may_leave is_clean is_true places has (feed_1_ended any alone untold unheard) history 0 304
amid_group any alone untold unheard = record {
  tables = tables_304;
  same = as_of_304;
  base = map.empty;
  mid = map.empty;
  before = [];
  since = entry_10 ∷ [];
  later = entry_11 ∷ entry_12 ∷ [];
  kept = keeps_1 any alone untold unheard;
  leads = (refl, refl);
  tells = tells_10 [] [] tables_304 304 (refl, refl, refl);
  above = (omega arith, (omega arith, tt));
}

-- ---- the runs

module _ {D : Type 0} {g : disk.Ghosts D} (l : Given g) where
  abbrev Holds : Store g → Tables → Type 0
  Holds = holds_told g shows may_leave is_clean is_true places has ⊤

  -- it holds these tables, and which commits its feed tells is known
  safely : (begun ended : One g) (bytes : List ℕ) (complete : List Sent) (tables tables' : Tables)
      → ((ts : Tables) → seen fed_position begun ts ≡ newly ts (fed_place begun) Two 16777216 1000)
      → holds_tables over_files begun.applied.store.store tables
      → Holds ended.applied.store tables' → Fed l begun tables bytes ended tables' None
      → (ts : Tables) → Holds begun.applied.store ts
      → IsSent history (newly ts (fed_place begun) Two 16777216 1000) (bytes ∷ []) (complete ∷ [])
      → (tables'' : Tables) × Holds ended.applied.store tables'' × IsSafe history tables'' (fed_place ended) ended.applied.confirmed
  safely begun ended bytes complete tables tables' new held holds fed ts is sent =
      let came : IsSent history (seen fed_position begun ts) (bytes ∷ []) (complete ∷ []) =
      subst (λ s. IsSent history s (bytes ∷ []) (complete ∷ [])) (sym (new ts)) sent in
      (tables', holds, safe_of l begun ended bytes tables ts tables' None history (complete ∷ []) held is.0 came fed)

  -- ---- what the law is to say

  -- As run two ends its feed tells xids 11, 12 and 13, each once. As run three begins, whose feed
  -- begins at the segment that is left, it tells xid 13; and as that run ends, xid 14.
  pub record IsAllTold : Type 0 where
    pub repeated : (t : TellsThere shows may_leave is_clean is_true places has (ended_2 l).applied.store.ledger history 304 672)
        × TellTo t.mid 304 t.since (taken_11 ∷ taken_12 ∷ taken_13 ∷ []) t.tables 672
    pub retained : (t : TellsThere shows may_leave is_clean is_true places has (begun_3 l).applied.store.ledger history 304 672)
        × TellTo t.mid 560 t.since (taken_13 ∷ []) t.tables 672
    pub last : (t : TellsThere shows may_leave is_clean is_true places has (ended_3 l).applied.store.ledger history 672 816)
        × TellTo t.mid 672 t.since (taken_14 ∷ []) t.tables 816

  module _ (lived : IsLived l) where
    abbrev AreTold : Type 0
    AreTold = AllByRecursion (IsToldRun g shows may_leave is_clean is_true places has ⊤ history) (runs l)

    told_over : Holds_2 l lived → Holds_3 l lived → AreTold
    told_over held_2 held_3 = (
      record {
        from = refl;
        untaken = refl;
        safe = λ serves. absurd (lived.shut_1 serves);
        tallied = λ serves. absurd (lived.shut_1 serves);
      },
      (
        record {
          from = refl;
          untaken = refl;
          safe = λ _. safely (begun_2 l) (ended_2 l) bytes_2 complete_2 tables_304 tables_672 (λ ts. refl) held_2
              (lived.contains_2.holds.stored, λ _. told_2 l.any l.alone l.untold l.unheard) feeds_2;
          tallied = λ _ tables held sent. sym counted_2;
        },
        (
          record {
            from = refl;
            untaken = refl;
            safe = λ _. safely (begun_3 l) (ended_3 l) bytes_3 complete_3 tables_672 tables_816 (λ ts. refl) held_3
                (lived.contains_3.holds.stored, λ _. told_3 l.any l.alone l.untold l.unheard) feeds_3;
            tallied = λ _ tables held sent. sym counted_3;
          },
          tt,
        ),
      ),
    )

    pub tells_through : ∥ TellThrough g shows may_leave is_clean is_true places has ⊤ history ⊤ 0 0 (runs l) ∥₁
    tells_through = ∥∥₁_elim (holds_2 l lived) ∥∥₁_prop (λ held_2.
        ∥∥₁_elim (holds_3 l lived) ∥∥₁_prop (λ held_3.
        ∥∥₁_elim (are_runs l lived) ∥∥₁_prop (λ are.
        one_told_life g shows may_leave is_clean is_true places has ⊤ (λ left. refl) history new_files (runs l) is_history
        new_files_are_empty are (told_over held_2 held_3))))

    -- ---- what that says

    pub told : ∥ IsAllTold ∥₁
    told = ∥∥₁_map tells_through (λ through. let second = through.2 in let third = second.2 in record {
      repeated = (second.1 lived.serves_2 tt, (second.1 lived.serves_2 tt).tells);
      retained = (third.0 lived.serves_2 refl tt, (third.0 lived.serves_2 refl tt).tells);
      last = (third.1 lived.serves_3 tt, (third.1 lived.serves_3 tt).tells);
    })

-- ---- the example

worked_life_tells : {D : Type 0} {g : disk.Ghosts D} (l : Given g) → IsLived l
    → ∥ TellThrough g shows may_leave is_clean is_true places has ⊤ history ⊤ 0 0 (runs l) ∥₁ × ∥ IsAllTold l ∥₁
worked_life_tells l lived = (tells_through l lived, told l lived)
