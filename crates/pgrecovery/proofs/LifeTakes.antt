-- What a subscriber does with the messages of the worked life, one after the other, and what it is
-- then.
use Rattle.std.proofs.Common.{◌≡◌, ◌+◌, ◌++◌, [], ◌∷◌, List, ℕ, ℤ, true, false}
use Rattle.std.proofs.Common.{Ok, refl, ap, ◌∙◌, pos}
use Rattle.std.specs.Prelude.{max, nat_lt, ◌==◌}
use Rattle.std.specs.Ordering.{nat_cmp, eq_by_cmp}
use Rattle.std.specs.Cmp.{nat_cmp_total, unsigned_Decides}
use Rattle.std.proofs.lemmas.Cmp.{eq_by_cmp_equiv}
use Rattle.std.specs.FinMap as map
use Rattle.pgtuple.specs.Cells.{tuple_spelling}
use Rattle.pglogical.specs.Spelling.{item_spelling}
use Rattle.pglogical.specs.declared.message.Item.{Item}
use Rattle.pglogical.specs.declared.message.Item.TheVariants as item
use Rattle.pgorder.specs.Steps.{InPair, initial_order}
use Rattle.pgorder.specs.OpenXids.{none_open}
use Rattle.pgorder.specs.declared.Version.TheVariants.{Two}
use Rattle.pgspool.specs.Labels.{LabelledItem, items_of, cost, costs}
use Rattle.pgapply.specs.Value.{Tables}
use Rattle.pgapply.specs.Apply.{Change, fold_changes}
use Rattle.pgsub_core.specs.Server.Described.{described_from}
use Rattle.pgsub_core.specs.Server.Stream.{Sent, Keepalive}
use Rattle.pgsub_core.specs.Server.Work.{surviving_changes}
use Rattle.pgsub_core.specs.Machine.Replica.{RelationCache, Running, all_cached, then_run}
use Rattle.pgsub_core.specs.Machine.Taking as taking
use Rattle.pgsub_core.specs.Subscriber.Subscribed.{Subscribed, newly}
use Rattle.pgsub_core.proofs.Samples.{alone, begin, commit, delete_t, insert_t, lookups, spools, t}
use Rattle.pgsub_core.proofs.Samples.{update_t}
use Rattle.pgrecovery.proofs.LifeSessions.{complete_1, complete_11, complete_12, complete_2}
use Rattle.pgrecovery.proofs.LifeSessions.{complete_3}
use Rattle.pgrecovery.proofs.LifeSessions.{data_at, handled_1}
use Rattle.pgrecovery.proofs.LifeSessions.{tables_304, tables_448, tables_560, tables_672}
use Rattle.pgrecovery.proofs.LifeSessions.{tables_816, tx_10, tx_11, tx_12, tx_13, tx_14}
use Rattle.pgrecovery.proofs.LifeEntries.{folds_10, folds_11, folds_12, folds_13, folds_14}

-- the time at which all is fed
abbrev pub clock : ℤ
clock = pos 7

-- the definition that a session told
abbrev pub told_t : RelationCache
told_t = map.insert map.empty 16384 t

-- ---- one message

-- as outside pairs and blocks
abbrev outside : Subscribed → Subscribed
outside s = record s { order = initial_order; held = map.empty }

-- inside a pair, with these items of it
abbrev pub inside : ℕ → ℕ → List LabelledItem → Subscribed → Subscribed
inside lsn xid held s = record s {
  order = record { context = InPair lsn xid; open_xids = none_open };
  held = map.insert map.empty xid held;
}

-- after XLogData at this LSN
abbrev behind : ℕ → Subscribed → Subscribed
behind lsn s = record s { received = max s.confirmed (max s.received (max lsn lsn)) }

-- with the commit stored that ends here
abbrev stored : ℕ → Tables → List LabelledItem → Subscribed → Subscribed
stored end tables held s = record s {
  tables = tables;
  position = end;
  confirmed = max s.confirmed end;
  relations = all_cached s.relations (items_of held);
}

-- with a commit that is a repeat
abbrev repeated : List LabelledItem → Subscribed → Subscribed
repeated held s = record s { relations = all_cached s.relations (items_of held) }

same_xid : (xid : ℕ) → eq_by_cmp nat_cmp xid xid ≡ true
same_xid xid = (eq_by_cmp_equiv nat_cmp_total).refl xid

same_lsn : (lsn : ℕ) → (lsn == lsn) ≡ true
same_lsn lsn = (unsigned_Decides lsn lsn).1 refl

begin_taken : (s : Subscribed) (lsn final xid : ℕ)
    → taking.take clock (outside s) (data_at lsn (begin final xid)) ≡ Running (inside final xid [] (behind lsn s))
begin_taken s lsn final xid = simp spools

item_taken : (s : Subscribed) (lsn final xid : ℕ) (held : List LabelledItem) (i : Item) → nat_lt s.limit (costs held + cost i) ≡ false
    → taking.take clock (inside final xid held s) (data_at lsn (alone i))
    ≡ Running (inside final xid (held ++ (xid, i) ∷ []) (behind lsn s))
item_taken s lsn final xid held i room = simp (spools, same_xid xid, room)

pub commit_taken : (s : Subscribed) (lsn xid end : ℕ) (held : List LabelledItem) (changes : List Change) (tables : Tables)
    → nat_lt s.position end ≡ true → described_from (λ oid. map.get s.relations oid) (items_of held) ≡ Ok changes
    → fold_changes s.tables changes ≡ Ok tables
    → taking.take clock (inside lsn xid held s) (data_at end (commit lsn end)) ≡ Running (behind end (stored end tables held (outside s)))
commit_taken s lsn xid end held changes tables passes described folds =
    simp (spools, same_xid xid, same_lsn lsn, passes, described, folds)

repeat_taken : (s : Subscribed) (lsn xid end : ℕ) (held : List LabelledItem) → nat_lt s.position end ≡ false
    → taking.take clock (inside lsn xid held s) (data_at end (commit lsn end)) ≡ Running (behind end (repeated held (outside s)))
repeat_taken s lsn xid end held repeats = simp (spools, same_xid xid, same_lsn lsn, repeats)

-- ---- a pair, and what follows

pub record Takes (s : Subscribed) (sent : List Sent) (s' : Subscribed) : Type 0 where
  pub all : taking.take_all clock s sent ≡ Running s'

none : {s : Subscribed} → Takes s [] s
none = record { all = refl }

more : {s s' s'' : Subscribed} {m : Sent} {sent : List Sent} → taking.take clock s m ≡ Running s' → Takes s' sent s''
    → Takes s (m ∷ sent) s''
more {sent = sent} takes rest = record { all = ap (λ o. then_run o (λ next. taking.take_all clock next sent)) takes ∙ rest.all }

-- a subscriber at this LSN with these tables; this is confirmed, and this received
abbrev pub at : Tables → ℕ → ℕ → ℕ → RelationCache → Subscribed
at tables position confirmed received relations =
    record (newly tables position Two 16777216 1000) { confirmed = confirmed; received = received; relations = relations }

described_10 : described_from (λ oid. map.get (map.empty {R = nat_cmp}) oid) (item.Relation t ∷ insert_t 49 97 ∷ [])
    ≡ Ok (surviving_changes tx_10.work)
described_10 = refl

pub described_11 : described_from (λ oid. map.get told_t oid) (insert_t 50 98 ∷ []) ≡ Ok (surviving_changes tx_11.work)
described_11 = simp lookups

described_12 : described_from (λ oid. map.get told_t oid) (update_t 49 99 ∷ []) ≡ Ok (surviving_changes tx_12.work)
described_12 = simp lookups

described_13 : described_from (λ oid. map.get told_t oid) (delete_t 50 ∷ []) ≡ Ok (surviving_changes tx_13.work)
described_13 = simp lookups

described_14 : described_from (λ oid. map.get (map.empty {R = nat_cmp}) oid) (item.Relation t ∷ insert_t 51 100 ∷ [])
    ≡ Ok (surviving_changes tx_14.work)
described_14 = refl

-- run one: the first transaction is stored, and of the next one an item is buffered
abbrev pub taken_1 : Subscribed
taken_1 = inside 400 11 ((11, insert_t 50 98) ∷ []) (at tables_304 304 304 384 told_t)

pub takes_1 : Takes (at map.empty 0 0 0 map.empty) handled_1 taken_1
unfolding item_spelling tuple_spelling
takes_1 = more (begin_taken (at map.empty 0 0 0 map.empty) 240 256 10)
    (more (item_taken (at map.empty 0 0 240 map.empty) 240 256 10 [] (item.Relation t) refl)
    (more (item_taken (at map.empty 0 0 240 map.empty) 240 256 10 ((10, item.Relation t) ∷ []) (insert_t 49 97) refl)
    (more (commit_taken (at map.empty 0 0 240 map.empty) 256 10 304 ((10, item.Relation t) ∷ (10, insert_t 49 97) ∷ [])
    (surviving_changes tx_10.work) tables_304 refl described_10 folds_10)
    (more (begin_taken (at tables_304 304 304 304 told_t) 384 400 11)
    (more (item_taken (at tables_304 304 304 384 told_t) 384 400 11 [] (insert_t 50 98) refl) none)))))

-- if all that was staged were stored
abbrev pub taken_1_all : Subscribed
taken_1_all = at tables_560 560 560 560 told_t

takes_group : Takes (at tables_304 304 304 304 told_t) (complete_11 ++ complete_12) taken_1_all
unfolding item_spelling tuple_spelling
takes_group = more (begin_taken (at tables_304 304 304 304 told_t) 384 400 11)
    (more (item_taken (at tables_304 304 304 384 told_t) 384 400 11 [] (insert_t 50 98) refl)
    (more (commit_taken (at tables_304 304 304 384 told_t) 400 11 448 ((11, insert_t 50 98) ∷ [])
    (surviving_changes tx_11.work) tables_448 refl described_11 folds_11)
    (more (begin_taken (at tables_448 448 448 448 told_t) 496 512 12)
    (more (item_taken (at tables_448 448 448 496 told_t) 496 512 12 [] (update_t 49 99) refl)
    (more (commit_taken (at tables_448 448 448 496 told_t) 512 12 560 ((12, update_t 49 99) ∷ [])
    (surviving_changes tx_12.work) tables_560 refl described_12 folds_12) none)))))

pub takes_1_all : Takes (at map.empty 0 0 0 map.empty) complete_1 taken_1_all
unfolding item_spelling tuple_spelling
takes_1_all = more (begin_taken (at map.empty 0 0 0 map.empty) 240 256 10)
    (more (item_taken (at map.empty 0 0 240 map.empty) 240 256 10 [] (item.Relation t) refl)
    (more (item_taken (at map.empty 0 0 240 map.empty) 240 256 10 ((10, item.Relation t) ∷ []) (insert_t 49 97) refl)
    (more (commit_taken (at map.empty 0 0 240 map.empty) 256 10 304 ((10, item.Relation t) ∷ (10, insert_t 49 97) ∷ [])
    (surviving_changes tx_10.work) tables_304 refl described_10 folds_10) takes_group)))

-- run two: the first transaction is a repeat, and a keepalive comes at the end
abbrev pub taken_2 : Subscribed
taken_2 = at tables_672 672 700 700 told_t

keepalive_taken : taking.take clock (at tables_672 672 672 672 told_t) (Keepalive 700 (pos 0) false) ≡ Running taken_2
keepalive_taken = refl

pub takes_2 : Takes (at tables_304 304 304 304 map.empty) complete_2 taken_2
unfolding item_spelling tuple_spelling
takes_2 = more (begin_taken (at tables_304 304 304 304 map.empty) 240 256 10)
    (more (item_taken (at tables_304 304 304 304 map.empty) 240 256 10 [] (item.Relation t) refl)
    (more (item_taken (at tables_304 304 304 304 map.empty) 240 256 10 ((10, item.Relation t) ∷ []) (insert_t 49 97) refl)
    (more (repeat_taken (at tables_304 304 304 304 map.empty) 256 10 304 ((10, item.Relation t) ∷ (10, insert_t 49 97) ∷ []) refl)
    (more (begin_taken (at tables_304 304 304 304 told_t) 384 400 11)
    (more (item_taken (at tables_304 304 304 384 told_t) 384 400 11 [] (insert_t 50 98) refl)
    (more (commit_taken (at tables_304 304 304 384 told_t) 400 11 448 ((11, insert_t 50 98) ∷ [])
    (surviving_changes tx_11.work) tables_448 refl described_11 folds_11)
    (more (begin_taken (at tables_448 448 448 448 told_t) 496 512 12)
    (more (item_taken (at tables_448 448 448 496 told_t) 496 512 12 [] (update_t 49 99) refl)
    (more (commit_taken (at tables_448 448 448 496 told_t) 512 12 560 ((12, update_t 49 99) ∷ [])
    (surviving_changes tx_12.work) tables_560 refl described_12 folds_12)
    (more (begin_taken (at tables_560 560 560 560 told_t) 608 624 13)
    (more (item_taken (at tables_560 560 560 608 told_t) 608 624 13 [] (delete_t 50) refl)
    (more (commit_taken (at tables_560 560 560 608 told_t) 624 13 672 ((13, delete_t 50) ∷ [])
    (surviving_changes tx_13.work) tables_672 refl described_13 folds_13)
    (more keepalive_taken none)))))))))))))

-- run three
abbrev pub taken_3 : Subscribed
taken_3 = at tables_816 816 816 816 told_t

pub takes_3 : Takes (at tables_672 672 672 672 map.empty) complete_3 taken_3
unfolding item_spelling tuple_spelling
takes_3 = more (begin_taken (at tables_672 672 672 672 map.empty) 752 768 14)
    (more (item_taken (at tables_672 672 672 752 map.empty) 752 768 14 [] (item.Relation t) refl)
    (more (item_taken (at tables_672 672 672 752 map.empty) 752 768 14 ((14, item.Relation t) ∷ []) (insert_t 51 100) refl)
    (more (commit_taken (at tables_672 672 672 752 map.empty) 768 14 816 ((14, item.Relation t) ∷ (14, insert_t 51 100) ∷ [])
    (surviving_changes tx_14.work) tables_816 refl described_14 folds_14) none)))
