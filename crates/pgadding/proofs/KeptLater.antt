-- What is kept of a session are the changes of the transactions that the slot doesn't see.
use Rattle.std.proofs.Common.{◌≡◌, ◌≢◌, ◌<◌, ◌≤◌, ◌++◌, ℕ, List, [], ◌∷◌, true, false, cond, nat_le}
use Rattle.std.proofs.Common.{eqb, ◌||◌, map, filter, flat_map, Option, Some, None, Ok, refl, sym}
use Rattle.std.proofs.Common.{ap, ap₂, subst, ◌∙◌, arith, append_assoc}
use Rattle.std.proofs.lemmas.Bool.Decides.{nat_tests}
use Rattle.std.proofs.lemmas.Grind.{flat_map-append}
use Rattle.std.proofs.lemmas.List.Elements.{filter-append}
use Rattle.std.specs.List.{AllByRecursion}
use Rattle.pglogical.specs.Named.{named}
use Rattle.pglogical.specs.declared.message.RelationDef.{RelationDef}
use Rattle.pglogical.specs.declared.message.Item.{Item}
use Rattle.pglogical.specs.declared.message.Item.TheVariants.{Relation, Insert, Update, Delete}
use Rattle.pglogical.specs.declared.message.Item.TheVariants.{Truncate}
use Rattle.pglogical.specs.declared.message.Message.{Message}
use Rattle.pglogical.specs.declared.message.Message.TheVariants as message
use Rattle.pgapply.specs.declared.op.Op.{Op}
use Rattle.pgapply.specs.declared.op.Op.TheVariants as op
use Rattle.pgapply.specs.Apply.{Change}
use Rattle.pgsub_core.specs.Server.Work.{surviving_changes, changes_of, is_among}
use Rattle.pgsub_core.specs.Server.History.{Transaction, ChangesRows, all_changes, ended_after}
use Rattle.pgsub_core.specs.Server.Described.{last_of, relation_of, relations_after, described}
use Rattle.pgsub_core.specs.Server.Described.{definitions_of, described_from, found_behind}
use Rattle.pgsub_core.specs.Server.Stream.{Sent, Data, Keepalive, Committed, WholeCommit}
use Rattle.pgsub_core.specs.Server.Stream.{messages_in, commits_and_keepalives, pair_items}
use Rattle.pgsub_core.specs.Server.Stream.{pair_commit}
use Rattle.pgsub_core.specs.Server.Delivers.{CommitsFollow, ChangeNothing}
use Rattle.pgsub_core.proofs.Changes.{changes-append}
use Rattle.pgadding.specs.Addition.{OwnChange, Inserted, Updated, Deleted, Emptied, owned}
use Rattle.pgadding.specs.Passing.{place_after, before_rows, behind_rows}
use Rattle.pgadding.specs.Later.{own_changes, owns_of, kept_in, AreUnder, KeptUnder, KeptIsLater}
use Rattle.pgadding.proofs.LeftDescribed.{lookup_last, found, described_parts, relations-append}
use Rattle.pgadding.proofs.Ordered.{InOrder, in_order}
use Rattle.pgadding.proofs.Places.{At, open_items, commit_comes}
use Rattle.pgadding.proofs.Following.{AreSeen, AreUnseen, IsSeen, all_left, all_right, all_both}
use Rattle.pgadding.proofs.Following.{seen_among, unseen, nothing_seen, nothing_told}
use Rattle.pgadding.proofs.Histories.{all_seen, seen_after, after-server}
use Rattle.pgadding.proofs.Passed.{PlaceSeen, not_behind, is_there}
use Rattle.pgadding.proofs.Later.{owned_append}

-- ---- what an item does to the table

same_def : (a b : RelationDef) → ◌≡◌ {A = Option RelationDef} (Some a) (Some b) → a ≡ b
same_def a b e = cc

among_more : (o oid : ℕ) (oids : List ℕ) → is_among oids oid ≡ true → is_among (o ∷ oids) oid ≡ true
among_more o oid oids is = elim (eqb o oid) as (λ b. (b || is_among oids oid) ≡ true) [ true ↦ refl | false ↦ is ]

abbrev by_op : Op → List RelationDef → List Change
by_op what definitions = map (λ (d : RelationDef). record { definition = d; op = what }) definitions

abbrev times_op : RelationDef → Op → List ℕ → List Change
times_op def what oids = map (λ (o : ℕ). record { definition = def; op = what }) oids

-- of the definitions that are found those of the table are one
own_by : (def : RelationDef) (what : Op) (known : List RelationDef) (oids : List ℕ) (definitions : List RelationDef)
    → definitions_of (λ o. last_of o known) oids ≡ Ok definitions
    → (is_among oids def.oid ≡ true → last_of def.oid known ≡ Some def)
    → own_changes def.oid (by_op what definitions) ≡ times_op def what (filter (λ o. eqb o def.oid) oids)
own_by def what known [] definitions e under =
    let none : definitions ≡ [] = cc in ap (λ ds. own_changes def.oid (by_op what ds)) none
own_by def what known (o ∷ oids) definitions e under =
    let oid = def.oid in
    let it = found o (last_of o known) (definitions_of (λ x. last_of x known) oids) definitions e in
    let rest = own_by def what known oids it.more it.others (λ is. under (among_more o oid oids is)) in
    let same : it.def.oid ≡ o = lookup_last known o it.def it.is in
    let others = own_changes oid (by_op what it.more) in
    let more = times_op def what (filter (λ x. eqb x oid) oids) in
    ap (λ ds. own_changes oid (by_op what ds)) it.all
    ∙ ap (λ x. cond (eqb x oid) (record { definition = it.def; op = what } ∷ others) others) same
    ∙ elim (eqb o oid) as
    (λ b. eqb o oid ≡ b → cond b (record { definition = it.def; op = what } ∷ others) others
    ≡ times_op def what (cond b (o ∷ filter (λ x. eqb x oid) oids) (filter (λ x. eqb x oid) oids))) [
      | true ↦ λ yes.
          let at : o ≡ oid = grind (arith, nat_tests) in
          let here : is_among (o ∷ oids) oid ≡ true = ap (λ b. b || is_among oids oid) yes in
          let is : it.def ≡ def =
          same_def it.def def (sym it.is ∙ ap (λ x. last_of x known) at ∙ under here) in
          ap₂ (λ d cs. record { definition = d; op = what } ∷ cs) is rest
      | false ↦ λ isnt. rest
    ] refl

truncations : (def : RelationDef) (options : ℕ) (oids : List ℕ)
    → times_op def op.Truncate oids ≡ surviving_changes (owned def (map (λ o. Emptied options) oids))
truncations def options [] = refl
truncations def options (o ∷ oids) = ap (λ cs. record { definition = def; op = op.Truncate } ∷ cs) (truncations def options oids)

own_item_changes : (def : RelationDef) (known : List RelationDef) (i : Item) (definitions : List RelationDef)
    → definitions_of (λ o. last_of o known) (named i) ≡ Ok definitions
    → (is_among (named i) def.oid ≡ true → last_of def.oid known ≡ Some def)
    → own_changes def.oid (changes_of i definitions) ≡ surviving_changes (owned def (owns_of def.oid i))
own_item_changes def known (Relation d) definitions e under = refl
own_item_changes def known (Insert o row) definitions e under =
    own_by def (op.Insert row) known (o ∷ []) definitions e under
    ∙ elim (eqb o def.oid) as
    (λ b. times_op def (op.Insert row) (cond b (o ∷ []) []) ≡ surviving_changes (owned def (cond b (Inserted row ∷ []) [])))
    [ true ↦ refl | false ↦ refl ]
own_item_changes def known (Update o prior row) definitions e under =
    own_by def (op.Update prior row) known (o ∷ []) definitions e under
    ∙ elim (eqb o def.oid) as
    (λ b. times_op def (op.Update prior row) (cond b (o ∷ []) []) ≡ surviving_changes (owned def (cond b (Updated prior row ∷ []) [])))
    [ true ↦ refl | false ↦ refl ]
own_item_changes def known (Delete o kind row) definitions e under =
    own_by def (op.Delete kind row) known (o ∷ []) definitions e under
    ∙ elim (eqb o def.oid) as
    (λ b. times_op def (op.Delete kind row) (cond b (o ∷ []) []) ≡ surviving_changes (owned def (cond b (Deleted kind row ∷ []) [])))
    [ true ↦ refl | false ↦ refl ]
own_item_changes def known (Truncate options oids) definitions e under =
    own_by def op.Truncate known oids definitions e under ∙ truncations def options (filter (λ o. eqb o def.oid) oids)

behind_item : (known : List RelationDef) (i : Item) (items : List Item)
    → described_from (found_behind i (λ o. last_of o known)) items ≡ described (relation_of i known) items
behind_item known (Relation def) items = refl
behind_item known (Insert o row) items = refl
behind_item known (Update o prior row) items = refl
behind_item known (Delete o kind row) items = refl
behind_item known (Truncate options oids) items = refl

own-append : (oid : ℕ) (xs ys : List Change) → own_changes oid (xs ++ ys) ≡ own_changes oid xs ++ own_changes oid ys
own-append oid xs ys = filter-append (λ (c : Change). eqb c.definition.oid oid) xs ys

-- so do the items of a transaction
own_described : (def : RelationDef) (items : List Item) (known : List RelationDef) (changes : List Change)
    → described known items ≡ Ok changes → AreUnder def known items
    → own_changes def.oid changes ≡ surviving_changes (owned def (flat_map (owns_of def.oid) items))
own_described def [] known changes e under = let none : changes ≡ [] = cc in ap (own_changes def.oid) none
own_described def (i ∷ items) known changes e under =
    let oid = def.oid in
    let find : ℕ → Option RelationDef = λ o. last_of o known in
    let it = described_parts i (definitions_of find (named i)) (described_from (found_behind i find) items) changes e in
    let rest = own_described def items (relation_of i known) it.more (sym (behind_item known i items) ∙ it.others) under.1 in
    ap (own_changes oid) it.all ∙ own-append oid (changes_of i it.defs) it.more
    ∙ ap₂ (λ xs ys. xs ++ ys) (own_item_changes def known i it.defs it.is under.0) rest
    ∙ sym (owned_append def (owns_of oid i) (flat_map (owns_of oid) items))

under_push : (def : RelationDef) (known : List RelationDef) (items : List Item) (i : Item) → AreUnder def known items
    → AreUnder def (relations_after known items) (i ∷ [])
    → AreUnder def known (items ++ i ∷ [])
under_push def known [] i under last = last
under_push def known (first ∷ items) i under last = (under.0, under_push def (relation_of first known) items i under.1 last)

-- ---- what hasn't come

nothing_changed : (ts : List Transaction) → ChangeNothing ts → all_changes ts ≡ []
nothing_changed [] h = refl
nothing_changed (t ∷ ts) h = ap (λ cs. cs ++ all_changes ts) h.0 ∙ nothing_changed ts h.1

seen_later : (read point : ℕ) (ts : List Transaction) → read ≤ point → AreSeen read ts → AreSeen point ts
seen_later read point [] le h = tt
seen_later read point (t ∷ ts) le h =
    let begins : t.lsn < read = h.0.begins in
    let ends : t.end < read = h.0.ends in
    (record { begins = omega arith; ends = omega arith; work = h.0.work }, seen_later read point ts le h.1)

-- ---- a session, message by message

-- what is kept of the transaction that is under way
abbrev kept_open : ℕ → ℕ → Option ℕ → List Message → List OwnChange
kept_open read oid None before = []
kept_open read oid (Some l) before = cond (nat_le read l) (flat_map (owns_of oid) (pair_items before)) []

abbrev OpenUnder : ℕ → RelationDef → Option ℕ → List RelationDef → List Message → Type 0
OpenUnder read def None earlier before = Unit {0}
OpenUnder read def (Some l) earlier before = read ≤ l → AreUnder def earlier (pair_items before)

record Going (read point : ℕ) (def : RelationDef) (above : List Transaction) (place : Option ℕ) (before : List Message)
    (earlier : List RelationDef) (below between : List Transaction) (sent : List Sent) : Type 0 where
  pub order : InOrder place (messages_in sent)
  pub ends : place_after place sent ≡ None
  pub at : At place before
  pub here : PlaceSeen point place
  pub seen : AreSeen read below
  pub there : AreSeen point between
  pub unseen : AreUnseen read (between ++ above)
  pub comes : behind_rows point place sent ≢ []
  pub so_far : OpenUnder read def place earlier before
  pub under : KeptUnder read def place (relations_after earlier (open_items place before)) (before_rows point place sent)
  pub follow : CommitsFollow earlier (below ++ (between ++ above)) (commits_and_keepalives before sent)

abbrev Goal : ℕ → ℕ → RelationDef → Option ℕ → List Message → List Transaction → List Sent → Type 0
Goal read point def place before between sent =
    surviving_changes (owned def (kept_open read def.oid place before ++ kept_in read def.oid place (before_rows point place sent)))
    ≡ own_changes def.oid (all_changes between)

none_left : (oid : ℕ) (between : List Transaction) → ChangeNothing between → [] ≡ own_changes oid (all_changes between)
none_left oid between h = ap (own_changes oid) (sym (nothing_changed between h))

-- a commit that the slot sees
early_commit : (read l : ℕ) (def : RelationDef) (items : List Item) (rest : List OwnChange) → l < read
    → cond (nat_le read l) (flat_map (owns_of def.oid) items) [] ++ rest ≡ rest
early_commit read l def items rest lt =
    let isnt : nat_le read l ≡ false = grind (arith, nat_tests) in
    ap (λ b. cond b (flat_map (owns_of def.oid) items) [] ++ rest) isnt

-- and one that it doesn't see
late_commit : (read l : ℕ) (def : RelationDef) (items : List Item) (known : List RelationDef) (t : Transaction) (rest : List OwnChange)
    (out more : List Transaction) → read ≤ l
    → ChangeNothing out → described known items ≡ Ok (surviving_changes t.work) → AreUnder def known items
    → surviving_changes (owned def rest) ≡ own_changes def.oid (all_changes more)
    → surviving_changes (owned def (cond (nat_le read l) (flat_map (owns_of def.oid) items) [] ++ rest))
    ≡ own_changes def.oid (all_changes (out ++ t ∷ more))
late_commit read l def items known t rest out more le nothing is under then =
    let oid = def.oid in
    let yes : nat_le read l ≡ true = grind (arith, nat_tests) in
    let kept = flat_map (owns_of oid) items in
    ap (λ b. surviving_changes (owned def (cond b kept [] ++ rest))) yes ∙ owned_append def kept rest
    ∙ ap₂ (λ xs ys. xs ++ ys) (sym (own_described def items known (surviving_changes t.work) is under)) then
    ∙ sym (own-append oid (surviving_changes t.work) (all_changes more))
    ∙ ap (λ cs. own_changes oid (cs ++ (surviving_changes t.work ++ all_changes more))) (sym (nothing_changed out nothing))
    ∙ ap (own_changes oid) (sym (changes-append out (t ∷ more)))

kept_item : (read oid l : ℕ) (items : List Item) (i : Item) (rest : List OwnChange)
    → cond (nat_le read l) (flat_map (owns_of oid) (items ++ i ∷ [])) [] ++ rest
    ≡ cond (nat_le read l) (flat_map (owns_of oid) items) [] ++ (cond (nat_le read l) (flat_map (owns_of oid) (i ∷ [])) [] ++ rest)
kept_item read oid l items i rest =
    elim (nat_le read l) as
    (λ b. cond b (flat_map (owns_of oid) (items ++ i ∷ [])) [] ++ rest
    ≡ cond b (flat_map (owns_of oid) items) [] ++ (cond b (flat_map (owns_of oid) (i ∷ [])) [] ++ rest)) [
      | true ↦ ap (λ os. os ++ rest) (flat_map-append (owns_of oid) items (i ∷ []))
          ∙ append_assoc (flat_map (owns_of oid) items) (flat_map (owns_of oid) (i ∷ [])) rest
      | false ↦ refl
    ]

no_item : (read l : ℕ) (rest : List OwnChange) → rest ≡ cond {A = List OwnChange} (nat_le read l) [] [] ++ rest
no_item read l rest = elim (nat_le read l) as (λ b. rest ≡ cond {A = List OwnChange} b [] [] ++ rest) [ true ↦ refl | false ↦ refl ]

kept_follow : (read point : ℕ) (def : RelationDef) (above : List Transaction) → read ≤ point → AreUnseen point above
    → (sent : List Sent) (place : Option ℕ) (before : List Message) (earlier : List RelationDef) (below between : List Transaction)
    → Going read point def above place before earlier below between sent
    → Goal read point def place before between sent
kept_follow read point def above order unseen_above [] place before earlier below between g = absurd (g.comes refl)
kept_follow read point def above order unseen_above (Keepalive end clock reply ∷ sent) None before earlier below between g =
    let m : Sent = Keepalive end clock reply in
    let oid = def.oid in
    let rest : List Sent = before_rows point None sent in
    elim (nat_le point end) as (λ b. nat_le point end ≡ b
    → cond b (m ∷ sent) (behind_rows point None sent) ≢ []
    → KeptUnder read def None earlier (cond b [] (m ∷ rest))
    → surviving_changes (owned def (kept_in read oid None (cond b [] (m ∷ rest)))) ≡ own_changes oid (all_changes between)) [
      | true ↦ λ e comes under.
          let le = is_there point end e in
          let both : AreSeen point (below ++ between) =
          all_both (IsSeen point) below between (seen_later read point below order g.seen) g.there in
          let told = subst (AllByRecursion (λ (t : Transaction). ChangesRows t → end < t.end)) (sym (append_assoc below between above))
          g.follow.0 in
          none_left oid between (all_right (λ (t : Transaction). surviving_changes t.work ≡ []) below between
          (nothing_told point end (below ++ between) both le
          (all_left (λ (t : Transaction). ChangesRows t → end < t.end) (below ++ between) above told)))
      | false ↦ λ e comes under. kept_follow read point def above order unseen_above sent None before earlier below between (record {
        order = g.order;
        ends = g.ends;
        at = g.at;
        here = tt;
        seen = g.seen;
        there = g.there;
        unseen = g.unseen;
        comes = comes;
        so_far = tt;
        under = under;
        follow = g.follow.1;
      })
    ] refl g.comes g.under
kept_follow read point def above order unseen_above (Keepalive end clock reply ∷ sent) (Some l) before earlier below between g =
    let rest = kept_in read def.oid (Some l) (before_rows point (Some l) sent) in
    ap (λ os. surviving_changes (owned def (kept_open read def.oid (Some l) before ++ os))) (sym (no_item read l rest))
    ∙ kept_follow read point def above order unseen_above sent (Some l) before earlier below between (record {
      order = g.order;
      ends = g.ends;
      at = g.at;
      here = g.here;
      seen = g.seen;
      there = g.there;
      unseen = g.unseen;
      comes = g.comes;
      so_far = g.so_far;
      under = g.under.1;
      follow = g.follow.1;
    })
kept_follow read point def above order unseen_above (Data start end clock (message.Begin lsn time xid) ∷ sent) None before earlier below
    between g =
    let m : Sent = Data start end clock (message.Begin lsn time xid) in
    let oid = def.oid in
    let begun = message.Begin lsn time xid ∷ before in
    let rest : List Sent = before_rows point (Some lsn) sent in
    elim (nat_le point lsn) as (λ b. nat_le point lsn ≡ b
    → cond b (m ∷ sent) (behind_rows point (Some lsn) sent) ≢ []
    → KeptUnder read def None earlier (cond b [] (m ∷ rest))
    → surviving_changes (owned def (kept_in read oid None (cond b [] (m ∷ rest)))) ≡ own_changes oid (all_changes between)) [
      | true ↦ λ e comes under.
          let first = commit_comes point lsn begun sent (is_there point lsn e) (xid, refl) g.order.1 g.ends in
          let both : AreSeen point (below ++ between) =
          all_both (IsSeen point) below between (seen_later read point below order g.seen) g.there in
          let follow : CommitsFollow earlier ((below ++ between) ++ above) (commits_and_keepalives begun sent) =
          subst (λ ts. CommitsFollow earlier ts (commits_and_keepalives begun sent)) (sym (append_assoc below between above)) g.follow in
          none_left oid between (all_right (λ (t : Transaction). surviving_changes t.work ≡ []) below between
          (nothing_seen point (below ++ between) above earlier (commits_and_keepalives begun sent) both first follow))
      | false ↦ λ e comes under.
          ap (λ os. surviving_changes (owned def os)) (no_item read lsn (kept_in read oid (Some lsn) rest))
          ∙ kept_follow read point def above order unseen_above sent (Some lsn) begun earlier below between (record {
            order = g.order.1;
            ends = g.ends;
            at = (xid, refl);
            here = not_behind point lsn e;
            seen = g.seen;
            there = g.there;
            unseen = g.unseen;
            comes = comes;
            so_far = λ _. tt;
            under = under;
            follow = g.follow;
          })
    ] refl g.comes g.under
kept_follow read point def above order unseen_above
    (Data start end clock (message.Logical xid transactional lsn prefix content) ∷ sent) None before earlier below between g =
    kept_follow read point def above order unseen_above sent None (message.Logical xid transactional lsn prefix content ∷ before) earlier
    below between (record {
      order = g.order.1;
      ends = g.ends;
      at = g.at;
      here = tt;
      seen = g.seen;
      there = g.there;
      unseen = g.unseen;
      comes = g.comes;
      so_far = tt;
      under = g.under;
      follow = g.follow;
    })
kept_follow read point def above order unseen_above (Data start end clock (message.Commit lsn done time) ∷ sent) None before earlier below
    between g = absurd g.order.0
kept_follow read point def above order unseen_above (Data start end clock (message.Origin lsn name) ∷ sent) None before earlier below
    between g = absurd g.order.0
kept_follow read point def above order unseen_above (Data start end clock (message.TypeName xid oid namespace name) ∷ sent) None before
    earlier below between g = absurd g.order.0
kept_follow read point def above order unseen_above (Data start end clock (message.Item xid item) ∷ sent) None before earlier below
    between g = absurd g.order.0
kept_follow read point def above order unseen_above (Data start end clock (message.StreamStart xid first) ∷ sent) None before earlier below
    between g = absurd g.order.0
kept_follow read point def above order unseen_above (Data start end clock message.StreamStop ∷ sent) None before earlier below between g =
    absurd g.order.0
kept_follow read point def above order unseen_above (Data start end clock (message.StreamCommit xid lsn done time) ∷ sent) None before
    earlier below between g = absurd g.order.0
kept_follow read point def above order unseen_above (Data start end clock (message.StreamAbort xid label) ∷ sent) None before earlier
    below between g = absurd g.order.0
kept_follow read point def above order unseen_above (Data start end clock (message.Commit lsn done time) ∷ sent) (Some l) before earlier
    below between g =
    let oid = def.oid in
    let items = pair_items before in
    let closed = message.Commit lsn done time in
    let ms = commits_and_keepalives (closed ∷ before) sent in
    let rest : List Sent = before_rows point None sent in
    let kept = kept_in read oid None rest in
    let same : lsn ≡ l = g.order.0 in
    let here : l < point = g.here in
    let came : CommitsFollow earlier (below ++ (between ++ above)) (Committed (WholeCommit g.at.0 lsn done time items) ∷ ms) =
    subst (λ (p : Option ℕ). CommitsFollow earlier (below ++ (between ++ above)) (pair_commit p lsn done time items ++ ms)) g.at.1
    g.follow in
    let out = came.0 in
    let t = came.1 in
    let later = came.2 in
    let at : lsn ≡ t.lsn = came.6.1 in
    let its : described earlier items ≡ Ok (surviving_changes t.work) =
    subst (λ is. described earlier is ≡ Ok (surviving_changes t.work)) came.6.4 came.7 in
    let behind : CommitsFollow (relations_after earlier items) later ms =
    subst (λ is. CommitsFollow (relations_after earlier is) later ms) came.6.4 came.8 in
    ap (λ os. surviving_changes (owned def (kept_open read oid (Some l) before ++ os))) (sym (no_item read l kept))
    ∙ elim (nat_le read l) as (λ b. nat_le read l ≡ b
    → surviving_changes (owned def (cond (nat_le read l) (flat_map (owns_of oid) items) [] ++ kept))
    ≡ own_changes oid (all_changes between)) [
      | true ↦ λ e.
          let le : read ≤ l = is_there read l e in
          let it = unseen read below (between ++ above) out t later g.seen (omega arith) came.4 in
          let among = seen_among point between above it.more t later unseen_above (omega arith) it.rest in
          let each : AreSeen point (it.more ++ t ∷ among.more) = subst (AreSeen point) among.all g.there in
          let late : AreUnseen read (it.more ++ t ∷ later) = subst (AreUnseen read) it.rest g.unseen in
          let nothing : ChangeNothing it.more =
          all_right (λ (x : Transaction). surviving_changes x.work ≡ []) below it.more (subst ChangeNothing it.out came.5) in
          late_commit read l def items earlier t kept it.more among.more le nothing its (g.so_far le)
          (kept_follow read point def above order unseen_above sent None (closed ∷ before) (relations_after earlier items) [] among.more
          (record {
            order = g.order.1;
            ends = g.ends;
            at = refl;
            here = tt;
            seen = tt;
            there = (all_right (IsSeen point) it.more (t ∷ among.more) each).1;
            unseen = subst (AreUnseen read) among.rest (all_right (λ (x : Transaction). read ≤ x.lsn) it.more (t ∷ later) late).1;
            comes = g.comes;
            so_far = tt;
            under = g.under.1;
            follow = subst (λ ts. CommitsFollow (relations_after earlier items) ts ms) among.rest behind;
          }))
          ∙ ap (λ ts. own_changes oid (all_changes ts)) (sym among.all)
      | false ↦ λ e.
          let lt : l < read = not_behind read l e in
          let among = seen_among read below (between ++ above) out t later g.unseen (omega arith) came.4 in
          let each : AreSeen read (out ++ t ∷ among.more) = subst (AreSeen read) among.all g.seen in
          ap (λ os. surviving_changes (owned def os)) (early_commit read l def items kept lt)
          ∙ kept_follow read point def above order unseen_above sent None (closed ∷ before) (relations_after earlier items) among.more
          between (record {
            order = g.order.1;
            ends = g.ends;
            at = refl;
            here = tt;
            seen = (all_right (IsSeen read) out (t ∷ among.more) each).1;
            there = g.there;
            unseen = g.unseen;
            comes = g.comes;
            so_far = tt;
            under = g.under.1;
            follow = subst (λ ts. CommitsFollow (relations_after earlier items) ts ms) among.rest behind;
          })
    ] refl
kept_follow read point def above order unseen_above (Data start end clock (message.Item xid item) ∷ sent) (Some l) before earlier below
    between g =
    let oid = def.oid in
    let items = pair_items before in
    let kept = kept_in read oid (Some l) (before_rows point (Some l) sent) in
    ap (λ os. surviving_changes (owned def os)) (sym (kept_item read oid l items item kept))
    ∙ kept_follow read point def above order unseen_above sent (Some l) (message.Item xid item ∷ before) earlier below between (record {
      order = g.order.1;
      ends = g.ends;
      at = g.at;
      here = g.here;
      seen = g.seen;
      there = g.there;
      unseen = g.unseen;
      comes = g.comes;
      so_far = λ le. under_push def earlier items item (g.so_far le) (g.under.0 le);
      under = subst (λ known. KeptUnder read def (Some l) known (before_rows point (Some l) sent))
          (sym (relations-append items (item ∷ []) earlier)) g.under.1;
      follow = g.follow;
    })
kept_follow read point def above order unseen_above (Data start end clock (message.Origin lsn name) ∷ sent) (Some l) before
    earlier below between g =
    let kept = kept_in read def.oid (Some l) (before_rows point (Some l) sent) in
    ap (λ os. surviving_changes (owned def (kept_open read def.oid (Some l) before ++ os))) (sym (no_item read l kept))
    ∙ kept_follow read point def above order unseen_above sent (Some l) (message.Origin lsn name ∷ before) earlier below
    between (record {
      order = g.order.1;
      ends = g.ends;
      at = g.at;
      here = g.here;
      seen = g.seen;
      there = g.there;
      unseen = g.unseen;
      comes = g.comes;
      so_far = g.so_far;
      under = g.under.1;
      follow = g.follow;
    })
kept_follow read point def above order unseen_above (Data start end clock (message.TypeName xid oid namespace name) ∷ sent) (Some l) before
    earlier below between g =
    let kept = kept_in read def.oid (Some l) (before_rows point (Some l) sent) in
    ap (λ os. surviving_changes (owned def (kept_open read def.oid (Some l) before ++ os))) (sym (no_item read l kept))
    ∙ kept_follow read point def above order unseen_above sent (Some l) (message.TypeName xid oid namespace name ∷ before) earlier below
    between (record {
      order = g.order.1;
      ends = g.ends;
      at = g.at;
      here = g.here;
      seen = g.seen;
      there = g.there;
      unseen = g.unseen;
      comes = g.comes;
      so_far = g.so_far;
      under = g.under.1;
      follow = g.follow;
    })
kept_follow read point def above order unseen_above
    (Data start end clock (message.Logical xid transactional lsn prefix content) ∷ sent) (Some l) before earlier below between g =
    let kept = kept_in read def.oid (Some l) (before_rows point (Some l) sent) in
    ap (λ os. surviving_changes (owned def (kept_open read def.oid (Some l) before ++ os))) (sym (no_item read l kept))
    ∙ kept_follow read point def above order unseen_above sent (Some l)
    (message.Logical xid transactional lsn prefix content ∷ before) earlier below between (record {
      order = g.order.1;
      ends = g.ends;
      at = g.at;
      here = g.here;
      seen = g.seen;
      there = g.there;
      unseen = g.unseen;
      comes = g.comes;
      so_far = g.so_far;
      under = g.under.1;
      follow = g.follow;
    })
kept_follow read point def above order unseen_above (Data start end clock (message.Begin lsn time xid) ∷ sent) (Some l) before
    earlier below between g = absurd g.order.0
kept_follow read point def above order unseen_above (Data start end clock (message.StreamStart xid first) ∷ sent) (Some l) before
    earlier below between g = absurd g.order.0
kept_follow read point def above order unseen_above (Data start end clock message.StreamStop ∷ sent) (Some l) before
    earlier below between g = absurd g.order.0
kept_follow read point def above order unseen_above (Data start end clock (message.StreamCommit xid lsn done time) ∷ sent) (Some l) before
    earlier below between g = absurd g.order.0
kept_follow read point def above order unseen_above (Data start end clock (message.StreamAbort xid label) ∷ sent) (Some l) before
    earlier below between g = absurd g.order.0

pub kept_is_later : KeptIsLater
kept_is_later v def read point before below between above s sent order at_slot at_place lt stored session under comes =
    let shape = session.delivered.shaped in
    let in_place : InOrder None (messages_in sent) =
    in_order v shape.pieces (messages_in sent) shape.rest shape.follow session.whole shape.front in
    let there : AreSeen point between =
    all_right (IsSeen point) below between (all_seen point before (below ++ between) above at_place) in
    kept_follow read point def above order at_place.unseen sent None [] [] (ended_after s below) between (record {
      order = in_place;
      ends = session.ends;
      at = refl;
      here = tt;
      seen = seen_after read s below (all_seen read before below (between ++ above) at_slot);
      there = there;
      unseen = at_slot.unseen;
      comes = comes;
      so_far = tt;
      under = under;
      follow = subst (λ ts. CommitsFollow [] ts (commits_and_keepalives [] sent))
          (after-server read s before below (between ++ above) at_slot lt stored) session.delivered.commits;
    })
