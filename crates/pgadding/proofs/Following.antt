-- Which of the remaining transactions a commit is, by its LSN.
use Rattle.std.proofs.Common.{◌≡◌, ◌≤◌, ◌<◌, ◌++◌, ℕ, List, [], ◌∷◌, map, refl, sym, ap, subst, ◌∙◌}
use Rattle.std.proofs.Common.{arith}
use Rattle.std.specs.List.{AllByRecursion}
use Rattle.pglogical.specs.declared.message.RelationDef.{RelationDef}
use Rattle.pglogical.specs.declared.message.Item.{Item}
use Rattle.pgsub_core.specs.Server.Work.{IsWork, surviving_changes}
use Rattle.pgsub_core.specs.Server.History.{Transaction, ChangesRows}
use Rattle.pgsub_core.specs.Server.Stream.{CommitOrKeepalive, Committed, KeepaliveEnd, Completed}
use Rattle.pgsub_core.specs.Server.Stream.{WholeCommit, StreamedCommit}
use Rattle.pgsub_core.specs.Server.Delivers.{CommitsFollow, ChangeNothing, IsCommitOf}
use Rattle.pgsub_core.proofs.Changes.{none_changed}
use Rattle.pgadding.specs.LeftOut.{transaction_without}
use Rattle.pgadding.proofs.LeftItems.{other_changes}
use Rattle.pgadding.proofs.LeftWork.{surviving-without}
use Rattle.pgadding.proofs.Places.{lsn_of, FirstFrom, HasFirst}

-- what is known of a transaction that the snapshot sees
pub record IsSeen (point : ℕ) (t : Transaction) : Type 0 where
  pub begins : t.lsn < point
  pub ends : t.end < point
  pub work : IsWork t.work

abbrev pub AreSeen : ℕ → List Transaction → Type 0
AreSeen point ts = AllByRecursion (IsSeen point) ts

abbrev pub AreUnseen : ℕ → List Transaction → Type 0
AreUnseen point ts = AllByRecursion (λ (t : Transaction). point ≤ t.lsn) ts

pub all_left : {X : Type 0} (P : X → Type 0) (xs ys : List X) → AllByRecursion P (xs ++ ys) → AllByRecursion P xs
all_left P [] ys h = tt
all_left P (x ∷ xs) ys h = (h.0, all_left P xs ys h.1)

pub all_right : {X : Type 0} (P : X → Type 0) (xs ys : List X) → AllByRecursion P (xs ++ ys) → AllByRecursion P ys
all_right P [] ys h = h
all_right P (x ∷ xs) ys h = all_right P xs ys h.1

pub all_both : {X : Type 0} (P : X → Type 0) (xs ys : List X) → AllByRecursion P xs → AllByRecursion P ys → AllByRecursion P (xs ++ ys)
all_both P [] ys a b = b
all_both P (x ∷ xs) ys a b = (a.0, all_both P xs ys a.1 b)

-- a transaction that isn't seen stands behind all that are
pub record Unseen (below above left_out : List Transaction) (t : Transaction) (later : List Transaction) : Type 0 where
  pub more : List Transaction
  pub out : left_out ≡ below ++ more
  pub rest : above ≡ more ++ t ∷ later

pub unseen : (point : ℕ) (below above left_out : List Transaction) (t : Transaction) (later : List Transaction) → AreSeen point below
    → point ≤ t.lsn
    → below ++ above ≡ left_out ++ t ∷ later → Unseen below above left_out t later
unseen point [] above left_out t later seen le e = record { more = left_out; out = refl; rest = e }
unseen point (b ∷ below) above [] t later seen le e =
    let is : b ≡ t = cc in absurd (let early : t.lsn < point = subst (λ (x : Transaction). x.lsn < point) is seen.0.begins in omega arith)
unseen point (b ∷ below) above (x ∷ left_out) t later seen le e =
    let is : b ≡ x = cc in
    let tail : below ++ above ≡ left_out ++ t ∷ later = cc in
    let it = unseen point below above left_out t later seen.1 le tail in
    record { more = it.more; out = ap (λ rest. x ∷ rest) it.out ∙ ap (λ first. first ∷ (below ++ it.more)) (sym is); rest = it.rest }

-- and one that is seen stands among them
pub record Seen (below above left_out : List Transaction) (t : Transaction) (later : List Transaction) : Type 0 where
  pub more : List Transaction
  pub all : below ≡ left_out ++ t ∷ more
  pub rest : later ≡ more ++ above

late_first : (point : ℕ) (left_out : List Transaction) (t : Transaction) (later : List Transaction)
    → AreUnseen point (left_out ++ t ∷ later) → point ≤ t.lsn
late_first point left_out t later h = (all_right _ left_out (t ∷ later) h).0

pub seen_among : (point : ℕ) (below above left_out : List Transaction) (t : Transaction) (later : List Transaction) → AreUnseen point above
    → t.lsn < point
    → below ++ above ≡ left_out ++ t ∷ later → Seen below above left_out t later
seen_among point [] above left_out t later unseen lt e =
    absurd (let le : point ≤ t.lsn = late_first point left_out t later (subst (AreUnseen point) e unseen) in omega arith)
seen_among point (b ∷ below) above [] t later unseen lt e =
    let is : b ≡ t = cc in
    let tail : below ++ above ≡ later = cc in
    record { more = below; all = ap (λ first. first ∷ below) is; rest = sym tail }
seen_among point (b ∷ below) above (x ∷ left_out) t later unseen lt e =
    let is : b ≡ x = cc in
    let tail : below ++ above ≡ left_out ++ t ∷ later = cc in
    let it = seen_among point below above left_out t later unseen lt tail in
    record { more = it.more; all = ap (λ first. first ∷ below) is ∙ ap (λ rest. x ∷ rest) it.all; rest = it.rest }

pub commit_lsn : (t : Transaction) (c : Completed) (surviving : List Item) → IsCommitOf t c surviving → lsn_of c ≡ t.lsn
commit_lsn t (WholeCommit xid lsn end time items) surviving h = h.1
commit_lsn t (StreamedCommit xid lsn end time streamed) surviving h = h.1

at_least : (from a b : ℕ) → from ≤ a → a ≡ b → from ≤ b
at_least from a b le e = omega arith

-- Where the first commit isn't seen, what is seen and hasn't come changes nothing.
pub nothing_seen : (point : ℕ) (below above : List Transaction) (earlier : List RelationDef) (ms : List CommitOrKeepalive)
    → AreSeen point below → HasFirst point ms
    → CommitsFollow earlier (below ++ above) ms → ChangeNothing below
nothing_seen point below above earlier [] seen first h = absurd first
nothing_seen point below above earlier (KeepaliveEnd end quiet ∷ ms) seen first h = nothing_seen point below above earlier ms seen first h.1
nothing_seen point below above earlier (Committed c ∷ ms) seen first h =
    let it = unseen point below above h.0 h.1 h.2 seen (at_least point (lsn_of c) h.1.lsn first (commit_lsn h.1 c h.3 h.6)) h.4 in
    all_left (λ (t : Transaction). surviving_changes t.work ≡ []) below it.more (subst ChangeNothing it.out h.5)

-- and the commits follow without that
pub without_seen : (point : ℕ) (below above : List Transaction) (earlier : List RelationDef) (ms : List CommitOrKeepalive)
    → AreSeen point below → FirstFrom point ms
    → CommitsFollow earlier (below ++ above) ms → CommitsFollow earlier above ms
without_seen point below above earlier [] seen first h = tt
without_seen point below above earlier (KeepaliveEnd end quiet ∷ ms) seen first h =
    (all_right (λ (t : Transaction). ChangesRows t → end < t.end) below above h.0, without_seen point below above earlier ms seen first h.1)
without_seen point below above earlier (Committed c ∷ ms) seen first h =
    let it = unseen point below above h.0 h.1 h.2 seen (at_least point (lsn_of c) h.1.lsn first (commit_lsn h.1 c h.3 h.6)) h.4 in (
      it.more,
      h.1,
      h.2,
      h.3,
      it.rest,
      all_right (λ (t : Transaction). surviving_changes t.work ≡ []) below it.more (subst ChangeNothing it.out h.5),
      h.6,
      h.7,
      h.8,
    )

-- what ends before a keepalive's end changes nothing
pub nothing_told : (point end : ℕ) (below : List Transaction) → AreSeen point below → point ≤ end
    → AllByRecursion (λ (t : Transaction). ChangesRows t → end < t.end) below → ChangeNothing below
nothing_told point end [] seen le h = tt
nothing_told point end (t ∷ below) seen le h = (
  none_changed (surviving_changes t.work) (end < t.end) h.0 (λ late. let early : t.end < point = seen.0.ends in omega arith),
  nothing_told point end below seen.1 le h.1,
)

-- ---- transactions without a table

abbrev pub all_without : ℕ → List Transaction → List Transaction
all_without oid ts = map (transaction_without oid) ts

pub nothing_without : (oid : ℕ) (t : Transaction) → IsWork t.work → surviving_changes t.work ≡ []
    → surviving_changes (transaction_without oid t).work ≡ []
nothing_without oid t is none = surviving-without oid t.work is ∙ ap (other_changes oid) none

pub nothing_all : (point oid : ℕ) (ts : List Transaction) → AreSeen point ts → ChangeNothing ts → ChangeNothing (all_without oid ts)
nothing_all point oid [] seen h = tt
nothing_all point oid (t ∷ ts) seen h = (nothing_without oid t seen.0.work h.0, nothing_all point oid ts seen.1 h.1)

pub told_all : (point oid end : ℕ) (ts : List Transaction) → AreSeen point ts
    → AllByRecursion (λ (t : Transaction). ChangesRows t → end < t.end) ts
    → AllByRecursion (λ (t : Transaction). ChangesRows t → end < t.end) (all_without oid ts)
told_all point oid end [] seen h = tt
told_all point oid end (t ∷ ts) seen h =
    ((λ changes. h.0 (λ none. changes (nothing_without oid t seen.0.work none))), told_all point oid end ts seen.1 h.1)
