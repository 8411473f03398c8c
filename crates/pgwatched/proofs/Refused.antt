-- What breaks a rule is sent of no history.
use Rattle.std.proofs.Common.{◌≡◌, ◌<◌, ◌≤◌, inl, inr, ℕ, ℤ, List, [], ◌∷◌, ◌++◌, Bool, true, false}
use Rattle.std.proofs.Common.{cond, nat_lt, Result, Ok, Err, refl}
use Rattle.std.proofs.Common.{sym, ap, subst, ◌∙◌, arith, append_assoc}
use Rattle.std.specs.List.{AllByRecursion}
use Rattle.std.specs.Prelude.{is_ok}
use Rattle.std.proofs.lemmas.Bool.Decides.{nat_tests}
use Rattle.pglogical.specs.declared.message.RelationDef.{RelationDef}
use Rattle.pglogical.specs.declared.message.Message.{Message}
use Rattle.pgorder.specs.declared.Version.{Version}
use Rattle.pgorder.specs.declared.fault.OrderFault.{OrderFault}
use Rattle.pgorder.specs.Steps.{initial_order, order_step}
use Rattle.pgorder.specs.Shape.{IsShaped}
use Rattle.pgorder.proofs.ShapeLaws.{shape_is_what_is_taken}
use Rattle.pgsub_core.specs.Server.Work.{xids_of, AllDiffer}
use Rattle.pgsub_core.specs.Server.Described.{relations_after}
use Rattle.pgsub_core.specs.Server.History.{Transaction, IsHistoryFrom, IsHistory, ChangesRows}
use Rattle.pgsub_core.specs.Server.History.{ended_by, ended_after}
use Rattle.pgsub_core.specs.Server.Stream.{Sent, Data, Keepalive, messages_in}
use Rattle.pgsub_core.specs.Server.Stream.{commits_and_keepalives, Committed}
use Rattle.pgsub_core.specs.Server.Delivers.{Delivers, CommitsFollow}
use Rattle.pgsub_core.proofs.Changes.{split-at}
use Rattle.pgsub_core.proofs.Fronts.{delivers_front}
use Rattle.pgwatch.specs.declared.fault.Breach.{Breach}
use Rattle.pgwatch.specs.declared.facts.Facts.{Facts}
use Rattle.pgwatch.specs.declared.watch.Watch.{Watch}
use Rattle.pgwatch.specs.Hearing.{hear, at_start, keepalive_noted}
use Rattle.pgwatch.specs.Hearing as hearing
use Rattle.pgwatched.specs.Watched.{Framed, heard_of, sent_of, then_hear, hear_all, IsOfRule}
use Rattle.pgwatched.specs.Laws.{BrokenIsNotSent}
use Rattle.pgwatched.proofs.Steps.{IsQuiet, IsCommit, IsRefusal}
use Rattle.pgwatched.proofs.Kept.{WatchKeeps}
use Rattle.pgwatched.proofs.Messages.{step, refusal}
use Rattle.pgwatched.proofs.Orders.{runs, pushed, messages-append}
use Rattle.pgwatched.proofs.Sent.{EndAfter, ChangesEndAfter, told, same_place, Stands, one_kept}
use Rattle.pgwatched.proofs.Sent.{stands_at_start}

-- ---- a transaction of a history

in_place : (from : ℕ) (xs : List Transaction) (t : Transaction) (later : List Transaction) → IsHistoryFrom from (xs ++ t ∷ later)
    → (from ≤ t.lsn) × (t.lsn < t.end) × AllDiffer (t.xid ∷ xids_of t.work) × IsHistoryFrom t.end later
in_place from [] t later h = (h.0, h.1, h.3, h.4)
in_place from (x ∷ xs) t later h =
    let rest = in_place x.end xs t later h.4 in
    let first : from ≤ x.lsn = h.0 in
    let ends : x.lsn < x.end = h.1 in
    let next : x.end ≤ t.lsn = rest.0 in
    (omega arith, rest.1, rest.2, rest.3)

all_at : (P : Transaction → Type 0) (xs : List Transaction) (t : Transaction) (later : List Transaction)
    → AllByRecursion P (xs ++ t ∷ later) → P t × AllByRecursion P later
all_at P [] t later h = h
all_at P (x ∷ xs) t later h = all_at P xs t later h.1

from_below : (from p : ℕ) (ts : List Transaction) → p ≤ from → IsHistoryFrom from ts → IsHistoryFrom p ts
from_below from p [] le h = tt
from_below from p (t ∷ ts) le h = ((let first : from ≤ t.lsn = h.0 in omega arith), h.1, h.2, h.3, h.4)

behind : (from : ℕ) (xs ys : List Transaction) → IsHistoryFrom from (xs ++ ys) → IsHistoryFrom 0 ys
behind from [] ys h = from_below from 0 ys (omega arith) h
behind from (x ∷ xs) ys h = behind x.end xs ys h.4

all_after : (p : ℕ) (ts : List Transaction) → EndAfter p (ended_after p ts)
all_after p [] = tt
all_after p (t ∷ ts) =
    elim (nat_lt p t.end) as (λ b. nat_lt p t.end ≡ b → EndAfter p (cond b (t ∷ ended_after p ts) (ended_after p ts))) [
      | true ↦ λ is. (grind (arith, nat_tests), all_after p ts)
      | false ↦ λ is. all_after p ts
    ] refl

none_told : (p : ℕ) (ts : List Transaction) → EndAfter p ts → ChangesEndAfter 0 ts
none_told p [] h = tt
none_told p (t ∷ ts) h = ((λ changes. let lt : p < t.end = h.0 in omega arith), none_told p ts h.1)

both_told : (f g end : ℕ) (ts : List Transaction) → ((p : ℕ) → f < p → end < p → g < p) → ChangesEndAfter f ts → ChangesEndAfter end ts
    → ChangesEndAfter g ts
both_told f g end [] least a b = tt
both_told f g end (t ∷ ts) least a b = ((λ changes. least t.end (a.0 changes) (b.0 changes)), both_told f g end ts least a.1 b.1)

-- ---- a commit that is refused

module _ (f : Facts) (earlier : List RelationDef) (remaining : List Transaction) where
  commit_refused : (m : Message) (before : List Message) (r : IsRefusal f before earlier m) → IsHistoryFrom f.last_end remaining
      → EndAfter f.start remaining → ChangesEndAfter f.told remaining → CommitsFollow earlier remaining (Committed r.completed ∷ []) → ⊥
  commit_refused m before r history after above h =
      let t = h.1 in
      let is = in_place f.last_end h.0 t h.2 (subst (IsHistoryFrom f.last_end) h.4 history) in
      let ends = (all_at (λ (t : Transaction). f.start < t.end) h.0 t h.2 (subst (EndAfter f.start) h.4 after)).0 in
      let tells = (all_at (λ (t : Transaction). ChangesRows t → f.told < t.end) h.0 t h.2 (subst (ChangesEndAfter f.told) h.4 above)).0 in
      r.none t h.3 is.2 h.6 is.0 is.1 ends tells h.7

-- ---- one message after the other

module _ (u : Watch) (n : ℕ) (m : Message) (b : Breach) (start end : ℕ) (clock : ℤ) where
  abbrev next : List Sent
  next = Data start end clock m ∷ []

  -- no transactions have what comes
  abbrev HasNone : Facts → List Message → List RelationDef → List Sent → Type 0
  HasNone f before earlier sent =
      (remaining : List Transaction) → IsHistoryFrom f.last_end remaining → EndAfter f.start remaining → ChangesEndAfter f.told remaining
      → CommitsFollow earlier remaining (commits_and_keepalives before (sent ++ next)) → ⊥

  last_refused : (w : Watch) (before : List Message) (earlier : List RelationDef) → Stands w before earlier
      → hear w (hearing.Message n m) ≡ Err b → IsOfRule b
      → ((fault : OrderFault) → order_step w.order.version w.order.state m ≡ Err fault → ⊥) → HasNone w.facts before earlier []
  last_refused w before earlier place broken rule ordered remaining history after above follow =
      elim (refusal w.order.version w.known w.limit w.held w.streams w.facts w.ended n before earlier b w.order.state.context
      w.order.state.open_xids m place.place place.kept broken rule) [
        | inl fault ↦ ordered fault.0 fault.1
        | inr r ↦ commit_refused w.facts earlier remaining m before r history after above
            (subst (λ ms. CommitsFollow earlier remaining (ms ++ [])) r.one follow)
      ]

  module _ (fs : List Framed)
      (rest : (w : Watch) (before : List Message) (earlier : List RelationDef) → Stands w before earlier → hear_all w fs ≡ Ok u
      → HasNone w.facts before earlier (sent_of fs)) (w : Watch) (before : List Message) (earlier : List RelationDef) (k : ℕ) where
    keepalive_refused : (e : ℕ) (c : ℤ) (reply : Bool) → Stands w before earlier
        → hear_all (record w { facts = keepalive_noted w.facts k e }) fs ≡ Ok u
        → HasNone w.facts before earlier (Keepalive e c reply ∷ sent_of fs)
    keepalive_refused e c reply place heard remaining history after above follow =
        let g = keepalive_noted w.facts k e in
        let t = told w.facts k e in
        rest (record w { facts = g }) before earlier
        (record {
          place = same_place w.order.state.context w.known w.facts g before earlier t.missing t.changes place.place;
          kept = place.kept;
        }) heard remaining
        (subst (λ from. IsHistoryFrom from remaining) (sym t.last) history) (subst (λ p. EndAfter p remaining) (sym t.start) after)
        (both_told w.facts.told g.told e remaining t.least above follow.0) follow.1

    quiet_refused : (s e : ℕ) (c : ℤ) (x : Message) (v : Watch) → IsQuiet w.facts v before earlier x → WatchKeeps v (x ∷ before)
        → hear_all v fs ≡ Ok u → HasNone w.facts before earlier (Data s e c x ∷ sent_of fs)
    quiet_refused s e c x v quiet kept heard remaining history after above follow =
        rest v (x ∷ before) earlier (record { place = quiet.goes; kept = kept }) heard remaining
        (subst (λ from. IsHistoryFrom from remaining) (sym quiet.last) history)
        (subst (λ p. EndAfter p remaining) (sym quiet.start) after) (subst (λ p. ChangesEndAfter p remaining) (sym quiet.told) above)
        (subst (λ ms. CommitsFollow earlier remaining (ms ++ commits_and_keepalives (x ∷ before) (sent_of fs ++ next))) quiet.none follow)

    commit_goes : (s e : ℕ) (c : ℤ) (x : Message) (v : Watch) → IsCommit w.facts v before earlier x → WatchKeeps v (x ∷ before)
        → hear_all v fs ≡ Ok u → HasNone w.facts before earlier (Data s e c x ∷ sent_of fs)
    commit_goes s e c x v commit kept heard remaining history after above follow =
        let rows = commits_and_keepalives (x ∷ before) (sent_of fs ++ next) in
        let h = subst (λ ms. CommitsFollow earlier remaining (ms ++ rows)) commit.one follow in
        let is = in_place w.facts.last_end h.0 h.1 h.2 (subst (IsHistoryFrom w.facts.last_end) h.4 history) in
        let ends = all_at (λ (t : Transaction). w.facts.start < t.end) h.0 h.1 h.2 (subst (EndAfter w.facts.start) h.4 after) in
        let tells = all_at (λ (t : Transaction). ChangesRows t → w.facts.told < t.end) h.0 h.1 h.2
        (subst (ChangesEndAfter w.facts.told) h.4 above) in
        let its = commit.only h.1 h.3 is.2 h.6 in
        rest v (x ∷ before) (relations_after earlier commit.items) (record { place = commit.goes; kept = kept }) heard h.2
        (subst (λ from. IsHistoryFrom from h.2) (sym its.1 ∙ sym commit.last) is.3)
        (subst (λ p. EndAfter p h.2) (sym commit.start) ends.1) (subst (λ p. ChangesEndAfter p h.2) (sym commit.told) tells.1)
        (subst (λ items. CommitsFollow (relations_after earlier items) h.2 rows) its.2 h.8)

    message_goes : (s e : ℕ) (c : ℤ) (x : Message) (r : Result Watch Breach) → hear w (hearing.Message k x) ≡ r
        → Stands w before earlier → then_hear r (λ new. hear_all new fs) ≡ Ok u
        → HasNone w.facts before earlier (Data s e c x ∷ sent_of fs)
    message_goes s e c x (Err why) is place heard = absurd (cc)
    message_goes s e c x (Ok v) is place heard =
        let kept = one_kept w v k before x place.kept is in
        elim (step w.order.version w.known w.limit w.held w.streams w.facts w.ended k before earlier v w.order.state.context
        w.order.state.open_xids x place.place place.kept is) [
          | inl quiet ↦ quiet_refused s e c x v quiet kept heard
          | inr commit ↦ commit_goes s e c x v commit kept heard
        ]

    one_goes : (s : Sent) → Stands w before earlier → then_hear (hear w (heard_of k s)) (λ new. hear_all new fs) ≡ Ok u
        → HasNone w.facts before earlier (s ∷ sent_of fs)
    one_goes (Data s e c x) place heard = message_goes s e c x (hear w (hearing.Message k x)) refl place heard
    one_goes (Keepalive e c reply) place heard = keepalive_refused e c reply place heard

  has_none : hear u (hearing.Message n m) ≡ Err b → IsOfRule b
      → ((fault : OrderFault) → order_step u.order.version u.order.state m ≡ Err fault → ⊥) → (fs : List Framed) (w : Watch)
      (before : List Message) (earlier : List RelationDef) → Stands w before earlier → hear_all w fs ≡ Ok u
      → HasNone w.facts before earlier (sent_of fs)
  has_none broken rule ordered [] w before earlier place heard =
      let same : w ≡ u = cc in
      last_refused w before earlier place (subst (λ (x : Watch). hear x (hearing.Message n m) ≡ Err b) (sym same) broken) rule
      (λ fault is. ordered fault (subst (λ (x : Watch). order_step x.order.version x.order.state m ≡ Err fault) same is))
  has_none broken rule ordered (f ∷ fs) w before earlier place heard =
      one_goes fs (has_none broken rule ordered fs) w before earlier f.at f.sent place heard

-- ---- the law

module _ (v : Version) (start limit : ℕ) (before : List Framed) (w : Watch) (b : Breach) where
  -- a message that comes out of order has no shape
  disordered : (m : Message) (fault : OrderFault) → hear_all (at_start v start limit) before ≡ Ok w
      → IsShaped v (messages_in (sent_of before) ++ m ∷ []) → order_step w.order.version w.order.state m ≡ Err fault → ⊥
  disordered m fault heard shaped is =
      let run = runs before (at_start v start limit) w heard in
      let ms = messages_in (sent_of before) in
      let refused = pushed v ms m initial_order w.order.state fault run.1
      (subst (λ x. order_step x w.order.state m ≡ Err fault) (sym run.0) is) in
      let taken = ((shape_is_what_is_taken v (ms ++ m ∷ [])).0 shaped).1 in
      differ (sym (ap is_ok refused) ∙ taken)
    where
      differ : false ≡ true → ⊥
      differ e = cc

  delivered_none : (n : ℕ) (s e : ℕ) (c : ℤ) (m : Message) → hear_all (at_start v start limit) before ≡ Ok w
      → hear w (hearing.Message n m) ≡ Err b → IsOfRule b → (history : List Transaction) → IsHistory history
      → Delivers v history start (sent_of before ++ Data s e c m ∷ []) → ⊥
  delivered_none n s e c m heard broken rule history is h =
      let next : List Sent = Data s e c m ∷ [] in
      let shaped = subst (IsShaped v) (messages-append (sent_of before) next) h.shaped in
      let remaining = ended_after start history in
      let after = all_after start history in
      has_none w n m b s e c broken rule (λ fault is. disordered m fault heard shaped is) before (at_start v start limit) [] []
      (stands_at_start v start limit) heard remaining
      (behind 0 (ended_by start history) remaining (subst IsHistory (sym (split-at 0 start history is)) is)) after
      (none_told start remaining after) h.commits

  one_none : (n : ℕ) (s : Sent) → hear_all (at_start v start limit) before ≡ Ok w
      → hear w (heard_of n s) ≡ Err b → IsOfRule b → (history : List Transaction) → IsHistory history
      → Delivers v history start (sent_of before ++ s ∷ []) → ⊥
  one_none n (Data s e c m) heard broken rule history is h = delivered_none n s e c m heard broken rule history is h
  one_none n (Keepalive e c reply) heard broken rule history is h = absurd (cc)

pub broken_is_not_sent : BrokenIsNotSent
broken_is_not_sent v start limit before next w b heard broken rule later some =
    one_none v start limit before w b next.at next.sent heard broken rule some.0 some.1
    (delivers_front v some.0 start (sent_of before ++ next.sent ∷ []) later
    (subst (Delivers v some.0 start) (sym (append_assoc (sent_of before) (next.sent ∷ []) later)) some.2))
