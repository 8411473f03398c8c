-- What is heard well is sent of some history.
use Rattle.std.proofs.Common.{◌≡◌, ◌<◌, ◌≤◌, inl, inr, ℕ, ℤ}
use Rattle.std.proofs.Common.{List, [], ◌∷◌, ◌++◌, Bool, true, false, cond}
use Rattle.std.proofs.Common.{nat_lt, Result, Ok, Err, refl, sym, ap, subst, ◌∙◌, arith}
use Rattle.std.specs.List.{AllByRecursion}
use Rattle.std.specs.Prelude.{is_ok}
use Rattle.std.proofs.lemmas.Bool.Decides.{nat_tests}
use Rattle.pglogical.specs.declared.message.RelationDef.{RelationDef}
use Rattle.pglogical.specs.declared.message.Message.{Message}
use Rattle.pgorder.specs.declared.Version.{Version}
use Rattle.pgorder.specs.OpenXids.{is_open, none_open, is_open-none_open}
use Rattle.pgorder.specs.Steps.{Context, Outside, InPair, InBlock}
use Rattle.pgorder.proofs.ShapeLaws.{shape_is_what_is_taken}
use Rattle.pgsub_core.specs.Server.Described.{relations_after, described}
use Rattle.pgsub_core.specs.Server.History.{Transaction, IsHistoryFrom, ChangesRows, ended_after}
use Rattle.pgsub_core.specs.Server.Stream.{Sent, Data, Keepalive, messages_in, pair_items}
use Rattle.pgsub_core.specs.Server.Stream.{commits_and_keepalives}
use Rattle.pgsub_core.specs.Server.Delivers.{CommitsFollow}
use Rattle.pgwatch.specs.Known.{OidSet}
use Rattle.pgwatch.specs.declared.fault.Breach.{Breach}
use Rattle.pgwatch.specs.declared.facts.Facts.{Facts}
use Rattle.pgwatch.specs.declared.watch.Watch.{Watch}
use Rattle.pgwatch.specs.Hearing.{hear, at_start, keepalive_noted}
use Rattle.pgwatch.specs.Hearing as hearing
use Rattle.pgwatched.specs.Watched.{Framed, heard_of, sent_of, then_hear, hear_all}
use Rattle.pgwatched.specs.Laws.{WellMayBeSent}
use Rattle.pgwatched.proofs.Describing.{IsPair, knows_none}
use Rattle.pgwatched.proofs.Steps.{IsAt, WatchIsAt, IsQuiet, IsCommit}
use Rattle.pgwatched.proofs.Kept.{WatchKeeps, kept}
use Rattle.pgwatched.proofs.Messages.{step}
use Rattle.pgwatched.proofs.Orders.{runs}

abbrev pub EndAfter : ℕ → List Transaction → Type 0
EndAfter p ts = AllByRecursion (λ (t : Transaction). p < t.end) ts

abbrev pub ChangesEndAfter : ℕ → List Transaction → Type 0
ChangesEndAfter p ts = AllByRecursion (λ (t : Transaction). ChangesRows t → p < t.end) ts

-- ---- a keepalive

pub record IsTold (f g : Facts) (end : ℕ) : Type 0 where
  pub start : g.start ≡ f.start
  pub last : g.last_end ≡ f.last_end
  pub missing : g.missing ≡ f.missing
  pub changes : g.changes ≡ f.changes
  pub more : f.told ≤ g.told
  pub enough : end ≤ g.told
  pub least : (p : ℕ) → f.told < p → end < p → g.told < p

pub told : (f : Facts) (n end : ℕ) → IsTold f (keepalive_noted f n end) end
told f n end =
    elim (nat_lt f.told end) as
    (λ b. nat_lt f.told end ≡ b → IsTold f (cond b (record f { told = end; told_at = n }) f) end) [
      | true ↦ λ is. record {
        start = refl;
        last = refl;
        missing = refl;
        changes = refl;
        more = grind (arith, nat_tests);
        enough = omega arith;
        least = λ p old new. new;
      }
      | false ↦ λ is. record {
        start = refl;
        last = refl;
        missing = refl;
        changes = refl;
        more = omega arith;
        enough = grind (arith, nat_tests);
        least = λ p old new. old;
      }
    ] refl

pub same_place : (c : Context) (known : OidSet) (f g : Facts) (before : List Message) (earlier : List RelationDef)
    → g.missing ≡ f.missing → g.changes ≡ f.changes → IsAt c known f before earlier → IsAt c known g before earlier
same_place Outside known f g before earlier missing changes place = place
same_place (InPair lsn xid) known f g before earlier missing changes place = (
  place.0,
  place.1,
  subst (λ o. IsPair o g.changes (described earlier (pair_items before))) (sym missing)
      (subst (λ b. IsPair f.missing b (described earlier (pair_items before))) (sym changes) place.2),
)
same_place (InBlock xid) known f g before earlier missing changes place = place

-- ---- transactions

fewer : (p q : ℕ) (ts : List Transaction) → p ≤ q → ChangesEndAfter q ts → ChangesEndAfter p ts
fewer p q [] le h = tt
fewer p q (t ∷ ts) le h = ((λ changes. let lt : q < t.end = h.0 changes in omega arith), fewer p q ts le h.1)

-- what is known, and what is kept of streamed transactions
pub record Stands (w : Watch) (before : List Message) (earlier : List RelationDef) : Type 0 where
  pub place : WatchIsAt w before earlier
  pub kept : WatchKeeps w before

-- one message more
pub one_kept : (w v : Watch) (n : ℕ) (before : List Message) (m : Message) → WatchKeeps w before → hear w (hearing.Message n m) ≡ Ok v
    → WatchKeeps v (m ∷ before)
one_kept w v n before m k e = kept w.order.version n before v w w.order.state.context w.order.state.open_xids m k e

-- the transactions that may follow what is known
pub record IsSentAt (f : Facts) (before : List Message) (earlier : List RelationDef) (sent : List Sent) : Type 0 where
  pub ts : List Transaction
  pub history : IsHistoryFrom f.last_end ts
  pub after : EndAfter f.start ts
  pub above : ChangesEndAfter f.told ts
  pub follow : CommitsFollow earlier ts (commits_and_keepalives before sent)

module _ (fs : List Framed) (u : Watch)
    (rest : (w : Watch) (before : List Message) (earlier : List RelationDef) → Stands w before earlier → hear_all w fs ≡ Ok u
    → IsSentAt w.facts before earlier (sent_of fs)) (w : Watch) (before : List Message) (earlier : List RelationDef) (n : ℕ) where
  keepalive_sent : (end : ℕ) (clock : ℤ) (reply : Bool) → Stands w before earlier
      → hear_all (record w { facts = keepalive_noted w.facts n end }) fs ≡ Ok u
      → IsSentAt w.facts before earlier (Keepalive end clock reply ∷ sent_of fs)
  keepalive_sent end clock reply place e =
      let g = keepalive_noted w.facts n end in
      let t = told w.facts n end in
      let s = rest (record w { facts = g }) before earlier
      (record {
        place = same_place w.order.state.context w.known w.facts g before earlier t.missing t.changes place.place;
        kept = place.kept;
      }) e in
      record {
        ts = s.ts;
        history = subst (λ from. IsHistoryFrom from s.ts) t.last s.history;
        after = subst (λ p. EndAfter p s.ts) t.start s.after;
        above = fewer w.facts.told g.told s.ts t.more s.above;
        follow = (fewer end g.told s.ts t.enough s.above, s.follow);
      }

  quiet_sent : (start end : ℕ) (clock : ℤ) (m : Message) (v : Watch) → IsQuiet w.facts v before earlier m → WatchKeeps v (m ∷ before)
      → hear_all v fs ≡ Ok u → IsSentAt w.facts before earlier (Data start end clock m ∷ sent_of fs)
  quiet_sent start end clock m v quiet kept e =
      let s = rest v (m ∷ before) earlier (record { place = quiet.goes; kept = kept }) e in
      record {
        ts = s.ts;
        history = subst (λ from. IsHistoryFrom from s.ts) quiet.last s.history;
        after = subst (λ p. EndAfter p s.ts) quiet.start s.after;
        above = subst (λ p. ChangesEndAfter p s.ts) quiet.told s.above;
        follow = subst (λ ms. CommitsFollow earlier s.ts (ms ++ commits_and_keepalives (m ∷ before) (sent_of fs))) (sym quiet.none)
            s.follow;
      }

  commit_sent : (start end : ℕ) (clock : ℤ) (m : Message) (v : Watch) → IsCommit w.facts v before earlier m → WatchKeeps v (m ∷ before)
      → hear_all v fs ≡ Ok u → IsSentAt w.facts before earlier (Data start end clock m ∷ sent_of fs)
  commit_sent start end clock m v c kept e =
      let s = rest v (m ∷ before) (relations_after earlier c.items) (record { place = c.goes; kept = kept }) e in
      let made = c.some in
      let t : Transaction = record { xid = c.xid; work = made.0; lsn = c.lsn; end = c.end; time = c.time } in
      record {
        ts = t ∷ s.ts;
        history = (c.behind, c.ends, made.1, made.2, subst (λ from. IsHistoryFrom from s.ts) c.last s.history);
        after = (c.after, subst (λ p. EndAfter p s.ts) c.start s.after);
        above = ((λ changes. c.above (λ none. changes (made.3 ∙ none))), subst (λ p. ChangesEndAfter p s.ts) c.told s.above);
        follow = subst (λ ms. CommitsFollow earlier (t ∷ s.ts) (ms ++ commits_and_keepalives (m ∷ before) (sent_of fs))) (sym c.one)
            ([], t, s.ts, c.items, refl, tt, made.4, c.described ∙ ap Ok (sym made.3), s.follow);
      }

  message_sent : (start end : ℕ) (clock : ℤ) (m : Message) (r : Result Watch Breach) → hear w (hearing.Message n m) ≡ r
      → Stands w before earlier → then_hear r (λ new. hear_all new fs) ≡ Ok u
      → IsSentAt w.facts before earlier (Data start end clock m ∷ sent_of fs)
  message_sent start end clock m (Err b) is place e = absurd (cc)
  message_sent start end clock m (Ok v) is place e =
      let kept = one_kept w v n before m place.kept is in
      elim (step w.order.version w.known w.limit w.held w.streams w.facts w.ended n before earlier v w.order.state.context
      w.order.state.open_xids m place.place place.kept is) [
        | inl quiet ↦ quiet_sent start end clock m v quiet kept e
        | inr commit ↦ commit_sent start end clock m v commit kept e
      ]

  one_sent : (s : Sent) → Stands w before earlier → then_hear (hear w (heard_of n s)) (λ new. hear_all new fs) ≡ Ok u
      → IsSentAt w.facts before earlier (s ∷ sent_of fs)
  one_sent (Data start end clock m) place e = message_sent start end clock m (hear w (hearing.Message n m)) refl place e
  one_sent (Keepalive end clock reply) place e = keepalive_sent end clock reply place e

sent : (fs : List Framed) (u w : Watch) (before : List Message) (earlier : List RelationDef) → Stands w before earlier
    → hear_all w fs ≡ Ok u → IsSentAt w.facts before earlier (sent_of fs)
sent [] u w before earlier place e = record { ts = []; history = tt; after = tt; above = tt; follow = tt }
sent (f ∷ fs) u w before earlier place e = one_sent fs u (sent fs u) w before earlier f.at f.sent place e

all_ended : (p : ℕ) (ts : List Transaction) → EndAfter p ts → ended_after p ts ≡ ts
all_ended p [] h = refl
all_ended p (t ∷ ts) h =
    elim (nat_lt p t.end) as (λ b. nat_lt p t.end ≡ b → cond b (t ∷ ended_after p ts) (ended_after p ts) ≡ t ∷ ts) [
      | true ↦ λ is. ap (λ rest. t ∷ rest) (all_ended p ts h.1)
      | false ↦ λ is. absurd (let lt : p < t.end = h.0 in grind (arith, nat_tests))
    ] refl

pub stands_at_start : (v : Version) (start limit : ℕ) → Stands (at_start v start limit) [] []
stands_at_start v start limit = record {
  place = (refl, knows_none);
  kept = record {
    keeps = record { of_open = λ x is. absurd (let no : is_open x none_open ≡ false = is_open-none_open x in cc); of_others = λ x e. refl };
    block = refl;
    in_it = tt;
  };
}

pub well_may_be_sent : WellMayBeSent
well_may_be_sent v start limit fs w decoded e =
    let s = sent fs w (at_start v start limit) [] [] (stands_at_start v start limit) e in
    let ms = messages_in (sent_of fs) in (
      s.ts,
      s.history,
      record {
        shaped = (shape_is_what_is_taken v ms).1 (decoded, ap is_ok (runs fs (at_start v start limit) w e).1);
        commits = subst (λ ts. CommitsFollow [] ts (commits_and_keepalives [] (sent_of fs))) (sym (all_ended start s.ts s.after)) s.follow;
      },
    )
