-- The laws.
use Rattle.std.proofs.Common.{◌≡◌, ◌<◌, ◌≤◌, ◌++◌, ℕ, List, [], true, false, cond, nat_le, None}
use Rattle.std.proofs.Common.{refl, sym, subst, ◌∙◌, arith}
use Rattle.std.proofs.lemmas.Bool.Decides.{leb_tells}
use Rattle.std.specs.List.{AllByRecursion}
use Rattle.pgorder.specs.declared.Version.{Version}
use Rattle.pgsub_core.specs.Server.History.{Transaction, ended_after}
use Rattle.pgsub_core.specs.Server.Stream.{Sent, messages_in, commits_and_keepalives}
use Rattle.pgsub_core.specs.Server.Delivers.{Delivers, CommitsFollow}
use Rattle.pgsub_core.proofs.Fronts.{delivers_front}
use Rattle.pgadding.specs.Addition.{Addition}
use Rattle.pgadding.specs.Passing.{passing}
use Rattle.pgadding.specs.Around.{IsAround, IsWholeSession, KeepsDefinition, with_rows}
use Rattle.pgadding.specs.Laws.{WithRowsIsHistory, PassedOnIsDelivered, PassedOnIsWhole}
use Rattle.pgadding.proofs.Ordered.{InOrder, in_order, shaped}
use Rattle.pgadding.proofs.Histories.{with_rows_history, all_seen, seen_after, after-server}
use Rattle.pgadding.proofs.Histories.{after-copy, after-stored}
use Rattle.pgadding.proofs.Passed.{Ready, passed_follow}
use Rattle.pgadding.proofs.Fronts.{passing_order, passing_front}
use Rattle.pgadding.proofs.Whole.{order_whole, passing_place, passing_tells}

pub is_history : WithRowsIsHistory
is_history = with_rows_history

-- a session that ends between transactions, and starts before the point
whole_passed : (v : Version) (a : Addition) (before below above : List Transaction) (s : ℕ) (sent : List Sent)
    → IsAround a.point before below above → AllByRecursion (λ (t : Transaction). t.end ≤ s) before
    → IsWholeSession v (before ++ (below ++ above)) s sent → s < a.point → KeepsDefinition a sent
    → Delivers v (with_rows a before below above) s (passing a None sent)
whole_passed v a before below above s sent is stored session lt keeps =
    let shape = session.delivered.shaped in
    let order : InOrder None (messages_in sent) =
    in_order v shape.pieces (messages_in sent) shape.rest shape.follow session.whole shape.front in
    let ready : Ready a above None [] [] [] (ended_after s below) sent = record {
      order = order;
      whole = session.whole;
      ends = session.ends;
      read = session.read;
      at = refl;
      pair = refl;
      items = refl;
      block = refl;
      here = tt;
      seen = seen_after a.point s below (all_seen a.point before below above is);
      keeps = keeps;
      follow = subst (λ ts. CommitsFollow [] ts (commits_and_keepalives [] sent)) (after-server a.point s before below above is lt stored)
          session.delivered.commits;
    } in
    record {
      shaped = shaped v (messages_in (passing a None sent)) (passing_order a None sent order);
      commits = subst (λ ts. CommitsFollow [] ts (commits_and_keepalives [] (passing a None sent)))
          (sym (after-copy a s before below above is lt stored))
          (passed_follow a above is.unseen sent None [] [] [] (ended_after s below) ready);
    }

-- a session that starts at the point or behind it
stored_passed : (v : Version) (a : Addition) (before below above : List Transaction) (s : ℕ) (sent : List Sent)
    → IsAround a.point before below above → a.point ≤ s
    → Delivers v (before ++ (below ++ above)) s sent → Delivers v (with_rows a before below above) s sent
stored_passed v a before below above s sent is le delivered = record {
  shaped = delivered.shaped;
  commits = subst (λ ts. CommitsFollow [] ts (commits_and_keepalives [] sent)) (after-stored a s before below above le is.seen)
      delivered.commits;
}

pub passed_delivered : PassedOnIsDelivered
passed_delivered v a before below above s sent later is stored session keeps =
    elim (nat_le a.point s) as
    (λ b. nat_le a.point s ≡ b → Delivers v (with_rows a before below above) s (cond b sent (passing a None sent))) [
      | true ↦ λ e. stored_passed v a before below above s sent is (grind (arith, leb_tells))
          (delivers_front v (before ++ (below ++ above)) s sent later session.delivered)
      | false ↦ λ e.
          let lt : s < a.point = grind (arith, leb_tells) in
          let front = passing_front a None sent later in
          delivers_front v (with_rows a before below above) s (passing a None sent) front.more
          (subst (Delivers v (with_rows a before below above) s) front.all
          (whole_passed v a before below above s (sent ++ later) is stored session lt (keeps lt)))
    ] refl

pub passed_whole : PassedOnIsWhole
passed_whole v a before below above s sent is stored session keeps =
    let shape = session.delivered.shaped in
    let order : InOrder None (messages_in sent) =
    in_order v shape.pieces (messages_in sent) shape.rest shape.follow session.whole shape.front in
    elim (nat_le a.point s) as
    (λ b. nat_le a.point s ≡ b → IsWholeSession v (with_rows a before below above) s (cond b sent (passing a None sent))) [
      | true ↦ λ e. record {
        delivered = stored_passed v a before below above s sent is (grind (arith, leb_tells)) session.delivered;
        whole = session.whole;
        ends = session.ends;
        read = session.read;
      }
      | false ↦ λ e.
          let lt : s < a.point = grind (arith, leb_tells) in
          record {
            delivered = whole_passed v a before below above s sent is stored session lt (keeps lt);
            whole = order_whole None (messages_in (passing a None sent)) (passing_order a None sent order);
            ends = passing_place a None sent ∙ session.ends;
            read = passing_tells a None sent session.read;
          }
    ] refl
