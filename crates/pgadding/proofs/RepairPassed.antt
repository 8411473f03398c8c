-- What is passed on with a repair stands in order, and its commits follow in the history with it.
use Rattle.std.proofs.Common.{◌≡◌, ◌<◌, ◌++◌, ℕ, List, [], ◌∷◌, true, false, cond, nat_le, Option}
use Rattle.std.proofs.Common.{Some, None, ℤ, refl, sym, ap, subst, ◌∙◌, arith, append_assoc}
use Rattle.std.proofs.Common.{append-nil}
use Rattle.std.specs.List.{AllByRecursion}
use Rattle.pglogical.specs.declared.message.RelationDef.{RelationDef}
use Rattle.pglogical.specs.declared.message.Item.{Item}
use Rattle.pglogical.specs.declared.message.Message.{Message}
use Rattle.pglogical.specs.declared.message.Message.TheVariants as message
use Rattle.pgsub_core.specs.Server.History.{Transaction, ChangesRows}
use Rattle.pgsub_core.specs.Server.Described.{relations_after}
use Rattle.pgsub_core.specs.Server.Stream.{Sent, Data, Keepalive, CommitOrKeepalive, Committed}
use Rattle.pgsub_core.specs.Server.Stream.{WholeCommit, messages_in, commits_and_keepalives}
use Rattle.pgsub_core.specs.Server.Stream.{pair_items, pair_commit}
use Rattle.pgsub_core.specs.Server.Delivers.{CommitsFollow, ChangeNothing}
use Rattle.pgadding.specs.Addition.{sent_at}
use Rattle.pgadding.specs.Passing.{is_behind, place_of, place_after}
use Rattle.pgadding.specs.Repair.{Repair, IsRepair, repair_lsn, repair_end, repair_items}
use Rattle.pgadding.specs.Repair.{repair_sent, repair_transaction}
use Rattle.pgadding.specs.Repairing.{kept, repairing}
use Rattle.pgadding.proofs.Ordered.{InOrder}
use Rattle.pgadding.proofs.Places.{At, commit_comes}
use Rattle.pgadding.proofs.Following.{IsSeen, AreSeen, AreUnseen, all_left, all_right, all_both}
use Rattle.pgadding.proofs.Following.{seen_among, nothing_seen, nothing_told}
use Rattle.pgadding.proofs.Passed.{PlaceSeen, not_behind, is_there}
use Rattle.pgadding.proofs.Fronts.{IsFront, items_order, first_order}
use Rattle.pgadding.proofs.RepairCommit.{repair-commits, repair_described}

-- ---- order

repair_order : (r : Repair) → InOrder None (messages_in (repair_sent r))
repair_order r = (
  tt,
  items_order (repair_lsn r) (repair_lsn r) (repair_items r)
      (sent_at (repair_lsn r) (message.Commit (repair_lsn r) (repair_end r) r.clock) ∷ []) (refl, tt),
)

-- the point is between transactions
repair_outside : (r : Repair) (place : Option ℕ) (m : Sent) → is_behind r.point place m ≡ true → InOrder place (messages_in (m ∷ []))
    → InOrder place (messages_in (repair_sent r))
repair_outside r None m is h = repair_order r
repair_outside r (Some l) (Keepalive end clock reply) is h = absurd (cc)
repair_outside r (Some l) (Data start end clock (message.Begin lsn time xid)) is h = absurd h.0
repair_outside r (Some l) (Data start end clock (message.Commit lsn done time)) is h = absurd (cc)
repair_outside r (Some l) (Data start end clock (message.Origin lsn name)) is h = absurd (cc)
repair_outside r (Some l) (Data start end clock (message.TypeName xid type_oid namespace name)) is h = absurd (cc)
repair_outside r (Some l) (Data start end clock (message.Logical xid transactional lsn prefix content)) is h = absurd (cc)
repair_outside r (Some l) (Data start end clock (message.Item xid item)) is h = absurd (cc)
repair_outside r (Some l) (Data start end clock (message.StreamStart xid first)) is h = absurd (cc)
repair_outside r (Some l) (Data start end clock message.StreamStop) is h = absurd (cc)
repair_outside r (Some l) (Data start end clock (message.StreamCommit xid lsn done time)) is h = absurd (cc)
repair_outside r (Some l) (Data start end clock (message.StreamAbort xid label)) is h = absurd (cc)

kept_order : (point : ℕ) (place : Option ℕ) (m : Sent) (more : List Sent) → InOrder place (messages_in (m ∷ []))
    → InOrder (place_of m place) (messages_in more) → InOrder place (messages_in (kept point place m ++ more))
kept_order point place (Data start end clock m) more h rest = (h.0, rest)
kept_order point None (Keepalive end clock reply) more h rest = rest
kept_order point (Some l) (Keepalive end clock reply) more h rest =
    elim (nat_le point end) as (λ b. InOrder (Some l) (messages_in (cond b [] (Keepalive end clock reply ∷ []) ++ more))) [
      | true ↦ rest
      | false ↦ rest
    ]

pub repairing_order : (r : Repair) (place : Option ℕ) (sent : List Sent) → InOrder place (messages_in sent)
    → InOrder place (messages_in (repairing r place sent))
repairing_order r place [] h = tt
repairing_order r place (m ∷ sent) h =
    let parts = first_order place m sent h in
    elim (is_behind r.point place m) as (λ b. is_behind r.point place m ≡ b
    → InOrder place (messages_in (cond b (repair_sent r) (kept r.point place m ++ repairing r (place_of m place) sent)))) [
      | true ↦ λ is. repair_outside r place m is parts.0
      | false ↦ λ isnt. kept_order r.point place m (repairing r (place_of m place) sent) parts.0
          (repairing_order r (place_of m place) sent parts.1)
    ] refl

-- of a front it is a front
pub repairing_front : (r : Repair) (place : Option ℕ) (sent later : List Sent)
    → IsFront (repairing r place sent) (repairing r place (sent ++ later))
repairing_front r place [] later = record { more = repairing r place later; all = refl }
repairing_front r place (m ∷ sent) later =
    let rest = repairing_front r (place_of m place) sent later in
    let first = kept r.point place m in
    elim (is_behind r.point place m) as
    (λ b. IsFront (cond b (repair_sent r) (first ++ repairing r (place_of m place) sent))
    (cond b (repair_sent r) (first ++ repairing r (place_of m place) (sent ++ later)))) [
      | true ↦ record { more = []; all = sym (append-nil (repair_sent r)) }
      | false ↦ record {
        more = rest.more;
        all = ap (λ sent. first ++ sent) rest.all ∙ sym (append_assoc first (repairing r (place_of m place) sent) rest.more);
      }
    ]

-- ---- commits

-- the server's history is `below` and `above` from here on, and the copy's has the repair between
abbrev behind_repair : Repair → List Transaction → List Transaction → List Transaction
behind_repair r below above = below ++ repair_transaction r ∷ above

-- What holds before a message of the session, before the point.
pub record RepairReady (r : Repair) (above : List Transaction) (place : Option ℕ) (before : List Message) (earlier : List RelationDef)
    (below : List Transaction) (sent : List Sent) : Type 0 where
  pub order : InOrder place (messages_in sent)
  pub ends : place_after place sent ≡ None
  pub at : At place before
  pub here : PlaceSeen r.point place
  pub seen : AreSeen r.point below
  pub follow : CommitsFollow earlier (below ++ above) (commits_and_keepalives before sent)

-- at the point all that is seen has come, but for what changes nothing
repair_follows : (r : Repair) (below above : List Transaction) (before : List Message) (earlier : List RelationDef) → IsRepair r
    → ChangeNothing below
    → CommitsFollow earlier (behind_repair r below above) (commits_and_keepalives before (repair_sent r))
repair_follows r below above before earlier is nothing =
    subst (CommitsFollow earlier (behind_repair r below above)) (sym (repair-commits r before))
    (below, repair_transaction r, above, repair_items r, refl, nothing, (refl, refl, refl, refl, refl), repair_described r earlier is, tt)

commit_follows : (r : Repair) (above : List Transaction) → AreUnseen r.point above
    → (xid lsn end : ℕ) (time : ℤ) (items : List Item) (earlier : List RelationDef) (below : List Transaction)
    (ms passed : List CommitOrKeepalive)
    → AreSeen r.point below → lsn < r.point
    → CommitsFollow earlier (below ++ above) (Committed (WholeCommit xid lsn end time items) ∷ ms)
    → ((more : List Transaction) → AreSeen r.point more → CommitsFollow (relations_after earlier items) (more ++ above) ms
    → CommitsFollow (relations_after earlier items) (behind_repair r more above) passed)
    → CommitsFollow earlier (behind_repair r below above) (Committed (WholeCommit xid lsn end time items) ∷ passed)
commit_follows r above unseen xid lsn end time items earlier below ms passed seen early h then =
    let out = h.0 in
    let t = h.1 in
    let at : lsn ≡ t.lsn = h.6.1 in
    let before_point : t.lsn < r.point = omega arith in
    let it = seen_among r.point below above out t h.2 unseen before_point h.4 in
    let each : AreSeen r.point (out ++ t ∷ it.more) = subst (AreSeen r.point) it.all seen in
    let rest : AreSeen r.point (t ∷ it.more) = all_right (IsSeen r.point) out (t ∷ it.more) each in
    let behind = repair_transaction r ∷ above in
    let later : CommitsFollow (relations_after earlier items) (it.more ++ above) ms =
    subst (λ its. CommitsFollow (relations_after earlier its) (it.more ++ above) ms) h.6.4
    (subst (λ ts. CommitsFollow (relations_after earlier h.3) ts ms) it.rest h.8) in (
      out,
      t,
      behind_repair r it.more above,
      h.3,
      ap (λ ts. ts ++ behind) it.all ∙ append_assoc out (t ∷ it.more) behind,
      h.5,
      h.6,
      h.7,
      subst (λ its. CommitsFollow (relations_after earlier its) (behind_repair r it.more above) passed) (sym h.6.4)
          (then it.more rest.1 later),
    )

told : (r : Repair) (above below : List Transaction) (end : ℕ) → end < r.point
    → AllByRecursion (λ (t : Transaction). ChangesRows t → end < t.end) (below ++ above)
    → AllByRecursion (λ (t : Transaction). ChangesRows t → end < t.end) (behind_repair r below above)
told r above below end lt h =
    all_both (λ (t : Transaction). ChangesRows t → end < t.end) below (repair_transaction r ∷ above)
    (all_left (λ (t : Transaction). ChangesRows t → end < t.end) below above h)
    ((λ _. lt), all_right (λ (t : Transaction). ChangesRows t → end < t.end) below above h)

pub repair_passed : (r : Repair) (above : List Transaction) → IsRepair r → AreUnseen r.point above
    → (sent : List Sent) (place : Option ℕ) (before : List Message) (earlier : List RelationDef) (below : List Transaction)
    → RepairReady r above place before earlier below sent
    → CommitsFollow earlier (behind_repair r below above) (commits_and_keepalives before (repairing r place sent))
repair_passed r above is unseen [] place before earlier below h = tt
repair_passed r above is unseen (Keepalive end clock reply ∷ sent) None before earlier below h =
    let m : Sent = Keepalive end clock reply in
    elim (nat_le r.point end) as
    (λ b. nat_le r.point end ≡ b
    → CommitsFollow earlier (behind_repair r below above)
    (commits_and_keepalives before (cond b (repair_sent r) (m ∷ repairing r None sent)))) [
      | true ↦ λ e. repair_follows r below above before earlier is
          (nothing_told r.point end below h.seen (is_there r.point end e)
          (all_left (λ (t : Transaction). ChangesRows t → end < t.end) below above h.follow.0))
      | false ↦ λ e. (
        told r above below end (not_behind r.point end e) h.follow.0,
        repair_passed r above is unseen sent None before earlier below
            (record { order = h.order; ends = h.ends; at = h.at; here = tt; seen = h.seen; follow = h.follow.1 }),
      )
    ] refl
repair_passed r above is unseen (Keepalive end clock reply ∷ sent) (Some l) before earlier below h =
    let m : Sent = Keepalive end clock reply in
    let rest : CommitsFollow earlier (behind_repair r below above) (commits_and_keepalives before (repairing r (Some l) sent)) =
    repair_passed r above is unseen sent (Some l) before earlier below
    (record { order = h.order; ends = h.ends; at = h.at; here = h.here; seen = h.seen; follow = h.follow.1 }) in
    elim (nat_le r.point end) as
    (λ b. nat_le r.point end ≡ b
    → CommitsFollow earlier (behind_repair r below above)
    (commits_and_keepalives before (cond b [] (m ∷ []) ++ repairing r (Some l) sent))) [
      | true ↦ λ e. rest
      | false ↦ λ e. (told r above below end (not_behind r.point end e) h.follow.0, rest)
    ] refl
repair_passed r above is unseen (Data start end clock (message.Begin lsn time xid) ∷ sent) None before earlier below h =
    let m : Sent = Data start end clock (message.Begin lsn time xid) in
    let begun = message.Begin lsn time xid ∷ before in
    elim (nat_le r.point lsn) as
    (λ b. nat_le r.point lsn ≡ b
    → CommitsFollow earlier (behind_repair r below above)
    (commits_and_keepalives before (cond b (repair_sent r) (m ∷ repairing r (Some lsn) sent)))) [
      | true ↦ λ e.
          let comes = commit_comes r.point lsn begun sent (is_there r.point lsn e) (xid, refl) h.order.1 h.ends in
          repair_follows r below above before earlier is
          (nothing_seen r.point below above earlier (commits_and_keepalives begun sent) h.seen comes h.follow)
      | false ↦ λ e. repair_passed r above is unseen sent (Some lsn) begun earlier below
          (record { order = h.order.1; ends = h.ends; at = (xid, refl); here = not_behind r.point lsn e; seen = h.seen; follow = h.follow })
    ] refl
repair_passed r above is unseen (Data start end clock (message.Logical xid transactional lsn prefix content) ∷ sent) None before earlier
    below h =
    repair_passed r above is unseen sent None (message.Logical xid transactional lsn prefix content ∷ before) earlier below
    (record { order = h.order.1; ends = h.ends; at = h.at; here = tt; seen = h.seen; follow = h.follow })
repair_passed r above is unseen (Data start end clock (message.Commit lsn done time) ∷ sent) None before earlier below h = absurd h.order.0
repair_passed r above is unseen (Data start end clock (message.Origin lsn name) ∷ sent) None before earlier below h = absurd h.order.0
repair_passed r above is unseen (Data start end clock (message.TypeName xid oid namespace name) ∷ sent) None before earlier below h =
    absurd h.order.0
repair_passed r above is unseen (Data start end clock (message.Item xid item) ∷ sent) None before earlier below h = absurd h.order.0
repair_passed r above is unseen (Data start end clock (message.StreamStart xid first) ∷ sent) None before earlier below h = absurd h.order.0
repair_passed r above is unseen (Data start end clock message.StreamStop ∷ sent) None before earlier below h = absurd h.order.0
repair_passed r above is unseen (Data start end clock (message.StreamCommit xid lsn done time) ∷ sent) None before earlier below h =
    absurd h.order.0
repair_passed r above is unseen (Data start end clock (message.StreamAbort xid label) ∷ sent) None before earlier below h = absurd h.order.0
repair_passed r above is unseen (Data start end clock (message.Commit lsn done time) ∷ sent) (Some l) before earlier below h =
    let closed = message.Commit lsn done time in
    let items = pair_items before in
    let ms = commits_and_keepalives (closed ∷ before) sent in
    let passed = commits_and_keepalives (closed ∷ before) (repairing r None sent) in
    let same : lsn ≡ l = h.order.0 in
    let here : l < r.point = h.here in
    let early : lsn < r.point = omega arith in
    let came : CommitsFollow earlier (below ++ above) (Committed (WholeCommit h.at.0 lsn done time items) ∷ ms) =
    subst (λ (p : Option ℕ). CommitsFollow earlier (below ++ above) (pair_commit p lsn done time items ++ ms)) h.at.1 h.follow in
    let goes : CommitsFollow earlier (behind_repair r below above) (Committed (WholeCommit h.at.0 lsn done time items) ∷ passed) =
    commit_follows r above unseen h.at.0 lsn done time items earlier below ms passed h.seen early came (λ more seen follow.
    repair_passed r above is unseen sent None (closed ∷ before) (relations_after earlier items) more
    (record { order = h.order.1; ends = h.ends; at = refl; here = tt; seen = seen; follow = follow })) in
    subst (λ (p : Option ℕ). CommitsFollow earlier (behind_repair r below above) (pair_commit p lsn done time items ++ passed))
    (sym h.at.1) goes
repair_passed r above is unseen (Data start end clock (message.Item xid item) ∷ sent) (Some l) before earlier below h =
    repair_passed r above is unseen sent (Some l) (message.Item xid item ∷ before) earlier below
    (record { order = h.order.1; ends = h.ends; at = h.at; here = h.here; seen = h.seen; follow = h.follow })
repair_passed r above is unseen (Data start end clock (message.Origin lsn name) ∷ sent) (Some l) before earlier below h =
    repair_passed r above is unseen sent (Some l) (message.Origin lsn name ∷ before) earlier below
    (record { order = h.order.1; ends = h.ends; at = h.at; here = h.here; seen = h.seen; follow = h.follow })
repair_passed r above is unseen (Data start end clock (message.TypeName xid oid namespace name) ∷ sent) (Some l) before earlier below h =
    repair_passed r above is unseen sent (Some l) (message.TypeName xid oid namespace name ∷ before) earlier below
    (record { order = h.order.1; ends = h.ends; at = h.at; here = h.here; seen = h.seen; follow = h.follow })
repair_passed r above is unseen (Data start end clock (message.Logical xid transactional lsn prefix content) ∷ sent) (Some l) before earlier
    below h =
    repair_passed r above is unseen sent (Some l) (message.Logical xid transactional lsn prefix content ∷ before) earlier below
    (record { order = h.order.1; ends = h.ends; at = h.at; here = h.here; seen = h.seen; follow = h.follow })
repair_passed r above is unseen (Data start end clock (message.Begin lsn time xid) ∷ sent) (Some l) before earlier below h =
    absurd h.order.0
repair_passed r above is unseen (Data start end clock (message.StreamStart xid first) ∷ sent) (Some l) before earlier below h =
    absurd h.order.0
repair_passed r above is unseen (Data start end clock message.StreamStop ∷ sent) (Some l) before earlier below h = absurd h.order.0
repair_passed r above is unseen (Data start end clock (message.StreamCommit xid lsn done time) ∷ sent) (Some l) before earlier below h =
    absurd h.order.0
repair_passed r above is unseen (Data start end clock (message.StreamAbort xid label) ∷ sent) (Some l) before earlier below h =
    absurd h.order.0
