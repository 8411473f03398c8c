-- The commits of what is passed on follow in the history with the rows.
use Rattle.std.proofs.Common.{◌≡◌, ◌<◌, ◌≤◌, ◌++◌, ℕ, List, [], ◌∷◌, true, false, cond, nat_le}
use Rattle.std.proofs.Common.{Option, Some, None, Ok, refl, sym, ap, subst, ◌∙◌, arith}
use Rattle.std.proofs.Common.{ℤ, append_assoc}
use Rattle.std.proofs.lemmas.Bool.Decides.{leb_tells}
use Rattle.std.proofs.lemmas.List.{map-append}
use Rattle.std.specs.List.{AllByRecursion}
use Rattle.pglogical.specs.declared.message.RelationDef.{RelationDef}
use Rattle.pglogical.specs.declared.message.Item.{Item}
use Rattle.pglogical.specs.declared.message.Message.{Message}
use Rattle.pglogical.specs.declared.message.Message.TheVariants as message
use Rattle.pgsub_core.specs.Server.Work.{surviving_changes}
use Rattle.pgsub_core.specs.Server.History.{Transaction, ChangesRows}
use Rattle.pgsub_core.specs.Server.Described.{relations_after, described}
use Rattle.pgsub_core.specs.Server.Stream.{Sent, Data, Keepalive, CommitOrKeepalive, Committed}
use Rattle.pgsub_core.specs.Server.Stream.{WholeCommit, messages_in, commits_and_keepalives}
use Rattle.pgsub_core.specs.Server.Stream.{pair_of, pair_items, pair_commit, block_of}
use Rattle.pgsub_core.specs.Server.Delivers.{CommitsFollow}
use Rattle.pgadding.specs.LeftOut.{item_without, transaction_without}
use Rattle.pgadding.specs.Addition.{Addition, rows_sent, rows_transaction}
use Rattle.pgadding.specs.Passing.{place_after, passing, before_rows, behind_rows}
use Rattle.pgadding.specs.Around.{KeepalivesTell}
use Rattle.pgadding.proofs.LeftItems.{items_without}
use Rattle.pgadding.proofs.LeftWork.{surviving-without}
use Rattle.pgadding.proofs.LeftDescribed.{described-without, relations-without, relations-append}
use Rattle.pgadding.proofs.LeftDescribed.{without-push}
use Rattle.pgadding.proofs.Ordered.{InOrder, AreWhole}
use Rattle.pgadding.proofs.Places.{At, open_items, commit_comes, first_from, has_first}
use Rattle.pgadding.proofs.Following.{IsSeen, AreSeen, AreUnseen, all_left, all_right, all_both}
use Rattle.pgadding.proofs.Following.{seen_among, all_without, nothing_seen, nothing_all}
use Rattle.pgadding.proofs.Following.{nothing_told, told_all}
use Rattle.pgadding.proofs.RowsCommit.{pushed, pushed-commits, pushed-pair, pushed-block}
use Rattle.pgadding.proofs.RowsCommit.{pushed-items}
use Rattle.pgadding.proofs.Point.{KeepsBy, at_point}

abbrev pub PlaceSeen : ℕ → Option ℕ → Type 0
PlaceSeen point None = Unit {0}
PlaceSeen point (Some l) = l < point

abbrev history_behind : Addition → List Transaction → List Transaction → List Transaction
history_behind a below above = all_without a.definition.oid below ++ rows_transaction a ∷ above

-- What holds before a message of the session, before the point: `below` and `above` remain;
-- `before` and `other` are the messages that came and those of them that were passed on.
pub record Ready (a : Addition) (above : List Transaction) (place : Option ℕ) (before other : List Message) (earlier : List RelationDef)
    (below : List Transaction) (sent : List Sent) : Type 0 where
  pub order : InOrder place (messages_in sent)
  pub whole : AreWhole (messages_in sent)
  pub ends : place_after place sent ≡ None
  pub read : KeepalivesTell place sent
  pub at : At place before
  pub pair : pair_of other ≡ pair_of before
  pub items : open_items place other ≡ items_without a.definition.oid (open_items place before)
  pub block : block_of other ≡ block_of before
  pub here : PlaceSeen a.point place
  pub seen : AreSeen a.point below
  pub keeps : KeepsBy a (relations_after earlier (open_items place before)) (before_rows a.point place sent)
      (behind_rows a.point place sent)
  pub follow : CommitsFollow earlier (below ++ above) (commits_and_keepalives before sent)

-- ---- a commit before the point

commit_follows : (a : Addition) (above : List Transaction) → AreUnseen a.point above
    → (xid lsn end : ℕ) (time : ℤ) (items : List Item) (earlier : List RelationDef) (below : List Transaction)
    (ms passed : List CommitOrKeepalive)
    → AreSeen a.point below → lsn < a.point
    → CommitsFollow earlier (below ++ above) (Committed (WholeCommit xid lsn end time items) ∷ ms)
    → ((more : List Transaction) → AreSeen a.point more → CommitsFollow (relations_after earlier items) (more ++ above) ms
    → CommitsFollow (relations_after earlier items) (history_behind a more above) passed)
    → CommitsFollow earlier (history_behind a below above)
    (Committed (WholeCommit xid lsn end time (items_without a.definition.oid items)) ∷ passed)
commit_follows a above unseen xid lsn end time items earlier below ms passed seen early h then =
    let oid = a.definition.oid in
    let out = h.0 in
    let t = h.1 in
    let at : lsn ≡ t.lsn = h.6.1 in
    let before_point : t.lsn < a.point = omega arith in
    let it = seen_among a.point below above out t h.2 unseen before_point h.4 in
    let each : AreSeen a.point (out ++ t ∷ it.more) = subst (AreSeen a.point) it.all seen in
    let rest : AreSeen a.point (t ∷ it.more) = all_right (IsSeen a.point) out (t ∷ it.more) each in
    let behind = rows_transaction a ∷ above in
    let its : described earlier items ≡ Ok (surviving_changes t.work) =
    subst (λ its. described earlier its ≡ Ok (surviving_changes t.work)) h.6.4 h.7 in
    let later : CommitsFollow (relations_after earlier items) (it.more ++ above) ms =
    subst (λ its. CommitsFollow (relations_after earlier its) (it.more ++ above) ms) h.6.4
    (subst (λ ts. CommitsFollow (relations_after earlier h.3) ts ms) it.rest h.8) in (
      all_without oid out,
      transaction_without oid t,
      history_behind a it.more above,
      items_without oid items,
      ap (λ ts. all_without oid ts ++ behind) it.all ∙ ap (λ ts. ts ++ behind) (map-append (transaction_without oid) out (t ∷ it.more))
          ∙ append_assoc (all_without oid out) (all_without oid (t ∷ it.more)) behind,
      nothing_all a.point oid out (all_left (IsSeen a.point) out (t ∷ it.more) each) h.5,
      (h.6.0, h.6.1, h.6.2, h.6.3, refl),
      described-without oid earlier items (surviving_changes t.work) its
          ∙ ap (λ cs. Ok cs) (sym (surviving-without oid t.work rest.0.work)),
      subst (λ known. CommitsFollow known (history_behind a it.more above) passed) (sym (relations-without oid items earlier))
          (then it.more rest.1 later),
    )

-- ---- a keepalive before the point

told : (a : Addition) (above below : List Transaction) (end : ℕ) → AreSeen a.point below → end < a.point
    → AllByRecursion (λ (t : Transaction). ChangesRows t → end < t.end) (below ++ above)
    → AllByRecursion (λ (t : Transaction). ChangesRows t → end < t.end) (history_behind a below above)
told a above below end seen lt h =
    all_both (λ (t : Transaction). ChangesRows t → end < t.end) (all_without a.definition.oid below) (rows_transaction a ∷ above)
    (told_all a.point a.definition.oid end below seen (all_left (λ (t : Transaction). ChangesRows t → end < t.end) below above h))
    ((λ _. lt), all_right (λ (t : Transaction). ChangesRows t → end < t.end) below above h)

pub not_behind : (point x : ℕ) → nat_le point x ≡ false → x < point
not_behind point x e = grind (arith, leb_tells)

pub is_there : (point x : ℕ) → nat_le point x ≡ true → point ≤ x
is_there point x e = grind (arith, leb_tells)

-- ---- the session

pub passed_follow : (a : Addition) (above : List Transaction) → AreUnseen a.point above
    → (sent : List Sent) (place : Option ℕ) (before other : List Message) (earlier : List RelationDef) (below : List Transaction)
    → Ready a above place before other earlier below sent
    → CommitsFollow earlier (history_behind a below above) (commits_and_keepalives other (passing a place sent))
passed_follow a above unseen [] place before other earlier below r = tt
passed_follow a above unseen (Keepalive end clock reply ∷ sent) None before other earlier below r =
    let m : Sent = Keepalive end clock reply in
    elim (nat_le a.point end) as (λ b. nat_le a.point end ≡ b
    → KeepsBy a earlier (cond b [] (m ∷ before_rows a.point None sent)) (cond b (m ∷ sent) (behind_rows a.point None sent))
    → CommitsFollow earlier (history_behind a below above)
    (commits_and_keepalives other (cond b (rows_sent a ++ m ∷ sent) (m ∷ passing a None sent)))) [
      | true ↦ λ e keeps.
          let le = is_there a.point end e in
          at_point a below above before other earlier (m ∷ sent) r.order r.whole r.at r.block r.seen
          (nothing_told a.point end below r.seen le (all_left (λ (t : Transaction). ChangesRows t → end < t.end) below above r.follow.0))
          (first_from a.point end None before sent le tt r.at r.order r.read.0) keeps r.follow
      | false ↦ λ e keeps. (
        told a above below end r.seen (not_behind a.point end e) r.follow.0,
        passed_follow a above unseen sent None before other earlier below (record {
          order = r.order;
          whole = r.whole;
          ends = r.ends;
          read = r.read.1;
          at = r.at;
          pair = r.pair;
          items = r.items;
          block = r.block;
          here = tt;
          seen = r.seen;
          keeps = keeps;
          follow = r.follow.1;
        }),
      )
    ] refl r.keeps
passed_follow a above unseen (Keepalive end clock reply ∷ sent) (Some l) before other earlier below r =
    let m : Sent = Keepalive end clock reply in
    let rest : CommitsFollow earlier (history_behind a below above) (commits_and_keepalives other (passing a (Some l) sent)) =
    passed_follow a above unseen sent (Some l) before other earlier below (record {
      order = r.order;
      whole = r.whole;
      ends = r.ends;
      read = r.read;
      at = r.at;
      pair = r.pair;
      items = r.items;
      block = r.block;
      here = r.here;
      seen = r.seen;
      keeps = r.keeps;
      follow = r.follow.1;
    }) in
    elim (nat_le a.point end) as
    (λ b. nat_le a.point end ≡ b
    → CommitsFollow earlier (history_behind a below above)
    (commits_and_keepalives other (cond b [] (m ∷ []) ++ passing a (Some l) sent))) [
      | true ↦ λ e. rest
      | false ↦ λ e. (told a above below end r.seen (not_behind a.point end e) r.follow.0, rest)
    ] refl
passed_follow a above unseen (Data start end clock (message.Begin lsn time xid) ∷ sent) None before other earlier below r =
    let m : Sent = Data start end clock (message.Begin lsn time xid) in
    let begun = message.Begin lsn time xid ∷ before in
    elim (nat_le a.point lsn) as (λ b. nat_le a.point lsn ≡ b
    → KeepsBy a earlier (cond b [] (m ∷ before_rows a.point (Some lsn) sent)) (cond b (m ∷ sent) (behind_rows a.point (Some lsn) sent))
    → CommitsFollow earlier (history_behind a below above)
    (commits_and_keepalives other (cond b (rows_sent a ++ m ∷ sent) (m ∷ passing a (Some lsn) sent)))) [
      | true ↦ λ e keeps.
          let comes = commit_comes a.point lsn begun sent (is_there a.point lsn e) (xid, refl) r.order.1 r.ends in
          at_point a below above before other earlier (m ∷ sent) r.order r.whole r.at r.block r.seen
          (nothing_seen a.point below above earlier (commits_and_keepalives begun sent) r.seen comes r.follow)
          (has_first a.point (commits_and_keepalives begun sent) comes) keeps r.follow
      | false ↦ λ e keeps.
          passed_follow a above unseen sent (Some lsn) begun (message.Begin lsn time xid ∷ other) earlier below (record {
            order = r.order.1;
            whole = r.whole.1;
            ends = r.ends;
            read = r.read;
            at = (xid, refl);
            pair = refl;
            items = refl;
            block = r.block;
            here = not_behind a.point lsn e;
            seen = r.seen;
            keeps = keeps;
            follow = r.follow;
          })
    ] refl r.keeps
passed_follow a above unseen (Data start end clock (message.Logical xid transactional lsn prefix content) ∷ sent) None before other earlier
    below r =
    passed_follow a above unseen sent None (message.Logical xid transactional lsn prefix content ∷ before)
    (message.Logical xid transactional lsn prefix content ∷ other) earlier below (record {
      order = r.order.1;
      whole = r.whole.1;
      ends = r.ends;
      read = r.read;
      at = r.at;
      pair = r.pair;
      items = r.items;
      block = r.block;
      here = tt;
      seen = r.seen;
      keeps = r.keeps;
      follow = r.follow;
    })
passed_follow a above unseen (Data start end clock (message.Commit lsn done time) ∷ sent) None before other earlier below r =
    absurd r.order.0
passed_follow a above unseen (Data start end clock (message.Origin lsn name) ∷ sent) None before other earlier below r = absurd r.order.0
passed_follow a above unseen (Data start end clock (message.TypeName xid oid namespace name) ∷ sent) None before other earlier below r =
    absurd r.order.0
passed_follow a above unseen (Data start end clock (message.Item xid item) ∷ sent) None before other earlier below r = absurd r.order.0
passed_follow a above unseen (Data start end clock (message.StreamStart xid first) ∷ sent) None before other earlier below r =
    absurd r.order.0
passed_follow a above unseen (Data start end clock message.StreamStop ∷ sent) None before other earlier below r = absurd r.order.0
passed_follow a above unseen (Data start end clock (message.StreamCommit xid lsn done time) ∷ sent) None before other earlier below r =
    absurd r.order.0
passed_follow a above unseen (Data start end clock (message.StreamAbort xid label) ∷ sent) None before other earlier below r =
    absurd r.order.0
passed_follow a above unseen (Data start end clock (message.Commit lsn done time) ∷ sent) (Some l) before other earlier below r =
    let closed = message.Commit lsn done time in
    let ms = commits_and_keepalives (closed ∷ before) sent in
    let passed = commits_and_keepalives (closed ∷ other) (passing a None sent) in
    let same : lsn ≡ l = r.order.0 in
    let here : l < a.point = r.here in
    let early : lsn < a.point = omega arith in
    let came : CommitsFollow earlier (below ++ above) (Committed (WholeCommit r.at.0 lsn done time (pair_items before)) ∷ ms) =
    subst (λ (p : Option ℕ). CommitsFollow earlier (below ++ above) (pair_commit p lsn done time (pair_items before) ++ ms)) r.at.1
    r.follow in
    let then : CommitsFollow earlier (history_behind a below above)
    (Committed (WholeCommit r.at.0 lsn done time (items_without a.definition.oid (pair_items before))) ∷ passed) =
    commit_follows a above unseen r.at.0 lsn done time (pair_items before) earlier below ms passed r.seen early came (λ more seen follow.
    passed_follow a above unseen sent None (closed ∷ before) (closed ∷ other) (relations_after earlier (pair_items before)) more (record {
      order = r.order.1;
      whole = r.whole.1;
      ends = r.ends;
      read = r.read;
      at = refl;
      pair = refl;
      items = refl;
      block = r.block;
      here = tt;
      seen = seen;
      keeps = r.keeps;
      follow = follow;
    })) in
    subst (λ (p : Option ℕ). CommitsFollow earlier (history_behind a below above)
    (pair_commit p lsn done time (pair_items other) ++ passed))
    (sym (r.pair ∙ r.at.1))
    (subst (λ its. CommitsFollow earlier (history_behind a below above) (Committed (WholeCommit r.at.0 lsn done time its) ∷ passed))
    (sym r.items) then)
passed_follow a above unseen (Data start end clock (message.Item xid item) ∷ sent) (Some l) before other earlier below r =
    let kept = item_without a.definition.oid item in
    subst (CommitsFollow earlier (history_behind a below above))
    (sym (pushed-commits start end clock xid kept other (passing a (Some l) sent)))
    (passed_follow a above unseen sent (Some l) (message.Item xid item ∷ before) (pushed xid kept other) earlier below (record {
      order = r.order.1;
      whole = r.whole.1;
      ends = r.ends;
      read = r.read;
      at = r.at;
      pair = pushed-pair xid kept other ∙ r.pair;
      items = pushed-items xid kept other ∙ ap (λ its. its ++ kept) r.items ∙ sym (without-push a.definition.oid (pair_items before) item);
      block = pushed-block xid kept other ∙ r.block;
      here = r.here;
      seen = r.seen;
      keeps = subst (λ known. KeepsBy a known (before_rows a.point (Some l) sent) (behind_rows a.point (Some l) sent))
          (sym (relations-append (pair_items before) (item ∷ []) earlier)) r.keeps;
      follow = r.follow;
    }))
passed_follow a above unseen (Data start end clock (message.Origin lsn name) ∷ sent) (Some l) before other earlier below r =
    passed_follow a above unseen sent (Some l) (message.Origin lsn name ∷ before) (message.Origin lsn name ∷ other) earlier below (record {
      order = r.order.1;
      whole = r.whole.1;
      ends = r.ends;
      read = r.read;
      at = r.at;
      pair = r.pair;
      items = r.items;
      block = r.block;
      here = r.here;
      seen = r.seen;
      keeps = r.keeps;
      follow = r.follow;
    })
passed_follow a above unseen (Data start end clock (message.TypeName xid oid namespace name) ∷ sent) (Some l) before other earlier below r =
    passed_follow a above unseen sent (Some l) (message.TypeName xid oid namespace name ∷ before)
    (message.TypeName xid oid namespace name ∷ other) earlier below (record {
      order = r.order.1;
      whole = r.whole.1;
      ends = r.ends;
      read = r.read;
      at = r.at;
      pair = r.pair;
      items = r.items;
      block = r.block;
      here = r.here;
      seen = r.seen;
      keeps = r.keeps;
      follow = r.follow;
    })
passed_follow a above unseen (Data start end clock (message.Logical xid transactional lsn prefix content) ∷ sent) (Some l) before other
    earlier below r =
    passed_follow a above unseen sent (Some l) (message.Logical xid transactional lsn prefix content ∷ before)
    (message.Logical xid transactional lsn prefix content ∷ other) earlier below (record {
      order = r.order.1;
      whole = r.whole.1;
      ends = r.ends;
      read = r.read;
      at = r.at;
      pair = r.pair;
      items = r.items;
      block = r.block;
      here = r.here;
      seen = r.seen;
      keeps = r.keeps;
      follow = r.follow;
    })
passed_follow a above unseen (Data start end clock (message.Begin lsn time xid) ∷ sent) (Some l) before other earlier below r =
    absurd r.order.0
passed_follow a above unseen (Data start end clock (message.StreamStart xid first) ∷ sent) (Some l) before other earlier below r =
    absurd r.order.0
passed_follow a above unseen (Data start end clock message.StreamStop ∷ sent) (Some l) before other earlier below r = absurd r.order.0
passed_follow a above unseen (Data start end clock (message.StreamCommit xid lsn done time) ∷ sent) (Some l) before other earlier below r =
    absurd r.order.0
passed_follow a above unseen (Data start end clock (message.StreamAbort xid label) ∷ sent) (Some l) before other earlier below r =
    absurd r.order.0
