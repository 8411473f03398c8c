-- What is passed on stands in order, and of a front it is a front.
use Rattle.std.proofs.Common.{◌≡◌, ◌++◌, ℕ, ℤ, List, [], ◌∷◌, true, false, cond, nat_le, map}
use Rattle.std.proofs.Common.{Option, Some, None, refl, sym, ap, subst, ◌∙◌, append_assoc}
use Rattle.pglogical.specs.declared.message.Item.{Item}
use Rattle.pglogical.specs.declared.message.Message.TheVariants as message
use Rattle.pgsub_core.specs.Server.Stream.{Sent, Data, Keepalive, messages_in}
use Rattle.pgadding.specs.LeftOut.{item_without}
use Rattle.pgadding.specs.Addition.{Addition, rows_lsn, rows_end, rows_items, rows_sent, sent_at}
use Rattle.pgadding.specs.Addition.{items_at}
use Rattle.pgadding.specs.Passing.{is_behind, passed, passing, place_of}
use Rattle.pgadding.proofs.Ordered.{MayCome, InOrder}

-- ---- order

pub items_order : (l lsn : ℕ) (items : List Item) (more : List Sent) → InOrder (Some l) (messages_in more)
    → InOrder (Some l) (messages_in (items_at lsn items ++ more))
items_order l lsn [] more h = h
items_order l lsn (i ∷ items) more h = (tt, items_order l lsn items more h)

rows_order : (a : Addition) (rest : List Sent) → InOrder None (messages_in rest) → InOrder None (messages_in (rows_sent a ++ rest))
rows_order a rest h =
    let last = sent_at (rows_lsn a) (message.Commit (rows_lsn a) (rows_end a) a.clock) in
    let inside : InOrder (Some (rows_lsn a)) (messages_in (items_at a.told (rows_items a) ++ (last ∷ rest))) =
    items_order (rows_lsn a) a.told (rows_items a) (last ∷ rest) (refl, h) in (
      tt,
      subst (λ sent. InOrder (Some (rows_lsn a)) (messages_in sent))
          (sym (append_assoc (items_at a.told (rows_items a)) (last ∷ []) rest)) inside,
    )

-- items come where one came
pushed_order : (place : Option ℕ) (start end : ℕ) (clock : ℤ) (xid : Option ℕ) (item : Item) (items : List Item) (more : List Sent)
    → MayCome place (message.Item xid item)
    → InOrder place (messages_in more) → InOrder place (messages_in (map (Data start end clock) (map (message.Item xid) items) ++ more))
pushed_order None start end clock xid item items more may h = absurd may
pushed_order (Some l) start end clock xid item [] more may h = h
pushed_order (Some l) start end clock xid item (i ∷ items) more may h =
    (may, pushed_order (Some l) start end clock xid item items more may h)

passed_order : (point oid : ℕ) (place : Option ℕ) (m : Sent) (more : List Sent) → InOrder place (messages_in (m ∷ []))
    → InOrder (place_of m place) (messages_in more)
    → InOrder place (messages_in (passed point oid place m ++ more))
passed_order point oid None (Keepalive end clock reply) more h rest = rest
passed_order point oid (Some l) (Keepalive end clock reply) more h rest =
    elim (nat_le point end) as (λ b. InOrder (Some l) (messages_in (cond b [] (Keepalive end clock reply ∷ []) ++ more))) [
      | true ↦ rest
      | false ↦ rest
    ]
passed_order point oid place (Data start end clock (message.Item xid item)) more h rest =
    pushed_order place start end clock xid item (item_without oid item) more h.0 rest
passed_order point oid place (Data start end clock (message.Begin lsn time xid)) more h rest = (h.0, rest)
passed_order point oid place (Data start end clock (message.Commit lsn done time)) more h rest = (h.0, rest)
passed_order point oid place (Data start end clock (message.Origin lsn name)) more h rest = (h.0, rest)
passed_order point oid place (Data start end clock (message.TypeName xid type_oid namespace name)) more h rest = (h.0, rest)
passed_order point oid place (Data start end clock (message.Logical xid transactional lsn prefix content)) more h rest = (h.0, rest)
passed_order point oid place (Data start end clock (message.StreamStart xid first)) more h rest = (h.0, rest)
passed_order point oid place (Data start end clock message.StreamStop) more h rest = (h.0, rest)
passed_order point oid place (Data start end clock (message.StreamCommit xid lsn done time)) more h rest = (h.0, rest)
passed_order point oid place (Data start end clock (message.StreamAbort xid label)) more h rest = (h.0, rest)

-- a first message and those behind it
pub first_order : (place : Option ℕ) (m : Sent) (sent : List Sent) → InOrder place (messages_in (m ∷ sent))
    → InOrder place (messages_in (m ∷ [])) × InOrder (place_of m place) (messages_in sent)
first_order place (Keepalive end clock reply) sent h = (tt, h)
first_order place (Data start end clock m) sent h = ((h.0, tt), h.1)

-- the point is between transactions
behind_outside : (a : Addition) (place : Option ℕ) (m : Sent) (sent : List Sent) → is_behind a.point place m ≡ true
    → InOrder place (messages_in (m ∷ sent)) → InOrder place (messages_in (rows_sent a ++ m ∷ sent))
behind_outside a None m sent is h = rows_order a (m ∷ sent) h
behind_outside a (Some l) (Keepalive end clock reply) sent is h = absurd (cc)
behind_outside a (Some l) (Data start end clock (message.Begin lsn time xid)) sent is h = absurd h.0
behind_outside a (Some l) (Data start end clock (message.Commit lsn done time)) sent is h = absurd (cc)
behind_outside a (Some l) (Data start end clock (message.Origin lsn name)) sent is h = absurd (cc)
behind_outside a (Some l) (Data start end clock (message.TypeName xid type_oid namespace name)) sent is h = absurd (cc)
behind_outside a (Some l) (Data start end clock (message.Logical xid transactional lsn prefix content)) sent is h = absurd (cc)
behind_outside a (Some l) (Data start end clock (message.Item xid item)) sent is h = absurd (cc)
behind_outside a (Some l) (Data start end clock (message.StreamStart xid first)) sent is h = absurd (cc)
behind_outside a (Some l) (Data start end clock message.StreamStop) sent is h = absurd (cc)
behind_outside a (Some l) (Data start end clock (message.StreamCommit xid lsn done time)) sent is h = absurd (cc)
behind_outside a (Some l) (Data start end clock (message.StreamAbort xid label)) sent is h = absurd (cc)

pub passing_order : (a : Addition) (place : Option ℕ) (sent : List Sent) → InOrder place (messages_in sent)
    → InOrder place (messages_in (passing a place sent))
passing_order a place [] h = tt
passing_order a place (m ∷ sent) h =
    let parts = first_order place m sent h in
    elim (is_behind a.point place m) as (λ b. is_behind a.point place m ≡ b
    → InOrder place (messages_in
    (cond b (rows_sent a ++ m ∷ sent) (passed a.point a.definition.oid place m ++ passing a (place_of m place) sent)))) [
      | true ↦ λ is. behind_outside a place m sent is h
      | false ↦ λ isnt. passed_order a.point a.definition.oid place m (passing a (place_of m place) sent) parts.0
          (passing_order a (place_of m place) sent parts.1)
    ] refl

-- ---- fronts

pub record IsFront (front whole : List Sent) : Type 0 where
  pub more : List Sent
  pub all : whole ≡ front ++ more

pub passing_front : (a : Addition) (place : Option ℕ) (sent later : List Sent)
    → IsFront (passing a place sent) (passing a place (sent ++ later))
passing_front a place [] later = record { more = passing a place later; all = refl }
passing_front a place (m ∷ sent) later =
    let rest = passing_front a (place_of m place) sent later in
    let first = passed a.point a.definition.oid place m in
    elim (is_behind a.point place m) as
    (λ b. IsFront (cond b (rows_sent a ++ m ∷ sent) (first ++ passing a (place_of m place) sent))
    (cond b (rows_sent a ++ m ∷ (sent ++ later)) (first ++ passing a (place_of m place) (sent ++ later)))) [
      | true ↦ record { more = later; all = sym (append_assoc (rows_sent a) (m ∷ sent) later) }
      | false ↦ record {
        more = rest.more;
        all = ap (λ sent. first ++ sent) rest.all ∙ sym (append_assoc first (passing a (place_of m place) sent) rest.more);
      }
    ]
