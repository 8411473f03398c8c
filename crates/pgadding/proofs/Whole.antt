-- What is passed on of a session that ends between transactions ends there too, and its keepalives
-- tell as much.
use Rattle.std.proofs.Common.{◌≡◌, ◌<◌, ◌++◌, ℕ, ℤ, List, [], ◌∷◌, true, false, cond, nat_le, map}
use Rattle.std.proofs.Common.{Option, Some, None, refl, sym, ap, subst, ◌∙◌, arith, append_assoc}
use Rattle.std.proofs.lemmas.Bool.Decides.{leb_tells}
use Rattle.std.specs.List.{AllByRecursion}
use Rattle.pglogical.specs.declared.message.Item.{Item}
use Rattle.pglogical.specs.declared.message.Message.{Message}
use Rattle.pglogical.specs.declared.message.Message.TheVariants as message
use Rattle.pgsub_core.specs.Server.Stream.{Sent, Data, Keepalive, messages_in}
use Rattle.pgadding.specs.LeftOut.{item_without}
use Rattle.pgadding.specs.Addition.{Addition, rows_lsn, rows_end, rows_items, rows_sent, sent_at}
use Rattle.pgadding.specs.Addition.{items_at}
use Rattle.pgadding.specs.Passing.{place_after, is_behind, passed, passing, place_of}
use Rattle.pgadding.specs.Around.{BeginsFrom, KeepalivesTell}
use Rattle.pgadding.proofs.Ordered.{InOrder, AreWhole}

-- ---- no stream blocks

pub order_whole : (place : Option ℕ) (ms : List Message) → InOrder place ms → AreWhole ms
order_whole place [] h = tt
order_whole place (message.Begin lsn time xid ∷ ms) h = (tt, order_whole (Some lsn) ms h.1)
order_whole place (message.Commit lsn end time ∷ ms) h = (tt, order_whole None ms h.1)
order_whole place (message.Origin lsn name ∷ ms) h = (tt, order_whole place ms h.1)
order_whole place (message.TypeName xid oid namespace name ∷ ms) h = (tt, order_whole place ms h.1)
order_whole place (message.Logical xid transactional lsn prefix content ∷ ms) h = (tt, order_whole place ms h.1)
order_whole place (message.Item xid item ∷ ms) h = (tt, order_whole place ms h.1)
order_whole None (message.StreamStart xid first ∷ ms) h = absurd h.0
order_whole None (message.StreamStop ∷ ms) h = absurd h.0
order_whole None (message.StreamCommit xid lsn end time ∷ ms) h = absurd h.0
order_whole None (message.StreamAbort xid label ∷ ms) h = absurd h.0
order_whole (Some l) (message.StreamStart xid first ∷ ms) h = absurd h.0
order_whole (Some l) (message.StreamStop ∷ ms) h = absurd h.0
order_whole (Some l) (message.StreamCommit xid lsn end time ∷ ms) h = absurd h.0
order_whole (Some l) (message.StreamAbort xid label ∷ ms) h = absurd h.0

-- ---- the place at the end

items_place : (place : Option ℕ) (lsn : ℕ) (items : List Item) (more : List Sent)
    → place_after place (items_at lsn items ++ more) ≡ place_after place more
items_place place lsn [] more = refl
items_place place lsn (i ∷ items) more = items_place place lsn items more

pushed_place : (place : Option ℕ) (start end : ℕ) (clock : ℤ) (xid : Option ℕ) (items : List Item) (more : List Sent)
    → place_after place (map (Data start end clock) (map (message.Item xid) items) ++ more) ≡ place_after place more
pushed_place place start end clock xid [] more = refl
pushed_place place start end clock xid (i ∷ items) more = pushed_place place start end clock xid items more

abbrev commit_of_rows : Addition → Sent
commit_of_rows a = sent_at (rows_lsn a) (message.Commit (rows_lsn a) (rows_end a) a.clock)

rows_place : (a : Addition) (place : Option ℕ) (more : List Sent) → place_after place (rows_sent a ++ more) ≡ place_after None more
rows_place a place more =
    ap (place_after (Some (rows_lsn a))) (append_assoc (items_at a.told (rows_items a)) (commit_of_rows a ∷ []) more)
    ∙ items_place (Some (rows_lsn a)) a.told (rows_items a) (commit_of_rows a ∷ more)

passed_place : (point oid : ℕ) (place : Option ℕ) (m : Sent) (more : List Sent)
    → place_after place (passed point oid place m ++ more) ≡ place_after (place_of m place) more
passed_place point oid None (Keepalive end clock reply) more = refl
passed_place point oid (Some l) (Keepalive end clock reply) more =
    elim (nat_le point end) as (λ b. place_after (Some l) (cond b [] (Keepalive end clock reply ∷ []) ++ more) ≡ place_after (Some l) more)
    [ true ↦ refl | false ↦ refl ]
passed_place point oid place (Data start end clock (message.Item xid item)) more =
    pushed_place place start end clock xid (item_without oid item) more
passed_place point oid place (Data start end clock (message.Begin lsn time xid)) more = refl
passed_place point oid place (Data start end clock (message.Commit lsn done time)) more = refl
passed_place point oid place (Data start end clock (message.Origin lsn name)) more = refl
passed_place point oid place (Data start end clock (message.TypeName xid type_oid namespace name)) more = refl
passed_place point oid place (Data start end clock (message.Logical xid transactional lsn prefix content)) more = refl
passed_place point oid place (Data start end clock (message.StreamStart xid first)) more = refl
passed_place point oid place (Data start end clock message.StreamStop) more = refl
passed_place point oid place (Data start end clock (message.StreamCommit xid lsn done time)) more = refl
passed_place point oid place (Data start end clock (message.StreamAbort xid label)) more = refl

-- the rows stand between transactions, or before a Begin, behind which the place is the same
from_outside : (point : ℕ) (place : Option ℕ) (m : Sent) (sent : List Sent) → is_behind point place m ≡ true
    → place_after None (m ∷ sent) ≡ place_after place (m ∷ sent)
from_outside point None m sent is = refl
from_outside point (Some l) (Keepalive end clock reply) sent is = absurd (cc)
from_outside point (Some l) (Data start end clock (message.Begin lsn time xid)) sent is = refl
from_outside point (Some l) (Data start end clock (message.Commit lsn done time)) sent is = refl
from_outside point (Some l) (Data start end clock (message.Origin lsn name)) sent is = absurd (cc)
from_outside point (Some l) (Data start end clock (message.TypeName xid type_oid namespace name)) sent is = absurd (cc)
from_outside point (Some l) (Data start end clock (message.Logical xid transactional lsn prefix content)) sent is = absurd (cc)
from_outside point (Some l) (Data start end clock (message.Item xid item)) sent is = absurd (cc)
from_outside point (Some l) (Data start end clock (message.StreamStart xid first)) sent is = absurd (cc)
from_outside point (Some l) (Data start end clock message.StreamStop) sent is = absurd (cc)
from_outside point (Some l) (Data start end clock (message.StreamCommit xid lsn done time)) sent is = absurd (cc)
from_outside point (Some l) (Data start end clock (message.StreamAbort xid label)) sent is = absurd (cc)

pub passing_place : (a : Addition) (place : Option ℕ) (sent : List Sent) → place_after place (passing a place sent) ≡ place_after place sent
passing_place a place [] = refl
passing_place a place (m ∷ sent) =
    let first = passed a.point a.definition.oid place m in
    elim (is_behind a.point place m) as (λ b. is_behind a.point place m ≡ b
    → place_after place (cond b (rows_sent a ++ m ∷ sent) (first ++ passing a (place_of m place) sent)) ≡ place_after place (m ∷ sent)) [
      | true ↦ λ is. rows_place a place (m ∷ sent) ∙ from_outside a.point place m sent is
      | false ↦ λ isnt. passed_place a.point a.definition.oid place m (passing a (place_of m place) sent)
          ∙ passing_place a (place_of m place) sent ∙ one m place sent
    ] refl
  where
    one : (m : Sent) (place : Option ℕ) (sent : List Sent) → place_after (place_of m place) sent ≡ place_after place (m ∷ sent)
    one (Keepalive end clock reply) place sent = refl
    one (Data start end clock m) place sent = refl

-- ---- what keepalives tell

abbrev AllBeginFrom : ℕ → List Sent → Type 0
AllBeginFrom from sent = AllByRecursion (BeginsFrom from) (messages_in sent)

items_begin : (from lsn : ℕ) (items : List Item) (more : List Sent) → AllBeginFrom from more
    → AllBeginFrom from (items_at lsn items ++ more)
items_begin from lsn [] more h = h
items_begin from lsn (i ∷ items) more h = (tt, items_begin from lsn items more h)

pushed_begin : (from start end : ℕ) (clock : ℤ) (xid : Option ℕ) (items : List Item) (more : List Sent) → AllBeginFrom from more
    → AllBeginFrom from (map (Data start end clock) (map (message.Item xid) items) ++ more)
pushed_begin from start end clock xid [] more h = h
pushed_begin from start end clock xid (i ∷ items) more h = (tt, pushed_begin from start end clock xid items more h)

rows_begin : (a : Addition) (from : ℕ) (more : List Sent) → from < a.point → AllBeginFrom from more
    → AllBeginFrom from (rows_sent a ++ more)
rows_begin a from more lt h = (
  omega arith,
  subst (AllBeginFrom from) (sym (append_assoc (items_at a.told (rows_items a)) (commit_of_rows a ∷ []) more))
      (items_begin from a.told (rows_items a) (commit_of_rows a ∷ more) (tt, h)),
)

passed_begin : (from point oid : ℕ) (place : Option ℕ) (m : Sent) (sent more : List Sent) → AllBeginFrom from (m ∷ sent)
    → AllBeginFrom from more → AllBeginFrom from (passed point oid place m ++ more)
passed_begin from point oid None (Keepalive end clock reply) sent more h rest = rest
passed_begin from point oid (Some l) (Keepalive end clock reply) sent more h rest =
    elim (nat_le point end) as (λ b. AllBeginFrom from (cond b [] (Keepalive end clock reply ∷ []) ++ more)) [ true ↦ rest | false ↦ rest ]
passed_begin from point oid place (Data start end clock (message.Item xid item)) sent more h rest =
    pushed_begin from start end clock xid (item_without oid item) more rest
passed_begin from point oid place (Data start end clock (message.Begin lsn time xid)) sent more h rest = (h.0, rest)
passed_begin from point oid place (Data start end clock (message.Commit lsn done time)) sent more h rest = (tt, rest)
passed_begin from point oid place (Data start end clock (message.Origin lsn name)) sent more h rest = (tt, rest)
passed_begin from point oid place (Data start end clock (message.TypeName xid type_oid namespace name)) sent more h rest = (tt, rest)
passed_begin from point oid place (Data start end clock (message.Logical xid transactional lsn prefix content)) sent more h rest =
    (tt, rest)
passed_begin from point oid place (Data start end clock (message.StreamStart xid first)) sent more h rest = (tt, rest)
passed_begin from point oid place (Data start end clock message.StreamStop) sent more h rest = (tt, rest)
passed_begin from point oid place (Data start end clock (message.StreamCommit xid lsn done time)) sent more h rest = (tt, rest)
passed_begin from point oid place (Data start end clock (message.StreamAbort xid label)) sent more h rest = (tt, rest)

others_begin : (from : ℕ) (m : Sent) (sent : List Sent) → AllBeginFrom from (m ∷ sent) → AllBeginFrom from sent
others_begin from (Keepalive end clock reply) sent h = h
others_begin from (Data start end clock m) sent h = h.1

passing_begin : (a : Addition) (from : ℕ) (place : Option ℕ) (sent : List Sent) → from < a.point → AllBeginFrom from sent
    → AllBeginFrom from (passing a place sent)
passing_begin a from place [] lt h = tt
passing_begin a from place (m ∷ sent) lt h =
    elim (is_behind a.point place m) as
    (λ b. AllBeginFrom from (cond b (rows_sent a ++ m ∷ sent)
    (passed a.point a.definition.oid place m ++ passing a (place_of m place) sent))) [
      | true ↦ rows_begin a from (m ∷ sent) lt h
      | false ↦ passed_begin from a.point a.definition.oid place m sent (passing a (place_of m place) sent) h
          (passing_begin a from (place_of m place) sent lt (others_begin from m sent h))
    ]

items_tell : (place : Option ℕ) (lsn : ℕ) (items : List Item) (more : List Sent) → KeepalivesTell place more
    → KeepalivesTell place (items_at lsn items ++ more)
items_tell place lsn [] more h = h
items_tell place lsn (i ∷ items) more h = items_tell place lsn items more h

pushed_tell : (place : Option ℕ) (start end : ℕ) (clock : ℤ) (xid : Option ℕ) (items : List Item) (more : List Sent)
    → KeepalivesTell place more
    → KeepalivesTell place (map (Data start end clock) (map (message.Item xid) items) ++ more)
pushed_tell place start end clock xid [] more h = h
pushed_tell place start end clock xid (i ∷ items) more h = pushed_tell place start end clock xid items more h

rows_tell : (a : Addition) (place : Option ℕ) (more : List Sent) → KeepalivesTell None more → KeepalivesTell place (rows_sent a ++ more)
rows_tell a place more h =
    subst (KeepalivesTell (Some (rows_lsn a))) (sym (append_assoc (items_at a.told (rows_items a)) (commit_of_rows a ∷ []) more))
    (items_tell (Some (rows_lsn a)) a.told (rows_items a) (commit_of_rows a ∷ more) h)

-- what is told of a message that is passed on, before the point
passed_tell : (a : Addition) (place : Option ℕ) (m : Sent) (sent : List Sent) → is_behind a.point place m ≡ false
    → KeepalivesTell place (m ∷ sent)
    → KeepalivesTell (place_of m place) (passing a (place_of m place) sent)
    → KeepalivesTell place (passed a.point a.definition.oid place m ++ passing a (place_of m place) sent)
passed_tell a None (Keepalive end clock reply) sent isnt h rest =
    (passing_begin a end None sent (grind (arith, leb_tells)) h.0, rest)
passed_tell a (Some l) (Keepalive end clock reply) sent isnt h rest =
    elim (nat_le a.point end) as (λ b. KeepalivesTell (Some l) (cond b [] (Keepalive end clock reply ∷ []) ++ passing a (Some l) sent))
    [ true ↦ rest | false ↦ rest ]
passed_tell a place (Data start end clock (message.Item xid item)) sent isnt h rest =
    pushed_tell place start end clock xid (item_without a.definition.oid item) (passing a place sent) rest
passed_tell a place (Data start end clock (message.Begin lsn time xid)) sent isnt h rest = rest
passed_tell a place (Data start end clock (message.Commit lsn done time)) sent isnt h rest = rest
passed_tell a place (Data start end clock (message.Origin lsn name)) sent isnt h rest = rest
passed_tell a place (Data start end clock (message.TypeName xid type_oid namespace name)) sent isnt h rest = rest
passed_tell a place (Data start end clock (message.Logical xid transactional lsn prefix content)) sent isnt h rest = rest
passed_tell a place (Data start end clock (message.StreamStart xid first)) sent isnt h rest = rest
passed_tell a place (Data start end clock message.StreamStop) sent isnt h rest = rest
passed_tell a place (Data start end clock (message.StreamCommit xid lsn done time)) sent isnt h rest = rest
passed_tell a place (Data start end clock (message.StreamAbort xid label)) sent isnt h rest = rest

tell_outside : (point : ℕ) (place : Option ℕ) (m : Sent) (sent : List Sent) → is_behind point place m ≡ true
    → KeepalivesTell place (m ∷ sent) → KeepalivesTell None (m ∷ sent)
tell_outside point None m sent is h = h
tell_outside point (Some l) (Keepalive end clock reply) sent is h = absurd (cc)
tell_outside point (Some l) (Data start end clock (message.Begin lsn time xid)) sent is h = h
tell_outside point (Some l) (Data start end clock (message.Commit lsn done time)) sent is h = h
tell_outside point (Some l) (Data start end clock (message.Origin lsn name)) sent is h = absurd (cc)
tell_outside point (Some l) (Data start end clock (message.TypeName xid type_oid namespace name)) sent is h = absurd (cc)
tell_outside point (Some l) (Data start end clock (message.Logical xid transactional lsn prefix content)) sent is h = absurd (cc)
tell_outside point (Some l) (Data start end clock (message.Item xid item)) sent is h = absurd (cc)
tell_outside point (Some l) (Data start end clock (message.StreamStart xid first)) sent is h = absurd (cc)
tell_outside point (Some l) (Data start end clock message.StreamStop) sent is h = absurd (cc)
tell_outside point (Some l) (Data start end clock (message.StreamCommit xid lsn done time)) sent is h = absurd (cc)
tell_outside point (Some l) (Data start end clock (message.StreamAbort xid label)) sent is h = absurd (cc)

others_tell : (place : Option ℕ) (m : Sent) (sent : List Sent) → KeepalivesTell place (m ∷ sent) → KeepalivesTell (place_of m place) sent
others_tell None (Keepalive end clock reply) sent h = h.1
others_tell (Some l) (Keepalive end clock reply) sent h = h
others_tell place (Data start end clock m) sent h = h

pub passing_tells : (a : Addition) (place : Option ℕ) (sent : List Sent) → KeepalivesTell place sent
    → KeepalivesTell place (passing a place sent)
passing_tells a place [] h = tt
passing_tells a place (m ∷ sent) h =
    elim (is_behind a.point place m) as (λ b. is_behind a.point place m ≡ b
    → KeepalivesTell place (cond b (rows_sent a ++ m ∷ sent)
    (passed a.point a.definition.oid place m ++ passing a (place_of m place) sent))) [
      | true ↦ λ is. rows_tell a place (m ∷ sent) (tell_outside a.point place m sent is h)
      | false ↦ λ isnt. passed_tell a place m sent isnt h (passing_tells a (place_of m place) sent (others_tell place m sent h))
    ] refl
