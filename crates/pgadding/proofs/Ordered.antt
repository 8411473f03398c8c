-- Whole messages stand in order exactly where each may come at its place.
use Rattle.std.proofs.Common.{◌≡◌, ◌++◌, ℕ, ℤ, pos, List, [], ◌∷◌, false, Option, Some, None}
use Rattle.std.proofs.Common.{flat_map, refl, sym, ap, subst, ◌∙◌}
use Rattle.std.specs.List.{AllByRecursion}
use Rattle.pglogical.specs.declared.message.Message.{Message}
use Rattle.pglogical.specs.declared.message.Message.TheVariants.{Begin, Commit, Origin, TypeName}
use Rattle.pglogical.specs.declared.message.Message.TheVariants.{Logical, Item, StreamStart}
use Rattle.pglogical.specs.declared.message.Message.TheVariants.{StreamStop, StreamCommit}
use Rattle.pglogical.specs.declared.message.Message.TheVariants.{StreamAbort}
use Rattle.pgorder.specs.declared.Version.{Version}
use Rattle.pgorder.specs.OpenXids.{none_open, is_open-none_open}
use Rattle.pgorder.specs.Shape.{IsInner, IsShaped, MayFollow, StreamPart, Pair, Block, StreamEnd}
use Rattle.pgorder.specs.Shape.{Abort, LogicalMessage, messages_of}
use Rattle.pgadding.specs.Passing.{place_behind}
use Rattle.pgadding.specs.Around.{IsWhole}

abbrev pub MayCome : Option ℕ → Message → Type 0
MayCome None (Begin lsn time xid) = Unit {0}
MayCome None (Logical None transactional lsn prefix content) = Unit {0}
MayCome None _ = ⊥
MayCome (Some l) (Commit lsn end time) = lsn ≡ l
MayCome (Some l) m = IsInner false m

abbrev pub InOrder : Option ℕ → List Message → Type 0
InOrder place [] = Unit {0}
InOrder place (m ∷ ms) = MayCome place m × InOrder (place_behind m place) ms

abbrev pub AreWhole : List Message → Type 0
AreWhole ms = AllByRecursion IsWhole ms

inner_comes : (l : ℕ) (m : Message) (ms : List Message) → IsInner false m → InOrder (Some l) ms → InOrder (Some l) (m ∷ ms)
inner_comes l (Begin lsn time xid) ms is rest = absurd is
inner_comes l (Commit lsn end time) ms is rest = absurd is
inner_comes l (Origin lsn name) ms is rest = (is, rest)
inner_comes l (TypeName xid oid namespace name) ms is rest = (is, rest)
inner_comes l (Logical xid transactional lsn prefix content) ms is rest = (is, rest)
inner_comes l (Item xid item) ms is rest = (is, rest)
inner_comes l (StreamStart xid first) ms is rest = absurd is
inner_comes l StreamStop ms is rest = absurd is
inner_comes l (StreamCommit xid lsn end time) ms is rest = absurd is
inner_comes l (StreamAbort xid label) ms is rest = absurd is

-- from a place in a pair to its Commit
in_pair : (l end : ℕ) (time : ℤ) (inner more ms rest : List Message) → AllByRecursion (IsInner false) inner → AreWhole ms
    → ms ++ rest ≡ (inner ++ Commit l end time ∷ []) ++ more
    → ((later : List Message) → AreWhole later → later ++ rest ≡ more → InOrder None later)
    → InOrder (Some l) ms
in_pair l end time inner more [] rest all whole e behind = tt
in_pair l end time [] more (m ∷ ms) rest all whole e behind =
    let is : m ≡ Commit l end time = cc in
    let others : ms ++ rest ≡ more = cc in
    subst (λ x. InOrder (Some l) (x ∷ ms)) (sym is) (refl, behind ms whole.1 others)
in_pair l end time (i ∷ inner) more (m ∷ ms) rest all whole e behind =
    let is : m ≡ i = cc in
    let others : ms ++ rest ≡ (inner ++ Commit l end time ∷ []) ++ more = cc in
    subst (λ x. InOrder (Some l) (x ∷ ms)) (sym is)
    (inner_comes l i ms all.0 (in_pair l end time inner more ms rest all.1 whole.1 others behind))

pub in_order : (v : Version) (pieces : List StreamPart) (ms rest : List Message) → MayFollow v none_open pieces → AreWhole ms
    → ms ++ rest ≡ flat_map messages_of pieces → InOrder None ms
in_order v pieces [] rest follow whole e = tt
in_order v [] (m ∷ ms) rest follow whole e = absurd (cc)
in_order v (Pair lsn time xid inner end commit_time ∷ pieces) (m ∷ ms) rest follow whole e =
    let is : m ≡ Begin lsn time xid = cc in
    let others : ms ++ rest ≡ (inner ++ Commit lsn end commit_time ∷ []) ++ flat_map messages_of pieces = cc in
    subst (λ x. InOrder None (x ∷ ms)) (sym is) (
      tt,
      in_pair lsn end commit_time inner (flat_map messages_of pieces) ms rest follow.0.0 whole.1 others
          (λ later all. in_order v pieces later rest follow.1 all),
    )
in_order v (Block xid first inner ∷ pieces) (m ∷ ms) rest follow whole e =
    let is : m ≡ StreamStart xid first = cc in absurd (subst IsWhole is whole.0)
in_order v (StreamEnd xid lsn end time ∷ pieces) (m ∷ ms) rest follow whole e =
    let is : m ≡ StreamCommit xid lsn end time = cc in absurd (subst IsWhole is whole.0)
in_order v (Abort xid label ∷ pieces) (m ∷ ms) rest follow whole e =
    let is : m ≡ StreamAbort xid label = cc in absurd (subst IsWhole is whole.0)
in_order v (LogicalMessage transactional lsn prefix content ∷ pieces) (m ∷ ms) rest follow whole e =
    let is : m ≡ Logical None transactional lsn prefix content = cc in
    let others : ms ++ rest ≡ flat_map messages_of pieces = cc in
    subst (λ x. InOrder None (x ∷ ms)) (sym is) (tt, in_order v pieces ms rest follow.1 whole.1 others)

-- the same for a front that ends in a pair
record Within (v : Version) (l : ℕ) (ms : List Message) : Type 0 where
  inner : List Message
  end : ℕ
  time : ℤ
  pieces : List StreamPart
  rest : List Message
  all : AllByRecursion (IsInner false) inner
  follow : MayFollow v none_open pieces
  front : ms ++ rest ≡ (inner ++ Commit l end time ∷ []) ++ flat_map messages_of pieces

abbrev Shaped : Version → Option ℕ → List Message → Type 0
Shaped v None ms = IsShaped v ms
Shaped v (Some l) ms = Within v l ms

add_inner : (v : Version) (l : ℕ) (m : Message) (ms : List Message) → IsInner false m → Within v l ms → Within v l (m ∷ ms)
add_inner v l m ms is w = record {
  inner = m ∷ w.inner;
  end = w.end;
  time = w.time;
  pieces = w.pieces;
  rest = w.rest;
  all = (is, w.all);
  follow = w.follow;
  front = ap (λ x. m ∷ x) w.front;
}

shaped_from : (v : Version) (place : Option ℕ) (ms : List Message) → InOrder place ms → Shaped v place ms
shaped_from v None [] h = record { pieces = []; rest = []; follow = tt; front = refl }
shaped_from v (Some l) [] h =
    record { inner = []; end = 0; time = pos 0; pieces = []; rest = Commit l 0 (pos 0) ∷ []; all = tt; follow = tt; front = refl }
shaped_from v None (Begin lsn time xid ∷ ms) h =
    let w = shaped_from v (Some lsn) ms h.1 in
    record {
      pieces = Pair lsn time xid w.inner w.end w.time ∷ w.pieces;
      rest = w.rest;
      follow = ((w.all, is_open-none_open xid), w.follow);
      front = ap (λ x. Begin lsn time xid ∷ x) w.front;
    }
shaped_from v None (Logical None transactional lsn prefix content ∷ ms) h =
    let w = shaped_from v None ms h.1 in
    record {
      pieces = LogicalMessage transactional lsn prefix content ∷ w.pieces;
      rest = w.rest;
      follow = (tt, w.follow);
      front = ap (λ x. Logical None transactional lsn prefix content ∷ x) w.front;
    }
shaped_from v None (Logical (Some xid) transactional lsn prefix content ∷ ms) h = absurd h.0
shaped_from v None (Commit lsn end time ∷ ms) h = absurd h.0
shaped_from v None (Origin lsn name ∷ ms) h = absurd h.0
shaped_from v None (TypeName xid oid namespace name ∷ ms) h = absurd h.0
shaped_from v None (Item xid item ∷ ms) h = absurd h.0
shaped_from v None (StreamStart xid first ∷ ms) h = absurd h.0
shaped_from v None (StreamStop ∷ ms) h = absurd h.0
shaped_from v None (StreamCommit xid lsn end time ∷ ms) h = absurd h.0
shaped_from v None (StreamAbort xid label ∷ ms) h = absurd h.0
shaped_from v (Some l) (Commit lsn end time ∷ ms) h =
    let w = shaped_from v None ms h.1 in
    record {
      inner = [];
      end = end;
      time = time;
      pieces = w.pieces;
      rest = w.rest;
      all = tt;
      follow = w.follow;
      front = ap (λ x. Commit x end time ∷ (ms ++ w.rest)) h.0 ∙ ap (λ x. Commit l end time ∷ x) w.front;
    }
shaped_from v (Some l) (Origin lsn name ∷ ms) h = add_inner v l _ ms h.0 (shaped_from v (Some l) ms h.1)
shaped_from v (Some l) (TypeName xid oid namespace name ∷ ms) h = add_inner v l _ ms h.0 (shaped_from v (Some l) ms h.1)
shaped_from v (Some l) (Logical xid transactional lsn prefix content ∷ ms) h = add_inner v l _ ms h.0 (shaped_from v (Some l) ms h.1)
shaped_from v (Some l) (Item xid item ∷ ms) h = add_inner v l _ ms h.0 (shaped_from v (Some l) ms h.1)
shaped_from v (Some l) (Begin lsn time xid ∷ ms) h = absurd h.0
shaped_from v (Some l) (StreamStart xid first ∷ ms) h = absurd h.0
shaped_from v (Some l) (StreamStop ∷ ms) h = absurd h.0
shaped_from v (Some l) (StreamCommit xid lsn end time ∷ ms) h = absurd h.0
shaped_from v (Some l) (StreamAbort xid label ∷ ms) h = absurd h.0

pub shaped : (v : Version) (ms : List Message) → InOrder None ms → IsShaped v ms
shaped v ms h = shaped_from v None ms h
