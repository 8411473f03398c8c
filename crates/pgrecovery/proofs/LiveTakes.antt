-- What a subscriber does with a pair's messages, one after the other, and with a keepalive; and
-- what is counted then.
use Rattle.std.proofs.Common.{◌≡◌, ◌++◌, ◌+◌, [], ◌∷◌, List, ℕ, ℤ, true, false, refl, pos, ap, sym}
use Rattle.std.proofs.Common.{◌∙◌, Ok, Some}
use Rattle.std.specs.Prelude.{max, nat_lt, ◌==◌}
use Rattle.std.specs.Ordering.{nat_cmp, eq_by_cmp}
use Rattle.std.specs.Cmp.{nat_cmp_total, unsigned_Decides}
use Rattle.std.proofs.lemmas.Cmp.{eq_by_cmp_equiv}
use Rattle.std.specs.FinMap as map
use Rattle.pglogical.specs.Reading.{message_at}
use Rattle.pglogical.specs.declared.message.Item.{Item}
use Rattle.pglogical.specs.declared.message.Message.{Message}
use Rattle.pgorder.specs.States.{is_in_block}
use Rattle.pgorder.specs.Steps.{InPair, initial_order}
use Rattle.pgorder.specs.OpenXids.{none_open}
use Rattle.pgspool.specs.Labels.{LabelledItem, items_of, cost, costs}
use Rattle.pgwire.specs.Payloads.{payload_at}
use Rattle.pgwire.specs.Frames as wire
use Rattle.pgapply.specs.declared.commit.About.{About}
use Rattle.pgapply.specs.Value.{Tables}
use Rattle.pgapply.specs.Apply.{Change, fold_changes}
use Rattle.pgapply.specs.Missing.{all_missing, with_misses}
use Rattle.pgapply.specs.Tallies.{Tally, taken_commit}
use Rattle.pgsub_core.specs.Server.Described.{described_from}
use Rattle.pgsub_core.specs.Server.Stream.{Sent, Data}
use Rattle.pgsub_core.specs.Machine.Replica.{Running, then_run, all_cached}
use Rattle.pgsub_core.specs.Machine.Counted.{message_counted, frame_counted, frames_counted}
use Rattle.pgsub_core.specs.Machine.Counted.{counted_behind, decoded_counted, payload_counted}
use Rattle.pgsub_core.specs.Subscriber.Subscribed.{Subscribed, with_status}
use Rattle.pgsub_core.specs.Machine.Taking as taking
use Rattle.pgsub_core.proofs.Samples.{alone, begin, commit, spools}
use Rattle.pgrecovery.proofs.LiveFrames.{Reads}

-- the time at which all parts are fed
abbrev pub now : ℤ
now = pos 7

-- XLogData at this LSN
abbrev pub data_at : ℕ → Message → Sent
data_at lsn m = Data lsn lsn (pos 0) m

-- as outside pairs and blocks
abbrev pub outside : Subscribed → Subscribed
outside s = record s { order = initial_order; held = map.empty }

-- inside a pair, with these items of it
abbrev pub inside : ℕ → ℕ → List LabelledItem → Subscribed → Subscribed
inside lsn xid held s = record s {
  order = record { context = InPair lsn xid; open_xids = none_open };
  held = map.insert map.empty xid held;
}

-- having received up to this LSN
abbrev pub up_to : ℕ → Subscribed → Subscribed
up_to lsn s = record s { received = max s.confirmed (max s.received lsn) }

-- behind XLogData at this LSN
abbrev pub behind : ℕ → Subscribed → Subscribed
behind lsn s = up_to (max lsn lsn) s

-- with the commit stored that ends here
abbrev pub stored : ℕ → Tables → List LabelledItem → Subscribed → Subscribed
stored end tables held s = record s {
  tables = tables;
  position = end;
  confirmed = max s.confirmed end;
  relations = all_cached s.relations (items_of held);
}

-- with a commit that is a repeat
abbrev pub repeated : List LabelledItem → Subscribed → Subscribed
repeated held s = record s { relations = all_cached s.relations (items_of held) }

same_xid : (xid : ℕ) → eq_by_cmp nat_cmp xid xid ≡ true
same_xid xid = (eq_by_cmp_equiv nat_cmp_total).refl xid

same_lsn : (lsn : ℕ) → (lsn == lsn) ≡ true
same_lsn lsn = (unsigned_Decides lsn lsn).1 refl

begin_taken : (s : Subscribed) (lsn final xid : ℕ)
    → taking.take now (outside s) (data_at lsn (begin final xid)) ≡ Running (inside final xid [] (behind lsn s))
begin_taken s lsn final xid = simp spools

begin_counted : (s : Subscribed) (final xid : ℕ) (m : Tally) → message_counted (outside s) (begin final xid) m ≡ m
begin_counted s final xid m = simp spools

item_taken : (s : Subscribed) (lsn final xid : ℕ) (held : List LabelledItem) (i : Item) → nat_lt s.limit (costs held + cost i) ≡ false
    → taking.take now (inside final xid held s) (data_at lsn (alone i)) ≡ Running (inside final xid (held ++ (xid, i) ∷ []) (behind lsn s))
item_taken s lsn final xid held i room = simp (spools, same_xid xid, room)

commit_taken : (s : Subscribed) (lsn xid end : ℕ) (held : List LabelledItem) (changes : List Change) (tables : Tables)
    → nat_lt s.position end ≡ true → described_from (λ oid. map.get s.relations oid) (items_of held) ≡ Ok changes
    → fold_changes s.tables changes ≡ Ok tables
    → taking.take now (inside lsn xid held s) (data_at end (commit lsn end)) ≡ Running (behind end (stored end tables held (outside s)))
commit_taken s lsn xid end held changes tables passes described folds =
    simp (spools, same_xid xid, same_lsn lsn, passes, described, folds)

-- what the message of a commit tells
abbrev pub told : ℕ → ℕ → About
told lsn xid = record { final_lsn = lsn; xid = xid; time = pos 0 }

-- the tally with a commit of these changes, of which those of these relations find no row
abbrev pub tallied : Tally → ℕ → ℕ → ℕ → List Change → List ℕ → Tally
tallied m lsn xid end changes oids = record {
  misses = with_misses m.misses end oids;
  commits = m.commits ++ taken_commit end (Some (told lsn xid)) changes;
}

commit_counted : (s : Subscribed) (lsn xid end : ℕ) (held : List LabelledItem) (changes : List Change) (oids : List ℕ) (m : Tally)
    → nat_lt s.position end ≡ true → described_from (λ oid. map.get s.relations oid) (items_of held) ≡ Ok changes
    → all_missing s.tables changes ≡ oids
    → message_counted (inside lsn xid held s) (commit lsn end) m ≡ tallied m lsn xid end changes oids
commit_counted s lsn xid end held changes oids m passes described missing =
    simp (spools, same_xid xid, same_lsn lsn, passes, described, missing)

repeat_taken : (s : Subscribed) (lsn xid end : ℕ) (held : List LabelledItem) → nat_lt s.position end ≡ false
    → taking.take now (inside lsn xid held s) (data_at end (commit lsn end)) ≡ Running (behind end (repeated held (outside s)))
repeat_taken s lsn xid end held repeats = simp (spools, same_xid xid, same_lsn lsn, repeats)

repeat_counted : (s : Subscribed) (lsn xid end : ℕ) (held : List LabelledItem) (m : Tally) → nat_lt s.position end ≡ false
    → message_counted (inside lsn xid held s) (commit lsn end) m ≡ m
repeat_counted s lsn xid end held m repeats = simp (spools, same_lsn lsn, repeats)

-- ---- frames

-- frames are taken, and what they count is this
pub record Take (s : Subscribed) (fs : List wire.Frame) (s' : Subscribed) (m m' : Tally) : Type 0 where
  pub takes : taking.take_frames now s fs ≡ Running s'
  pub counts : m' ≡ frames_counted now s fs m

pub takes_none : {s : Subscribed} {m : Tally} → Take s [] s m m
takes_none = record { takes = refl; counts = refl }

pub takes_more : {s s' s'' : Subscribed} {f : wire.Frame} {fs : List wire.Frame} {m m' m'' : Tally}
    → taking.take_frame now s f ≡ Running s' → frame_counted s f m ≡ m' → Take s' fs s'' m' m'' → Take s (f ∷ fs) s'' m m''
takes_more {s} {s'} {s''} {f} {fs} {m} {m'} {m''} takes counts more = record {
  takes = ap (λ o. then_run o (λ next. taking.take_frames now next fs)) takes ∙ more.takes;
  counts = more.counts ∙ sym
      (ap (λ o. counted_behind o (λ next. frames_counted now next fs (frame_counted s f m)) (frame_counted s f m)) takes
      ∙ ap (frames_counted now s' fs) counts);
}

takes_data : {s s' s'' : Subscribed} {lsn : ℕ} {payload : List ℕ} {x : Message} {fs : List wire.Frame} {m m' m'' : Tally}
    → Reads payload lsn x → is_in_block s.order.context ≡ false → taking.take now s (data_at lsn x) ≡ Running s'
    → message_counted s x m ≡ m' → Take s' fs s'' m' m'' → Take s (wire.CopyData payload ∷ fs) s'' m m''
takes_data {s} {lsn = lsn} {x = x} {m = m} read alone takes counts more =
    let reads : message_at (is_in_block s.order.context) read.body ≡ Ok x = ap (λ b. message_at b read.body) alone ∙ read.reads in
    takes_more (ap (taking.take_payload now s) read.carries ∙ ap (taking.take_message now s lsn lsn (pos 0)) reads ∙ takes)
    (ap (λ p. payload_counted s p m) read.carries ∙ ap (λ p. decoded_counted s p m) reads ∙ counts) more

-- Begin
pub takes_begin : {s' : Subscribed} {lsn final xid : ℕ} {payload : List ℕ} {fs : List wire.Frame} {m m' : Tally} (s : Subscribed)
    → Reads payload lsn (begin final xid) → Take (inside final xid [] (behind lsn s)) fs s' m m'
    → Take (outside s) (wire.CopyData payload ∷ fs) s' m m'
takes_begin {lsn = lsn} {final} {xid} {m = m} s read more =
    takes_data read refl (begin_taken s lsn final xid) (begin_counted s final xid m) more

-- Relation, Insert, Update, Delete
pub takes_item : {s' : Subscribed} {lsn final xid : ℕ} {i : Item} {payload : List ℕ} {fs : List wire.Frame} {m m' : Tally}
    (s : Subscribed) (held : List LabelledItem) → Reads payload lsn (alone i) → nat_lt s.limit (costs held + cost i) ≡ false
    → Take (inside final xid (held ++ (xid, i) ∷ []) (behind lsn s)) fs s' m m'
    → Take (inside final xid held s) (wire.CopyData payload ∷ fs) s' m m'
takes_item {lsn = lsn} {final} {xid} {i} s held read room more =
    takes_data read refl (item_taken s lsn final xid held i room) refl more

-- Commit, of a transaction that isn't stored
pub takes_commit : {s' : Subscribed} {lsn xid end : ℕ} {changes : List Change} {tables : Tables} {oids payload : List ℕ}
    {fs : List wire.Frame} {m m' : Tally} (s : Subscribed) (held : List LabelledItem) → Reads payload end (commit lsn end)
    → nat_lt s.position end ≡ true → described_from (λ oid. map.get s.relations oid) (items_of held) ≡ Ok changes
    → fold_changes s.tables changes ≡ Ok tables → all_missing s.tables changes ≡ oids
    → Take (behind end (stored end tables held (outside s))) fs s' (tallied m lsn xid end changes oids) m'
    → Take (inside lsn xid held s) (wire.CopyData payload ∷ fs) s' m m'
takes_commit {lsn = lsn} {xid} {end} {changes} {tables} {oids} {m = m} s held read passes described folds missing more =
    takes_data read refl (commit_taken s lsn xid end held changes tables passes described folds)
    (commit_counted s lsn xid end held changes oids m passes described missing) more

-- Commit, of one that is
pub takes_repeat : {s' : Subscribed} {lsn xid end : ℕ} {payload : List ℕ} {fs : List wire.Frame} {m m' : Tally} (s : Subscribed)
    (held : List LabelledItem) → Reads payload end (commit lsn end) → nat_lt s.position end ≡ false
    → Take (behind end (repeated held (outside s))) fs s' m m' → Take (inside lsn xid held s) (wire.CopyData payload ∷ fs) s' m m'
takes_repeat {lsn = lsn} {xid} {end} {m = m} s held read repeats more =
    takes_data read refl (repeat_taken s lsn xid end held repeats) (repeat_counted s lsn xid end held m repeats) more

-- a keepalive that asks for a reply, outside pairs and blocks
pub takes_keepalive : {s' : Subscribed} {end : ℕ} {payload : List ℕ} {fs : List wire.Frame} {m m' : Tally} (s : Subscribed)
    → payload_at payload ≡ Ok (wire.Keepalive end (pos 0) true)
    → Take (with_status now false (up_to end (record (outside s) { confirmed = max s.confirmed end }))) fs s' m m'
    → Take (outside s) (wire.CopyData payload ∷ fs) s' m m'
takes_keepalive {m = m} s read more =
    takes_more (ap (taking.take_payload now (outside s)) read) (ap (λ p. payload_counted (outside s) p m) read) more
