-- What a watch hears well comes in order.
use Rattle.std.proofs.Common.{◌≡◌, ℕ, List, [], ◌∷◌, ◌++◌, Bool, true, false, cond}
use Rattle.std.proofs.Common.{Result, Ok, Err, refl, sym, ap, subst, ◌∙◌}
use Rattle.std.specs.Prelude.{◌+◌, ◌++◌}
use Rattle.pglogical.specs.declared.message.Item.{Item}
use Rattle.pglogical.specs.declared.message.Message.{Message}
use Rattle.pglogical.specs.declared.message.Message.TheVariants as message
use Rattle.pgorder.specs.declared.Version.{Version}
use Rattle.pgorder.specs.declared.Event.{Event}
use Rattle.pgorder.specs.declared.Event.TheVariants as event
use Rattle.pgorder.specs.declared.fault.OrderFault.{OrderFault}
use Rattle.pgorder.specs.States.{StreamOrder, is_in_block}
use Rattle.pgorder.specs.Steps.{OrderState, StepResult, order_step, order_run, then_order}
use Rattle.pgwatch.specs.declared.fault.Breach.{Breach}
use Rattle.pgwatch.specs.declared.fault.Breach.TheVariants as breach
use Rattle.pgwatch.specs.declared.facts.Facts.{Facts}
use Rattle.pgwatch.specs.declared.watch.Watch.{Watch}
use Rattle.pgwatch.specs.Hearing.{hear, by_order, meant, with_facts, commit_judged, item_noted}
use Rattle.pgwatch.specs.Hearing.{closed, is_full, what_of, block_noted, aborted}
use Rattle.pgwatch.specs.Nesting.{at_end, nest, of_xid}
use Rattle.pgwatch.specs.declared.noted.What.TheVariants as what
use Rattle.pgwatched.proofs.Kept.{item_leaves, judged_leaves}
use Rattle.pgwatch.specs.Hearing as hearing
use Rattle.pgsub_core.specs.Server.Stream.{Sent, Data, Keepalive, messages_in}
use Rattle.pgwatched.specs.Watched.{Framed, heard_of, sent_of, then_hear, hear_all}

abbrev order_of : StreamOrder → Result Watch Breach → StreamOrder
order_of o (Ok w) = w.order
order_of o (Err b) = o

-- ---- what a message means leaves the order as it was

with_facts_keeps : (w u : Watch) (r : Result Facts Breach) → with_facts w r ≡ Ok u → w.order ≡ u.order
with_facts_keeps w u (Ok facts) e = ap (order_of w.order) e
with_facts_keeps w u (Err b) e = absurd (cc)

noted_keeps : (w u v : Watch) (n : ℕ) (full : Bool) → w.order ≡ v.order → cond full (Err (breach.Full n)) (Ok v) ≡ Ok u → w.order ≡ u.order
noted_keeps w u v n true same e = absurd (cc)
noted_keeps w u v n false same e = same ∙ ap (order_of v.order) e

block_keeps : (w u : Watch) (n : ℕ) (i : Item) (event : Event) → block_noted w n i event ≡ Ok u → w.order ≡ u.order
block_keeps w u n i (event.Hold xid subxid) e =
    noted_keeps w u (record w { streams = w.streams ++ record { xid = xid; subxid = subxid; at = n; what = what_of i } ∷ [] }) n (is_full w)
    refl e
block_keeps w u n i event.Ignore e = ap (order_of w.order) e
block_keeps w u n i (event.Begin xid) e = ap (order_of w.order) e
block_keeps w u n i (event.Open xid) e = ap (order_of w.order) e
block_keeps w u n i (event.Reopen xid) e = ap (order_of w.order) e
block_keeps w u n i event.Close e = ap (order_of w.order) e
block_keeps w u n i (event.Cut xid label) e = ap (order_of w.order) e
block_keeps w u n i (event.Drop xid) e = ap (order_of w.order) e
block_keeps w u n i (event.CommitPair xid lsn end) e = ap (order_of w.order) e
block_keeps w u n i (event.CommitStream xid lsn end) e = ap (order_of w.order) e

or_block_keeps : (w u : Watch) (n : ℕ) (i : Item) (event : Event) (block : Bool)
    → cond block (block_noted w n i event) (item_noted w n i) ≡ Ok u → w.order ≡ u.order
or_block_keeps w u n i event true e = block_keeps w u n i event e
or_block_keeps w u n i event false e = (item_leaves w u n i e).order

abort_keeps : (w u : Watch) (n : ℕ) (event : Event) → aborted w n event ≡ Ok u → w.order ≡ u.order
abort_keeps w u n (event.Cut xid label) e =
    noted_keeps w u (record w { streams = w.streams ++ record { xid = xid; subxid = label; at = n; what = what.Abort } ∷ [] }) n (is_full w)
    refl e
abort_keeps w u n event.Ignore e = ap (order_of w.order) e
abort_keeps w u n (event.Begin xid) e = ap (order_of w.order) e
abort_keeps w u n (event.Hold top label) e = ap (order_of w.order) e
abort_keeps w u n (event.Open xid) e = ap (order_of w.order) e
abort_keeps w u n (event.Reopen xid) e = ap (order_of w.order) e
abort_keeps w u n event.Close e = ap (order_of w.order) e
abort_keeps w u n (event.Drop xid) e = ap (order_of w.order) e
abort_keeps w u n (event.CommitPair xid lsn end) e = ap (order_of w.order) e
abort_keeps w u n (event.CommitStream xid lsn end) e = ap (order_of w.order) e

meant_keeps : (w u : Watch) (n : ℕ) (m : Message) (event : Event) → meant w n m event ≡ Ok u → w.order ≡ u.order
meant_keeps w u n (message.Begin lsn time xid) event e = ap (order_of w.order) e
meant_keeps w u n (message.Commit lsn end time) event e = with_facts_keeps w u (commit_judged w.facts n lsn end) e
meant_keeps w u n (message.Origin lsn name) event e = ap (order_of w.order) e
meant_keeps w u n (message.TypeName xid oid namespace name) event e = ap (order_of w.order) e
meant_keeps w u n (message.Logical xid transactional lsn prefix content) event e = ap (order_of w.order) e
meant_keeps w u n (message.Item label i) event e = or_block_keeps w u n i event (is_in_block w.order.state.context) e
meant_keeps w u n (message.StreamStart xid true) event e = noted_keeps w u (record w { held = w.held + 1 }) n (is_full w) refl e
meant_keeps w u n (message.StreamStart xid false) event e = ap (order_of w.order) e
meant_keeps w u n message.StreamStop event e = ap (order_of w.order) e
meant_keeps w u n (message.StreamCommit xid lsn end time) event e =
    (judged_leaves (closed w xid) u n lsn end (nest (at_end xid) (of_xid xid w.streams)) e).order
meant_keeps w u n (message.StreamAbort xid label) event e = abort_keeps w u n event e

-- ---- one message after the other

-- where one watch leads to the other, these messages are taken
abbrev pub Runs : Watch → Watch → List Message → Type 0
Runs w u ms = (w.order.version ≡ u.order.version) × (order_run w.order.version w.order.state ms ≡ Ok u.order.state)

run_step : (w v u : Watch) (m : Message) (ms : List Message) (step : OrderState × Event)
    → order_step w.order.version w.order.state m ≡ Ok step
    → (let order : StreamOrder = record { version = w.order.version; state = step.0 } in order ≡ v.order)
    → Runs v u ms → Runs w u (m ∷ ms)
run_step w v u m ms step is same runs = (
  ap (λ (o : StreamOrder). o.version) same ∙ runs.0,
  ap (λ r. then_order r (λ new. order_run w.order.version new ms)) is
      ∙ subst (λ (o : StreamOrder). order_run o.version o.state ms ≡ Ok u.order.state) (sym same) runs.1,
)

run_message : (w u : Watch) (n : ℕ) (m : Message) (fs : List Framed) (r : StepResult)
    → order_step w.order.version w.order.state m ≡ r
    → ((v : Watch) → hear_all v fs ≡ Ok u → Runs v u (messages_in (sent_of fs)))
    → then_hear (by_order w n m r) (λ new. hear_all new fs) ≡ Ok u → Runs w u (m ∷ messages_in (sent_of fs))
run_message w u n m fs (Err fault) is rest e = absurd (cc)
run_message w u n m fs (Ok step) is rest e =
    go (meant (record w { order = record { version = w.order.version; state = step.0 } }) n m step.1) refl e
  where
    go : (r : Result Watch Breach) → meant (record w { order = record { version = w.order.version; state = step.0 } }) n m step.1 ≡ r
        → then_hear r (λ new. hear_all new fs) ≡ Ok u → Runs w u (m ∷ messages_in (sent_of fs))
    go (Err b) means e = absurd (cc)
    go (Ok v) means e =
        run_step w v u m (messages_in (sent_of fs)) step is
        (meant_keeps (record w { order = record { version = w.order.version; state = step.0 } }) v n m step.1 means) (rest v e)

run_one : (w u : Watch) (n : ℕ) (s : Sent) (fs : List Framed)
    → ((v : Watch) → hear_all v fs ≡ Ok u → Runs v u (messages_in (sent_of fs)))
    → then_hear (hear w (heard_of n s)) (λ new. hear_all new fs) ≡ Ok u → Runs w u (messages_in (s ∷ sent_of fs))
run_one w u n (Data start end clock m) fs rest e = run_message w u n m fs (order_step w.order.version w.order.state m) refl rest e
run_one w u n (Keepalive end clock reply) fs rest e = rest (record w { facts = hearing.keepalive_noted w.facts n end }) e

pub runs : (fs : List Framed) (w u : Watch) → hear_all w fs ≡ Ok u → Runs w u (messages_in (sent_of fs))
runs [] w u e =
    let same = ap (order_of w.order) e in
    (ap (λ (o : StreamOrder). o.version) same, ap (λ (o : StreamOrder). Ok o.state) same)
runs (f ∷ fs) w u e = run_one w u f.at f.sent fs (λ v. runs fs v u) e

-- a run over a list that is longer by one
pub pushed : (v : Version) (ms : List Message) (m : Message) (old final : OrderState) (fault : OrderFault)
    → order_run v old ms ≡ Ok final → order_step v final m ≡ Err fault → order_run v old (ms ++ m ∷ []) ≡ Err fault
pushed v [] m old final fault run is =
    let same : old ≡ final = cc in
    ap (λ r. then_order r (λ new. Ok new)) (subst (λ (s : OrderState). order_step v s m ≡ Err fault) (sym same) is)
pushed v (x ∷ ms) m old final fault run is = go (order_step v old x) run (λ s more. pushed v ms m s final fault more is)
  where
    go : (step : StepResult) → then_order step (λ s. order_run v s ms) ≡ Ok final
        → ((s : OrderState) → order_run v s ms ≡ Ok final → order_run v s (ms ++ m ∷ []) ≡ Err fault)
        → then_order step (λ s. order_run v s (ms ++ m ∷ [])) ≡ Err fault
    go (Ok step) run rest = rest step.0 run
    go (Err e) run rest = absurd (cc)

pub messages-append : (a b : List Sent) → messages_in (a ++ b) ≡ messages_in a ++ messages_in b
messages-append [] b = refl
messages-append (Data start end clock m ∷ a) b = ap (λ ms. m ∷ ms) (messages-append a b)
messages-append (Keepalive end clock reply ∷ a) b = messages-append a b
