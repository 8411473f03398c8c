-- One message more.
use Rattle.std.proofs.Common.{◌≡◌, ◌⊎◌, inl, inr, ℕ, ℤ, List, [], ◌∷◌, Bool, true, false, cond}
use Rattle.std.proofs.Common.{◌==◌, Option, Result, Ok, Err, refl, sym, ap, subst, ◌∙◌}
use Rattle.std.specs.Prelude.{◌+◌, ◌++◌, unwrap_or}
use Rattle.pglogical.specs.Named.{named}
use Rattle.pglogical.specs.declared.message.RelationDef.{RelationDef}
use Rattle.pglogical.specs.declared.message.Item.{Item}
use Rattle.pglogical.specs.declared.message.Item.TheVariants as item
use Rattle.pglogical.specs.declared.message.Message.{Message}
use Rattle.pglogical.specs.declared.message.Message.TheVariants as message
use Rattle.pgorder.specs.declared.Version.{Version}
use Rattle.pgorder.specs.declared.Version.TheVariants.{One, Two}
use Rattle.pgorder.specs.declared.Event.{Event}
use Rattle.pgorder.specs.declared.Event.TheVariants as event
use Rattle.pgorder.specs.declared.fault.OrderFault.{OrderFault}
use Rattle.pgorder.specs.declared.fault.OrderFault.TheVariants as fault
use Rattle.pgorder.specs.OpenXids.{OpenXids, is_open, with_open, without}
use Rattle.pgorder.specs.States.{is_in_block}
use Rattle.pgorder.specs.Steps.{Context, Outside, InPair, InBlock, OrderState, StepResult}
use Rattle.pgorder.specs.Steps.{order_step, in_version_2, step_stream_start}
use Rattle.pgsub_core.specs.Server.Described.{relations_after, relation_of, described}
use Rattle.pgsub_core.specs.Server.Stream.{pair_items, pair_commit, WholeCommit, commits_of}
use Rattle.pgsub_core.specs.Server.Work.{surviving_changes, AllDiffer}
use Rattle.pgwatch.specs.Known.{OidSet, is_known, with_known}
use Rattle.pgwatch.specs.declared.fault.Breach.{Breach}
use Rattle.pgwatch.specs.declared.fault.Breach.TheVariants as breach
use Rattle.pgwatch.specs.declared.facts.Facts.{Facts}
use Rattle.pgwatch.specs.declared.watch.Watch.{Watch}
use Rattle.pgwatch.specs.declared.noted.Noted.{Noted}
use Rattle.pgwatch.specs.declared.noted.What.{What}
use Rattle.pgwatch.specs.declared.noted.What.TheVariants as what
use Rattle.pgwatch.specs.Hearing.{by_order, meant, with_facts, commit_judged, item_noted}
use Rattle.pgwatch.specs.Hearing.{changed_by, closed, is_full, what_of, block_noted, aborted}
use Rattle.pgwatch.specs.Hearing.{stream_judged}
use Rattle.pgwatched.specs.Watched.{IsOfRule}
use Rattle.pgwatched.proofs.Describing.{Knows, any-none, knows_more, knows_again, pair_change}
use Rattle.pgwatched.proofs.Describing.{pair_relation, relations-push}
use Rattle.pgwatched.proofs.Steps.{IsAt, IsStep, IsRefusal, missing_none, good, bad}
use Rattle.pgwatched.proofs.Steps.{refused_for}
use Rattle.pgwatched.proofs.Works.{work_of}
use Rattle.pgwatched.proofs.Kept.{IsKept}
use Rattle.pgwatched.proofs.Streaming.{stream_commit, stream_refused}

abbrev done : Watch → Result Watch Breach
done w = Ok w

abbrev of_ok : Watch → Result Watch Breach → Watch
of_ok w (Ok x) = x
of_ok w (Err b) = w

abbrev of_err : Breach → Result Watch Breach → Breach
of_err b (Ok x) = b
of_err b (Err e) = e

abbrev state_in : OrderState → StepResult → OrderState
state_in old (Ok step) = step.0
state_in old (Err e) = old

abbrev state_at : Context → OpenXids → OrderState
state_at c o = record { context = c; open_xids = o }

module _ (v : Version) (known : OidSet) (limit held : ℕ) (streams : List Noted) (f : Facts) (ended : Option Breach) (n : ℕ)
    (before : List Message) (earlier : List RelationDef) where
  abbrev watch_at : OrderState → Watch
  watch_at s = record {
    order = record { version = v; state = s };
    known = known;
    limit = limit;
    held = held;
    streams = streams;
    facts = f;
    ended = ended;
  }

  -- ---- a message that is heard well

  module _ (w : Watch) where
    -- of what is known of commits and relations, nothing changes
    alike : (m : Message) (u : Watch) → u.known ≡ known → u.facts ≡ f → commits_of before m ≡ []
        → IsAt u.order.state.context known f (m ∷ before) earlier → done u ≡ Ok w → IsStep f w before earlier m
    alike m u same_known same_facts none goes e =
        subst (λ (w : Watch). IsStep f w before earlier m) (ap (of_ok w) e)
        (inl (record {
          none = none;
          start = ap (λ (f : Facts). f.start) same_facts;
          last = ap (λ (f : Facts). f.last_end) same_facts;
          told = ap (λ (f : Facts). f.told) same_facts;
          goes = subst (λ k. IsAt u.order.state.context k u.facts (m ∷ before) earlier) (sym same_known)
              (subst (λ g. IsAt u.order.state.context known g (m ∷ before) earlier) (sym same_facts) goes);
        }))

    no_fault : (m : Message) (s : OrderState) (fault : OrderFault) (u : Version)
        → by_order (watch_at s) n m (in_version_2 u (Err fault)) ≡ Ok w → IsStep f w before earlier m
    no_fault m s fault One e = absurd (cc)
    no_fault m s fault Two e = absurd (cc)

    begins : (lsn : ℕ) (time : ℤ) (xid : ℕ) (o : OpenXids) → IsAt Outside known f before earlier → (b : Bool)
        → by_order (watch_at (state_at Outside o)) n (message.Begin lsn time xid)
        (cond b (Err fault.NestedBegin) (Ok (state_at (InPair lsn xid) o, event.Begin xid))) ≡ Ok w
        → IsStep f w before earlier (message.Begin lsn time xid)
    begins lsn time xid o place true e = absurd (cc)
    begins lsn time xid o place false e =
        subst (λ (w : Watch). IsStep f w before earlier (message.Begin lsn time xid)) (ap (of_ok w) e)
        (inl (record { none = refl; start = refl; last = refl; told = refl; goes = (refl, place.1, ([], refl, refl)) }))

    judged : (lsn end : ℕ) (time : ℤ) (l x : ℕ) (o : OpenXids) → IsAt (InPair l x) known f before earlier → (r : Result Facts Breach)
        → commit_judged f n lsn end ≡ r → with_facts (watch_at (state_at Outside o)) r ≡ Ok w
        → IsStep f w before earlier (message.Commit lsn end time)
    judged lsn end time l x o place (Err b) is e = absurd (cc)
    judged lsn end time l x o place (Ok g) is e =
        let items = pair_items before in
        let ok = good f n lsn end g is in
        let pair = missing_none f.missing f.changes (described earlier items) ok.described place.2 in
        let made = work_of earlier items pair.0 pair.1 in
        subst (λ (w : Watch). IsStep f w before earlier (message.Commit lsn end time)) (ap (of_ok w) e)
        (inr (record {
          completed = WholeCommit x lsn end time items;
          xid = x;
          lsn = lsn;
          end = end;
          time = time;
          items = items;
          changes = pair.0;
          one = ap (λ p. pair_commit p lsn end time items) place.0;
          described = pair.1;
          some = (
            made.work,
            made.is,
            subst (λ xs. AllDiffer (x ∷ xs)) (sym made.plain) (refl, tt),
            made.makes,
            (refl, refl, refl, refl, refl),
          );
          only = λ t surviving differ h. (h.1, h.2, h.4);
          behind = ok.behind;
          ends = ok.ends;
          after = ok.after;
          above = λ some. ok.above (sym pair.2 ∙ any-none pair.0 some);
          start = ok.start;
          last = ok.last;
          told = ok.told;
          goes = (refl, place.1);
        }))

    commits : (lsn end : ℕ) (time : ℤ) (l x : ℕ) (o : OpenXids) → IsAt (InPair l x) known f before earlier → (b : Bool)
        → by_order (watch_at (state_at (InPair l x) o)) n (message.Commit lsn end time)
        (cond b (Ok (state_at Outside o, event.CommitPair x lsn end)) (Err fault.CommitLsnDiffers)) ≡ Ok w
        → IsStep f w before earlier (message.Commit lsn end time)
    commits lsn end time l x o place true e = judged lsn end time l x o place (commit_judged f n lsn end) refl e
    commits lsn end time l x o place false e = absurd (cc)

    relation_comes : (l x : ℕ) (o : OpenXids) (label : Option ℕ) (def : RelationDef) → IsAt (InPair l x) known f before earlier
        → (there full : Bool) → is_known def.oid known ≡ there
        → cond there (Ok (watch_at (state_at (InPair l x) o)))
        (cond full (Err (breach.Full n))
        (Ok (record (watch_at (state_at (InPair l x) o)) { known = with_known def.oid known; held = held + 1 }))) ≡ Ok w
        → IsStep f w before earlier (message.Item label (item.Relation def))
    relation_comes l x o label def place true full is e =
        let items = pair_items before in
        subst (λ (w : Watch). IsStep f w before earlier (message.Item label (item.Relation def))) (ap (of_ok w) e)
        (inl (record {
          none = refl;
          start = refl;
          last = refl;
          told = refl;
          goes = (
            place.0,
            subst (Knows known) (sym (relations-push earlier items (item.Relation def)))
                (knows_again known (relations_after earlier items) def place.1 is),
            pair_relation f.missing f.changes earlier items def place.2,
          );
        }))
    relation_comes l x o label def place false true is e = absurd (cc)
    relation_comes l x o label def place false false is e =
        let items = pair_items before in
        subst (λ (w : Watch). IsStep f w before earlier (message.Item label (item.Relation def))) (ap (of_ok w) e)
        (inl (record {
          none = refl;
          start = refl;
          last = refl;
          told = refl;
          goes = (
            place.0,
            subst (Knows (with_known def.oid known)) (sym (relations-push earlier items (item.Relation def)))
                (knows_more known (relations_after earlier items) def place.1),
            pair_relation f.missing f.changes earlier items def place.2,
          );
        }))

    changed : (l x : ℕ) (o : OpenXids) (label : Option ℕ) (i : Item) → IsAt (InPair l x) known f before earlier
        → relation_of i (relations_after earlier (pair_items before)) ≡ relations_after earlier (pair_items before)
        → done (changed_by (watch_at (state_at (InPair l x) o)) n (named i)) ≡ Ok w
        → IsStep f w before earlier (message.Item label i)
    changed l x o label i place same e =
        let items = pair_items before in
        subst (λ (w : Watch). IsStep f w before earlier (message.Item label i)) (ap (of_ok w) e)
        (inl (record {
          none = refl;
          start = refl;
          last = refl;
          told = refl;
          goes = (
            place.0,
            subst (Knows known) (sym (relations-push earlier items i ∙ same)) place.1,
            pair_change n f.missing f.changes known earlier items i place.1 place.2,
          );
        }))

    item_comes : (l x : ℕ) (o : OpenXids) (label : Option ℕ) (i : Item) → IsAt (InPair l x) known f before earlier
        → item_noted (watch_at (state_at (InPair l x) o)) n i ≡ Ok w → IsStep f w before earlier (message.Item label i)
    item_comes l x o label (item.Relation def) place e =
        relation_comes l x o label def place (is_known def.oid known) (is_full (watch_at (state_at (InPair l x) o))) refl e
    item_comes l x o label (item.Insert oid row) place e = changed l x o label (item.Insert oid row) place refl e
    item_comes l x o label (item.Update oid prior row) place e = changed l x o label (item.Update oid prior row) place refl e
    item_comes l x o label (item.Delete oid kind row) place e = changed l x o label (item.Delete oid kind row) place refl e
    item_comes l x o label (item.Truncate options oids) place e = changed l x o label (item.Truncate options oids) place refl e

    opens : (xid : ℕ) (o : OpenXids) → IsAt Outside known f before earlier → (s : OrderState) → s.context ≡ InBlock xid → (full : Bool)
        → cond full (Err (breach.Full n)) (Ok (record (watch_at s) { held = held + 1 })) ≡ Ok w
        → IsStep f w before earlier (message.StreamStart xid true)
    opens xid o place s is true e = absurd (cc)
    opens xid o place s is false e =
        alike (message.StreamStart xid true) (record (watch_at s) { held = held + 1 }) refl refl refl
        (subst (λ c. IsAt c known f (message.StreamStart xid true ∷ before) earlier) (sym is) place) e

    starts : (xid : ℕ) (o : OpenXids) → IsAt Outside known f before earlier → (u : Version) (first there : Bool)
        → by_order (watch_at (state_at Outside o)) n (message.StreamStart xid first)
        (in_version_2 u (step_stream_start (state_at Outside o) Outside xid first)) ≡ Ok w
        → is_open xid o ≡ there
        → IsStep f w before earlier (message.StreamStart xid first)
    starts xid o place One first there e is = absurd (cc)
    starts xid o place Two true there e is =
        go there (subst (λ b. by_order (watch_at (state_at Outside o)) n (message.StreamStart xid true)
        (cond b (Err fault.FirstFlagOnOpen) (Ok (state_at (InBlock xid) (with_open xid o), event.Open xid))) ≡ Ok w) is e)
      where
        go : (b : Bool) → by_order (watch_at (state_at Outside o)) n (message.StreamStart xid true)
            (cond b (Err fault.FirstFlagOnOpen) (Ok (state_at (InBlock xid) (with_open xid o), event.Open xid))) ≡ Ok w
            → IsStep f w before earlier (message.StreamStart xid true)
        go true e = absurd (cc)
        go false e = opens xid o place (state_at (InBlock xid) (with_open xid o)) refl
            (is_full (watch_at (state_at (InBlock xid) (with_open xid o)))) e
    starts xid o place Two false there e is =
        go there (subst (λ b. by_order (watch_at (state_at Outside o)) n (message.StreamStart xid false)
        (cond b (Ok (state_at (InBlock xid) o, event.Reopen xid)) (Err fault.LaterFlagOnUnknown)) ≡ Ok w) is e)
      where
        go : (b : Bool) → by_order (watch_at (state_at Outside o)) n (message.StreamStart xid false)
            (cond b (Ok (state_at (InBlock xid) o, event.Reopen xid)) (Err fault.LaterFlagOnUnknown)) ≡ Ok w
            → IsStep f w before earlier (message.StreamStart xid false)
        go true e = alike (message.StreamStart xid false) (watch_at (state_at (InBlock xid) o)) refl refl refl place e
        go false e = absurd (cc)

    -- an item or an abort is kept
    noted : (m : Message) (c : Context) (o : OpenXids) (xid subxid : ℕ) (h : What) → commits_of before m ≡ []
        → IsAt c known f (m ∷ before) earlier → (full : Bool)
        → cond full (Err (breach.Full n))
        (Ok (record (watch_at (state_at c o)) { streams = streams ++ record { xid = xid; subxid = subxid; at = n; what = h } ∷ [] })) ≡ Ok w
        → IsStep f w before earlier m
    noted m c o xid subxid h none place true e = absurd (cc)
    noted m c o xid subxid h none place false e =
        alike m (record (watch_at (state_at c o)) { streams = streams ++ record { xid = xid; subxid = subxid; at = n; what = h } ∷ [] })
        refl refl none place e

    -- a streamed transaction commits
    stream_commits : (xid lsn end : ℕ) (time : ℤ) (o : OpenXids) → IsAt Outside known f before earlier → IsKept Outside o streams before
        → (u : Version) (there : Bool) → is_open xid o ≡ there
        → by_order (watch_at (state_at Outside o)) n (message.StreamCommit xid lsn end time)
        (in_version_2 u (cond there (Ok (state_at Outside (without xid o), event.CommitStream xid lsn end)) (Err fault.CommitOfUnknown)))
        ≡ Ok w
        → IsStep f w before earlier (message.StreamCommit xid lsn end time)
    stream_commits xid lsn end time o place kept One there is e = absurd (cc)
    stream_commits xid lsn end time o place kept Two false is e = absurd (cc)
    stream_commits xid lsn end time o place kept Two true is e =
        inr (stream_commit n before earlier (watch_at (state_at Outside (without xid o))) xid lsn end time refl place.0 place.1
        (kept.keeps.of_open xid is) w e)

    stops : (x : ℕ) (o : OpenXids) → IsAt (InBlock x) known f before earlier → (u : Version)
        → by_order (watch_at (state_at (InBlock x) o)) n message.StreamStop (in_version_2 u (Ok (state_at Outside o, event.Close))) ≡ Ok w
        → IsStep f w before earlier message.StreamStop
    stops x o place One e = absurd (cc)
    stops x o place Two e = alike message.StreamStop (watch_at (state_at Outside o)) refl refl refl place e

    aborts : (xid label : ℕ) (o : OpenXids) → IsAt Outside known f before earlier → (u : Version) (there same : Bool)
        → by_order (watch_at (state_at Outside o)) n (message.StreamAbort xid label)
        (in_version_2 u (cond there (cond same (Ok (state_at Outside (without xid o), event.Drop xid))
        (Ok (state_at Outside o, event.Cut xid label)))
        (Ok (state_at Outside o, event.Ignore)))) ≡ Ok w
        → IsStep f w before earlier (message.StreamAbort xid label)
    aborts xid label o place One there same e = absurd (cc)
    aborts xid label o place Two true true e =
        alike (message.StreamAbort xid label) (closed (watch_at (state_at Outside (without xid o))) xid) refl refl refl place e
    aborts xid label o place Two true false e =
        noted (message.StreamAbort xid label) Outside o xid label what.Abort refl place (is_full (watch_at (state_at Outside o))) e
    aborts xid label o place Two false same e = alike (message.StreamAbort xid label) (watch_at (state_at Outside o)) refl refl refl place e

    pub step : (c : Context) (o : OpenXids) (m : Message) → IsAt c known f before earlier → IsKept c o streams before
        → by_order (watch_at (state_at c o)) n m (order_step v (state_at c o) m) ≡ Ok w → IsStep f w before earlier m
    step Outside o (message.Begin lsn time xid) place kept e = begins lsn time xid o place (is_open xid o) e
    step Outside o (message.Commit lsn end time) place kept e = absurd (cc)
    step Outside o (message.Origin lsn name) place kept e = absurd (cc)
    step Outside o (message.TypeName xid oid namespace name) place kept e = absurd (cc)
    step Outside o (message.Logical xid transactional lsn prefix content) place kept e =
        alike (message.Logical xid transactional lsn prefix content) (watch_at (state_at Outside o)) refl refl refl place e
    step Outside o (message.Item label i) place kept e = absurd (cc)
    step Outside o (message.StreamStart xid first) place kept e = starts xid o place v first (is_open xid o) e refl
    step Outside o message.StreamStop place kept e = no_fault message.StreamStop (state_at Outside o) fault.StopWithoutStart v e
    step Outside o (message.StreamCommit xid lsn end time) place kept e =
        stream_commits xid lsn end time o place kept v (is_open xid o) refl e
    step Outside o (message.StreamAbort xid label) place kept e = aborts xid label o place v (is_open xid o) (xid == label) e
    step (InPair l x) o (message.Begin lsn time xid) place kept e = absurd (cc)
    step (InPair l x) o (message.Commit lsn end time) place kept e = commits lsn end time l x o place (lsn == l) e
    step (InPair l x) o (message.Origin lsn name) place kept e =
        alike (message.Origin lsn name) (watch_at (state_at (InPair l x) o)) refl refl refl place e
    step (InPair l x) o (message.TypeName xid oid namespace name) place kept e =
        alike (message.TypeName xid oid namespace name) (watch_at (state_at (InPair l x) o)) refl refl refl place e
    step (InPair l x) o (message.Logical xid transactional lsn prefix content) place kept e =
        alike (message.Logical xid transactional lsn prefix content) (watch_at (state_at (InPair l x) o)) refl refl refl place e
    step (InPair l x) o (message.Item label i) place kept e = item_comes l x o label i place e
    step (InPair l x) o (message.StreamStart xid first) place kept e =
        no_fault (message.StreamStart xid first) (state_at (InPair l x) o) fault.NestedStart v e
    step (InPair l x) o message.StreamStop place kept e = no_fault message.StreamStop (state_at (InPair l x) o) fault.StopWithoutStart v e
    step (InPair l x) o (message.StreamCommit xid lsn end time) place kept e =
        no_fault (message.StreamCommit xid lsn end time) (state_at (InPair l x) o) fault.CommitMisplaced v e
    step (InPair l x) o (message.StreamAbort xid label) place kept e =
        no_fault (message.StreamAbort xid label) (state_at (InPair l x) o) fault.AbortMisplaced v e
    step (InBlock x) o (message.Begin lsn time xid) place kept e = absurd (cc)
    step (InBlock x) o (message.Commit lsn end time) place kept e = absurd (cc)
    step (InBlock x) o (message.Origin lsn name) place kept e =
        alike (message.Origin lsn name) (watch_at (state_at (InBlock x) o)) refl refl refl place e
    step (InBlock x) o (message.TypeName xid oid namespace name) place kept e =
        alike (message.TypeName xid oid namespace name) (watch_at (state_at (InBlock x) o)) refl refl refl place e
    step (InBlock x) o (message.Logical xid transactional lsn prefix content) place kept e =
        alike (message.Logical xid transactional lsn prefix content) (watch_at (state_at (InBlock x) o)) refl refl refl place e
    step (InBlock x) o (message.Item label i) place kept e =
        noted (message.Item label i) (InBlock x) o x (unwrap_or label x) (what_of i) refl place
        (is_full (watch_at (state_at (InBlock x) o))) e
    step (InBlock x) o (message.StreamStart xid first) place kept e =
        no_fault (message.StreamStart xid first) (state_at (InBlock x) o) fault.NestedStart v e
    step (InBlock x) o message.StreamStop place kept e = stops x o place v e
    step (InBlock x) o (message.StreamCommit xid lsn end time) place kept e =
        no_fault (message.StreamCommit xid lsn end time) (state_at (InBlock x) o) fault.CommitMisplaced v e
    step (InBlock x) o (message.StreamAbort xid label) place kept e =
        no_fault (message.StreamAbort xid label) (state_at (InBlock x) o) fault.AbortMisplaced v e

  -- ---- a message that breaks a rule

  module _ (b : Breach) where
    refused_commit : (lsn end : ℕ) (time : ℤ) (l x : ℕ) → IsAt (InPair l x) known f before earlier → (s : OrderState)
        → (r : Result Facts Breach)
        → commit_judged f n lsn end ≡ r → with_facts (watch_at s) r ≡ Err b → IsRefusal f before earlier (message.Commit lsn end time)
    refused_commit lsn end time l x place s (Ok g) is e = absurd (cc)
    refused_commit lsn end time l x place s (Err why) is e = record {
      completed = WholeCommit x lsn end time (pair_items before);
      one = ap (λ p. pair_commit p lsn end time (pair_items before)) place.0;
      none = λ t surviving differ h behind ends after above made.
          refused_for f lsn end t.lsn t.end (described earlier (pair_items before)) (surviving_changes t.work) h.1 h.2 behind ends after
          above (ap (described earlier) (sym h.4) ∙ made)
          (bad f n lsn end why (described earlier (pair_items before)) place.2 is);
    }

    refused_relation : (s : OrderState) (def : RelationDef) (there full : Bool)
        → cond there (Ok (watch_at s)) (cond full (Err (breach.Full n))
        (Ok (record (watch_at s) { known = with_known def.oid known; held = held + 1 })))
        ≡ Err b → IsOfRule b → ⊥
    refused_relation s def true full e rule = absurd (cc)
    refused_relation s def false true e rule = subst IsOfRule (sym (ap (of_err b) e)) rule
    refused_relation s def false false e rule = absurd (cc)

    refused_item : (s : OrderState) (i : Item) → item_noted (watch_at s) n i ≡ Err b → IsOfRule b → ⊥
    refused_item s (item.Relation def) e rule = refused_relation s def (is_known def.oid known) (is_full (watch_at s)) e rule
    refused_item s (item.Insert oid row) e rule = absurd (cc)
    refused_item s (item.Update oid prior row) e rule = absurd (cc)
    refused_item s (item.Delete oid kind row) e rule = absurd (cc)
    refused_item s (item.Truncate options oids) e rule = absurd (cc)

    refused_note : (s : OrderState) (xid subxid : ℕ) (h : What) (full : Bool)
        → cond full (Err (breach.Full n))
        (Ok (record (watch_at s) { streams = streams ++ record { xid = xid; subxid = subxid; at = n; what = h } ∷ [] })) ≡ Err b
        → IsOfRule b → ⊥
    refused_note s xid subxid h true e rule = subst IsOfRule (sym (ap (of_err b) e)) rule
    refused_note s xid subxid h false e rule = absurd (cc)

    refused_block : (s : OrderState) (i : Item) (event : Event) → block_noted (watch_at s) n i event ≡ Err b → IsOfRule b → ⊥
    refused_block s i (event.Hold xid subxid) e rule = refused_note s xid subxid (what_of i) (is_full (watch_at s)) e rule
    refused_block s i event.Ignore e rule = absurd (cc)
    refused_block s i (event.Begin xid) e rule = absurd (cc)
    refused_block s i (event.Open xid) e rule = absurd (cc)
    refused_block s i (event.Reopen xid) e rule = absurd (cc)
    refused_block s i event.Close e rule = absurd (cc)
    refused_block s i (event.Cut xid label) e rule = absurd (cc)
    refused_block s i (event.Drop xid) e rule = absurd (cc)
    refused_block s i (event.CommitPair xid lsn end) e rule = absurd (cc)
    refused_block s i (event.CommitStream xid lsn end) e rule = absurd (cc)

    refused_abort : (s : OrderState) (event : Event) → aborted (watch_at s) n event ≡ Err b → IsOfRule b → ⊥
    refused_abort s (event.Cut xid label) e rule = refused_note s xid label what.Abort (is_full (watch_at s)) e rule
    refused_abort s event.Ignore e rule = absurd (cc)
    refused_abort s (event.Begin xid) e rule = absurd (cc)
    refused_abort s (event.Hold top label) e rule = absurd (cc)
    refused_abort s (event.Open xid) e rule = absurd (cc)
    refused_abort s (event.Reopen xid) e rule = absurd (cc)
    refused_abort s event.Close e rule = absurd (cc)
    refused_abort s (event.Drop xid) e rule = absurd (cc)
    refused_abort s (event.CommitPair xid lsn end) e rule = absurd (cc)
    refused_abort s (event.CommitStream xid lsn end) e rule = absurd (cc)

    refused_or_block : (s : OrderState) (i : Item) (event : Event) (block : Bool)
        → cond block (block_noted (watch_at s) n i event) (item_noted (watch_at s) n i) ≡ Err b
        → IsOfRule b → ⊥
    refused_or_block s i event true e rule = refused_block s i event e rule
    refused_or_block s i event false e rule = refused_item s i e rule

    refused_stream : (xid lsn end : ℕ) (time : ℤ) (o : OpenXids) → IsAt Outside known f before earlier → IsKept Outside o streams before
        → (u : Version) (there : Bool) → is_open xid o ≡ there → (s : OrderState) (what_it_is : Event)
        → in_version_2 u (cond there (Ok (state_at Outside (without xid o), event.CommitStream xid lsn end)) (Err fault.CommitOfUnknown))
        ≡ Ok (s, what_it_is)
        → stream_judged (watch_at s) n xid lsn end ≡ Err b → IsOfRule b
        → IsRefusal f before earlier (message.StreamCommit xid lsn end time)
    refused_stream xid lsn end time o place kept One there is s means stepped e rule = absurd (cc)
    refused_stream xid lsn end time o place kept Two false is s means stepped e rule = absurd (cc)
    refused_stream xid lsn end time o place kept Two true is s means stepped e rule =
        let same : state_at Outside (without xid o) ≡ s = ap (state_in s) stepped in
        stream_refused n before earlier (watch_at s) xid lsn end time (sym (ap (λ (s : OrderState). s.context) same)) place.0 place.1
        (kept.keeps.of_open xid is) b rule e

    refused_start : (s : OrderState) (full : Bool)
        → cond full (Err (breach.Full n)) (Ok (record (watch_at s) { held = held + 1 })) ≡ Err b → IsOfRule b → ⊥
    refused_start s true e rule = subst IsOfRule (sym (ap (of_err b) e)) rule
    refused_start s false e rule = absurd (cc)

    -- one that comes in order
    in_order : (c : Context) (o : OpenXids) (m : Message) → IsAt c known f before earlier → IsKept c o streams before
        → (s : OrderState) (event : Event)
        → order_step v (state_at c o) m ≡ Ok (s, event) → meant (watch_at s) n m event ≡ Err b → IsOfRule b
        → IsRefusal f before earlier m
    in_order Outside o (message.Commit lsn end time) place kept s event step e rule = absurd (cc)
    in_order (InBlock x) o (message.Commit lsn end time) place kept s event step e rule = absurd (cc)
    in_order (InPair l x) o (message.Commit lsn end time) place kept s event step e rule =
        refused_commit lsn end time l x place s (commit_judged f n lsn end) refl e
    in_order c o (message.Begin lsn time xid) place kept s event step e rule = absurd (cc)
    in_order c o (message.Origin lsn name) place kept s event step e rule = absurd (cc)
    in_order c o (message.TypeName xid oid namespace name) place kept s event step e rule = absurd (cc)
    in_order c o (message.Logical xid transactional lsn prefix content) place kept s event step e rule = absurd (cc)
    in_order c o (message.Item label i) place kept s event step e rule =
        absurd (refused_or_block s i event (is_in_block s.context) e rule)
    in_order c o (message.StreamStart xid true) place kept s event step e rule = absurd (refused_start s (is_full (watch_at s)) e rule)
    in_order c o (message.StreamStart xid false) place kept s event step e rule = absurd (cc)
    in_order c o message.StreamStop place kept s event step e rule = absurd (cc)
    in_order Outside o (message.StreamCommit xid lsn end time) place kept s event step e rule =
        refused_stream xid lsn end time o place kept v (is_open xid o) refl s event step e rule
    in_order (InPair l x) o (message.StreamCommit xid lsn end time) place kept s event step e rule =
        absurd (misplaced v step)
      where
        misplaced : (u : Version) → in_version_2 u (Err fault.CommitMisplaced) ≡ Ok (s, event) → ⊥
        misplaced One e = cc
        misplaced Two e = cc
    in_order (InBlock x) o (message.StreamCommit xid lsn end time) place kept s event step e rule =
        absurd (misplaced v step)
      where
        misplaced : (u : Version) → in_version_2 u (Err fault.CommitMisplaced) ≡ Ok (s, event) → ⊥
        misplaced One e = cc
        misplaced Two e = cc
    in_order c o (message.StreamAbort xid label) place kept s event step e rule = absurd (refused_abort s event e rule)

    by_step : (c : Context) (o : OpenXids) (m : Message) → IsAt c known f before earlier → IsKept c o streams before → (r : StepResult)
        → order_step v (state_at c o) m ≡ r → by_order (watch_at (state_at c o)) n m r ≡ Err b → IsOfRule b
        → ((fault : OrderFault) × (order_step v (state_at c o) m ≡ Err fault)) ⊎ IsRefusal f before earlier m
    by_step c o m place kept (Err fault) is e rule = inl (fault, is)
    by_step c o m place kept (Ok step) is e rule = inr (in_order c o m place kept step.0 step.1 is e rule)

    -- it comes out of order, or is a commit that is refused
    pub refusal : (c : Context) (o : OpenXids) (m : Message) → IsAt c known f before earlier → IsKept c o streams before
        → by_order (watch_at (state_at c o)) n m (order_step v (state_at c o) m) ≡ Err b → IsOfRule b
        → ((fault : OrderFault) × (order_step v (state_at c o) m ≡ Err fault)) ⊎ IsRefusal f before earlier m
    refusal c o m place kept e rule = by_step c o m place kept (order_step v (state_at c o) m) refl e rule
