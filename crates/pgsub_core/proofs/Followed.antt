-- The sessions of a history, fed one after the other.
use Rattle.std.proofs.Common.{◌≡◌, ◌++◌, inl, inr, ℕ, ℤ, List, [], ◌∷◌, Option, Some, None, Bool}
use Rattle.std.proofs.Common.{true, refl, sym, ap, subst, ◌∙◌, append-nil}
use Rattle.pgorder.specs.declared.Version.{Version}
use Rattle.pgsub_core.specs.declared.fault.Fault.{Fault}
use Rattle.pgsub_core.specs.Server.History.{Transaction}
use Rattle.pgsub_core.specs.Server.Stream.{Sent}
use Rattle.pgsub_core.specs.Server.Reached.{Progress}
use Rattle.pgsub_core.specs.Server.Sessions.{AreIncoming, starting_by}
use Rattle.pgsub_core.specs.Machine.Replica.{Running, then_run}
use Rattle.pgsub_core.specs.Subscriber.Subscribed.{Subscribed, IsSafeFor, disconnect, progress_of}
use Rattle.pgsub_core.specs.Subscriber.Subscribed.{with_status}
use Rattle.pgsub_core.specs.Subscriber.Confirming.{AreSafeReplies}
use Rattle.pgsub_core.proofs.Confirmed.{status_is_safe}
use Rattle.pgsub_core.proofs.SessionCuts.{sent_front}
use Rattle.pgsub_core.specs.Machine.Taking.{take_all, take_sessions}
use Rattle.pgsub_core.specs.Subscriber.Safely.{IsSent, IsHandled}
use Rattle.pgsub_core.specs.Subscriber.Handled.{IsFollowed, IsLeft, NoneForeign}
use Rattle.pgsub_core.specs.Subscriber.Causes.{Cause, OutOfMemory, StatementRefused, HeaderTooLarge}
use Rattle.pgsub_core.specs.Subscriber.Causes.{ForeignBytes, NextMessage, NeverAnswered, cause}
use Rattle.pgsub_core.specs.Subscriber.Causes.{SpoolFailed}
use Rattle.pgsub_core.specs.Subscriber.HandledLaws.{StopsBy}
use Rattle.pgsub_core.specs.Machine.Feeding.{IsFedWhole, IsFedUntil}
use Rattle.pgsub_core.specs.Subscriber.Following.{AreFedWhole, AreFedUntil, AreFed}
use Rattle.pgsub_core.proofs.ReadAgain.{read_again}
use Rattle.pgsub_core.proofs.StoppedSessions.{fed_stopped, fed_session_whole}
use Rattle.pgsub_core.proofs.HandledSessions.{taking_followed}
use Rattle.pgsub_core.proofs.Steps.{running}

-- one session more behind those that were fed whole
pub fed_more : (now : ℤ) (sessions : List (List ℕ)) (bytes : List ℕ) (old mid new : Subscribed) → AreFedWhole now old sessions mid
    → IsFedWhole now (disconnect mid) bytes new → AreFedWhole now old (sessions ++ bytes ∷ []) new
fed_more now [] bytes old mid new so one = (new, subst (λ (x : Subscribed). IsFedWhole now (disconnect x) bytes new) so one, refl)
fed_more now (first ∷ sessions) bytes old mid new so one = (so.0, so.1, fed_more now sessions bytes so.0 mid new so.2 one)

-- or one that stops, whatever sessions would come
pub fed_then_stopped : (now : ℤ) (sessions : List (List ℕ)) (bytes : List ℕ) (later : List (List ℕ)) (old mid new : Subscribed) (f : Fault)
    → AreFedWhole now old sessions mid → IsFedUntil now (disconnect mid) bytes new f
    → AreFedUntil now old (sessions ++ bytes ∷ later) new f
fed_then_stopped now [] bytes later old mid new f so one =
    inl (subst (λ (x : Subscribed). IsFedUntil now (disconnect x) bytes new f) so one)
fed_then_stopped now (first ∷ sessions) bytes later old mid new f so one =
    inr (so.0, so.1, fed_then_stopped now sessions bytes later so.0 mid new f so.2 one)

record IsTakenWhole (now : ℤ) (old : Subscribed) (sessions : List (List ℕ)) (all_complete : List (List Sent))
    (new : Subscribed) : Type 0 where
  state : Subscribed
  takes : take_sessions now old all_complete ≡ Running state
  left : new ≡ record state { partial = new.partial; copy_done = new.copy_done }
  none : NoneForeign all_complete sessions

-- the bytes that wait and CopyDone are nothing to the sessions behind
from_there : (now : ℤ) (mid state new : Subscribed) (sessions : List (List ℕ)) (all_complete : List (List Sent))
    → mid ≡ record state { partial = mid.partial; copy_done = mid.copy_done } → IsTakenWhole now mid sessions all_complete new
    → IsTakenWhole now state sessions all_complete new
from_there now mid state new sessions [] is taken =
    let same : mid ≡ taken.state = running taken.takes in
    record {
      state = state;
      takes = refl;
      left = taken.left ∙ ap (λ (x : Subscribed). record x { partial = new.partial; copy_done = new.copy_done }) (sym same ∙ is);
      none = taken.none;
    }
from_there now mid state new sessions (x ∷ all_complete) is taken =
    let same : disconnect state ≡ disconnect mid = sym (ap disconnect is) in
    record {
      state = taken.state;
      takes = ap (λ (s : Subscribed). then_run (take_all now s x) (λ next. take_sessions now next all_complete)) same ∙ taken.takes;
      left = taken.left;
      none = taken.none;
    }

whole_from : (now : ℤ) (v : Version) (history : List Transaction) (sessions : List (List ℕ)) (all_complete : List (List Sent))
    (from : Progress) (old new : Subscribed)
    → AreIncoming v history from sessions all_complete → AreFedWhole now old sessions new → IsTakenWhole now old sessions all_complete new
whole_from now v history [] [] from old new sent so =
    record {
      state = old;
      takes = refl;
      left = so ∙ ap (λ (x : Subscribed). record old { partial = x.partial; copy_done = x.copy_done }) (sym so);
      none = tt;
    }
whole_from now v history [] (complete ∷ all_complete) from old new sent so = absurd sent
whole_from now v history (bytes ∷ sessions) [] from old new sent so = absurd sent
whole_from now v history (bytes ∷ sessions) (complete ∷ all_complete) from old new sent so =
    let one = fed_session_whole read_again now v history sent.0.0 bytes complete old so.0 sent.0.2 so.1 in
    let rest = from_there now so.0 one.0 new sessions all_complete one.2
    (whole_from now v history sessions all_complete _ so.0 new sent.1 so.2) in
    record {
      state = rest.state;
      takes = ap (λ o. then_run o (λ next. take_sessions now next all_complete)) one.1 ∙ rest.takes;
      left = rest.left;
      none = (one.3, rest.none);
    }

record IsTakenUntil (now : ℤ) (old : Subscribed) (sessions : List (List ℕ)) (all_complete : List (List Sent)) (new : Subscribed)
    (f : Fault) : Type 0 where
  first : List Sent
  others : List (List Sent)
  front : IsHandled (first ∷ others) all_complete
  state : Subscribed
  takes : take_sessions now old (first ∷ others) ≡ Running state
  left : IsLeft state new
  closed : new.closed ≡ true
  why : StopsBy now sessions all_complete (first ∷ others) state f (cause f)

in_first : (now : ℤ) (bytes : List ℕ) (sessions : List (List ℕ)) (complete front : List Sent) (all_complete : List (List Sent))
    (s : Subscribed) (f : Fault) (c : Cause)
    → StopsBy now (bytes ∷ []) (complete ∷ []) (front ∷ []) s f c
    → StopsBy now (bytes ∷ sessions) (complete ∷ all_complete) (front ∷ []) s f c
in_first now bytes sessions complete front all_complete s f OutOfMemory why = tt
in_first now bytes sessions complete front all_complete s f SpoolFailed why = tt
in_first now bytes sessions complete front all_complete s f StatementRefused why = why
in_first now bytes sessions complete front all_complete s f HeaderTooLarge why = why
in_first now bytes sessions complete front all_complete s f ForeignBytes why = why
in_first now bytes sessions complete front all_complete s f NextMessage why = why
in_first now bytes sessions complete front all_complete s f NeverAnswered why = why

in_later : (now : ℤ) (bytes : List ℕ) (sessions : List (List ℕ)) (complete first : List Sent) (others all_complete : List (List Sent))
    (s : Subscribed) (f : Fault) (c : Cause)
    → StopsBy now sessions all_complete (first ∷ others) s f c
    → StopsBy now (bytes ∷ sessions) (complete ∷ all_complete) (complete ∷ first ∷ others) s f c
in_later now bytes sessions complete first others all_complete s f OutOfMemory why = tt
in_later now bytes sessions complete first others all_complete s f SpoolFailed why = tt
in_later now bytes sessions complete first others all_complete s f StatementRefused why = (why.0, (refl, why.1), why.2, why.3, why.4, why.5)
in_later now bytes sessions complete first others all_complete s f HeaderTooLarge why = why
in_later now bytes sessions complete first others all_complete s f ForeignBytes why = (refl, why)
in_later now bytes sessions complete first others all_complete s f NextMessage why = (why.0, (refl, why.1), why.2, why.3)
in_later now bytes sessions complete first others all_complete s f NeverAnswered why = why

until_from : (now : ℤ) (v : Version) (history : List Transaction) (sessions : List (List ℕ)) (all_complete : List (List Sent))
    (from : Progress) (old new : Subscribed) (f : Fault)
    → AreIncoming v history from sessions all_complete → AreFedUntil now old sessions new f
    → IsTakenUntil now old sessions all_complete new f
until_from now v history [] all_complete from old new f sent so = absurd so
until_from now v history (bytes ∷ sessions) [] from old new f sent so = absurd sent
until_from now v history (bytes ∷ sessions) (complete ∷ all_complete) from old new f sent (inl stops) =
    let here = fed_stopped read_again now v history sent.0.0 bytes complete sent.0.2 old new f stops in
    record {
      first = here.front;
      others = [];
      front = here.handled;
      state = here.state;
      takes = ap (λ o. then_run o (λ next. Running next)) here.takes;
      left = here.left;
      closed = stops.closed;
      why = in_first now bytes sessions complete here.front all_complete here.state f (cause f) here.why;
    }
until_from now v history (bytes ∷ sessions) (complete ∷ all_complete) from old new f sent (inr so) =
    let one = fed_session_whole read_again now v history sent.0.0 bytes complete old so.0 sent.0.2 so.1 in
    let rest = until_from now v history sessions all_complete _ so.0 new f sent.1 so.2 in
    let same : disconnect one.0 ≡ disconnect so.0 = sym (ap disconnect one.2) in
    record {
      first = complete;
      others = rest.first ∷ rest.others;
      front = (refl, rest.front);
      state = rest.state;
      takes = ap (λ o. then_run o (λ next. take_sessions now next (rest.first ∷ rest.others))) one.1
          ∙ ap (λ (s : Subscribed). then_run (take_all now s rest.first) (λ next. take_sessions now next rest.others)) same ∙ rest.takes;
      left = rest.left;
      closed = rest.closed;
      why = in_later now bytes sessions complete rest.first rest.others all_complete rest.state f (cause f) rest.why;
    }

all_handled : (all_complete : List (List Sent)) → IsHandled all_complete all_complete
all_handled [] = tt
all_handled (complete ∷ []) = ([], sym (append-nil complete))
all_handled (complete ∷ next ∷ all_complete) = (refl, all_handled (next ∷ all_complete))

left_of : (state new : Subscribed) → new ≡ record state { partial = new.partial; copy_done = new.copy_done } → IsLeft state new
left_of state new is = record {
  tables = ap (λ (x : Subscribed). x.tables) is;
  progress = ap progress_of is;
  settings = record {
    version = ap (λ (x : Subscribed). x.version) is;
    max_frame = ap (λ (x : Subscribed). x.max_frame) is;
    limit = ap (λ (x : Subscribed). x.limit) is;
  };
  replies = ap (λ (x : Subscribed). x.replies) is;
}

pub fed_followed : (now : ℤ) (history : List Transaction) (sessions : List (List ℕ)) (all_complete : List (List Sent))
    (old new : Subscribed) (answered : Option Fault)
    → IsSent history old sessions all_complete → AreFed now old sessions new answered
    → IsFollowed now history sessions all_complete old new answered
fed_followed now history sessions all_complete old new None is so =
    let whole = whole_from now old.version history sessions all_complete (starting_by is.start (progress_of old)) old new is.sent so in
    taking_followed now history sessions all_complete all_complete old whole.state new None is (all_handled all_complete) whole.takes
    (left_of whole.state new whole.left) whole.left (refl, whole.none)
fed_followed now history sessions all_complete old new (Some f) is so =
    let until = until_from now old.version history sessions all_complete (starting_by is.start (progress_of old)) old new f is.sent so in
    taking_followed now history sessions all_complete (until.first ∷ until.others) old until.state new (Some f) is until.front until.takes
    until.left until.closed until.why

-- at any cut
pub confirmed_stored : (now : ℤ) (history : List Transaction) (old new : Subscribed) (sessions : List (List ℕ)) (bytes more : List ℕ)
    (later : List (List ℕ)) (all_complete : List (List Sent)) (answered : Option Fault)
    → IsSent history old (sessions ++ (bytes ++ more) ∷ later) all_complete → AreSafeReplies history old
    → AreFed now old (sessions ++ bytes ∷ []) new answered
    → IsSafeFor history new × AreSafeReplies history new × ((clock : ℤ) (ask : Bool) → AreSafeReplies history (with_status clock ask new))
confirmed_stored now history old new sessions bytes more later all_complete answered is before fed =
    let front = sent_front history old sessions bytes more later all_complete is in
    let followed = fed_followed now history (sessions ++ bytes ∷ []) front.0 old new answered front.1 fed in
    let safely = followed.safely in
    let replies = safely.replies before in
    (safely.safe, replies, λ clock ask. status_is_safe history clock ask new safely.safe replies)
