-- What a run leaves of its store, and what a crash may leave of that.
use Rattle.std.proofs.Common.{◌≡◌, ◌≢◌, ◌≤◌, ◌∙◌, ◌++◌, inl, inr, ℕ, List, [], ◌∷◌, Option, Some}
use Rattle.std.proofs.Common.{None, Result, Ok, Err, OnOk, IfErr, refl, sym, ap, subst, arith}
use Rattle.std.proofs.Common.{append-nil}
use Rattle.pgcommand.specs.declared.limits.Limits.{Limits}
use Rattle.pgorder.specs.declared.Version.{Version}
use Rattle.pgapply.specs.Value.{Tables}
use Rattle.pgapply.specs.Taken as held
use Rattle.pgsub_core.specs.declared.fault.Fault.{Fault}
use Rattle.pgsub_core.specs.declared.fault.Fault.TheVariants as fault
use Rattle.pgsub_core.specs.Subscriber.Applied.{Applied, IsKept}
use Rattle.pgsub_core.specs.Subscriber.Crashing.{LeavesOldOr, FedOver, StandsAsFed, IsLeftSafely}
use Rattle.pgsub_core.specs.Subscriber.Following.{AreFed, FedSessionsAreFollowed, FeedsSessions}
use Rattle.pgsub_core.specs.Subscriber.Safely.{IsSent}
use Rattle.pgsub_core.specs.Subscriber.Handled.{fault_in}
use Rattle.pgsub_core.specs.Server.History.{Transaction, tables_as_of}
use Rattle.pgsub_core.specs.Subscriber.Safe.{NothingBetween}
use Rattle.pgsub_core.specs.Server.Stream.{Sent}
use Rattle.pgsub_core.specs.Subscriber.Subscribed.{Subscribed}
use Rattle.pgsub_core.specs.Subscriber.SubscriberValue.{SubscriberValue, seen}
use Rattle.pgsub_core.proofs.FollowSteps.{follows}
use Rattle.pgsub_core.proofs.SessionCuts.{sent_front}
use Rattle.pgsub_cli.specs.declared.storing.Incoming.{Incoming}
use Rattle.pgsub_cli.specs.declared.storing.Incoming.TheVariants.{Sessions, Raw}
use Rattle.pgsub_cli.specs.Followed.{LeadsTo, subscriber_over}
use Rattle.pgsub_cli.specs.Limits.{clock}
use Rattle.pgsub_cli.specs.Runs.{AreRead, fault_of_feeding}
use Rattle.pgsub_cli.specs.StoreAfter.{BeginsOver, IsReadFrom, FeedsFile, FeedsIncoming, StandsFed}
use Rattle.pgsub_cli.specs.StoreAfter.{LeavesFileHistory, LeavesIncomingHistory, LeavesFronts}
use Rattle.pgsub_cli.specs.StoreAfter.{HoldsFed, HoldsOver, MayBeLeft, LosesNothing}
use Rattle.pgsub_cli.proofs.Came.{for_sessions}

-- ---- reading the rows afterwards changes nothing

module _ {R C : Type 0} (gives begins : R → List ℕ → Type 0) (failed : R → Type 0) (holds : C → Tables → Type 0) (place : C → ℕ)
    (limits : Limits) (old mid new : C) (at : place new ≡ place mid) where
  pub holds_still : held.Stays holds mid new → (input : Option (Version × Incoming R)) (stopped : Option Fault)
      → HoldsOver gives begins failed holds place limits input old mid stopped
      → HoldsOver gives begins failed holds place limits input old new stopped
  holds_still stays None stopped h = (h.0, (λ tables k. stays tables (h.1 tables k)), at ∙ h.2)
  holds_still stays (Some (version, incoming)) stopped h =
      for_sessions gives begins failed incoming stopped (λ sessions f. HoldsFed holds place limits version old sessions mid f)
      (λ sessions f. HoldsFed holds place limits version old sessions new f)
      (λ sessions f fed tables k. let a = fed tables k in (a.0, a.1, stays a.0.tables a.2, at ∙ a.3)) h

  module _ (reopens : C → C → Type 0) (back : (other : C) → reopens new other → reopens mid other) where
    pub left_still : (serves : C → Type 0) (input : Option (Version × Incoming R))
        → MayBeLeft gives begins failed holds place reopens serves limits input old mid
        → MayBeLeft gives begins failed holds place reopens serves limits input old new
    left_still serves None h = λ other r. h other (back other r)
    left_still serves (Some (version, incoming)) (begun, over, leaves) = (
      begun,
      over,
      λ other r. elim (leaves other (back other r)) [
        | inl was ↦ inl (was.0, at ∙ was.1)
        | inr fed ↦ let le : place mid ≤ place other = fed.1 in inr (fed.0, omega (arith, at, le), fed.2)
      ],
    )

    -- the subscriber as it would be over the new store
    module _ (history : List Transaction) (ended : SubscriberValue C) (is : ended.applied.store ≡ mid) where
      abbrev over_new : SubscriberValue C
      over_new = record ended { applied = record ended.applied { store = new } }

      there : place new ≡ place ended.applied.store
      there = at ∙ sym (ap place is)

      kept_over : (a : Applied C) → IsKept place a ended.applied → IsKept place a over_new.applied
      kept_over a k = record {
        position = there ∙ k.position;
        confirmed = k.confirmed;
        received = k.received;
        version = k.version;
        limit = k.limit;
        replies = k.replies;
      }

      again : (other : C) → reopens new other → reopens ended.applied.store other
      again other r = subst (λ (c : C). reopens c other) (sym is) (back other r)

      safely_over : (other : C) → IsLeftSafely holds place history ended other → IsLeftSafely holds place history over_new other
      safely_over other left =
          record {
            tables = left.tables;
            held = left.held;
            same = left.same;
            position = let le = left.position in omega (arith, there, le);
            stored = left.stored;
          }

    leaves_over : (incoming : Incoming R) (begun ended : SubscriberValue C) (is : ended.applied.store ≡ mid)
        → LeavesIncomingHistory gives begins failed holds place reopens incoming begun ended
        → LeavesIncomingHistory gives begins failed holds place reopens incoming begun (over_new [] ended is)
    leaves_over (Sessions sessions) begun ended is leaves = λ history all_complete tables h sent other r.
        safely_over history ended is other (leaves history all_complete tables h sent other (again history ended is other r))
    leaves_over (Raw file) begun ended is leaves = λ history bytes all_complete tables from h sent other r.
        safely_over history ended is other (leaves history bytes all_complete tables from h sent other (again history ended is other r))

    pub loses_still : (input : Option (Version × Incoming R)) → LosesNothing gives begins failed holds place reopens limits input old mid
        → LosesNothing gives begins failed holds place reopens limits input old new
    loses_still None h = λ other r. h other (back other r)
    loses_still (Some (version, incoming)) (begun, ended, over, is, stands, leaves) = (
      begun,
      over_new [] ended is,
      over,
      refl,
      (stands.0, (stands.1.0, kept_over [] ended is stands.1.0.applied stands.1.1, stands.1.2)),
      leaves_over incoming begun ended is leaves,
    )

-- ---- whatever is returned

kept_itself : {C : Type 0} (place : C → ℕ) (a : Applied C) → IsKept place a a
kept_itself place a = record { position = refl; confirmed = refl; received = refl; version = refl; limit = refl; replies = refl }

module _ {C : Type 0} (place : C → ℕ) (serves : C → Type 0) (fed : SubscriberValue C → Option Fault → Type 0)
    (new : SubscriberValue C) where
  stands_itself : (stopped : Option Fault) → fed new stopped → StandsFed place fed new
  stands_itself stopped so = (stopped, (new, kept_itself place new.applied, so))

  -- as one that was fed up to the fault that is returned
  pub stands_as : {A : Type 0} (r : Result A Fault) → OnOk r (serves new.applied.store) → (serves new.applied.store → fed new (fault_in r))
      → IfErr r (λ f. StandsAsFed place (λ s. fed s (Some f)) new)
      → StandsAsFed place (λ s. fed s (fault_in r)) new
  stands_as (Ok done) own so stands = (new, kept_itself place new.applied, so own)
  stands_as (Err f) own so stands = stands

  -- of a file, of which a read may fail
  pub stands_read : {A : Type 0} (r : Result A Fault) → OnOk r (serves new.applied.store) → (r ≡ Err fault.Read → serves new.applied.store)
      → (serves new.applied.store → fed new (fault_in r))
      → IfErr r (λ f. f ≢ fault.Read → StandsAsFed place (λ s. fed s (Some fault.Memory)) new) → StandsFed place fed new
  stands_read (Ok done) own failed so stands = stands_itself None (so own)
  stands_read (Err f) own failed so stands = by_fault f (λ e. failed (ap Err e)) so stands
    where
      by_fault : (f : Fault) → (f ≡ fault.Read → serves new.applied.store) → (serves new.applied.store → fed new (Some f))
          → (f ≢ fault.Read → StandsAsFed place (λ s. fed s (Some fault.Memory)) new) → StandsFed place fed new
      by_fault fault.Read failed so stands = stands_itself (Some fault.Read) (so (failed refl))
      by_fault f failed so stands = let other : f ≢ fault.Read = λ e. absurd (cc) in (Some fault.Memory, stands other)

-- ---- the bytes of a file, as a session of a history

more_stored : (history : List Transaction) (p q c : ℕ) → p ≤ q → NothingBetween history p c → NothingBetween history q c
more_stored [] p q c le nothing = tt
more_stored (t ∷ history) p q c le nothing =
    ((λ changes by. let ends : t.end ≤ p = nothing.0 changes by in omega (arith, le, ends)), more_stored history p q c le nothing.1)

module _ {R C : Type 0} (gives begins : R → List ℕ → Type 0) (failed : R → Type 0) (holds : C → Tables → Type 0) (place : C → ℕ)
    (file : R) where
  -- what was read is the first of them
  front_read : (bytes read : List ℕ) (stopped : Option Fault) → IsReadFrom gives begins file bytes
      → AreRead gives begins failed file read stopped → (more : List ℕ) × (bytes ≡ read ++ more)
  front_read bytes read None from (inl all) = ([], sym (from.all read all) ∙ sym (append-nil read))
  front_read bytes read None from (inr most) = from.first read most.0
  front_read bytes read (Some fault.Read) from so = from.first read so.0
  front_read bytes read (Some f) from so = from.first read so

  module _ (reopens : C → C → Type 0) (serves : C → Type 0) (old new : SubscriberValue C) where
    -- a subscriber that was fed the file
    followed : (s : SubscriberValue C) (stopped : Option Fault) → FeedsFile gives begins failed holds place file old s stopped
        → (history : List Transaction) (bytes : List ℕ) (all_complete : List (List Sent)) (tables : Tables)
        → IsReadFrom gives begins file bytes → holds old.applied.store tables
        → IsSent history (seen place old tables) (bytes ∷ []) all_complete
        → (tables' : Tables) × holds s.applied.store tables' × (tables_as_of history (place s.applied.store) ≡ Ok tables')
        × NothingBetween history (place s.applied.store) s.applied.confirmed
    followed s stopped fed history bytes all_complete tables from h is =
        let more = front_read bytes fed.0 stopped from fed.1 in
        let front = sent_front history (seen place old tables) [] fed.0 more.0 [] all_complete
        (subst (λ (b : List ℕ). IsSent history (seen place old tables) (b ∷ []) all_complete) more.1 is) in
        let done = follows holds place clock old s (fed.0 ∷ []) (fault_of_feeding stopped) fed.2 history front.0 tables h front.1 in
        (done.0, done.1, done.2.safely.safe.same, done.2.safely.safe.stored)

    pub file_leaves : LeavesOldOr place reopens serves
        (FedOver (λ s. FeedsFile gives begins failed holds place file old s (Some fault.Memory))) old.applied.store new.applied.store
        → held.Leaves holds place reopens old.applied.store → StandsFed place (FeedsFile gives begins failed holds place file old) new
        → LeavesFileHistory gives begins failed holds place reopens file old new
    file_leaves leaves start stands history bytes all_complete tables from h is other left =
        let s = stands.1.0 in
        let k = stands.1.1 in
        let stood = (followed s stands.0 stands.1.2 history bytes all_complete tables from h is).3 in
        let stored : NothingBetween history (place new.applied.store) new.applied.confirmed =
        subst (λ (p : ℕ). NothingBetween history p new.applied.confirmed) (sym k.position)
        (subst (NothingBetween history (place s.applied.store)) (sym k.confirmed) stood) in
        elim (leaves other left) [
          | inl was ↦
              let as_old = start other was.0 in
              let at : place other ≡ place new.applied.store = as_old.1 ∙ sym was.1 in
              record {
                tables = tables;
                held = as_old.0 tables h;
                same = ap (tables_as_of history) as_old.1 ∙ is.safe.same;
                position = omega (arith, at);
                stored = subst (λ (p : ℕ). NothingBetween history p new.applied.confirmed) (sym at) stored;
              }
          | inr fed ↦
              let done = followed fed.2.0 (Some fault.Memory) fed.2.2 history bytes all_complete tables from h is in
              record {
                tables = done.0;
                held = subst (λ (x : C). holds x done.0) fed.2.1 done.1;
                same = subst (λ (x : C). tables_as_of history (place x) ≡ Ok done.0) fed.2.1 done.2;
                position = fed.1;
                stored = more_stored history (place new.applied.store) (place other) new.applied.confirmed fed.1 stored;
              }
        ]

-- ---- the store of a run

-- what was fed to a subscriber over a store leads on from what that held
pub leads_on : {C : Type 0} (place : C → ℕ) → FedSessionsAreFollowed
    → (store : C) (limits : Limits) (version : Version) (old new : SubscriberValue C) → BeginsOver place limits version store old
    → (sessions : List (List ℕ)) (stopped : Option Fault) (tables tables' : Tables)
    → AreFed clock (seen place old tables) sessions (seen place new tables') stopped
    → LeadsTo (subscriber_over limits tables (place store) version) sessions stopped (seen place new tables')
leads_on place followed store limits version old new over sessions stopped tables tables' fed =
    let begun = subscriber_over limits tables (place store) version in
    let so : AreFed clock begun sessions (seen place new tables') stopped =
    subst (λ (s : Subscribed). AreFed clock s sessions (seen place new tables') stopped) (over.1 tables) fed in
    record {
      fed = so;
      followed = λ history all_complete sent.
          followed clock history sessions all_complete begun (seen place new tables') stopped sent so;
    }

pub began_with : {C : Type 0} (holds : C → Tables → Type 0) (place : C → ℕ) (store : C) (limits : Limits) (version : Version)
    (old : SubscriberValue C) → BeginsOver place limits version store old → (tables : Tables) → holds store tables
    → holds old.applied.store tables
began_with {C} holds place store limits version old over tables h = subst (λ (s : C). holds s tables) (sym over.0) h

module _ {R C : Type 0} (gives begins : R → List ℕ → Type 0) (failed : R → Type 0) (holds : C → Tables → Type 0) (place : C → ℕ) where
  module _ (store given : C) (limits : Limits) (version : Version) (incoming : Incoming R) (input : Option (Version × Incoming R))
      (is : input ≡ Some (version, incoming)) (old new : SubscriberValue C) (over : BeginsOver place limits version store old)
      (back : given ≡ new.applied.store) where
    pub holds_over : FedSessionsAreFollowed → (stopped : Option Fault)
        → FeedsIncoming gives begins failed holds place incoming old new stopped
        → HoldsOver gives begins failed holds place limits input store given stopped
    holds_over followed stopped fed =
        subst (λ (i : Option (Version × Incoming R)). HoldsOver gives begins failed holds place limits i store given stopped) (sym is)
        (subst (λ (s : C). HoldsOver gives begins failed holds place limits (Some (version, incoming)) store s stopped) (sym back)
        (for_sessions gives begins failed incoming stopped (λ sessions f. FeedsSessions holds place clock old sessions new f)
        (λ sessions f. HoldsFed holds place limits version store sessions new.applied.store f)
        (λ sessions f so tables h. let a = so tables (began_with holds place store limits version old over tables h) in
        (seen place new a.0, leads_on place followed store limits version old new over sessions f tables a.0 a.2, a.1, refl)) fed))

    module _ (reopens : C → C → Type 0) (serves : C → Type 0) where
      pub may_be_left : LeavesFronts gives begins failed holds place reopens serves incoming old old.applied.store new.applied.store
          → MayBeLeft gives begins failed holds place reopens serves limits input store given
      may_be_left leaves =
          subst (λ (i : Option (Version × Incoming R)). MayBeLeft gives begins failed holds place reopens serves limits i store given)
          (sym is) (
            old,
            over,
            subst (LeavesFronts gives begins failed holds place reopens serves incoming old store) (sym back)
                (subst (λ (s : C). LeavesFronts gives begins failed holds place reopens serves incoming old s new.applied.store) over.0
                leaves),
          )

      pub loses_nothing : StandsFed place (FeedsIncoming gives begins failed holds place incoming old) new
          → LeavesIncomingHistory gives begins failed holds place reopens incoming old new
          → LosesNothing gives begins failed holds place reopens limits input store given
      loses_nothing stands leaves =
          subst (λ (i : Option (Version × Incoming R)). LosesNothing gives begins failed holds place reopens limits i store given) (sym is)
          (old, new, over, sym back, stands, leaves)
