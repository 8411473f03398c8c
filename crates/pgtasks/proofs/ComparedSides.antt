-- How the comparison of two subscribers ends, first over any stores and then over two new ones.
use Rattle.std.proofs.Common.{◌≡◌, ◌⊎◌, inl, inr, List, ℕ, Option, Some, None, Result, Ok, Err}
use Rattle.std.proofs.Common.{IfOk, IfErr, ap, sym, subst, ◌∙◌}
use Rattle.std.specs.FinMap as map
use Rattle.pgapply.specs.Value.{Tables}
use Rattle.pgorder.specs.declared.Version.{Version}
use Rattle.pgsub_core.specs.declared.converging.ConvergeFault.{ConvergeFault}
use Rattle.pgsub_core.specs.declared.converging.Side.{Side}
use Rattle.pgsub_core.specs.declared.converging.Side.TheVariants.{Left, Right}
use Rattle.pgsub_core.specs.declared.converging.Verdict.{Verdict}
use Rattle.pgsub_core.specs.declared.fault.Fault.{Fault}
use Rattle.pgwire.specs.declared.session.Session.{Session}
use Rattle.pgsub_core.specs.Subscriber.Converging.{Converges, FollowsLeft, FollowsRight}
use Rattle.pgsub_core.specs.Subscriber.Converging.{OnceLeftIsRead}
use Rattle.pgsub_core.specs.Machine.Faults.{IsReadFault}
use Rattle.pgsub_core.specs.Subscriber.Subscribed.{Subscribed, bytes_of}
use Rattle.pgsub_core.specs.Subscriber.SubscriberValue.{SubscriberValue, seen}
use Rattle.pgsub_core.specs.Subscriber.Verdicts.{SideIsFollowed, SideFails}
use Rattle.pgtasks.specs.Compared.{Stops, StopsAt, EndsWith, EndsOver}
use Rattle.pgsub_cli.specs.Followed.{Leaves, new_subscriber, subscriber_over}
use Rattle.pgsub_cli.specs.Limits.{clock, default_limits}
use Rattle.pgsub_cli.specs.Runs.{AreComparedAs, SideStops, Uncompared, IsUncompared}

stops_by : (sessions : List (List ℕ)) (old new : Subscribed) (f told : Fault) → told ≡ f → SideFails clock sessions old new f
    → Stops old sessions told
stops_by sessions old new f told is (inl followed) =
    inr (new, subst (λ (g : Fault). SideIsFollowed clock sessions old new (Some g)) (sym is) followed)
stops_by sessions old new f told is (inr read) = inl (subst IsReadFault (sym is) read.0)

module _ {C D : Type 0} (holds : C → Tables → Type 0) (place : C → ℕ) (holds' : D → Tables → Type 0) (place' : D → ℕ)
    (serves serves' : Type 0) where
  pub compared_ends : (left left' : SubscriberValue C) (right right' : SubscriberValue D) (sessions others : List (List ℕ)) (v : Verdict)
      → Converges holds place holds' place' clock left sessions left' right others right' (Ok v)
      → EndsOver holds place holds' place' left sessions right others (Ok v)
  compared_ends left left' right right' sessions others v converges tables h tables' k =
      let c = converges tables h tables' k in
      (seen place left' c.0, seen place' right' c.2, c.4, c.5, c.6)

  pub left_ends : (side : Side) (left left' : SubscriberValue C) (right : SubscriberValue D) (sessions others : List (List ℕ))
      (f told : Fault) → side ≡ Left
      → IsReadFault told ⊎ ((told ≡ f) × serves) → (serves → FollowsLeft holds place clock left sessions left' (Some (side, f)))
      → EndsOver holds place holds' place' left sessions right others (Err (record { side = side; fault = told }))
  left_ends Left left left' right sessions others f told is (inl read) followed tables h tables' k = inl read
  left_ends Left left left' right sessions others f told is (inr own) followed tables h tables' k =
      let a = followed own.1 tables h in
      stops_by sessions (seen place left tables) (seen place left' a.0) f told own.0 a.2
  left_ends Right left left' right sessions others f told is confirmed followed tables h tables' k = absurd cc

  pub right_ends : (side : Side) (left left' : SubscriberValue C) (right right' : SubscriberValue D) (sessions others : List (List ℕ))
      (f told : Fault) → side ≡ Right
      → OnceLeftIsRead serves (Some (side, f)) → (serves → FollowsLeft holds place clock left sessions left' (Some (side, f)))
      → IsReadFault told ⊎ ((told ≡ f) × serves') → (serves' → FollowsRight holds' place' clock right others right' (Some (side, f)))
      → EndsOver holds place holds' place' left sessions right others (Err (record { side = side; fault = told }))
  right_ends Right left left' right right' sessions others f told is served read (inl lost) followed tables h tables' k =
      let a = read served tables h in ((seen place left' a.0, a.2), inl lost)
  right_ends Right left left' right right' sessions others f told is served read (inr own) followed tables h tables' k =
      let a = read served tables h in
      let b = followed own.1 tables' k in
      ((seen place left' a.0, a.2), stops_by others (seen place' right tables') (seen place' right' b.0) f told own.0 b.2)
  right_ends Left left left' right right' sessions others f told is served read confirmed followed tables h tables' k = absurd cc

module _ (version : Version) where
  leaves : (sessions : List (List ℕ)) (state : Subscribed) (stopped : Option Fault)
      → SideIsFollowed clock sessions (new_subscriber default_limits version) state stopped
      → Leaves default_limits version sessions stopped state
  leaves sessions state stopped s = record { fed = s.fed; followed = s.followed }

  side_stops : (sessions : List Session) (f : Fault) → Stops (new_subscriber default_limits version) (bytes_of sessions) f
      → SideStops version sessions f
  side_stops sessions f (inl read) = inl read
  side_stops sessions f (inr led) = inr (led.0, leaves (bytes_of sessions) led.0 (Some f) led.1)

  stops_at : (left right : List Session) (side : Side) (f : Fault)
      → StopsAt side (new_subscriber default_limits version) (bytes_of left) (new_subscriber default_limits version) (bytes_of right) f
      → Uncompared version left right side f
  stops_at left right Left f stops = side_stops left f stops
  stops_at left right Right f stops = ((stops.0.0, leaves (bytes_of left) stops.0.0 None stops.0.1), side_stops right f stops.1)

  pub compared_as : (left right : List Session) (r : Result Verdict ConvergeFault)
      → EndsWith (new_subscriber default_limits version) (bytes_of left) (new_subscriber default_limits version) (bytes_of right) r
      → IfOk r (AreComparedAs version left right)
  compared_as left right (Ok v) e = (e.0, e.1, leaves (bytes_of left) e.0 None e.2, leaves (bytes_of right) e.1 None e.3, e.4)
  compared_as left right (Err f) e = tt

  pub uncompared : (left right : List Session) (r : Result Verdict ConvergeFault)
      → EndsWith (new_subscriber default_limits version) (bytes_of left) (new_subscriber default_limits version) (bytes_of right) r
      → IfErr r (IsUncompared version left right)
  uncompared left right (Ok v) e = tt
  uncompared left right (Err f) e = stops_at left right f.side f.fault e

  -- over an empty store a subscriber is a new one
  pub is_new : (state : Subscribed) (position : ℕ) → state ≡ subscriber_over default_limits map.empty position version → position ≡ 0
      → state ≡ new_subscriber default_limits version
  is_new state position is zero = is ∙ ap (λ (n : ℕ). subscriber_over default_limits map.empty n version) zero

  -- where a store can't be made, neither side was followed
  pub ends_as_made : (left right : Subscribed) (sessions others : List (List ℕ)) (made : Result (Result Verdict ConvergeFault) Fault)
      (r : Result Verdict ConvergeFault)
      → IfOk made (λ c. r ≡ c) → IfErr made (λ f. r ≡ Err (record { side = Left; fault = f }))
      → IfOk made (EndsWith left sessions right others) → IfErr made IsReadFault → EndsWith left sessions right others r
  ends_as_made left right sessions others (Ok c) r is unmade ends read =
      subst (λ (e : Result Verdict ConvergeFault). EndsWith left sessions right others e) (sym is) ends
  ends_as_made left right sessions others (Err f) r is unmade ends read =
      subst (λ (e : Result Verdict ConvergeFault). EndsWith left sessions right others e) (sym unmade) (inl read)

  pub ends_as_new : (left right : Subscribed) (sessions others : List (List ℕ)) (r : Result Verdict ConvergeFault)
      → right ≡ new_subscriber default_limits version → EndsWith left sessions right others r
      → EndsWith left sessions (new_subscriber default_limits version) others r
  ends_as_new left right sessions others r is e = subst (λ (s : Subscribed). EndsWith left sessions s others r) is e

  pub ends_of_new : (left : Subscribed) (sessions others : List (List ℕ)) (r : Result Verdict ConvergeFault)
      → left ≡ new_subscriber default_limits version → EndsWith left sessions (new_subscriber default_limits version) others r
      → EndsWith (new_subscriber default_limits version) sessions (new_subscriber default_limits version) others r
  ends_of_new left sessions others r is e =
      subst (λ (s : Subscribed). EndsWith s sessions (new_subscriber default_limits version) others r) is e
