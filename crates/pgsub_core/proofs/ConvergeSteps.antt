-- Two sides that are followed and compared, whatever tables their stores hold.
use Rattle.std.specs.Prelude.{◌==◌}
use Rattle.std.proofs.lemmas.Bool.Decides.{nat_tests}
use Rattle.std.proofs.Common.{◌≡◌, ◌≢◌, ◌⊎◌, inl, inr, ℕ, ℤ, List, Option, Some, None, Bool, true}
use Rattle.std.proofs.Common.{false, cond, Result, Ok, Err, IfOk, IfErr, refl, sym, ap, subst, ◌∙◌}
use Rattle.std.proofs.Common.{arith}
use Rattle.pgapply.specs.Value.{Tables}
use Rattle.pgapply.specs.Dump.{dump}
use Rattle.pgapply.specs.Taken.{Stays, Shows}
use Rattle.pgapply.specs.declared.rows.DumpRow.{DumpRow}
use Rattle.pgsub_core.specs.declared.converging.Side.TheVariants.{Left, Right}
use Rattle.pgsub_core.specs.declared.converging.ConvergeFault.{ConvergeFault}
use Rattle.pgsub_core.specs.declared.converging.Verdict.{Verdict}
use Rattle.pgsub_core.specs.declared.converging.Verdict.TheVariants.{Same, Positions, Rows}
use Rattle.pgsub_core.specs.declared.fault.Fault.{Fault}
use Rattle.pgsub_core.specs.Machine.Faults.{IsReadFault}
use Rattle.pgsub_core.specs.Server.History.{Transaction}
use Rattle.pgsub_core.specs.Server.Stream.{Sent}
use Rattle.pgsub_core.specs.Server.Reached.{Progress}
use Rattle.pgsub_core.specs.Server.Sessions.{reached_all}
use Rattle.pgsub_core.specs.Subscriber.Subscribed.{Subscribed, IsSafeFor, progress_of}
use Rattle.pgsub_core.specs.Subscriber.Handled.{IsFollowed}
use Rattle.pgsub_core.specs.Subscriber.SubscriberValue.{SubscriberValue, seen}
use Rattle.pgsub_core.specs.Subscriber.Following.{AreFed, FeedsSessions}
use Rattle.pgsub_core.specs.Subscriber.Verdicts.{IsVerdictOf, IsVerdict, SideIsFollowed, SideFails}
use Rattle.pgsub_core.specs.Subscriber.Converging.{ShowsFed, FailsFed, Converges, Agree}
use Rattle.pgsub_core.specs.Subscriber.Converging.{FollowsLeft, FollowsRight, agreed}
use Rattle.pgsub_core.specs.Subscriber.Converging.{position_reached}
use Rattle.pgsub_core.proofs.Verdicts.{one_history}
use Rattle.pgsub_core.proofs.Followed.{fed_followed}

side_followed : (now : ℤ) (sessions : List (List ℕ)) (old new : Subscribed) (answered : Option Fault) → AreFed now old sessions new answered
    → SideIsFollowed now sessions old new answered
side_followed now sessions old new answered fed =
    record { fed = fed; followed = λ history all_complete is. fed_followed now history sessions all_complete old new answered is fed }

side_fails : (now : ℤ) (sessions : List (List ℕ)) (old new : Subscribed) (f : Fault)
    → AreFed now old sessions new (Some f) ⊎ (IsReadFault f × AreFed now old sessions new None) → SideFails now sessions old new f
side_fails now sessions old new f (inl fed) = inl (side_followed now sessions old new (Some f) fed)
side_fails now sessions old new f (inr fed) = inr (fed.0, side_followed now sessions old new None fed.1)

-- where all was handled, the position is what all of it reaches
stands_at : (now : ℤ) (history : List Transaction) (sessions : List (List ℕ)) (all_complete : List (List Sent)) (old new : Subscribed)
    → IsFollowed now history sessions all_complete old new None
    → new.position ≡ position_reached old all_complete
stands_at now history sessions all_complete old new f =
    ap (λ (p : Progress). p.position) (f.safely.progress ∙ ap (reached_all (progress_of old)) f.why.0)

module _ (history : List Transaction) (left right : Subscribed) where
  agreed_by : (v : Verdict) (p q : ℕ) → IsSafeFor history left → IsSafeFor history right → IsVerdict left right v → left.position ≡ p
      → right.position ≡ q → (b : Bool) → (p == q) ≡ b
      → v ≡ cond b (Same p) (Positions p q)
  agreed_by (Same n) p q safe safe' is at at' true test = ap Same (sym is.0 ∙ at)
  agreed_by (Same n) p q safe safe' is at at' false test =
      absurd (let differ : p ≢ q = grind (arith, nat_tests) in differ (sym at ∙ is.0 ∙ sym is.1 ∙ at'))
  agreed_by (Positions n m) p q safe safe' is at at' true test =
      absurd (let same : p ≡ q = grind (arith, nat_tests) in is.2 (sym is.0 ∙ at ∙ same ∙ sym at' ∙ is.1))
  agreed_by (Positions n m) p q safe safe' is at at' false test =
      ap (λ k. Positions k m) (sym is.0 ∙ at) ∙ ap (λ k. Positions p k) (sym is.1 ∙ at')
  agreed_by (Rows n) p q safe safe' is at at' b test = absurd ((one_history history left right (Rows n) safe safe' is).0 n refl)

  verdict_agreed : (v : Verdict) (p q : ℕ) → IsSafeFor history left → IsSafeFor history right → IsVerdict left right v → left.position ≡ p
      → right.position ≡ q → v ≡ agreed p q
  verdict_agreed v p q safe safe' is at at' = agreed_by v p q safe safe' is at at' (p == q) refl

module _ {C : Type 0} (holds : C → Tables → Type 0) (place : C → ℕ) (now : ℤ) where
  pub fails_first : (old new : SubscriberValue C) (sessions : List (List ℕ)) (f : Fault)
      → FeedsSessions holds place now old sessions new (Some f) → FailsFed holds place now old sessions new f
  fails_first old new sessions f fed tables h = let a = fed tables h in (a.0, a.1, inl a.2)

  pub shows_rows : {T : Type 0} (r : Result T Fault) (items : T → List DumpRow) (old mid new : SubscriberValue C) (sessions : List (List ℕ))
      → FeedsSessions holds place now old sessions mid None
      → Stays holds mid.applied.store new.applied.store → ((tables : Tables) → seen place new tables ≡ seen place mid tables)
      → IfOk r (λ x. Shows holds mid.applied.store (items x)) → IfOk r (λ x. ShowsFed holds place now old sessions new (items x))
  shows_rows (Ok x) items old mid new sessions fed stays same shows = λ tables h.
      let a = fed tables h in (
        a.0,
        stays a.0 a.1,
        subst (λ (s : Subscribed). AreFed now (seen place old tables) sessions s None) (sym (same a.0)) a.2,
        shows a.0 a.1,
      )
  shows_rows (Err f) items old mid new sessions fed stays same shows = tt

  pub fails_rows : {T : Type 0} (r : Result T Fault) (old mid new : SubscriberValue C) (sessions : List (List ℕ))
      → FeedsSessions holds place now old sessions mid None
      → Stays holds mid.applied.store new.applied.store → ((tables : Tables) → seen place new tables ≡ seen place mid tables)
      → IfErr r IsReadFault → IfErr r (FailsFed holds place now old sessions new)
  fails_rows (Ok x) old mid new sessions fed stays same fault = tt
  fails_rows (Err f) old mid new sessions fed stays same fault = λ tables h.
      let a = fed tables h in
      (a.0, stays a.0 a.1, inr (fault, subst (λ (s : Subscribed). AreFed now (seen place old tables) sessions s None) (sym (same a.0)) a.2))

  -- one side alone, whatever became of the other
  pub left_stopped : (old new : SubscriberValue C) (sessions : List (List ℕ)) (f : Fault) → FailsFed holds place now old sessions new f
      → FollowsLeft holds place now old sessions new (Some (Left, f))
  left_stopped old new sessions f fails tables h = let a = fails tables h in
      (a.0, a.1, side_fails now sessions (seen place old tables) (seen place new a.0) f a.2)

  pub left_read : (old new : SubscriberValue C) (sessions : List (List ℕ)) (rows : List DumpRow)
      → ShowsFed holds place now old sessions new rows → FollowsLeft holds place now old sessions new None
  left_read old new sessions rows shows tables h = let a = shows tables h in
      (a.0, a.1, side_followed now sessions (seen place old tables) (seen place new a.0) None a.2)

  pub right_stopped : (old new : SubscriberValue C) (sessions : List (List ℕ)) (f : Fault) → FailsFed holds place now old sessions new f
      → FollowsRight holds place now old sessions new (Some (Right, f))
  right_stopped = left_stopped

  pub right_read : (old new : SubscriberValue C) (sessions : List (List ℕ)) (rows : List DumpRow)
      → ShowsFed holds place now old sessions new rows → FollowsRight holds place now old sessions new None
  right_read = left_read

  pub right_untouched : (s : SubscriberValue C) (sessions : List (List ℕ)) (f : Fault)
      → FollowsRight holds place now s sessions s (Some (Left, f))
  right_untouched s sessions f tables h = (tables, h, refl)

module _ {C D : Type 0} (holds : C → Tables → Type 0) (place : C → ℕ) (holds' : D → Tables → Type 0) (place' : D → ℕ) (now : ℤ) where
  pub left_fails : (left left' : SubscriberValue C) (right : SubscriberValue D) (sessions others : List (List ℕ)) (f : Fault)
      → FailsFed holds place now left sessions left' f
      → Converges holds place holds' place' now left sessions left' right others right (Err (record { side = Left; fault = f }))
  left_fails left left' right sessions others f fails tables h tables' k =
      let a = fails tables h in
      (a.0, a.1, tables', k, side_fails now sessions (seen place left tables) (seen place left' a.0) f a.2, refl, tt)

  pub right_fails : (left left' : SubscriberValue C) (right right' : SubscriberValue D) (sessions others : List (List ℕ))
      (rows : List DumpRow) (f : Fault) → ShowsFed holds place now left sessions left' rows
      → FailsFed holds' place' now right others right' f
      → Converges holds place holds' place' now left sessions left' right others right' (Err (record { side = Right; fault = f }))
  right_fails left left' right right' sessions others rows f shows fails tables h tables' k =
      let a = shows tables h in
      let b = fails tables' k in (
        a.0,
        a.1,
        b.0,
        b.1,
        side_followed now sessions (seen place left tables) (seen place left' a.0) None a.2,
        side_fails now others (seen place' right tables') (seen place' right' b.0) f b.2,
        tt,
      )

  pub both_shown : (left left' : SubscriberValue C) (right right' : SubscriberValue D) (sessions others : List (List ℕ))
      (rows rows' : List DumpRow) → ShowsFed holds place now left sessions left' rows
      → ShowsFed holds' place' now right others right' rows' → (p q : ℕ) (shown shown' : List DumpRow) (v : Verdict)
      → p ≡ place left'.applied.store → q ≡ place' right'.applied.store → shown ≡ rows → shown' ≡ rows'
      → IsVerdictOf p q shown shown' v → Converges holds place holds' place' now left sessions left' right others right' (Ok v)
  both_shown left left' right right' sessions others rows rows' shows shows' p q shown shown' v at at' are are' is tables h tables' k =
      let a = shows tables h in
      let b = shows' tables' k in
      let is₁ : IsVerdictOf (place left'.applied.store) q shown shown' v = subst (λ n. IsVerdictOf n q shown shown' v) at is in
      let is₂ : IsVerdictOf (place left'.applied.store) (place' right'.applied.store) shown shown' v =
      subst (λ n. IsVerdictOf (place left'.applied.store) n shown shown' v) at' is₁ in
      let is₃ : IsVerdictOf (place left'.applied.store) (place' right'.applied.store) rows shown' v =
      subst (λ (rs : List DumpRow). IsVerdictOf (place left'.applied.store) (place' right'.applied.store) rs shown' v) are is₂ in
      let is₄ : IsVerdictOf (place left'.applied.store) (place' right'.applied.store) rows rows' v =
      subst (λ (rs : List DumpRow). IsVerdictOf (place left'.applied.store) (place' right'.applied.store) rows rs v) are' is₃ in
      let is₅ : IsVerdictOf (place left'.applied.store) (place' right'.applied.store) (dump a.0) rows' v =
      subst (λ (rs : List DumpRow). IsVerdictOf (place left'.applied.store) (place' right'.applied.store) rs rows' v) a.3 is₄ in (
        a.0,
        a.1,
        b.0,
        b.1,
        side_followed now sessions (seen place left tables) (seen place left' a.0) None a.2,
        side_followed now others (seen place' right tables') (seen place' right' b.0) None b.2,
        subst (λ (rs : List DumpRow). IsVerdictOf (place left'.applied.store) (place' right'.applied.store) (dump a.0) rs v) b.3 is₅,
      )

  -- over one history
  pub agrees : (left left' : SubscriberValue C) (right right' : SubscriberValue D) (sessions others : List (List ℕ))
      (answered : Result Verdict ConvergeFault)
      → Converges holds place holds' place' now left sessions left' right others right' answered
      → Agree holds place holds' place' left sessions right others answered
  agrees left left' right right' sessions others (Err f) converges history left_complete right_complete tables tables' h k is is' = tt
  agrees left left' right right' sessions others (Ok v) converges history left_complete right_complete tables tables' h k is is' =
      let c = converges tables h tables' k in
      let a = c.4.followed history left_complete is in
      let b = c.5.followed history right_complete is' in
      verdict_agreed history (seen place left' c.0) (seen place' right' c.2) v (position_reached (seen place left tables) left_complete)
      (position_reached (seen place' right tables') right_complete) a.safely.safe b.safely.safe c.6
      (stands_at now history sessions left_complete (seen place left tables) (seen place left' c.0) a)
      (stands_at now history others right_complete (seen place' right tables') (seen place' right' c.2) b)
