-- What is told after a part of a session's bytes.
use Rattle.std.proofs.Common.{◌≡◌, ◌≢◌, ◌∙◌, ◌++◌, inr, ℕ, ℤ, List, [], ◌∷◌, Bool, true, false}
use Rattle.std.proofs.Common.{cond, nat_eq, Option, Some, Result, Ok, Err, OnOk, OnErr, IfErr, refl}
use Rattle.std.proofs.Common.{sym, ap, subst, append_assoc, append-nil, arith, length}
use Rattle.std.proofs.Common.{length-append, length-take, take, ◌+◌, ◌≤◌}
use Rattle.std.specs.FinMap as map
use Rattle.std.specs.List.{AllByRecursion}
use Rattle.std.specs.Io.KnownBytes.{Appends, Consumes}
use Rattle.std.proofs.KnownBytes.{Appends-nil, Appends-trans, Consumes-nil, Consumes-trans}
use Rattle.pgwire.specs.Statuses.{status_frame}
use Rattle.pgapply.specs.Tallies.{Tally}
use Rattle.pgapply.specs.Value.{Tables}
use Rattle.pgsub_core.specs.declared.fault.Fault.{Fault}
use Rattle.pgsub_core.specs.declared.fault.Fault.TheVariants as fault
use Rattle.pgsub_core.specs.Subscriber.Subscribed.{Subscribed, disconnect, with_status}
use Rattle.pgsub_core.specs.Subscriber.SubscriberValue.{SubscriberValue, seen}
use Rattle.pgfollow.specs.declared.fault.FollowFault.{FollowFault}
use Rattle.pgfollow.specs.declared.fault.FollowFault.TheVariants as follow
use Rattle.pgfollow.specs.Live.{IsFront, IsShort, piece_len, IsGreeted, StopsGreeting, Step}
use Rattle.pgfollow.specs.Live.{IsFedPart, AreSteps, LiveSteps, LiveStops, LiveEnds, FollowsPiece}
use Rattle.pgfollow.specs.Live.{IsFollowedPart, StopsPart, StopsPiece, news, status_at, settled}
use Rattle.pgfollow.specs.Live.{parts_of, told_of, told_in}

-- ---- by what a call gives

pub on_ok_as : {A E : Type 0} (r : Result A E) (P Q : Type 0) → OnOk r P → (P → Q) → OnOk r Q
on_ok_as (Ok done) P Q h f = f h
on_ok_as (Err e) P Q h f = h

pub on_ok_both : {A E : Type 0} (r : Result A E) (P Q X : Type 0) → OnOk r P → OnOk r Q → (P → Q → X) → OnOk r X
on_ok_both (Ok done) P Q X p q f = f p q
on_ok_both (Err e) P Q X p q f = p

pub by_result : {A E : Type 0} (r : Result A E) (P Q X : Type 0) → OnOk r P → OnErr r Q → (P → X) → (Q → X) → X
by_result (Ok done) P Q X p q f g = f p
by_result (Err e) P Q X p q f g = g q

-- a write that failed
pub if_unwritten : {A : Type 0} (r : Result A FollowFault) (Z P Q : Type 0) (F : FollowFault → Type 0)
    → IfErr r (λ f. (f ≡ follow.Write) × Z) → OnErr r P → OnErr r Q → (P → Q → F follow.Write) → IfErr r F
if_unwritten (Ok done) Z P Q F h p q k = tt
if_unwritten (Err f) Z P Q F h p q k = subst F (sym h.0) (k p q)

-- what one read gives
pub short_front : (n : ℕ) (room : List ℕ) → length room ≡ piece_len → length (take n room) ≤ piece_len
short_front n room is = let l = length-take n room in omega (arith, l, is)

-- ---- statuses

module _ {C : Type 0} (place : C → ℕ) (old new : SubscriberValue C) where
  abbrev pub Appended : ℤ → Type 0
  Appended z = (tables : Tables) → seen place new tables ≡ with_status z false (seen place old tables)

  pub keeps_confirmed : (z : ℤ) → Appended z → new.applied.confirmed ≡ old.applied.confirmed
  keeps_confirmed z state = ap (λ (x : Subscribed). x.confirmed) (state map.empty)

  pub announced_replies : (z now : ℤ) (told : ℕ) → z ≡ now → nat_eq old.applied.confirmed told ≡ false → Appended z
      → new.applied.replies ≡ old.applied.replies ++ news now told old
  announced_replies z now told same moved state =
      ap (λ (x : Subscribed). x.replies) (state map.empty)
      ∙ ap (λ (b : Bool). old.applied.replies ++ cond b [] (status_frame (status_at z old))) (sym moved)
      ∙ ap (λ (t : ℤ). old.applied.replies ++ news t told old) same

  pub announced_state : (z : ℤ) → Appended z → (tables : Tables)
      → seen place new tables ≡ record (seen place old tables) { replies = new.applied.replies }
  announced_state z state tables =
      state tables ∙ ap (λ (r : List ℕ). record (seen place old tables) { replies = r })
      (sym (ap (λ (x : Subscribed). x.replies) (state tables)))

settled_beside : (ends : Bool) (s : Subscribed) (r : List ℕ) → settled ends (record s { replies = r }) ≡ settled ends s
settled_beside false s r = refl
settled_beside true s r = refl

settled_open : (ends : Bool) (s : Subscribed) → s.closed ≡ false → (settled ends s).closed ≡ false
settled_open false s h = h
settled_open true s h = refl

-- ---- the first status

module _ {C : Type 0} (place : C → ℕ) (z : ℤ) (old mid told : SubscriberValue C)
    (first : (tables : Tables) → seen place mid tables ≡ disconnect (seen place old tables)) (appended : Appended place mid told z) where
  -- the bytes that wait are the status of the start
  pub greeting : told.applied.replies ≡ status_frame (status_at z mid)
  greeting = ap (λ (x : Subscribed). x.replies) (appended map.empty)
      ∙ ap (λ (x : Subscribed). x.replies ++ status_frame (status_at z mid)) (first map.empty)

  module _ (new : SubscriberValue C) (cleared : (tables : Tables) → seen place new tables ≡ settled false (seen place told tables)) where
    started : (tables : Tables) → seen place new tables ≡ disconnect (seen place old tables)
    started tables = cleared tables ∙ ap (λ (x : Subscribed). settled false x) (appended tables)
        ∙ ap (λ (x : Subscribed). settled false x) (first tables)

    same_status : status_at z mid ≡ status_at z new
    same_status = ap (λ (x : Subscribed).
        record { written = x.received; flushed = x.confirmed; applied = x.confirmed; clock = z; ask = false })
        (first map.empty ∙ sym (started map.empty))

    pub is_greeted : (a b : Option (List ℕ)) → told.applied.store ≡ mid.applied.store → mid.applied.store ≡ old.applied.store
        → new.applied.store ≡ told.applied.store → Appends a b told.applied.replies → IsGreeted place a b old new
    is_greeted a b kept same stays wrote = (
      record { store = stays ∙ kept ∙ same; state = started },
      (z, subst (λ bs. Appends a b bs) (greeting ∙ ap status_frame same_status) wrote),
    )

  pub stops_greeting : (a b : Option (List ℕ)) (front : List ℕ) → mid.applied.store ≡ old.applied.store → IsFront front told.applied.replies
      → Appends a b front → StopsGreeting place a b old follow.Write
  stops_greeting a b front same is wrote = (mid, record { store = same; state = first }, z, front, subst (IsFront front) greeting is, wrote)

-- ---- a part

module _ {C : Type 0} (holds : C → Tables → Type 0) (place : C → ℕ) (reopens : C → C → Type 0) (serves : C → Type 0)
    (count : C → Tally) where
  module _ (z : ℤ) (old fed told : SubscriberValue C) (part : List ℕ) (is_fed : IsFedPart holds place reopens serves count z old part fed)
      (store : told.applied.store ≡ fed.applied.store) where
    -- what is to be told waits, and is written
    pub part_followed : (a b : Option (List ℕ)) (ends : Bool) (new : SubscriberValue C) (t : ℕ) → ends ≡ fed.framing.copy_done
        → t ≡ old.applied.confirmed → told.applied.replies ≡ fed.applied.replies ++ news z t fed
        → ((tables : Tables) → seen place told tables ≡ record (seen place fed tables) { replies = told.applied.replies })
        → new.applied.store ≡ told.applied.store
        → ((tables : Tables) → seen place new tables ≡ settled ends (seen place told tables)) → Appends a b told.applied.replies
        → IsFollowedPart holds place reopens serves count a b part old new
    part_followed a b ends new t done at replies' state stays settles wrote =
        let replies = subst (λ n. told.applied.replies ≡ fed.applied.replies ++ news z n fed) at replies' in
        let step : Step C = record { now = z; part = part; ends = ends; fed = fed; after = new } in (
          step,
          refl,
          refl,
          record {
            is_fed = is_fed;
            ends = done;
            store = stays ∙ store;
            state = λ tables. settles tables ∙ ap (settled ends) (state tables)
                ∙ settled_beside ends (seen place fed tables) told.applied.replies;
          },
          subst (λ bs. Appends a b bs) replies wrote,
        )

    -- or only its first bytes are
    pub part_untold : (a b : Option (List ℕ)) (new : SubscriberValue C) (front : List ℕ) (t : ℕ) → t ≡ old.applied.confirmed
        → told.applied.replies ≡ fed.applied.replies ++ news z t fed → told.applied.confirmed ≡ fed.applied.confirmed → new ≡ told
        → IsFront front told.applied.replies → Appends a b front → StopsPart holds place reopens serves count a b part old new follow.Write
    part_untold a b new front t at replies confirmed same is wrote = (
      z,
      front,
      record {
        fed = fed;
        is_fed = is_fed;
        is_front = subst (IsFront front) (subst (λ n. told.applied.replies ≡ fed.applied.replies ++ news z n fed) at replies) is;
        store = ap (λ (s : SubscriberValue C). s.applied.store) same ∙ store;
        confirmed = ap (λ (s : SubscriberValue C). s.applied.confirmed) same ∙ confirmed;
      },
      wrote,
    )

    -- or there is no memory for the status
    pub part_unannounced : (a b : Option (List ℕ)) (f : Fault) → b ≡ a → f ≡ fault.Memory → told.applied.confirmed ≡ fed.applied.confirmed
        → StopsPart holds place reopens serves count a b part old told (follow.Stream f)
    part_unannounced a b f kept memory confirmed = (
      kept,
      (
        z,
        inr (
          memory,
          record {
            fed = fed;
            is_fed = is_fed;
            is_front = (fed.applied.replies ++ news z old.applied.confirmed fed, refl);
            store = store;
            confirmed = confirmed;
          },
        ),
      ),
    )

  -- what failed was the writing
  pub unwritten_part : (a b : Option (List ℕ)) (part : List ℕ) (old new : SubscriberValue C) (f : FollowFault) → f ≡ follow.Write
      → StopsPart holds place reopens serves count a b part old new follow.Write
      → StopsPart holds place reopens serves count a b part old new f
  unwritten_part a b part old new f is stops = subst (λ x. StopsPart holds place reopens serves count a b part old new x) (sym is) stops

  pub open_after : (ends : Bool) (fed told new : SubscriberValue C)
      → ((tables : Tables) → seen place told tables ≡ record (seen place fed tables) { replies = told.applied.replies })
      → ((tables : Tables) → seen place new tables ≡ settled ends (seen place told tables)) → fed.framing.closed ≡ false
      → new.framing.closed ≡ false
  open_after ends fed told new state settles unclosed =
      ap (λ (x : Subscribed). x.closed) (settles map.empty)
      ∙ settled_open ends (seen place told map.empty) (ap (λ (x : Subscribed). x.closed) (state map.empty) ∙ unclosed)

  -- ---- parts, one after the other

  steps_join : (old mid new : SubscriberValue C) (a b : List (Step C)) → AreSteps holds place reopens serves count old a mid
      → AreSteps holds place reopens serves count mid b new → AreSteps holds place reopens serves count old (a ++ b) new
  steps_join old mid new [] b same are = subst (λ (s : SubscriberValue C). AreSteps holds place reopens serves count s b new) same are
  steps_join old mid new (first ∷ a) b before are = (before.0, steps_join first.after mid new a b before.1 are)

  parts_join : (a b : List (Step C)) → parts_of (a ++ b) ≡ parts_of a ++ parts_of b
  parts_join [] b = refl
  parts_join (first ∷ a) b = ap (λ bs. first.part ++ bs) (parts_join a b) ∙ sym (append_assoc first.part (parts_of a) (parts_of b))

  told_join : (old mid : SubscriberValue C) (a b : List (Step C)) → AreSteps holds place reopens serves count old a mid
      → told_in old (a ++ b) ≡ told_in old a ++ told_in mid b
  told_join old mid [] b same = ap (λ (s : SubscriberValue C). told_in s b) (sym same)
  told_join old mid (first ∷ a) b before =
      ap (λ bs. told_of old first ++ bs) (told_join first.after mid a b before.1)
      ∙ sym (append_assoc (told_of old first) (told_in first.after a) (told_in mid b))

  -- ---- a piece

  pub piece_none : (wrote : Option (List ℕ)) (s : SubscriberValue C) → FollowsPiece holds place reopens serves count wrote wrote [] s s
  piece_none wrote s = record { steps = []; are = refl; parts = refl; written = Appends-nil wrote }

  -- one part more
  pub piece_and : (w w₁ w₂ : Option (List ℕ)) (front part : List ℕ) (old mid new : SubscriberValue C)
      → FollowsPiece holds place reopens serves count w w₁ front old mid
      → IsFollowedPart holds place reopens serves count w₁ w₂ part mid new
      → FollowsPiece holds place reopens serves count w w₂ (front ++ part) old new
  piece_and w w₁ w₂ front part old mid new so followed =
      let step = followed.0 in
      subst (λ (s : SubscriberValue C). FollowsPiece holds place reopens serves count w w₂ (front ++ part) old s) followed.2 (record {
        steps = so.steps ++ step ∷ [];
        are = steps_join old mid step.after so.steps (step ∷ []) so.are (followed.3, refl);
        parts = parts_join so.steps (step ∷ []) ∙ ap (λ bs. bs ++ (step.part ++ [])) so.parts
            ∙ ap (λ bs. front ++ bs) (append-nil step.part ∙ followed.1);
        written = subst (λ bs. Appends w w₂ bs)
            (sym (told_join old mid so.steps (step ∷ []) so.are ∙ ap (λ bs. told_in old so.steps ++ bs) (append-nil (told_of mid step))))
            (Appends-trans w w₁ w₂ (told_in old so.steps) (told_of mid step) so.written followed.4);
      })

  -- before the first read
  pub live_none : (unread wrote : Option (List ℕ)) (s : SubscriberValue C)
      → LiveSteps holds place reopens serves count unread unread [] wrote wrote s s
  live_none unread wrote s =
      record { steps = []; each = tt; ahead = omega arith; are = refl; read = Consumes-nil unread; written = Appends-nil wrote }

  -- no part is longer than all of them
  parts_within : (steps : List (Step C)) (n : ℕ) → length (parts_of steps) ≤ n → n ≤ piece_len → AllByRecursion IsShort steps
  parts_within [] n le most = tt
  parts_within (first ∷ steps) n le most =
      let l : length (parts_of (first ∷ steps)) ≡ length first.part + length (parts_of steps) = length-append first.part (parts_of steps) in
      (omega (arith, l, le, most), parts_within steps n (omega (arith, l, le)) most)

  shorts_join : (a b : List (Step C)) → AllByRecursion IsShort a → AllByRecursion IsShort b → AllByRecursion IsShort (a ++ b)
  shorts_join [] b none short = short
  shorts_join (first ∷ a) b some short = (some.0, shorts_join a b some.1 short)

  -- a piece is read
  pub live_read : (a b c wrote wrote' : Option (List ℕ)) (piece : List ℕ) (old mid : SubscriberValue C) → length piece ≤ piece_len
      → LiveSteps holds place reopens serves count a b [] wrote wrote' old mid → Consumes b c piece
      → LiveSteps holds place reopens serves count a c piece wrote wrote' old mid
  live_read a b c wrote wrote' piece old mid short so next = record {
    steps = so.steps;
    each = so.each;
    ahead = short;
    are = so.are;
    read = subst (λ bs. Consumes a c (bs ++ piece)) (append-nil (parts_of so.steps))
        (Consumes-trans a b c (parts_of so.steps ++ []) piece so.read next);
    written = so.written;
  }

  -- the first bytes of it are followed
  pub live_piece : (a c w w₁ w₂ : Option (List ℕ)) (piece later : List ℕ) (old mid new : SubscriberValue C)
      → LiveSteps holds place reopens serves count a c (piece ++ later) w w₁ old mid
      → FollowsPiece holds place reopens serves count w₁ w₂ piece mid new
      → LiveSteps holds place reopens serves count a c later w w₂ old new
  live_piece a c w w₁ w₂ piece later old mid new so more =
      let same : parts_of so.steps ++ (piece ++ later) ≡ parts_of (so.steps ++ more.steps) ++ later =
      ap (λ bs. parts_of so.steps ++ (bs ++ later)) (sym more.parts) ∙ sym (append_assoc (parts_of so.steps) (parts_of more.steps) later)
      ∙ ap (λ bs. bs ++ later) (sym (parts_join so.steps more.steps)) in
      let l : length (piece ++ later) ≡ length piece + length later = length-append piece later in
      let all = so.ahead in
      let parts : length (parts_of more.steps) ≤ piece_len = subst (λ bs. length bs ≤ piece_len) (sym more.parts) (omega (arith, l, all)) in
      record {
        steps = so.steps ++ more.steps;
        each = shorts_join so.steps more.steps so.each (parts_within more.steps piece_len parts (omega arith));
        ahead = omega (arith, l, all);
        are = steps_join old mid new so.steps more.steps so.are more.are;
        read = subst (λ bs. Consumes a c bs) same so.read;
        written = subst (λ bs. Appends w w₂ bs) (sym (told_join old mid so.steps more.steps so.are))
            (Appends-trans w w₁ w₂ (told_in old so.steps) (told_in mid more.steps) so.written more.written);
      }

  -- what stops a part ends all
  pub live_stops : (a b w w' : Option (List ℕ)) (old new : SubscriberValue C) (f : FollowFault) (reads : ℕ)
      → LiveStops holds place reopens serves count a b w w' old new f → (f ≢ follow.Read)
      → LiveEnds holds place reopens serves count a b reads w w' old new (Some f)
  live_stops a b w w' old new follow.Read reads h other = absurd (other refl)
  live_stops a b w w' old new follow.Write reads h other = h
  live_stops a b w w' old new (follow.Stream f) reads h other = h

  -- a piece is read, and followed
  pub live_turn : (a b c c' w w₁ w₂ w₃ : Option (List ℕ)) (piece : List ℕ) (old mid new : SubscriberValue C) → length piece ≤ piece_len
      → c' ≡ c → w₂ ≡ w₁ → LiveSteps holds place reopens serves count a b [] w w₁ old mid → Consumes b c piece
      → FollowsPiece holds place reopens serves count w₂ w₃ piece mid new → LiveSteps holds place reopens serves count a c' [] w w₃ old new
  live_turn a b c c' w w₁ w₂ w₃ piece old mid new short kept stays so next followed =
      subst (λ (x : Option (List ℕ)). LiveSteps holds place reopens serves count a x [] w w₃ old new) (sym kept)
      (live_piece a c w w₁ w₃ piece [] old mid new
      (subst (λ bs. LiveSteps holds place reopens serves count a c bs w w₁ old mid) (sym (append-nil piece))
      (live_read a b c w w₁ piece old mid short so next))
      (subst (λ (x : Option (List ℕ)). FollowsPiece holds place reopens serves count x w₃ piece mid new) stays followed))

  -- a piece is read, and can't be followed to its end
  pub turn_stops : (a b c c' w w₁ w₂ w₃ : Option (List ℕ)) (piece : List ℕ) (old mid new : SubscriberValue C) (f : FollowFault) (reads : ℕ)
      → length piece ≤ piece_len → c' ≡ c → w₂ ≡ w₁ → LiveSteps holds place reopens serves count a b [] w w₁ old mid → Consumes b c piece
      → (f ≢ follow.Read) → StopsPiece holds place reopens serves count w₂ w₃ piece mid new f
      → LiveEnds holds place reopens serves count a c' reads w w₃ old new (Some f)
  turn_stops a b c c' w w₁ w₂ w₃ piece old mid new f reads short kept stays so next other stops' =
      let stops = subst (λ (x : Option (List ℕ)). StopsPiece holds place reopens serves count x w₃ piece mid new f) stays stops' in
      let at = stops.0 in
      let front = stops.2 in
      let last = stops.6 in
      let bytes : piece ≡ front ++ (last.0 ++ last.1) = stops.4 ∙ ap (λ bs. front ++ bs) last.2 in
      subst (λ (x : Option (List ℕ)). LiveEnds holds place reopens serves count a x reads w w₃ old new (Some f)) (sym kept)
      (live_stops a c w w₃ old new f reads (
        at,
        stops.1,
        last.0,
        last.1,
        live_piece a c w w₁ stops.1 front (last.0 ++ last.1) old mid at
            (subst (λ bs. LiveSteps holds place reopens serves count a c bs w w₁ old mid) bytes
            (live_read a b c w w₁ piece old mid short so next)) stops.5,
        last.3,
      ) other)

  -- a read that gives no byte
  pub live_end : (a b c wrote wrote' : Option (List ℕ)) (piece : List ℕ) (old mid : SubscriberValue C) → piece ≡ []
      → LiveSteps holds place reopens serves count a b [] wrote wrote' old mid → Consumes b c piece
      → LiveSteps holds place reopens serves count a c [] wrote wrote' old mid
  live_end a b c wrote wrote' piece old mid none so next =
      live_read a b c wrote wrote' [] old mid (omega arith) so (subst (λ bs. Consumes b c bs) none next)
