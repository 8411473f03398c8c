-- The mark behind which commits are staged, from frame to frame, and what settling makes of what
-- was staged.
use Rattle.std.proofs.Common.{◌≡◌, ◌<◌, ◌≤◌, ◌⊎◌, inl, inr, ◌++◌, [], ◌∷◌, zero, suc, ℕ, ℤ, List}
use Rattle.std.proofs.Common.{Bool, true, false, cond, Result, Ok, Err, length, take, refl, sym, ap}
use Rattle.std.proofs.Common.{subst, ◌∙◌, arith, append-nil, append_assoc, length-append}
use Rattle.std.specs.Prelude.{IfOk, IfErr, OnOk, OnErr, drop, nat_lt}
use Rattle.std.proofs.lemmas.Bool.Decides.{nat_tests}
use Rattle.std.proofs.Math.Seq.{take-length}
use Rattle.std.proofs.lemmas.List.{take-append-drop}
use Rattle.pgwire.specs.Frames.{Frame}
use Rattle.pgwire.specs.Deframed.{Deframed, Stands}
use Rattle.pgapply.specs.declared.fault.StoreFault.TheVariants as store
use Rattle.pgapply.specs.Value.{Tables}
use Rattle.pgapply.specs.Taken as held
use Rattle.pgsub_core.specs.declared.fault.Fault.{Fault}
use Rattle.pgsub_core.specs.declared.fault.Fault.TheVariants as fault
use Rattle.pgsub_core.specs.Subscriber.Subscribed.{Subscribed, progress_of}
use Rattle.pgsub_core.specs.Server.Reached.{Progress}
use Rattle.pgsub_core.specs.Machine.Replica.{Outcome, Running, Stopped, then_run}
use Rattle.pgsub_core.specs.Machine.Taking.{take_frames}
use Rattle.pgsub_core.specs.Subscriber.Handled.{IsLeft}
use Rattle.pgsub_core.specs.Machine.Feeding.{IsFedWhole, IsFedUntil}
use Rattle.pgsub_core.specs.Subscriber.Applied.{Applied, Framing, subscribed, IsKept}
use Rattle.pgsub_core.specs.Calls.Framing.{framing_of, framing_behind, FramesGo, FeedGoes}
use Rattle.pgsub_core.specs.Calls.Framing.{FeedStops, IsFedTo}
use Rattle.pgsub_core.specs.Subscriber.Crashing.{LeavesOldOr, Over, StandsAs}
use Rattle.pgapply.specs.Tallies.{Tally}
use Rattle.pgsub_core.specs.Machine.Counted.{IsCountedWhole, IsCountedFront, FeedCounts}
use Rattle.pgsub_core.specs.Machine.Counted.{FeedCountsFront}
use Rattle.pgsub_core.specs.Machine.Faults.{IsReadFault, IsOfFeedingOver}
use Rattle.pgsub_core.specs.Calls.Staging.{Rests, Grows, KeepsItsSettings, IsMark, IsMarked}
use Rattle.pgsub_core.specs.Calls.Staging.{IsRenewed, GoesBack, StandsStaged}
use Rattle.pgsub_core.proofs.PayloadStops.{unchanged}
use Rattle.pgsub_core.proofs.FeedStops.{for_memory, stops_by_frame, taken_to}
use Rattle.pgsub_core.proofs.LeftPieces.{piece_stands}
use Rattle.pgsub_core.proofs.Staged.{frame_moves}
use Rattle.pgsub_core.proofs.Pieces.{stop_stands}

-- ---- lists

take_front : (n : ℕ) (xs ys : List ℕ) → n ≤ length xs → take n (xs ++ ys) ≡ take n xs
take_front zero xs ys le = refl
take_front (suc n) [] ys le = absurd (omega (arith, le))
take_front (suc n) (x ∷ xs) ys le = ap (λ (l : List ℕ). x ∷ l) (take_front n xs ys (omega (arith, le)))

pub grows_same : (old new : List ℕ) → new ≡ old → Grows old new
grows_same old new same = ([], same ∙ sym (append-nil old))

pub grows_then : (a b c : List ℕ) → Grows a b → Grows b c → Grows a c
grows_then a b c one two = (one.0 ++ two.0, two.1 ∙ ap (λ (l : List ℕ). l ++ two.0) one.1 ∙ append_assoc a one.0 two.0)

-- ---- what a store stands on

module _ {C : Type 0} (holds : C → Tables → Type 0) (place : C → ℕ) (reopens : C → C → Type 0) (serves is_honest : C → Type 0) where
  pub rests_same : (a b : C) → b ≡ a → Rests holds place reopens serves is_honest a b
  rests_same a b same = record {
    position = ap place same;
    stays = λ own tables h. subst (λ (s : C). holds s tables) (sym same) h;
    crash = λ honest other left. subst (λ (s : C). reopens s other) same left;
  }

  pub rests_then : (a b c : C) → Rests holds place reopens serves is_honest a b → Rests holds place reopens serves is_honest b c
      → (serves c → serves b) → (is_honest c → is_honest b) → Rests holds place reopens serves is_honest a c
  rests_then a b c one two served honest = record {
    position = two.position ∙ one.position;
    stays = λ own tables h. two.stays own tables (one.stays (served own) tables h);
    crash = λ clean other left. one.crash (honest clean) other (two.crash clean other left);
  }

  module _ (stages : C → Tables → Type 0) (reach : C → ℕ) (stops : Applied C → Fault → Type 0) (start : C) where
    -- nothing is staged here
    pub mark_here : (a : Applied C) (c r n : ℕ) → reach a.store ≡ place a.store → held.Settles holds stages a.store a.store → IsMark a c r n
        → Rests holds place reopens serves is_honest start a.store
        → (is_honest a.store → serves start → serves a.store) → (serves a.store → stops a fault.Memory)
        → IsMarked holds place reopens serves is_honest stages reach stops start c r n a
    mark_here a c r n settled held mark whole still memory = record {
      at = a;
      confirmed_is = mark.confirmed_is;
      received_is = mark.received_is;
      replies_are = ap (λ (k : ℕ). take k a.replies) mark.replies_are ∙ take-length a.replies;
      within = (let is = mark.replies_are in omega (arith, is));
      settings = record { version = refl; limit = refl };
      settled = settled;
      held = held;
      rests = rests_same a.store a.store refl;
      whole = whole;
      serving = λ own. own;
      still = still;
      memory = memory;
      refused = λ own less. absurd (omega (arith, settled, less));
      refused_still = λ clean own less. absurd (omega (arith, settled, less));
    }

    -- the mark before a frame: of this where nothing is staged, else an earlier one
    abbrev pub Head : ℕ → ℕ → ℕ → Applied C → Type 0
    Head c r n a =
        ((reach a.store ≡ place a.store) × held.Settles holds stages a.store a.store × IsMark a c r n)
        ⊎ ((place a.store < reach a.store) × IsMarked holds place reopens serves is_honest stages reach stops start c r n a)

    pub of_head : (a : Applied C) (c r n : ℕ) → Head c r n a → Rests holds place reopens serves is_honest start a.store
        → (is_honest a.store → serves start → serves a.store) → (serves a.store → stops a fault.Memory)
        → IsMarked holds place reopens serves is_honest stages reach stops start c r n a
    of_head a c r n (inl here) whole still memory = mark_here a c r n here.0 here.1 here.2 whole still memory
    of_head a c r n (inr before) whole still memory = before.1

    -- where nothing is staged, what would be is what is held
    pub head_held : (a b : Applied C) (c r n : ℕ) → Head c r n a → reach b.store ≡ reach a.store → place b.store ≡ place a.store
        → reach b.store ≡ place b.store → (reach a.store ≡ place a.store) × held.Settles holds stages a.store a.store
    head_held a b c r n (inl here) same_reach same_place none = (here.0, here.1)
    head_held a b c r n (inr before) same_reach same_place none =
        absurd (let less = before.0 in omega (arith, same_reach, same_place, none, less))

    pub renewed : (a : Applied C) (c r n c' r' n' : ℕ) → IsRenewed holds place stages reach a c r n c' r' n'
        → IsMarked holds place reopens serves is_honest stages reach stops start c r n a → Head c' r' n' a
    renewed a c r n c' r' n' (inl now) marked = inl now
    renewed a c r n c' r' n' (inr before) marked = inr (before.0, rw (before.1, before.2, before.3) marked)

    -- one frame, whether it is taken or not
    pub marked_then : (a b : Applied C) (c r n : ℕ) → Head c r n a → Rests holds place reopens serves is_honest a.store b.store
        → Rests holds place reopens serves is_honest start a.store → Grows a.replies b.replies → KeepsItsSettings a b
        → (serves b.store → serves a.store) → (is_honest b.store → is_honest a.store) → (is_honest a.store → serves start → serves a.store)
        → (serves a.store → stops a fault.Memory)
        → (serves b.store → reach a.store ≡ place a.store → place b.store < reach b.store → stops a (fault.Store store.Refused))
        → (is_honest b.store → serves start → reach a.store ≡ place a.store → place b.store < reach b.store
        → stops a (fault.Store store.Refused)) → IsMarked holds place reopens serves is_honest stages reach stops start c r n b
    marked_then a b c r n (inl here) one whole grows settings served honest still memory refused refused_still = record {
      at = a;
      confirmed_is = here.2.confirmed_is;
      received_is = here.2.received_is;
      replies_are = ap (take n) grows.1 ∙ take_front n a.replies grows.0 (let is = here.2.replies_are in omega (arith, is))
          ∙ ap (λ (k : ℕ). take k a.replies) here.2.replies_are ∙ take-length a.replies;
      within = (let is = here.2.replies_are in let more = ap length grows.1 ∙ length-append a.replies grows.0 in omega (arith, is, more));
      settings = settings;
      settled = here.0;
      held = here.1;
      rests = one;
      whole = rests_then start a.store b.store whole one served honest;
      serving = served;
      still = λ clean own. still (honest clean) own;
      memory = memory;
      refused = λ own less. refused own here.0 less;
      refused_still = λ clean own less. refused_still clean own here.0 less;
    }
    marked_then a b c r n (inr before) one whole grows settings served honest still memory refused refused_still = record {
      at = before.1.at;
      confirmed_is = before.1.confirmed_is;
      received_is = before.1.received_is;
      replies_are = ap (take n) grows.1 ∙ take_front n a.replies grows.0 before.1.within ∙ before.1.replies_are;
      within = (let had = before.1.within in let more = ap length grows.1 ∙ length-append a.replies grows.0 in omega (arith, had, more));
      settings = record { version = settings.version ∙ before.1.settings.version; limit = settings.limit ∙ before.1.settings.limit };
      settled = before.1.settled;
      held = before.1.held;
      rests = rests_then before.1.at.store a.store b.store before.1.rests one served honest;
      whole = rests_then start a.store b.store whole one served honest;
      serving = λ own. before.1.serving (served own);
      still = λ clean own. before.1.still (honest clean) own;
      memory = before.1.memory;
      refused = λ own further. before.1.refused (served own) before.0;
      refused_still = λ clean own further. before.1.refused_still (honest clean) own before.0;
    }

-- ---- what stands once it is settled

left_then : (a b c : Subscribed) → IsLeft a b → IsLeft b c → IsLeft a c
left_then a b c one two = record {
  tables = two.tables ∙ one.tables;
  progress = two.progress ∙ one.progress;
  settings = record {
    version = two.settings.version ∙ one.settings.version;
    max_frame = two.settings.max_frame ∙ one.settings.max_frame;
    limit = two.settings.limit ∙ one.settings.limit;
  };
  replies = two.replies ∙ one.replies;
}

until_left : (now : ℤ) (old new new' : Subscribed) (piece : List ℕ) (f : Fault) → IsFedUntil now old piece new f → IsLeft new new'
    → new'.closed ≡ true → IsFedUntil now old piece new' f
until_left now old new new' piece f u left closed =
    record {
      fs = u.fs;
      rest = u.rest;
      state = u.state;
      whole = u.whole;
      each = u.each;
      takes = u.takes;
      left = left_then u.state new new' u.left left;
      closed = closed;
      why = u.why;
    }

module _ {C : Type 0} (holds : C → Tables → Type 0) (place : C → ℕ) (stages : C → Tables → Type 0) (reach : C → ℕ) where
  -- what was staged is as far as that, and all else that outlives a disconnection is the same
  pub record Became (w x : Applied C) : Type 0 where
    pub position : place x.store ≡ reach w.store
    pub confirmed : x.confirmed ≡ w.confirmed
    pub received : x.received ≡ w.received
    pub version : x.version ≡ w.version
    pub limit : x.limit ≡ w.limit
    pub replies : x.replies ≡ w.replies

  left_as : (framing : Framing) (w x : Applied C) (tables : Tables) → Became w x
      → IsLeft (subscribed reach framing w tables) (subscribed place framing x tables)
  left_as framing w x tables b = record {
    tables = refl;
    progress = λ i. progress (b.position i) (b.confirmed i) (b.received i);
    settings = record { version = b.version; max_frame = refl; limit = b.limit };
    replies = b.replies;
  }
    where
      progress : ℕ → ℕ → ℕ → Progress
      progress p c r = record { position = p; confirmed = c; received = r }

  abbrev put : Framing → Applied C → Tables → ℕ → Subscribed
  put framing a tables p = record (subscribed place framing a tables) { position = p }

  module _ (now : ℤ) (d₀ : Deframed) (old : Applied C) (s : C) (begins : (tables : Tables) → holds old.store tables → stages s tables)
      (at : reach s ≡ place old.store) where
    abbrev start : Applied C
    start = record old { store = s }

    as_old : (framing : Framing) (tables : Tables) → subscribed reach framing start tables ≡ subscribed place framing old tables
    as_old framing tables = ap (put framing old tables) at

    pub settled_stops : (piece : List ℕ) (w x : Applied C) (f : Fault) → FeedStops stages reach now d₀ start piece w f → Became w x
        → held.Settles holds stages w.store x.store → FeedStops holds place now d₀ old piece x f
    settled_stops piece w x f stops became settles closed tables is max h =
        let one = stops closed tables is max (begins tables h) in (
          one.0,
          settles one.0 one.1,
          subst (λ (o : Subscribed). IsFedUntil now o piece (subscribed place closed x one.0) f) (as_old (framing_of d₀ false) tables)
              (until_left now _ _ (subscribed place closed x one.0) piece f one.2 (left_as closed w x one.0 became) is),
        )

    pub settled_goes : (piece : List ℕ) (d : Deframed) (a b : Applied C) → b ≡ record a { store = b.store }
        → FeedGoes stages reach now d₀ start piece d a → place b.store ≡ reach a.store → held.Settles holds stages a.store b.store
        → FeedGoes holds place now d₀ old piece d b
    settled_goes piece d a b is goes to settles closed tables h =
        let one = goes closed tables (begins tables h) in
        let as_new : subscribed reach (framing_of d closed) a one.0 ≡ subscribed place (framing_of d closed) b one.0 =
        ap (put (framing_of d closed) (record a { store = b.store }) one.0) (sym to)
        ∙ ap (λ (x : Applied C). subscribed place (framing_of d closed) x one.0) (sym is) in (
          one.0,
          settles one.0 one.1,
          subst (λ (n : Subscribed). IsFedWhole now (subscribed place (framing_of d₀ closed) old tables) piece n) as_new
              (subst (λ (o : Subscribed). IsFedWhole now o piece (subscribed reach (framing_of d closed) a one.0))
              (as_old (framing_of d₀ closed) tables) one.2),
        )

    -- what was counted of what was staged
    module _ (staged tally : C → Tally) (piece : List ℕ) (a b : C) (from : staged s ≡ tally old.store) (to : tally b ≡ staged a)
        (stands : place b ≡ reach a) where
      pub settled_counts : FeedCounts stages reach staged now d₀ start piece a → FeedCounts holds place tally now d₀ old piece b
      settled_counts counts closed tables h =
          let new : Subscribed = subscribed reach (framing_of d₀ closed) start tables in
          subst (λ (o : Subscribed). IsCountedWhole now o piece (place b) (tally old.store) (tally b))
          (as_old (framing_of d₀ closed) tables)
          (subst (λ (m : Tally). IsCountedWhole now new piece (place b) m (tally b)) from
          (subst (IsCountedWhole now new piece (place b) (staged s)) (sym to)
          (subst (λ (p : ℕ). IsCountedWhole now new piece p (staged s) (staged a)) (sym stands)
          (counts closed tables (begins tables h)))))

      pub settled_front : FeedCountsFront stages reach staged now d₀ start piece a → FeedCountsFront holds place tally now d₀ old piece b
      settled_front counts closed tables h =
          let new : Subscribed = subscribed reach (framing_of d₀ closed) start tables in
          subst (λ (o : Subscribed). IsCountedFront now o piece (place b) (tally old.store) (tally b))
          (as_old (framing_of d₀ closed) tables)
          (subst (λ (m : Tally). IsCountedFront now new piece (place b) m (tally b)) from
          (subst (IsCountedFront now new piece (place b) (staged s)) (sym to)
          (subst (λ (p : ℕ). IsCountedFront now new piece p (staged s) (staged a)) (sym stands)
          (counts closed tables (begins tables h)))))

    -- a store that a crash leaves with all that was staged
    pub left_over : (piece : List ℕ) (w : Applied C) (other : C) → FeedStops stages reach now d₀ start piece w fault.Memory
        → held.Settles holds stages w.store other → place other ≡ reach w.store
        → Over (λ x. FeedStops holds place now d₀ old piece x fault.Memory) other
    left_over piece w other stops settles to =
        let x : Applied C = record w { store = other } in
        let became : Became w x =
        record { position = to; confirmed = refl; received = refl; version = refl; limit = refl; replies = refl } in
        (x, refl, settled_stops piece w x fault.Memory stops became settles)

module _ {C : Type 0} (holds : C → Tables → Type 0) (place : C → ℕ) (now : ℤ) (d₀ : Deframed) (a₀ : Applied C) where
  -- want of memory can stop it behind all of a piece
  pub behind_all : (piece : List ℕ) (d : Deframed) (a : Applied C) → d.max ≡ d₀.max → FeedGoes holds place now d₀ a₀ piece d a
      → FeedStops holds place now d₀ a₀ piece a fault.Memory
  behind_all piece d a same goes closed tables is max h =
      let one = goes false tables h in
      let w = one.2 in (
        one.0,
        one.1,
        record {
          fs = w.fs;
          rest = w.rest;
          state = w.state;
          whole = w.deframed.whole;
          each = w.deframed.each;
          takes = w.takes;
          left = record {
            tables = ap (λ (x : Subscribed). x.tables) w.left;
            progress = ap progress_of w.left;
            settings = record {
              version = ap (λ (x : Subscribed). x.version) w.left;
              max_frame = max ∙ sym same ∙ ap (λ (x : Subscribed). x.max_frame) w.left;
              limit = ap (λ (x : Subscribed). x.limit) w.left;
            };
            replies = ap (λ (x : Subscribed). x.replies) w.left;
          };
          closed = is;
          why = tt;
        },
      )

-- ---- from frame to frame

ran_one : (now : ℤ) (o : Outcome Subscribed Fault) (x : Subscribed) → then_run o (λ next. take_frames now next []) ≡ Running x
    → o ≡ Running x
ran_one now (Running s) x h = h
ran_one now (Stopped s f) x h = h

module _ {C : Type 0} (serves : C → Type 0) (holds : C → Tables → Type 0) (place : C → ℕ) (now : ℤ) (d₀ : Deframed) (a₀ : Applied C)
    (piece : List ℕ) where
  -- the store could have refused a frame that moves the position, for it is a commit
  pub commit_refused : (d : Deframed) (a b : Applied C) (taken : ℕ) → IsFedTo holds place now serves d₀ a₀ piece d a taken → serves a.store
      → (f : Frame) → Stands d f → FramesGo holds place now (f ∷ []) a b
      → place a.store < place b.store → FeedStops holds place now d₀ a₀ piece a (fault.Store store.Refused)
  commit_refused d a b taken to own f stands goes less =
      stops_by_frame serves holds place now d₀ a₀ piece d a a taken to own (fault.Store store.Refused) f stands (record {
        kept = unchanged place a;
        stays = λ tables h. h;
        why = λ framing tables h.
            let one = goes framing tables h in
            frame_moves now (subscribed place framing a tables) (subscribed place (framing_behind (f ∷ []) framing) b one.0) f
            (ran_one now _ _ one.2) less;
      })

module _ {C : Type 0} (holds : C → Tables → Type 0) (place : C → ℕ) (reopens : C → C → Type 0) (serves is_honest : C → Type 0)
    (stages : C → Tables → Type 0) (reach : C → ℕ) (now : ℤ) (d₀ : Deframed) (a₀ : Applied C)
    (piece : List ℕ) where
  pub marked_frame : (d : Deframed) (a b : Applied C) (taken c r n : ℕ)
      → Head holds place reopens serves is_honest stages reach (FeedStops stages reach now d₀ a₀ piece) a₀.store c r n a
      → IsFedTo stages reach now serves d₀ a₀ piece d a taken → Rests holds place reopens serves is_honest a.store b.store
      → Rests holds place reopens serves is_honest a₀.store a.store → Grows a.replies b.replies → KeepsItsSettings a b
      → (serves b.store → serves a.store) → (is_honest b.store → is_honest a.store) → (is_honest a.store → serves a₀.store → serves a.store)
      → (serves b.store → reach a.store < reach b.store → (f : Frame) × Stands d f × FramesGo stages reach now (f ∷ []) a b)
      → (is_honest b.store → serves a.store → reach a.store < reach b.store → serves b.store)
      → IsMarked holds place reopens serves is_honest stages reach (FeedStops stages reach now d₀ a₀ piece) a₀.store c r n b
  marked_frame d a b taken c r n head to one whole grows settings served honest still moved opens =
      let further : reach a.store ≡ place a.store → place b.store < reach b.store → reach a.store < reach b.store =
      λ settled less. let same = one.position in omega (arith, settled, less, same) in
      let refused : serves b.store → reach a.store < reach b.store → FeedStops stages reach now d₀ a₀ piece a (fault.Store store.Refused) =
      λ own more.
      let frame = moved own more in
      commit_refused serves stages reach now d₀ a₀ piece d a b taken to (served own) frame.0 frame.1 frame.2 more in
      marked_then holds place reopens serves is_honest stages reach (FeedStops stages reach now d₀ a₀ piece) a₀.store a b c r n head one
      whole grows settings served honest still
      (λ own. piece_stands serves stages reach now d₀ a₀ piece d a taken (taken_to serves stages reach now d₀ a₀ piece d a taken to) own)
      (λ own settled less. refused own (further settled less))
      (λ clean own settled less. let more = further settled less in refused (opens clean (still (honest clean) own) more) more)

-- ---- a whole piece

pub of_feeding : (may_fail : Type 0) (f : Fault) → IsReadFault f → IsOfFeedingOver may_fail f
of_feeding may_fail f (inl memory) = rw memory tt
of_feeding may_fail f (inr refused) = rw refused tt

module _ {C : Type 0} (holds : C → Tables → Type 0) (place : C → ℕ) (now : ℤ) (d₀ : Deframed) (a₀ : Applied C) (piece : List ℕ) where
  -- want of memory could have stopped it where it ended
  pub any_stops : (d : Deframed) (a : Applied C) → d.max ≡ d₀.max → (r : Result ℕ Fault)
      → IfOk r (λ n. FeedGoes holds place now d₀ a₀ (take n piece) d a) → IfErr r (FeedStops holds place now d₀ a₀ piece a)
      → FeedStops holds place now d₀ a₀ piece a fault.Memory
  any_stops d a same (Ok n) goes stops closed tables is max h =
      let one = behind_all holds place now d₀ a₀ (take n piece) d a same goes closed tables is max h in (
        one.0,
        one.1,
        subst (λ (p : List ℕ). IsFedUntil now (subscribed place (framing_of d₀ false) a₀ tables) p (subscribed place closed a one.0)
            fault.Memory) (take-append-drop n piece)
            (stop_stands now _ _ (take n piece) (drop n piece) fault.Memory one.2),
      )
  any_stops d a same (Err f) goes stops closed tables is max h = for_memory holds place now d₀ a₀ piece a f stops closed tables is max h

module _ {C : Type 0} (holds : C → Tables → Type 0) (place : C → ℕ) (reopens : C → C → Type 0) (serves is_honest : C → Type 0)
    (stages : C → Tables → Type 0) (reach : C → ℕ) (now : ℤ) (d₀ : Deframed) (old : Applied C) (s : C)
    (begins : (tables : Tables) → holds old.store tables → stages s tables) (at : reach s ≡ place old.store) (piece : List ℕ)
    (a b : Applied C) where
  abbrev begun : Applied C
  begun = record old { store = s }

  abbrev Stops : Applied C → Fault → Type 0
  Stops = FeedStops stages reach now d₀ begun piece

  -- all was settled: it is as it was, but for the store
  became_all : b ≡ record a { store = b.store } → place b.store ≡ reach a.store → Became holds place stages reach a b
  became_all is to = record {
    position = to;
    confirmed = ap (λ (x : Applied C). x.confirmed) is;
    received = ap (λ (x : Applied C). x.received) is;
    version = ap (λ (x : Applied C). x.version) is;
    limit = ap (λ (x : Applied C). x.limit) is;
    replies = ap (λ (x : Applied C). x.replies) is;
  }

  pub all_settled : (f : Fault) → Stops a f → b ≡ record a { store = b.store } → place b.store ≡ reach a.store
      → held.Settles holds stages a.store b.store → FeedStops holds place now d₀ old piece b f
  all_settled f stops is to settles =
      settled_stops holds place stages reach now d₀ old s begins at piece a b f stops (became_all is to) settles

  -- nothing was staged, and the store may have shut
  pub settled_stands : (f : Fault) → StandsStaged holds place stages reach (λ w. Stops w f) a → reach a.store ≡ place a.store
      → b ≡ record a { store = b.store } → place b.store ≡ reach a.store
      → StandsAs place (λ x. FeedStops holds place now d₀ old piece x f) b
  settled_stands f stands none is to =
      let w = stands.0 in
      let kept = stands.1 in
      let settled = stands.3 none in
      let here : Became holds place stages reach w w =
      record { position = sym settled.0; confirmed = refl; received = refl; version = refl; limit = refl; replies = refl } in (
        w,
        record {
          position = to ∙ kept.position ∙ settled.0;
          confirmed = ap (λ (x : Applied C). x.confirmed) is ∙ kept.confirmed;
          received = ap (λ (x : Applied C). x.received) is ∙ kept.received;
          version = ap (λ (x : Applied C). x.version) is ∙ kept.version;
          limit = ap (λ (x : Applied C). x.limit) is ∙ kept.limit;
          replies = ap (λ (x : Applied C). x.replies) is ∙ kept.replies;
        },
        settled_stops holds place stages reach now d₀ old s begins at piece w w f stands.2 here settled.1,
      )

  module _ (c r n : ℕ) (m : IsMarked holds place reopens serves is_honest stages reach Stops s c r n a) where
    -- nothing was: it is as at the mark
    back_at : GoesBack c r n a b → place b.store ≡ place a.store → IsKept place m.at b
    back_at back stays = record {
      position = stays ∙ m.rests.position;
      confirmed = ap (λ (x : Applied C). x.confirmed) back ∙ m.confirmed_is;
      received = ap (λ (x : Applied C). x.received) back ∙ m.received_is;
      version = ap (λ (x : Applied C). x.version) back ∙ m.settings.version;
      limit = ap (λ (x : Applied C). x.limit) back ∙ m.settings.limit;
      replies = ap (λ (x : Applied C). x.replies) back ∙ m.replies_are;
    }

    at_mark : (x : Applied C) → IsKept place m.at x → Became holds place stages reach m.at x
    at_mark x kept = record {
      position = kept.position ∙ sym m.settled;
      confirmed = kept.confirmed;
      received = kept.received;
      version = kept.version;
      limit = kept.limit;
      replies = kept.replies;
    }

    stops_for : (f : Fault) → IsReadFault f → serves a.store → place a.store < reach a.store → Stops m.at f
    stops_for f (inl memory) own less = subst (Stops m.at) (sym memory) (m.memory (m.serving own))
    stops_for f (inr refused) own less = subst (Stops m.at) (sym refused) (m.refused own less)

    pub none_settled : (f : Fault) → IsReadFault f → serves a.store → place a.store < reach a.store → GoesBack c r n a b
        → place b.store ≡ place a.store → held.Stays holds a.store b.store → FeedStops holds place now d₀ old piece b f
    none_settled f is own less back stays same =
        settled_stops holds place stages reach now d₀ old s begins at piece m.at b f (stops_for f is own less)
        (at_mark b (back_at back stays)) (λ tables h. same tables (m.rests.stays own tables (m.held tables h)))

    stops_still : (f : Fault) → IsReadFault f → is_honest a.store → serves s → place a.store < reach a.store → Stops m.at f
    stops_still f (inl memory) clean own less = subst (Stops m.at) (sym memory) (m.memory (m.still clean own))
    stops_still f (inr refused) clean own less = subst (Stops m.at) (sym refused) (m.refused_still clean own less)

    pub none_stands : (f : Fault) → IsReadFault f → is_honest a.store → serves s → place a.store < reach a.store → GoesBack c r n a b
        → place b.store ≡ place a.store → StandsAs place (λ x. FeedStops holds place now d₀ old piece x f) b
    none_stands f is clean own less back stays = (
      m.at,
      back_at back stays,
      settled_stops holds place stages reach now d₀ old s begins at piece m.at m.at f (stops_still f is clean own less)
          (at_mark m.at (unchanged place m.at)) m.held,
    )

    -- ---- what a crash leaves

    module _ (rested : place s ≡ place old.store) (left_before : (other : C) → reopens s other → reopens old.store other)
        (honest : is_honest a.store) where
      as_before : (other : C) → place b.store ≡ place a.store → reopens a.store other
          → reopens old.store other × (place b.store ≡ place old.store)
      as_before other stays left = (left_before other (m.whole.crash honest other left), stays ∙ m.whole.position ∙ rested)

      -- it failed to settle, or there was nothing to settle
      pub leaves_none : (P : C → Type 0) → (place b.store ≡ place a.store) → (serves a.store → serves old.store)
          → (place a.store ≤ reach a.store)
          → ((other : C) → reopens b.store other
          → reopens a.store other ⊎ (serves a.store × held.LeavesStaged holds place stages reach a.store other))
          → (serves a.store → (other : C) → held.LeavesStaged holds place stages reach a.store other → P other)
          → LeavesOldOr place reopens serves P old.store b.store
      leaves_none P stays served less leaves over other left = elim (leaves other left) [
        | inl was ↦ inl (as_before other stays was)
        | inr one ↦ inr (served one.0, (let to = one.1.1 in omega (arith, to, stays, less)), over one.0 other one.1)
      ]

  pub leaves_all : (P : C → Type 0) → serves old.store → held.Leaves holds place reopens b.store → place b.store ≡ reach a.store
      → held.Settles holds stages a.store b.store
      → ((other : C) → held.LeavesStaged holds place stages reach a.store other → P other)
      → LeavesOldOr place reopens serves P old.store b.store
  leaves_all P own leaves to settles over other left =
      let one = leaves other left in
      let same = one.1 in
      inr (own, omega (arith, same), over other ((λ tables h. one.0 tables (settles tables h)), same ∙ to))

  -- what is left with all that was staged
  pub over_all : (p : List ℕ) → FeedStops stages reach now d₀ begun p a fault.Memory → (other : C)
      → held.LeavesStaged holds place stages reach a.store other → Over (λ x. FeedStops holds place now d₀ old p x fault.Memory) other
  over_all p stops other left = left_over holds place stages reach now d₀ old s begins at p a other stops left.0 left.1

pub some_or_none : (p q : ℕ) → p ≤ q → (p < q) ⊎ (q ≡ p)
some_or_none p q le = by (nat_lt p q) refl
  where
    by : (b : Bool) → nat_lt p q ≡ b → (p < q) ⊎ (q ≡ p)
    by true is = inl (grind (arith, nat_tests))
    by false is = inr (let not : ¬ (p < q) = grind (arith, nat_tests) in omega (arith, le, not))

pub if_ok_as : {T E : Type 0} (r : Result T E) (P Q : T → Type 0) → IfOk r P → ((t : T) → P t → Q t) → IfOk r Q
if_ok_as (Ok t) P Q h go = go t h
if_ok_as (Err e) P Q h go = tt

pub on_ok_here : {T E : Type 0} (r : Result T E) (P : Type 0) → P → OnOk r P
on_ok_here (Ok t) P p = p
on_ok_here (Err e) P p = tt

pub held_err : {T E : Type 0} (r : Result T E) (P : E → Type 0) → IfErr r P → OnErr r ((e : E) × P e)
held_err (Ok t) P h = tt
held_err (Err e) P h = (e, h)

pub if_ok_under : {T E : Type 0} (r : Result T E) (S : Type 0) (P : T → Type 0) → (S → IfOk r P) → IfOk r (λ t. S → P t)
if_ok_under (Ok t) S P h = h
if_ok_under (Err e) S P h = tt

pub grows_if : (b : Bool) (old more new : List ℕ) → new ≡ cond b (old ++ more) old → Grows old new
grows_if true old more new is = (more, is)
grows_if false old more new is = grows_same old new is
