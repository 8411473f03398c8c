-- The transactions that commit in a session are those of its messages.
use Rattle.std.proofs.Common.{◌≡◌, ◌∙◌, ◌⊎◌, inl, inr, ℕ, ℤ, List, [], ◌∷◌, ◌++◌, Bool, true, false}
use Rattle.std.proofs.Common.{cond}
use Rattle.std.proofs.Common.{Option, None, Some, Result, Ok, Err, refl, sym, ap, subst, arith}
use Rattle.std.proofs.Common.{append-nil}
use Rattle.std.proofs.Common.{true≢false, ◌==◌, if◌then◌else◌, not, ◌&&◌, ◌||◌}
use Rattle.std.proofs.lemmas.Bool.Decides.{nat_tests}
use Rattle.pglogical.specs.declared.message.Item.{Item}
use Rattle.pglogical.specs.declared.message.Message.{Message}
use Rattle.pglogical.specs.declared.message.Message.TheVariants as message
use Rattle.pglogical.specs.Spelling.{IsMessageFor}
use Rattle.pgorder.specs.declared.Version.{Version}
use Rattle.pgorder.specs.declared.Version.TheVariants.{One, Two}
use Rattle.pgorder.specs.declared.Event.TheVariants as event
use Rattle.pgorder.specs.declared.fault.OrderFault.{OrderFault}
use Rattle.pgorder.specs.OpenXids.{OpenXids, is_open, is_open-opened, is_open-with_open}
use Rattle.pgorder.specs.OpenXids.{is_open-without, with_open, without as without_xid}
use Rattle.pgorder.specs.States.{is_in_block}
use Rattle.pgorder.specs.Steps.{Context, Outside, InPair, InBlock, OrderState, StepResult}
use Rattle.pgorder.specs.Steps.{order_step}
use Rattle.pgrepeats.specs.declared.commit.Commit.{Commit}
use Rattle.pgrepeats.specs.declared.digest.Digest.{Digest}
use Rattle.pgrepeats.specs.Digests.{digest_of, no_changes}
use Rattle.pgcompared.specs.declared.session.Ended.{Ended}
use Rattle.pgcompared.specs.declared.session.Session.{Session}
use Rattle.pgcompared.specs.Commits.{AreOfCommits, Course, IsOfCommit, Labelled, changes_of}
use Rattle.pgcompared.specs.Commits.{commit_with, commits_of, course_after, first_course, holding}
use Rattle.pgcompared.specs.Commits.{items_of, kept_of, left_of}
use Rattle.pgcompared.specs.Laws.{EndedAreCommits, HearsMessages, listed_end}
use Rattle.pgcompared.specs.Sessions.{at_start, by_order, change_in, ended_as, ended_by}
use Rattle.pgcompared.specs.Sessions.{opened_by}
use Rattle.pgcompared.specs.Streams.{Opened, Streamed, added, begun, closed, cut}
use Rattle.pgcompared.specs.Streams.{digest_found, each_added, each_cut, found, listed, with_block}
use Rattle.pgcompared.specs.Streams.{with_block_item, with_item, without}
use Rattle.pgcompared.proofs.Points.{Tracks, added_is, added_top, cut_tracks, digest_is, pair_push}
use Rattle.pgcompared.proofs.Points.{tracks_none}

-- ---- one stream among several

equal_xids : (x y : ℕ) → (x == y) ≡ true → x ≡ y
equal_xids x y e = grind (arith, nat_tests)

turned : (x y : ℕ) → (x == y) ≡ false → (y == x) ≡ false
turned x y e = grind (arith, nat_tests)

abbrev pub TopIs : ℕ → Option Streamed → Type 0
TopIs x None = Unit {0}
TopIs x (Some s) = s.top ≡ x

found_top : (x : ℕ) (mine : Option Streamed) (ss : List Streamed) → TopIs x mine → TopIs x (found x mine ss)
found_top x mine [] t = t
found_top x mine (s ∷ ss) t = go (s.top == x) refl (λ o top. found_top x o ss top)
  where
    go : (b : Bool) → (s.top == x) ≡ b → ((o : Option Streamed) → TopIs x o → TopIs x (found x o ss))
        → TopIs x (found x (if b then Some s else mine) ss)
    go true e rest = rest (Some s) (equal_xids s.top x e)
    go false e rest = rest mine t

found-without : (x y : ℕ) (mine : Option Streamed) (ss : List Streamed) → (y == x) ≡ false
    → found x mine (without y ss) ≡ found x mine ss
found-without x y mine [] other = refl
found-without x y mine (s ∷ ss) other = go (s.top == y) refl (λ o. found-without x y o ss other)
  where
    go : (b : Bool) → (s.top == y) ≡ b → ((o : Option Streamed) → found x o (without y ss) ≡ found x o ss)
        → found x mine (if b then without y ss else s ∷ without y ss) ≡ found x (if s.top == x then Some s else mine) ss
    go true e rest =
        let not_x : (s.top == x) ≡ false = subst (λ (z : ℕ). (z == x) ≡ false) (sym (equal_xids s.top y e)) other in
        rest mine ∙ ap (λ (b : Bool). found x (if b then Some s else mine) ss) (sym not_x)
    go false e rest = rest (if s.top == x then Some s else mine)

found-gone : (x : ℕ) (mine : Option Streamed) (ss : List Streamed) → found x mine (without x ss) ≡ mine
found-gone x mine [] = refl
found-gone x mine (s ∷ ss) = go (s.top == x) refl (found-gone x mine ss)
  where
    go : (b : Bool) → (s.top == x) ≡ b → found x mine (without x ss) ≡ mine
        → found x mine (if b then without x ss else s ∷ without x ss) ≡ mine
    go true e rest = rest
    go false e rest = ap (λ (b : Bool). found x (if b then Some s else mine) (without x ss)) e ∙ rest

found-append : (x : ℕ) (mine : Option Streamed) (ss : List Streamed) (s : Streamed)
    → found x mine (ss ++ s ∷ []) ≡ (if s.top == x then Some s else found x mine ss)
found-append x mine [] s = refl
found-append x mine (t ∷ ts) s = found-append x (if t.top == x then Some t else mine) ts s

-- ---- what is kept of a transaction, if anything

abbrev pub IsFound : Option Streamed → List Labelled → Type 0
IsFound None ls = ls ≡ []
IsFound (Some s) ls = Tracks s ls

abbrev pub Streams : List Streamed → (ℕ → List Labelled) → Type 0
Streams ss held = (x : ℕ) → IsFound (found x None ss) (held x)

abbrev pub Others : ℕ → List Streamed → (ℕ → List Labelled) → Type 0
Others xid ss held = (x : ℕ) → (x == xid) ≡ false → IsFound (found x None ss) (held x)

others_without : (xid : ℕ) (ss : List Streamed) (held : ℕ → List Labelled) → Streams ss held → Others xid (without xid ss) held
others_without xid ss held all x other =
    subst (λ o. IsFound o (held x)) (sym (found-without x xid None ss (turned x xid other))) (all x)

held_there : (xid x : ℕ) (items : List Labelled) (held : ℕ → List Labelled) (b : Bool) → (x == xid) ≡ b
    → holding xid items held x ≡ (if b then items else held x)
held_there xid x items held b e = ap (λ (b : Bool). if b then items else held x) e

others_hold : (xid : ℕ) (ss : List Streamed) (items : List Labelled) (held : ℕ → List Labelled) → Others xid ss held
    → Others xid ss (holding xid items held)
others_hold xid ss items held all x other =
    subst (IsFound (found x None ss)) (sym (held_there xid x items held false other)) (all x other)

-- with one more behind the others
all_streams : (xid : ℕ) (ss : List Streamed) (s : Streamed) (held : ℕ → List Labelled) → s.top ≡ xid → Tracks s (held xid)
    → Others xid ss held → Streams (ss ++ s ∷ []) held
all_streams xid ss s held top tracks others x =
    subst (λ o. IsFound o (held x)) (sym (found-append x None ss s)) (go (x == xid) refl)
  where
    go : (b : Bool) → (x == xid) ≡ b → IsFound (if s.top == x then Some s else found x None ss) (held x)
    go true e =
        let same : x ≡ xid = equal_xids x xid e in
        let is : (s.top == x) ≡ true = grind (arith, nat_tests) in
        subst (λ (b : Bool). IsFound (if b then Some s else found x None ss) (held x)) (sym is)
        (subst (λ (y : ℕ). Tracks s (held y)) (sym same) tracks)
    go false e =
        let is : (s.top == x) ≡ false = subst (λ (y : ℕ). (y == x) ≡ false) (sym top) (turned x xid e) in
        subst (λ (b : Bool). IsFound (if b then Some s else found x None ss) (held x)) (sym is) (others x e)

-- none of them is this one
none_streams : (xid : ℕ) (ss : List Streamed) (held : ℕ → List Labelled) → found xid None ss ≡ None → held xid ≡ [] → Others xid ss held
    → Streams ss held
none_streams xid ss held gone empty others x = go (x == xid) refl
  where
    go : (b : Bool) → (x == xid) ≡ b → IsFound (found x None ss) (held x)
    go true e =
        let same : xid ≡ x = sym (equal_xids x xid e) in
        subst (λ (y : ℕ). IsFound (found y None ss) (held y)) same (subst (λ o. IsFound o (held xid)) (sym gone) empty)
    go false e = others x e

held_same : (xid : ℕ) (items : List Labelled) (held : ℕ → List Labelled) → holding xid items held xid ≡ items
held_same xid items held = held_there xid xid items held true (grind (arith, nat_tests))

closed_streams : (xid : ℕ) (ss : List Streamed) (held : ℕ → List Labelled) → Streams ss held
    → Streams (without xid ss) (holding xid [] held)
closed_streams xid ss held all =
    none_streams xid (without xid ss) (holding xid [] held) (found-gone xid None ss) (held_same xid [] held)
    (others_hold xid (without xid ss) [] held (others_without xid ss held all))

cut_streams : (xid label : ℕ) (ss : List Streamed) (held : ℕ → List Labelled) → Streams ss held
    → Streams (without xid ss ++ listed (each_cut label (found xid None ss))) (holding xid (kept_of label (held xid)) held)
cut_streams xid label ss held all = go (found xid None ss) (found_top xid None ss tt) (all xid)
  where
    others : Others xid (without xid ss) (holding xid (kept_of label (held xid)) held)
    others = others_hold xid (without xid ss) (kept_of label (held xid)) held (others_without xid ss held all)

    go : (o : Option Streamed) → TopIs xid o → IsFound o (held xid)
        → Streams (without xid ss ++ listed (each_cut label o)) (holding xid (kept_of label (held xid)) held)
    go None top empty =
        subst (λ (xs : List Streamed). Streams xs (holding xid (kept_of label (held xid)) held)) (sym (append-nil (without xid ss)))
        (none_streams xid (without xid ss) (holding xid (kept_of label (held xid)) held) (found-gone xid None ss)
        (held_same xid (kept_of label (held xid)) held ∙ ap (kept_of label) empty) others)
    go (Some s) top tracks =
        all_streams xid (without xid ss) (cut label s) (holding xid (kept_of label (held xid)) held) top
        (subst (Tracks (cut label s)) (sym (held_same xid (kept_of label (held xid)) held)) (cut_tracks label s (held xid) tracks)) others

-- ---- a block

pub record IsBlock (xid : ℕ) (o : Opened) (held : ℕ → List Labelled) : Type 0 where
  pub stream : Streamed
  pub is : o.block ≡ Some stream
  pub top : stream.top ≡ xid
  pub tracks : Tracks stream (held xid)
  pub others : Others xid o.streams held

begins : (xid : ℕ) (o : Opened) (held : ℕ → List Labelled) → Streams o.streams held → IsBlock xid (with_block xid o) held
begins xid o held all = go (found xid None o.streams) (found_top xid None o.streams tt) (all xid)
  where
    go : (f : Option Streamed) → TopIs xid f → IsFound f (held xid)
        → IsBlock xid (record o { block = Some (begun xid f); streams = without xid o.streams }) held
    go None top empty = record {
      stream = begun xid None;
      is = refl;
      top = refl;
      tracks = subst (Tracks (begun xid None)) (sym empty) (tracks_none xid);
      others = others_without xid o.streams held all;
    }
    go (Some s) top tracks = record {
      stream = s;
      is = refl;
      top = top;
      tracks = tracks;
      others = others_without xid o.streams held all;
    }

stops : (xid : ℕ) (o : Opened) (held : ℕ → List Labelled) → IsBlock xid o held → Streams (o.streams ++ listed o.block) held
stops xid o held b =
    subst (λ s. Streams (o.streams ++ listed s) held) (sym b.is) (all_streams xid o.streams b.stream held b.top b.tracks b.others)

adds : (xid label : ℕ) (i : Item) (o : Opened) (held : ℕ → List Labelled) → IsBlock xid o held
    → IsBlock xid (with_block_item label (change_in i) o) (holding xid (held xid ++ (label, i) ∷ []) held)
adds xid label i o held b = record {
  stream = added o.limit label (change_in i) b.stream;
  is = ap (each_added o.limit label (change_in i)) b.is;
  top = added_top o.limit label (change_in i) b.stream ∙ b.top;
  tracks =
      subst (Tracks (added o.limit label (change_in i) b.stream)) (sym (held_same xid (held xid ++ (label, i) ∷ []) held))
      (added_is o.limit label i b.stream (held xid) b.tracks);
  others = others_hold xid o.streams (held xid ++ (label, i) ∷ []) held b.others;
}

-- ---- nothing is held of a transaction that isn't open

abbrev pub Closed : OpenXids → (ℕ → List Labelled) → Type 0
Closed xs held = (x : ℕ) → is_open x xs ≡ false → held x ≡ []

right_false : (a b : Bool) → (a || b) ≡ false → b ≡ false
right_false true b e = absurd (true≢false e)
right_false false b e = e

closed_opened : (xid : ℕ) (xs : OpenXids) (held : ℕ → List Labelled) → Closed xs held → Closed (with_open xid xs) held
closed_opened xid xs held all x e = all x (right_false (xid == x) (is_open x xs) (sym (is_open-with_open x xid xs) ∙ e))

-- of this one anything may be held, of the others less
closed_held : (xid : ℕ) (xs : OpenXids) (items : List Labelled) (held : ℕ → List Labelled) → Closed xs held
    → (is_open xid xs ≡ false → items ≡ []) → Closed xs (holding xid items held)
closed_held xid xs items held all empty x e = go (x == xid) refl
  where
    go : (b : Bool) → (x == xid) ≡ b → holding xid items held x ≡ []
    go true is =
        held_there xid x items held true is ∙ empty (subst (λ (y : ℕ). is_open y xs ≡ false) (equal_xids x xid is) e)
    go false is = held_there xid x items held false is ∙ all x e

either_false : (a b : Bool) → (not a && b) ≡ false → (a ≡ true) ⊎ (b ≡ false)
either_false true b e = inl refl
either_false false b e = inr e

closed_without : (xid : ℕ) (xs : OpenXids) (held : ℕ → List Labelled) → Closed xs held → Closed (without_xid xid xs) (holding xid [] held)
closed_without xid xs held all x e = go (either_false (xid == x) (is_open x xs) (sym (is_open-without x xid xs) ∙ e))
  where
    open_too : (b : Bool) → (x == xid) ≡ b → is_open x xs ≡ false → holding xid [] held x ≡ []
    open_too true is e = held_there xid x [] held true is
    open_too false is e = held_there xid x [] held false is ∙ all x e

    go : ((xid == x) ≡ true) ⊎ (is_open x xs ≡ false) → holding xid [] held x ≡ []
    go (inl is) = held_there xid x [] held true (grind (arith, nat_tests))
    go (inr closed) = open_too (x == xid) refl closed

-- ---- the messages so far

abbrev pub IsAt : Context → OpenXids → Opened → Course → Type 0
IsAt Outside xs o c = (o.block ≡ None) × Streams o.streams c.held × Closed xs c.held
IsAt (InPair lsn xid) xs o c =
    (o.block ≡ None) × Streams o.streams c.held × Closed xs c.held × (c.xid ≡ xid) × (o.pair ≡ digest_of (changes_of c.pair))
IsAt (InBlock xid) xs o c = (c.block ≡ xid) × IsBlock xid o c.held × Closed xs c.held × (is_open xid xs ≡ true)

abbrev pub EndsAs : Option Ended → List Commit → Type 0
EndsAs None cs = cs ≡ []
EndsAs (Some e) cs = (c : Commit) × (cs ≡ c ∷ []) × IsOfCommit e c

abbrev pub Keeps : Opened → Course → Message → StepResult → Type 0
Keeps o c m (Ok step) =
    IsAt step.0.context step.0.open_xids (opened_by m step.1 o) (course_after c m) × EndsAs (ended_by m step.1 o) (commit_with c m)
Keeps o c m (Err e) = Unit {0}

by_test : (o : Opened) (c : Course) (m : Message) (b t : Bool) (x y : StepResult) → t ≡ b → (t ≡ true → Keeps o c m x)
    → (t ≡ false → Keeps o c m y) → Keeps o c m (cond t x y)
by_test o c m true t x y e h k = subst (λ (s : Bool). Keeps o c m (cond s x y)) (sym e) (h e)
by_test o c m false t x y e h k = subst (λ (s : Bool). Keeps o c m (cond s x y)) (sym e) (k e)

abbrev pub state : Context → OpenXids → OrderState
state c xs = record { context = c; open_xids = xs }

module _ (o : Opened) (c : Course) (xs : OpenXids) where
  at_commit : (lsn xid l end : ℕ) (time : _) → IsAt (InPair lsn xid) xs o c
      → Keeps o c (message.Commit l end time) (Ok (state Outside xs, event.CommitPair xid l end))
  at_commit lsn xid l end time (block, streams, closed, same, pair) = (
    (block, streams, closed),
    (
      record { end = end; lsn = l; xid = c.xid; time = time; digest = digest_of (changes_of c.pair) },
      refl,
      λ i. record { end = end; lsn = l; xid = sym same i; time = time; digest = pair i },
    ),
  )

  in_pair : (lsn xid : ℕ) (i : Item) → IsAt (InPair lsn xid) xs o c
      → Keeps o c (message.Item None i) (Ok (state (InPair lsn xid) xs, event.Hold xid xid))
  in_pair lsn xid i (block, streams, closed, same, pair) = (
    (
      block,
      streams,
      closed,
      same,
      ap (λ (d : Digest). with_item d (change_in i)) pair ∙ sym (pair_push no_changes c.pair i),
    ),
    refl,
  )

  in_block : (xid label : ℕ) (i : Item) → IsAt (InBlock xid) xs o c
      → Keeps o c (message.Item (Some label) i) (Ok (state (InBlock xid) xs, event.Hold xid label))
  in_block xid label i (same, block, closed, is) =
      let held : ℕ → List Labelled = holding xid (c.held xid ++ (label, i) ∷ []) c.held in (
        subst (λ (y : ℕ). (c.block ≡ xid)
            × IsBlock xid (with_block_item label (change_in i) o) (holding y (c.held y ++ (label, i) ∷ []) c.held)
            × Closed xs (holding y (c.held y ++ (label, i) ∷ []) c.held) × (is_open xid xs ≡ true)) (sym same) (
              same,
              adds xid label i o c.held block,
              closed_held xid xs (c.held xid ++ (label, i) ∷ []) c.held closed
                  (λ e. absurd (true≢false (sym is ∙ e))),
              is,
            ),
        refl,
      )

  at_first : (x : ℕ) → IsAt Outside xs o c
      → Keeps o c (message.StreamStart x true) (Ok (state (InBlock x) (with_open x xs), event.Open x))
  at_first x (block, streams, closed) =
      ((refl, begins x o c.held streams, closed_opened x xs c.held closed, is_open-opened x xs), refl)

  at_later : (x : ℕ) → IsAt Outside xs o c → is_open x xs ≡ true
      → Keeps o c (message.StreamStart x false) (Ok (state (InBlock x) xs, event.Reopen x))
  at_later x (block, streams, closed) is = ((refl, begins x o c.held streams, closed, is), refl)

  at_stop : (xid : ℕ) → IsAt (InBlock xid) xs o c → Keeps o c message.StreamStop (Ok (state Outside xs, event.Close))
  at_stop xid (same, block, closed, is) = ((refl, stops xid o c.held block, closed), refl)

  abbrev end_commit : ℕ → ℕ → ℕ → ℤ → Commit
  end_commit x l end time =
      record { end = end; lsn = l; xid = x; time = time; digest = digest_of (changes_of (items_of (c.held x))) }

  at_end : (x l end : ℕ) (time : _) → IsAt Outside xs o c
      → Keeps o c (message.StreamCommit x l end time) (Ok (state Outside (without_xid x xs), event.CommitStream x l end))
  at_end x l end time (block, streams, closed) = (
    (block, closed_streams x o.streams c.held streams, closed_without x xs c.held closed),
    ((end_commit x l end time), refl, go (found x None o.streams) (streams x)),
  )
    where
      by_over : (s : Streamed) (b : Bool) → s.over ≡ b → Tracks s (c.held x)
          → IsOfCommit (ended_as (message.StreamCommit x l end time) x l end (if b then None else Some s.digest)) (end_commit x l end time)
      by_over s true is tracks = refl
      by_over s false is (inl over) = absurd (true≢false (sym over ∙ is))
      by_over s false is (inr (over, digest, points)) =
          λ i. record { end = end; lsn = l; xid = x; time = time; digest = (digest ∙ digest_is no_changes (c.held x)) i }

      go : (f : Option Streamed) → IsFound f (c.held x)
          → IsOfCommit (ended_as (message.StreamCommit x l end time) x l end (digest_found f)) (end_commit x l end time)
      go None empty =
          λ i. record { end = end; lsn = l; xid = x; time = time; digest = digest_of (changes_of (items_of (sym empty i))) }
      go (Some s) tracks = by_over s s.over refl tracks

  at_drop : (x label : ℕ) → IsAt Outside xs o c → (x == label) ≡ true
      → Keeps o c (message.StreamAbort x label) (Ok (state Outside (without_xid x xs), event.Drop x))
  at_drop x label (block, streams, closed) same = (
    subst (λ (b : Bool). (o.block ≡ None)
        × Streams (without x o.streams) (holding x (if b then [] else kept_of label (c.held x)) c.held)
        × Closed (without_xid x xs) (holding x (if b then [] else kept_of label (c.held x)) c.held)) (sym same)
        (block, closed_streams x o.streams c.held streams, closed_without x xs c.held closed),
    refl,
  )

  at_cut : (x label : ℕ) → IsAt Outside xs o c → (x == label) ≡ false → is_open x xs ≡ true
      → Keeps o c (message.StreamAbort x label) (Ok (state Outside xs, event.Cut x label))
  at_cut x label (block, streams, closed) other is = (
    subst (λ (b : Bool). (o.block ≡ None)
        × Streams (without x o.streams ++ listed (each_cut label (found x None o.streams)))
        (holding x (if b then [] else kept_of label (c.held x)) c.held)
        × Closed xs (holding x (if b then [] else kept_of label (c.held x)) c.held)) (sym other) (
          block,
          cut_streams x label o.streams c.held streams,
          closed_held x xs (kept_of label (c.held x)) c.held closed
              (λ e. absurd (true≢false (sym is ∙ e))),
        ),
    refl,
  )

  at_none : (x label : ℕ) → IsAt Outside xs o c → is_open x xs ≡ false
      → Keeps o c (message.StreamAbort x label) (Ok (state Outside xs, event.Ignore))
  at_none x label (block, streams, closed) isnt =
      let none : (b : Bool) → (if b then [] else kept_of label (c.held x)) ≡ [] = left in
      let same : (y : ℕ) → holding x (left_of x label (c.held x)) c.held y ≡ c.held y = λ y. stays y (y == x) refl in
      ((block, λ y. subst (IsFound (found y None o.streams)) (sym (same y)) (streams y), λ y e. same y ∙ closed y e), refl)
    where
      left : (b : Bool) → (if b then [] else kept_of label (c.held x)) ≡ []
      left true = refl
      left false = ap (kept_of label) (closed x isnt)

      stays : (y : ℕ) (b : Bool) → (y == x) ≡ b → holding x (left_of x label (c.held x)) c.held y ≡ c.held y
      stays y true e =
          held_there x y (left_of x label (c.held x)) c.held true e ∙ left (x == label) ∙ sym (closed x isnt)
          ∙ ap c.held (sym (equal_xids y x e))
      stays y false e = held_there x y (left_of x label (c.held x)) c.held false e

keeps : (v : Version) (at : Context) (xs : OpenXids) (m : Message) (o : Opened) (c : Course) → IsMessageFor (is_in_block at) m
    → IsAt at xs o c → Keeps o c m (order_step v (state at xs) m)
keeps v Outside xs (message.Begin l time x) o c for is =
    by_test o c (message.Begin l time x) (is_open x xs) (is_open x xs) _ _ refl (λ e. tt)
    (λ e. ((is.0, is.1, is.2, refl, refl), refl))
keeps v (InPair lsn xid) xs (message.Begin l time x) o c for is = tt
keeps v (InBlock xid) xs (message.Begin l time x) o c for is = tt
keeps v Outside xs (message.Commit l end time) o c for is = tt
keeps v (InPair lsn xid) xs (message.Commit l end time) o c for is =
    by_test o c (message.Commit l end time) (l == lsn) (l == lsn) _ _ refl (λ e. at_commit o c xs lsn xid l end time is) (λ e. tt)
keeps v (InBlock xid) xs (message.Commit l end time) o c for is = tt
keeps v Outside xs (message.Origin l name) o c for is = tt
keeps v (InPair lsn xid) xs (message.Origin l name) o c for is = (is, refl)
keeps v (InBlock xid) xs (message.Origin l name) o c for is = (is, refl)
keeps v Outside xs (message.TypeName x oid namespace name) o c for is = tt
keeps v (InPair lsn xid) xs (message.TypeName x oid namespace name) o c for is = (is, refl)
keeps v (InBlock xid) xs (message.TypeName x oid namespace name) o c for is = (is, refl)
keeps v at xs (message.Logical x transactional l prefix content) o c for is = (is, refl)
keeps v Outside xs (message.Item label i) o c for is = tt
keeps v (InPair lsn xid) xs (message.Item None i) o c for is = in_pair o c xs lsn xid i is
keeps v (InPair lsn xid) xs (message.Item (Some label) i) o c for is = absurd for
keeps v (InBlock xid) xs (message.Item None i) o c for is = absurd for
keeps v (InBlock xid) xs (message.Item (Some label) i) o c for is = in_block o c xs xid label i is
keeps One at xs (message.StreamStart x first) o c for is = tt
keeps One at xs message.StreamStop o c for is = tt
keeps One at xs (message.StreamCommit x l end time) o c for is = tt
keeps One at xs (message.StreamAbort x label) o c for is = tt
keeps Two Outside xs (message.StreamStart x true) o c for is =
    by_test o c (message.StreamStart x true) (is_open x xs) (is_open x xs) _ _ refl (λ e. tt) (λ e. at_first o c xs x is)
keeps Two Outside xs (message.StreamStart x false) o c for is =
    by_test o c (message.StreamStart x false) (is_open x xs) (is_open x xs) _ _ refl (λ e. at_later o c xs x is e) (λ e. tt)
keeps Two (InPair lsn xid) xs (message.StreamStart x first) o c for is = tt
keeps Two (InBlock xid) xs (message.StreamStart x first) o c for is = tt
keeps Two Outside xs message.StreamStop o c for is = tt
keeps Two (InPair lsn xid) xs message.StreamStop o c for is = tt
keeps Two (InBlock xid) xs message.StreamStop o c for is = at_stop o c xs xid is
keeps Two Outside xs (message.StreamCommit x l end time) o c for is =
    by_test o c (message.StreamCommit x l end time) (is_open x xs) (is_open x xs) _ _ refl (λ e. at_end o c xs x l end time is) (λ e. tt)
keeps Two (InPair lsn xid) xs (message.StreamCommit x l end time) o c for is = tt
keeps Two (InBlock xid) xs (message.StreamCommit x l end time) o c for is = tt
keeps Two Outside xs (message.StreamAbort x label) o c for is =
    by_test o c (message.StreamAbort x label) (is_open x xs) (is_open x xs) _ _ refl
    (λ e. by_test o c (message.StreamAbort x label) (x == label) (x == label) _ _ refl (λ same. at_drop o c xs x label is same)
    (λ other. at_cut o c xs x label is other e))
    (λ e. at_none o c xs x label is e)
keeps Two (InPair lsn xid) xs (message.StreamAbort x label) o c for is = tt
keeps Two (InBlock xid) xs (message.StreamAbort x label) o c for is = tt

-- ---- all messages

joined : (e : Option Ended) (later : List Ended) (cs ds : List Commit) → EndsAs e cs → AreOfCommits later ds
    → AreOfCommits (listed_end e ++ later) (cs ++ ds)
joined None later cs ds ends rest = subst (λ (xs : List Commit). AreOfCommits later (xs ++ ds)) (sym ends) rest
joined (Some e) later cs ds (c, is, of) rest =
    subst (λ (xs : List Commit). AreOfCommits (e ∷ later) (xs ++ ds)) (sym is) (of, rest)

unwrapped : Session × Option Ended → Result (Session × Option Ended) OrderFault → Session × Option Ended
unwrapped x (Ok y) = y
unwrapped x (Err fault) = x

same_pair : (x y : Session × Option Ended) → ◌≡◌ {A = Result (Session × Option Ended) OrderFault} (Ok x) (Ok y) → x ≡ y
unfolding unwrapped
same_pair x y e = ap (unwrapped x) e

all_messages : (s new : Session) (c : Course) (ms : List Message) (es : List Ended)
    → IsAt s.order.state.context s.order.state.open_xids s.opened c → HearsMessages s ms new es → AreOfCommits es (commits_of c ms)
all_messages s new c [] es is hears = subst (λ (xs : List Ended). AreOfCommits xs []) (sym hears.1) tt
all_messages s new c (m ∷ ms) es is (mid, e, later, for, heard, rest, are) =
    subst (λ (xs : List Ended). AreOfCommits xs (commits_of c (m ∷ ms))) (sym are)
    (go (order_step s.order.version s.order.state m)
    (keeps s.order.version s.order.state.context s.order.state.open_xids m s.opened c for is) heard
    (λ at. all_messages mid new (course_after c m) ms later at rest))
  where
    go : (r : StepResult) → Keeps s.opened c m r → by_order s m r ≡ Ok (mid, e)
        → (IsAt mid.order.state.context mid.order.state.open_xids mid.opened (course_after c m)
        → AreOfCommits later (commits_of (course_after c m) ms))
        → AreOfCommits (listed_end e ++ later) (commits_of c (m ∷ ms))
    go (Err fault) k h go_on = absurd (cc)
    go (Ok step) k h go_on =
        let now : Session = record {
          order = record { version = s.order.version; state = step.0 };
          opened = opened_by m step.1 s.opened;
        } in
        let same = same_pair (now, ended_by m step.1 s.opened) (mid, e) h in
        let mid_is : now ≡ mid = ap (λ (p : Session × Option Ended). p.0) same in
        let e_is : ended_by m step.1 s.opened ≡ e = ap (λ (p : Session × Option Ended). p.1) same in
        let at = subst (λ (x : Session). IsAt x.order.state.context x.order.state.open_xids x.opened (course_after c m)) mid_is k.0 in
        joined e later (commit_with c m) (commits_of (course_after c m) ms) (subst (λ x. EndsAs x (commit_with c m)) e_is k.1)
        (go_on at)

pub ended_are_commits : EndedAreCommits
ended_are_commits v limit messages s es hears =
    all_messages (at_start v limit) s first_course messages es (refl, λ x. refl, λ x e. refl) hears
