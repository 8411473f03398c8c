-- A watch over sessions, with each front of a piece that it hears.
use Rattle.std.proofs.Common.{◌≡◌, ◌≢◌, ◌≤◌, ◌+◌, ◌⊎◌, ◌∙◌, inl, inr, ℕ, List, [], ◌∷◌, ◌++◌}
use Rattle.std.proofs.Common.{true, false, true≢false, Option, None, Some, Ok, Err, refl, sym}
use Rattle.std.proofs.Common.{ap, subst, arith, length, take, append_assoc, append-nil, unwrap_or}
use Rattle.std.specs.Option.{is_some}
use Rattle.std.proofs.lemmas.Grind.{flat_map-append}
use Rattle.std.proofs.lemmas.List.{length-append, length-take-le}
use Rattle.pgwire.specs.declared.fault.WireFault.{WireFault}
use Rattle.pgwire.specs.declared.fault.WireFault.TheVariants as wire_fault
use Rattle.pgwire.specs.Frames as wire
use Rattle.pgwire.specs.Deframed.{Deframed, fresh, Stands as Whole, Waits, IsFed, IsReleased}
use Rattle.pgwire.specs.Deframed.{after_release}
use Rattle.pgwire.proofs.Holding.{not_both}
use Rattle.pgorder.specs.declared.Version.{Version}
use Rattle.pgwatch.specs.declared.watch.Watch.{Watch}
use Rattle.pgwatch.specs.Hearing.{at_start}
use Rattle.pgsub_core.specs.Server.Sessions.{whole_frames}
use Rattle.pgwatched.specs.Watched.{sent_of}
use Rattle.pgrules.specs.declared.findings.End.{End}
use Rattle.pgrules.specs.declared.findings.End.TheVariants as end
use Rattle.pgrules.specs.declared.findings.Findings.{Findings}
use Rattle.pgrules.specs.declared.live.LiveWatch.{LiveWatch}
use Rattle.pgrules.specs.declared.seen.Seen.{Seen}
use Rattle.pgrules.specs.Seen.{nothing_seen}
use Rattle.pgrules.specs.Watching.{EndsAtFrame, HearsFrame, IsFound}
use Rattle.pgrules.specs.Live.{HasEnded, IsFramed, IsGoing, IsTold}
use Rattle.pgrules.specs.Live.{IsWatched, Stands, StandsIn, Told}
use Rattle.pgrules.specs.Live.{bytes_of, findings_of, list_of, reports, reports_of}
use Rattle.pgrules.specs.Steps.{EndsWith, HearsNext, HearsWhole, PassesOver, begun}
use Rattle.pgrules.specs.Steps.{begun_if}
use Rattle.pgrules.specs.Steps.{found_lost, lost_as}
use Rattle.pgrules.proofs.Steps.{all_push}
use Rattle.pgrules.proofs.Goes.{breaks_of, nothing_is, whole_of}
use Rattle.pgrules.proofs.Lives.{all_frames, data_framed, done_frames, ended_more, found_done}
use Rattle.pgrules.proofs.Lives.{found_end, is_found, mid_held}
use Rattle.pgrules.proofs.Lives.{nothing_partial, sent_going, waits_framed, waits_going}
use Rattle.pgrules.proofs.Lives.{found_lost as found_unframed}

-- CopyData and CopyDone begin with other letters
abbrev letter : List ℕ → ℕ
letter [] = 0
letter (x ∷ xs) = x

other_tag : (rest more : List ℕ) → 100 ∷ rest ≡ 99 ∷ more → ⊥
other_tag rest more is = let tags : 100 ≡ 99 = ap letter is in omega (arith, tags)

pub none_of : (o : Option End) → is_some o ≡ false → o ≡ None
none_of None e = refl
none_of (Some x) e = absurd (true≢false e)

-- ---- what is told

told_none : (g : LiveWatch) → g.end ≡ None → reports (findings_of g) ≡ []
told_none g e = ap (λ o. reports (record { seen = g.seen; end = unwrap_or o end.Whole })) e

told_some : (g : LiveWatch) (x : End) → g.end ≡ Some x → reports (findings_of g) ≡ reports (record { seen = g.seen; end = x })
told_some g x e = ap (λ o. reports (record { seen = g.seen; end = unwrap_or o end.Whole })) e

told_one : (v : Version) (limit max : ℕ) (bytes : List ℕ) (seen : Seen) (x : End) → HasEnded v limit max bytes seen x
    → reports (record { seen = seen; end = x }) ≡ (record { seen = seen; end = x }) ∷ []
told_one v limit max bytes seen end.Whole h = absurd h
told_one v limit max bytes seen (end.Ended b) h = refl
told_one v limit max bytes seen (end.Unframed at fault) h = refl
told_one v limit max bytes seen (end.Unsaid at fault) h = refl
told_one v limit max bytes seen (end.Undecoded at fault) h = refl

-- ---- a session begins

module _ (v : Version) (limit max : ℕ) (g : LiveWatch) (version : g.version ≡ v) (limit_is : g.limit ≡ limit)
    (frame_is : g.max_frame ≡ max) (new : g.deframer ≡ fresh max) (watch : g.watch ≡ at_start v 0 limit)
    (seen : g.seen ≡ nothing_seen) (at : g.at ≡ 0)
    (came : g.came ≡ 0) (none : g.end ≡ None) (whole : g.lost ≡ false) where
  held_none : g.deframer.held ≡ []
  held_none = ap (λ (m : Deframed). m.held) new

  stands_first : Stands v limit max [] g
  stands_first = record {
    version = version;
    limit_is = limit_is;
    max_is = ap (λ (m : Deframed). m.max) new;
    frame_is = frame_is;
    in_session = subst (λ b. StandsIn v limit max [] g g.end b) (sym whole) (subst (λ o. StandsIn v limit max [] g o false) (sym none) (
      record {
        fs = [];
        whole = sym held_none;
        each = tt;
        none = refl;
        partial = nothing_partial max g.deframer.held held_none;
        first = ap (λ (m : Deframed). m.done) new;
        sound = ap (λ (m : Deframed). m.fault) new;
      },
      record {
        fs = [];
        is = record {
          whole = sym held_none;
          each = tt;
          fits = tt;
          decoded = tt;
          placed = tt;
          heard = ap (λ x. Ok x) (sym watch);
        };
        seen_is = seen;
        watched = ap (λ (x : Watch). x.ended) watch;
        at_is = at;
        came_is = came;
      },
    ));
  }

  pub at_first : IsWatched v limit max [] g []
  at_first = record {
    ended = [];
    now = [];
    parts = refl;
    each = tt;
    stands = stands_first;
    told_is = sym (told_none g none);
  }

module _ (v : Version) (limit max : ℕ) (all : List ℕ) (g : LiveWatch) (told : List Findings) (i : IsWatched v limit max all g told) where
  -- the session goes on
  goes_on : (part : List ℕ) (new : LiveWatch) (found : Option Findings) → Stands v limit max (i.now ++ part) new
      → reports (findings_of g) ++ list_of found ≡ reports (findings_of new)
      → IsWatched v limit max (all ++ part) new (told ++ list_of found)
  goes_on part new found stands same = record {
    ended = i.ended;
    now = i.now ++ part;
    parts = ap (λ xs. xs ++ part) i.parts ∙ append_assoc (bytes_of i.ended) i.now part;
    each = i.each;
    stands = stands;
    told_is = ap (λ xs. xs ++ list_of found) i.told_is ∙ append_assoc (reports_of i.ended) (reports (findings_of g)) (list_of found)
        ∙ ap (λ (xs : List Findings). reports_of i.ended ++ xs) same;
  }

  -- it has ended
  session_ends : (part : List ℕ) (new : LiveWatch) (found : Findings) → IsTold v limit max (record { bytes = i.now ++ part; found = found })
      → reports found ≡ reports (findings_of g) → Stands v limit max [] new → new.end ≡ None
      → IsWatched v limit max (all ++ part) new (told ++ [])
  session_ends part new found is same stands none =
      let t : Told = record { bytes = i.now ++ part; found = found } in
      record {
        ended = i.ended ++ t ∷ [];
        now = [];
        parts = ap (λ xs. xs ++ part) i.parts ∙ append_assoc (bytes_of i.ended) i.now part
            ∙ ap (λ (xs : List ℕ). bytes_of i.ended ++ xs) (sym (append-nil (i.now ++ part)))
            ∙ sym (flat_map-append (λ (x : Told). x.bytes) i.ended (t ∷ [])) ∙ sym (append-nil (bytes_of (i.ended ++ t ∷ [])));
        each = all_push (IsTold v limit max) i.ended t i.each is;
        stands = stands;
        told_is = append-nil told ∙ i.told_is
            ∙ ap (λ (xs : List Findings). reports_of i.ended ++ xs) (sym same ∙ sym (append-nil (reports found)))
            ∙ sym (flat_map-append (λ (x : Told). reports x.found) i.ended (t ∷ []))
            ∙ sym (ap (λ (xs : List Findings). reports_of (i.ended ++ t ∷ []) ++ xs) (told_none new none)
            ∙ append-nil (reports_of (i.ended ++ t ∷ [])));
      }

  -- ---- where the watch over the session stands

  going : g.end ≡ None → g.lost ≡ false → IsFramed max i.now g.deframer
      × IsGoing v limit max i.now g.deframer g.watch g.seen g.at g.came
  going none whole =
      subst (λ o. StandsIn v limit max i.now g o false) none (subst (λ b. StandsIn v limit max i.now g g.end b) whole i.stands.in_session)

  ended : (x : End) → g.end ≡ Some x → g.lost ≡ false → IsFramed max i.now g.deframer × HasEnded v limit max i.now g.seen x
  ended x some whole =
      subst (λ o. StandsIn v limit max i.now g o false) some (subst (λ b. StandsIn v limit max i.now g g.end b) whole i.stands.in_session)

  framed : g.lost ≡ false → IsFramed max i.now g.deframer
  framed whole = go g.end refl
    where
      go : (o : Option End) → g.end ≡ o → IsFramed max i.now g.deframer
      go None e = (going e whole).0
      go (Some x) e = (ended x e whole).0

  pub is_watched : g.end ≡ None → g.lost ≡ false → g.watch.ended ≡ None
  is_watched none whole = (going none whole).1.watched

  -- ---- the frames can't be told apart any more

  pub path_lost : (piece : List ℕ) (n : ℕ) → g.lost ≡ true → n ≡ length piece → IsWatched v limit max (all ++ take n piece) g (told ++ [])
  path_lost piece n lost e =
      goes_on (take n piece) g None (record {
        version = i.stands.version;
        limit_is = i.stands.limit_is;
        max_is = i.stands.max_is;
        frame_is = i.stands.frame_is;
        in_session =
            subst (λ b. StandsIn v limit max (i.now ++ take n piece) g g.end b) (sym lost)
            (go g.end (subst (λ b. StandsIn v limit max i.now g g.end b) lost i.stands.in_session));
      }) (append-nil (reports (findings_of g)))
    where
      go : (o : Option End) → StandsIn v limit max i.now g o true → StandsIn v limit max (i.now ++ take n piece) g o true
      go None h = absurd h
      go (Some x) h = ended_more v limit max i.now (take n piece) g.seen x h

  pub path_lose : (part : List ℕ) (d : Deframed) (fault : WireFault) (new : LiveWatch) (found : Option Findings) → d.max ≡ max
      → (fault ≢ wire_fault.Memory → wire.IsFramingFault max false (g.deframer.held ++ part) fault) → g.lost ≡ false
      → new ≡ lost_as (record g { deframer = d }) fault g.end → found ≡ found_lost (record g { deframer = d }) fault g.end
      → IsWatched v limit max (all ++ part) new (told ++ list_of found)
  path_lose part d fault new found max_is breaks whole new_is found_is = go g.end refl
    where
      go : (o : Option End) → g.end ≡ o → IsWatched v limit max (all ++ part) new (told ++ list_of found)
      go None none =
          let mine : new ≡ record g { deframer = d; lost = true; end = Some (end.Unframed g.at fault) } =
          new_is ∙ ap (λ o. lost_as (record g { deframer = d }) fault o) none in
          let its : found ≡ Some (record { seen = g.seen; end = end.Unframed g.at fault }) =
          found_is ∙ ap (λ o. found_lost (record g { deframer = d }) fault o) none in
          let u = (going none whole).1 in
          goes_on part new found
          (subst (Stands v limit max (i.now ++ part)) (sym mine) (record {
            version = i.stands.version;
            limit_is = i.stands.limit_is;
            max_is = max_is;
            frame_is = i.stands.frame_is;
            in_session = found_unframed v limit max i.now g.deframer g.watch g.seen g.at g.came u part fault breaks;
          }))
          (ap (λ xs. xs ++ list_of found) (told_none g none) ∙ ap (λ x. list_of x) its
          ∙ sym (ap (λ (x : LiveWatch). reports (findings_of x)) mine))
      go (Some x) some =
          let mine : new ≡ record g { deframer = d; lost = true } = new_is ∙ ap (λ o. lost_as (record g { deframer = d }) fault o) some in
          let its : found ≡ None = found_is ∙ ap (λ o. found_lost (record g { deframer = d }) fault o) some in
          goes_on part new found
          (subst (Stands v limit max (i.now ++ part)) (sym mine) (record {
            version = i.stands.version;
            limit_is = i.stands.limit_is;
            max_is = max_is;
            frame_is = i.stands.frame_is;
            in_session =
                subst (λ o. StandsIn v limit max (i.now ++ part) (record g { deframer = d; lost = true }) o true) (sym some)
                (ended_more v limit max i.now part g.seen x (ended x some whole).1);
          }))
          (ap (λ o. reports (findings_of g) ++ list_of o) its ∙ append-nil (reports (findings_of g))
          ∙ sym (ap (λ (x : LiveWatch). reports (findings_of x)) mine))

  fed_max : (piece : List ℕ) (x : WireFault) (d : Deframed) → IsFed g.deframer piece (Err x) d → d.max ≡ g.deframer.max
  fed_max piece wire_fault.Memory d fed = ap (λ (m : Deframed). m.max) fed.1
  fed_max piece wire_fault.AfterDone d fed = ap (λ (m : Deframed). m.max) fed.0
  fed_max piece (wire_fault.UnknownFrame byte) d fed = ap (λ (m : Deframed). m.max) fed.0
  fed_max piece wire_fault.BadLength d fed = ap (λ (m : Deframed). m.max) fed.0
  fed_max piece wire_fault.TooLarge d fed = ap (λ (m : Deframed). m.max) fed.0
  fed_max piece (wire_fault.UnknownServerMessage byte) d fed = ap (λ (m : Deframed). m.max) fed.0
  fed_max piece wire_fault.Short d fed = ap (λ (m : Deframed). m.max) fed.0
  fed_max piece wire_fault.Trailing d fed = ap (λ (m : Deframed). m.max) fed.0
  fed_max piece wire_fault.BadReplyByte d fed = ap (λ (m : Deframed). m.max) fed.0

  pub path_err : (piece : List ℕ) (n : ℕ) (d : Deframed) (fault : WireFault) (new : LiveWatch) (found : Option Findings) → n ≡ length piece
      → IsFed g.deframer piece (Err fault) d → g.lost ≡ false
      → new ≡ lost_as (record g { deframer = d }) fault g.end → found ≡ found_lost (record g { deframer = d }) fault g.end
      → IsWatched v limit max (all ++ take n piece) new (told ++ list_of found)
  path_err piece n d fault new found all_taken fed whole new_is found_is =
      let f = framed whole in
      path_lose (take n piece) d fault new found (fed_max piece fault d fed ∙ i.stands.max_is)
      (λ other.
      subst (λ (xs : List ℕ). wire.IsFramingFault max false (g.deframer.held ++ xs) fault) (sym (whole_of n piece all_taken))
      (subst (λ m. wire.IsFramingFault m false (g.deframer.held ++ piece) fault) i.stands.max_is
      (subst (λ b. wire.IsFramingFault g.deframer.max b (g.deframer.held ++ piece) fault) f.first
      (breaks_of g.deframer d piece fault f.sound other fed))))
      whole new_is found_is

  pub path_over : (piece : List ℕ) (n k : ℕ) (mid : Deframed) (new : LiveWatch) (found : Option Findings)
      → IsFed g.deframer piece (Ok k) mid → g.lost ≡ false
      → new ≡ lost_as (record g { deframer = mid }) wire_fault.Memory g.end
      → found ≡ found_lost (record g { deframer = mid }) wire_fault.Memory g.end
      → IsWatched v limit max (all ++ take n piece) new (told ++ list_of found)
  path_over piece n k mid new found fed whole new_is found_is =
      path_lose (take n piece) mid wire_fault.Memory new found (ap (λ (m : Deframed). m.max) fed.2 ∙ i.stands.max_is)
      (λ other. absurd (other refl)) whole new_is found_is

  -- ---- the next session

  begins : (h : LiveWatch) → h.version ≡ v → h.limit ≡ limit → h.max_frame ≡ max → h.deframer.max ≡ max → h.lost ≡ false
      → Stands v limit max [] (begun h)
  begins h version limit_is frame_is max_is whole =
      stands_first v limit max (begun h) version limit_is frame_is (ap fresh max_is)
      (ap (λ x. at_start x 0 h.limit) version ∙ ap (λ n. at_start v 0 n) limit_is) refl refl refl refl whole

  module _ (piece : List ℕ) (n : ℕ) (mid : Deframed) (fed : IsFed g.deframer piece (Ok n) mid) (whole : g.lost ≡ false) where
    f : IsFramed max i.now g.deframer
    f = framed whole

    mid_max_is : mid.max ≡ max
    mid_max_is = ap (λ (m : Deframed). m.max) fed.2 ∙ i.stands.max_is

    mid_first_is : mid.done ≡ false
    mid_first_is = ap (λ (m : Deframed). m.done) fed.2 ∙ f.first

    -- the session has ended with CopyDone
    ends_here : (found : Findings) (h new : LiveWatch) → Whole mid wire.CopyDone
        → IsFound v max limit (i.now ++ take n piece) found → reports found ≡ reports (findings_of g)
        → h.version ≡ g.version → h.limit ≡ g.limit → h.max_frame ≡ g.max_frame → h.deframer.max ≡ max → h.lost ≡ g.lost
        → new ≡ begun h → IsWatched v limit max (all ++ take n piece) new (told ++ [])
    ends_here found h new stands is same version limit_is frame_is max_is lost new_is =
        session_ends (take n piece) new found (record {
          fs = f.fs;
          whole = all_frames max i.now piece g.deframer mid n f i.stands.max_is fed wire.CopyDone stands;
          each = done_frames max i.now piece g.deframer mid n f i.stands.max_is fed;
          is = is;
        }) same
        (subst (Stands v limit max []) (sym new_is)
        (begins h (version ∙ i.stands.version) (limit_is ∙ i.stands.limit_is) (frame_is ∙ i.stands.frame_is) max_is (lost ∙ whole)))
        (ap (λ (x : LiveWatch). x.end) new_is)

    released_data : (payload : List ℕ) (h new : LiveWatch) → Whole mid (wire.CopyData payload) → h.deframer ≡ mid → PassesOver h new
        → (d : Deframed) × (d ≡ after_release mid (wire.CopyData payload)) × (new ≡ record h { deframer = d })
    released_data payload h new stands same (d, is, passes) =
        let rel = is.stood (wire.CopyData payload) (subst (λ m. Whole m (wire.CopyData payload)) (sym same) stands) in
        let mine : d ≡ after_release mid (wire.CopyData payload) = rel ∙ ap (λ m. after_release m (wire.CopyData payload)) same in
        (d, mine, passes ∙ ap (λ b. begun_if b (record h { deframer = d })) (ap (λ (m : Deframed). m.done) mine))

    released_done : (h new : LiveWatch) → Whole mid wire.CopyDone → h.deframer ≡ mid → PassesOver h new
        → (d : Deframed) × (d.max ≡ max) × (new ≡ begun (record h { deframer = d }))
    released_done h new stands same (d, is, passes) =
        let rel = is.stood wire.CopyDone (subst (λ m. Whole m wire.CopyDone) (sym same) stands) in
        let mine : d ≡ after_release mid wire.CopyDone = rel ∙ ap (λ m. after_release m wire.CopyDone) same in (
          d,
          ap (λ (m : Deframed). m.max) mine ∙ mid_max_is,
          passes ∙ ap (λ b. begun_if b (record h { deframer = d })) (ap (λ (m : Deframed). m.done) mine),
        )

    released_none : (h new : LiveWatch) → Waits mid → h.deframer ≡ mid → PassesOver h new → new ≡ record h { deframer = mid }
    released_none h new waits same (d, is, passes) =
        let rel = is.waited (subst Waits (sym same) waits) in
        let mine : d ≡ mid = rel ∙ same in
        passes ∙ ap (λ (m : Deframed). begun_if m.done (record h { deframer = m })) mine
        ∙ ap (λ b. begun_if b (record h { deframer = mid })) mid_first_is

    -- ---- the watch over the session has ended before

    pub path_ended : (x : End) (new : LiveWatch) → g.end ≡ Some x → PassesOver (record g { deframer = mid }) new
        → IsWatched v limit max (all ++ take n piece) new (told ++ [])
    path_ended x new some passes = go fed.3
      where
        more : HasEnded v limit max (i.now ++ take n piece) g.seen x
        more = ended_more v limit max i.now (take n piece) g.seen x (ended x some whole).1

        stays : (d : Deframed) → d.max ≡ max → IsFramed max (i.now ++ take n piece) d → new ≡ record g { deframer = d }
            → IsWatched v limit max (all ++ take n piece) new (told ++ [])
        stays d max_is framed_on mine =
            goes_on (take n piece) new None
            (subst (Stands v limit max (i.now ++ take n piece)) (sym mine) (record {
              version = i.stands.version;
              limit_is = i.stands.limit_is;
              max_is = max_is;
              frame_is = i.stands.frame_is;
              in_session =
                  subst (λ b. StandsIn v limit max (i.now ++ take n piece) (record g { deframer = d }) g.end b) (sym whole)
                  (subst (λ o. StandsIn v limit max (i.now ++ take n piece) (record g { deframer = d }) o false) (sym some)
                  (framed_on, more));
            }))
            (append-nil (reports (findings_of g)) ∙ sym (ap (λ (y : LiveWatch). reports (findings_of y)) mine))

        go : ((frame : wire.Frame) × Whole mid frame) ⊎ ((n ≡ length piece) × Waits mid)
            → IsWatched v limit max (all ++ take n piece) new (told ++ [])
        go (inl (wire.CopyData payload, stands)) =
            let rel = released_data payload (record g { deframer = mid }) new stands refl passes in
            stays rel.0 (ap (λ (m : Deframed). m.max) rel.1 ∙ mid_max_is)
            (data_framed max i.now piece g.deframer mid n f i.stands.max_is fed payload rel.0 stands rel.1) rel.2
        go (inl (wire.CopyDone, stands)) =
            let rel = released_done (record g { deframer = mid }) new stands refl passes in
            ends_here (record { seen = g.seen; end = x }) (record g { deframer = rel.0 }) new stands
            (is_found v limit max (i.now ++ take n piece) g.seen x more) (sym (told_some g x some)) refl refl refl rel.1 refl rel.2
        go (inr (same, waits)) =
            stays mid mid_max_is (waits_framed max i.now piece g.deframer mid n f i.stands.max_is fed waits)
            (released_none (record g { deframer = mid }) new waits refl passes)

    pub path_was_ended : (new : LiveWatch) → is_some g.end ≡ true → PassesOver (record g { deframer = mid }) new
        → IsWatched v limit max (all ++ take n piece) new (told ++ [])
    path_was_ended new some passes = go g.end refl
      where
        go : (o : Option End) → g.end ≡ o → IsWatched v limit max (all ++ take n piece) new (told ++ [])
        go None e = absurd (true≢false (sym some ∙ ap (λ o. is_some o) e))
        go (Some x) e = path_ended x new e passes

    -- ---- the watch goes on with the next frame

    module _ (none : g.end ≡ None) (came : ℕ) (count : came ≡ g.came + n) (most : max ≤ 2147483643) where
      u : IsGoing v limit max i.now g.deframer g.watch g.seen g.at g.came
      u = (going none whole).1

      abbrev h : LiveWatch
      h = record g { deframer = mid; came = came }

      held_is : mid.held ≡ g.deframer.held ++ take n piece
      held_is = mid_held max i.now piece g.deframer mid n f i.stands.max_is fed

      taken : length (take n piece) ≡ n
      taken = length-take-le n piece fed.1

      count_is : came ≡ g.came + length (take n piece)
      count_is = omega (arith, count, taken)

      going_on : (new : LiveWatch) → new.version ≡ g.version → new.limit ≡ g.limit → new.max_frame ≡ g.max_frame
          → new.deframer.max ≡ max → new.lost ≡ g.lost → new.end ≡ None → IsFramed max (i.now ++ take n piece) new.deframer
          → IsGoing v limit max (i.now ++ take n piece) new.deframer new.watch new.seen new.at new.came
          → IsWatched v limit max (all ++ take n piece) new (told ++ [])
      going_on new version limit_is frame_is max_is lost end_is framed_on on =
          goes_on (take n piece) new None
          (record {
            version = version ∙ i.stands.version;
            limit_is = limit_is ∙ i.stands.limit_is;
            max_is = max_is;
            frame_is = frame_is ∙ i.stands.frame_is;
            in_session =
                subst (λ b. StandsIn v limit max (i.now ++ take n piece) new new.end b) (sym (lost ∙ whole))
                (subst (λ o. StandsIn v limit max (i.now ++ take n piece) new o false) (sym end_is) (framed_on, on));
          })
          (append-nil (reports (findings_of g)) ∙ told_none g none ∙ sym (told_none new end_is))

      waits_on : (new : LiveWatch) → Waits mid → new ≡ h → IsWatched v limit max (all ++ take n piece) new (told ++ [])
      waits_on new waits same =
          subst (λ x. IsWatched v limit max (all ++ take n piece) x (told ++ [])) (sym same)
          (going_on h refl refl refl mid_max_is refl none (waits_framed max i.now piece g.deframer mid n f i.stands.max_is fed waits)
          (waits_going v limit max i.now g.deframer g.watch g.seen g.at g.came u (take n piece) mid came held_is count_is))

      -- a message or a keepalive was heard well
      sent_on : (payload : List ℕ) (new : LiveWatch) (w : Watch) (seen : Seen) → Whole mid (wire.CopyData payload)
          → HearsFrame g.watch g.seen g.at (wire.CopyData payload) w seen
          → PassesOver (record h { watch = w; seen = seen; at = came }) new → IsWatched v limit max (all ++ take n piece) new (told ++ [])
      sent_on payload new w seen stands (inr (is, same, kept)) passes = absurd (cc)
      sent_on payload new w seen stands (inl (s, says, heard, seen_is)) passes =
          let rel = released_data payload (record h { watch = w; seen = seen; at = came }) new stands refl passes in
          subst (λ x. IsWatched v limit max (all ++ take n piece) x (told ++ [])) (sym rel.2)
          (going_on (record h { watch = w; seen = seen; at = came; deframer = rel.0 }) refl refl refl
          (ap (λ (m : Deframed). m.max) rel.1 ∙ mid_max_is) refl none
          (data_framed max i.now piece g.deframer mid n f i.stands.max_is fed payload rel.0 stands rel.1)
          (sent_going v limit max i.now g.deframer g.watch g.seen g.at g.came u (take n piece) mid (wire.CopyData payload) held_is stands
          mid_max_is s w seen came rel.0 most says heard seen_is count_is (ap (λ (m : Deframed). m.held) rel.1)))

      -- CopyDone was heard
      done_on : (new : LiveWatch) (w : Watch) (seen : Seen) → Whole mid wire.CopyDone
          → HearsFrame g.watch g.seen g.at wire.CopyDone w seen
          → PassesOver (record h { watch = w; seen = seen; at = came }) new → IsWatched v limit max (all ++ take n piece) new (told ++ [])
      done_on new w seen stands (inl (s, says, heard, seen_is)) passes =
          let bad : wire.CopyDone ≡ _ = says.0 in absurd (cc)
      done_on new w seen stands (inr (is, same, kept)) passes =
          let rel = released_done (record h { watch = w; seen = seen; at = came }) new stands refl passes in
          ends_here (record { seen = g.seen; end = end.Whole }) (record h { watch = w; seen = seen; at = came; deframer = rel.0 }) new
          stands
          (found_done v limit max i.now g.deframer g.watch g.seen g.at g.came u (take n piece) mid wire.CopyDone held_is stands
          mid_max_is refl)
          (sym (told_none g none)) refl refl refl rel.1 refl rel.2

      -- the watch ends with the frame
      ends_on : (frame : wire.Frame) (new : LiveWatch) (found : Option Findings) → Whole mid frame → EndsWith h frame new found
          → IsWatched v limit max (all ++ take n piece) new (told ++ list_of found)
      ends_on wire.CopyDone new found stands (x, w, d, ends, is, new_is, found_is) = absurd (no x ends)
        where
          no : (x : End) → EndsAtFrame g.watch g.at wire.CopyDone x → ⊥
          no end.Whole h = h
          no (end.Ended b) h = let bad : wire.CopyDone ≡ _ = h.1.0 in absurd (cc)
          no (end.Unframed at fault) h = h
          no (end.Unsaid at fault) h = let bad : wire.CopyDone ≡ wire.CopyData h.1 = h.2 in absurd (cc)
          no (end.Undecoded at fault) h = let bad : wire.CopyDone ≡ _ = h.1.4 in absurd (cc)
      ends_on (wire.CopyData payload) new found stands (x, w, d, ends, is, new_is, found_is) =
          let rel : d ≡ after_release mid (wire.CopyData payload) = is.stood (wire.CopyData payload) stands in
          let has = found_end v limit max i.now g.deframer g.watch g.seen g.at g.came u (take n piece) mid (wire.CopyData payload)
          held_is stands
          mid_max_is x ends in
          goes_on (take n piece) new found
          (subst (Stands v limit max (i.now ++ take n piece)) (sym new_is) (record {
            version = i.stands.version;
            limit_is = i.stands.limit_is;
            max_is = ap (λ (m : Deframed). m.max) rel ∙ mid_max_is;
            frame_is = i.stands.frame_is;
            in_session =
                subst (λ b. StandsIn v limit max (i.now ++ take n piece) (record h { watch = w; deframer = d; end = Some x }) (Some x) b)
                (sym whole) (data_framed max i.now piece g.deframer mid n f i.stands.max_is fed payload d stands rel, has);
          }))
          (ap (λ xs. xs ++ list_of found) (told_none g none) ∙ ap (λ o. list_of o) found_is
          ∙ sym (told_one v limit max (i.now ++ take n piece) g.seen x has)
          ∙ sym (ap (λ (y : LiveWatch). reports (findings_of y)) new_is))

      pub path_next : (new : LiveWatch) (found : Option Findings) → HearsNext h new found
          → IsWatched v limit max (all ++ take n piece) new (told ++ list_of found)
      path_next new found (inl (waits, same, is)) =
          subst (λ o. IsWatched v limit max (all ++ take n piece) new (told ++ list_of o)) (sym is) (waits_on new waits same)
      path_next new found (inr (wire.CopyData payload, stands, inl (w, seen, hears, passes, is))) =
          subst (λ o. IsWatched v limit max (all ++ take n piece) new (told ++ list_of o)) (sym is)
          (sent_on payload new w seen stands hears passes)
      path_next new found (inr (wire.CopyDone, stands, inl (w, seen, hears, passes, is))) =
          subst (λ o. IsWatched v limit max (all ++ take n piece) new (told ++ list_of o)) (sym is) (done_on new w seen stands hears passes)
      path_next new found (inr (frame, stands, inr ends)) = ends_on frame new found stands ends

  -- ---- a payload of CopyData is heard in its place

  module _ (payload piece : List ℕ) (none : g.end ≡ None) (whole : g.lost ≡ false) (same : g.came ≡ g.at)
      (allowed : wire.IsAllowed g.max_frame (wire.CopyData payload))
      (front : take (length payload + 5) piece ≡ wire.frame (wire.CopyData payload)) (bound : length payload + 5 ≤ length piece) where
    nothing_held : g.deframer.held ≡ []
    nothing_held =
        let u = (going none whole).1 in
        nothing_is g.deframer.held
        (omega (
          arith,
          same,
          u.at_is,
          u.came_is,
          ap (λ (xs : List ℕ). length xs) u.is.whole,
          length-append (whole_frames (sent_of u.fs) false) g.deframer.held,
        ))

    -- as if it had been fed
    abbrev fed_with : Deframed
    fed_with = record g.deframer { held = take (length payload + 5) piece }

    fed_stands : Whole fed_with (wire.CopyData payload)
    fed_stands = record {
      allowed = subst (λ m. wire.IsAllowed m (wire.CopyData payload)) (i.stands.frame_is ∙ sym i.stands.max_is) allowed;
      whole = front;
      first = (framed whole).first;
      fault = (framed whole).sound;
    }

    fed_is : IsFed g.deframer piece (Ok (length payload + 5)) fed_with
    fed_is = (
      (framed whole).sound,
      bound,
      ap (λ (xs : List ℕ). record g.deframer { held = xs ++ take (length payload + 5) piece }) (sym nothing_held),
      inl (wire.CopyData payload, fed_stands),
    )

    released_is : IsReleased fed_with (after_release fed_with (wire.CopyData payload))
    released_is = record {
      stood = stood;
      waited = λ waits. absurd (not_both fed_with (wire.CopyData payload) fed_stands waits);
    }
      where
        stood : (frame : wire.Frame) → Whole fed_with frame
            → after_release fed_with (wire.CopyData payload) ≡ after_release fed_with frame
        stood (wire.CopyData other) stands = refl
        stood wire.CopyDone stands = absurd (other_tag _ _ (sym front ∙ stands.whole))

    -- what it was before
    back : after_release fed_with (wire.CopyData payload) ≡ g.deframer
    back =
        ap (λ (xs : List ℕ). record g.deframer { held = xs; done = false }) (sym nothing_held)
        ∙ ap (λ b. record g.deframer { done = b }) (sym (framed whole).first)

    pub path_whole : (new : LiveWatch) (found : Option Findings) → max ≤ 2147483643 → HearsWhole g payload new found
        → IsWatched v limit max (all ++ take (length payload + 5) piece) new (told ++ list_of found)
    path_whole new found most (inl (came, count, inl (w, seen, hears, is, found_is))) =
        path_next piece (length payload + 5) fed_with fed_is whole none came count most new found
        (inr (
          wire.CopyData payload,
          fed_stands,
          inl (
            w,
            seen,
            hears,
            (
              after_release fed_with (wire.CopyData payload),
              released_is,
              is ∙ ap (λ d. record g { watch = w; seen = seen; at = came; came = came; deframer = d }) (sym back),
            ),
            found_is,
          ),
        ))
    path_whole new found most (inl (came, count, inr (x, w, ends, is, found_is))) =
        path_next piece (length payload + 5) fed_with fed_is whole none came count most new found
        (inr (
          wire.CopyData payload,
          fed_stands,
          inr (
            x,
            w,
            after_release fed_with (wire.CopyData payload),
            ends,
            released_is,
            is ∙ ap (λ d. record g { watch = w; came = came; end = Some x; deframer = d }) (sym back),
            found_is,
          ),
        ))
    path_whole new found most (inr (is, found_is)) =
        path_lose (take (length payload + 5) piece) g.deframer wire_fault.Memory new found i.stands.max_is
        (λ other. absurd (other refl)) whole is found_is
