-- Sessions that are compared, with each front of a piece that comes.
use Rattle.std.proofs.Common.{◌≡◌, ◌≢◌, ◌≤◌, ◌+◌, ◌∙◌, inl, inr, ℕ, List, [], ◌∷◌, ◌++◌, Bool}
use Rattle.std.proofs.Common.{nat_le}
use Rattle.std.proofs.Common.{true, false, None, Some, Ok, Err, refl, sym, ap}
use Rattle.std.proofs.Common.{subst}
use Rattle.std.proofs.Common.{arith, length, take, take_all, append_assoc, append-nil, ⊎_elim}
use Rattle.std.proofs.lemmas.List.{length-append, length-take-le}
use Rattle.pgwire.specs.declared.fault.WireFault.{WireFault}
use Rattle.pgwire.specs.declared.fault.WireFault.TheVariants as wire_fault
use Rattle.pgwire.specs.Frames as wire
use Rattle.pgwire.specs.Deframed.{Deframed, fresh, Stands, Waits, IsFed, IsReleased, after_release}
use Rattle.pgorder.specs.declared.Version.{Version}
use Rattle.pgrepeats.specs.declared.past.Past.{Past}
use Rattle.pgcompared.specs.declared.compared.Compared.{Compared}
use Rattle.pgcompared.specs.declared.hearing.Hearing.{Hearing}
use Rattle.pgcompared.specs.declared.noting.Told.{Told}
use Rattle.pgcompared.specs.Frames.{Takes}
use Rattle.pgcompared.specs.Noting.{told_nothing}
use Rattle.pgcompared.specs.Live.{HearsNext, HearsWhole, IsCompared, IsDeaf, IsGoing, Leads}
use Rattle.pgcompared.specs.Live.{StandsBehind, Step}
use Rattle.pgcompared.specs.Live.{bytes_of, first_hearing, passed_over, spoken, told_deaf}
use Rattle.pgcompared.specs.Live.{told_of}

-- nothing is held
nothing_partial : (max : ℕ) (held : List ℕ) → held ≡ [] → wire.IsPartial max held
nothing_partial max held none =
    subst (wire.IsPartial max) (sym none) (record { tag = λ some. absurd (omega arith); payload = λ long. absurd (omega arith) })

nothing_long : (held : List ℕ) → length held ≡ 0 → held ≡ []
nothing_long [] none = refl
nothing_long (x ∷ xs) none = absurd (omega (arith, none))

pub at_first : (v : Version) (limit max : ℕ) (past : Past) (reached : ℕ) (c : Compared) → c.deframer ≡ fresh max
    → c.max_frame ≡ max → c.hearing ≡ first_hearing v limit past reached → c.came ≡ 0 → c.deaf ≡ false
    → IsCompared v limit max past reached [] c []
at_first v limit max past reached c new same first came whole = record {
  limit_is = same;
  steps = [];
  leads = first;
  max_is = ap (λ (d : Deframed). d.max) new;
  stands =
      subst (StandsBehind max [] [] c []) (sym whole) (
        record {
          whole = sym (ap (λ (d : Deframed). d.held) new);
          partial = nothing_partial max c.deframer.held (ap (λ (d : Deframed). d.held) new);
          first = ap (λ (d : Deframed). d.done) new;
          sound = ap (λ (d : Deframed). d.fault) new;
          came_is = omega (arith, came, ap (λ (h : Hearing). h.at) first, ap (λ (d : Deframed). length d.held) new);
        },
        refl,
      );
}

-- the fault is that of what is held and of the piece
breaks_of : (old new : Deframed) (piece : List ℕ) (x : WireFault) → old.fault ≡ None → x ≢ wire_fault.Memory → IsFed old piece (Err
    x) new
    → wire.IsFramingFault old.max old.done (old.held ++ piece) x
breaks_of old new piece wire_fault.Memory none other fed = absurd (other refl)
breaks_of old new piece wire_fault.AfterDone none other fed =
    ⊎_elim (λ (e : old.fault ≡ Some wire_fault.AfterDone). let bad : None ≡ Some wire_fault.AfterDone = sym none ∙ e in absurd (cc))
    (λ b. b.1) fed.2
breaks_of old new piece (wire_fault.UnknownFrame byte) none other fed =
    ⊎_elim (λ (e : old.fault ≡ Some (wire_fault.UnknownFrame byte)). let bad : None ≡ Some (wire_fault.UnknownFrame byte) = sym none ∙ e in
    absurd (cc))
    (λ b. b.1) fed.2
breaks_of old new piece wire_fault.BadLength none other fed =
    ⊎_elim (λ (e : old.fault ≡ Some wire_fault.BadLength). let bad : None ≡ Some wire_fault.BadLength = sym none ∙ e in absurd (cc))
    (λ b. b.1) fed.2
breaks_of old new piece wire_fault.TooLarge none other fed =
    ⊎_elim (λ (e : old.fault ≡ Some wire_fault.TooLarge). let bad : None ≡ Some wire_fault.TooLarge = sym none ∙ e in absurd (cc))
    (λ b. b.1) fed.2
breaks_of old new piece (wire_fault.UnknownServerMessage byte) none other fed =
    ⊎_elim (λ (e : old.fault ≡ Some (wire_fault.UnknownServerMessage byte)). let bad : None
    ≡ Some (wire_fault.UnknownServerMessage byte) = sym none ∙ e in absurd (cc))
    (λ b. b.1) fed.2
breaks_of old new piece wire_fault.Short none other fed =
    ⊎_elim (λ (e : old.fault ≡ Some wire_fault.Short). let bad : None ≡ Some wire_fault.Short = sym none ∙ e in absurd (cc))
    (λ b. b.1) fed.2
breaks_of old new piece wire_fault.Trailing none other fed =
    ⊎_elim (λ (e : old.fault ≡ Some wire_fault.Trailing). let bad : None ≡ Some wire_fault.Trailing = sym none ∙ e in absurd (cc))
    (λ b. b.1) fed.2
breaks_of old new piece wire_fault.BadReplyByte none other fed =
    ⊎_elim (λ (e : old.fault ≡ Some wire_fault.BadReplyByte). let bad : None ≡ Some wire_fault.BadReplyByte = sym none ∙ e in absurd (cc))
    (λ b. b.1) fed.2

fed_max : (old new : Deframed) (piece : List ℕ) (x : WireFault) → IsFed old piece (Err x) new → new.max ≡ old.max
fed_max old new piece wire_fault.Memory fed = ap (λ (m : Deframed). m.max) fed.1
fed_max old new piece wire_fault.AfterDone fed = ap (λ (m : Deframed). m.max) fed.0
fed_max old new piece (wire_fault.UnknownFrame byte) fed = ap (λ (m : Deframed). m.max) fed.0
fed_max old new piece wire_fault.BadLength fed = ap (λ (m : Deframed). m.max) fed.0
fed_max old new piece wire_fault.TooLarge fed = ap (λ (m : Deframed). m.max) fed.0
fed_max old new piece (wire_fault.UnknownServerMessage byte) fed = ap (λ (m : Deframed). m.max) fed.0
fed_max old new piece wire_fault.Short fed = ap (λ (m : Deframed). m.max) fed.0
fed_max old new piece wire_fault.Trailing fed = ap (λ (m : Deframed). m.max) fed.0
fed_max old new piece wire_fault.BadReplyByte fed = ap (λ (m : Deframed). m.max) fed.0

-- ---- before the first byte

frame_some : (f : wire.Frame) → 1 ≤ length (wire.frame f)
frame_some (wire.CopyData bytes) = omega arith
frame_some wire.CopyDone = omega arith

none_came : (steps : List Step) (rest : List ℕ) → [] ≡ bytes_of steps ++ rest → steps ≡ []
none_came [] rest e = refl
none_came (x ∷ xs) rest e =
    absurd (omega (
      arith,
      ap (λ (bytes : List ℕ). length bytes) e,
      length-append (bytes_of xs ++ wire.frame x.frame) rest,
      length-append (bytes_of xs) (wire.frame x.frame),
      frame_some x.frame,
    ))

-- others came up to here
abbrev reaching : ℕ → Hearing → Hearing
reaching reached h = record h { noting = record h.noting { reached = reached; is_whole = nat_le reached h.noting.past.newest } }

leads_reaching : (v : Version) (limit max : ℕ) (past : Past) (before reached : ℕ) (steps : List Step) (h : Hearing) → steps ≡ []
    → Leads v limit max past before steps h → Leads v limit max past reached steps (reaching reached h)
leads_reaching v limit max past before reached steps h none leads =
    subst (λ (xs : List Step). Leads v limit max past reached xs (reaching reached h)) (sym none)
    (ap (reaching reached) (subst (λ (xs : List Step). Leads v limit max past before xs h) none leads))

stands_reaching : (max reached : ℕ) (steps : List Step) (c : Compared) (told : List Told) (b : Bool)
    → StandsBehind max [] steps c told b → StandsBehind max [] steps (record c { hearing = reaching reached c.hearing }) told b
stands_reaching max reached steps c told false s = s
stands_reaching max reached steps c told true d = record {
  front = d.front;
  rest = d.rest;
  whole = d.whole;
  fault = d.fault;
  is = d.is;
  told_is = d.told_is;
}

come_none : (max : ℕ) (steps : List Step) (c : Compared) (told : List Told) (b : Bool) → StandsBehind max [] steps c told b
    → steps ≡ []
come_none max steps c told false s = none_came steps c.deframer.held s.0.whole
come_none max steps c told true d =
    none_came steps (d.front ++ d.rest) (d.whole ∙ append_assoc (bytes_of steps) d.front d.rest)

pub path_reach : (v : Version) (limit max : ℕ) (past : Past) (before reached : ℕ) (c : Compared) (told : List Told)
    → IsCompared v limit max past before [] c told → (new : Compared) → new ≡ record c { hearing = reaching reached c.hearing }
    → IsCompared v limit max past reached [] new told
path_reach v limit max past before reached c told i new new_is =
    subst (λ (x : Compared). IsCompared v limit max past reached [] x told) (sym new_is) (record {
      steps = i.steps;
      leads =
          leads_reaching v limit max past before reached i.steps c.hearing (come_none max i.steps c told c.deaf i.stands) i.leads;
      max_is = i.max_is;
      limit_is = i.limit_is;
      stands = stands_reaching max reached i.steps c told c.deaf i.stands;
    })

module _ (v : Version) (limit max : ℕ) (past : Past) (reached : ℕ) (all : List ℕ) (c : Compared) (told : List Told)
    (i : IsCompared v limit max past reached all c told) where
  -- the frames couldn't be told apart before
  pub path_deaf : (part : List ℕ) → c.deaf ≡ true → IsCompared v limit max past reached (all ++ part) c (told ++ [])
  path_deaf part deaf =
      let d : IsDeaf max all i.steps c.hearing told = subst (StandsBehind max all i.steps c told) deaf i.stands in
      record {
        steps = i.steps;
        leads = i.leads;
        max_is = i.max_is;
        limit_is = i.limit_is;
        stands =
            subst (StandsBehind max (all ++ part) i.steps c (told ++ [])) (sym deaf) (record {
              front = d.front;
              rest = d.rest ++ part;
              whole = ap (λ xs. xs ++ part) d.whole ∙ append_assoc (bytes_of i.steps ++ d.front) d.rest part;
              fault = d.fault;
              is = d.is;
              told_is = append-nil told ∙ d.told_is;
            });
      }

  going : c.deaf ≡ false → IsGoing max all i.steps c.deframer c.hearing.at c.came × (told ≡ told_of i.steps)
  going whole = subst (StandsBehind max all i.steps c told) whole i.stands

  -- they can't be told apart any more
  path_lose : (part : List ℕ) (d : Deframed) (fault : WireFault) (new : Compared) → d.max ≡ max
      → (fault ≢ wire_fault.Memory → wire.IsFramingFault max false (c.deframer.held ++ part) fault) → c.deaf ≡ false
      → new ≡ record c { deframer = d; deaf = true }
      → IsCompared v limit max past reached (all ++ part) new (told ++ spoken (told_deaf c.hearing.lost c.hearing.at fault))
  path_lose part d fault new max_is breaks whole new_is =
      let g = going whole in
      let now = told ++ spoken (told_deaf c.hearing.lost c.hearing.at fault) in
      subst (λ x. IsCompared v limit max past reached (all ++ part) x now) (sym new_is) (record {
        steps = i.steps;
        leads = i.leads;
        max_is = max_is;
        limit_is = i.limit_is;
        stands = record {
          front = c.deframer.held ++ part;
          rest = [];
          whole = ap (λ xs. xs ++ part) g.0.whole ∙ append_assoc (bytes_of i.steps) c.deframer.held part
              ∙ sym (append-nil (bytes_of i.steps ++ (c.deframer.held ++ part)));
          fault = fault;
          is = breaks;
          told_is = ap (λ xs. xs ++ spoken (told_deaf c.hearing.lost c.hearing.at fault)) g.1;
        };
      })

  pub path_err : (piece : List ℕ) (n : ℕ) (d : Deframed) (fault : WireFault) (new : Compared) → n ≡ length piece
      → IsFed c.deframer piece (Err fault) d → c.deaf ≡ false → new ≡ record c { deframer = d; deaf = true }
      → IsCompared v limit max past reached (all ++ take n piece) new (told ++ spoken (told_deaf c.hearing.lost c.hearing.at fault))
  path_err piece n d fault new all_taken fed whole new_is =
      let f = (going whole).0 in
      path_lose (take n piece) d fault new (fed_max c.deframer d piece fault fed ∙ i.max_is)
      (λ other.
      subst (λ (xs : List ℕ). wire.IsFramingFault max false (c.deframer.held ++ xs) fault)
      (sym (take_all n piece (omega (arith, all_taken))))
      (subst (λ m. wire.IsFramingFault m false (c.deframer.held ++ piece) fault) i.max_is
      (subst (λ b. wire.IsFramingFault c.deframer.max b (c.deframer.held ++ piece) fault) f.first
      (breaks_of c.deframer d piece fault f.sound other fed))))
      whole new_is

  pub path_over : (piece : List ℕ) (n k : ℕ) (mid : Deframed) (new : Compared) → IsFed c.deframer piece (Ok k) mid → c.deaf ≡ false
      → new ≡ record c { deframer = mid; deaf = true }
      → IsCompared v limit max past reached (all ++ take n piece) new
      (told ++ spoken (told_deaf c.hearing.lost c.hearing.at wire_fault.Memory))
  path_over piece n k mid new fed whole new_is =
      path_lose (take n piece) mid wire_fault.Memory new (ap (λ (m : Deframed). m.max) fed.2 ∙ i.max_is)
      (λ other. absurd (other refl)) whole new_is

  module _ (piece : List ℕ) (n : ℕ) (mid : Deframed) (came : ℕ) (fed : IsFed c.deframer piece (Ok n) mid) (whole : c.deaf ≡ false)
      (count : came ≡ c.came + n) where
    f : IsGoing max all i.steps c.deframer c.hearing.at c.came
    f = (going whole).0

    mid_max : mid.max ≡ max
    mid_max = ap (λ (m : Deframed). m.max) fed.2 ∙ i.max_is

    mid_held : mid.held ≡ c.deframer.held ++ take n piece
    mid_held = ap (λ (m : Deframed). m.held) fed.2

    mid_done : mid.done ≡ false
    mid_done = ap (λ (m : Deframed). m.done) fed.2 ∙ f.first

    mid_fault : mid.fault ≡ None
    mid_fault = ap (λ (m : Deframed). m.fault) fed.2 ∙ f.sound

    whole_is : all ++ take n piece ≡ bytes_of i.steps ++ mid.held
    whole_is = ap (λ xs. xs ++ take n piece) f.whole ∙ append_assoc (bytes_of i.steps) c.deframer.held (take n piece)
        ∙ ap (λ (xs : List ℕ). bytes_of i.steps ++ xs) (sym mid_held)

    came_is : came ≡ c.hearing.at + length mid.held
    came_is = omega (
      arith,
      count,
      f.came_is,
      ap (λ (xs : List ℕ). length xs) mid_held,
      length-append c.deframer.held (take n piece),
      length-take-le n piece fed.1,
    )

    -- no frame is whole yet
    waits : (new : Compared) (now : Told) → Waits mid → new ≡ record c { deframer = mid; came = came } → now ≡ told_nothing false
        → IsCompared v limit max past reached (all ++ take n piece) new (told ++ spoken now)
    waits new now w new_is now_is =
        subst (λ x. IsCompared v limit max past reached (all ++ take n piece) x (told ++ spoken now)) (sym new_is) (record {
          steps = i.steps;
          leads = i.leads;
          max_is = mid_max;
          limit_is = i.limit_is;
          stands =
              subst (StandsBehind max (all ++ take n piece) i.steps (record c { deframer = mid; came = came }) (told ++ spoken now))
              (sym whole) (
                record {
                  whole = whole_is;
                  partial = subst (λ m. wire.IsPartial m mid.held) mid_max w.partial;
                  first = mid_done;
                  sound = mid_fault;
                  came_is = came_is;
                },
                ap (λ (t : Told). told ++ spoken t) now_is ∙ append-nil told ∙ (going whole).1,
              );
        })

    module _ (frame : wire.Frame) (stands : Stands mid frame) (h : Hearing) (now : Told) (takes : Takes c.hearing frame came h now) where
      abbrev next : Step
      next = record { frame = frame; told = now }

      leads_to : Leads v limit max past reached (next ∷ i.steps) h
      leads_to = (
        c.hearing,
        i.leads,
        subst (λ m. wire.IsAllowed m frame) mid_max stands.allowed,
        subst (λ k. Takes c.hearing frame k h now) (came_is ∙ ap (λ (xs : List ℕ). c.hearing.at + length xs) stands.whole) takes,
      )

      -- another one begins behind it
      behind : (d : Deframed) (came' : ℕ) (new : Compared) → d.max ≡ max → d.held ≡ [] → d.done ≡ false → d.fault ≡ None
          → came' ≡ h.at → new ≡ record c { deframer = d; hearing = h; came = came' }
          → IsCompared v limit max past reached (all ++ take n piece) new (told ++ spoken now)
      behind d came' new max_is held done fault at new_is =
          subst (λ x. IsCompared v limit max past reached (all ++ take n piece) x (told ++ spoken now)) (sym new_is) (record {
            steps = next ∷ i.steps;
            leads = leads_to;
            max_is = max_is;
            limit_is = i.limit_is;
            stands =
                subst (StandsBehind max (all ++ take n piece) (next ∷ i.steps) (record c { deframer = d; hearing = h; came = came' })
                (told ++ spoken now)) (sym whole) (
                  record {
                    whole = whole_is ∙ ap (λ (xs : List ℕ). bytes_of i.steps ++ xs) stands.whole
                        ∙ sym (append-nil (bytes_of i.steps ++ wire.frame frame))
                        ∙ ap (λ (xs : List ℕ). (bytes_of i.steps ++ wire.frame frame) ++ xs) (sym held);
                    partial = nothing_partial max d.held held;
                    first = done;
                    sound = fault;
                    came_is = omega (arith, at, ap (λ (xs : List ℕ). length xs) held);
                  },
                  ap (λ xs. xs ++ spoken now) (going whole).1,
                );
          })

    data_next : (payload : List ℕ) (stands : Stands mid (wire.CopyData payload)) (h : Hearing) (now : Told) (d : Deframed) (new : Compared)
        → Takes c.hearing (wire.CopyData payload) came h now → d ≡ after_release mid (wire.CopyData payload)
        → new ≡ passed_over d.done (record c { deframer = mid }) d h came
        → IsCompared v limit max past reached (all ++ take n piece) new (told ++ spoken now)
    data_next payload stands h now d new takes d_is new_is =
        behind (wire.CopyData payload) stands h now takes d came new (ap (λ (m : Deframed). m.max) d_is ∙ mid_max)
        (ap (λ (m : Deframed). m.held) d_is) (ap (λ (m : Deframed). m.done) d_is) (ap (λ (m : Deframed). m.fault) d_is ∙ mid_fault)
        (sym takes.0.1)
        (new_is ∙ ap (λ b. passed_over b (record c { deframer = mid }) d h came) (ap (λ (m : Deframed). m.done) d_is))

    done_next : (stands : Stands mid wire.CopyDone) (h : Hearing) (now : Told) (d : Deframed) (new : Compared)
        → Takes c.hearing wire.CopyDone came h now → d ≡ after_release mid wire.CopyDone
        → new ≡ passed_over d.done (record c { deframer = mid }) d h came
        → IsCompared v limit max past reached (all ++ take n piece) new (told ++ spoken now)
    done_next stands h now d new takes d_is new_is =
        behind wire.CopyDone stands h now takes (fresh d.max) 0 new (ap (λ (m : Deframed). m.max) d_is ∙ mid_max) refl refl refl
        (sym takes.0.2)
        (new_is ∙ ap (λ b. passed_over b (record c { deframer = mid }) d h came) (ap (λ (m : Deframed). m.done) d_is))

    stood : (frame : wire.Frame) (stands : Stands mid frame) (h : Hearing) (now : Told) (d : Deframed) (new : Compared)
        → Takes c.hearing frame came h now → IsReleased mid d → new ≡ passed_over d.done (record c { deframer = mid }) d h came
        → IsCompared v limit max past reached (all ++ take n piece) new (told ++ spoken now)
    stood (wire.CopyData payload) stands h now d new takes rel new_is =
        data_next payload stands h now d new takes (rel.stood (wire.CopyData payload) stands) new_is
    stood wire.CopyDone stands h now d new takes rel new_is =
        done_next stands h now d new takes (rel.stood wire.CopyDone stands) new_is

    pub path_next : (new : Compared) (now : Told) → HearsNext (record c { deframer = mid }) came new now
        → IsCompared v limit max past reached (all ++ take n piece) new (told ++ spoken now)
    path_next new now (inl (w, new_is, now_is)) = waits new now w new_is now_is
    path_next new now (inr (frame, stands, (h, d, takes, rel, new_is))) = stood frame stands h now d new takes rel new_is

  -- a frame that lies whole in a piece is heard in its place
  module _ (payload : List ℕ) (whole : c.deaf ≡ false) (none : c.came ≡ c.hearing.at)
      (allowed : wire.IsAllowed c.max_frame (wire.CopyData payload)) where
    abbrev copy_data : wire.Frame
    copy_data = wire.CopyData payload

    was : IsGoing max all i.steps c.deframer c.hearing.at c.came
    was = (going whole).0

    held_none : c.deframer.held ≡ []
    held_none = nothing_long c.deframer.held (omega (arith, was.came_is, none))

    all_is : all ≡ bytes_of i.steps
    all_is = was.whole ∙ ap (λ (xs : List ℕ). bytes_of i.steps ++ xs) held_none ∙ append-nil (bytes_of i.steps)

    module _ (h : Hearing) (came : ℕ) (now : Told) (count : came ≡ c.came + (length payload + 5))
        (takes : Takes c.hearing copy_data came h now) where
      abbrev heard_next : Step
      heard_next = record { frame = copy_data; told = now }

      heard_leads : Leads v limit max past reached (heard_next ∷ i.steps) h
      heard_leads = (
        c.hearing,
        i.leads,
        subst (λ m. wire.IsAllowed m copy_data) i.limit_is allowed,
        subst (λ k. Takes c.hearing copy_data k h now) (omega (arith, count, none)) takes,
      )

      heard_goes : IsGoing max (all ++ wire.frame copy_data) (heard_next ∷ i.steps) c.deframer h.at came
      heard_goes = record {
        whole = ap (λ xs. xs ++ wire.frame copy_data) all_is ∙ sym (append-nil (bytes_of i.steps ++ wire.frame copy_data))
            ∙ ap (λ (xs : List ℕ). (bytes_of i.steps ++ wire.frame copy_data) ++ xs) (sym held_none);
        partial = nothing_partial max c.deframer.held held_none;
        first = was.first;
        sound = was.sound;
        came_is = omega (arith, takes.0.1, ap (λ (xs : List ℕ). length xs) held_none);
      }

      heard_whole : (new : Compared) → new ≡ record c { hearing = h; came = came }
          → IsCompared v limit max past reached (all ++ wire.frame copy_data) new (told ++ spoken now)
      heard_whole new new_is =
          subst (λ x. IsCompared v limit max past reached (all ++ wire.frame copy_data) x (told ++ spoken now)) (sym new_is) (record {
            steps = heard_next ∷ i.steps;
            leads = heard_leads;
            max_is = i.max_is;
            limit_is = i.limit_is;
            stands =
                subst (StandsBehind max (all ++ wire.frame copy_data) (heard_next ∷ i.steps) (record c { hearing = h; came = came })
                (told ++ spoken now)) (sym whole)
                (heard_goes, ap (λ xs. xs ++ spoken now) (going whole).1);
          })

    pub path_whole : (piece : List ℕ) → take (length payload + 5) piece ≡ wire.frame copy_data → (new : Compared) (now : Told)
        → HearsWhole c payload new now
        → IsCompared v limit max past reached (all ++ take (length payload + 5) piece) new (told ++ spoken now)
    path_whole piece is new now (inl (h, came, count, takes, new_is)) =
        subst (λ (xs : List ℕ). IsCompared v limit max past reached (all ++ xs) new (told ++ spoken now)) (sym is)
        (heard_whole h came now count takes new new_is)
    path_whole piece is new now (inr (new_is, now_is)) =
        subst (λ (t : Told). IsCompared v limit max past reached (all ++ take (length payload + 5) piece) new (told ++ spoken t))
        (sym now_is)
        (path_lose (take (length payload + 5) piece) c.deframer wire_fault.Memory new i.max_is (λ other. absurd (other refl)) whole new_is)
