-- Frames of a load's input, one after the other.
use Rattle.std.proofs.Common.{◌≡◌, ◌≤◌, ◌<◌, ◌+◌, ◌-◌, ◌⊎◌, inl, inr, ◌++◌, ℕ, List, [], ◌∷◌}
use Rattle.std.proofs.Common.{length, take, drop, false, Option, Some, None, Ok, Err, refl, sym, ap}
use Rattle.std.proofs.Common.{subst, ◌∙◌, arith, append-nil, append_assoc, length-append}
use Rattle.std.proofs.Math.Seq.{take-add}
use Rattle.std.proofs.lemmas.List.{take-append-drop, length-take-le}
use Rattle.std.proofs.lemmas.Grind.{flat_map-append}
use Rattle.pgwire.specs.Frames as wire
use Rattle.pgwire.specs.Frames.{IsAllowed, IsPartial, AreFrames, IsFramingFault}
use Rattle.pgwire.proofs.Readings.{two_readings}
use Rattle.pgwire.specs.Deframed.{Deframed, Stands, Waits, IsFed, IsReleased, is_copy_done}
use Rattle.pgwire.specs.declared.fault.WireFault.{WireFault}
use Rattle.pgwire.specs.declared.fault.WireFault.TheVariants as wire_fault
use Rattle.pgapply.specs.Value.{Tables}
use Rattle.pgsub_core.proofs.FeedSteps.{stands_or_waits, take_whole}
use Rattle.pgload.specs.declared.fault.LoadFault.{LoadFault}
use Rattle.pgload.specs.declared.fault.LoadFault.TheVariants.{BadInput, Wire}
use Rattle.pgload.specs.declared.input.Step.{Step}
use Rattle.pgload.specs.declared.input.Step.TheVariants as step
use Rattle.pgload.specs.Faults.{fault_of_wire}
use Rattle.pgload.specs.Loads.{TableText}
use Rattle.pgload.specs.Loading.{most_parts, HasLoaded, LeavesNoPart, Part, Come, come_after}
use Rattle.pgload.specs.Loading.{nothing_came, Opened, IsUnderWay, Goes, IsAtEnd}
use Rattle.pgload.specs.Inputs.{Input, Gives, EndsAt, input_of, AreParts, AfterAll, AreRead}
use Rattle.pgload.specs.Inputs.{SaysLoad, BytesAreOneLoad, TakesInput, StopsBehind, HasRead}
use Rattle.pgload.specs.Inputs.{HasEnded, HasStopped, Full, Breaks, Refuses, StepsTo, Advances}
use Rattle.pgload.proofs.Batches.{left_of}
use Rattle.pgload.proofs.Parts.{stands_under_way}

-- ---- lists

parts-push : (max : ℕ) (fs : List wire.Frame) (parts : List Part) (f : wire.Frame) (part : Part) → AreParts max fs parts
    → IsAllowed max f → input_of f ≡ Some (Gives part) → AreParts max (fs ++ f ∷ []) (parts ++ part ∷ [])
parts-push max [] [] f part each allowed is = (allowed, is, tt)
parts-push max [] (other ∷ parts) f part each allowed is = absurd each
parts-push max (first ∷ fs) [] f part each allowed is = absurd each
parts-push max (first ∷ fs) (other ∷ parts) f part each allowed is =
    (each.0, each.1, parts-push max fs parts f part each.2 allowed is)

after-push : (parts : List Part) (part : Part) (old mid new : Come) → AfterAll old parts mid → come_after mid part ≡ Some new
    → AfterAll old (parts ++ part ∷ []) new
after-push [] part old mid new after is = (new, subst (λ it. come_after it part ≡ Some new) after is, refl)
after-push (first ∷ parts) part old mid new after is = (after.0, after.1, after-push parts part after.0 mid new after.2 is)

pub nothing_read : (max : ℕ) → AreRead max [] [] nothing_came
nothing_read max = record { fs = []; parts = []; whole = refl; each = tt; after = refl }

pub read_more : (max : ℕ) (bytes rest more : List ℕ) (come : Come) → AreRead max bytes rest come → AreRead max (bytes ++ more) (rest ++
    more) come
read_more max bytes rest more come read = record {
  fs = read.fs;
  parts = read.parts;
  whole = ap (λ it. it ++ more) read.whole ∙ append_assoc (wire.frames read.fs) rest more;
  each = read.each;
  after = read.after;
}

one_frame : (f : wire.Frame) → wire.frames (f ∷ []) ≡ wire.frame f
one_frame f = append-nil (wire.frame f)

pub read_next : (max : ℕ) (bytes : List ℕ) (f : wire.Frame) (part : Part) (come next : Come) → AreRead max bytes (wire.frame f) come →
    IsAllowed max f
    → input_of f ≡ Some (Gives part) → come_after come part ≡ Some next
    → AreRead max bytes [] next
read_next max bytes f part come next read allowed is after = record {
  fs = read.fs ++ f ∷ [];
  parts = read.parts ++ part ∷ [];
  whole = read.whole ∙ ap (λ last. wire.frames read.fs ++ last) (sym (one_frame f))
      ∙ sym (flat_map-append wire.frame read.fs (f ∷ [])) ∙ sym (append-nil (wire.frames (read.fs ++ f ∷ [])));
  each = parts-push max read.fs read.parts f part read.each allowed is;
  after = after-push read.parts part nothing_came come next read.after after;
}

-- ---- one reading

are_data : (max : ℕ) (fs : List wire.Frame) (parts : List Part) (last : wire.Frame) (point : ℕ) → AreParts max fs parts → IsAllowed max last
    → input_of last ≡ Some (EndsAt point) → AreFrames max (fs ++ last ∷ [])
are_data max [] [] (wire.CopyData payload) point each allowed is = (allowed, tt)
are_data max [] [] wire.CopyDone point each allowed is = refl
are_data max [] (part ∷ parts) last point each allowed is = absurd each
are_data max (f ∷ fs) [] last point each allowed is = absurd each
are_data max (wire.CopyData payload ∷ fs) (part ∷ parts) last point each allowed is =
    (each.0, are_data max fs parts last point each.2 allowed is)
are_data max (wire.CopyDone ∷ fs) (part ∷ parts) last point each allowed is = absurd (let no : ⊥ = cc (each.1) in no)

empty_partial : (max : ℕ) → IsPartial max []
empty_partial max = record { tag = λ some. absurd (omega arith); payload = λ long. absurd (omega arith) }

all_frames : (max : ℕ) (bytes : List ℕ) (come : Come) (point : ℕ) (says : SaysLoad max bytes come point)
    → bytes ≡ wire.frames (says.read.fs ++ says.last ∷ []) ++ []
all_frames max bytes come point says =
    says.read.whole ∙ ap (λ last. wire.frames says.read.fs ++ last) (sym (one_frame says.last))
    ∙ sym (flat_map-append wire.frame says.read.fs (says.last ∷ [])) ∙ sym (append-nil (wire.frames (says.read.fs ++ says.last ∷ [])))

same_last : (fs gs : List wire.Frame) (f g : wire.Frame) → fs ++ f ∷ [] ≡ gs ++ g ∷ [] → (fs ≡ gs) × (f ≡ g)
same_last [] [] f g e = (refl, cc)
same_last [] (x ∷ []) f g e = absurd (let no : ⊥ = cc in no)
same_last [] (x ∷ y ∷ gs) f g e = absurd (let no : ⊥ = cc in no)
same_last (x ∷ []) [] f g e = absurd (let no : ⊥ = cc in no)
same_last (x ∷ y ∷ fs) [] f g e = absurd (let no : ⊥ = cc in no)
same_last (x ∷ fs) (y ∷ gs) f g e =
    let first : x ≡ y = cc in
    let others : fs ++ f ∷ [] ≡ gs ++ g ∷ [] = cc in
    let both = same_last fs gs f g others in
    (ap (λ it. it ∷ fs) first ∙ ap (λ it. y ∷ it) both.0, both.1)

same_parts : (max : ℕ) (fs : List wire.Frame) (a b : List Part) → AreParts max fs a → AreParts max fs b → a ≡ b
same_parts max [] [] [] x y = refl
same_parts max [] (p ∷ a) b x y = absurd x
same_parts max [] [] (q ∷ b) x y = absurd y
same_parts max (f ∷ fs) [] b x y = absurd x
same_parts max (f ∷ fs) (p ∷ a) [] x y = absurd y
same_parts max (f ∷ fs) (p ∷ a) (q ∷ b) x y =
    let one : ◌≡◌ {A = Option Input} (Some (Gives p)) (Some (Gives q)) = sym x.1 ∙ y.1 in
    let first : p ≡ q = cc one in
    ap (λ it. it ∷ a) first ∙ ap (λ it. q ∷ it) (same_parts max fs a b x.2 y.2)

same_come : (parts : List Part) (old a b : Come) → AfterAll old parts a → AfterAll old parts b → a ≡ b
same_come [] old a b x y = x ∙ sym y
same_come (p ∷ parts) old a b x y =
    let one : ◌≡◌ {A = Option Come} (Some x.0) (Some y.0) = sym x.1 ∙ y.1 in
    let mid : x.0 ≡ y.0 = cc one in
    same_come parts y.0 a b (subst (λ it. AfterAll it parts a) mid x.2) y.2

pub one_load : BytesAreOneLoad
one_load max bytes a b p q one other =
    let both = two_readings max max (one.read.fs ++ one.last ∷ []) (other.read.fs ++ other.last ∷ []) [] []
    (sym (all_frames max bytes a p one) ∙ all_frames max bytes b q other)
    (are_data max one.read.fs one.read.parts one.last p one.read.each one.allowed one.ends)
    (are_data max other.read.fs other.read.parts other.last q other.read.each other.allowed other.ends)
    (empty_partial max) (empty_partial max) in
    let same = same_last one.read.fs other.read.fs one.last other.last both.0 in
    let parts = same_parts max other.read.fs one.read.parts other.read.parts
    (subst (λ fs. AreParts max fs one.read.parts) same.0 one.read.each) other.read.each in
    let ends : ◌≡◌ {A = Option Input} (Some (EndsAt p)) (Some (EndsAt q)) = sym one.ends ∙ ap input_of same.1 ∙ other.ends in
    (same_come other.read.parts nothing_came a b (subst (λ it. AfterAll nothing_came it a) parts one.read.after) other.read.after, cc ends)

-- ---- what of a piece is read, and what comes next
pub joined_all : (bytes piece : List ℕ) (read : ℕ) → (bytes ++ take read piece) ++ take (length piece - read) (drop read piece) ≡ bytes ++
    piece
joined_all bytes piece read =
    ap (λ it. (bytes ++ take read piece) ++ it) (left_of piece read) ∙ append_assoc bytes (take read piece) (drop read piece)
    ∙ ap (λ it. bytes ++ it) (take-append-drop read piece)

pub joined_next : (bytes piece : List ℕ) (read taken : ℕ)
    → (bytes ++ take read piece) ++ take taken (take (length piece - read) (drop read piece)) ≡ bytes ++ take (read + taken) piece
joined_next bytes piece read taken =
    ap (λ it. (bytes ++ take read piece) ++ take taken it) (left_of piece read)
    ∙ append_assoc bytes (take read piece) (take taken (drop read piece))
    ∙ ap (λ it. bytes ++ it) (sym (take-add read taken piece))

pub joined : (bytes piece : List ℕ) (n : ℕ) → (bytes ++ take n piece) ++ drop n piece ≡ bytes ++ piece
joined bytes piece n = append_assoc bytes (take n piece) (drop n piece) ∙ ap (λ it. bytes ++ it) (take-append-drop n piece)

pub some_frame : (f : wire.Frame) → 0 < length (wire.frame f)
some_frame (wire.CopyData bytes) = omega arith
some_frame wire.CopyDone = omega arith

-- ---- deframing

longest_after : (old new : Deframed) (piece : List ℕ) (n : ℕ) → IsFed old piece (Ok n) new → new.max ≡ old.max
longest_after old new piece n fed = ap (λ (d : Deframed). d.max) fed.2

held_after : (old new : Deframed) (piece : List ℕ) (n : ℕ) → IsFed old piece (Ok n) new → new.held ≡ old.held ++ take n piece
held_after old new piece n fed = ap (λ (d : Deframed). d.held) fed.2

-- where no frame is complete, the piece is used up
pub used_up : (old new : Deframed) (piece : List ℕ) (n : ℕ) → IsFed old piece (Ok n) new → Waits
    new → take n piece ≡ piece
used_up old new piece n fed waits = elim fed.3 [
  | inl stands ↦ absurd (stands_or_waits new stands.0 stands.1 waits)
  | inr all ↦ take_whole piece n all.0
]

pub got_smaller : (old filled new : Deframed) (piece : List ℕ) (n : ℕ) → IsFed old piece (Ok n) filled → new.held ≡ [] → 0 < length
    filled.held
    → length new.held + length piece < length old.held + length piece + n
got_smaller old filled new piece n fed none some =
    let within : n ≤ length piece = fed.1 in
    let all : length filled.held ≡ length old.held + length (take n piece) =
    ap length (held_after old filled piece n fed) ∙ length-append old.held (take n piece) in
    let taken : length (take n piece) ≡ n = length-take-le n piece within in
    let empty : length new.held ≡ 0 = ap length none in
    omega (arith, within, all, taken, empty, some)

module _ {C : Type 0} (holds : C → Tables → Type 0) (place : C → ℕ) (reopens : C → C → Type 0) (serves is_honest : C → Type 0) where
  module _ (max_line : ℕ) (bytes : List ℕ) (d : Deframed) (store : C) (opened : Option Opened) (closed : Option LoadFault)
      (is : HasRead holds place reopens serves is_honest max_line bytes d store opened closed) where
    pub under : IsUnderWay holds place reopens serves is_honest store
    under = stands_under_way holds place reopens serves is_honest max_line is.come.ended is.come.going store opened is.has.stands

    pub filled : (new : Deframed) (piece : List ℕ) (n : ℕ) → IsFed d piece (Ok n) new
        → HasRead holds place reopens serves is_honest max_line (bytes ++ take n piece) new store opened closed
    filled new piece n fed = record {
      come = is.come;
      read = subst (λ max. AreRead max (bytes ++ take n piece) new.held is.come) (sym (longest_after d new piece n fed))
          (subst (λ held. AreRead d.max (bytes ++ take n piece) held is.come) (sym (held_after d new piece n fed))
          (read_more d.max bytes d.held (take n piece) is.come is.read));
      has = is.has;
      sound = ap (λ (it : Deframed). it.fault) fed.2 ∙ is.sound;
      first = ap (λ (it : Deframed). it.done) fed.2 ∙ is.first;
    }

    broken : (piece : List ℕ) (of : WireFault) (after : Option Opened) (end : Option LoadFault)
        → (d.fault ≡ Some of) ⊎ ((d.fault ≡ None) × IsFramingFault d.max d.done (d.held ++ piece) of)
        → HasStopped holds place reopens serves is_honest max_line d.max (bytes ++ piece) store after end (Wire of)
    broken piece of after end why = record {
      come = is.come;
      rest = d.held ++ piece;
      read = read_more d.max bytes d.held piece is.come is.read;
      stops = elim why [
        | inl some ↦ absurd (let at = sym is.sound ∙ some in let no : ⊥ = cc in no)
        | inr breaks ↦ Breaks of refl (subst (λ done. IsFramingFault d.max done (d.held ++ piece) of) is.first breaks.1) under
      ];
    }

    pub not_filled : (new : Deframed) (piece : List ℕ) (of : WireFault) (after : Option Opened) (end : Option LoadFault)
        → IsFed d piece (Err of) new
        → HasStopped holds place reopens serves is_honest max_line d.max (bytes ++ piece) store after end (fault_of_wire of)
    not_filled new piece wire_fault.Memory after end fed = record {
      come = is.come;
      rest = d.held ++ piece;
      read = read_more d.max bytes d.held piece is.come is.read;
      stops = Full refl under;
    }
    not_filled new piece (wire_fault.UnknownFrame byte) after end fed = broken piece (wire_fault.UnknownFrame byte) after end fed.2
    not_filled new piece wire_fault.BadLength after end fed = broken piece wire_fault.BadLength after end fed.2
    not_filled new piece wire_fault.TooLarge after end fed = broken piece wire_fault.TooLarge after end fed.2
    not_filled new piece wire_fault.AfterDone after end fed = broken piece wire_fault.AfterDone after end fed.2
    not_filled new piece (wire_fault.UnknownServerMessage byte) after end fed =
        broken piece (wire_fault.UnknownServerMessage byte) after end fed.2
    not_filled new piece wire_fault.Short after end fed = broken piece wire_fault.Short after end fed.2
    not_filled new piece wire_fault.Trailing after end fed = broken piece wire_fault.Trailing after end fed.2
    not_filled new piece wire_fault.BadReplyByte after end fed = broken piece wire_fault.BadReplyByte after end fed.2

    -- a frame is complete
    module _ (f : wire.Frame) (stands : Stands d f) where
      at_frame : AreRead d.max bytes (wire.frame f) is.come
      at_frame = subst (λ held. AreRead d.max bytes held is.come) stands.whole is.read

      pub refused : (new : C) (after : Option Opened) (end : Option LoadFault) (fault : LoadFault)
          → TakesInput holds place reopens serves is_honest max_line is.come (input_of f) new after end (Err fault)
          → (more : List ℕ)
          → HasStopped holds place reopens serves is_honest max_line d.max (bytes ++ more) new after end fault
      refused new after end fault takes more = record {
        come = is.come;
        rest = wire.frame f ++ more;
        read = read_more d.max bytes (wire.frame f) more is.come at_frame;
        stops = Refuses f more refl takes;
      }

      pub done_refused : (after : Option Opened) (end : Option LoadFault) → input_of f ≡ None → (more : List ℕ)
          → HasStopped holds place reopens serves is_honest max_line d.max (bytes ++ more) store after end BadInput
      done_refused after end none more = refused store after end BadInput
          (subst (λ i. TakesInput holds place reopens serves is_honest max_line is.come i store after end (Err BadInput)) (sym none)
          (refl, under)) more

      went : (part : Part) (o : Option Come) (new : C) (after : Option Opened) (end : Option LoadFault) (released : Deframed)
          → input_of f ≡ Some (Gives part) → come_after is.come part ≡ o
          → Goes holds place reopens serves is_honest max_line o new after end (Ok tt)
          → released.max ≡ d.max → released.held ≡ [] → released.fault ≡ None → released.done ≡ false
          → HasRead holds place reopens serves is_honest max_line bytes released new after end
      went part None new after end released i o goes max held fault done = absurd goes
      went part (Some next) new after end released i o goes max held fault done = record {
        come = next;
        read = subst (λ it. AreRead it bytes released.held next) (sym max)
            (subst (λ it. AreRead d.max bytes it next) (sym held)
            (read_next d.max bytes f part is.come next at_frame stands.allowed i o));
        has = goes;
        sound = fault;
        first = done;
      }

      pub handled_at : (input : Option Input) (taken : Step) (new : C) (after : Option Opened) (end : Option LoadFault) (released :
          Deframed)
          → input_of f ≡ input
          → TakesInput holds place reopens serves is_honest max_line is.come input new after end (Ok taken)
          → released.max ≡ d.max → released.held ≡ [] → released.fault ≡ None → released.done ≡ false
          → StepsTo holds place reopens serves is_honest max_line d.max bytes released new after end (Ok taken)
      handled_at input step.Waits new after end released i takes max held fault done = absurd takes
      handled_at None step.Goes new after end released i takes max held fault done = absurd takes
      handled_at None (step.Ended point) new after end released i takes max held fault done = absurd takes
      handled_at (Some (Gives part)) step.Goes new after end released i takes max held fault done =
          went part (come_after is.come part) new after end released i refl takes max held fault done
      handled_at (Some (Gives part)) (step.Ended point) new after end released i takes max held fault done = absurd takes
      handled_at (Some (EndsAt point)) step.Goes new after end released i takes max held fault done = absurd takes
      handled_at (Some (EndsAt point)) (step.Ended at) new after end released i takes max held fault done = record {
        come = is.come;
        says = record {
          last = f;
          read = at_frame;
          allowed = stands.allowed;
          ends = i ∙ ap (λ p. Some (EndsAt p)) (sym takes.0);
        };
        at_end = subst (λ p. IsAtEnd holds place reopens serves is_honest max_line is.come p new) (sym takes.0) takes.1;
      }

      pub handled : (taken : Step) (new : C) (after : Option Opened) (end : Option LoadFault) (released : Deframed)
          → TakesInput holds place reopens serves is_honest max_line is.come (input_of f) new after end (Ok taken)
          → IsReleased d released → is_copy_done f ≡ false
          → StepsTo holds place reopens serves is_honest max_line d.max bytes released new after end (Ok taken)
      handled taken new after end released takes release isnt =
          let at = release.stood f stands in
          handled_at (input_of f) taken new after end released refl takes (ap (λ (it : Deframed). it.max) at)
          (ap (λ (it : Deframed). it.held) at)
          (ap (λ (it : Deframed). it.fault) at ∙ is.sound) (ap (λ (it : Deframed). it.done) at ∙ isnt)

  pub stopped_at : (max_line max_frame other_line other_frame : ℕ) (bytes others : List ℕ) (store : C) (opened : Option Opened)
      (closed : Option LoadFault) (fault : LoadFault) → other_line ≡ max_line → other_frame ≡ max_frame → others ≡ bytes
      → HasStopped holds place reopens serves is_honest other_line other_frame others store opened closed fault
      → HasStopped holds place reopens serves is_honest max_line max_frame bytes store opened closed fault
  stopped_at max_line max_frame other_line other_frame bytes others store opened closed fault line longest same stopped =
      subst (λ m. HasStopped holds place reopens serves is_honest m max_frame bytes store opened closed fault) line
      (subst (λ m. HasStopped holds place reopens serves is_honest other_line m bytes store opened closed fault) longest
      (subst (λ it. HasStopped holds place reopens serves is_honest other_line other_frame it store opened closed fault) same stopped))

  pub ended_at : (max_line max_frame other_line other_frame : ℕ) (bytes others : List ℕ) (point : ℕ) (store : C) → other_line ≡ max_line
      → other_frame ≡ max_frame → others ≡ bytes
      → HasEnded holds place reopens serves is_honest other_line other_frame others point store
      → HasEnded holds place reopens serves is_honest max_line max_frame bytes point store
  ended_at max_line max_frame other_line other_frame bytes others point store line longest same ended =
      subst (λ m. HasEnded holds place reopens serves is_honest m max_frame bytes point store) line
      (subst (λ m. HasEnded holds place reopens serves is_honest other_line m bytes point store) longest
      (subst (λ it. HasEnded holds place reopens serves is_honest other_line other_frame it point store) same ended))

  pub advanced : (max_line max_frame other_line other_frame : ℕ) (bytes piece : List ℕ) (n : ℕ) (taken : Step) (d : Deframed) (store : C)
      (opened : Option Opened) (closed : Option LoadFault) → other_line ≡ max_line → other_frame ≡ max_frame
      → (taken ≡ step.Waits → take n piece ≡ piece)
      → StepsTo holds place reopens serves is_honest other_line other_frame (bytes ++ take n piece) d store opened closed (Ok taken)
      → Advances holds place reopens serves is_honest max_line max_frame bytes piece d store opened closed (Ok (n, taken))
  advanced max_line max_frame other_line other_frame bytes piece n step.Waits d store opened closed line longest waits steps =
      subst (λ m. HasRead holds place reopens serves is_honest m (bytes ++ piece) d store opened closed) line
      (subst (λ it. HasRead holds place reopens serves is_honest other_line (bytes ++ it) d store opened closed) (waits refl) steps)
  advanced max_line max_frame other_line other_frame bytes piece n step.Goes d store opened closed line longest waits steps =
      subst (λ m. HasRead holds place reopens serves is_honest m (bytes ++ take n piece) d store opened closed) line steps
  advanced max_line max_frame other_line other_frame bytes piece n (step.Ended point) d store opened closed line longest waits steps =
      ended_at max_line max_frame other_line other_frame (bytes ++ take n piece) (bytes ++ take n piece) point store line longest refl steps

  -- ---- where the store is

  at_position : (max_line : ℕ) (tables : List TableText) (point : ℕ) (other : C)
      → HasLoaded holds place reopens serves is_honest max_line tables point other
      → (all : List TableText) × HasLoaded holds place reopens serves is_honest max_line all (place other) other
  at_position max_line tables point other loaded =
      (tables, subst (λ p. HasLoaded holds place reopens serves is_honest max_line tables p other) (sym loaded.position) loaded)

  low_leaves : (max_line : ℕ) (store : C) → IsUnderWay holds place reopens serves is_honest store
      → LeavesNoPart holds place reopens serves is_honest max_line store
  low_leaves max_line store low honest other left = inl (low.leaves honest other left)

  pub read_leaves : (max_line : ℕ) (bytes : List ℕ) (d : Deframed) (store : C) (opened : Option Opened) (closed : Option LoadFault)
      → HasRead holds place reopens serves is_honest max_line bytes d store opened closed
      → LeavesNoPart holds place reopens serves is_honest max_line store
  read_leaves max_line bytes d store opened closed is = low_leaves max_line store (under max_line bytes d store opened closed is)

  pub ended_leaves : (max_line max_frame : ℕ) (bytes : List ℕ) (point : ℕ) (store : C)
      → HasEnded holds place reopens serves is_honest max_line max_frame bytes point store
      → LeavesNoPart holds place reopens serves is_honest max_line store
  ended_leaves max_line max_frame bytes point store ended honest other left = elim (ended.at_end.leaves honest other left) [
    | inl low ↦ inl low
    | inr loaded ↦ inr (at_position max_line ended.come.ended point other loaded)
  ]

  -- of each way to stop
  abbrev IsTold : ℕ → C → Type 0
  IsTold max_line store = (place store ≤ most_parts) × LeavesNoPart holds place reopens serves is_honest max_line store

  low_stands : (max_line : ℕ) (store : C) → IsUnderWay holds place reopens serves is_honest store → IsTold max_line store
  low_stands max_line store low = (low.part, low_leaves max_line store low)

  goes_stands : (max_line : ℕ) (o : Option Come) (store : C) (opened : Option Opened) (closed : Option LoadFault) (fault : LoadFault)
      → Goes holds place reopens serves is_honest max_line o store opened closed (Err fault) → IsTold max_line store
  goes_stands max_line None store opened closed fault is = low_stands max_line store is.1
  goes_stands max_line (Some come) store opened closed fault is = low_stands max_line store is.stops.under_way

  takes_stands : (max_line : ℕ) (come : Come) (input : Option Input) (store : C) (opened : Option Opened) (closed : Option LoadFault)
      (fault : LoadFault) → TakesInput holds place reopens serves is_honest max_line come input store opened closed (Err fault)
      → IsTold max_line store
  takes_stands max_line come None store opened closed fault is = low_stands max_line store is.1
  takes_stands max_line come (Some (Gives part)) store opened closed fault is = elim is [
    | inl full ↦ low_stands max_line store full.1
    | inr goes ↦ goes_stands max_line (come_after come part) store opened closed fault goes
  ]
  takes_stands max_line come (Some (EndsAt point)) store opened closed fault is = (
    is.part,
    λ honest other left. elim (is.leaves honest other left) [
      | inl low ↦ inl low
      | inr loaded ↦ inr (at_position max_line come.ended point other loaded)
    ],
  )

  stops_stands : (max_line max_frame : ℕ) (come : Come) (rest : List ℕ) (store : C) (opened : Option Opened) (closed : Option LoadFault)
      (fault : LoadFault)
      → StopsBehind holds place reopens serves is_honest max_line max_frame come rest store opened closed fault → IsTold max_line store
  stops_stands max_line max_frame come rest store opened closed fault (Full is low) = low_stands max_line store low
  stops_stands max_line max_frame come rest store opened closed fault (Breaks of is breaks low) = low_stands max_line store low
  stops_stands max_line max_frame come rest store opened closed fault (Refuses next others parts takes) =
      takes_stands max_line come (input_of next) store opened closed fault takes

  pub stopped_stands : (max_line max_frame : ℕ) (bytes : List ℕ) (store : C) (opened : Option Opened) (closed : Option LoadFault)
      (fault : LoadFault) → HasStopped holds place reopens serves is_honest max_line max_frame bytes store opened closed fault
      → (place store ≤ most_parts) × LeavesNoPart holds place reopens serves is_honest max_line store
  stopped_stands max_line max_frame bytes store opened closed fault is =
      stops_stands max_line max_frame is.come is.rest store opened closed fault is.stops
