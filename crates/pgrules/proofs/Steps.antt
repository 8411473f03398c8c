-- A session that is heard, longer by a frame.
use Rattle.std.proofs.Common.{◌≡◌, ◌∙◌, ◌+◌, ℕ, List, [], ◌∷◌, ◌++◌, false, Result, Ok, Err, IsOk}
use Rattle.std.proofs.Common.{refl, sym, ap, subst, arith, length, append-nil}
use Rattle.std.specs.List.{AllByRecursion}
use Rattle.std.proofs.lemmas.List.{length-append}
use Rattle.pglogical.specs.declared.message.Message.{Message}
use Rattle.pglogical.specs.Spelling.{IsMessageFor}
use Rattle.pgorder.specs.declared.Version.{Version}
use Rattle.pgorder.specs.Laws.{AreMessagesFor}
use Rattle.pgorder.specs.States.{is_in_block}
use Rattle.pgorder.specs.Steps.{StepResult, initial_order, order_run, order_step}
use Rattle.pgorder.proofs.ShapeLaws.{shape_is_what_is_taken}
use Rattle.pgorder.proofs.StepLaws.{step_keeps_shape}
use Rattle.pgwire.specs.Frames as wire
use Rattle.pgwatch.specs.declared.fault.Breach.{Breach}
use Rattle.pgwatch.specs.declared.watch.Watch.{Watch}
use Rattle.pgwatch.specs.Hearing.{hear, at_start, by_order}
use Rattle.pgsub_core.specs.Server.Stream.{Sent, Data, Keepalive, messages_in}
use Rattle.pgsub_core.specs.Server.Sessions.{frames_of}
use Rattle.pgwatched.specs.Watched.{Framed, heard_of, sent_of, then_hear, hear_all, AreDecoded}
use Rattle.pgwatched.proofs.Orders.{runs, messages-append}
use Rattle.pgrules.specs.declared.seen.Seen.{Seen}
use Rattle.pgrules.specs.Seen.{seen_after, with_sent}
use Rattle.pgrules.specs.Watching.{ArePlaced, IsDecoded, frame_of}

abbrev pub framed : ℕ → Sent → Framed
framed at s = record { at = at; sent = s }

pub all_push : {X : Type 0} (P : X → Type 0) (xs : List X) (y : X) → AllByRecursion P xs → P y → AllByRecursion P (xs ++ y ∷ [])
all_push P [] y a b = (b, tt)
all_push P (x ∷ xs) y a b = (a.0, all_push P xs y a.1 b)

pub sent_push : (fs : List Framed) (at : ℕ) (s : Sent) → sent_of (fs ++ framed at s ∷ []) ≡ sent_of fs ++ s ∷ []
sent_push [] at s = refl
sent_push (f ∷ fs) at s = ap (λ xs. f.sent ∷ xs) (sent_push fs at s)

pub seen_push : (seen : Seen) (xs : List Sent) (s : Sent) → seen_after seen (xs ++ s ∷ []) ≡ with_sent (seen_after seen xs) s
seen_push seen [] s = refl
seen_push seen (x ∷ xs) s = seen_push (with_sent seen x) xs s

pub heard_push : (fs : List Framed) (w u u' : Watch) (at : ℕ) (s : Sent) → hear_all w fs ≡ Ok u → hear u (heard_of at s) ≡ Ok u'
    → hear_all w (fs ++ framed at s ∷ []) ≡ Ok u'
heard_push [] w u u' at s h e =
    let same : w ≡ u = cc in
    subst (λ (x : Watch). then_hear (hear x (heard_of at s)) (λ new. Ok new) ≡ Ok u') (sym same)
    (ap (λ (r : Result Watch Breach). then_hear r (λ new. Ok new)) e)
heard_push (f ∷ fs) w u u' at s h e = go (hear w (heard_of f.at f.sent)) h (λ x is. heard_push fs x u u' at s is e)
  where
    go : (r : Result Watch Breach) → then_hear r (λ new. hear_all new fs) ≡ Ok u
        → ((x : Watch) → hear_all x fs ≡ Ok u → hear_all x (fs ++ framed at s ∷ []) ≡ Ok u')
        → then_hear r (λ new. hear_all new (fs ++ framed at s ∷ [])) ≡ Ok u'
    go (Ok x) h rest = rest x h
    go (Err b) h rest = absurd (cc)

pub placed_push : (fs : List Framed) (from at : ℕ) (s : Sent) → ArePlaced from fs
    → at ≡ from + length (wire.frames (frames_of (sent_of fs))) → ArePlaced from (fs ++ framed at s ∷ [])
placed_push [] from at s h e = (omega (arith, e), tt)
placed_push (f ∷ fs) from at s h e = (
  h.0,
  placed_push fs (from + length (wire.frame (frame_of f.sent))) at s h.1
      (omega (arith, e, length-append (wire.frame (frame_of f.sent)) (wire.frames (frames_of (sent_of fs))))),
)

-- ---- messages with xids exactly inside blocks

steps_on : (w u : Watch) (n : ℕ) (m : Message) (r : StepResult) → by_order w n m r ≡ Ok u → IsOk r
steps_on w u n m (Ok step) e = refl
steps_on w u n m (Err fault) e = absurd (cc)

message_push : (v : Version) (ms : List Message) (w u : Watch) (n : ℕ) (m : Message) → AreMessagesFor false ms
    → w.order.version ≡ v → order_run v initial_order ms ≡ Ok w.order.state
    → IsMessageFor (is_in_block w.order.state.context) m
    → by_order w n m (order_step w.order.version w.order.state m) ≡ Ok u → AreMessagesFor false (ms ++ m ∷ [])
message_push v ms w u n m for version run is e =
    let ok : IsOk (order_run v initial_order ms) = subst IsOk (sym run) refl in
    let shaped = (shape_is_what_is_taken v ms).1 (for, ok) in
    let step = subst (λ x. IsOk (order_step x w.order.state m)) version (steps_on w u n m _ e) in
    ((shape_is_what_is_taken v (ms ++ m ∷ [])).0 ((step_keeps_shape v ms w.order.state m shaped run is).0 step)).0

pub decoded_push : (v : Version) (start limit : ℕ) (fs : List Framed) (w u : Watch) (at : ℕ) (s : Sent) → AreDecoded fs
    → hear_all (at_start v start limit) fs ≡ Ok w → IsDecoded (is_in_block w.order.state.context) s → hear w (heard_of at s) ≡ Ok u
    → AreDecoded (fs ++ framed at s ∷ [])
decoded_push v start limit fs w u at (Keepalive last clock reply) for h is e =
    subst (AreMessagesFor false)
    (sym (ap messages_in (sent_push fs at (Keepalive last clock reply))
    ∙ messages-append (sent_of fs) (Keepalive last clock reply ∷ []) ∙ append-nil (messages_in (sent_of fs)))) for
decoded_push v start limit fs w u at (Data first last clock m) for h is e =
    let ran = runs fs (at_start v start limit) w h in
    subst (AreMessagesFor false)
    (sym (ap messages_in (sent_push fs at (Data first last clock m)) ∙ messages-append (sent_of fs) (Data first last clock m ∷ [])))
    (message_push v (messages_in (sent_of fs)) w u at m for (sym ran.0) ran.1 is e)
