-- A front of the bytes of a session is the bytes of a session.
use Rattle.std.proofs.Common.{◌≡◌, ◌≤◌, ◌++◌, inl, inr, ℕ, List, [], ◌∷◌, Bool, true, false, length}
use Rattle.std.proofs.Common.{drop, refl, sym, ap, subst, ◌∙◌, arith, length-append, append_assoc}
use Rattle.std.proofs.Common.{append-nil}
use Rattle.std.proofs.lemmas.Bool.{cases_lt}
use Rattle.pgorder.specs.declared.Version.{Version}
use Rattle.pgwire.specs.Frames.{frame, frames}
use Rattle.pgsub_core.specs.Server.History.{Transaction}
use Rattle.pgsub_core.specs.Server.Stream.{Sent}
use Rattle.pgsub_core.specs.Server.Reached.{Progress, reached, disconnected}
use Rattle.pgsub_core.specs.Server.Sessions.{frames_of, IsPartOfNextFrame, IsSession, IsIncoming}
use Rattle.pgsub_core.specs.Server.Sessions.{IsForeign, AreIncoming, whole_frames}
use Rattle.pgsub_core.specs.Subscriber.Safely.{IsSent}
use Rattle.pgsub_core.specs.Subscriber.Subscribed.{Subscribed}
use Rattle.pgsub_core.proofs.SessionFrames.{frame_for}

-- bytes that begin as these, where they are long enough
begun : (x y a b : List ℕ) → a ++ b ≡ x ++ y → length x ≤ length a → (rest : List ℕ) × (a ≡ x ++ rest) × (rest ++ b ≡ y)
begun [] y a b e le = (a, refl, e)
begun (c ∷ x) y [] b e le = absurd (omega arith)
begun (c ∷ x) y (d ∷ a) b e le =
    let others = begun x y a b (ap (drop 1) e) (omega arith) in
    let same : d ≡ c = cc in
    (others.0, ap (λ k. k ∷ a) same ∙ ap (λ r. c ∷ r) others.1, others.2)

-- which messages are complete in a front of the bytes, and what of the next one's frame stands
-- behind them
record IsCut (complete later : List Sent) (bytes : List ℕ) : Type 0 where
  front : List Sent
  others : List Sent
  part : List ℕ
  parts : complete ≡ front ++ others
  stands : bytes ≡ frames (frames_of front) ++ part
  short : IsPartOfNextFrame (others ++ later) part

shorter : (later : List Sent) (a b rest : List ℕ) → a ++ b ≡ rest → IsPartOfNextFrame later rest → IsPartOfNextFrame later a
shorter [] a b rest e short = tt
shorter (m ∷ later) a b rest e short = omega (arith, short, ap length e, length-append a b)

cut_at : (complete later : List Sent) (a b rest : List ℕ) → a ++ b ≡ frames (frames_of complete) ++ rest → IsPartOfNextFrame later rest
    → IsCut complete later a
cut_at [] later a b rest e short =
    record { front = []; others = []; part = a; parts = refl; stands = refl; short = shorter later a b rest e short }
cut_at (m ∷ complete) later a b rest e short =
    elim (cases_lt (length a) (length (frame (frame_for m)))) [
      | inl less ↦ record { front = []; others = m ∷ complete; part = a; parts = refl; stands = refl; short = less }
      | inr more ↦
          let one = begun (frame (frame_for m)) (frames (frames_of complete) ++ rest) a b
          (e ∙ append_assoc (frame (frame_for m)) (frames (frames_of complete)) rest) more in
          let behind = cut_at complete later one.0 b rest one.2 short in
          record {
            front = m ∷ behind.front;
            others = behind.others;
            part = behind.part;
            parts = ap (λ ms. m ∷ ms) behind.parts;
            stands = one.1 ∙ ap (λ r. frame (frame_for m) ++ r) behind.stands
                ∙ sym (append_assoc (frame (frame_for m)) (frames (frames_of behind.front)) behind.part);
            short = behind.short;
          }
    ]

module _ (v : Version) (history : List Transaction) (s : ℕ) where
  pub session_cut : (a b : List ℕ) (complete : List Sent) → IsSession v history s (a ++ b) complete
      → (front later : List Sent) × (complete ≡ front ++ later) × IsSession v history s a front
  session_cut a b complete session =
      let cut = cut_at complete session.later a b session.rest session.stands session.short in (
        cut.front,
        cut.others,
        cut.parts,
        record {
          sent = session.sent;
          done = session.done;
          behind = b ++ session.behind;
          delivered = session.delivered;
          fits = session.fits;
          at_end = session.at_end;
          front = sym (append_assoc a b session.behind) ∙ session.front;
          later = cut.others ++ session.later;
          rest = cut.part;
          parts = session.parts ∙ ap (λ ms. ms ++ session.later) cut.parts ∙ append_assoc cut.front cut.others session.later;
          stands = cut.stands;
          short = cut.short;
        },
      )

  foreign_front : (done : Bool) (a b : List ℕ) → IsForeign done (a ++ b) → 1 ≤ length a → IsForeign done a
  foreign_front done [] b is some = absurd (omega arith)
  foreign_front true (c ∷ a) b is some = tt
  foreign_front false (c ∷ a) b is some = is

  -- of what comes of a session
  pub incoming_cut : (a b : List ℕ) (complete : List Sent) → IsIncoming v history s (a ++ b) complete
      → (front later : List Sent) × (complete ≡ front ++ later) × IsIncoming v history s a front
  incoming_cut a b complete (inl session) = let cut = session_cut a b complete session in (cut.0, cut.1, cut.2, inl cut.3)
  incoming_cut a b complete (inr foreign) =
      let ends = foreign.0 in
      let whole = whole_frames complete ends.done in
      elim (cases_lt (length whole) (length a)) [
        | inl less ↦
            let split = begun whole ends.foreign a b ends.whole (omega arith) in
            let some : 1 ≤ length split.0 = omega (arith, ap length split.1, length-append whole split.0) in
            let is : IsForeign ends.done split.0 =
            foreign_front ends.done split.0 b (subst (IsForeign ends.done) (sym split.2) ends.is) some in (
              complete,
              [],
              sym (append-nil complete),
              inr (record { done = ends.done; foreign = split.0; whole = split.1; is = is }, foreign.1),
            )
        | inr more ↦
            let split = begun a b whole ends.foreign (sym ends.whole) more in
            let cut = session_cut a split.0 complete (subst (λ bs. IsSession v history s bs complete) split.1 foreign.1) in
            (cut.0, cut.1, cut.2, inl cut.3)
      ]

-- the sessions up to a place in one of them
incoming_front : (v : Version) (history : List Transaction) (from : Progress) (sessions : List (List ℕ)) (a b : List ℕ)
    (later : List (List ℕ)) (all_complete : List (List Sent))
    → AreIncoming v history from (sessions ++ (a ++ b) ∷ later) all_complete
    → (fronts : List (List Sent)) × AreIncoming v history from (sessions ++ a ∷ []) fronts
incoming_front v history from [] a b later [] come = absurd come
incoming_front v history from [] a b later (complete ∷ all_complete) come =
    let cut = incoming_cut v history come.0.0 a b complete come.0.2 in
    (cut.0 ∷ [], ((come.0.0, come.0.1, cut.3), tt))
incoming_front v history from (bytes ∷ sessions) a b later [] come = absurd come
incoming_front v history from (bytes ∷ sessions) a b later (complete ∷ all_complete) come =
    let behind = incoming_front v history (reached (disconnected from) [] complete) sessions a b later all_complete come.1 in
    (complete ∷ behind.0, (come.0, behind.1))

pub sent_front : (history : List Transaction) (old : Subscribed) (sessions : List (List ℕ)) (a b : List ℕ) (later : List (List ℕ))
    (all_complete : List (List Sent))
    → IsSent history old (sessions ++ (a ++ b) ∷ later) all_complete
    → (fronts : List (List Sent)) × IsSent history old (sessions ++ a ∷ []) fronts
sent_front history old sessions a b later all_complete is =
    let cut = incoming_front old.version history _ sessions a b later all_complete is.sent in
    (cut.0, record { is_history = is.is_history; safe = is.safe; start = is.start; above = is.above; nothing = is.nothing; sent = cut.1 })
