-- From what a crash left of a subscriber.
use Rattle.std.proofs.Common.{◌≡◌, ◌≤◌, inl, inr, ℕ, List, [], ◌∷◌, Ok, max, refl, arith}
use Rattle.std.proofs.lemmas.Bool.{cases_lt}
use Rattle.pgorder.specs.declared.Version.{Version}
use Rattle.pgapply.specs.Value.{Tables}
use Rattle.pgsub_core.specs.Server.History.{Transaction, IsHistory, tables_as_of}
use Rattle.pgsub_core.specs.Server.Stream.{Sent}
use Rattle.pgsub_core.specs.Subscriber.Safe.{NothingBetween}
use Rattle.pgsub_core.specs.Server.Sessions.{AreIncoming, starting_by}
use Rattle.pgsub_core.specs.Subscriber.Subscribed.{progress_of, newly}
use Rattle.pgsub_core.specs.Subscriber.Confirming.{AreSafeReplies}
use Rattle.pgsub_core.specs.Subscriber.Safely.{IsSent}

-- up to the position all is stored
nothing_yet : (history : List Transaction) (p : ℕ) → NothingBetween history p p
nothing_yet [] p = tt
nothing_yet (t ∷ history) p = ((λ changes by. by), nothing_yet history p)

-- and so up to the greater of it and what was confirmed
nothing_up_to : (history : List Transaction) (p c : ℕ) → NothingBetween history p c → NothingBetween history p (max p c)
nothing_up_to [] p c nothing = tt
nothing_up_to (t ∷ history) p c nothing = ((λ changes by. below t.end (nothing.0 changes) by), nothing_up_to history p c nothing.1)
  where
    below : (e : ℕ) → (e ≤ c → e ≤ p) → e ≤ max p c → e ≤ p
    below e stored by = elim (cases_lt c e) [ inl late ↦ omega (arith, late, by) | inr early ↦ stored early ]

pub left_starts : (history : List Transaction) (tables : Tables) (position confirmed : ℕ) (v : Version) (max_frame limit : ℕ)
    (sessions : List (List ℕ)) (all_complete : List (List Sent))
    → IsHistory history → tables_as_of history position ≡ Ok tables → NothingBetween history position confirmed
    → AreIncoming v history (starting_by (max position confirmed) (progress_of (newly tables position v max_frame limit))) sessions
    all_complete
    → IsSent history (newly tables position v max_frame limit) sessions all_complete
    × AreSafeReplies history (newly tables position v max_frame limit)
left_starts history tables position confirmed v max_frame limit sessions all_complete is same nothing sent = (
  record {
    is_history = is;
    safe = record { same = same; stored = nothing_yet history position; below = omega arith };
    start = max position confirmed;
    above = omega arith;
    nothing = nothing_up_to history position confirmed nothing;
    sent = sent;
  },
  record { statuses = []; bytes = refl; each = tt },
)
