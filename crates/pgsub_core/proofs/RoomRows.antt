-- A full spool is no answer where there is room: a limit of 1000 bytes, and a Begin and a Relation
-- message come.
use Rattle.std.proofs.Common.{◌≡◌, ◌∷◌, ◌++◌, [], List, ℕ, true, false, Some, pos, sym, ap, subst}
use Rattle.std.proofs.Common.{◌∙◌, arith, length, length-append}
use Rattle.std.specs.FinMap as map
use Rattle.pglogical.specs.Spelling.{item_spelling}
use Rattle.pglogical.specs.declared.message.Item.TheVariants as item
use Rattle.pgorder.specs.Steps.{InPair, initial_order}
use Rattle.pgspool.specs.declared.fault.SpoolFault.TheVariants as spool
use Rattle.pgsub_core.specs.declared.fault.Fault.TheVariants as fault
use Rattle.pgsub_core.specs.Server.History.{Transaction}
use Rattle.pgsub_core.specs.Server.Stream.{Sent}
use Rattle.pgsub_core.specs.Machine.Replica.{Running, then_run}
use Rattle.pgsub_core.specs.Subscriber.Subscribed.{Subscribed, disconnect}
use Rattle.pgsub_core.specs.Machine.Taking.{take, take_sessions, message_passes_limit}
use Rattle.pgsub_core.specs.Subscriber.Handled.{IsFollowed, StopsAt}
use Rattle.pgsub_core.proofs.Samples.{t, sent, alone, begin, empty_one, spools}
use Rattle.pgsub_core.proofs.Steps.{running}

abbrev begins : Sent
begins = sent (begin 512 10)

abbrev describes : Sent
describes = sent (alone (item.Relation t))

abbrev after_begin : Subscribed
after_begin = record (empty_one 1000) { order = record initial_order { context = InPair 512 10 }; held = map.insert map.empty 10 [] }

begun : take (pos 0) (disconnect (empty_one 1000)) begins ≡ Running after_begin
begun = simp spools

has_room : message_passes_limit after_begin describes ≡ false
unfolding item_spelling
has_room = simp spools

module _ (history : List Transaction) (bytes : List ℕ) (new : Subscribed)
    (followed : IsFollowed (pos 0) history (bytes ∷ []) ((begins ∷ describes ∷ []) ∷ []) (empty_one 1000) new
    (Some (fault.Spool spool.SpoolFull))) where
  by_front : (front : List Sent) → take_sessions (pos 0) (empty_one 1000) (front ∷ []) ≡ Running followed.state
      → (m : Sent) (later : List Sent) → begins ∷ describes ∷ [] ≡ front ++ m ∷ later → message_passes_limit followed.state m ≡ true → ⊥
  by_front [] takes m later parts full =
      let same : m ≡ begins = cc in
      let no : false ≡ true = subst (λ (x : Sent). message_passes_limit followed.state x ≡ true) same full in
      cc
  by_front (x ∷ []) takes m later parts full =
      let first : x ≡ begins = cc in
      let same : m ≡ describes = cc in
      let at : after_begin ≡ followed.state =
      running (sym (ap (λ o. then_run (then_run o (λ next. Running next)) (λ next. Running next)) begun)
      ∙ subst (λ (y : Sent). take_sessions (pos 0) (empty_one 1000) ((y ∷ []) ∷ []) ≡ Running followed.state) first takes) in
      let no : false ≡ true = sym has_room
      ∙ subst (λ (s : Subscribed). message_passes_limit s describes ≡ true) (sym at)
      (subst (λ (y : Sent). message_passes_limit followed.state y ≡ true) same full) in
      cc
  by_front (x ∷ y ∷ front) takes m later parts full = omega (arith, ap length parts, length-append front (m ∷ later))

  by_handled : (handled : List (List Sent)) → take_sessions (pos 0) (empty_one 1000) handled ≡ Running followed.state
      → StopsAt (pos 0) history (bytes ∷ []) ((begins ∷ describes ∷ []) ∷ []) handled followed.state (Some (fault.Spool spool.SpoolFull))
      → ⊥
  by_handled [] takes why = why.1
  by_handled (front ∷ []) takes why = by_front front takes why.0 why.1.0 why.1.1 why.2
  by_handled (front ∷ next ∷ handled) takes why = why.1.1

  not_full : ⊥
  not_full = by_handled followed.safely.handled followed.takes followed.why
