-- Feeding what is pumped of a file, as one session.
use Rattle.std.proofs.Common.{◌≡◌, ◌≢◌, ◌∙◌, ◌++◌, ◌∷◌, ◌<◌, ◌≤◌, ℕ, List, [], Option, Some, None}
use Rattle.std.proofs.Common.{Result, Ok, Err, OnOk, IfErr, IfSome, length, refl, sym, ap, subst}
use Rattle.std.proofs.Common.{inl, inr, length-append, arith, append-nil}
use Rattle.std.specs.Prelude.{⊤}
use Rattle.std.specs.List.{All}
use Rattle.std.proofs.lemmas.List.Elements.{All-tail}
use Rattle.std.specs.Io.KnownBytes.{Consumes, IsAtEnd}
use Rattle.pgapply.specs.Value.{Tables}
use Rattle.pgsub_core.specs.declared.fault.Fault.{Fault}
use Rattle.pgsub_core.specs.declared.fault.Fault.TheVariants as fault
use Rattle.pgsub_core.specs.Machine.Feeding.{IsFedWhole, IsFedUntil}
use Rattle.pgsub_core.specs.Subscriber.Following.{FeedsSessions}
use Rattle.pgsub_core.specs.Subscriber.Handled.{fault_in}
use Rattle.pgsub_core.specs.Calls.Pumping.{IsReadOut, Pumps, PumpsUntil, bytes_in}
use Rattle.pgsub_core.specs.Calls.Pumping as pumping
use Rattle.pgsub_core.specs.Subscriber.Subscribed.{Subscribed, disconnect}
use Rattle.pgsub_core.specs.Subscriber.SubscriberValue.{SubscriberValue, seen}
use Rattle.pgsub_core.specs.Subscriber.Crashing.{LeavesOldOr, FedOver, StandsAsFed}
use Rattle.pgsub_core.proofs.Crashes.{leaves_as}
use Rattle.pgsub_core.proofs.FollowSteps.{until_of}
use Rattle.pgsub_core.proofs.Pumped.{pumps_session}
use Rattle.pgsub_cli.specs.Limits.{clock}
use Rattle.pgsub_cli.specs.StoreAfter.{FeedsFile}
use Rattle.pgsub_cli.specs.Runs.{AreRead, fault_of_feeding}

-- each piece has a byte
as_many_bytes : (pieces : List (List ℕ)) → All (λ (piece : List ℕ). (0 < length piece) × (length piece ≤ 4096)) pieces
    → length pieces ≤ length (bytes_in pieces)
as_many_bytes [] each = omega arith
as_many_bytes (piece ∷ pieces) each =
    let some : 0 < length piece = (each 0 piece (omega arith)).0 in
    let more = as_many_bytes pieces (All-tail (λ (p : List ℕ). (0 < length p) × (length p ≤ 4096)) piece pieces each) in
    omega (arith, some, more, length-append piece (bytes_in pieces))

-- bytes that were consumed are the first ones, and all where none is left
begun : (unread rest : Option (List ℕ)) (bytes : List ℕ) → Consumes unread rest bytes
    → IfSome unread (λ known. (more : List ℕ) × (known ≡ bytes ++ more))
begun None rest bytes read = tt
begun (Some known) None bytes read = absurd read
begun (Some known) (Some more) bytes read = (more, read)

given : (unread rest : Option (List ℕ)) (bytes : List ℕ) → Consumes unread rest bytes → IsAtEnd rest
    → IfSome unread (λ known. bytes ≡ known)
given None rest bytes read end = tt
given (Some known) None bytes read end = absurd read
given (Some known) (Some more) bytes read end = sym (read ∙ ap (λ (r : List ℕ). bytes ++ r) end ∙ append-nil bytes)

feeding_is : (f : Fault) → f ≢ fault.Read → fault_of_feeding (Some f) ≡ Some f
feeding_is fault.Read other = absurd (other refl)
feeding_is f other = refl

read_until : {R : Type 0} (gives begins : R → List ℕ → Type 0) (failed : R → Type 0) (file : R) (bytes : List ℕ) (f : Fault)
    → f ≢ fault.Read → begins file bytes → AreRead gives begins failed file bytes (Some f)
read_until gives begins failed file bytes fault.Read other first = absurd (other refl)
read_until gives begins failed file bytes f other first = first

module _ {C : Type 0} (holds : C → Tables → Type 0) (place : C → ℕ) (old mid : SubscriberValue C)
    (same : mid.applied.store ≡ old.applied.store)
    (first : (tables : Tables) → seen place mid tables ≡ disconnect (seen place old tables)) where
  held : (tables : Tables) → holds old.applied.store tables → holds mid.applied.store tables
  held tables h = subst (λ (s : C). holds s tables) (sym same) h

  again : (tables : Tables) → disconnect (seen place mid tables) ≡ disconnect (seen place old tables)
  again tables = ap disconnect (first tables)

  -- what was pumped after a disconnection is a session
  pumped : (unread rest : Option (List ℕ)) (reads reads' : ℕ) (new : SubscriberValue C)
      (so : Pumps holds place clock unread rest reads reads' mid new)
      → FeedsSessions holds place clock old (bytes_in so.pieces ∷ []) new None
  pumped unread rest reads reads' new so tables h =
      let a = pumps_session holds place clock unread rest reads reads' mid new (λ ts. first ts ∙ sym (again ts)) so tables
      (held tables h) in (
        a.0,
        a.1,
        (
          seen place new a.0,
          subst (λ (s : Subscribed). IsFedWhole clock s (bytes_in so.pieces) (seen place new a.0)) (again tables) a.2,
          refl,
        ),
      )

  stopped : (unread rest : Option (List ℕ)) (new : SubscriberValue C) (f : Fault) (so : PumpsUntil holds place clock unread rest mid new f)
      → FeedsSessions holds place clock old (bytes_in so.pieces ∷ []) new (Some f)
  stopped unread rest new f so tables h =
      let a = so.stops tables (held tables h) in (
        a.0,
        a.1,
        inl (subst (λ (s : Subscribed). IsFedUntil clock s (bytes_in so.pieces) (seen place new a.0) f) (first tables)
            (until_of clock (seen place mid tables) (seen place new a.0) (bytes_in so.pieces) f
            (ap (λ (s : Subscribed). s.closed) (first tables)) a.2)),
      )

  module _ {R : Type 0} (remaining : R → Option (List ℕ)) (file : R) where
    abbrev gives : R → List ℕ → Type 0
    gives r bytes = IfSome (remaining r) (λ known. bytes ≡ known)

    abbrev begins : R → List ℕ → Type 0
    begins r bytes = IfSome (remaining r) (λ known. (rest : List ℕ) × (known ≡ bytes ++ rest))

    -- what is known of its bytes
    first_read : (unread rest : Option (List ℕ)) (bytes : List ℕ) → unread ≡ remaining file → Consumes unread rest bytes → begins file bytes
    first_read unread rest bytes is read =
        subst (λ (o : Option (List ℕ)). IfSome o (λ known. (more : List ℕ) × (known ≡ bytes ++ more))) is (begun unread rest bytes read)

    all_read : (unread rest : Option (List ℕ)) (pieces : List (List ℕ)) → unread ≡ remaining file → pumping.AreRead unread rest pieces
        → IsReadOut rest (length pieces) → AreRead gives begins (λ _. ⊤) file (bytes_in pieces) None
    all_read unread rest pieces is so (inl end) =
        inl (subst (λ (o : Option (List ℕ)). IfSome o (λ known. bytes_in pieces ≡ known)) is
        (given unread rest (bytes_in pieces) so.read end))
    all_read unread rest pieces is so (inr most) =
        inr (first_read unread rest (bytes_in pieces) is so.read, omega (arith, most, as_many_bytes pieces so.each))

    whole : (unread rest : Option (List ℕ)) (reads reads' : ℕ) (new : SubscriberValue C) → unread ≡ remaining file → reads ≡ 0
        → Pumps holds place clock unread rest reads reads' mid new → IsReadOut rest reads'
        → FeedsFile gives begins (λ _. ⊤) holds place file old new None
    whole unread rest reads reads' new is none so out =
        let was = so.counted in
        let counted : reads' ≡ length so.pieces = omega (arith, was, none) in (
          bytes_in so.pieces,
          all_read unread rest so.pieces is so.are_read (subst (IsReadOut rest) counted out),
          pumped unread rest reads reads' new so,
        )

    failing : (unread rest : Option (List ℕ)) (reads reads' : ℕ) (new : SubscriberValue C) → unread ≡ remaining file
        → Pumps holds place clock unread rest reads reads' mid new
        → FeedsFile gives begins (λ _. ⊤) holds place file old new (Some fault.Read)
    failing unread rest reads reads' new is so =
        (bytes_in so.pieces, (first_read unread rest (bytes_in so.pieces) is so.are_read.read, tt), pumped unread rest reads reads' new so)

    until : (unread rest : Option (List ℕ)) (new : SubscriberValue C) (f : Fault) → unread ≡ remaining file → f ≢ fault.Read
        → PumpsUntil holds place clock unread rest mid new f → FeedsFile gives begins (λ _. ⊤) holds place file old new (Some f)
    until unread rest new f is other so = (
      bytes_in so.pieces,
      read_until gives begins (λ _. ⊤) file (bytes_in so.pieces) f other (first_read unread rest (bytes_in so.pieces) is so.are_read.read),
      subst (λ (o : Option Fault). FeedsSessions holds place clock old (bytes_in so.pieces ∷ []) new o) (sym (feeding_is f other))
          (stopped unread rest new f so),
    )

    -- a file that was pumped
    pub file_fed : {A : Type 0} (unread rest : Option (List ℕ)) (reads reads' : ℕ) (new : SubscriberValue C) (r : Result A Fault)
        → unread ≡ remaining file → reads ≡ 0
        → OnOk r (Pumps holds place clock unread rest reads reads' mid new) → OnOk r (IsReadOut rest reads')
        → (r ≡ Err fault.Read → Pumps holds place clock unread rest reads reads' mid new)
        → IfErr r (λ f. f ≢ fault.Read → PumpsUntil holds place clock unread rest mid new f)
        → FeedsFile gives begins (λ _. ⊤) holds place file old new (fault_in r)
    file_fed unread rest reads reads' new (Ok done) is none fed out failed refused = whole unread rest reads reads' new is none fed out
    file_fed unread rest reads reads' new (Err f) is none fed out failed refused = by_fault f (λ e. failed (ap Err e)) refused
      where
        by_fault : (f : Fault) → (f ≡ fault.Read → Pumps holds place clock unread rest reads reads' mid new)
            → (f ≢ fault.Read → PumpsUntil holds place clock unread rest mid new f)
            → FeedsFile gives begins (λ _. ⊤) holds place file old new (Some f)
        by_fault fault.Read failed refused = failing unread rest reads reads' new is (failed refl)
        by_fault f failed refused = let other : f ≢ fault.Read = λ e. absurd (cc) in until unread rest new f is other (refused other)

    -- one that memory stopped, of which this stands
    pub file_stands : (unread rest : Option (List ℕ)) (new : SubscriberValue C) → unread ≡ remaining file
        → {A : Type 0} (r : Result A Fault)
        → IfErr r (λ f. f ≢ fault.Read → StandsAsFed place (λ s. PumpsUntil holds place clock unread rest mid s fault.Memory) new)
        → IfErr r (λ f. f ≢ fault.Read
        → StandsAsFed place (λ s. FeedsFile gives begins (λ _. ⊤) holds place file old s (Some fault.Memory)) new)
    file_stands unread rest new is (Ok done) stands = tt
    file_stands unread rest new is (Err f) stands = λ other.
        let memory : fault.Memory ≢ fault.Read = λ e. absurd (cc) in
        let s = stands other in
        (s.0, s.1, until unread rest s.0 fault.Memory is memory s.2)

    -- what a crash may leave of it
    pub file_left : (unread rest : Option (List ℕ)) (new : SubscriberValue C) → unread ≡ remaining file
        → (reopens : C → C → Type 0) (serves : C → Type 0)
        → LeavesOldOr place reopens serves (FedOver (λ s. PumpsUntil holds place clock unread rest mid s fault.Memory)) mid.applied.store
        new.applied.store
        → LeavesOldOr place reopens serves (FedOver (λ s. FeedsFile gives begins (λ _. ⊤) holds place file old s (Some fault.Memory)))
        old.applied.store new.applied.store
    file_left unread rest new is reopens serves leaves =
        let memory : fault.Memory ≢ fault.Read = λ e. absurd (cc) in
        subst (λ (c : C). LeavesOldOr place reopens serves
        (FedOver (λ s. FeedsFile gives begins (λ _. ⊤) holds place file old s (Some fault.Memory))) c new.applied.store) same
        (leaves_as place reopens serves _ _ mid.applied.store new.applied.store leaves
        (λ other has. (has.0, has.1, until unread rest has.0 fault.Memory is memory has.2)))
