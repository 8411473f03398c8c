-- The lines of sessions, one after the other.
use Rattle.std.proofs.Common.{◌≡◌, ◌≤◌, ◌<◌, ◌+◌, ◌-◌, ℕ, List, [], ◌∷◌, ◌++◌, Option, Some, None}
use Rattle.std.proofs.Common.{Result, Ok, Err, inl, inr, length, get_or, take, drop, take_all, refl}
use Rattle.std.proofs.Common.{sym, ap, subst, ◌∙◌, arith, append_assoc, append-nil}
use Rattle.std.specs.Prelude.{IsErrAnd}
use Rattle.std.specs.Result.{result_err}
use Rattle.std.proofs.lemmas.List.{map_more, map-append, take-append-drop}
use Rattle.pgorder.specs.declared.Version.{Version}
use Rattle.pgshow.specs.declared.fault.Fault as show
use Rattle.pgshow.specs.Shown.{IsShownAs, fault_in}
use Rattle.pgsub_core.specs.declared.fault.Fault.{Fault}
use Rattle.pgwire.specs.declared.session.Session.{Session}
use Rattle.pgsub_core.specs.Subscriber.Subscribed.{bytes_of, session_bytes}
use Rattle.pgsub_cli.specs.Limits.{longest_payload}
use Rattle.pgsub_cli.specs.Shown.{AreShown, AreShownLater, IsShown, disconnection_line}
use Rattle.pgsub_cli.specs.Shown.{fault_of_show}

-- ---- one session

pub is_whole : (version : Version) (bytes lines : List ℕ) (r : Result (Unit {0}) show.Fault) (done : Unit {0}) → r ≡ Ok done
    → IsShownAs version longest_payload bytes lines (fault_in r) → IsShown version bytes lines None
is_whole version bytes lines r done is h =
    inl (subst (λ (q : Result (Unit {0}) show.Fault). IsShownAs version longest_payload bytes lines (fault_in q)) is h, refl)

pub is_stopped : (version : Version) (bytes lines : List ℕ) (r : Result (Unit {0}) show.Fault) (f : show.Fault) (told : Fault) → r ≡ Err f
    → told ≡ fault_of_show f → IsShownAs version longest_payload bytes lines (fault_in r)
    → IsShown version bytes lines (Some told)
is_stopped version bytes lines r f told is same h =
    inr (
      f,
      subst (λ (q : Result (Unit {0}) show.Fault). IsShownAs version longest_payload bytes lines (fault_in q)) is h,
      refl,
      ap Some same,
    )

-- behind the line of the disconnection
pub is_next : (version : Version) (bytes lines : List ℕ) (stopped : Option Fault) → IsShown version bytes lines stopped
    → AreShownLater version (bytes ∷ []) (disconnection_line ++ lines) stopped
is_next version bytes lines stopped (inl (shown, none)) =
    inr (lines, [], ap (λ (ls : List ℕ). disconnection_line ++ ls) (sym (append-nil lines)), inl (shown, (refl, none)))
is_next version bytes lines stopped (inr stops) =
    inr (lines, [], ap (λ (ls : List ℕ). disconnection_line ++ ls) (sym (append-nil lines)), inr stops)

-- ---- later ones

later_and : (version : Version) (before after : List (List ℕ)) (lines more : List ℕ) (stopped : Option Fault)
    → AreShownLater version before lines None → AreShownLater version after more stopped
    → AreShownLater version (before ++ after) (lines ++ more) stopped
later_and version [] after lines more stopped none h =
    subst (λ (ls : List ℕ). AreShownLater version after (ls ++ more) stopped) (sym none.0) h
later_and version (bytes ∷ before) after lines more stopped (inl memory) h = let no = memory.1 in absurd (cc)
later_and version (bytes ∷ before) after lines more stopped (inr (head, rest, is, inl (shown, later))) h =
    inr (
      head,
      rest ++ more,
      ap (λ (ls : List ℕ). ls ++ more) is ∙ append_assoc disconnection_line (head ++ rest) more
          ∙ ap (λ (ls : List ℕ). disconnection_line ++ ls) (append_assoc head rest more),
      inl (shown, later_and version before after rest more stopped later h),
    )
later_and version (bytes ∷ before) after lines more stopped (inr (head, rest, is, inr (fault, shown, none, stops))) h = absurd (cc)

-- nothing is shown after a fault
later_stops : (version : Version) (bytes : List ℕ) (after : List (List ℕ)) (lines : List ℕ) (fault : Fault)
    → AreShownLater version (bytes ∷ []) lines (Some fault) → AreShownLater version (bytes ∷ after) lines (Some fault)
later_stops version bytes after lines fault (inl memory) = inl memory
later_stops version bytes after lines fault (inr (head, rest, is, inl (shown, (none, ends)))) = absurd (cc)
later_stops version bytes after lines fault (inr (head, rest, is, inr stops)) = inr (head, rest, is, inr stops)

pub one_more : (sessions : List Session) (i : ℕ) (session : Session) → i < length sessions → session ≡ get_or sessions i session
    → bytes_of (take (i + 1) sessions) ≡ bytes_of (take i sessions) ++ session_bytes session ∷ []
one_more sessions i session within at =
    map_more session_bytes sessions i session within ∙ ap (λ (s : Session). bytes_of (take i sessions) ++ session_bytes s ∷ []) (sym at)

all_of : (sessions : List Session) (i : ℕ) (session : Session) → i < length sessions → session ≡ get_or sessions i session
    → bytes_of (take i sessions) ++ session_bytes session ∷ bytes_of (drop (i + 1) sessions) ≡ bytes_of sessions
all_of sessions i session within at =
    let later = bytes_of (drop (i + 1) sessions) in
    sym (append_assoc (bytes_of (take i sessions)) (session_bytes session ∷ []) later)
    ∙ ap (λ (bytes : List (List ℕ)). bytes ++ later) (sym (one_more sessions i session within at))
    ∙ sym (map-append session_bytes (take (i + 1) sessions) (drop (i + 1) sessions))
    ∙ ap bytes_of (take-append-drop (i + 1) sessions)

-- one more is shown
pub more_shown : (version : Version) (sessions : List Session) (i : ℕ) (session : Session) (lines more : List ℕ) {T : Type 0}
    (r : Result T Fault) (done : T) → i < length sessions → session ≡ get_or sessions i session → r ≡ Ok done
    → AreShownLater version (bytes_of (take i sessions)) lines None → AreShownLater version (session_bytes session ∷ []) more (result_err r)
    → AreShownLater version (bytes_of (take (i + 1) sessions)) (lines ++ more) None
more_shown version sessions i session lines more {T} r done within at is shown next =
    let whole = subst (λ (q : Result T Fault). AreShownLater version (session_bytes session ∷ []) more (result_err q)) is next in
    subst (λ (bs : List (List ℕ)). AreShownLater version bs (lines ++ more) None) (sym (one_more sessions i session within at))
    (later_and version (bytes_of (take i sessions)) (session_bytes session ∷ []) lines more None shown whole)

stops_by : {T : Type 0} (r : Result T Fault) (fault : Fault) → IsErrAnd r (λ y. y ≡ fault) → result_err r ≡ Some fault
stops_by (Ok done) fault h = absurd h
stops_by (Err f) fault h = ap Some h

-- one more stops
pub more_stops : (version : Version) (sessions : List Session) (i : ℕ) (session : Session) (lines more : List ℕ) {T S : Type 0}
    (r : Result T Fault) (told : Result S Fault) (fault : Fault) → i < length sessions → session ≡ get_or sessions i session
    → r ≡ Err fault → IsErrAnd told (λ y. y ≡ fault) → AreShownLater version (bytes_of (take i sessions)) lines None
    → AreShownLater version (session_bytes session ∷ []) more (result_err r)
    → AreShownLater version (bytes_of sessions) (lines ++ more) (result_err told)
more_stops version sessions i session lines more {T} r told fault within at is same shown next =
    let after = bytes_of (drop (i + 1) sessions) in
    let stops = subst (λ (q : Result T Fault). AreShownLater version (session_bytes session ∷ []) more (result_err q)) is next in
    let all = later_and version (bytes_of (take i sessions)) (session_bytes session ∷ after) lines more (Some fault) shown
    (later_stops version (session_bytes session) after more fault stops) in
    subst (λ (o : Option Fault). AreShownLater version (bytes_of sessions) (lines ++ more) o) (sym (stops_by told fault same))
    (subst (λ (bs : List (List ℕ)). AreShownLater version bs (lines ++ more) (Some fault)) (all_of sessions i session within at) all)

-- ---- the first and the later ones

first_and : (sessions : List Session) (first : Session) → 1 ≤ length sessions → first ≡ get_or sessions 0 first
    → session_bytes first ∷ bytes_of (take (length sessions - 1) (drop 1 sessions)) ≡ bytes_of sessions
first_and [] first some at = absurd (omega arith)
first_and (session ∷ sessions) first some at =
    let all : length sessions ≤ length (session ∷ sessions) - 1 = omega arith in
    ap (λ (s : Session). session_bytes s ∷ bytes_of (take (length (session ∷ sessions) - 1) sessions)) at
    ∙ ap (λ (ss : List Session). session_bytes session ∷ bytes_of ss) (take_all (length (session ∷ sessions) - 1) sessions all)

pub all_shown : (version : Version) (sessions : List Session) (first : Session) (head rest : List ℕ) {T : Type 0} (r : Result T Fault)
    (done : T) (stopped : Option Fault) → 1 ≤ length sessions → first ≡ get_or sessions 0 first → r ≡ Ok done
    → IsShown version (session_bytes first) head (result_err r)
    → AreShownLater version (bytes_of (take (length sessions - 1) (drop 1 sessions))) rest stopped
    → AreShown version (bytes_of sessions) (head ++ rest) stopped
all_shown version sessions first head rest {T} r done stopped some at is shown later =
    subst (λ (bs : List (List ℕ)). AreShown version bs (head ++ rest) stopped) (first_and sessions first some at) (
      head,
      rest,
      refl,
      inl (
        whole (subst (λ (q : Result T Fault). IsShown version (session_bytes first) head (result_err q)) is shown),
        later,
      ),
    )
  where
    whole : IsShown version (session_bytes first) head None → IsShownAs version longest_payload (session_bytes first) head None
    whole (inl (h, none)) = h
    whole (inr (fault, h, none, stops)) = absurd (cc)

pub first_stops : (version : Version) (sessions : List Session) (first : Session) (lines : List ℕ) {T S : Type 0} (r : Result T Fault)
    (told : Result S Fault) (fault : Fault) → 1 ≤ length sessions → first ≡ get_or sessions 0 first → r ≡ Err fault
    → IsErrAnd told (λ y. y ≡ fault) → IsShown version (session_bytes first) lines (result_err r)
    → AreShown version (bytes_of sessions) lines (result_err told)
first_stops version sessions first lines {T} r told fault some at is same shown =
    subst (λ (o : Option Fault). AreShown version (bytes_of sessions) lines o) (sym (stops_by told fault same))
    (subst (λ (bs : List (List ℕ)). AreShown version bs lines (Some fault)) (first_and sessions first some at)
    (stopped (subst (λ (q : Result T Fault). IsShown version (session_bytes first) lines (result_err q)) is shown)))
  where
    stopped : IsShown version (session_bytes first) lines (Some fault)
        → AreShown version (session_bytes first ∷ bytes_of (take (length sessions - 1) (drop 1 sessions))) lines (Some fault)
    stopped (inl (h, none)) = absurd (cc)
    stopped (inr stops) = (lines, [], sym (append-nil lines), inr stops)

-- lines behind others
pub then_lines : (old mid new a b : List ℕ) → mid ≡ old ++ a → new ≡ mid ++ b → new ≡ old ++ (a ++ b)
then_lines old mid new a b first second = second ∙ ap (λ (ls : List ℕ). ls ++ b) first ∙ append_assoc old a b
