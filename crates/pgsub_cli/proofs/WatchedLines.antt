-- The lines of watched sessions, one after the other.
use Rattle.std.proofs.Common.{◌≡◌, ◌∙◌, ◌+◌, ◌<◌, ◌&&◌, ℕ, List, [], ◌∷◌, ◌++◌, Bool, true, false}
use Rattle.std.proofs.Common.{refl, sym, ap, subst}
use Rattle.std.proofs.Common.{length, get_or, take, append_assoc, append-nil}
use Rattle.pgorder.specs.declared.Version.{Version}
use Rattle.pgrules.specs.declared.findings.Findings.{Findings}
use Rattle.pgrules.specs.Rules.{is_well}
use Rattle.pgwire.specs.declared.session.Session.{Session}
use Rattle.pgsub_core.specs.Subscriber.Subscribed.{bytes_of, session_bytes}
use Rattle.pgsub_cli.specs.Watched.{AddsWatched, AreWatched, IsWatched, findings_text}
use Rattle.pgsub_cli.proofs.ShownLines.{one_more}

and-true : (b : Bool) → (b && true) ≡ b
and-true true = refl
and-true false = refl

and-assoc : (a b c : Bool) → ((a && b) && c) ≡ (a && (b && c))
and-assoc true b c = refl
and-assoc false b c = refl

pushed : (version : Version) (before : List (List ℕ)) (bytes lines : List ℕ) (well : Bool) (found : Findings)
    → AreWatched version before lines well → IsWatched version bytes found
    → AreWatched version (before ++ bytes ∷ []) (lines ++ findings_text found) (well && is_well found.end)
pushed version [] bytes lines well found (none, fine) is = (
  found,
  [],
  true,
  is,
  (refl, refl),
  ap (λ (ls : List ℕ). ls ++ findings_text found) none ∙ sym (append-nil (findings_text found)),
  ap (λ b. b && is_well found.end) fine ∙ sym (and-true (is_well found.end)),
)
pushed version (b ∷ before) bytes lines well found (first, rest, others, has, later, said, fine) is = (
  first,
  rest ++ findings_text found,
  others && is_well found.end,
  has,
  pushed version before bytes rest others found later is,
  ap (λ (ls : List ℕ). ls ++ findings_text found) said ∙ append_assoc (findings_text first) rest (findings_text found),
  ap (λ w. w && is_well found.end) fine ∙ and-assoc (is_well first.end) others (is_well found.end),
)

pub one_watched : (version : Version) (sessions : List Session) (i : ℕ) (session : Session) (lines new : List ℕ) (well more : Bool)
    → i < length sessions → session ≡ get_or sessions i session
    → AreWatched version (bytes_of (take i sessions)) lines well → AddsWatched version (session_bytes session) lines new more
    → AreWatched version (bytes_of (take (i + 1) sessions)) new (well && more)
one_watched version sessions i session lines new well more within at watched (found, is, (said, fine)) =
    subst (λ (bs : List (List ℕ)). AreWatched version bs new (well && more)) (sym (one_more sessions i session within at))
    (subst (λ (ls : List ℕ). AreWatched version (bytes_of (take i sessions) ++ session_bytes session ∷ []) ls (well && more)) (sym said)
    (subst (λ m. AreWatched version (bytes_of (take i sessions) ++ session_bytes session ∷ []) (lines ++ findings_text found) (well && m))
    (sym fine)
    (pushed version (bytes_of (take i sessions)) (session_bytes session) lines well found watched is)))
