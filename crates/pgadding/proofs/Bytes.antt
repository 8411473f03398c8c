-- What is passed on of sessions is sessions.
use Rattle.std.proofs.Common.{inl, inr, ℕ, List, [], ◌∷◌}
use Rattle.pgorder.specs.declared.Version.{Version}
use Rattle.pgsub_core.specs.Server.History.{Transaction}
use Rattle.pgsub_core.specs.Server.Stream.{Sent}
use Rattle.pgsub_core.specs.Server.Reached.{Progress, reached, disconnected}
use Rattle.pgsub_core.specs.Server.Sessions.{EachStarts, IsSession, IsIncoming}
use Rattle.pgadding.specs.Addition.{Addition}
use Rattle.pgadding.specs.Passing.{passed_on}
use Rattle.pgadding.specs.Around.{IsAround, with_rows}
use Rattle.pgadding.specs.Bytes.{IsPassedSession, IsPassedIncoming, PassedSessionsAreSessions}
use Rattle.pgadding.proofs.Delivered.{passed_delivered}

pub each_starts : (is was : ℕ → List ℕ → List Sent → Type 0)
    → ((s : ℕ) (bytes : List ℕ) (complete : List Sent) → was s bytes complete → is s bytes complete)
    → (sessions : List (List ℕ)) (all_complete : List (List Sent)) (p : Progress) → EachStarts was p sessions all_complete
    → EachStarts is p sessions all_complete
each_starts is was then [] [] p h = tt
each_starts is was then [] (complete ∷ all_complete) p h = absurd h
each_starts is was then (bytes ∷ sessions) [] p h = absurd h
each_starts is was then (bytes ∷ sessions) (complete ∷ all_complete) p h = (
  (h.0.0, h.0.1, then h.0.0 bytes complete h.0.2),
  each_starts is was
      then sessions all_complete (reached (disconnected p) [] complete) h.1,
)

pub one_session : (v : Version) (a : Addition) (before below above : List Transaction) (s : ℕ) (bytes : List ℕ) (complete : List Sent)
    → IsAround a.point before below above
    → IsPassedSession v a before below above s bytes complete → IsSession v (with_rows a before below above) s bytes complete
one_session v a before below above s bytes complete is passed = record {
  sent = passed_on a s passed.sent;
  done = passed.written.done;
  behind = passed.written.behind;
  delivered = passed_delivered v a before below above s passed.sent passed.later is passed.stored passed.session passed.keeps;
  fits = passed.written.fits;
  at_end = passed.written.at_end;
  front = passed.written.front;
  later = passed.written.later;
  rest = passed.written.rest;
  parts = passed.written.parts;
  stands = passed.written.stands;
  short = passed.written.short;
}

one_incoming : (v : Version) (a : Addition) (before below above : List Transaction) → IsAround a.point before below above
    → (s : ℕ) (bytes : List ℕ) (complete : List Sent)
    → IsPassedIncoming v a before below above s bytes complete → IsIncoming v (with_rows a before below above) s bytes complete
one_incoming v a before below above is s bytes complete (inl passed) = inl (one_session v a before below above s bytes complete is passed)
one_incoming v a before below above is s bytes complete (inr ends) = inr (ends.0, one_session v a before below above s _ complete is ends.1)

pub passed_sessions : PassedSessionsAreSessions
passed_sessions v a before below above p sessions all_complete is h =
    each_starts (IsIncoming v (with_rows a before below above)) (IsPassedIncoming v a before below above)
    (one_incoming v a before below above is) sessions all_complete p h
