-- The session that goes on is heard message by message.
use Rattle.std.proofs.Common.{◌≡◌, ◌∙◌, inl, inr, ℕ, ℤ, List, [], ◌∷◌, ◌++◌, Bool, true, false}
use Rattle.std.proofs.Common.{Option, None, Some, Ok, refl, sym, ap, subst, true≢false}
use Rattle.std.proofs.Common.{append_assoc}
use Rattle.std.proofs.Common.{append-nil, ◌+◌, length}
use Rattle.pgwire.specs.Frames as wire
use Rattle.pgwire.specs.Payloads.{XLogData, payload}
use Rattle.pglogical.specs.declared.message.Message.{Message}
use Rattle.pglogical.specs.Spelling.{IsMessageFor, message_spelling}
use Rattle.pgorder.specs.declared.Version.{Version}
use Rattle.pgrepeats.specs.declared.past.Past.{Past}
use Rattle.pgcompared.specs.declared.hearing.Hearing.{Hearing}
use Rattle.pgcompared.specs.declared.noting.Noting.{Noting}
use Rattle.pgcompared.specs.declared.noting.Told.{Told}
use Rattle.pgcompared.specs.declared.session.Ended.{Ended}
use Rattle.pgcompared.specs.declared.session.Session.{Session}
use Rattle.pgcompared.specs.Frames.{HearsBody, HearsFrame, HearsIf, HearsOrPasses, IsKeepalive}
use Rattle.pgcompared.specs.Frames.{OfData}
use Rattle.pgcompared.specs.Frames.{TakesFrame, is_lost}
use Rattle.pgcompared.specs.HeardSessions.{AreBehindDone, IsSessionHeard, SessionsAreHeard}
use Rattle.pgcompared.specs.Laws.{HearsEach, HearsMessages, listed_end}
use Rattle.pgcompared.specs.Live.{Leads, Step}
use Rattle.pgcompared.specs.Noting.{HearsEnded}
use Rattle.pgcompared.specs.Sessions.{at_start, hear, in_block_of}

-- ---- one more

pub messages_push : (s mid new : Session) (ms : List Message) (es : List Ended) (m : Message) (e : Option Ended)
    → HearsMessages s ms mid es → IsMessageFor (in_block_of mid) m → hear mid m ≡ Ok (new, e)
    → HearsMessages s (ms ++ m ∷ []) new (es ++ listed_end e)
messages_push s mid new [] es m e h for heard =
    let heard' = subst (λ (x : Session). hear x m ≡ Ok (new, e)) h.0 heard in
    let for' = subst (λ (x : Session). IsMessageFor (in_block_of x) m) h.0 for in
    (new, e, [], for', heard', (refl, refl), ap (λ (xs : List Ended). xs ++ listed_end e) h.1 ∙ sym (append-nil (listed_end e)))
messages_push s mid new (x ∷ xs) es m e (next, first, later, is, now, rest, all) for heard = (
  next,
  first,
  later ++ listed_end e,
  is,
  now,
  messages_push next mid new xs later m e rest for heard,
  ap (λ (xs : List Ended). xs ++ listed_end e) all ∙ append_assoc (listed_end first) later (listed_end e),
)

pub each_push : (n mid new : Noting) (es : List Ended) (told : List Told) (at : ℕ) (e : Ended) (t : Told) → HearsEach n es mid told
    → HearsEnded mid at e new t → HearsEach n (es ++ e ∷ []) new (told ++ t ∷ [])
each_push n mid new [] told at e t h heard =
    (at, new, t, [], subst (λ (x : Noting). HearsEnded x at e new t) h.0 heard, (refl, refl), ap (λ (xs : List Told). xs ++ t ∷ []) h.1)
each_push n mid new (x ∷ xs) told at e t (place, next, first, later, now, rest, all) heard = (
  place,
  next,
  first,
  later ++ t ∷ [],
  now,
  each_push next mid new xs later at e t rest heard,
  ap (λ (xs : List Told). xs ++ t ∷ []) all,
)

pub each_same : (n mid new : Noting) (es : List Ended) (told : List Told) → HearsEach n es mid told → new ≡ mid → HearsEach n es new told
each_same n mid new es told h same = subst (λ (x : Noting). HearsEach n es x told) (sym same) h

-- a transaction commits, or none
if_push : (n mid new : Noting) (es : List Ended) (told : List Told) (at : ℕ) (e : Option Ended) (t : Told) → HearsEach n es mid told
    → HearsIf mid at e new t → (later : List Told) × HearsEach n (es ++ listed_end e) new later
if_push n mid new es told at None t h heard =
    (told, subst (λ (xs : List Ended). HearsEach n xs new told) (sym (append-nil es)) (each_same n mid new es told h heard.0))
if_push n mid new es told at (Some e) t h heard = (told ++ t ∷ [], each_push n mid new es told at e t h heard)

-- ---- a frame

at_first : (v : Version) (limit : ℕ) (steps : List Step) (h : Hearing) → AreBehindDone steps → h.session ≡ at_start v limit
    → IsSessionHeard v limit steps h
at_first v limit steps h behind first = record {
  now = [];
  earlier = steps;
  whole = refl;
  behind = behind;
  messages = [];
  carried = refl;
  committed = [];
  heard = (first, refl);
  first = h.noting;
  told = [];
  noted = (refl, refl);
}

module _ (v : Version) (limit : ℕ) (x : Step) (xs : List Step) (before h : Hearing) (i : IsSessionHeard v limit xs before) where
  keepalive : IsKeepalive x.frame → h.session ≡ before.session → h.noting ≡ before.noting → IsSessionHeard v limit (x ∷ xs) h
  keepalive is session noting = record {
    now = x ∷ i.now;
    earlier = i.earlier;
    whole = ap (λ (ys : List Step). x ∷ ys) i.whole;
    behind = i.behind;
    messages = i.messages;
    carried = inl (is, i.carried);
    committed = i.committed;
    heard = subst (λ (s : Session). HearsMessages (at_start v limit) i.messages s i.committed) (sym session) i.heard;
    first = i.first;
    told = i.told;
    noted = each_same i.first before.noting h.noting i.committed i.told i.noted noting;
  }

  message : (m : Message) (e : Option Ended) → OfData x.frame (λ body. body ≡ message_spelling m)
      → IsMessageFor (in_block_of before.session) m → hear before.session m ≡ Ok (h.session, e)
      → HearsIf before.noting before.at e h.noting x.told → IsSessionHeard v limit (x ∷ xs) h
  message m e carried for heard then_told =
      let noted = if_push i.first before.noting h.noting i.committed i.told before.at e x.told i.noted then_told in
      record {
        now = x ∷ i.now;
        earlier = i.earlier;
        whole = ap (λ (ys : List Step). x ∷ ys) i.whole;
        behind = i.behind;
        messages = i.messages ++ m ∷ [];
        carried = inr (i.messages, m, carried, i.carried, refl);
        committed = i.committed ++ listed_end e;
        heard = messages_push (at_start v limit) before.session h.session i.messages i.committed m e i.heard for heard;
        first = i.first;
        told = noted.0;
        noted = noted.1;
      }

  body : (start last : ℕ) (clock : ℤ) (bytes : List ℕ) → x.frame ≡ wire.CopyData (payload (XLogData start last clock bytes))
      → HearsBody before.session before.noting before.at bytes h.session h.noting x.told → is_lost x.told.found ≡ false
      → IsSessionHeard v limit (x ∷ xs) h
  body start last clock bytes frame (inl (m, e, says, heard, told)) well =
      message m e (start, last, clock, bytes, frame, says.spelled) says.xid heard told
  body start last clock bytes frame (inr (why, loses, noting, told)) well =
      absurd (true≢false (sym (ap (λ (t : Told). is_lost t.found) told) ∙ well))

  data_next : HearsFrame before.session before.noting before.at x.frame h.session h.noting x.told → is_lost x.told.found ≡ false
      → IsSessionHeard v limit (x ∷ xs) h
  data_next (inl (is, session, noting, told)) well = keepalive is session noting
  data_next (inr (inl (start, last, clock, bytes, frame, heard))) well = body start last clock bytes frame heard well
  data_next (inr (inr (bytes, fault, frame, has, session, noting, told))) well =
      absurd (true≢false (sym (ap (λ (t : Told). is_lost t.found) told) ∙ well))

by_lost : (v : Version) (limit : ℕ) (x : Step) (xs : List Step) (before h : Hearing) (b : Bool) → before.lost ≡ b
    → (before.lost ≡ false → IsSessionHeard v limit xs before) → HearsOrPasses b before x.frame h x.told → h.lost ≡ false
    → IsSessionHeard v limit (x ∷ xs) h
by_lost v limit x xs before h false well rest heard still = data_next v limit x xs before h (rest well) heard.0 (sym heard.1 ∙ still)
by_lost v limit x xs before h true well rest heard still = absurd (true≢false (sym heard.2 ∙ still))

-- ---- all frames

pub version_is : (v : Version) (limit max : ℕ) (past : Past) (reached : ℕ) (steps : List Step) (h : Hearing)
    → Leads v limit max past reached steps h
    → (h.version ≡ v) × (h.limit ≡ limit)
version_is v limit max past reached [] h first = (ap (λ (x : Hearing). x.version) first, ap (λ (x : Hearing). x.limit) first)
version_is v limit max past reached (x ∷ xs) h (before, leads, allowed, takes) =
    let is = version_is v limit max past reached xs before leads in (takes.1 ∙ is.0, takes.2 ∙ is.1)

step : (v : Version) (limit : ℕ) (frame : wire.Frame) (told : Told) (xs : List Step) (before h : Hearing) (next : ℕ)
    → (before.version ≡ v) × (before.limit ≡ limit) → (before.lost ≡ false → IsSessionHeard v limit xs before)
    → TakesFrame before frame next h told → h.lost ≡ false → IsSessionHeard v limit (record { frame = frame; told = told } ∷ xs) h
step v limit wire.CopyDone told xs before h next is rest takes still =
    at_first v limit (record { frame = wire.CopyDone; told = told } ∷ xs) h refl
    (takes.0 ∙ ap (λ (x : Version). at_start x before.limit) is.0 ∙ ap (λ (n : ℕ). at_start v n) is.1)
step v limit (wire.CopyData bytes) told xs before h next is rest takes still =
    by_lost v limit (record { frame = wire.CopyData bytes; told = told }) xs before h before.lost refl rest takes.0 still

all_steps : (v : Version) (limit max : ℕ) (past : Past) (reached : ℕ) (steps : List Step) (h : Hearing)
    → Leads v limit max past reached steps h
    → h.lost ≡ false → IsSessionHeard v limit steps h
all_steps v limit max past reached [] h first still = at_first v limit [] h tt (ap (λ (x : Hearing). x.session) first)
all_steps v limit max past reached (x ∷ xs) h (before, leads, allowed, takes) still =
    step v limit x.frame x.told xs before h (before.at + length (wire.frame x.frame)) (version_is v limit max past reached xs before leads)
    (λ well. all_steps v limit max past reached xs before leads well) takes.0 still

pub sessions_are_heard : SessionsAreHeard
sessions_are_heard v limit max past reached steps h leads still = all_steps v limit max past reached steps h leads still
