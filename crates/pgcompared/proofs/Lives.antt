-- A life of sessions is heard message by message, and isn't contradicted where it is of one
-- history.
use Rattle.std.proofs.Common.{◌≡◌, ◌+◌, ◌∙◌, inl, inr, ℕ, ℤ, List, [], ◌∷◌, ◌++◌, Bool}
use Rattle.std.proofs.Common.{true, false, max}
use Rattle.std.proofs.Common.{Option, None, Some, Ok, refl, sym, ap, subst, true≢false, length, map}
use Rattle.std.proofs.Common.{append_assoc, append-nil}
use Rattle.std.specs.List.{AllByRecursion, flat_map}
use Rattle.std.proofs.lemmas.List.{flat_map_more}
use Rattle.pgwire.specs.Frames as wire
use Rattle.pgwire.specs.Payloads.{XLogData, payload}
use Rattle.pglogical.specs.declared.message.Message.{Message}
use Rattle.pglogical.specs.Spelling.{IsMessageFor, message_spelling}
use Rattle.pgorder.specs.declared.Version.{Version}
use Rattle.pgrepeats.specs.declared.commit.Commit.{Commit}
use Rattle.pgrepeats.specs.declared.past.Past.{Past}
use Rattle.pgcompared.specs.declared.finding.Finding.{Finding}
use Rattle.pgcompared.specs.declared.hearing.Hearing.{Hearing}
use Rattle.pgcompared.specs.declared.noting.Noting.{Noting}
use Rattle.pgcompared.specs.declared.noting.Told.{Told}
use Rattle.pgcompared.specs.declared.session.Ended.{Ended}
use Rattle.pgcompared.specs.declared.session.Session.{Session as Messages}
use Rattle.pgcompared.specs.Commits.{commits_of, first_course}
use Rattle.pgcompared.specs.Frames.{HearsBody, HearsFrame, HearsIf, HearsOrPasses}
use Rattle.pgcompared.specs.Frames.{IsKeepalive, OfData}
use Rattle.pgcompared.specs.Frames.{TakesFrame, is_lost}
use Rattle.pgcompared.specs.Laws.{AreNext, FindsNothing, FoundNothing, HearsEach, HearsLife}
use Rattle.pgcompared.specs.Laws.{HearsMessages}
use Rattle.pgcompared.specs.Laws.{Session, WasHeard, listed_end}
use Rattle.pgcompared.specs.Live.{Leads, Step, speaking, spoken, told_of}
use Rattle.pgcompared.specs.Lives.{AreOfHistory, FramesAreNotContradicted, Heard, HearsSessions}
use Rattle.pgcompared.specs.Lives.{IsHeard, IsLifeHeard, LivesAreHeard, NoneIsLost, spoken_of}
use Rattle.pgcompared.specs.Noting.{BeginsSession, noting_from}
use Rattle.pgcompared.specs.Sessions.{at_start, hear, in_block_of}
use Rattle.pgcompared.proofs.Courses.{ended_are_commits}
use Rattle.pgcompared.proofs.HeardSessions.{each_push, each_same, messages_push, version_is}
use Rattle.pgcompared.proofs.Histories.{lives_are_not_contradicted}

-- ---- one more

all_push : (ts : List Told) (t : Told) → AllByRecursion WasHeard ts → WasHeard t → AllByRecursion WasHeard (ts ++ t ∷ [])
all_push [] t all is = (is, tt)
all_push (x ∷ xs) t all is = (all.0, all_push xs t all.1 is)

sessions_push : (v : Version) (limit : ℕ) (n mid : Noting) (ss : List Heard) (s : Heard) (end : Messages) (last new : Noting)
    → HearsSessions v limit n ss mid → IsHeard v limit mid s end last → BeginsSession false last new
    → HearsSessions v limit n (ss ++ s ∷ []) new
sessions_push v limit n mid [] s end last new same heard begins =
    (end, last, new, subst (λ (x : Noting). IsHeard v limit x s end last) same heard, begins, refl)
sessions_push v limit n mid (x ∷ xs) s end last new (e, m, next, now, between, rest) heard begins =
    (e, m, next, now, between, sessions_push v limit next mid xs s end last new rest heard begins)

-- what is told of one more
told_push : (ss : List Heard) (now next : Heard) (before : List Told) (t : Told) → before ≡ flat_map spoken_of (ss ++ now ∷ [])
    → spoken_of next ≡ spoken_of now ++ spoken t → before ++ spoken t ≡ flat_map spoken_of (ss ++ next ∷ [])
told_push ss now next before t is more =
    ap (λ (xs : List Told). xs ++ spoken t) (is ∙ sym (flat_map_more spoken_of [] ss now))
    ∙ append_assoc (flat_map spoken_of ss) (spoken_of now) (spoken t)
    ∙ ap (λ (xs : List Told). flat_map spoken_of ss ++ xs) (sym more)
    ∙ flat_map_more spoken_of [] ss next

-- ---- a frame

module _ (v : Version) (limit : ℕ) (past : Past) (reached : ℕ) (x : Step) (xs : List Step) (before h : Hearing)
    (i : IsLifeHeard v limit past reached xs before) where
  silent : spoken x.told ≡ [] → told_of xs ++ spoken x.told ≡ told_of xs
  silent none = ap (λ (ts : List Told). told_of xs ++ ts) none ∙ append-nil (told_of xs)

  keepalive : IsKeepalive x.frame → h.session ≡ before.session → h.noting ≡ before.noting → spoken x.told ≡ []
      → IsLifeHeard v limit past reached (x ∷ xs) h
  keepalive is session noting none = record {
    sessions = i.sessions;
    first = i.first;
    heard = i.heard;
    now = i.now;
    goes_on = (
      subst (λ (s : Messages). HearsMessages (at_start v limit) i.now.messages s i.now.ended) (sym session) i.goes_on.0,
      each_same i.first before.noting h.noting i.now.ended i.now.told i.goes_on.1 noting,
      i.goes_on.2,
    );
    carried = inl (is, i.carried);
    told = silent none ∙ i.told;
  }

  abbrev with_told : Message → Option Ended → List Told → Heard
  with_told m e told = record {
    messages = i.now.messages ++ m ∷ [];
    ended = i.now.ended ++ listed_end e;
    told = told;
  }

  message_told : (m : Message) (e : Option Ended) (told : List Told) → OfData x.frame (λ body. body ≡ message_spelling m)
      → IsMessageFor (in_block_of before.session) m → hear before.session m ≡ Ok (h.session, e)
      → HearsEach i.first (i.now.ended ++ listed_end e) h.noting told → AllByRecursion WasHeard told
      → told_of xs ++ spoken x.told ≡ flat_map spoken_of (i.sessions ++ with_told m e told ∷ [])
      → IsLifeHeard v limit past reached (x ∷ xs) h
  message_told m e told carried for heard noted were is = record {
    sessions = i.sessions;
    first = i.first;
    heard = i.heard;
    now = with_told m e told;
    goes_on = (
      messages_push (at_start v limit) before.session h.session i.now.messages i.now.ended m e i.goes_on.0 for heard,
      noted,
      were,
    );
    carried = inr (inl (i.now.messages, m, carried, i.carried, refl));
    told = is;
  }

  message : (m : Message) (e : Option Ended) → OfData x.frame (λ body. body ≡ message_spelling m)
      → IsMessageFor (in_block_of before.session) m → hear before.session m ≡ Ok (h.session, e)
      → HearsIf before.noting before.at e h.noting x.told → WasHeard x.told → IsLifeHeard v limit past reached (x ∷ xs) h
  message m None carried for heard (same, none) well =
      message_told m None i.now.told carried for heard
      (subst (λ (es : List Ended). HearsEach i.first es h.noting i.now.told) (sym (append-nil i.now.ended))
      (each_same i.first before.noting h.noting i.now.ended i.now.told i.goes_on.1 same))
      i.goes_on.2
      (told_push i.sessions i.now (with_told m None i.now.told) (told_of xs) x.told i.told
      (sym (ap (λ (ts : List Told). spoken_of i.now ++ ts) (ap spoken none) ∙ append-nil (spoken_of i.now))))
  message m (Some e) carried for heard hears well =
      message_told m (Some e) (i.now.told ++ x.told ∷ []) carried for heard
      (each_push i.first before.noting h.noting i.now.ended i.now.told before.at e x.told i.goes_on.1 hears)
      (all_push i.now.told x.told i.goes_on.2 well)
      (told_push i.sessions i.now (with_told m (Some e) (i.now.told ++ x.told ∷ [])) (told_of xs) x.told i.told
      (sym (flat_map_more spoken [] i.now.told x.told)))

  body : (start last : ℕ) (clock : ℤ) (bytes : List ℕ) → x.frame ≡ wire.CopyData (payload (XLogData start last clock bytes))
      → HearsBody before.session before.noting before.at bytes h.session h.noting x.told → WasHeard x.told
      → IsLifeHeard v limit past reached (x ∷ xs) h
  body start last clock bytes frame (inl (m, e, says, heard, told)) well =
      message m e (start, last, clock, bytes, frame, says.spelled) says.xid heard told well
  body start last clock bytes frame (inr (why, loses, noting, told)) well =
      absurd (true≢false (sym (ap (λ (t : Told). is_lost t.found) told) ∙ well))

  data_next : HearsFrame before.session before.noting before.at x.frame h.session h.noting x.told → WasHeard x.told
      → IsLifeHeard v limit past reached (x ∷ xs) h
  data_next (inl (is, session, noting, told)) well = keepalive is session noting (ap spoken told)
  data_next (inr (inl (start, last, clock, bytes, frame, heard))) well = body start last clock bytes frame heard well
  data_next (inr (inr (bytes, fault, frame, has, session, noting, told))) well =
      absurd (true≢false (sym (ap (λ (t : Told). is_lost t.found) told) ∙ well))

  -- the next session begins
  done : x.frame ≡ wire.CopyDone → h.session ≡ at_start v limit → BeginsSession false before.noting h.noting → spoken x.told ≡ []
      → IsLifeHeard v limit past reached (x ∷ xs) h
  done frame session begins none =
      let now : Heard = record { messages = []; ended = []; told = [] } in
      record {
        sessions = i.sessions ++ i.now ∷ [];
        first = h.noting;
        heard = sessions_push v limit (noting_from past reached 0) i.first i.sessions i.now before.session before.noting h.noting i.heard
            i.goes_on begins;
        now = now;
        goes_on = ((session, refl), (refl, refl), tt);
        carried = inr (inr (map (λ (s : Heard). s.messages) i.sessions, i.now.messages, frame, i.carried, messages_more i.sessions, refl));
        told = silent none ∙ i.told ∙ sym (append-nil (flat_map spoken_of (i.sessions ++ i.now ∷ [])))
            ∙ flat_map_more spoken_of [] (i.sessions ++ i.now ∷ []) now;
      }
    where
      messages_more : (ss : List Heard) → map (λ (s : Heard). s.messages) (ss ++ i.now ∷ [])
          ≡ map (λ (s : Heard). s.messages) ss ++ i.now.messages ∷ []
      messages_more [] = refl
      messages_more (s ∷ ss) = ap (λ (ms : List (List Message)). s.messages ∷ ms) (messages_more ss)

-- ---- all frames

heard_first : (v : Version) (limit : ℕ) (past : Past) (reached : ℕ) (h : Hearing) → h.session ≡ at_start v limit
    → h.noting ≡ noting_from past reached 0 → IsLifeHeard v limit past reached [] h
heard_first v limit past reached h session noting = record {
  sessions = [];
  first = noting_from past reached 0;
  heard = refl;
  now = record { messages = []; ended = []; told = [] };
  goes_on = ((session, refl), (noting, refl), tt);
  carried = (refl, refl);
  told = refl;
}

step : (v : Version) (limit : ℕ) (past : Past) (reached : ℕ) (frame : wire.Frame) (told : Told) (xs : List Step) (before h : Hearing)
    (next : ℕ) → (before.version ≡ v) × (before.limit ≡ limit) → (before.lost ≡ false) × IsLifeHeard v limit past reached xs before
    → TakesFrame before frame next h told → WasHeard told
    → (h.lost ≡ false) × IsLifeHeard v limit past reached (record { frame = frame; told = told } ∷ xs) h
step v limit past reached wire.CopyDone told xs before h next is (going, i) takes well = (
  takes.3,
  done v limit past reached (record { frame = wire.CopyDone; told = told }) xs before h i refl
      (takes.0 ∙ ap (λ (x : Version). at_start x before.limit) is.0 ∙ ap (λ (n : ℕ). at_start v n) is.1)
      (subst (λ b. BeginsSession b before.noting h.noting) going takes.1)
      (ap spoken takes.4 ∙ ap (λ b. speaking b None None) going),
)
step v limit past reached (wire.CopyData bytes) told xs before h next is (going, i) takes well =
    let heard = subst (λ b. HearsOrPasses b before (wire.CopyData bytes) h told) going takes.0 in (
      heard.1 ∙ well,
      data_next v limit past reached (record { frame = wire.CopyData bytes; told = told }) xs before h i heard.0 well,
    )

all_steps : (v : Version) (limit max : ℕ) (past : Past) (reached : ℕ) (steps : List Step) (h : Hearing)
    → Leads v limit max past reached steps h → NoneIsLost steps → (h.lost ≡ false) × IsLifeHeard v limit past reached steps h
all_steps v limit max past reached [] h first well = (
  ap (λ (x : Hearing). x.lost) first,
  heard_first v limit past reached h (ap (λ (x : Hearing). x.session) first) (ap (λ (x : Hearing). x.noting) first),
)
all_steps v limit max past reached (x ∷ xs) h (before, leads, allowed, takes) well =
    step v limit past reached x.frame x.told xs before h (before.at + length (wire.frame x.frame))
    (version_is v limit max past reached xs before leads) (all_steps v limit max past reached xs before leads well.1) takes.0 well.0

pub lives_are_heard : LivesAreHeard
lives_are_heard v limit max past reached steps h leads well = (all_steps v limit max past reached steps h leads well).1

-- ---- of one history

module _ (history : List Commit) (v : Version) (limit : ℕ) where
  abbrev session_of : (s : Heard) (n : Noting) (end : Messages) (new : Noting) (start last : ℕ)
      → AreNext history start (commits_of first_course s.messages) last → IsHeard v limit n s end new → Session history
  session_of s n end new start last next heard = record {
    start = start;
    last = last;
    commits = commits_of first_course s.messages;
    next = next;
    ended = s.ended;
    same = ended_are_commits v limit s.messages end s.ended heard.0;
    told = s.told;
    heard = heard.2;
  }

  abbrev FindNothing : List Heard → Type 0
  FindNothing ss = AllByRecursion (λ (s : Heard). AllByRecursion FoundNothing s.told) ss

  to_life : (ss : List Heard) (came : ℕ) (n new : Noting) → AreOfHistory history came (map (λ (s : Heard). s.messages) ss)
      → HearsSessions v limit n ss new
      → (lives : List (Session history)) × HearsLife history came n lives new × (AllByRecursion FindsNothing lives → FindNothing ss)
  to_life [] came n new are same = ([], same, λ none. tt)
  to_life (s ∷ ss) came n new (start, last, low, next, later) (end, mid, after, heard, begins, rest) =
      let others = to_life ss (max came last) after new later rest in (
        session_of s n end mid start last next heard ∷ others.0,
        (mid, after, low, heard.1, begins, others.1),
        λ none. (none.0, others.2 none.1),
      )

speaks_nothing : (forgot : Bool) (noted : Option Commit) → AllByRecursion FoundNothing (speaking forgot noted None)
speaks_nothing false None = tt
speaks_nothing false (Some d) = (refl, tt)
speaks_nothing true noted = (refl, tt)

spoken_nothing : (t : Told) → FoundNothing t → AllByRecursion FoundNothing (spoken t)
spoken_nothing t none =
    subst (λ (f : Option Finding). AllByRecursion FoundNothing (speaking t.forgot t.noted f)) (sym none) (speaks_nothing t.forgot t.noted)

both_nothing : (ts us : List Told) → AllByRecursion FoundNothing ts → AllByRecursion FoundNothing us
    → AllByRecursion FoundNothing (ts ++ us)
both_nothing [] us a b = b
both_nothing (t ∷ ts) us a b = (a.0, both_nothing ts us a.1 b)

each_nothing : (ts : List Told) → AllByRecursion FoundNothing ts → AllByRecursion FoundNothing (flat_map spoken ts)
each_nothing [] a = tt
each_nothing (t ∷ ts) a = both_nothing (spoken t) (flat_map spoken ts) (spoken_nothing t a.0) (each_nothing ts a.1)

all_nothing : (ss : List Heard) → AllByRecursion (λ (s : Heard). AllByRecursion FoundNothing s.told) ss
    → AllByRecursion FoundNothing (flat_map spoken_of ss)
all_nothing [] a = tt
all_nothing (s ∷ ss) a = both_nothing (spoken_of s) (flat_map spoken_of ss) (each_nothing s.told a.0) (all_nothing ss a.1)

messages_of : (ss : List Heard) (now : Heard) → map (λ (s : Heard). s.messages) (ss ++ now ∷ [])
    ≡ map (λ (s : Heard). s.messages) ss ++ now.messages ∷ []
messages_of [] now = refl
messages_of (s ∷ ss) now = ap (λ (ms : List (List Message)). s.messages ∷ ms) (messages_of ss now)

pub frames_are_not_contradicted : FramesAreNotContradicted
frames_are_not_contradicted history v limit max past at reached steps h valid is leads well are =
    let i = lives_are_heard v limit max past reached steps h leads well in
    let all = i.sessions ++ i.now ∷ [] in
    let next : Noting = noting_from h.noting.past h.noting.reached h.noting.equal in
    let heard : HearsSessions v limit (noting_from past reached 0) all next =
    sessions_push v limit (noting_from past reached 0) i.first i.sessions i.now h.session h.noting next i.heard i.goes_on
    (h.noting.past, refl, refl) in
    let ours : AreOfHistory history reached (map (λ (s : Heard). s.messages) all) =
    subst (AreOfHistory history reached) (sym (messages_of i.sessions i.now))
    (are (map (λ (s : Heard). s.messages) i.sessions) i.now.messages i.carried) in
    let life = to_life history v limit all reached (noting_from past reached 0) next ours heard in
    let none = (lives_are_not_contradicted history past at reached life.0 next valid is life.1).0 in
    subst (AllByRecursion FoundNothing) (sym i.told) (all_nothing all (life.2 none))
