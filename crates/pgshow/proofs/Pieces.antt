-- How a session goes on over bytes.
use Rattle.std.proofs.Common.{◌≡◌, ◌≤◌, ◌+◌, ◌-◌, inl, inr, ⊎_elim, ℕ, List, [], ◌∷◌, ◌++◌, Bool}
use Rattle.std.proofs.Common.{true, map, None, Ok, refl, sym, ap, subst, ◌∙◌, arith, length, take}
use Rattle.std.proofs.Common.{drop, append_assoc, append-nil}
use Rattle.std.specs.List.{AllByRecursion}
use Rattle.std.proofs.lemmas.Grind.{flat_map-append}
use Rattle.std.specs.Prelude.{◌==◌}
use Rattle.std.proofs.lemmas.Bool.Decides.{nat_tests}
use Rattle.std.proofs.lemmas.List.{length-append, length-take, map-append, take_rest}
use Rattle.std.proofs.lemmas.List.{take-append-drop}
use Rattle.pgwire.specs.Frames as wire
use Rattle.pgwire.specs.Deframed.{Deframed, fresh, Stands, Waits, IsFed, after_release}
use Rattle.pgwire.specs.Calls.{Feed, Release}
use Rattle.pgwire.proofs.Readings.{partial_is_short}
use Rattle.pgorder.specs.declared.Version.{Version}
use Rattle.pgorder.specs.States.{StreamOrder}
use Rattle.pgorder.specs.Steps.{initial_order}
use Rattle.pgshow.specs.Frames.{Said, frame_of, message_in, messages_in, IsWireSaid}
use Rattle.pgshow.specs.Shown.{line_of, lines_of}
use Rattle.pgshow.specs.Steps.{IsAfter, IsUnderWay, ShowsWhole, TakesFrame}

all-append : {X : Type 0} (P : X → Type 0) (xs ys : List X) → AllByRecursion P xs → AllByRecursion P ys → AllByRecursion P (xs ++ ys)
all-append P [] ys a b = b
all-append P (x ∷ xs) ys a b = (a.0, all-append P xs ys a.1 b)

-- something is taken where less than a frame is held
pub takes_some : (d mid : Deframed) (rest : List ℕ) (n : ℕ) → Waits d → IsFed d rest (Ok n) mid → 1 ≤ length rest → 1 ≤ n
takes_some d mid rest n waits fed some = ⊎_elim stands (λ w. omega (arith, w.0)) fed.3
  where
    stands : ((f : wire.Frame) × Stands mid f) → 1 ≤ n
    stands (f, s) =
        let whole : d.held ++ take n rest ≡ wire.frame f ++ [] =
        ap (λ (m : Deframed). m.held) (sym fed.2) ∙ s.whole ∙ sym (append-nil (wire.frame f)) in
        let short = partial_is_short d.max mid.max f d.held (take n rest) [] s.allowed waits.partial whole in
        let long : length d.held + length (take n rest) ≡ length (wire.frame f) =
        sym (length-append d.held (take n rest)) ∙ ap length (whole ∙ append-nil (wire.frame f)) in
        omega (arith, short, long, length-take n rest)

waits_empty : (old : Deframed) (f : wire.Frame) → Waits (after_release old f)
waits_empty old f = record
    { partial = record { tag = λ some. absurd (omega arith); payload = λ long. absurd (omega arith) }; last = λ e. refl }

-- a session at its start
pub started : (v : Version) (max : ℕ) (d : Deframed) (order : StreamOrder) → d ≡ fresh max
    → order ≡ record { version = v; state = initial_order } → IsUnderWay v max [] [] d order
started v max d order new first =
    subst (λ e. IsUnderWay v max [] [] e order) (sym new) (subst (IsUnderWay v max [] [] (fresh max)) (sym first) (record {
      calls = [];
      leads = (refl, refl, refl);
      waits = record { partial = record { tag = λ some. absurd (omega arith); payload = λ long. absurd (omega arith) }; last = λ e. refl };
      sound = refl;
      fits = tt;
      after = record { shape = record { pieces = []; rest = []; follow = tt; front = refl }; version = refl; run = refl };
    }))

-- one more frame was shown
shows_frame : (v : Version) (max : ℕ) (taken rest : List ℕ) (said : List Said) (n : ℕ) (d mid d' : Deframed) (order order' : StreamOrder)
    (frame : wire.Frame) (line : List ℕ) → IsUnderWay v max taken said d order
    → IsFed d rest (Ok n) mid → Stands mid frame → d' ≡ after_release mid frame → (t : TakesFrame frame line order order')
    → IsUnderWay v max (taken ++ take n rest) (said ++ t.0 ∷ []) d' order'
shows_frame v max taken rest said n d mid d' order order' frame line u fed stands released (s, is, fits, line_is, after) = record {
  calls = Release ∷ Feed rest (Ok n) ∷ u.calls;
  leads = (
    map frame_of said,
    mid,
    (taken, d, u.leads, fed, refl),
    inl (frame, stands, released, map-append frame_of said (s ∷ []) ∙ ap (λ f. map frame_of said ++ f ∷ []) (sym is)),
  );
  waits = subst Waits (sym released) (waits_empty mid frame);
  sound = ap (λ (m : Deframed). m.fault) released ∙ ap (λ (m : Deframed). m.fault) fed.2 ∙ u.sound;
  fits = all-append IsWireSaid said (s ∷ []) u.fits (fits, tt);
  after = subst (λ ms. IsAfter v ms order')
      (sym (flat_map-append message_in said (s ∷ []) ∙ ap (λ ms. messages_in said ++ ms) (append-nil (message_in s))))
      (after v (messages_in said) u.after);
}

-- none stands whole
shows_none : (v : Version) (max : ℕ) (taken rest : List ℕ) (said : List Said) (n : ℕ) (d mid d' : Deframed) (order order' : StreamOrder)
    → IsUnderWay v max taken said d order → IsFed d rest (Ok n) mid → Waits mid → d' ≡ mid → order' ≡ order
    → IsUnderWay v max (taken ++ take n rest) (said ++ []) d' order'
shows_none v max taken rest said n d mid d' order order' u fed waits same kept =
    subst (λ s. IsUnderWay v max (taken ++ take n rest) s d' order') (sym (append-nil said))
    (subst (IsUnderWay v max (taken ++ take n rest) said d') (sym kept) (record {
      calls = Release ∷ Feed rest (Ok n) ∷ u.calls;
      leads = (map frame_of said, mid, (taken, d, u.leads, fed, refl), inr (waits, same, refl));
      waits = subst Waits (sym same) waits;
      sound = ap (λ (m : Deframed). m.fault) same ∙ ap (λ (m : Deframed). m.fault) fed.2 ∙ u.sound;
      fits = u.fits;
      after = u.after;
    }))

-- what a step of the loop comes to
pub goes_on : (v : Version) (max : ℕ) (taken rest : List ℕ) (said : List Said) (n : ℕ) (d mid d' : Deframed) (order order' : StreamOrder)
    (text text' : List ℕ) → IsUnderWay v max taken said d order → IsFed d rest (Ok n) mid
    → ShowsWhole mid order text d' order' text'
    → (more : List Said) × IsUnderWay v max (taken ++ take n rest) (said ++ more) d' order' × (text' ≡ text ++ lines_of more)
goes_on v max taken rest said n d mid d' order order' text text' u fed (inl (frame, line, stands, released, t, is)) = (
  t.0 ∷ [],
  shows_frame v max taken rest said n d mid d' order order' frame line u fed stands released t,
  is ∙ ap (λ l. text ++ l) (t.3 ∙ sym (append-nil (line_of t.0))),
)
goes_on v max taken rest said n d mid d' order order' text text' u fed (inr (waits, same, kept, is)) =
    ([], shows_none v max taken rest said n d mid d' order order' u fed waits same kept, is ∙ sym (append-nil text))

-- where no frame stands whole, and no fault came
pub waits_again : (d mid d' : Deframed) (rest : List ℕ) (n : ℕ) (order order' : StreamOrder) (text text' : List ℕ) → d.fault ≡ None
    → IsFed d rest (Ok n) mid → ShowsWhole mid order text d' order' text' → Waits d' × (d'.fault ≡ None)
waits_again d mid d' rest n order order' text text' none fed (inl (frame, line, stands, released, t, is)) = (
  subst Waits (sym released) (waits_empty mid frame),
  ap (λ (m : Deframed). m.fault) released ∙ ap (λ (m : Deframed). m.fault) fed.2 ∙ none,
)
waits_again d mid d' rest n order order' text text' none fed (inr (waits, same, kept, is)) =
    (subst Waits (sym same) waits, ap (λ (m : Deframed). m.fault) same ∙ ap (λ (m : Deframed). m.fault) fed.2 ∙ none)

-- lines after lines
pub more_lines : (text mid text' : List ℕ) (said more : List Said) → mid ≡ text ++ lines_of said → text' ≡ mid ++ lines_of more
    → text' ≡ text ++ lines_of (said ++ more)
more_lines text mid text' said more e f =
    f ∙ ap (λ l. l ++ lines_of more) e ∙ append_assoc text (lines_of said) (lines_of more)
    ∙ ap (λ l. text ++ l) (sym (flat_map-append line_of said more))

-- the bytes that were taken and those that are left are the same, once more are taken
pub same_bytes : (taken rest all : List ℕ) (n : ℕ) → taken ++ rest ≡ all
    → (taken ++ take n rest) ++ take (length rest - n) (drop n rest) ≡ all
same_bytes taken rest all n e =
    ap (λ (xs : List ℕ). (taken ++ take n rest) ++ xs) (take_rest rest n) ∙ append_assoc taken (take n rest) (drop n rest)
    ∙ ap (λ (xs : List ℕ). taken ++ xs) (take-append-drop n rest) ∙ e

nothing_is : (rest : List ℕ) → length rest ≡ 0 → rest ≡ []
nothing_is [] none = refl
nothing_is (x ∷ xs) none = absurd (omega (arith, none))

-- where nothing is left, all bytes were taken
pub all_taken : (taken rest all : List ℕ) (b : Bool) → b ≡ (length rest == 0) → b ≡ true → taken ++ rest ≡ all → taken ≡ all
all_taken taken rest all b same is e =
    let none : length rest ≡ 0 = grind (arith, nat_tests) in
    sym (append-nil taken) ∙ ap (λ (xs : List ℕ). taken ++ xs) (sym (nothing_is rest none)) ∙ e
