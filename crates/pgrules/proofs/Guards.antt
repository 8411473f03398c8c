-- What a reader that watches hands on, one front of a piece more.
use Rattle.std.proofs.Common.{◌≡◌, ◌≤◌, ◌<◌, ◌+◌, ◌-◌, ◌⊎◌, ◌∙◌, inl}
use Rattle.std.proofs.Common.{inr, ℕ, List, [], ◌∷◌, ◌++◌, Bool}
use Rattle.std.proofs.Common.{true, false, Option, None, Some, refl, sym, ap, subst, arith, length}
use Rattle.std.proofs.Common.{take, drop, append_assoc, append-nil, true≢false}
use Rattle.std.specs.Option.{is_some}
use Rattle.std.proofs.lemmas.List.{length-append, take-append-drop, take-take, drop-take}
use Rattle.std.proofs.lemmas.List.{length-take, length-take-le}
use Rattle.pgorder.specs.declared.Version.{Version}
use Rattle.pgrules.specs.declared.findings.Findings.{Findings}
use Rattle.pgrules.specs.declared.live.LiveWatch.{LiveWatch}
use Rattle.pgrules.specs.declared.rules.Rule.{Rule}
use Rattle.pgrules.specs.Guarding.{HasStopped, HearsAll, IsGuarded, IsOpen, IsUnbroken}
use Rattle.pgrules.specs.Live.{IsWatched}
use Rattle.pgrules.specs.Rules.{broken_rule}
use Rattle.pgrules.proofs.Steps.{all_push}

none_before : (part rest : List ℕ) → 1 ≤ length part → [] ≡ part ++ rest → ⊥
none_before part rest some e = omega (arith, some, ap (λ (xs : List ℕ). length xs) e, length-append part rest)

module _ {L : Type 0} (hears : L → Findings → L → Type 0) where
  heard_push : (old mid new : L) (told : List Findings) (f : Findings) → HearsAll hears old told mid → hears mid f new
      → HearsAll hears old (told ++ f ∷ []) new
  heard_push old mid new [] f h e = (new, subst (λ x. hears x f new) h e, refl)
  heard_push old mid new (g ∷ told) f h e = (h.0, h.1, heard_push h.0 mid new told f h.2 e)

  module _ (v : Version) (limit max : ℕ) (first : L) (stops : Bool) (given : List ℕ) where
    -- at the start
    pub begins : (now : LiveWatch) → IsWatched v limit max [] now [] → given ≡ [] → IsGuarded hears v limit max first stops given [] []
        now first
    begins now w none = record {
      told = [];
      heard = refl;
      before = now;
      well = [];
      watched = subst (λ (xs : List ℕ). IsWatched v limit max (xs ++ []) now []) (sym none) w;
      unbroken = λ asked. tt;
      state = inl (refl, refl, refl);
    }

    -- what is handed on isn't ahead any more
    pub handed : (front ahead behind : List ℕ) (now : LiveWatch) (l : L)
        → IsGuarded hears v limit max first stops given (front ++ ahead) behind now l
        → IsGuarded hears v limit max first stops (given ++ front) ahead behind now l
    handed front ahead behind now l g =
        let same = sym (append_assoc given front ahead) in record {
          told = g.told;
          heard = g.heard;
          before = g.before;
          well = g.well;
          watched = subst (λ (xs : List ℕ). IsWatched v limit max xs g.before g.well) same g.watched;
          unbroken = g.unbroken;
          state = subst (λ (xs : List ℕ). IsOpen behind g.before now g.well g.told ⊎ HasStopped v limit max stops xs behind now g.well
              g.told)
              same g.state;
        }

    module _ (ahead : List ℕ) (now : LiveWatch) (l : L) (g : IsGuarded hears v limit max first stops given ahead [] now l) where
      open_is : IsOpen [] g.before now g.well g.told
      open_is = go g.state
        where
          go : IsOpen [] g.before now g.well g.told ⊎ HasStopped v limit max stops (given ++ ahead) [] now g.well g.told
              → IsOpen [] g.before now g.well g.told
          go (inl it) = it
          go (inr s) = absurd (none_before s.part s.rest s.some s.parts)

      pub watched_now : IsWatched v limit max (given ++ ahead) now g.well
      watched_now = subst (λ x. IsWatched v limit max (given ++ ahead) x g.well) (sym open_is.1) g.watched

      heard_now : HearsAll hears first g.well l
      heard_now = subst (λ told. HearsAll hears first told l) open_is.2 g.heard

      -- nothing is found
      pub goes_on : (part : List ℕ) (next : LiveWatch) → IsWatched v limit max ((given ++ ahead) ++ part) next (g.well ++ [])
          → IsGuarded hears v limit max first stops given (ahead ++ part) [] next l
      goes_on part next w = record {
        told = g.well;
        heard = heard_now;
        before = next;
        well = g.well;
        watched = subst (λ (xs : List ℕ). IsWatched v limit max xs next g.well) (append_assoc given ahead part)
            (subst (IsWatched v limit max ((given ++ ahead) ++ part) next) (append-nil g.well) w);
        unbroken = g.unbroken;
        state = inl (refl, refl, refl);
      }

      -- something is found, and it goes on
      pub goes_on_told : (part : List ℕ) (next : LiveWatch) (l' : L) (f : Findings)
          → IsWatched v limit max ((given ++ ahead) ++ part) next (g.well ++ f ∷ []) → hears l f l' → (stops ≡ true → IsUnbroken f)
          → IsGuarded hears v limit max first stops given (ahead ++ part) [] next l'
      goes_on_told part next l' f w heard whole = record {
        told = g.well ++ f ∷ [];
        heard = heard_push first l l' g.well f heard_now heard;
        before = next;
        well = g.well ++ f ∷ [];
        watched = subst (λ (xs : List ℕ). IsWatched v limit max xs next (g.well ++ f ∷ [])) (append_assoc given ahead part) w;
        unbroken = λ asked. all_push IsUnbroken g.well f (g.unbroken asked) (whole asked);
        state = inl (refl, refl, refl);
      }

      -- a rule is broken, and it stops
      pub stops_here : (part rest : List ℕ) (next : LiveWatch) (l' : L) (f : Findings) → 1 ≤ length part
          → IsWatched v limit max ((given ++ ahead) ++ part) next (g.well ++ f ∷ []) → hears l f l' → stops ≡ true
          → is_some (broken_rule f.end) ≡ true → IsGuarded hears v limit max first stops given ahead (part ++ rest) next l'
      stops_here part rest next l' f some w heard asked breaks = record {
        told = g.well ++ f ∷ [];
        heard = heard_push first l l' g.well f heard_now heard;
        before = now;
        well = g.well;
        watched = watched_now;
        unbroken = g.unbroken;
        state = inr (record {
          asked = asked;
          found = f;
          part = part;
          rest = rest;
          some = some;
          parts = refl;
          watched = w;
          told_is = refl;
          breaks = breaks;
        });
      }

-- ---- the bytes of a piece

take_sum : (n m : ℕ) (xs : List ℕ) → take (n + m) xs ≡ take n xs ++ take m (drop n xs)
take_sum n m xs =
    sym (take-append-drop n (take (n + m) xs)) ∙ ap (λ (ys : List ℕ). ys ++ drop n (take (n + m) xs)) (take-take n (n + m) xs (omega arith))
    ∙ ap (λ (ys : List ℕ). take n xs ++ ys) (drop-take n m xs)

short_of : (k n : ℕ) (ys : List ℕ) → n ≤ length (take k ys) → n ≤ k
short_of k n ys h = omega (arith, h, length-take k ys)

module _ (taken n len : ℕ) (room piece : List ℕ) (is : piece ≡ take (len - taken) (drop taken room)) where
  -- it goes on behind the first bytes of a piece
  pub next_part : n ≤ length piece → take taken room ++ take n piece ≡ take (taken + n) room
  next_part le =
      let few : n ≤ len - taken = short_of (len - taken) n (drop taken room) (subst (λ (xs : List ℕ). n ≤ length xs) is le) in
      ap (λ (ys : List ℕ). take taken room ++ take n ys) is
      ∙ ap (λ (ys : List ℕ). take taken room ++ ys) (take-take n (len - taken) (drop taken room) few) ∙ sym (take_sum taken n room)

  -- or keeps them back, with all behind them
  pub rest_part : taken ≤ len → take n piece ++ drop n piece ≡ drop taken (take len room)
  rest_part le =
      let sum : taken + (len - taken) ≡ len = omega (arith, le) in
      take-append-drop n piece ∙ is ∙ sym (drop-take taken (len - taken) room) ∙ ap (λ k. drop taken (take k room)) sum

  pub some_part : 0 < n → n ≤ length piece → 1 ≤ length (take n piece)
  some_part some le = omega (arith, some, length-take-le n piece le)

pub none_rule : (o : Option Rule) → is_some o ≡ false → o ≡ None
none_rule None e = refl
none_rule (Some r) e = absurd (true≢false e)

-- what is behind it
pub behind_part : (taken len : ℕ) (room : List ℕ) → taken ≤ len → take (len - taken) (drop taken room) ≡ drop taken (take len room)
behind_part taken len room le =
    let sum : taken + (len - taken) ≡ len = omega (arith, le) in
    sym (drop-take taken (len - taken) room) ∙ ap (λ k. drop taken (take k room)) sum

pub two_parts : (taken len : ℕ) (room : List ℕ) → taken ≤ len → take len room ≡ take taken room ++ take (len - taken) (drop taken room)
two_parts taken len room le =
    let sum : len ≡ taken + (len - taken) = omega (arith, le) in
    ap (λ k. take k room) sum ∙ take_sum taken (len - taken) room
