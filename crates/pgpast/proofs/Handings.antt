-- What a reader hands on that compares, one front of a piece more.
use Rattle.std.proofs.Common.{◌≡◌, ◌≤◌, ◌<◌, ◌+◌, ◌-◌, ◌⊎◌, ◌∙◌, inl}
use Rattle.std.proofs.Common.{inr, ℕ, List, [], ◌∷◌, ◌++◌, Bool}
use Rattle.std.proofs.Common.{true, false, refl, sym, ap, subst, arith, length}
use Rattle.std.proofs.Common.{take, drop, append_assoc, cond, ◌&&◌, true≢false}
use Rattle.std.specs.List.{AllByRecursion, flat_map}
use Rattle.std.proofs.lemmas.List.{length-append, take-append-drop, take-take, drop-drop, drop-take}
use Rattle.std.proofs.lemmas.List.{length-take, length-take-le, take_at, flat_map_more}
use Rattle.std.proofs.lemmas.Bool.Decides.{nat_tests}
use Rattle.std.specs.Prelude.{nat_le}
use Rattle.pgorder.specs.declared.Version.{Version}
use Rattle.pgrepeats.specs.declared.past.Past.{Past}
use Rattle.pgcompared.specs.declared.compared.Compared.{Compared}
use Rattle.pgcompared.specs.declared.noting.Told.{Told}
use Rattle.pgcompared.specs.Live.{IsCompared, spoken}
use Rattle.pgcompared.specs.declared.finding.Finding.{Finding}
use Rattle.pgpast.specs.declared.file.NotesFile as notes_file
use Rattle.pgpast.specs.declared.notes.Notes.{Notes}
use Rattle.pgpast.specs.Noting.{IsKept}
use Rattle.pgpast.specs.Handing.{Goes, HasHeard, HasStopped, IsAgreed, IsHanded, IsOpen, KeepsTold}
use Rattle.pgpast.specs.Handing.{Tells}
use Rattle.pgpast.specs.Handing.{ahead_of, behind_of, contradicts, part_of}

-- ---- what a front gives

all_push : (hs : List Told) (h : Told) → AllByRecursion IsAgreed hs → IsAgreed h → AllByRecursion IsAgreed (hs ++ h ∷ [])
all_push [] h all is = (is, tt)
all_push (g ∷ hs) h all is = (all.0, all_push hs h all.1 is)

heard_push : (v : Version) (limit max : ℕ) (past : Past) (reached : ℕ) (bytes : List ℕ) (c : Compared) (hs : List Told) (h : Told)
    → IsCompared v limit max past reached bytes c
    (flat_map spoken hs ++ spoken h)
    → HasHeard v limit max past reached bytes c (hs ++ h ∷ [])
heard_push v limit max past reached bytes c hs h is =
    subst (IsCompared v limit max past reached bytes c) (flat_map_more spoken [] hs h) is

none_before : (part rest : List ℕ) → 1 ≤ length part → [] ≡ part ++ rest → ⊥
none_before part rest some e = omega (arith, some, ap (λ (xs : List ℕ). length xs) e, length-append part rest)

module _ {F L : Type 0} {ghosts : notes_file.Ghosts F} (holds : F → List ℕ → Type 0) (hears : L → Finding → L → Type 0)
    (loses : L → L → Type 0) where
  goes_push : (ts : List Told) (t : Told) (old mid : Notes F ghosts × L) (l : L) (new : Notes F ghosts × L)
      → Goes holds hears loses ts old mid
      → Tells hears t.found mid.1 l → KeepsTold holds loses t (mid.0, l) new → Goes holds hears loses (ts ++ t ∷ []) old new
  goes_push [] t old mid l new e tells keeps = (
    l,
    new,
    subst (λ (x : Notes F ghosts × L). Tells hears t.found x.1 l) e tells,
    subst (λ (x : Notes F ghosts × L). KeepsTold holds loses t (x.0, l) new) e keeps,
    refl,
  )
  goes_push (s ∷ ts) t old mid l new g tells keeps = (g.0, g.1, g.2, g.3, goes_push ts t g.1 mid l new g.4 tells keeps)

  -- where no error came, all is noted, or nothing is noted any more
  pub keeps_ok : (t : Told) (old new : Notes F ghosts) (l : L)
      → (old.is_kept ≡ true
      → (new.is_kept ≡ true) × IsKept holds old.file old.next old.newest t.forgot t.noted new.file new.next new.newest)
      → (old.is_kept ≡ false → new ≡ old) → KeepsTold holds loses t (old, l) (new, l)
  keeps_ok t old new l ok ended = go old.is_kept refl
    where
      go : (b : Bool) → old.is_kept ≡ b → KeepsTold holds loses t (old, l) (new, l)
      go true e = inl (e, (ok e).0, (ok e).1, refl)
      go false e = inr (inr (e, ap (λ (n : Notes F ghosts). (n, l)) (ended e)))

  module _ (v : Version) (limit max : ℕ) (past : Past) (reached : ℕ) (first : Notes F ghosts × L) (stops : Bool) (given : List ℕ) where
    -- at the start
    pub begins : (now : Compared) → IsCompared v limit max past reached [] now [] → given ≡ []
        → IsHanded holds hears loses v limit max past reached first stops given [] [] now first
    begins now is none = record {
      before = now;
      well = [];
      mid = first;
      goes = refl;
      compared = subst (λ (xs : List ℕ). HasHeard v limit max past reached (xs ++ []) now []) (sym none) is;
      agreed = λ asked. tt;
      state = inl (refl, refl, refl);
    }

    -- what is handed on isn't ahead any more
    pub handed : (front ahead behind : List ℕ) (now : Compared) (kept : Notes F ghosts × L)
        → IsHanded holds hears loses v limit max past reached first stops given (front ++ ahead) behind now kept
        → IsHanded holds hears loses v limit max past reached first stops (given ++ front) ahead behind now kept
    handed front ahead behind now kept g =
        let same = sym (append_assoc given front ahead) in record {
          before = g.before;
          well = g.well;
          mid = g.mid;
          goes = g.goes;
          compared = subst (λ (xs : List ℕ). HasHeard v limit max past reached xs g.before g.well) same g.compared;
          agreed = g.agreed;
          state = subst (λ (xs : List ℕ). IsOpen behind g.before now g.mid kept
              ⊎ HasStopped hears v limit max past reached stops xs behind now g.well g.mid kept) same g.state;
        }

    module _ (ahead : List ℕ) (now : Compared) (kept : Notes F ghosts × L)
        (g : IsHanded holds hears loses v limit max past reached first stops given ahead [] now kept) where
      open_is : IsOpen [] g.before now g.mid kept
      open_is = go g.state
        where
          go : IsOpen [] g.before now g.mid kept ⊎ HasStopped hears v limit max past reached stops (given ++ ahead) [] now g.well g.mid kept
              → IsOpen [] g.before now g.mid kept
          go (inl it) = it
          go (inr s) = absurd (none_before s.part s.rest s.some s.parts)

      pub compared_now : HasHeard v limit max past reached (given ++ ahead) now g.well
      compared_now = subst (λ x. HasHeard v limit max past reached (given ++ ahead) x g.well) (sym open_is.1) g.compared

      goes_now : Goes holds hears loses g.well first kept
      goes_now = subst (λ (x : Notes F ghosts × L). Goes holds hears loses g.well first x) (sym open_is.2) g.goes

      -- it goes on
      pub goes_on : (part : List ℕ) (next : Compared) (h : Told) (l : L) (new : Notes F ghosts × L)
          → IsCompared v limit max past reached ((given ++ ahead) ++ part) next (flat_map spoken g.well ++ spoken h)
          → (stops ≡ true → contradicts h.found ≡ false) → Tells hears h.found kept.1 l → KeepsTold holds loses h (kept.0, l) new
          → IsHanded holds hears loses v limit max past reached first stops given (ahead ++ part) [] next new
      goes_on part next h l new is whole tells keeps = record {
        before = next;
        well = g.well ++ h ∷ [];
        mid = new;
        goes = goes_push g.well h first kept l new goes_now tells keeps;
        compared = subst (λ (xs : List ℕ). HasHeard v limit max past reached xs next (g.well ++ h ∷ [])) (append_assoc given ahead part)
            (heard_push v limit max past reached ((given ++ ahead) ++ part) next g.well h is);
        agreed = λ asked. all_push g.well h (g.agreed asked) (whole asked);
        state = inl (refl, refl, refl);
      }

      -- a commit contradicts those before it, and it stops
      pub stops_here : (part rest : List ℕ) (next : Compared) (h : Told) (l : L) → 1 ≤ length part
          → IsCompared v limit max past reached ((given ++ ahead) ++ part) next (flat_map spoken g.well ++ spoken h) → stops ≡ true
          → contradicts h.found ≡ true → Tells hears h.found kept.1 l
          → IsHanded holds hears loses v limit max past reached first stops given ahead (part ++ rest) next (kept.0, l)
      stops_here part rest next h l some is asked breaks tells = record {
        before = now;
        well = g.well;
        mid = kept;
        goes = goes_now;
        compared = compared_now;
        agreed = g.agreed;
        state = inr (record {
          asked = asked;
          last = h;
          part = part;
          rest = rest;
          some = some;
          parts = refl;
          compared = heard_push v limit max past reached ((given ++ ahead) ++ part) next g.well h is;
          breaks = breaks;
          notes_are = refl;
          told = tells;
        });
      }

    -- before any byte came, where others had come up to another place
    pub reaches : (now new : Compared) (kept : Notes F ghosts × L) (more : ℕ) → given ≡ []
        → ((told : List Told) → IsCompared v limit max past reached [] now told → IsCompared v limit max past more [] new told)
        → IsHanded holds hears loses v limit max past reached first stops given [] [] now kept
        → IsHanded holds hears loses v limit max past more first stops given [] [] new kept
    reaches now new kept more none moves g =
        let heard : HasHeard v limit max past reached [] now g.well =
        subst (λ (xs : List ℕ). HasHeard v limit max past reached (xs ++ []) now g.well) none (compared_now [] now kept g) in
        record {
          before = new;
          well = g.well;
          mid = kept;
          goes = goes_now [] now kept g;
          compared = subst (λ (xs : List ℕ). HasHeard v limit max past more (xs ++ []) new g.well) (sym none)
              (moves (flat_map spoken g.well) heard);
          agreed = g.agreed;
          state = inl (refl, refl, refl);
        }

-- ---- the bytes of a piece

take_sum : (n m : ℕ) (xs : List ℕ) → take (n + m) xs ≡ take n xs ++ take m (drop n xs)
take_sum n m xs =
    sym (take-append-drop n (take (n + m) xs)) ∙ ap (λ (ys : List ℕ). ys ++ drop n (take (n + m) xs)) (take-take n (n + m) xs (omega arith))
    ∙ ap (λ (ys : List ℕ). take n xs ++ ys) (drop-take n m xs)

short_of : (k n : ℕ) (ys : List ℕ) → n ≤ length (take k ys) → n ≤ k
short_of k n ys h = omega (arith, h, length-take k ys)

module _ (taken n len : ℕ) (room piece : List ℕ) (is : piece ≡ take (len - taken) (drop taken room)) where
  -- it goes on behind the first bytes of a piece
  pub next_part : n ≤ length piece → take taken room ++ take n piece ≡ take (taken + n) room
  next_part le =
      let few : n ≤ len - taken = short_of (len - taken) n (drop taken room) (subst (λ (xs : List ℕ). n ≤ length xs) is le) in
      ap (λ (ys : List ℕ). take taken room ++ take n ys) is
      ∙ ap (λ (ys : List ℕ). take taken room ++ ys) (take-take n (len - taken) (drop taken room) few) ∙ sym (take_sum taken n room)

  -- or keeps them back, with all behind them
  pub rest_part : taken ≤ len → take n piece ++ drop n piece ≡ drop taken (take len room)
  rest_part le =
      let sum : taken + (len - taken) ≡ len = omega (arith, le) in
      take-append-drop n piece ∙ is ∙ sym (drop-take taken (len - taken) room) ∙ ap (λ k. drop taken (take k room)) sum

  pub some_part : 0 < n → n ≤ length piece → 1 ≤ length (take n piece)
  some_part some le = omega (arith, some, length-take-le n piece le)

-- ---- what is kept

pub both : (a b : Bool) → (a && b) ≡ true → (a ≡ true) × (b ≡ true)
both true true e = (refl, refl)
both true false e = absurd (true≢false (sym e))
both false b e = absurd (true≢false (sym e))

pub le_of : (a b : ℕ) → nat_le a b ≡ true → a ≤ b
le_of a b e = grind (arith, nat_tests)

pub not_both : (a b : Bool) → (a && b) ≡ false → a ≡ true → b ≡ false
not_both true b e is = e
not_both false b e is = absurd (true≢false (sym is))

le_is : (a b : ℕ) → a ≤ b → nat_le a b ≡ true
le_is a b h = grind (arith, nat_tests)

abbrev pub fits : List ℕ → ℕ → ℕ → Bool
fits room from to = nat_le from to && nat_le to (length room)

pub part_there : (room : List ℕ) (from to : ℕ) → fits room from to ≡ true → part_of room from to ≡ take (to - from) (drop from room)
part_there room from to e = ap (λ b. cond b (take (to - from) (drop from room)) []) e

pub part_none : (room : List ℕ) (from to : ℕ) → fits room from to ≡ false → part_of room from to ≡ []
part_none room from to e = ap (λ b. cond b (take (to - from) (drop from room)) []) e

pub fits_is : (room : List ℕ) (from to : ℕ) → from ≤ to → to ≤ length room → fits room from to ≡ true
fits_is room from to a b = rw (le_is from to a, le_is to (length room) b) refl

pub part_empty : (room : List ℕ) → part_of room 0 0 ≡ []
part_empty room = go (fits room 0 0)
  where
    go : (b : Bool) → cond b (take 0 (drop 0 room)) [] ≡ []
    go true = refl
    go false = refl

-- the bytes behind the first n
pub part_moves : (room : List ℕ) (from len n : ℕ) → n ≤ length (part_of room from len)
    → part_of room (from + n) len ≡ drop n (part_of room from len)
part_moves room from len n le = go (fits room from len) refl
  where
    there : fits room from len ≡ true → part_of room (from + n) len ≡ drop n (part_of room from len)
    there e =
        let two = both (nat_le from len) (nat_le len (length room)) e in
        let a = le_of from len two.0 in
        let b = le_of len (length room) two.1 in
        let few : n ≤ len - from = short_of (len - from) n (drop from room) (subst (λ (xs : List ℕ). n ≤ length xs) (part_there room
        from len e) le) in
        let sum : n + (len - (from + n)) ≡ len - from = omega (arith, a, few) in
        part_there room (from + n) len (fits_is room (from + n) len (omega (arith, a, few)) b)
        ∙ ap (λ (ys : List ℕ). take (len - (from + n)) ys) (sym (drop-drop n from room))
        ∙ sym (drop-take n (len - (from + n)) (drop from room)) ∙ ap (λ k. drop n (take k (drop from room))) sum
        ∙ ap (λ (ys : List ℕ). drop n ys) (sym (part_there room from len e))

    away : fits room from len ≡ false → part_of room (from + n) len ≡ drop n (part_of room from len)
    away e =
        let bound : n ≤ 0 = subst (λ (xs : List ℕ). n ≤ length xs) (part_none room from len e) le in
        let none : n ≡ 0 = omega (arith, bound) in
        let same : from + n ≡ from = omega (arith, none) in
        ap (λ k. part_of room k len) same ∙ sym (ap (λ k. drop k (part_of room from len)) none)

    go : (b : Bool) → fits room from len ≡ b → part_of room (from + n) len ≡ drop n (part_of room from len)
    go true e = there e
    go false e = away e

-- ---- what is handed on

module _ (room copied rest : List ℕ) (from safe len n : ℕ) (le : n ≤ length (part_of room from len)) (few : n ≤ safe - from)
    (same : copied ≡ take n (part_of room from len)) where
  handed_is : take n (copied ++ rest) ≡ take n (part_of room from len)
  handed_is =
      take_at copied rest n (ap (λ (xs : List ℕ). length xs) same ∙ length-take-le n (part_of room from len) le) ∙ same

  sum : safe - from ≡ n + (safe - (from + n))
  sum = omega (arith, few)

  pub kept_is : part_of room from len ≡ take n (copied ++ rest) ++ part_of room (from + n) len
  kept_is =
      sym (take-append-drop n (part_of room from len)) ∙ ap (λ (ys : List ℕ). ys ++ drop n (part_of room from len)) (sym handed_is)
      ∙ ap (λ (ys : List ℕ). take n (copied ++ rest) ++ ys) (sym (part_moves room from len n le))

  pub ahead_is : ahead_of room from safe len ≡ take n (copied ++ rest) ++ ahead_of room (from + n) safe len
  ahead_is =
      ap (λ k. take k (part_of room from len)) sum ∙ take_sum n (safe - (from + n)) (part_of room from len)
      ∙ ap (λ (ys : List ℕ). ys ++ take (safe - (from + n)) (drop n (part_of room from len))) (sym handed_is)
      ∙ ap (λ (ys : List ℕ). take n (copied ++ rest) ++ take (safe - (from + n)) ys) (sym (part_moves room from len n le))

  pub behind_is : behind_of room (from + n) safe len ≡ behind_of room from safe len
  behind_is =
      ap (λ (ys : List ℕ). drop (safe - (from + n)) ys) (part_moves room from len n le)
      ∙ drop-drop (safe - (from + n)) n (part_of room from len) ∙ ap (λ k. drop k (part_of room from len)) (sym sum)
