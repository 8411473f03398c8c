-- What a watch keeps of the streamed transactions that are open.
use Rattle.std.proofs.Common.{◌≡◌, ℕ, List, [], ◌∷◌, ◌++◌, Bool, true, false, cond, ◌||◌, ◌&&◌}
use Rattle.std.proofs.Common.{not, eqb, map, refl, sym, ap}
use Rattle.std.proofs.Common.{subst, ◌∙◌, arith, append-nil}
use Rattle.std.proofs.lemmas.List.{map-append}
use Rattle.std.proofs.lemmas.Bool.Decides.{nat_tests}
use Rattle.pglogical.specs.declared.message.Message.{Message}
use Rattle.pgorder.specs.OpenXids.{OpenXids, is_open, with_open, without}
use Rattle.pgorder.specs.OpenXids.{is_open-with_open, is_open-without, open_without}
use Rattle.pgwatch.specs.declared.noted.Noted.{Noted}
use Rattle.pgwatch.specs.Nesting.{of_xid, without_xid}
use Rattle.pgsub_core.specs.Server.Streamed.{StreamedItem}
use Rattle.pgsub_core.specs.Server.Stream.{streamed_since_first_segment}
use Rattle.pgwatched.specs.Nested.{mark, marks}

-- but for its transaction and its frame
abbrev pub erase : Noted → Noted
erase x = record { xid = 0; subxid = x.subxid; at = 0; what = x.what }

abbrev pub erased : List Noted → List Noted
erased xs = map erase xs

-- Of each open transaction what came since its first block, of others nothing.
pub record Keeps (streams : List Noted) (o : OpenXids) (before : List Message) : Type 0 where
  pub of_open : (x : ℕ) → is_open x o ≡ true → erased (of_xid x streams) ≡ marks (streamed_since_first_segment x before)
  pub of_others : (x : ℕ) → is_open x o ≡ false → of_xid x streams ≡ []

-- ---- lists of what is kept

of_xid-append : (x : ℕ) (a b : List Noted) → of_xid x (a ++ b) ≡ of_xid x a ++ of_xid x b
of_xid-append x [] b = refl
of_xid-append x (n ∷ a) b =
    elim (eqb n.xid x) as
    (λ t. cond t (n ∷ of_xid x (a ++ b)) (of_xid x (a ++ b)) ≡ cond t (n ∷ of_xid x a) (of_xid x a) ++ of_xid x b) [
      | true ↦ ap (λ r. n ∷ r) (of_xid-append x a b)
      | false ↦ of_xid-append x a b
    ]

pub same_number : (x y : ℕ) → eqb x y ≡ true → x ≡ y
same_number x y e = grind (arith, nat_tests)

abbrev nothing : List Noted
nothing = []

of_without : (y x : ℕ) (s : List Noted) → of_xid x (without_xid y s) ≡ cond (eqb y x) [] (of_xid x s)
of_without y x [] = elim (eqb y x) as (λ t. nothing ≡ cond t nothing nothing) [ true ↦ refl | false ↦ refl ]
of_without y x (n ∷ s) =
    elim (eqb n.xid y) as (λ t. eqb n.xid y ≡ t
    → of_xid x (cond (not t) (n ∷ without_xid y s) (without_xid y s)) ≡ cond (eqb y x) [] (of_xid x (n ∷ s))) [
      | true ↦ λ is. of_without y x s ∙ gone is
      | false ↦ λ isnt. ap (λ r. cond (eqb n.xid x) (n ∷ r) r) (of_without y x s) ∙ stays isnt
    ] refl
  where
    gone : eqb n.xid y ≡ true → cond (eqb y x) [] (of_xid x s) ≡ cond (eqb y x) [] (of_xid x (n ∷ s))
    gone is =
        subst (λ z. cond (eqb z x) [] (of_xid x s) ≡ cond (eqb z x) [] (of_xid x (n ∷ s))) (same_number n.xid y is)
        (elim (eqb n.xid x) as
        (λ t. cond t [] (of_xid x s) ≡ cond t [] (cond t (n ∷ of_xid x s) (of_xid x s))) [ true ↦ refl | false ↦ refl ])

    stays : eqb n.xid y ≡ false
        → cond (eqb n.xid x) (n ∷ cond (eqb y x) [] (of_xid x s)) (cond (eqb y x) [] (of_xid x s)) ≡ cond (eqb y x) [] (of_xid x (n ∷ s))
    stays isnt =
        elim (eqb y x) as (λ t. eqb y x ≡ t
        → cond (eqb n.xid x) (n ∷ cond t [] (of_xid x s)) (cond t [] (of_xid x s)) ≡ cond t [] (of_xid x (n ∷ s))) [
          | true ↦ λ same. let it : y ≡ x = same_number y x same in
              ap (λ b. cond b (n ∷ []) []) (subst (λ z. eqb n.xid z ≡ false) it isnt)
          | false ↦ λ _. refl
        ] refl

-- ---- one message more

module _ (s : List Noted) (o : OpenXids) (before : List Message) (k : Keeps s o before) (m : Message) where
  pub unchanged : ((x : ℕ) → streamed_since_first_segment x (m ∷ before) ≡ streamed_since_first_segment x before) → Keeps s o (m ∷ before)
  unchanged same = record {
    of_open = λ x is. k.of_open x is ∙ ap marks (sym (same x));
    of_others = k.of_others;
  }

  -- a transaction opens
  pub opens : (y : ℕ) → is_open y o ≡ false
      → ((x : ℕ) → streamed_since_first_segment x (m ∷ before) ≡ cond (eqb y x) [] (streamed_since_first_segment x before))
      → Keeps s (with_open y o) (m ∷ before)
  opens y new same = record {
    of_open = λ x is.
        elim (eqb y x) as (λ b. eqb y x ≡ b → (b || is_open x o) ≡ true
        → erased (of_xid x s) ≡ marks (cond b [] (streamed_since_first_segment x before))) [
          | true ↦ λ it _. ap erased (k.of_others x (subst (λ z. is_open z o ≡ false) (same_number y x it) new))
          | false ↦ λ _ is. k.of_open x is
        ] refl (sym (is_open-with_open x y o) ∙ is) ∙ ap marks (sym (same x));
    of_others = λ x isnt. k.of_others x (right_of (eqb y x) (is_open x o) (sym (is_open-with_open x y o) ∙ isnt));
  }
    where
      right_of : (a b : Bool) → (a || b) ≡ false → b ≡ false
      right_of true b e = absurd (cc)
      right_of false b e = e

  -- an open transaction closes
  pub closes : (y : ℕ)
      → ((x : ℕ) → eqb y x ≡ false → streamed_since_first_segment x (m ∷ before) ≡ streamed_since_first_segment x before)
      → Keeps (without_xid y s) (without y o) (m ∷ before)
  closes y same = record {
    of_open = λ x is.
        let both = open_without x y o is in
        ap erased (of_without y x s ∙ ap (λ b. cond b [] (of_xid x s)) both.1) ∙ k.of_open x both.0 ∙ ap marks (sym (same x both.1));
    of_others = λ x isnt. of_without y x s
        ∙ (elim (eqb y x) as (λ b. (not b && is_open x o) ≡ false → cond b [] (of_xid x s) ≡ []) [
          | true ↦ λ _. refl
          | false ↦ λ isnt. k.of_others x isnt
        ] (sym (is_open-without x y o) ∙ isnt));
  }

  -- an item or an abort of an open transaction is kept
  pub notes : (y : ℕ) → is_open y o ≡ true → (new : Noted) (e : StreamedItem) → new.xid ≡ y → erase new ≡ mark e
      → ((x : ℕ) → streamed_since_first_segment x (m ∷ before)
      ≡ cond (eqb y x) (streamed_since_first_segment x before ++ e ∷ []) (streamed_since_first_segment x before))
      → Keeps (s ++ new ∷ []) o (m ∷ before)
  notes y is new e its marked same = record {
    of_open = λ x open_is.
        ap erased (of_xid-append x s (new ∷ [])) ∙ map-append erase (of_xid x s) (of_xid x (new ∷ []))
        ∙ ap (λ r. r ++ erased (of_xid x (new ∷ []))) (k.of_open x open_is)
        ∙ one x ∙ ap marks (sym (same x));
    of_others = λ x isnt. of_xid-append x s (new ∷ []) ∙ ap (λ r. r ++ of_xid x (new ∷ [])) (k.of_others x isnt)
        ∙ ap (λ z. cond (eqb z x) (new ∷ []) []) its ∙ ap (λ b. cond b (new ∷ []) []) (other x isnt);
  }
    where
      other : (x : ℕ) → is_open x o ≡ false → eqb y x ≡ false
      other x isnt =
          elim (eqb y x) as (λ b. eqb y x ≡ b → b ≡ false) [
            | true ↦ λ it. absurd (let no : is_open x o ≡ true = subst (λ z. is_open z o ≡ true) (same_number y x it) is in cc)
            | false ↦ λ _. refl
          ] refl

      one : (x : ℕ) → marks (streamed_since_first_segment x before) ++ erased (of_xid x (new ∷ []))
          ≡ marks (cond (eqb y x) (streamed_since_first_segment x before ++ e ∷ []) (streamed_since_first_segment x before))
      one x =
          ap (λ z. marks (streamed_since_first_segment x before) ++ erased (cond (eqb z x) (new ∷ []) [])) its
          ∙ (elim (eqb y x) as
          (λ b. marks (streamed_since_first_segment x before) ++ erased (cond b (new ∷ []) [])
          ≡ marks (cond b (streamed_since_first_segment x before ++ e ∷ []) (streamed_since_first_segment x before))) [
            | true ↦ ap (λ r. marks (streamed_since_first_segment x before) ++ r ∷ []) marked
                ∙ sym (map-append mark (streamed_since_first_segment x before) (e ∷ []))
            | false ↦ append-nil (marks (streamed_since_first_segment x before))
          ])
