-- Open transactions over a file: what becomes of all where one of them changes.
use Rattle.std.proofs.Common.{◌≡◌, ◌+◌, ◌≤◌, ℕ, Bool, true, false, List, [], ◌∷◌, ◌++◌, Option}
use Rattle.std.proofs.Common.{None, Some}
use Rattle.std.proofs.Common.{length, drop, cond, refl, sym, ap, subst, ◌∙◌, arith}
use Rattle.std.specs.Prelude.{nat_eq, option_map, Result, Ok, Err, IfOk}
use Rattle.std.specs.List.{slice_get}
use Rattle.std.specs.Map.{lookup}
use Rattle.std.specs.FinMap as map
use Rattle.std.proofs.lemmas.Option.{none-some, same_Some}
use Rattle.std.proofs.lemmas.Bool.Decides.{nat_tests}
use Rattle.pgspill.specs.declared.piece.Owner.{Owner}
use Rattle.pgspill.specs.declared.piece.Piece.{Piece}
use Rattle.pgspill.specs.Pieces.{StaysPiece}
use Rattle.pgspill.specs.Strands.{IsStrand, ArePieces, KeepsOthers, spilled_bytes, strand_bytes}
use Rattle.pgspill.proofs.Strands.{same_spilled}
use Rattle.pgspool.specs.declared.fault.SpoolFault.{SpoolFault}
use Rattle.pgspool.specs.Labels.{LabelledItem, HeldMap, held_of, costs}
use Rattle.pgspool.specs.Spooled.{IsCounted}
use Rattle.pgspool.proofs.HeldBy.{listed_entries, listed_there, listed_absent}
use Rattle.pgspool.proofs.OpenEntries.{spooled_of-put, spooled_of-taken, IsCounted-empty}
use Rattle.pgspool.proofs.OpenEntries.{IsCounted-insert}
use Rattle.pgspool.proofs.OpenEntries.{IsCounted-remove, held_there, held_absent, insert_back}
use Rattle.pgfilespools.specs.declared.file_items.FileItems.{FileItems}
use Rattle.pgfilespools.specs.Kept.{AreKept, items_kept}
use Rattle.pgfilespools.specs.Spooled.{Transactions, held_in_file, AreSpooled, FileSpooled, HasPart}
use Rattle.pgfilespools.proofs.Keeping.{same_items}

apart : (x y : ℕ) → nat_eq x y ≡ false → x ≡ y → ⊥
apart x y e = grind (arith, nat_tests)

one_key : (x y : ℕ) → nat_eq x y ≡ true → x ≡ y
one_key x y e = grind (arith, nat_tests)

-- ---- what is looked up

lookup-listed : (file : List ℕ) (entries : Transactions) (q : ℕ)
    → lookup (nat_eq q) (listed_entries (items_kept file) entries) ≡ option_map (items_kept file) (lookup (nat_eq q) entries)
lookup-listed file [] q = refl
lookup-listed file (e ∷ es) q =
    elim (nat_eq q e.0) as
    (λ b. cond b (Some (items_kept file e.1)) (lookup (nat_eq q) (listed_entries (items_kept file) es))
    ≡ option_map (items_kept file) (cond b (Some e.1) (lookup (nat_eq q) es))) [
      | true ↦ refl
      | false ↦ lookup-listed file es q
    ]

pub found_held : (file : List ℕ) (entries : Transactions) (xid : ℕ) (t : FileItems) → Some t ≡ lookup (nat_eq xid) entries
    → held_of (held_in_file file entries) xid ≡ items_kept file t
found_held file entries xid t found =
    held_there (listed_entries (items_kept file) entries) xid (items_kept file t) (listed_there (items_kept file) entries xid t found)

pub absent_held : (file : List ℕ) (entries : Transactions) (xid : ℕ) → None ≡ lookup (nat_eq xid) entries
    → held_of (held_in_file file entries) xid ≡ []
absent_held file entries xid none =
    held_absent (listed_entries (items_kept file) entries) xid (listed_absent (items_kept file) entries xid none)

pub nothing_spooled : (key : ℕ) (file : List ℕ) (owners : List (Option Owner)) (entries : Transactions) (most : ℕ) → entries ≡ []
    → AreSpooled key file owners entries 0 most
nothing_spooled key file owners entries most none = record {
  each = λ xid t found. absurd (none-some t (sym (found ∙ ap (lookup (nat_eq xid)) none)));
  counted = subst (λ (es : Transactions). IsCounted (held_in_file file es) 0 most) (sym none) (IsCounted-empty most);
}

-- the blocks of a transaction under its own number
pub own_others : (own xid key : ℕ) (file file' : List ℕ) (owners owners' : List (Option Owner)) → own ≡ xid
    → KeepsOthers own key file owners file' owners' → KeepsOthers xid key file owners file' owners'
own_others own xid key file file' owners owners' is keeps =
    subst (λ (x : ℕ). KeepsOthers x key file owners file' owners') is keeps

-- no block changed
pub all_stay : (xid key : ℕ) (file : List ℕ) (owners : List (Option Owner)) → KeepsOthers xid key file owners file owners
all_stay xid key file owners = λ owner p other is. record { is_piece = is; same = refl }

-- ---- the other transactions stay

module _ (xid key key' : ℕ) (file file' : List ℕ) (owners owners' : List (Option Owner))
    (keeps : KeepsOthers xid key file owners file' owners') (same_key : key' ≡ key) where
  other_stays : (t : FileItems) → (t.strand.xid ≡ xid → ⊥) → AreKept key file owners t
      → AreKept key' file' owners' t × (items_kept file' t ≡ items_kept file t)
  other_stays t other is =
      let at : (i : ℕ) (p : Piece) → slice_get t.strand.pieces.items i ≡ Some p
      → StaysPiece key file file' owners' (record { xid = t.strand.xid; place = i }) p =
      λ i p there. keeps (record { xid = t.strand.xid; place = i }) p other (is.strand.pieces i p there) in
      let spilled : spilled_bytes file' t.strand.pieces.items ≡ spilled_bytes file t.strand.pieces.items =
      same_spilled file file' t.strand.pieces.items (λ i p there. (at i p there).same) in
      let bytes : strand_bytes file' t.strand ≡ strand_bytes file t.strand =
      ap (λ (b : List ℕ). b ++ drop t.strand.start t.strand.tail.items) spilled in
      let pieces : ArePieces key file' owners' t.strand.xid t.strand.pieces.items = λ i p there. (at i p there).is_piece in
      let strand : IsStrand key' file' owners' t.strand = record {
        pieces = subst (λ (k : ℕ). ArePieces k file' owners' t.strand.xid t.strand.pieces.items) (sym same_key) pieces;
        spilled = is.strand.spilled ∙ ap length (sym spilled);
        start = is.strand.start;
      } in
      same_items key file owners t is key' file' owners' t strand bytes refl is.parts refl refl

  module _ (old new : Transactions) (bytes most : ℕ) (is : AreSpooled key file owners old bytes most) where
    another : (q : ℕ) (t : FileItems) → nat_eq xid q ≡ false → Some t ≡ lookup (nat_eq q) old
        → AreKept key' file' owners' t × (items_kept file' t ≡ items_kept file t)
    another q t e found = let each = is.each q t found in
        other_stays t (λ h. apart xid q e (sym h ∙ each.1)) each.0

    -- one is put
    module _ (t : FileItems) (looks : (q : ℕ) → lookup (nat_eq q) new ≡ cond (nat_eq xid q) (Some t) (lookup (nat_eq q) old))
        (kept : AreKept key' file' owners' t) (own : t.strand.xid ≡ xid) where
      put_each : (b : Bool) (q : ℕ) (u : FileItems) → nat_eq xid q ≡ b → Some u ≡ cond b (Some t) (lookup (nat_eq q) old)
          → AreKept key' file' owners' u × (u.strand.xid ≡ q)
      put_each true q u e found = let same : u ≡ t = same_Some u t found in (
        subst (λ (v : FileItems). AreKept key' file' owners' v) (sym same) kept,
        ap (λ (v : FileItems). v.strand.xid) same ∙ own ∙ one_key xid q e,
      )
      put_each false q u e found = ((another q u e found).0, (is.each q u found).1)

      put_one : (b : Bool) (q : ℕ) (o : Option FileItems) → nat_eq xid q ≡ b → o ≡ lookup (nat_eq q) old
          → option_map (items_kept file') (cond b (Some t) o) ≡ cond b (Some (items_kept file' t)) (option_map (items_kept file) o)
      put_one true q o e at = refl
      put_one false q None e at = refl
      put_one false q (Some u) e at = ap (λ (l : List LabelledItem). Some l) (another q u e at).1

      pub put_held : held_in_file file' new ≡ map.insert (held_in_file file old) xid (items_kept file' t)
      put_held = spooled_of-put (listed_entries (items_kept file) old) (listed_entries (items_kept file') new) xid
          (items_kept file' t) (λ q.
          lookup-listed file' new q ∙ ap (option_map (items_kept file')) (looks q)
          ∙ put_one (nat_eq xid q) q (lookup (nat_eq q) old) refl refl
          ∙ ap (cond (nat_eq xid q) (Some (items_kept file' t))) (sym (lookup-listed file old q)))

      pub put_spooled : (now : ℕ) → now + costs (held_of (held_in_file file old) xid) ≡ bytes + costs (items_kept file' t) → now ≤ most
          → AreSpooled key' file' owners' new now most
      put_spooled now change fits = record {
        each = λ q u found. put_each (nat_eq xid q) q u refl (found ∙ looks q);
        counted = subst (λ (h : HeldMap). IsCounted h now most) (sym put_held)
            (IsCounted-insert (held_in_file file old) bytes most xid (items_kept file' t) now is.counted change fits);
      }

      -- with the items that it had
      module _ (was : FileItems) (found : Some was ≡ lookup (nat_eq xid) old) (same : items_kept file' t ≡ items_kept file was) where
        pub back_held : held_in_file file' new ≡ held_in_file file old
        back_held = put_held ∙ ap (map.insert (held_in_file file old) xid) same
            ∙ insert_back (listed_entries (items_kept file) old) xid (items_kept file was)
            (listed_there (items_kept file) old xid was found)

        pub back_spooled : AreSpooled key' file' owners' new bytes most
        back_spooled =
            let change : costs (held_of (held_in_file file old) xid) ≡ costs (items_kept file' t) =
            ap costs (found_held file old xid was found ∙ sym same) in
            put_spooled bytes (ap (λ (n : ℕ). bytes + n) change) is.counted.within

    -- one is taken out
    module _ (looks : (q : ℕ) → lookup (nat_eq q) new ≡ cond (nat_eq xid q) None (lookup (nat_eq q) old)) where
      taken_each : (b : Bool) (q : ℕ) (u : FileItems) → nat_eq xid q ≡ b → Some u ≡ cond b None (lookup (nat_eq q) old)
          → AreKept key' file' owners' u × (u.strand.xid ≡ q)
      taken_each true q u e found = absurd (none-some u (sym found))
      taken_each false q u e found = ((another q u e found).0, (is.each q u found).1)

      taken_one : (b : Bool) (q : ℕ) (o : Option FileItems) → nat_eq xid q ≡ b → o ≡ lookup (nat_eq q) old
          → option_map (items_kept file') (cond b None o) ≡ cond b None (option_map (items_kept file) o)
      taken_one true q o e at = refl
      taken_one false q None e at = refl
      taken_one false q (Some u) e at = ap (λ (l : List LabelledItem). Some l) (another q u e at).1

      pub taken_held : held_in_file file' new ≡ map.remove (held_in_file file old) xid
      taken_held = spooled_of-taken (listed_entries (items_kept file) old) (listed_entries (items_kept file') new) xid (λ q.
          lookup-listed file' new q ∙ ap (option_map (items_kept file')) (looks q)
          ∙ taken_one (nat_eq xid q) q (lookup (nat_eq q) old) refl refl
          ∙ ap (cond (nat_eq xid q) None) (sym (lookup-listed file old q)))

      pub taken_spooled : (now : ℕ) → now + costs (held_of (held_in_file file old) xid) ≡ bytes → AreSpooled key' file' owners' new now most
      taken_spooled now change = record {
        each = λ q u found. taken_each (nat_eq xid q) q u refl (found ∙ looks q);
        counted = subst (λ (h : HeldMap). IsCounted h now most) (sym taken_held)
            (IsCounted-remove (held_in_file file old) bytes most xid now is.counted change);
      }

-- ---- what was read

pub read_same : (r : Result (List LabelledItem) SpoolFault) (a b : List LabelledItem) → a ≡ b → IfOk r (λ x. x ≡ a) → IfOk r (λ x. x ≡ b)
read_same (Ok x) a b e is = is ∙ e
read_same (Err f) a b e is = tt

pub read_all : (r : Result (List LabelledItem) SpoolFault) (n m : ℕ) → n ≡ m → IfOk r (λ x. length x ≡ n) → IfOk r (λ x. length x ≡ m)
read_all (Ok x) n m e is = is ∙ e
read_all (Err f) n m e is = tt

pub part_there : (s : FileSpooled) (p : ℕ × (ℕ × List LabelledItem)) (xid : ℕ) → s.part ≡ Some p → p.0 ≡ xid
    → HasPart s xid p.1.0 (length p.1.1 + p.1.0)
part_there s p xid is own = record {
  items = p.1.1;
  part = is ∙ ap (λ x. Some (x, p.1)) own;
  all = refl;
}
