-- Records that were noted one behind the other.
use Rattle.std.proofs.Common.{◌≡◌, ◌<◌, ◌∙◌, ◌+◌, ◌-◌, ℕ, take, get_or, suc, length, arith}
use Rattle.std.proofs.Common.{List, [], ◌∷◌, ◌++◌, refl, sym, ap, subst, map}
use Rattle.std.specs.List.{AllByRecursion}
use Rattle.std.proofs.lemmas.List.{map-append, take_more}
use Rattle.pgrepeats.specs.declared.commit.Commit.{Commit}
use Rattle.pgrepeats.specs.declared.past.Answer.{Answer}
use Rattle.pgrepeats.specs.declared.past.Past.{Past}
use Rattle.std.specs.Prelude.{None, Ok, Some, slice_get, unwrap_or, Option}
use Rattle.pgrepeats.specs.Past.{Answers}
use Rattle.pgpast.specs.declared.record.Record.{Record}
use Rattle.pgpast.specs.Loaded.{AreLinked, Follows, HearsAll, IsAt, IsChain, MayFollow}

all_push : (P : Record → Type 0) (rs : List Record) (r : Record) → AllByRecursion P rs → P r → AllByRecursion P (rs ++ r ∷ [])
all_push P [] r all is = (is, tt)
all_push P (s ∷ rs) r all is = (all.0, all_push P rs r all.1 is)

linked_push : (rs : List Record) (r : Record) → AreLinked rs → MayFollow rs r → AreLinked (rs ++ r ∷ [])
linked_push [] r linked may = tt
linked_push (s ∷ []) r linked may = (may, tt)
linked_push (s ∷ (t ∷ rs)) r linked may = (linked.0, linked_push (t ∷ rs) r linked.1 may)

pub chain_push : (bytes : List ℕ) (rs : List Record) (slot : ℕ) (r : Record) → IsChain bytes rs → IsAt bytes slot r → MayFollow rs r
    → IsChain bytes (rs ++ r ∷ [])
chain_push bytes rs slot r is at may = record {
  there = all_push (λ (s : Record). (k : ℕ) × IsAt bytes k s) rs r is.there (slot, at);
  linked = linked_push rs r is.linked may;
}

pub heard_push : (p mid new : Past) (cs : List Commit) (c : Commit) (a : Answer) → HearsAll p cs mid → Answers mid c new (Ok a)
    → HearsAll p (cs ++ c ∷ []) new
heard_push p mid new [] c a heard is = (new, a, subst (λ (q : Past). Answers q c new (Ok a)) heard is, refl)
heard_push p mid new (d ∷ cs) c a heard is = (heard.0, heard.1, heard.2, heard_push heard.0 mid new cs c a heard.3 is)

-- the last one of a list was noted behind a record
pub may_follow : (rs : List Record) (last older : Record) → Some last ≡ slice_get rs (length rs - 1) → Follows older last
    → MayFollow rs older
may_follow [] last older e f = tt
may_follow (s ∷ []) last older e f = subst (Follows older) (ap (λ (o : Option Record). unwrap_or o last) e) f
may_follow (s ∷ (t ∷ rs)) last older e f =
    let next : length (s ∷ (t ∷ rs)) - 1 ≡ suc (length (t ∷ rs) - 1) = omega arith in
    may_follow (t ∷ rs) last older (e ∙ ap (slice_get (s ∷ (t ∷ rs))) next) f

-- and only then
pub follows_last : (rs : List Record) (last older : Record) → Some last ≡ slice_get rs (length rs - 1) → MayFollow rs older
    → Follows older last
follows_last [] last older e may = absurd (none_there e)
  where
    none_there : Some last ≡ slice_get [] 0 → ⊥
    none_there e = let bad : Some last ≡ None = e in cc
follows_last (s ∷ []) last older e may = subst (Follows older) (sym (ap (λ (o : Option Record). unwrap_or o last) e)) may
follows_last (s ∷ (t ∷ rs)) last older e may =
    let next : length (s ∷ (t ∷ rs)) - 1 ≡ suc (length (t ∷ rs) - 1) = omega arith in
    follows_last (t ∷ rs) last older (e ∙ ap (slice_get (s ∷ (t ∷ rs))) next) may

abbrev pub commits_of : List Record → List Commit
commits_of rs = map (λ (r : Record). r.commit) rs

-- one of the records more is heard
pub heard_more : (p mid new : Past) (rs is : List Record) (i : ℕ) (d : Record) (a : Answer) → is ≡ rs → i < length is
    → HearsAll p (commits_of (take i rs)) mid → Answers mid (get_or is i d).commit new (Ok a)
    → HearsAll p (commits_of (take (i + 1) rs)) new
heard_more p mid new rs is i d a same lt heard answers =
    let more : commits_of (take (i + 1) is) ≡ commits_of (take i is) ++ (get_or is i d).commit ∷ [] =
    ap commits_of (take_more is i d lt) ∙ map-append (λ (r : Record). r.commit) (take i is) (get_or is i d ∷ []) in
    subst (λ cs. HearsAll p cs new) (sym (ap (λ xs. commits_of (take (i + 1) xs)) (sym same) ∙ more))
    (heard_push p mid new (commits_of (take i is)) (get_or is i d).commit a
    (subst (λ xs. HearsAll p (commits_of (take i xs)) mid) (sym same) heard) answers)
