-- What survives of a streamed transaction, as if it came in a pair.
use Rattle.std.proofs.Common.{◌≡◌, ℕ, List, [], ◌∷◌, ◌++◌, Bool, true, false, cond, map}
use Rattle.std.proofs.Common.{Result, Ok, Err, refl, sym, ap, subst, ◌∙◌, append_assoc, append-nil}
use Rattle.std.specs.Prelude.{◌+◌}
use Rattle.pglogical.specs.Named.{named}
use Rattle.pglogical.specs.declared.message.RelationDef.{RelationDef}
use Rattle.pglogical.specs.declared.message.Item.{Item}
use Rattle.pglogical.specs.declared.message.Item.TheVariants as item
use Rattle.pgsub_core.specs.Server.Described.{relations_after, relation_of, described}
use Rattle.pgwatch.specs.Known.{is_known, with_known}
use Rattle.pgwatch.specs.declared.fault.Breach.{Breach}
use Rattle.pgwatch.specs.declared.fault.Breach.TheVariants as breach
use Rattle.pgwatch.specs.declared.noted.Noted.{Noted}
use Rattle.pgwatch.specs.declared.noted.What.{What}
use Rattle.pgwatch.specs.declared.noted.What.TheVariants as what
use Rattle.pgwatch.specs.declared.watch.Watch.{Watch}
use Rattle.pgwatch.specs.Hearing.{is_full, changed_by, what_of, replayed_as}
use Rattle.pgwatch.specs.Hearing.{replayed_one, replayed, then_watch}
use Rattle.pgwatched.specs.Nested.{whats}
use Rattle.pgwatched.proofs.Describing.{Knows, IsPair, knows_more, knows_again, pair_change}
use Rattle.pgwatched.proofs.Describing.{pair_relation, relations-push}

-- All but the relations and the pair that is under way is as it was.
pub record Alike (w u : Watch) : Type 0 where
  pub order : w.order ≡ u.order
  pub streams : w.streams ≡ u.streams
  pub start : w.facts.start ≡ u.facts.start
  pub last : w.facts.last_end ≡ u.facts.last_end
  pub told : w.facts.told ≡ u.facts.told

pub record Reads (w u : Watch) (earlier : List RelationDef) (items : List Item) : Type 0 where
  pub alike : Alike w u
  pub knows : Knows u.known (relations_after earlier items)
  pub pair : IsPair u.facts.missing u.facts.changes (described earlier items)

abbrev of_ok : Watch → Result Watch Breach → Watch
of_ok w (Ok x) = x
of_ok w (Err b) = w

abbrev of_err : Breach → Result Watch Breach → Breach
of_err b (Ok x) = b
of_err b (Err e) = e

abbrev done : Watch → Result Watch Breach
done w = Ok w

itself : (w : Watch) → Alike w w
itself w = record { order = refl; streams = refl; start = refl; last = refl; told = refl }

module _ (at : ℕ) (earlier : List RelationDef) where
  module _ (w u : Watch) (items : List Item) (k : Knows w.known (relations_after earlier items))
      (p : IsPair w.facts.missing w.facts.changes (described earlier items)) where
    relation_read : (def : RelationDef) (there full : Bool) → is_known def.oid w.known ≡ there
        → cond there (Ok w) (cond full (Err (breach.Full at)) (Ok (record w { known = with_known def.oid w.known; held = w.held + 1 })))
        ≡ Ok u
        → Reads w u earlier (items ++ item.Relation def ∷ [])
    relation_read def true full is e =
        subst (λ (u : Watch). Reads w u earlier (items ++ item.Relation def ∷ [])) (ap (of_ok w) e) (record {
          alike = itself w;
          knows = subst (Knows w.known) (sym (relations-push earlier items (item.Relation def)))
              (knows_again w.known (relations_after earlier items) def k is);
          pair = pair_relation w.facts.missing w.facts.changes earlier items def p;
        })
    relation_read def false true is e = absurd (cc)
    relation_read def false false is e =
        subst (λ (u : Watch). Reads w u earlier (items ++ item.Relation def ∷ [])) (ap (of_ok w) e) (record {
          alike = record { order = refl; streams = refl; start = refl; last = refl; told = refl };
          knows = subst (Knows (with_known def.oid w.known)) (sym (relations-push earlier items (item.Relation def)))
              (knows_more w.known (relations_after earlier items) def k);
          pair = pair_relation w.facts.missing w.facts.changes earlier items def p;
        })

    change_read : (cause : ℕ) (i : Item) → relation_of i (relations_after earlier items) ≡ relations_after earlier items
        → done (changed_by w cause (named i)) ≡ Ok u → Reads w u earlier (items ++ i ∷ [])
    change_read cause i same e =
        subst (λ (u : Watch). Reads w u earlier (items ++ i ∷ [])) (ap (of_ok w) e) (record {
          alike = record { order = refl; streams = refl; start = refl; last = refl; told = refl };
          knows = subst (Knows w.known) (sym (relations-push earlier items i ∙ same)) k;
          pair = pair_change cause w.facts.missing w.facts.changes w.known earlier items i k p;
        })

    one_read : (cause : ℕ) (i : Item) → replayed_as w at cause (what_of i) ≡ Ok u → Reads w u earlier (items ++ i ∷ [])
    one_read cause (item.Relation def) e = relation_read def (is_known def.oid w.known) (is_full w) refl e
    one_read cause (item.Insert oid row) e = change_read cause (item.Insert oid row) refl e
    one_read cause (item.Update oid prior row) e = change_read cause (item.Update oid prior row) refl e
    one_read cause (item.Delete oid kind row) e = change_read cause (item.Delete oid kind row) refl e
    one_read cause (item.Truncate options oids) e = change_read cause (item.Truncate options oids) refl e

  then_alike : (w v u : Watch) → Alike w v → Alike v u → Alike w u
  then_alike w v u a b = record {
    order = a.order ∙ b.order;
    streams = a.streams ∙ b.streams;
    start = a.start ∙ b.start;
    last = a.last ∙ b.last;
    told = a.told ∙ b.told;
  }

  then_read : (x : Noted) (xs : List Noted) (i : Item) (sv items : List Item) (w u : Watch)
      → Knows w.known (relations_after earlier items) → IsPair w.facts.missing w.facts.changes (described earlier items)
      → (r : Result Watch Breach) → replayed_as w at x.at (what_of i) ≡ r
      → ((v : Watch) → Reads w v earlier (items ++ i ∷ []) → replayed v at xs ≡ Ok u → Reads v u earlier ((items ++ i ∷ []) ++ sv))
      → then_watch r (λ new. replayed new at xs) ≡ Ok u → Reads w u earlier (items ++ i ∷ sv)
  then_read x xs i sv items w u k p (Err b) is rest e = absurd (cc)
  then_read x xs i sv items w u k p (Ok v) is rest e =
      let one = one_read w v items k p x.at i is in
      let all = rest v one e in
      subst (Reads w u earlier) (append_assoc items (i ∷ []) sv)
      (record { alike = then_alike w v u one.alike all.alike; knows = all.knows; pair = all.pair })

  pub all_read : (xs : List Noted) (sv items : List Item) (w u : Watch) → map what_of sv ≡ whats xs
      → Knows w.known (relations_after earlier items) → IsPair w.facts.missing w.facts.changes (described earlier items)
      → replayed w at xs ≡ Ok u → Reads w u earlier (items ++ sv)
  all_read [] [] items w u same k p e =
      subst (λ (u : Watch). Reads w u earlier (items ++ [])) (ap (of_ok w) e)
      (subst (Reads w w earlier) (sym (append-nil items)) (record { alike = itself w; knows = k; pair = p }))
  all_read [] (i ∷ sv) items w u same k p e = absurd (cc)
  all_read (x ∷ xs) [] items w u same k p e = absurd (cc)
  all_read (x ∷ xs) (i ∷ sv) items w u same k p e =
      let first : what_of i ≡ x.what = cc in
      let rest : map what_of sv ≡ whats xs = cc in
      then_read x xs i sv items w u k p (replayed_as w at x.at (what_of i)) refl
      (λ v one e. all_read xs sv (items ++ i ∷ []) v u rest one.knows one.pair e)
      (subst (λ h. then_watch (replayed_as w at x.at h) (λ new. replayed new at xs) ≡ Ok u) (sym first) e)

-- ---- what it leaves, and why it ends

relation_alike : (w u : Watch) (at oid : ℕ) (there full : Bool)
    → cond there (Ok w) (cond full (Err (breach.Full at)) (Ok (record w { known = with_known oid w.known; held = w.held + 1 }))) ≡ Ok u
    → Alike w u
relation_alike w u at oid true full e = subst (Alike w) (ap (of_ok w) e) (itself w)
relation_alike w u at oid false true e = absurd (cc)
relation_alike w u at oid false false e =
    subst (Alike w) (ap (of_ok w) e) (record { order = refl; streams = refl; start = refl; last = refl; told = refl })

one_alike : (w u : Watch) (at cause : ℕ) (h : What) → replayed_as w at cause h ≡ Ok u → Alike w u
one_alike w u at cause (what.Relation oid) e = relation_alike w u at oid (is_known oid w.known) (is_full w) e
one_alike w u at cause (what.Change oid) e =
    subst (Alike w) (ap (of_ok w) e) (record { order = refl; streams = refl; start = refl; last = refl; told = refl })
one_alike w u at cause (what.Truncate oids) e =
    subst (Alike w) (ap (of_ok w) e) (record { order = refl; streams = refl; start = refl; last = refl; told = refl })
one_alike w u at cause what.Abort e = subst (Alike w) (ap (of_ok w) e) (itself w)

pub all_alike : (xs : List Noted) (w u : Watch) (at : ℕ) → replayed w at xs ≡ Ok u → Alike w u
all_alike [] w u at e = subst (Alike w) (ap (of_ok w) e) (itself w)
all_alike (x ∷ xs) w u at e = go (replayed_one w at x) refl e (λ v rest. all_alike xs v u at rest)
  where
    go : (r : Result Watch Breach) → replayed_one w at x ≡ r → then_watch r (λ new. replayed new at xs) ≡ Ok u
        → ((v : Watch) → replayed v at xs ≡ Ok u → Alike v u) → Alike w u
    go (Err b) is e rest = absurd (cc)
    go (Ok v) is e rest =
        let a = one_alike w v at x.at x.what is in
        let b = rest v e in record {
          order = a.order ∙ b.order;
          streams = a.streams ∙ b.streams;
          start = a.start ∙ b.start;
          last = a.last ∙ b.last;
          told = a.told ∙ b.told;
        }

relation_full : (w : Watch) (b : Breach) (at oid : ℕ) (there full : Bool)
    → cond there (Ok w) (cond full (Err (breach.Full at)) (Ok (record w { known = with_known oid w.known; held = w.held + 1 }))) ≡ Err b
    → breach.Full at ≡ b
relation_full w b at oid true full e = absurd (cc)
relation_full w b at oid false true e = ap (of_err b) e
relation_full w b at oid false false e = absurd (cc)

pub full_only : (xs : List Noted) (w : Watch) (b : Breach) (at : ℕ) → replayed w at xs ≡ Err b → breach.Full at ≡ b
full_only [] w b at e = absurd (cc)
full_only (x ∷ xs) w b at e = go x.what (replayed_one w at x) refl e (λ v rest. full_only xs v b at rest)
  where
    one : (h : What) (b : Breach) → replayed_as w at x.at h ≡ Err b → breach.Full at ≡ b
    one (what.Relation oid) b e = relation_full w b at oid (is_known oid w.known) (is_full w) e
    one (what.Change oid) b e = absurd (cc)
    one (what.Truncate oids) b e = absurd (cc)
    one what.Abort b e = absurd (cc)

    go : (h : What) (r : Result Watch Breach) → replayed_one w at x ≡ r → then_watch r (λ new. replayed new at xs) ≡ Err b
        → ((v : Watch) → replayed v at xs ≡ Err b → breach.Full at ≡ b) → breach.Full at ≡ b
    go h (Err why) is e rest = one x.what why is ∙ ap (of_err why) e
    go h (Ok v) is e rest = rest v e
