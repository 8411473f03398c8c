-- Items that were read back, by their spans.
use Rattle.std.proofs.Common.{◌≡◌, ◌+◌, ◌-◌, ◌≤◌, ◌<◌, ℕ, suc, false, List, [], ◌∷◌, ◌++◌}
use Rattle.std.proofs.Common.{None, Some, take, drop, length, sym, refl, ap, subst, ◌∙◌, arith}
use Rattle.std.specs.Prelude.{Option, IfSome, is_some}
use Rattle.std.specs.List.{AllByRecursion}
use Rattle.std.proofs.lemmas.List.{map-append, drop-drop}
use Rattle.std.proofs.lemmas.Option.{none-some, same_Some}
use Rattle.pglogical.specs.declared.message.Item.{Item}
use Rattle.pglogical.specs.declared.message.Message.{Message}
use Rattle.pglogical.specs.declared.message.Message.TheVariants as message
use Rattle.pglogical.specs.Reading.{message_at}
use Rattle.pglogical.specs.Spelling.{IsSpellable, Says}
use Rattle.pgspool.specs.Labels.{LabelledItem}
use Rattle.pgspool.specs.Marks.{item_part, item_at_all, item_in}
use Rattle.pgfilespools.specs.declared.span.Span.{Span}
use Rattle.pgfilespools.specs.Stored.{stored_item, stored, number_at, spelled_at, size_at}
use Rattle.pgfilespools.specs.Stored.{spelling_at}
use Rattle.pgfilespools.specs.Stored.{first_at, others_at, items_in, IsStorable, AreItems}
use Rattle.pgfilespools.specs.Spans.{spelled_in, spanned, all_spanned, IsFirst, IsSpan, AreSpans}
use Rattle.pgfilespools.proofs.Reading.{spelling, stored-cons, spelling_is, others_are}
use Rattle.pgfilespools.proofs.Storing.{says_item, one_more}

-- what is read of a message is an item that can be written
pub spellable_part : (m : Message) (bytes : List ℕ) (read : Option Item) → Says false m bytes → read ≡ item_part m
    → IfSome read IsSpellable
spellable_part m bytes None says is = tt
spellable_part (message.Item xid item) bytes (Some i) says is =
    rw (same_Some i item is) (says_item (message.Item xid item) bytes xid item says refl).1
spellable_part (message.Begin lsn time xid) bytes (Some i) says is = absurd (none-some i (sym is))
spellable_part (message.Commit lsn end time) bytes (Some i) says is = absurd (none-some i (sym is))
spellable_part (message.Origin lsn name) bytes (Some i) says is = absurd (none-some i (sym is))
spellable_part (message.TypeName xid oid namespace name) bytes (Some i) says is = absurd (none-some i (sym is))
spellable_part (message.Logical xid transactional lsn prefix content) bytes (Some i) says is = absurd (none-some i (sym is))
spellable_part (message.StreamStart xid first) bytes (Some i) says is = absurd (none-some i (sym is))
spellable_part message.StreamStop bytes (Some i) says is = absurd (none-some i (sym is))
spellable_part (message.StreamCommit xid lsn end time) bytes (Some i) says is = absurd (none-some i (sym is))
spellable_part (message.StreamAbort xid label) bytes (Some i) says is = absurd (none-some i (sym is))

-- ---- the item behind an offset

module _ (bytes : List ℕ) (at : ℕ) (s : Span) (start : s.start ≡ at + 8) where
  behind : drop s.start bytes ≡ spelled_at (drop at bytes)
  behind = ap (λ n. drop n bytes) (start ∙ omega arith) ∙ sym (drop-drop 4 (at + 4) bytes) ∙ ap (drop 4) (sym (drop-drop 4 at bytes))

  pub first_here : s.subxid ≡ number_at (drop at bytes) → s.size ≡ size_at (drop at bytes) → IsFirst bytes (drop at bytes) s
  first_here label size =
      let long : (s.start + s.size) - s.start ≡ size_at (drop at bytes) = omega (arith, size) in
      record {
        label = label;
        spelled = λ i. take (long i) (behind i);
        others = sym (drop-drop s.size s.start bytes) ∙ (λ i. drop (size i) (behind i));
      }

pub spans_item : (bytes rest : List ℕ) (s : Span) → IsFirst bytes rest s → spanned bytes s ≡ first_at rest
spans_item bytes rest s is = λ i. (is.label i, item_in (is.spelled i))

-- what was decoded is an item
pub tested : (bytes spelled : List ℕ) (s : Span) (item : Item) → spelled ≡ spelled_in bytes s
    → Some item ≡ item_at_all (message_at false spelled) → s.start + s.size ≤ length bytes → IsSpan bytes s
tested bytes spelled s item same read within = record {
  within = within;
  read = ap is_some (sym (read ∙ ap (λ b. item_at_all (message_at false b)) same));
}

-- so is what was stored
pub next_of : (held : List LabelledItem) (n : ℕ) (bytes rest : List ℕ) (s : Span) → rest ≡ stored held → AllByRecursion IsStorable held
    → length held ≡ suc n → IsFirst bytes rest s → s.start + s.size ≤ length bytes
    → IsSpan bytes s × AreItems n (drop (s.start + s.size) bytes)
next_of [] n bytes rest s written storable all is within = absurd (omega arith)
next_of (l ∷ ls) n bytes rest s written storable all is within =
    let laid : rest ≡ stored_item l ++ stored ls = written ∙ stored-cons l ls in
    let spelled : spelled_in bytes s ≡ spelling l = is.spelled ∙ ap spelling_at laid ∙ spelling_is l (stored ls) storable.0 in (
      record {
        within = within;
        read = ap (λ b. is_some (item_at_all (message_at false b))) spelled ∙ ap (λ r. is_some (item_at_all r)) storable.0.readable;
      },
      record {
        held = ls;
        all = omega arith;
        written = is.others ∙ ap others_at laid ∙ others_are l (stored ls) storable.0;
        storable = storable.1;
      },
    )

pub next_item : (n : ℕ) (bytes rest : List ℕ) (s : Span) → AreItems (suc n) rest → IsFirst bytes rest s → s.start + s.size ≤ length bytes
    → IsSpan bytes s × AreItems n (drop (s.start + s.size) bytes)
next_item n bytes rest s are is within = next_of are.held n bytes rest s are.written are.storable are.all is within

-- ---- the items of all spans

spans_more : (bytes : List ℕ) (spans : List Span) (s : Span) → AreSpans bytes spans → IsSpan bytes s → AreSpans bytes (spans ++ s ∷ [])
spans_more bytes [] s all is = (is, tt)
spans_more bytes (x ∷ xs) s all is = (all.0, spans_more bytes xs s all.1 is)

-- one item more was read
pub one_span : (bytes : List ℕ) (count i at : ℕ) (spans spans' : List Span) (s : Span) → i < count
    → AreSpans bytes spans → all_spanned bytes spans ++ items_in (count - i) (drop at bytes) ≡ items_in count bytes
    → IsFirst bytes (drop at bytes) s → IsSpan bytes s → spans' ≡ spans ++ s ∷ []
    → (s.start + s.size ≤ length bytes) × AreSpans bytes spans'
    × (all_spanned bytes spans' ++ items_in (count - (i + 1)) (drop (s.start + s.size) bytes) ≡ items_in count bytes)
one_span bytes count i at spans spans' s lt all so_far first is pushed =
    let items : all_spanned bytes spans' ≡ all_spanned bytes spans ++ first_at (drop at bytes) ∷ [] =
    ap (all_spanned bytes) pushed ∙ map-append (spanned bytes) spans (s ∷ [])
    ∙ ap (λ l. all_spanned bytes spans ++ l ∷ []) (spans_item bytes (drop at bytes) s first) in (
      is.within,
      subst (AreSpans bytes) (sym pushed) (spans_more bytes spans s all is),
      one_more count i (drop at bytes) (drop (s.start + s.size) bytes) (all_spanned bytes spans) (all_spanned bytes spans')
          (items_in count bytes) lt so_far items first.others,
    )
