use Rattle.std.proofs.Common.{◌∙◌, sym, ap, subst}
use Rattle.pglogical.specs.declared.message.Item.{Item}
use Rattle.pglogical.specs.BorrowedItems.{def_value, item_value}
use Rattle.pglogical.specs.Spelling.{IsSpellable, IsWire}
use Rattle.pglogical.proofs.TypedItems.{columns_fit}
use Rattle.pglogical.proofs.message_ref.ItemRef.fits_wire.Goals as goal

pub returns-in-Relation : goal.returns-in-Relation
returns-in-Relation c =
    let def = def_value c.in-Relation.def in
    subst (λ (i : Item). IsSpellable i → IsWire i) (sym (ap item_value c.in-Relation.is) ∙ c.parts.ensures)
    (λ h. (
      c.show_number.ensures,
      record { plain = h.namespace; utf8 = c.show_name.ensures },
      record { plain = h.name; utf8 = c.show_name-in-Relation.ensures },
      h.letter,
      h.count,
      columns_fit def.columns h.names c.show_columns.ensures,
    ))

pub returns-in-Insert : goal.returns-in-Insert
returns-in-Insert c = subst (λ (i : Item). IsSpellable i → IsWire i) (sym (ap item_value c.in-Insert.is) ∙ c.parts.ensures)
    (λ _h. (c.show_number-in-Insert.ensures, c.fits_wire.ensures))

pub returns-in-Update : goal.returns-in-Update
returns-in-Update c = subst (λ (i : Item). IsSpellable i → IsWire i) (sym (ap item_value c.in-Update.is) ∙ c.parts.ensures)
    (λ _h. (c.show_number-in-Update.ensures, c.show_prior.ensures, c.fits_wire-in-Update.ensures))

pub returns-in-Delete : goal.returns-in-Delete
returns-in-Delete c = subst (λ (i : Item). IsSpellable i → IsWire i) (sym (ap item_value c.in-Delete.is) ∙ c.parts.ensures)
    (λ _h. (c.show_number-in-Delete.ensures, c.fits_wire-in-Delete.ensures))

pub returns-in-Truncate : goal.returns-in-Truncate
returns-in-Truncate c = subst (λ (i : Item). IsSpellable i → IsWire i) (sym (ap item_value c.in-Truncate.is) ∙ c.parts.ensures)
    (λ h. (h.0, h.1, c.show_oids.ensures))
