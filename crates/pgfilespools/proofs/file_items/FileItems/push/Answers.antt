use Rattle.std.proofs.Common.{◌≡◌, ◌+◌, ◌++◌, ℕ, List, refl, ap, ◌∙◌, rules}
use Rattle.std.specs.Prelude.{Option}
use Rattle.pgtuple.proofs.Appending.{on_err}
use Rattle.pgspill.specs.declared.piece.Owner.{Owner}
use Rattle.pgspill.specs.Strands.{strand_bytes}
use Rattle.pgspool.specs.Labels.{cost}
use Rattle.pgspool.specs.FirstPlaces.{noted}
use Rattle.pgfilespools.specs.declared.file_items.FileItems.{FileItems}
use Rattle.pgfilespools.specs.Parts.{AreParts}
use Rattle.pgfilespools.specs.Kept.{AreKept, items_kept}
use Rattle.pgfilespools.proofs.Keeping.{count_is, same_items, more_items}
use Rattle.pgfilespools.proofs.file_items.FileItems.push.Goals.{After-note_part}
use Rattle.pgfilespools.proofs.file_items.FileItems.push.Goals as goal

parts_are : (c : After-note_part) (key : ℕ) (file : List ℕ) (owners : List (Option Owner)) → AreKept key file owners c.args.self.now
    → AreParts (items_kept file c.args.self.now) c.note_part.new.parts.items
parts_are c key file owners is =
    c.note_part.ensures (items_kept file c.args.self.now) (c.end-first.ensures.place ∙ count_is key file owners c.args.self.now is)
    (c.end-first.ensures.bytes ∙ is.stored.index.counted) is.parts

pub returns-in_err-note_part-clause-err : goal.returns-in_err-note_part-clause-err
returns-in_err-note_part-clause-err c =
    let a = (goal.at.returns-in_err-note_part-clause-err c).After-note_part in
    on_err c.from_residual-in_err-note_part.result
    (λ key file owners is.
    let new : FileItems = record c.args.self.now { firsts = c.reserve.new.self; parts = c.note_part.new.parts } in
    let r = same_items key file owners c.args.self.now is key file owners new is.strand refl (search rules)
    (parts_are a key file owners is) refl refl in
    record { kept = r.0; same = r.1 })

pub returns-in_err-append-clause-err : goal.returns-in_err-append-clause-err
returns-in_err-append-clause-err c =
    let a = (goal.at.returns-in_err-append-clause-err c).After-note_part in
    on_err c.from_residual-in_err-append.result
    (λ key file owners is.
    let e = c.in_err-append.ensures in
    let new = c.append.new.self in
    let r = same_items key file owners c.args.self.now is key file owners new (e.strand key file owners is.strand) (e.err file)
    (search rules)
    (rw e.parts (parts_are a key file owners is)) e.count e.bytes in
    record { kept = r.0; same = r.1 })

pub returns-clause-ok : goal.returns-clause-ok
returns-clause-ok c key file owners is =
    let a = (goal.at.returns-clause-ok c).After-note_part in
    let e = c.in_ok-append.ensures in
    let new = c.append.new.self in
    let firsts : c.note_first.new.firsts.entries
    ≡ noted c.args.self.now.firsts.entries c.args.subxid (record { place = c.args.self.now.count; bytes = c.args.self.now.bytes }) =
    search rules in
    let count : c.in-Some.count ≡ c.args.self.now.count + 1 = search rules in
    let sum : new.bytes + c.args.bytes ≡ c.args.self.now.bytes + cost c.args.item.now = search rules in
    let bytes = e.ok file
    ∙ ap (λ b. strand_bytes file c.args.self.now.strand ++ b) (c.as_slice.ensures.value ∙ c.in_ok-write_item.ensures.bytes) in
    let r = more_items key file owners c.args.self.now is _ c.args.subxid c.args.item.now (e.strand key file owners is.strand) bytes firsts
    (rw e.parts (parts_are a key file owners is)) count sum c.requires.spellable c.in_ok-write_item.ensures.storable in
    record { kept = r.0; added = r.1 }
