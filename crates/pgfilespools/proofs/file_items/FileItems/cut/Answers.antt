use Rattle.std.proofs.Common.{◌≡◌, ◌+◌, ◌-◌, sym, ap, subst, ◌∙◌, take}
use Rattle.std.specs.Prelude.{min}
use Rattle.pgspill.specs.Strands.{strand_bytes}
use Rattle.pgspool.specs.declared.first_place.FirstPlace.{FirstPlace}
use Rattle.pgspool.specs.Labels.{cut as cut_of, costs}
use Rattle.pgspool.proofs.FirstPlaceLemmas.{TellsCut}
use Rattle.pgspool.proofs.IndexLemmas.{tells_cut, cut_none}
use Rattle.pgfilespools.specs.declared.file_items.FileItems.{FileItems}
use Rattle.pgfilespools.specs.Parts.{AreParts}
use Rattle.pgfilespools.specs.Kept.{AreKept, items_kept}
use Rattle.pgfilespools.proofs.Keeping.{fewer_items, freed}
use Rattle.pgfilespools.proofs.file_items.FileItems.cut.Given.{Over}
use Rattle.pgfilespools.proofs.file_items.FileItems.cut.Goals.{In-Some, After-min-self}
use Rattle.pgfilespools.proofs.file_items.FileItems.cut.Goals as goal

pub returns-in_default-clause-held : goal.returns-in_default-clause-held
returns-in_default-clause-held g c = cut_none _ _ _ c.args.subxid c.requires.stored.index c.in_default.ensures.value

abbrev Tells : (g : Over) (c : In-Some g) → Type 0
Tells g c = TellsCut c.args.subxid (items_kept (g.D.Disk.seen c.args.blocks.now.disk) c.args.self.now) c.args.self.now.firsts.entries
    c.in-Some.index c.in-Some.first.now

tells : (g : Over) (c : In-Some g) → Tells g c
tells g c = tells_cut _ _ _ c.args.subxid c.in-Some.index _ c.in-Some.first.now c.requires.stored.index c.in-Some.ensures.value
    c.in-Some.ensures.index c.in-Some.ensures.entry

pub overflow_sub-freed : goal.overflow_sub-freed
overflow_sub-freed g c =
    let b = c.args.blocks.now in
    (freed b.key (g.D.Disk.seen b.disk) b.owners.items c.args.self.now c.requires c.args.subxid c.first.inside.bytes
    (ap (λ (f : FirstPlace). f.bytes) c.first.view_is ∙ (tells g (goal.at.overflow_sub-freed g c).In-Some).bytes)).0

abbrev kept_new : (g : Over) (c : After-min-self g) → FileItems
kept_new g c = record {
  strand = c.cut.new.self;
  firsts = c.truncate.new.self;
  parts = c.cut_parts.new.parts;
  count = c.min-self.result;
  bytes = c.first.inside.bytes;
}

after : (g : Over) (c : After-min-self g)
    → TellsCut c.args.subxid (items_kept (g.D.Disk.seen c.args.blocks.now.disk) c.args.self.now) c.args.self.now.firsts.entries
    c.in-Some.index c.in-Some.first.now
    → AreKept c.cut.new.blocks.key (g.D.Disk.seen c.cut.new.blocks.disk) c.cut.new.blocks.owners.items (kept_new g c)
    × (items_kept (g.D.Disk.seen c.cut.new.blocks.disk) (kept_new g c)
    ≡ cut_of c.args.subxid (items_kept (g.D.Disk.seen c.args.blocks.now.disk) c.args.self.now))
after g c t =
    let seen = g.D.Disk.seen in
    let b = c.args.blocks.now in
    let b' = c.cut.new.blocks in
    let sum = ap (λ (f : FirstPlace). f.bytes) c.first.view_is in
    let place = ap (λ (f : FirstPlace). f.place) c.first.view_is in
    fewer_items b.key (seen b.disk) b.owners.items c.args.self.now c.requires b'.key (seen b'.disk) b'.owners.items (kept_new g c)
    c.args.subxid c.in-Some.index c.in-Some.first.now t c.cut.ensures.strand
    (ap (λ d. strand_bytes (seen d) c.cut.new.self) c.cut.ensures.disk ∙ c.cut.ensures.bytes
    ∙ ap (λ n. take n (strand_bytes (seen b.disk) c.args.self.now.strand)) sum)
    c.truncate.ensures.entries
    (subst (λ n. AreParts (take n (items_kept (seen b.disk) c.args.self.now)) c.cut_parts.new.parts.items) place
    (c.cut_parts.ensures _ c.requires.parts))
    (c.min-self.ensures ∙ ap (min c.args.self.now.count) place)
    sum

pub returns-clause-held : goal.returns-clause-held
returns-clause-held g c =
    let a = goal.at.returns-clause-held g c in
    ap (λ d. items_kept (g.D.Disk.seen d) (kept_new g a.After-min-self)) (sym c.cut.ensures.disk)
    ∙ (after g a.After-min-self (tells g a.In-Some)).1

pub returns-clause-kept : goal.returns-clause-kept
returns-clause-kept g c =
    let a = goal.at.returns-clause-kept g c in
    (after g a.After-min-self (tells g a.In-Some)).0

pub returns-clause-freed : goal.returns-clause-freed
returns-clause-freed g c =
    let a = goal.at.returns-clause-freed g c in
    let b = c.args.blocks.now in
    ap (λ held. costs held + (c.args.self.now.bytes - c.first.inside.bytes))
    (ap (λ d. items_kept (g.D.Disk.seen d) (kept_new g a.After-min-self)) (sym c.cut.ensures.disk)
    ∙ (after g a.After-min-self (tells g a.In-Some)).1)
    ∙ (freed b.key (g.D.Disk.seen b.disk) b.owners.items c.args.self.now c.requires c.args.subxid c.first.inside.bytes
    (ap (λ (f : FirstPlace). f.bytes) c.first.view_is ∙ (tells g a.In-Some).bytes)).1
