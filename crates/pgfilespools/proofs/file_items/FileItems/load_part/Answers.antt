use Rattle.std.proofs.Common.{ap, ◌∙◌, arith}
use Rattle.pgspill.specs.Strands.{strand_bytes}
use Rattle.pgspool.specs.declared.first_place.FirstPlace.{FirstPlace}
use Rattle.pgfilespools.specs.Parts.{AreBounds}
use Rattle.pgfilespools.specs.Kept.{items_kept}
use Rattle.pgfilespools.proofs.Keeping.{count_is}
use Rattle.pgfilespools.proofs.Parting.{part_read, part_count}
use Rattle.pgfilespools.proofs.file_items.FileItems.load_part.Given.{Over}
use Rattle.pgfilespools.proofs.file_items.FileItems.load_part.Goals.{In-Some}
use Rattle.pgfilespools.proofs.file_items.FileItems.load_part.Goals as goal

bounds : (g : Over) (c : In-Some g)
    → AreBounds (items_kept (g.D.Disk.seen c.args.blocks.now.disk) c.args.self.now) c.args.from c.in-Some.part.first c.in-Some.part.last
bounds g c =
    let b = c.args.blocks.now in
    let file = g.D.Disk.seen b.disk in
    c.in-Some.ensures (items_kept file c.args.self.now)
    (c.end.ensures.place ∙ count_is b.key file b.owners.items c.args.self.now c.requires.kept)
    (c.end.ensures.bytes ∙ c.requires.kept.stored.index.counted)
    (rw c.as_slice.ensures.value c.requires.kept.parts)

pub overflow_sub-last-inside : goal.overflow_sub-last-inside
overflow_sub-last-inside g c =
    let order = (bounds g (goal.at.overflow_sub-last-inside g c).In-Some).order in
    omega (arith, ap (λ (p : FirstPlace). p.place) c.last.view_is)

pub returns-clause-read : goal.returns-clause-read
returns-clause-read g c clean =
    let file = g.D.Disk.seen c.args.blocks.now.disk in
    let t = c.args.self.now in
    part_read (items_kept file t) (strand_bytes file t.strand) t.firsts.entries t.bytes c.requires.kept.stored c.args.from
    c.in-Some.part.first c.in-Some.part.last (bounds g (goal.at.returns-clause-read g c).In-Some)
    c.in_ok-items.items _ c.last.inside.place c.first.inside.bytes c.last.inside.bytes
    (ap (λ (p : FirstPlace). p.place) c.last.view_is) (ap (λ (p : FirstPlace). p.bytes) c.first.view_is)
    (ap (λ (p : FirstPlace). p.bytes) c.last.view_is)
    c.in_ok-items.ensures.read (c.in_ok-bytes.ensures.read clean)

pub returns-clause-count : goal.returns-clause-count
returns-clause-count g c =
    part_count (items_kept (g.D.Disk.seen c.args.blocks.now.disk) c.args.self.now) c.args.from c.in-Some.part.first c.in-Some.part.last
    (bounds g (goal.at.returns-clause-count g c).In-Some) c.in_ok-items.items _ c.last.inside.place
    (ap (λ (p : FirstPlace). p.place) c.last.view_is) c.in_ok-items.ensures.read

pub returns-clause-within : goal.returns-clause-within
returns-clause-within g c =
    let b = c.args.blocks.now in
    let file = g.D.Disk.seen b.disk in
    let last = (bounds g (goal.at.returns-clause-within g c).In-Some).last.within in
    omega (
      arith,
      ap (λ (p : FirstPlace). p.place) c.last.view_is,
      count_is b.key file b.owners.items c.args.self.now c.requires.kept,
    )

pub returns-clause-some : goal.returns-clause-some
returns-clause-some g c below =
    let b = c.args.blocks.now in
    let file = g.D.Disk.seen b.disk in
    let count = count_is b.key file b.owners.items c.args.self.now c.requires.kept in
    let some = (bounds g (goal.at.returns-clause-some g c).In-Some).some (omega arith) in
    omega (arith, ap (λ (p : FirstPlace). p.place) c.last.view_is)
