use Rattle.std.proofs.Common.{◌≡◌, ◌≤◌, ◌++◌, ℕ, List, length, take}
use Rattle.pgfeed.specs.Folders.{HasNoMore}
use Rattle.pgfeed.proofs.segments.remove_all.Given as goal

abbrev pub invariant-removed : goal.invariant-removed
invariant-removed g l = record {
  within : l.left ≤ length l.bases;
  was_true : g.F.Folder.is_true l.folder → g.F.Folder.is_true l.fn.folder;
  places_are : g.F.Folder.is_true l.folder → (low : List ℕ) → g.F.Folder.places l.fn.folder ≡ low ++ l.bases
      → g.F.Folder.places l.folder ≡ low ++ take l.left l.bases;
  others : g.F.Folder.is_true l.folder → HasNoMore g.F.Folder.has l.fn.folder l.folder;
}

abbrev pub decreases-removed : goal.decreases-removed
decreases-removed g l = l.left
