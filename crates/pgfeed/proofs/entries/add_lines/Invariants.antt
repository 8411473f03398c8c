use Rattle.std.proofs.Common.{◌≡◌, ◌++◌, ◌+◌, length, string_bytes}
use Rattle.std.specs.List.{AllByRecursion}
use Rattle.std.specs.Slice.Iter.{iter_rest}
use Rattle.std.specs.Iterator.Adapters.{enumerate_count, enumerate_source, zip_first, zip_second}
use Rattle.pgapply.specs.Works.{IsNumbered, change_values}
use Rattle.pgledger.specs.Images.{lines}
use Rattle.pgfeed.specs.Texts.{body_text, told_after}
use Rattle.pgfeed.proofs.Places.{LastStands}
use Rattle.pgfeed.proofs.entries.add_lines.Given as goal

abbrev pub invariant-loop-i : goal.invariant-loop-i
invariant-loop-i l = record {
  text : string_bytes l.piece.text ++ body_text (l.told ++ l.piece.told.items) (l.start + length (string_bytes l.piece.text))
      (l.count + enumerate_count l.i-iterator)
      (lines (change_values l.definitions (zip_first (enumerate_source l.i-iterator)))
      (iter_rest (zip_second (enumerate_source l.i-iterator))))
      ≡ string_bytes l.fn.begun.text
      ++ body_text (l.told ++ l.fn.begun.told.items) (l.start + length (string_bytes l.fn.begun.text)) l.count
      (lines (change_values l.definitions l.entries) l.images);
  told : told_after (l.told ++ l.piece.told.items) (l.start + length (string_bytes l.piece.text)) (l.count + enumerate_count l.i-iterator)
      (lines (change_values l.definitions (zip_first (enumerate_source l.i-iterator)))
      (iter_rest (zip_second (enumerate_source l.i-iterator))))
      ≡ told_after (l.told ++ l.fn.begun.told.items) (l.start + length (string_bytes l.fn.begun.text)) l.count
      (lines (change_values l.definitions l.entries) l.images);
  last : LastStands l.definitions (l.told ++ l.piece.told.items) l.last;
  numbered : AllByRecursion (IsNumbered l.definitions) (zip_first (enumerate_source l.i-iterator));
}
