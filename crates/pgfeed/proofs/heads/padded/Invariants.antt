use Rattle.std.proofs.Common.{◌≡◌, ◌++◌, ◌-◌, ◌<◌, length, replicate, string_bytes}
use Rattle.pgfeed.proofs.heads.padded.Given as goal

abbrev pub invariant-loop-text : goal.invariant-loop-text
invariant-loop-text l = record {
  padded : string_bytes l.text ++ replicate (l.size - 1 - length (string_bytes l.text)) 32 ≡ string_bytes l.initial.text
      ++ replicate (l.size - 1 - length (string_bytes l.initial.text)) 32;
  within : length (string_bytes l.text) < l.size;
}

abbrev pub decreases-loop-text : goal.decreases-loop-text
decreases-loop-text l = l.size - length (string_bytes l.text)
