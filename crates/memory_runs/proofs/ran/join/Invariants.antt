use Rattle.std.proofs.Common.{◌≡◌, map, take}
use Rattle.memory_runs.specs.Texts.{joined, length_of, texts_left}
use Rattle.memory_runs.proofs.ran.join.Given as goal

abbrev pub invariant-loop-slice : goal.invariant-loop-slice
invariant-loop-slice l = record {
  lengths : l.lengths.items ≡ map length_of (texts_left l.ran (take l.slice-index l.wanted));
  bytes : l.bytes ≡ joined (texts_left l.ran (take l.slice-index l.wanted));
}
