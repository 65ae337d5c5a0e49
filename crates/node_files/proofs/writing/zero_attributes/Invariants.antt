use Rattle.std.proofs.Common.{◌≡◌, [], ◌∷◌, replicate}
use Rattle.node_files.proofs.writing.zero_attributes.Given as goal

abbrev pub invariant-loop : goal.invariant-loop
invariant-loop l = l.attributes ≡ replicate l.counter (48 ∷ [])
