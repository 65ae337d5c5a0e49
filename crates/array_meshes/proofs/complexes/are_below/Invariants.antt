use Rattle.std.proofs.Common.{All, ◌<◌, take}
use Rattle.array_meshes.proofs.complexes.are_below.Given as goal

abbrev pub invariant-loop-corner : goal.invariant-loop-corner
invariant-loop-corner l = All (λ i. i < l.count) (take l.corner-index l.corners)
