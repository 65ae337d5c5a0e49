use Rattle.std.proofs.Common.{take}
use Rattle.std.specs.Prelude.{All, IsSome}
use Rattle.array_meshes.specs.Doubles.{rounded_place}
use Rattle.array_meshes.proofs.doubles.are_near.Given as goal

abbrev pub invariant-loop-point : goal.invariant-loop-point
invariant-loop-point l = All (λ p. IsSome (rounded_place l.decimals p)) (take l.point-index l.points)
