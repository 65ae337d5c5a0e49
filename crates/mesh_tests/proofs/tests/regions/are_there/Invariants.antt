use Rattle.std.proofs.Common.{◌<◌, length, take}
use Rattle.std.specs.Prelude.{All}
use Rattle.mesh_tests.proofs.tests.regions.are_there.Given as goal

abbrev pub invariant-loop-q : goal.invariant-loop-q
invariant-loop-q l = All (λ p. All (λ i. i < length l.points) p.corners) (take l.q l.complex.polygons)
