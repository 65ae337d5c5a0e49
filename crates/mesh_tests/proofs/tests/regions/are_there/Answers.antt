use Rattle.std.proofs.Common.{◌<◌, length, subst, arith}
use Rattle.std.specs.Prelude.{All}
use Rattle.std.proofs.lemmas.List.{take_all}
use Rattle.mesh_tests.proofs.tests.regions.are_there.Goals as goal

pub returns : goal.returns
returns c t = subst (All (λ p. All (λ i. i < length c.args.points.now) p.corners)) (take_all c.loop-q.q c.args.complex.now.polygons (omega arith)) c.loop-q.invariant
