use Rattle.std.proofs.Common.{◌≡◌, map, take}
use Rattle.soup_files.proofs.vertex_set.VertexSet.points.Given as goal

abbrev pub invariant-loop-v : goal.invariant-loop-v
invariant-loop-v l = l.points ≡ map (λ v. v.point) (take l.v-index l.found)
