use Rattle.std.proofs.Common.{ℕ, ◌<◌, length}
use Rattle.geo_laws.specs.Delaunay.{point}
use Rattle.segment_protect.specs.Protection.{IsMultiple}
use Rattle.mesh_tests.proofs.tests.protection.split_points.Given as goal

abbrev pub invariant-loop-k : goal.invariant-loop-k
invariant-loop-k l = (i : ℕ) → i < length l.points → IsMultiple 4 (point l.points i)
