use Rattle.std.proofs.Common.{◌≡◌, ℕ, ◌<◌, pos}
use Rattle.sign_predicates.specs.Orientation.{orient}
use Rattle.geo_laws.specs.Delaunay.{point}
use Rattle.cavity_insert.proofs.first.off_plane.Given as goal

abbrev pub invariant-loop-d : goal.invariant-loop-d
invariant-loop-d l = (i : ℕ) → i < l.d → orient (point l.points 0) (point l.points 1) (point l.points l.c) (point l.points i) ≡ pos 0
