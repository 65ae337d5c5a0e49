use Rattle.std.proofs.Common.{ℕ, ◌<◌}
use Rattle.geo_laws.specs.Delaunay.{point}
use Rattle.cavity_insert.specs.First.{IsOnLine}
use Rattle.cavity_insert.proofs.first.off_line.Given as goal

abbrev pub invariant-loop-c : goal.invariant-loop-c
invariant-loop-c l = (i : ℕ) → i < l.c → IsOnLine (point l.points 0) (point l.points 1) (point l.points i)
