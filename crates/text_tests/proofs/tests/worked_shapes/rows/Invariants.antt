use Rattle.std.specs.Prelude.{All}
use Rattle.geo_laws.specs.Delaunay.{IsOn}
use Rattle.text_tests.proofs.tests.worked_shapes.rows.Given as goal

abbrev pub invariant-loop-a : goal.invariant-loop-a
invariant-loop-a l = All (IsOn l.points) l.list
