use Rattle.std.proofs.Common.{◌≡◌, ◌≤◌, ◌-◌, [], take}
use Rattle.std.specs.Prelude.{flat_map}
use Rattle.geo_laws.specs.Segment.{sides}
use Rattle.incidence.specs.Found.{with_pieces}
use Rattle.tetfit_run.proofs.FacetSides.{lists_of}
use Rattle.tetfit_run.proofs.sides.sides_in.Given as goal

-- the sides of the polygons so far
abbrev pub invariant-loop-polygon : goal.invariant-loop-polygon
invariant-loop-polygon l = record {
  low : l.span.first ≤ l.polygon;
  found : l.set ≡ with_pieces [] (flat_map sides (take (l.polygon - l.span.first) (lists_of l.complex l.span.first l.span.past)));
}
