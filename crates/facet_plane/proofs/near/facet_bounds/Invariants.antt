use Rattle.facet_plane.proofs.NearPoints.{IsLeft}
use Rattle.facet_plane.proofs.near.facet_bounds.Given as goal

abbrev pub invariant-loop-q : goal.invariant-loop-q
invariant-loop-q l = IsLeft l.points l.complex.polygons l.facet.first l.facet.past l.q l.bounds
