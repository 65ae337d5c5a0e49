use Rattle.std.proofs.Common.{◌≡◌, ◌++◌, map}
use Rattle.std.specs.Prelude.{All}
use Rattle.facet_plane.specs.Corners.{lists_between}
use Rattle.facet_plane.specs.Outline.{IsBlocked}
use Rattle.facet_plane.specs.Prepared.{shape, shape_of}
use Rattle.facet_plane.proofs.prepared.Outlines.of.Given as goal

abbrev pub invariant-loop-q : goal.invariant-loop-q
invariant-loop-q l = record {
  shapes : map shape l.each ++ map (shape_of l.points) (lists_between l.complex.polygons l.q l.facet.past)
      ≡ map (shape_of l.points) (lists_between l.complex.polygons l.facet.first l.facet.past);
  blocked : All IsBlocked l.each;
}
