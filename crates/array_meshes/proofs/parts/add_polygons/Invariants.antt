use Rattle.std.proofs.Common.{◌≡◌, ◌<◌, length, take, Some}
use Rattle.std.specs.Prelude.{slice_range}
use Rattle.std.specs.List.{fold}
use Rattle.geo_laws.specs.Complex.{with_facet}
use Rattle.array_meshes.specs.Complexes.{with_drawn_polygon}
use Rattle.array_meshes.proofs.parts.add_polygons.Given as goal

abbrev pub invariant-loop-polygon : goal.invariant-loop-polygon
invariant-loop-polygon l = record {
  made : l.made ≡ fold (with_drawn_polygon l.folded l.complex) (with_facet (Some l.facet.marker) l.fn.made) (take l.polygon-index (slice_range l.complex.polygons.now l.facet.first l.facet.past));
  facet : 0 < length l.made.facets;
}
