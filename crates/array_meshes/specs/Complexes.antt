-- A complex as arrays state it: what it names is there, and the complex on the kept points of a table.
use Rattle.std.specs.Prelude.{ℕ, ◌<◌, ◌≤◌, List, [], map, length, All, slice_index, slice_range, Some}
use Rattle.std.specs.List.{fold}
use Rattle.complex_mesh.specs.declared.mesh.MeshOptions.{MeshOptions}
use Rattle.geo_laws.specs.Complex.{Complex, empty_complex, with_facet, with_facet_hole, with_hole, with_polygon, with_region}
use Rattle.grid_coords.specs.Units.{rational_point}
use Rattle.grid_coords.specs.declared.grid.Grid.{Grid}
use Rattle.node_files.specs.declared.table.NodeTable.{NodeTable}
use Rattle.sign_predicates.specs.Point.{RationalPoint}
use Rattle.array_meshes.specs.Arrays.{decimal_point}
use Rattle.array_meshes.specs.declared.arrays.Place.{Place}
use Rattle.array_meshes.specs.declared.complexes.ArrayComplex.{ArrayComplex}
use Rattle.array_meshes.specs.declared.complexes.Facet.{Facet}
use Rattle.array_meshes.specs.declared.complexes.Polygon.{Polygon}

-- ---- what is there

-- the corners of the polygon are there, and each is the place of a point
pub record IsPolygonThere (c : ArrayComplex) (p : Polygon) : Type 0 where
  pub order : p.first ≤ p.past
  pub within : p.past ≤ length c.corners.now
  pub corners : All (λ i. i < length c.points.now) (slice_range c.corners.now p.first p.past)

-- the polygons of the facet are there, with their corners, and the points in its holes
pub record IsFacetThere (c : ArrayComplex) (f : Facet) : Type 0 where
  pub order : f.first ≤ f.past
  pub within : f.past ≤ length c.polygons.now
  pub polygons : All (IsPolygonThere c) (slice_range c.polygons.now f.first f.past)
  pub holes_order : f.first_hole ≤ f.past_hole
  pub holes_within : f.past_hole ≤ length c.facet_holes.now

-- all that the facets name is there
abbrev pub HasParts : ArrayComplex → Type 0
HasParts c = All (IsFacetThere c) c.facets.now

-- ---- the complex, where `folded` has for each point of the array the place of the kept point that is equal to it

-- with a polygon of the last facet, whose corners name kept points
abbrev pub with_drawn_polygon : List ℕ → ArrayComplex → Complex → Polygon → Complex
with_drawn_polygon folded c made p = with_polygon (map (slice_index folded) (slice_range c.corners.now p.first p.past)) 0 made

-- the point in units of a grid, over the denominator 10^6; a coordinate over 2^29 units becomes one of 2^29 + 1 units
abbrev pub rational_place : Grid → Place → RationalPoint
rational_place grid p = rational_point grid (decimal_point p)

-- with a point in a hole of the last facet
abbrev pub with_drawn_facet_hole : Grid → Complex → Place → Complex
with_drawn_facet_hole grid made p = with_facet_hole (rational_place grid p) made

-- with a facet and its polygons
abbrev pub with_drawn_polygons : List ℕ → ArrayComplex → Complex → Facet → Complex
with_drawn_polygons folded c made f =
    fold (with_drawn_polygon folded c) (with_facet (Some f.marker) made) (slice_range c.polygons.now f.first f.past)

-- with a facet, its polygons and the points in its holes
abbrev pub with_drawn_facet : NodeTable → ArrayComplex → Complex → Facet → Complex
with_drawn_facet table c made f =
    fold (with_drawn_facet_hole table.grid) (with_drawn_polygons table.folded c made f)
    (slice_range c.facet_holes.now f.first_hole f.past_hole)

abbrev pub with_drawn_hole : Grid → Complex → Place → Complex
with_drawn_hole grid made p = with_hole (rational_place grid p) made

-- with a region, whose attribute is the empty text
abbrev pub with_drawn_region : Grid → Complex → Place → Complex
with_drawn_region grid made p = with_region (rational_place grid p) [] made

-- the facets with their parts
abbrev pub drawn_facets : NodeTable → ArrayComplex → Complex
drawn_facets table c = fold (with_drawn_facet table c) empty_complex c.facets.now

-- the facets, the hole points and the region points, on the kept points of the table
abbrev pub complex_on : NodeTable → ArrayComplex → Complex
complex_on table c =
    let facets = drawn_facets table c in
    let holes = fold (with_drawn_hole table.grid) facets c.holes.now in
    fold (with_drawn_region table.grid) holes c.regions.now

-- how the mesh is made
abbrev pub mesh_options : NodeTable → ArrayComplex → MeshOptions
mesh_options table c = record {
  halvings = table.grid.halvings;
  budget = c.options.budget;
  keep_hull = c.options.keep_hull;
  keep_facets = c.options.keep_facets;
  regions = c.options.regions;
}
