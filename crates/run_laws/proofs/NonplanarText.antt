-- What the bytes of the complex with a nonplanar facet spell, on its grid.
use Rattle.std.proofs.Common.{◌≡◌, ℕ, ◌+◌, List, [], ◌∷◌, take, map, false, Some, None, Ok, refl, arith}
use Rattle.tet_text.specs.Lines.{ContentLine, content_lines, content_lines_from, fields_of, line_count_of, lines_of}
use Rattle.tet_text.specs.Decimals.{decimal_of_parts, scaled_of}
use Rattle.tet_text.specs.Numbers.{are_digits}
use Rattle.grid_coords.specs.declared.points.DecimalPoint.{DecimalPoint}
use Rattle.grid_coords.specs.Choice.{grid_of, most_decimals, greatest_size, first_over, halvings_for, largest}
use Rattle.grid_coords.specs.Units.{units}
use Rattle.sign_predicates.specs.Point.{Point}
use Rattle.sign_predicates.specs.Orientation.{orient, det}
use Rattle.geo_laws.specs.Complex.{Complex, facets}
use Rattle.geo_laws.specs.Delaunay.{AreCoplanar}
use Rattle.geo_laws.specs.Facet.{Facet as FlatFacet}
use Rattle.facet_laws.specs.Plane.{four_apart}
use Rattle.node_files.specs.Folding.{IsFolded}
use Rattle.node_files.specs.Header.{count_or, count_within, header_of}
use Rattle.node_files.specs.Node.{node_list_of, points_table, points_of}
use Rattle.node_files.specs.Point.{point_of, index_at, place_at, attributes_at, markers_at}
use Rattle.node_files.specs.declared.node_text.NodeText.{NodeText}
use Rattle.node_files.proofs.Folds.{fold_none}
use Rattle.plc_files.specs.Binding.{complex_of}
use Rattle.plc_files.specs.Checks.{corners_check, first_fault}
use Rattle.plc_files.specs.Facet.{hole_line, facet_head_of, poly_facet_of, polygon_lines, region_line}
use Rattle.plc_files.specs.Fields.{count_or_zero, some_count_at, whole_or_none}
use Rattle.plc_files.specs.Folding.{folded_complex}
use Rattle.plc_files.specs.Plc.{facets_of, list_count, list_head_of, count_line, listed, plc_of}
use Rattle.plc_files.specs.Polygon.{corner_of, polygon_of}
use Rattle.plc_files.specs.Text.{ReadFacet, Plc}
use Rattle.plc_files.specs.declared.form.Form.TheVariants.{Poly}
use Rattle.plc_files.specs.declared.parts.CornerText.{CornerText}
use Rattle.run_laws.specs.Nonplanar.{nonplanar_bytes}
use Rattle.run_laws.proofs.Grid.{pyramid_grid, step}
use Rattle.run_laws.proofs.Reading.{stated}
use Rattle.run_laws.proofs.WorkedRows.{at, row}
use Rattle.tet_text.specs.Repeated.{so_many}

pub nine_lines : line_count_of nonplanar_bytes ≡ 9
unfolding lines_of
nine_lines = refl

-- a line with these digits
abbrev pub line_with : ℕ → List ℕ → ContentLine
line_with line digits = record { line = line; fields = map (λ digit. (48 + digit) ∷ []) digits }

abbrev pub nonplanar_lines : List ContentLine
nonplanar_lines =
    line_with 1 (4 ∷ 3 ∷ 0 ∷ 0 ∷ []) ∷ line_with 2 (1 ∷ 0 ∷ 0 ∷ 0 ∷ []) ∷ line_with 3 (2 ∷ 1 ∷ 0 ∷ 0 ∷ []) ∷ line_with 4 (3 ∷ 0 ∷ 1 ∷ 0 ∷ [])
    ∷ line_with 5 (4 ∷ 0 ∷ 0 ∷ 1 ∷ []) ∷ line_with 6 (1 ∷ 0 ∷ []) ∷ line_with 7 (1 ∷ []) ∷ line_with 8 (4 ∷ 1 ∷ 2 ∷ 3 ∷ 4 ∷ []) ∷ line_with 9 (0 ∷ []) ∷ []

pub lines_are : content_lines nonplanar_bytes ≡ nonplanar_lines
unfolding lines_of content_lines_from fields_of
lines_are = refl

-- the four points with their lines
abbrev pub stated_points : List DecimalPoint
stated_points = stated 2 0 0 0 ∷ stated 3 1 0 0 ∷ stated 4 0 1 0 ∷ stated 5 0 0 1 ∷ []

abbrev pub nonplanar_nodes : NodeText
nonplanar_nodes = record { first = 1; attribute_count = 0; flag = false; decimals = stated_points; attributes = []; markers = [] }

abbrev corner : ℕ → CornerText
corner n = record { number = n; line = 8 }

-- the facet has one polygon
abbrev nonplanar_facet : ReadFacet
nonplanar_facet = record { polygons = record { line = 8; corners = corner 1 ∷ corner 2 ∷ corner 3 ∷ corner 4 ∷ [] } ∷ []; holes = []; marker = None }

abbrev pub nonplanar_text : Plc
nonplanar_text = record { nodes = Some nonplanar_nodes; facets = nonplanar_facet ∷ []; holes = []; regions = [] }

pub text_is : plc_of Poly 9 nonplanar_lines ≡ Ok nonplanar_text
unfolding plc_of node_list_of points_table points_of header_of count_or count_within point_of index_at place_at attributes_at markers_at decimal_of_parts scaled_of are_digits facets_of list_head_of so_many poly_facet_of facet_head_of some_count_at count_or_zero whole_or_none polygon_lines polygon_of corner_of hole_line region_line listed list_count count_line
text_is = refl

pub corners_are_there : corners_check 1 4 nonplanar_text ≡ Ok tt
unfolding first_fault
corners_are_there = refl

-- ---- the grid

pub grid_is : grid_of 8388608 12 stated_points ≡ Ok pyramid_grid
unfolding grid_of most_decimals greatest_size first_over halvings_for largest units
grid_is = refl

abbrev pub nonplanar_points : List Point
nonplanar_points = at 0 0 0 ∷ at 1 0 0 ∷ at 0 1 0 ∷ at 0 0 1 ∷ []

abbrev pub nonplanar_places : List ℕ
nonplanar_places = 0 ∷ 1 ∷ 2 ∷ 3 ∷ []

pub folded_are : IsFolded nonplanar_points nonplanar_points nonplanar_places nonplanar_places
folded_are =
    step (take 3 nonplanar_points) (take 3 nonplanar_places) (at 0 0 1) refl
    (step (take 2 nonplanar_points) (take 2 nonplanar_places) (at 0 1 0) refl
    (step (take 1 nonplanar_points) (take 1 nonplanar_places) (at 1 0 0) refl
    (step [] [] (at 0 0 0) refl fold_none)))

-- the facet with its corners by their places
abbrev pub nonplanar_complex : Complex
nonplanar_complex = record {
  polygons = record { corners = nonplanar_places; line = 8 } ∷ [];
  facets = record { first = 0; past = 1; holes = []; marker = None } ∷ [];
  holes = [];
  regions = [];
}

pub complex_is : nonplanar_complex ≡ folded_complex nonplanar_places (complex_of 1 pyramid_grid nonplanar_text)
complex_is = refl

pub not_coplanar : ¬ AreCoplanar nonplanar_points
unfolding orient det
not_coplanar flat = let e = flat 0 1 2 3 (omega arith) (omega arith) (omega arith) (omega arith) in cc

abbrev pub nonplanar_flat_facet : FlatFacet
nonplanar_flat_facet = record { polygons = nonplanar_places ∷ []; holes = [] }

pub facets_are : facets nonplanar_complex ≡ nonplanar_flat_facet ∷ []
facets_are = refl

pub apart : four_apart nonplanar_points nonplanar_flat_facet ≡ Some (row 0 1 2 3)
unfolding orient det
apart = refl
