-- The files and the summary of the mesh of the five points.
use Rattle.std.proofs.Common.{[], map, Bool, true, false, None, refl}
use Rattle.std.specs.Fmt.{digits}
use Rattle.geo_laws.specs.Complex.{empty_complex}
use Rattle.grid_coords.specs.Units.{decimal_of_units}
use Rattle.node_files.specs.Writing.{fields_text, like_lines, line_text, list_text, point_lines}
use Rattle.node_files.specs.declared.table.NodeTable.{NodeTable}
use Rattle.tet_text.specs.Printing.{numeral}
use Rattle.run_steps.specs.Outputs.{AreFirstOutputsOf}
use Rattle.run_steps.specs.declared.meshed.Meshed.{Meshed}
use Rattle.run_laws.specs.Pyramid.{full_outputs, plain_outputs, WritesSummary}
use Rattle.run_laws.proofs.Faces.{all_faces, all_sides, faces_are, hull, sides_are}
use Rattle.run_laws.proofs.Grid.{places, pyramid_grid}
use Rattle.run_laws.proofs.Hull.{all_rows, hull_rows, marked}
use Rattle.run_laws.proofs.Reading.{stated_points}
use Rattle.run_laws.proofs.WorkedRows.{grid_points, pyramid_rows}
use Rattle.run_laws.proofs.WorkedWords.{asking}

-- the five points on their grid
abbrev pub pyramid_table : NodeTable
pyramid_table = record {
  first = 0;
  attribute_count = 0;
  flag = false;
  decimals = stated_points;
  attributes = [];
  markers = [];
  grid = pyramid_grid;
  listed = grid_points;
  points = grid_points;
  names = places;
  folded = places;
}

abbrev pub pyramid_mesh : Meshed
pyramid_mesh = record {
  table = record pyramid_table { decimals = [] };
  added = [];
  points = grid_points;
  names = places;
  complex = empty_complex;
  triangles = [];
  tetrahedra = pyramid_rows;
  marks = None;
  hidden = None;
}

pub plain_are : (complex : Bool) → AreFirstOutputsOf (asking false complex) pyramid_mesh plain_outputs
unfolding decimal_of_units digits fields_text like_lines line_text list_text point_lines numeral
plain_are complex = record {
  marked = map marked hull;
  marked_are = λ e. hull_rows;
  faces = all_faces;
  faces_are = λ e. faces_are;
  sides = all_sides;
  sides_are = λ e. sides_are;
  node_is = refl;
  ele_is = refl;
  face_is = refl;
  edge_is = refl;
  neigh_is = refl;
  whole_is = refl;
  report_is = refl;
  count_is = refl;
}

pub full_are : AreFirstOutputsOf (asking true false) pyramid_mesh full_outputs
unfolding decimal_of_units digits fields_text like_lines line_text list_text point_lines numeral
full_are = record {
  marked = map marked all_faces;
  marked_are = λ e. all_rows;
  faces = all_faces;
  faces_are = λ e. faces_are;
  sides = all_sides;
  sides_are = λ e. sides_are;
  node_is = refl;
  ele_is = refl;
  face_is = refl;
  edge_is = refl;
  neigh_is = refl;
  whole_is = refl;
  report_is = refl;
  count_is = refl;
}

-- the line that sums them up
pub plain_written : WritesSummary plain_outputs
unfolding digits
plain_written = refl

pub full_written : WritesSummary full_outputs
unfolding digits
full_written = refl
