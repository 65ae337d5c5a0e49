-- What the bytes of the five points as a complex spell, and that they can be meshed.
use Rattle.std.proofs.Common.{◌≡◌, ◌^◌, ℕ, List, [], ◌∷◌, Some, Ok, refl, arith}
use Rattle.std.specs.Prelude.{pos}
use Rattle.std.proofs.lemmas.List.Elements.{All-from_recursion, All-nil}
use Rattle.tet_text.specs.Lines.{ContentLine, content_lines, content_lines_from, fields_of, line_count_of, lines_of}
use Rattle.tet_text.specs.Decimals.{decimal_of_parts, scaled_of}
use Rattle.tet_text.specs.Numbers.{are_digits}
use Rattle.geo_laws.specs.Complex.{empty_complex}
use Rattle.segment_protect.specs.Protection.{IsMultiple}
use Rattle.sign_predicates.specs.Point.{origin}
use Rattle.complex_mesh.specs.Protection.{IsMeshable}
use Rattle.node_files.specs.Header.{count_or, count_within, header_of}
use Rattle.node_files.specs.Node.{node_list_of, points_table, points_of}
use Rattle.node_files.specs.Point.{point_of, index_at, place_at, attributes_at, markers_at}
use Rattle.node_files.proofs.Folds.{folded_distinct}
use Rattle.plc_files.specs.Checks.{corners_check, first_fault}
use Rattle.plc_files.specs.Plc.{facets_of, list_count, list_head_of, count_line, listed, plc_of}
use Rattle.plc_files.specs.Text.{Plc}
use Rattle.plc_files.specs.declared.form.Form.TheVariants.{Poly}
use Rattle.run_laws.specs.Pyramid.{complex_bytes}
use Rattle.run_laws.proofs.Grid.{folded_are, places}
use Rattle.run_laws.proofs.NonplanarText.{line_with}
use Rattle.run_laws.proofs.Reading.{pyramid_text}
use Rattle.run_laws.proofs.WorkedRows.{at, grid_points}
use Rattle.tet_text.specs.Repeated.{so_many}

pub eight_lines : line_count_of complex_bytes ≡ 8
unfolding lines_of
eight_lines = refl

abbrev pub complex_lines : List ContentLine
complex_lines =
    line_with 1 (5 ∷ 3 ∷ 0 ∷ 0 ∷ []) ∷ line_with 2 (0 ∷ 0 ∷ 0 ∷ 0 ∷ []) ∷ line_with 3 (1 ∷ 2 ∷ 0 ∷ 0 ∷ []) ∷ line_with 4 (2 ∷ 2 ∷ 2 ∷ 0 ∷ [])
    ∷ line_with 5 (3 ∷ 0 ∷ 2 ∷ 0 ∷ []) ∷ line_with 6 (4 ∷ 1 ∷ 1 ∷ 2 ∷ []) ∷ line_with 7 (0 ∷ 0 ∷ []) ∷ line_with 8 (0 ∷ []) ∷ []

pub complex_lines_are : content_lines complex_bytes ≡ complex_lines
unfolding lines_of content_lines_from fields_of
complex_lines_are = refl

-- no facet, no hole point and no region
abbrev pub complex_text : Plc
complex_text = record { nodes = Some pyramid_text; facets = []; holes = []; regions = [] }

pub complex_text_is : plc_of Poly 8 complex_lines ≡ Ok complex_text
unfolding plc_of node_list_of points_table points_of header_of count_or count_within point_of index_at place_at attributes_at markers_at decimal_of_parts scaled_of are_digits facets_of list_head_of so_many listed list_count count_line
complex_text_is = refl

pub no_corners : corners_check 0 5 complex_text ≡ Ok tt
unfolding first_fault
no_corners = refl

multiple : (x y z : ℕ) → IsMultiple (2 ^ 12) (at x y z)
multiple x y z = record { x = pos x; y = pos y; z = pos z; x_is = refl; y_is = refl; z_is = refl }

pub meshable : IsMeshable 12 100000 grid_points empty_complex
meshable = record {
  distinct = folded_distinct grid_points grid_points places places folded_are;
  multiples = λ i l. All-from_recursion (IsMultiple (2 ^ 12)) grid_points (multiple 0 0 0, (multiple 2 0 0, (multiple 2 2 0, (multiple 0 2 0, (multiple 1 1 2, tt))))) i origin l;
  few = omega arith;
  corners = All-nil _;
  holes = All-nil _;
  regions = All-nil _;
}
