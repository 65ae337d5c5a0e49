-- What the bytes of the pyramid spell.
use Rattle.std.specs.Prelude.{◌≡◌, ℕ, List, [], ◌∷◌, ◌+◌, false, pos, refl, Ok}
use Rattle.tet_text.specs.Lines.{ContentLine, content_lines, content_lines_from, fields_of, line_count_of, lines_of}
use Rattle.tet_text.specs.Decimals.{Scaled, decimal_of_parts, scaled_of}
use Rattle.tet_text.specs.Numbers.{are_digits}
use Rattle.grid_coords.specs.declared.points.DecimalPoint.{DecimalPoint}
use Rattle.node_files.specs.Header.{count_or, count_within, header_of}
use Rattle.node_files.specs.Node.{node_of, node_list_of, points_table, points_of}
use Rattle.node_files.specs.Point.{point_of, index_at, place_at, attributes_at, markers_at}
use Rattle.node_files.specs.declared.node_text.NodeText.{NodeText}
use Rattle.run_laws.specs.Pyramid.{pyramid_bytes}

pub six_lines : line_count_of pyramid_bytes ≡ 6
unfolding lines_of
six_lines = refl

-- a line with four fields of one digit each
abbrev line_with : ℕ → ℕ → ℕ → ℕ → ℕ → ContentLine
line_with line a b c d = record { line = line; fields = ((48 + a) ∷ []) ∷ ((48 + b) ∷ []) ∷ ((48 + c) ∷ []) ∷ ((48 + d) ∷ []) ∷ [] }

abbrev pub pyramid_lines : List ContentLine
pyramid_lines = line_with 1 5 3 0 0 ∷ line_with 2 0 0 0 0 ∷ line_with 3 1 2 0 0 ∷ line_with 4 2 2 2 0 ∷ line_with 5 3 0 2 0 ∷ line_with 6 4 1 1 2 ∷ []

pub lines_are : content_lines pyramid_bytes ≡ pyramid_lines
unfolding lines_of content_lines_from fields_of
lines_are = refl

abbrev whole : ℕ → Scaled
whole n = record { value = pos n; scale = 0 }

abbrev pub stated : ℕ → ℕ → ℕ → ℕ → DecimalPoint
stated line x y z = record { x = whole x; y = whole y; z = whole z; line = line }

-- the five points with their lines
abbrev pub stated_points : List DecimalPoint
stated_points = stated 2 0 0 0 ∷ stated 3 2 0 0 ∷ stated 4 2 2 0 ∷ stated 5 0 2 0 ∷ stated 6 1 1 2 ∷ []

abbrev pub pyramid_text : NodeText
pyramid_text = record { first = 0; attribute_count = 0; flag = false; decimals = stated_points; attributes = []; markers = [] }

pub text_is : node_of 6 pyramid_lines ≡ Ok pyramid_text
unfolding node_of node_list_of points_table points_of header_of count_or count_within point_of index_at place_at attributes_at markers_at decimal_of_parts scaled_of are_digits
text_is = refl
