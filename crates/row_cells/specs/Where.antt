-- Which tetrahedron of a list holds a point.
use Rattle.std.specs.Prelude.{ℕ, Bool, ◌&&◌, List, length, Option, find}
use Rattle.std.specs.Option.{option_map}
use Rattle.sign_predicates.specs.Point.{Point, RationalPoint}
use Rattle.sign_predicates.specs.Orientation.{in_closed}
use Rattle.geo_laws.specs.Delaunay.{corners, numbers_below}
use Rattle.geo_laws.specs.declared.tetrahedra.Tet.{Tet}
use Rattle.row_cells.specs.declared.boxes.Cell.{Cell}
use Rattle.row_cells.specs.declared.boxes.RowBox.{RowBox}
use Rattle.row_cells.specs.Boxes.{row, is_near}

-- the closed tetrahedron at this place holds the point
abbrev pub row_holds : List Point → List Tet → RationalPoint → ℕ → Bool
row_holds ps rows x i = in_closed (corners ps (row rows i)) x

-- the first closed tetrahedron that holds the point, by its place in the list
abbrev pub first_holding : List Point → List Tet → RationalPoint → Option ℕ
first_holding ps rows x = find (row_holds ps rows x) (numbers_below (length rows))

-- the same search among some tetrahedra with their boxes, which skips those whose box does not have the point's cell in it
abbrev pub first_in : List Point → List Tet → Cell → RationalPoint → List RowBox → Option ℕ
first_in ps rows at x slab = option_map (λ b. b.row) (find (λ b. is_near b at && row_holds ps rows x b.row) slab)
