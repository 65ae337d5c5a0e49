-- Boxes with their sides along the axes, round the tetrahedra of a list. Lengths along an axis are counted in grid units from -2^29 on.
use Rattle.std.specs.Prelude.{ℕ, ◌/◌, ℤ, pos, ◌+ℤ◌, ◌*ℤ◌, Bool, ◌&&◌, List, length, map, min, max, nat_le, int_lt, unsigned_abs, if◌then◌else◌}
use Rattle.std.specs.List.{slice_index_or}
use Rattle.sign_predicates.specs.Point.{Point, RationalPoint, IsOnGrid}
use Rattle.sign_predicates.specs.declared.tetrahedron.Corners.{Corners}
use Rattle.geo_laws.specs.Delaunay.{corners, numbers_below}
use Rattle.geo_laws.specs.declared.tetrahedra.Tet.{Tet}
use Rattle.row_cells.specs.declared.boxes.Cell.{Cell}
use Rattle.row_cells.specs.declared.boxes.Span.{Span}
use Rattle.row_cells.specs.declared.boxes.RowBox.{RowBox}

-- the tetrahedron at this place
abbrev pub row : List Tet → ℕ → Tet
row rows i = slice_index_or rows i (record { a = 0; b = 0; c = 0; d = 0 })

-- a coordinate, from -2^29 on
abbrev pub ahead : ℤ → ℕ
ahead x = unsigned_abs (x +ℤ pos 536870912)

-- from the least to the greatest of four numbers
abbrev pub span_of : ℕ → ℕ → ℕ → ℕ → Span
span_of a b c d = record { low = min (min (min a b) c) d; high = max (max (max a b) c) d }

-- the least box round the tetrahedron with this place
abbrev pub box_of : ℕ → Corners → RowBox
box_of place t = record {
  row = place;
  x = span_of (ahead t.a.x) (ahead t.b.x) (ahead t.c.x) (ahead t.d.x);
  y = span_of (ahead t.a.y) (ahead t.b.y) (ahead t.c.y) (ahead t.d.y);
  z = span_of (ahead t.a.z) (ahead t.b.z) (ahead t.c.z) (ahead t.d.z);
}

-- the boxes of all tetrahedra, in their order
abbrev pub boxes_of : List Point → List Tet → List RowBox
boxes_of ps rows = map (λ i. box_of i (corners ps (row rows i))) (numbers_below (length rows))

-- the number of whole units, each of a number of parts, in the parts; 0 where they are below 0
abbrev pub whole_units : ℤ → ℤ → ℕ
whole_units parts unit = if int_lt parts (pos 0) then 0 else unsigned_abs parts / unsigned_abs unit

-- how many whole grid units the point lies from -2^29 on, along each axis
abbrev pub cell_of : RationalPoint → Cell
cell_of x = record {
  x = whole_units (x.x +ℤ pos 536870912 *ℤ x.w) x.w;
  y = whole_units (x.y +ℤ pos 536870912 *ℤ x.w) x.w;
  z = whole_units (x.z +ℤ pos 536870912 *ℤ x.w) x.w;
}

abbrev pub spans : Span → ℕ → Bool
spans span at = nat_le span.low at && nat_le at span.high

-- the cell lies in the box
abbrev pub is_near : RowBox → Cell → Bool
is_near b at = (spans b.y at.y && spans b.z at.z) && spans b.x at.x

-- the corners lie on the grid
pub record AreOnGrid (t : Corners) : Type 0 where
  pub a : IsOnGrid t.a
  pub b : IsOnGrid t.b
  pub c : IsOnGrid t.c
  pub d : IsOnGrid t.d
