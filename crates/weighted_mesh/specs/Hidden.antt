-- The number of points that a list of tetrahedra hides.
use Rattle.std.specs.Prelude.{ℕ, Bool, not, List, count_by}
use Rattle.std.specs.List.{list_any}
use Rattle.geo_laws.specs.Delaunay.{numbers_below, has_corner}
use Rattle.geo_laws.specs.declared.tetrahedra.Tet.{Tet}

-- whether the point with this number is a corner of no tetrahedron
abbrev pub is_corner_of_none : List Tet → ℕ → Bool
is_corner_of_none rows i = not (list_any (λ t. has_corner t i) rows)

-- the number of the first *n* points that are corners of no tetrahedron
abbrev pub hidden_count : ℕ → List Tet → ℕ
hidden_count n rows = count_by (is_corner_of_none rows) (numbers_below n)
