-- Points that are corners of tetrahedra.
use Rattle.std.specs.Prelude.{◌≡◌, ℕ, ◌+◌, ◌<◌, Bool, true, List}
use Rattle.std.specs.List.{list_any}
use Rattle.geo_laws.specs.Delaunay.{has_corner}
use Rattle.geo_laws.specs.declared.tetrahedra.Tet.{Tet}

-- the point is a corner of a tetrahedron of the list
abbrev pub is_corner : List Tet → ℕ → Bool
is_corner rows i = list_any (λ t. has_corner t i) rows

-- each of so many points from the first of these numbers on is a corner
abbrev pub AreCorners : ℕ → ℕ → List Tet → Type 0
AreCorners own count rows = (j : ℕ) → j < count → is_corner rows (own + j) ≡ true
