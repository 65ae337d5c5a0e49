-- The Delaunay list of the five points.
use Rattle.std.proofs.Common.{◌≡◌, ℕ, List, [], ◌∷◌, ◌*◌, refl, arith}
use Rattle.std.specs.Prelude.{pos}
use Rattle.sign_predicates.specs.Point.{Point}
use Rattle.sign_predicates.specs.Orientation.{orient, det}
use Rattle.sign_predicates.specs.Sphere.{in_sphere}
use Rattle.geo_laws.specs.declared.tetrahedra.Tet.{Tet}
use Rattle.geo_laws.specs.Delaunay.{AreCoplanar, delaunay_rows}

-- the unit is halved twelve times: 4096 grid units are 1
abbrev pub at : ℕ → ℕ → ℕ → Point
at x y z = record { x = pos (4096 * x); y = pos (4096 * y); z = pos (4096 * z) }

abbrev pub grid_points : List Point
grid_points = at 0 0 0 ∷ at 2 0 0 ∷ at 2 2 0 ∷ at 0 2 0 ∷ at 1 1 2 ∷ []

abbrev pub row : ℕ → ℕ → ℕ → ℕ → Tet
row a b c d = record { a = a; b = b; c = c; d = d }

-- the diagonal of the square goes from 1 to 3
abbrev pub pyramid_rows : List Tet
pyramid_rows = row 0 1 3 4 ∷ row 1 2 3 4 ∷ []

pub rows_are : delaunay_rows grid_points ≡ pyramid_rows
unfolding orient det in_sphere
rows_are = refl

pub not_flat : ¬ AreCoplanar grid_points
unfolding orient det
not_flat flat = let e = flat 0 1 3 4 (omega arith) (omega arith) (omega arith) (omega arith) in cc
