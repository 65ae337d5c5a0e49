-- Small inputs whose definitions compute.
use Rattle.std.specs.Prelude.{◌≡◌, ℕ, pos, true, false, List, [], ◌∷◌, ◌++◌, map, refl}
use Rattle.sign_predicates.specs.Point.{Point, RationalPoint}
use Rattle.sign_predicates.specs.Orientation.{det, orient, orient_rational}
use Rattle.sign_predicates.specs.Sphere.{in_sphere}
use Rattle.geo_laws.specs.Delaunay.{delaunay_rows}
use Rattle.geo_laws.specs.Facet.{Facet, in_region}
use Rattle.geo_laws.specs.Hull.{rows_round}
use Rattle.geo_laws.specs.Segment.{piece, segments, pieces, protect, Protected, GridEnd, BudgetEnd}
use Rattle.geo_laws.specs.declared.tetrahedra.Tet.{Tet}

abbrev at : ℕ → ℕ → ℕ → Point
at x y z = record { x = pos x; y = pos y; z = pos z }

abbrev row : ℕ → ℕ → ℕ → ℕ → Tet
row a b c d = record { a = a; b = b; c = c; d = d }

-- five points on one sphere
abbrev pyramid : List Point
pyramid = at 0 0 0 ∷ at 2 0 0 ∷ at 2 2 0 ∷ at 0 2 0 ∷ at 1 1 2 ∷ []

-- a tie: the diagonal of the base goes from 1 to 3
pub delaunay_rows-pyramid : delaunay_rows pyramid ≡ row 0 1 3 4 ∷ row 1 2 3 4 ∷ []
unfolding det orient in_sphere
delaunay_rows-pyramid = refl

-- (1, 1, 1/2) plus (1/8, 0, 0) lies in exactly one row
pub rows_round-pyramid : rows_round pyramid (delaunay_rows pyramid) (record { x = pos 9; y = pos 8; z = pos 4; w = pos 8 }) ≡ 1
unfolding det orient orient_rational in_sphere
rows_round-pyramid = refl

-- eight points on one sphere
abbrev cube : List Point
cube = at 0 0 0 ∷ at 1 0 0 ∷ at 1 1 0 ∷ at 0 1 0 ∷ at 0 0 1 ∷ at 1 0 1 ∷ at 1 1 1 ∷ at 0 1 1 ∷ []

pub delaunay_rows-cube : delaunay_rows cube ≡ row 0 1 3 4 ∷ row 1 2 3 5 ∷ row 1 3 4 5 ∷ row 2 3 5 6 ∷ row 3 4 5 7 ∷ row 3 5 6 7 ∷ []
unfolding det orient in_sphere
delaunay_rows-cube = refl

-- ---- the region of a facet

-- the corners of two squares, the one in the other
abbrev squares : List Point
squares = at 0 0 0 ∷ at 3 0 0 ∷ at 3 3 0 ∷ at 0 3 0 ∷ at 1 1 0 ∷ at 2 1 0 ∷ at 2 2 0 ∷ at 1 2 0 ∷ []

-- the facet of the two squares, with other polygons and with hole points
abbrev holed : List (List ℕ) → List RationalPoint → Facet
holed others holes = record { polygons = (0 ∷ 1 ∷ 2 ∷ 3 ∷ []) ∷ (4 ∷ 5 ∷ 6 ∷ 7 ∷ []) ∷ others; holes = holes }

-- the point (x/2, y/2, z/2)
abbrev half : ℕ → ℕ → ℕ → RationalPoint
half x y z = record { x = pos x; y = pos y; z = pos z; w = pos 2 }

-- a hole point in the inner square takes out what is in that square, but not its sides
pub in_region-holed : map (in_region squares (holed [] (half 3 3 0 ∷ []))) (half 1 1 0 ∷ half 2 3 0 ∷ half 3 3 0 ∷ half 8 2 0 ∷ []) ≡ true ∷ true ∷ false ∷ false ∷ []
unfolding det orient_rational
in_region-holed = refl

pub in_region-whole : in_region squares (holed [] []) (half 3 3 0) ≡ true
unfolding det orient_rational
in_region-whole = refl

-- also one off the facet's plane
pub in_region-off_plane : in_region squares (holed [] (half 3 3 1 ∷ [])) (half 3 3 0) ≡ false
unfolding det orient_rational
in_region-off_plane = refl

-- one over a side counts for nothing
pub in_region-over_side : in_region squares (holed [] (half 2 3 1 ∷ [])) (half 3 3 0) ≡ true
unfolding det orient_rational
in_region-over_side = refl

-- and so does one over the side of a polygon with two corners
pub in_region-over_segment : in_region squares (holed ((4 ∷ 6 ∷ []) ∷ []) (half 3 3 1 ∷ [])) (half 3 3 0) ≡ true
unfolding det orient_rational
in_region-over_segment = refl

-- ---- protection

-- a segment from 0 to 1, and points near it that keep its halves from being sides
abbrev needle : List Point
needle = at 0 1 1 ∷ at 16 1 1 ∷ at 4 2 1 ∷ at 4 0 2 ∷ at 4 0 0 ∷ at 12 2 1 ∷ at 12 0 2 ∷ at 12 0 0 ∷ []

-- both halves are halved again
pub protect-needle : protect 2 3 needle (pieces needle (segments ((0 ∷ 1 ∷ []) ∷ [])))
    ≡ Protected (needle ++ at 8 1 1 ∷ at 4 1 1 ∷ at 12 1 1 ∷ []) (piece 0 9 2 ∷ piece 9 8 2 ∷ piece 8 10 2 ∷ piece 10 1 2 ∷ [])
unfolding det orient in_sphere
protect-needle = refl

-- not where a segment may be halved once
pub protect-coarse : protect 1 3 needle (pieces needle (segments ((0 ∷ 1 ∷ []) ∷ []))) ≡ GridEnd (piece 0 8 1)
unfolding det orient in_sphere
protect-coarse = refl

-- and the last of three splits is missing where there may be two
pub protect-budget : protect 2 2 needle (pieces needle (segments ((0 ∷ 1 ∷ []) ∷ []))) ≡ BudgetEnd (piece 8 1 1)
unfolding det orient in_sphere
protect-budget = refl
