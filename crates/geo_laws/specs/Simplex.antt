-- Simplices by the numbers of their corners: points, segments, triangles and tetrahedra. In a simplicial complex any two meet in a common
-- face.
use Rattle.std.specs.Prelude.{◌≡◌, ℕ, ◌<◌, ℤ, pos, ◌+ℤ◌, ◌*ℤ◌, List, [], ◌∷◌, filter, sum_by, ◌==◌, Bool, AllPairs}
use Rattle.std.specs.List.{list_any}
use Rattle.sign_predicates.specs.Point.{Point, RationalPoint, EachRational}
use Rattle.geo_laws.specs.Delaunay.{point, numbers}
use Rattle.geo_laws.specs.declared.tetrahedra.Tet.{Tet}

-- the sum of f over the numbers, each times its weight
abbrev pub sum_by_weights : (ℕ → ℕ) → (ℕ → ℤ) → List ℕ → ℤ
sum_by_weights weight f [] = pos 0
sum_by_weights weight f (i ∷ s) = pos (weight i) *ℤ f i +ℤ sum_by_weights weight f s

-- x is the mean of the corners under these weights, which are not all 0
pub record IsMean (ps : List Point) (s : List ℕ) (weight : ℕ → ℕ) (x : RationalPoint) : Type 0 where
  pub some : 0 < sum_by weight s
  pub x_is : sum_by_weights weight (λ i. (point ps i).x) s *ℤ x.w ≡ x.x *ℤ pos (sum_by weight s)
  pub y_is : sum_by_weights weight (λ i. (point ps i).y) s *ℤ x.w ≡ x.y *ℤ pos (sum_by weight s)
  pub z_is : sum_by_weights weight (λ i. (point ps i).z) s *ℤ x.w ≡ x.z *ℤ pos (sum_by weight s)

-- x lies in the simplex, the hull of its corners: it is a mean of them (barycentric coordinates). No corners have an empty hull
abbrev pub InSimplex : List Point → List ℕ → RationalPoint → Type 0
InSimplex ps s x = (weight : ℕ → ℕ) × IsMean ps s weight x

-- whether a number stands in the list
abbrev pub has_number : List ℕ → ℕ → Bool
has_number s i = list_any (λ j. j == i) s

-- the corners of s that are corners of r too
abbrev pub common_corners : List ℕ → List ℕ → List ℕ
common_corners s r = filter (has_number r) s

-- each common point of the two simplices lies in the hull of their common corners
abbrev pub ProperlyMet : List Point → List ℕ → List ℕ → Type 0
ProperlyMet ps s r = EachRational (λ x. InSimplex ps s x → InSimplex ps r x → InSimplex ps (common_corners s r) x)

-- any two of the rows are properly met
abbrev pub RowsProperlyMet : List Point → List Tet → Type 0
RowsProperlyMet ps rows = AllPairs (λ s t. ProperlyMet ps (numbers s) (numbers t)) rows
