-- The lifting map: each point of space gets a height, and the Delaunay tetrahedra are the faces of the lower hull of the lifted points. For
-- points on one sphere the heights are perturbed in the order of the numbers (simulation of simplicity), so a height is a list of numbers,
-- compared from the left: first the squared length, or any other number, as in regular triangulations; then for each point by rising number
-- 1 for itself and 0 for every other.
use Rattle.std.specs.Prelude.{◌≡◌, ◌⊎◌, ℕ, zero, suc, ◌==◌, if◌then◌else◌, ℤ, pos, ◌+ℤ◌, ◌-ℤ◌, ◌*ℤ◌, ◌<ℤ◌, List, [], ◌∷◌, map, length, Contains}
use Rattle.sign_predicates.specs.Point.{Point, RationalPoint}
use Rattle.sign_predicates.specs.Orientation.{volume, IsPositive, side, side_rational, opposite_a, opposite_b, opposite_c, opposite_d}
use Rattle.sign_predicates.specs.Sphere.{square_length}
use Rattle.geo_laws.specs.Delaunay.{point, corners, numbers, numbers_below, all_numbers, IsAmong, IsArranged}
use Rattle.geo_laws.specs.declared.tetrahedra.Tet.{Tet}

-- the first number that is not 0 is above 0
abbrev pub IsLexPositive : List ℤ → Type 0
IsLexPositive [] = ⊥
IsLexPositive (n ∷ ns) = (pos 0 <ℤ n) ⊎ ((n ≡ pos 0) × IsLexPositive ns)

-- the height of point i at each place
abbrev pub height : (ℕ → ℤ) → ℕ → ℕ → ℤ
height first i zero = first i
height first i (suc j) = if i == j then pos 1 else pos 0

-- the places of the heights of n points: the first, and one for each point
abbrev pub places : ℕ → List ℕ
places n = zero ∷ map suc (numbers_below n)

-- the first number of a lifted point, by which the lowest rows are the Delaunay rows
abbrev pub lifted : List Point → ℕ → ℤ
lifted ps i = square_length (point ps i)

-- At a place: how far the height of e is above the plane through the row's lifted corners, times the row's volume. The side of e at the
-- face opposite a corner is the volume with e in place of that corner, and so e's weight at it (Cramer's rule)
abbrev pub residual_at : List Point → (ℕ → ℤ) → Tet → ℕ → ℕ → ℤ
residual_at ps first t e k =
    volume (corners ps t) *ℤ height first e k
    -ℤ (side (opposite_a (corners ps t)) (point ps e) *ℤ height first t.a k
    +ℤ side (opposite_b (corners ps t)) (point ps e) *ℤ height first t.b k
    +ℤ side (opposite_c (corners ps t)) (point ps e) *ℤ height first t.c k
    +ℤ side (opposite_d (corners ps t)) (point ps e) *ℤ height first t.d k)

-- at all places
abbrev pub residual : List Point → (ℕ → ℤ) → Tet → ℕ → List ℤ
residual ps first t e = map (residual_at ps first t e) (places (length ps))

-- at a place: the height of that plane over a rational point, times the row's volume and the point's w
abbrev pub height_at : List Point → (ℕ → ℤ) → Tet → RationalPoint → ℕ → ℤ
height_at ps first t x k =
    side_rational (opposite_a (corners ps t)) x *ℤ height first t.a k
    +ℤ side_rational (opposite_b (corners ps t)) x *ℤ height first t.b k
    +ℤ side_rational (opposite_c (corners ps t)) x *ℤ height first t.c k
    +ℤ side_rational (opposite_d (corners ps t)) x *ℤ height first t.d k

-- the row is on the numbers, positive and arranged, and every other point of the numbers is above it: it is a face of the lower hull
pub record IsLowestAmong (ps : List Point) (ms : List ℕ) (first : ℕ → ℤ) (t : Tet) : Type 0 where
  pub is_on : IsAmong ms t
  pub is_positive : IsPositive (corners ps t)
  pub is_arranged : IsArranged t
  pub others : (i : ℕ) → Contains ms i → ¬ Contains (numbers t) i → IsLexPositive (residual ps first t i)

-- and where these are all points of the list
abbrev pub IsLowest : List Point → (ℕ → ℤ) → Tet → Type 0
IsLowest ps first t = IsLowestAmong ps (all_numbers ps) first t
