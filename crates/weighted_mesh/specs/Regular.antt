-- Weighted points and their regular list. A tetrahedron is regular where each other point is weighted outside of it (Edelsbrunner and Shah,
-- 1996); ties are broken by the points' numbers, so the list is unique for every input. With all weights 0 it is the Delaunay list.
use Rattle.std.specs.Prelude.{◌≡◌, ◌↔◌, ℕ, ℤ, pos, ◌-ℤ◌, Bool, IsTrue, List, length, All, Any, AllPairs, Contains}
use Rattle.std.specs.List.{slice_index_or}
use Rattle.sign_predicates.specs.Point.{Point}
use Rattle.sign_predicates.specs.Orientation.{IsPositive}
use Rattle.sign_predicates.specs.Sphere.{square_length}
use Rattle.geo_laws.specs.Delaunay.{point, corners, numbers, as_numbers, all_numbers, IsAmong, IsArranged, RowBefore}
use Rattle.geo_laws.specs.declared.tetrahedra.Tet.{Tet}
use Rattle.sign_predicates.specs.Weighted.{IsWeight, is_outside_weighted}
use Rattle.sign_predicates.specs.declared.weighted.FourWeights.{FourWeights}

-- the weight of the point with this number
abbrev pub weight : List ℤ → ℕ → ℤ
weight ws i = slice_index_or ws i (pos 0)

-- one weight for each point, each at most 2^46 in size
pub record AreWeightsOf (ps : List Point) (ws : List ℤ) : Type 0 where
  pub each : length ws ≡ length ps
  pub small : All IsWeight ws

-- the weights of a tetrahedron's corners
abbrev pub corner_weights : List ℤ → Tet → FourWeights
corner_weights ws t = record { a = weight ws t.a; b = weight ws t.b; c = weight ws t.c; d = weight ws t.d }

-- whether the point with the number e is weighted outside of the tetrahedron, ties included
abbrev pub is_weighted_outside : List Point → List ℤ → Tet → ℕ → Bool
is_weighted_outside ps ws t e = is_outside_weighted (corners ps t) (corner_weights ws t) (as_numbers t) (point ps e) (weight ws e) e

-- the row is on the numbers, positive, in the least even arrangement, and every other point of the numbers is weighted outside of it
pub record IsRegularAmong (ps : List Point) (ws : List ℤ) (ms : List ℕ) (t : Tet) : Type 0 where
  pub is_on : IsAmong ms t
  pub is_positive : IsPositive (corners ps t)
  pub is_arranged : IsArranged t
  pub others : (i : ℕ) → Contains ms i → ¬ Contains (numbers t) i → IsTrue (is_weighted_outside ps ws t i)

-- and where these are all points of the list
abbrev pub IsRegular : List Point → List ℤ → Tet → Type 0
IsRegular ps ws t = IsRegularAmong ps ws (all_numbers ps) t

-- the list has exactly the regular tetrahedra of the numbers, strictly ascending
pub record IsRegularListAmong (ps : List Point) (ws : List ℤ) (ms : List ℕ) (rows : List Tet) : Type 0 where
  pub exactly : (t : Tet) → Contains rows t ↔ IsRegularAmong ps ws ms t
  pub ascending : AllPairs RowBefore rows

-- and where these are all points of the list
abbrev pub IsRegularList : List Point → List ℤ → List Tet → Type 0
IsRegularList ps ws rows = IsRegularListAmong ps ws (all_numbers ps) rows

-- a point is hidden where it is a corner of no tetrahedron
abbrev pub IsHiddenPoint : List Tet → ℕ → Type 0
IsHiddenPoint rows i = ¬ Any (λ t. Contains (numbers t) i) rows

-- how high a weighted point is lifted: its squared length less its weight
abbrev pub weighted_lift : List Point → List ℤ → ℕ → ℤ
weighted_lift ps ws i = square_length (point ps i) -ℤ weight ws i
