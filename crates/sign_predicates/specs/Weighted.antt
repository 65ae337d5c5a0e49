-- The sphere test of weighted points. A weighted point is lifted by its squared length less its weight; a weighted point is outside of a
-- tetrahedron where it is above the plane through the lifted corners.
use Rattle.std.specs.Prelude.{ℤ, pos, ◌+ℤ◌, ◌-ℤ◌, ◌*ℤ◌, ℕ, ◌^◌, ◌≤◌, unsigned_abs, Bool, ◌&&◌, ◌||◌, int_lt, int_le}
use Rattle.sign_predicates.specs.Point.{Point, from_to}
use Rattle.sign_predicates.specs.Orientation.{det}
use Rattle.sign_predicates.specs.Sphere.{square_length, wins_tie}
use Rattle.sign_predicates.specs.declared.tetrahedron.Corners.{Corners}
use Rattle.sign_predicates.specs.declared.tetrahedron.Numbers.{Numbers}
use Rattle.sign_predicates.specs.declared.weighted.FourWeights.{FourWeights}

-- a weight is at most 2^46 in size
abbrev pub IsWeight : ℤ → Type 0
IsWeight w = unsigned_abs w ≤ 2 ^ 46

pub record AreWeights (w : FourWeights) : Type 0 where
  pub a_small : IsWeight w.a
  pub b_small : IsWeight w.b
  pub c_small : IsWeight w.c
  pub d_small : IsWeight w.d

-- the sphere sum, with each squared length less the corner's weight and with the weight of the point
unfoldable pub weighted_sum : Point → Point → Point → Point → FourWeights → ℤ → ℤ
weighted_sum a b c d w own =
    (square_length a -ℤ w.a +ℤ own) *ℤ det b c d -ℤ (square_length b -ℤ w.b +ℤ own) *ℤ det a c d
    +ℤ (square_length c -ℤ w.c +ℤ own) *ℤ det a b d -ℤ (square_length d -ℤ w.d +ℤ own) *ℤ det a b c

-- for a positive tetrahedron: below 0 where e, of this weight, is outside, 0 where it is on the plane of the lifted corners
unfoldable pub in_weighted_sphere : Corners → FourWeights → Point → ℤ → ℤ
in_weighted_sphere t w e own = weighted_sum (from_to e t.a) (from_to e t.b) (from_to e t.c) (from_to e t.d) w own

-- whether e, with the number m, is weighted outside of the positive tetrahedron t, where ties are decided by the numbers
abbrev pub is_outside_weighted : Corners → FourWeights → Numbers → Point → ℤ → ℕ → Bool
is_outside_weighted t w n e own m =
    int_lt (in_weighted_sphere t w e own) (pos 0) || int_le (in_weighted_sphere t w e own) (pos 0) && wins_tie t n e m
