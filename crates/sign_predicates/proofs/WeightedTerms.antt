-- The sums of the weighted sphere test, as terms of the ring normalizer, with the bounds of their variables.
use Rattle.std.proofs.Common.{◌≡◌, ℕ, ◌^◌, List, [], ◌∷◌, ℤ, ◌+ℤ◌, ◌-ℤ◌, ◌*ℤ◌, w64, to_z, of_z, refl}
use Rattle.exact_algebra.proofs.Ring.{Expr, var, add, sub}
use Rattle.exact_algebra.proofs.Size.{back}
use Rattle.sign_predicates.specs.Point.{Point, from_to}
use Rattle.sign_predicates.specs.Orientation.{det}
use Rattle.sign_predicates.specs.Sphere.{square_length}
use Rattle.sign_predicates.proofs.Products.{three_squares}
use Rattle.sign_predicates.specs.declared.tetrahedron.Corners.{Corners}
use Rattle.sign_predicates.specs.Weighted.{IsWeight, weighted_sum, in_weighted_sphere}
use Rattle.sign_predicates.specs.declared.weighted.FourWeights.{FourWeights}

abbrev pub lowered : Expr
lowered = sub three_squares (var 3)

abbrev pub raised : Expr
raised = add lowered (var 4)

-- three coordinates and two weights
abbrev pub rise_bounds : List ℕ
rise_bounds = 2 ^ 30 ∷ 2 ^ 30 ∷ 2 ^ 30 ∷ 2 ^ 46 ∷ 2 ^ 46 ∷ []

pub weighted_sum_is : (a b c d : Point) (w : FourWeights) (own : ℤ)
    → (square_length a -ℤ w.a +ℤ own) *ℤ det b c d -ℤ (square_length b -ℤ w.b +ℤ own) *ℤ det a c d
    +ℤ (square_length c -ℤ w.c +ℤ own) *ℤ det a b d -ℤ (square_length d -ℤ w.d +ℤ own) *ℤ det a b c
    ≡ weighted_sum a b c d w own
unfolding weighted_sum
weighted_sum_is a b c d w own = refl

pub in_weighted_sphere_is : (t : Corners) (w : FourWeights) (e : Point) (own : ℤ)
    → weighted_sum (from_to e t.a) (from_to e t.b) (from_to e t.c) (from_to e t.d) w own ≡ in_weighted_sphere t w e own
unfolding in_weighted_sphere
in_weighted_sphere_is t w e own = refl

-- a weight, as 64 bits hold it
pub weight_back : (z : ℤ) → IsWeight z → to_z w64 (of_z w64 z) ≡ z
weight_back z h = back w64 (2 ^ 46) z tt h
