-- The sums of products that the code computes, as terms of the ring normalizer, with the bounds of their variables.
use Rattle.std.proofs.Common.{◌≡◌, ℕ, ◌^◌, List, [], ◌∷◌, ℤ, ◌-ℤ◌, ◌*ℤ◌, ◌+ℤ◌}
use Rattle.exact_algebra.proofs.Ring.{Expr, var, add, sub, mul, ring, same}
use Rattle.sign_predicates.specs.Point.{Point}
use Rattle.sign_predicates.specs.Orientation.{det}
use Rattle.sign_predicates.specs.Vector.{det_of_two, minor}
use Rattle.sign_predicates.proofs.Terms.{pointE, detE, of_point}

abbrev pub two_by_two : Expr
two_by_two = sub (mul (var 0) (var 3)) (mul (var 1) (var 2))

abbrev pub two_by_two_bounds : List ℕ
two_by_two_bounds = 2 ^ 30 ∷ 2 ^ 30 ∷ 2 ^ 30 ∷ 2 ^ 30 ∷ []

abbrev pub two_squares : Expr
two_squares = add (mul (var 0) (var 0)) (mul (var 1) (var 1))

abbrev pub three_squares : Expr
three_squares = add two_squares (mul (var 2) (var 2))

abbrev pub squares_bounds : List ℕ
squares_bounds = 2 ^ 30 ∷ 2 ^ 30 ∷ 2 ^ 30 ∷ []

abbrev pub one_product : Expr
one_product = mul (var 0) (var 1)

abbrev pub two_products : Expr
two_products = sub one_product (mul (var 2) (var 3))

abbrev pub three_products : Expr
three_products = add two_products (mul (var 4) (var 5))

abbrev pub sum_of_two_products : Expr
sum_of_two_products = add one_product (mul (var 2) (var 3))

abbrev pub sum_of_three_products : Expr
sum_of_three_products = add sum_of_two_products (mul (var 4) (var 5))

abbrev pub normal_bounds : List ℕ
normal_bounds = 2 ^ 61 ∷ 2 ^ 61 ∷ 2 ^ 61 ∷ 2 ^ 61 ∷ 2 ^ 61 ∷ 2 ^ 61 ∷ []

abbrev pub four_products : Expr
four_products = sub three_products (mul (var 6) (var 7))

abbrev pub three_bounds : List ℕ
three_bounds = 2 ^ 61 ∷ 2 ^ 50 ∷ 2 ^ 61 ∷ 2 ^ 50 ∷ 2 ^ 61 ∷ 2 ^ 50 ∷ []

abbrev minorE : Expr → Expr → Expr → Expr → Expr
minorE a b c d = sub (mul a d) (mul b c)

-- the determinant along its last row
pub det_along_last : (u v : Point) (x y z : ℤ)
    → det_of_two u.y u.z v.y v.z *ℤ x -ℤ det_of_two u.x u.z v.x v.z *ℤ y +ℤ det_of_two u.x u.y v.x v.y *ℤ z ≡ det u v (record { x = x; y = y; z = z })
unfolding same det det_of_two
det_along_last u v x y z =
    let U = pointE 0 in
    let V = pointE 3 in
    let W = pointE 6 in
    ring
    (add (sub (mul (minorE U.y U.z V.y V.z) W.x) (mul (minorE U.x U.z V.x V.z) W.y)) (mul (minorE U.x U.y V.x V.y) W.z))
    (detE U V W) tt (of_point u (of_point v (x ∷ y ∷ z ∷ [])))

-- the determinant along the third coordinates
pub det_along_third : (u v w : Point) → minor v w *ℤ u.z -ℤ minor u w *ℤ v.z +ℤ minor u v *ℤ w.z ≡ det u v w
unfolding same det det_of_two
det_along_third u v w =
    let U = pointE 0 in
    let V = pointE 3 in
    let W = pointE 6 in
    ring
    (add (sub (mul (minorE V.x V.y W.x W.y) U.z) (mul (minorE U.x U.y W.x W.y) V.z)) (mul (minorE U.x U.y V.x V.y) W.z))
    (detE U V W) tt (of_point u (of_point v (of_point w [])))
