-- Coordinates of points and vectors as the code reads them from 32 bits.
use Rattle.std.proofs.Common.{◌≡◌, ◌⊎◌, inl, inr, ◌*◌, refl, subst, sym, ℤ, pos, negsuc, ◌+ℤ◌, ◌*ℤ◌, ◌-ℤ◌, neg_ℤ, ◌≤ℤ◌, ◌^◌, ◌≤◌, [], ◌∷◌, w32, w64, to_z, of_z, unsigned_abs, arith, ap, ◌∙◌}
use Rattle.std.proofs.lemmas.Int.{ints}
use Rattle.sign_predicates.specs.Point.{Point, RationalPoint, IsNear, from_to, from_to_rational}
use Rattle.sign_predicates.specs.Orientation.{det, orient, orient_rational}
use Rattle.sign_predicates.specs.declared.tetrahedron.Corners.{Corners}
use Rattle.sign_predicates.specs.Sphere.{square_length, in_sphere}
use Rattle.sign_predicates.specs.Vector.{det_of_two, sphere_sum}
use mir.Syntax.{w128}
use Rattle.exact_algebra.proofs.Ring.{var, sub, neg, ring, same}
use Rattle.sign_predicates.proofs.Terms.{pointE, orientE, of_point}
use Rattle.exact_algebra.proofs.Size.{machine_is, back}

pub grid_size : (z : ℤ) → negsuc 536870911 ≤ℤ z → z ≤ℤ pos 536870912 → unsigned_abs z ≤ 2 ^ 29
grid_size z low high = omega (arith, ints)

-- the difference of two coordinates of the grid
pub difference_back : (a b : ℤ) → negsuc 536870911 ≤ℤ a → a ≤ℤ pos 536870912 → negsuc 536870911 ≤ℤ b → b ≤ℤ pos 536870912
    → to_z w32 (of_z w32 (to_z w32 (of_z w32 b) -ℤ to_z w32 (of_z w32 a))) ≡ b -ℤ a
difference_back a b al ah bl bh =
    machine_is w32 (2 ^ 29 ∷ 2 ^ 29 ∷ []) (a ∷ b ∷ []) (sub (var 1) (var 0)) (grid_size a al ah, (grid_size b bl bh, tt)) tt

-- a coordinate of a vector
pub coordinate_back : (z : ℤ) → unsigned_abs z ≤ 2 ^ 30 → to_z w32 (of_z w32 z) ≡ z
coordinate_back z h = back w32 (2 ^ 30) z tt h

pub det_of_two_back : (a b c d : ℤ) → unsigned_abs a ≤ 2 ^ 30 → unsigned_abs b ≤ 2 ^ 30 → unsigned_abs c ≤ 2 ^ 30 → unsigned_abs d ≤ 2 ^ 30
    → det_of_two (to_z w32 (of_z w32 a)) (to_z w32 (of_z w32 b)) (to_z w32 (of_z w32 c)) (to_z w32 (of_z w32 d)) ≡ det_of_two a b c d
det_of_two_back a b c d h i j k = λ t. det_of_two (coordinate_back a h t) (coordinate_back b i t) (coordinate_back c j t) (coordinate_back d k t)

-- a coordinate of a vector that is read as 64 bits
pub wide_back : (z : ℤ) → unsigned_abs z ≤ 2 ^ 30 → to_z w64 (of_z w64 (to_z w32 (of_z w32 z))) ≡ z
wide_back z h = ap (λ y. to_z w64 (of_z w64 y)) (coordinate_back z h) ∙ back w64 (2 ^ 30) z tt h

-- ---- the definitions over points, by their vectors

pub orient_is : (a b c d : Point) → det (from_to a b) (from_to a c) (from_to a d) ≡ orient a b c d
unfolding orient
orient_is a b c d = refl

pub orient_rational_is : (a b c : Point) (x : RationalPoint) → det (from_to a b) (from_to a c) (from_to_rational a x) ≡ orient_rational a b c x
unfolding orient_rational
orient_rational_is a b c x = refl

pub in_sphere_is : (t : Corners) (e : Point) → sphere_sum (from_to e t.a) (from_to e t.b) (from_to e t.c) (from_to e t.d) ≡ in_sphere t e
unfolding in_sphere sphere_sum
in_sphere_is t e = refl

pub sphere_sum_is : (a b c d : Point)
    → square_length a *ℤ det b c d -ℤ square_length b *ℤ det a c d +ℤ square_length c *ℤ det a b d -ℤ square_length d *ℤ det a b c ≡ sphere_sum a b c d
unfolding sphere_sum
sphere_sum_is a b c d = refl

-- two corners of the face exchanged
pub orient-exchanged : (a b c p : Point) → orient a c b p ≡ neg_ℤ (orient a b c p)
unfolding same det orient
orient-exchanged a b c p =
    let A = pointE 0 in
    let B = pointE 3 in
    let C = pointE 6 in
    let P = pointE 9 in
    ring (orientE A C B P) (neg (orientE A B C P)) tt (of_point a (of_point b (of_point c (of_point p []))))

-- the fourth point put before the other three, with and without an exchange of two of these
pub side_exchanged : (a b c p : Point) → orient a c b p ≡ orient p a b c
unfolding same det orient
side_exchanged a b c p =
    let A = pointE 0 in
    let B = pointE 3 in
    let C = pointE 6 in
    let P = pointE 9 in
    ring (orientE A C B P) (orientE P A B C) tt (of_point a (of_point b (of_point c (of_point p []))))

pub side_turned : (a b c p : Point) → orient a b c p ≡ neg_ℤ (orient p a b c)
unfolding same det orient
side_turned a b c p =
    let A = pointE 0 in
    let B = pointE 3 in
    let C = pointE 6 in
    let P = pointE 9 in
    ring (orientE A B C P) (neg (orientE P A B C)) tt (of_point a (of_point b (of_point c (of_point p []))))

-- ---- coordinates of grid points and rational points

pub grid_back : (z : ℤ) → negsuc 536870911 ≤ℤ z → z ≤ℤ pos 536870912 → to_z w32 (of_z w32 z) ≡ z
grid_back z low high = back w32 (2 ^ 29) z tt (grid_size z low high)

pub grid_size_back : (z : ℤ) → negsuc 536870911 ≤ℤ z → z ≤ℤ pos 536870912 → unsigned_abs (to_z w32 (of_z w32 z)) ≤ 2 ^ 29
grid_size_back z low high = subst (λ y. unsigned_abs y ≤ 2 ^ 29) (sym (grid_back z low high)) (grid_size z low high)

denominator_size : (w : ℤ) → (w ≡ pos 1) ⊎ (w ≡ pos 1000000) → unsigned_abs w ≤ 1000000
denominator_size w (inl e) = omega (arith, ap unsigned_abs e)
denominator_size w (inr e) = omega (arith, ap unsigned_abs e)

pub denominator_back : (w : ℤ) → (w ≡ pos 1) ⊎ (w ≡ pos 1000000) → to_z w64 (of_z w64 w) ≡ w
denominator_back w e = back w64 1000000 w tt (denominator_size w e)

pub denominator_size_back : (w : ℤ) → (w ≡ pos 1) ⊎ (w ≡ pos 1000000) → unsigned_abs (to_z w64 (of_z w64 w)) ≤ 1000000
denominator_size_back w e = subst (λ y. unsigned_abs y ≤ 1000000) (sym (denominator_back w e)) (denominator_size w e)

pub near_back : (w x : ℤ) → (w ≡ pos 1) ⊎ (w ≡ pos 1000000) → IsNear w x → to_z w64 (of_z w64 x) ≡ x
near_back w x e h = let k = denominator_size w e in back w64 (536870913 * 1000000) x tt (omega arith)

-- a minor of two vectors
pub minor_back : (a b c d : ℤ) → unsigned_abs a ≤ 2 ^ 30 → unsigned_abs b ≤ 2 ^ 30 → unsigned_abs c ≤ 2 ^ 30 → unsigned_abs d ≤ 2 ^ 30
    → det_of_two (to_z w32 (of_z w32 a)) (to_z w32 (of_z w32 b)) (to_z w32 (of_z w32 c)) (to_z w32 (of_z w32 d)) ≡ a *ℤ d -ℤ b *ℤ c
unfolding det_of_two
minor_back a b c d h i j k = det_of_two_back a b c d h i j k

-- the square of a length
pub square_back : (z : ℤ) → unsigned_abs z ≤ 3 * 2 ^ 60 → to_z w64 (of_z w64 z) ≡ z
square_back z h = back w64 (3 * 2 ^ 60) z tt h

-- a determinant, as 128 bits hold it
pub determinant_back : (z : ℤ) → unsigned_abs z ≤ 3 * 2 ^ 91 → to_z w128 (of_z w128 z) ≡ z
determinant_back z h = back w128 (3 * 2 ^ 91) z tt h

-- a determinant with its sign turned
pub turned_back : (z : ℤ) → unsigned_abs z ≤ 3 * 2 ^ 91 → to_z w128 (of_z w128 (pos 0 -ℤ to_z w128 (of_z w128 z))) ≡ neg_ℤ z
turned_back z h =
    ap (λ y. to_z w128 (of_z w128 (pos 0 -ℤ y))) (determinant_back z h)
    ∙ back w128 (3 * 2 ^ 91) (pos 0 -ℤ z) tt (omega (arith, ints))
    ∙ omega (arith, ints)
