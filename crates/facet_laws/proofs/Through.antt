-- A leg that passes through a side of a polygon in a plane, in two coordinates.
use Rattle.std.proofs.Common.{◌≡◌, ◌≢◌, refl, sym, ◌∙◌, arith}
use Rattle.std.proofs.lemmas.Int.{ints}
use Rattle.std.specs.Prelude.{ℤ, pos, ◌+ℤ◌, ◌-ℤ◌, ◌*ℤ◌, ◌<ℤ◌}
use Rattle.exact_algebra.proofs.Signs.{by_sign}
use Rattle.sign_predicates.specs.Point.{Point, RationalPoint, as_rational}
use Rattle.sign_predicates.specs.Orientation.{Triangle, normal, side, side_rational}
use Rattle.geo_laws.specs.Facet.{Axis, DropX, DropY, DropZ, first_of_two, second_of_two}
use Rattle.geo_laws.proofs.Determinants.{offset, side_rational-linear}
use Rattle.facet_laws.specs.Legs.{dropped}
use Rattle.facet_laws.specs.Parity.{Spot, spot_turn}
use Rattle.facet_laws.proofs.Products.{zero_of_factor}
use Rattle.facet_laws.proofs.Rays.{vector, spot, zero_there, point_zero, third_agrees}
use Rattle.facet_laws.proofs.Turns.{on_line_first, on_line_second}
use lib.IntN.{zero-*ℤ}

abbrev pub at : Axis → Point → Spot
at axis p = spot axis (as_rational p)

-- ---- x is off the line through the side's ends

same_point : (axis : Axis) (a b : Point) → first_of_two axis a ≡ first_of_two axis b → second_of_two axis a ≡ second_of_two axis b → dropped axis a ≡ dropped axis b → a ≡ b
same_point DropX a b e f g = λ j. record { x = g j; y = e j; z = f j }
same_point DropY a b e f g = λ j. record { x = e j; y = g j; z = f j }
same_point DropZ a b e f g = λ j. record { x = e j; y = f j; z = g j }

third_same : (f1 f2 f3 fo p1 p2 p3 q1 q2 q3 : ℤ) → f3 ≢ pos 0 → f1 *ℤ p1 +ℤ (f2 *ℤ p2 +ℤ (f3 *ℤ p3 +ℤ fo *ℤ pos 1)) ≡ pos 0 → f1 *ℤ q1 +ℤ (f2 *ℤ q2 +ℤ (f3 *ℤ q3 +ℤ fo *ℤ pos 1)) ≡ pos 0
    → p1 ≡ q1 → p2 ≡ q2 → p3 ≡ q3
third_same f1 f2 f3 fo p1 p2 p3 q1 q2 q3 n ep eq e f =
    trim p3 q3
    (third_agrees f1 f2 f3 fo q1 q2 q3 (pos 1) q1 q2 q3 (pos 1) p1 p2 p3 (pos 1) p1 p2 p3 (pos 1) (pos 1) (pos 0) (pos 1) (pos 0) n eq eq ep ep
    (λ j. pos 1 *ℤ e j +ℤ pos 0 *ℤ e j) (λ j. pos 1 *ℤ f j +ℤ pos 0 *ℤ f j) refl)
  where
    trim : (m n : ℤ) → pos 1 *ℤ m +ℤ pos 0 *ℤ m ≡ pos 1 *ℤ n +ℤ pos 0 *ℤ n → m ≡ n
    trim m n e = omega (arith, ints, zero-*ℤ m, zero-*ℤ n)

-- the plane's equation, where g's is not 0
pub off_line : (axis : Axis) (f g : Triangle) (x : RationalPoint) (a b : Point) → dropped axis (normal f) ≢ pos 0
    → side_rational f x ≡ pos 0 → side f a ≡ pos 0 → side f b ≡ pos 0 → side g a ≡ pos 0 → side g b ≡ pos 0 → a ≢ b
    → spot_turn (spot axis x) (at axis a) (at axis b) ≡ pos 0 → side_rational g x ≡ pos 0
unfolding spot_turn
off_line axis f g x a b steep fx fa fb ga gb differ t =
    by_sign (side_rational g x) (λ n. absurd (equal (nonzero n))) (λ z. z) (λ n. absurd (equal (nonzero' n)))
  where
    nonzero : side_rational g x <ℤ pos 0 → side_rational g x ≢ pos 0
    nonzero n e = omega (arith, ints)

    nonzero' : pos 0 <ℤ side_rational g x → side_rational g x ≢ pos 0
    nonzero' n e = omega (arith, ints)

    there : ℤ
    there =
        first_of_two axis (normal g) *ℤ first_of_two axis (vector x) +ℤ (second_of_two axis (normal g) *ℤ second_of_two axis (vector x)
        +ℤ (dropped axis (normal g) *ℤ dropped axis (vector x) +ℤ offset g *ℤ x.w))

    minus : (m n : ℤ) → m -ℤ n ≡ pos 0 → m ≡ n
    minus m n e = omega (arith, ints)

    equal : side_rational g x ≢ pos 0 → ⊥
    equal n =
        let zx = zero_there axis f x fx in
        let za = zero_there axis f (as_rational a) (point_zero f a fa) in
        let zb = zero_there axis f (as_rational b) (point_zero f b fb) in
        let ka = zero_there axis g (as_rational a) (point_zero g a ga) in
        let kb = zero_there axis g (as_rational b) (point_zero g b gb) in
        let some : dropped axis (normal f) *ℤ there ≢ pos 0 = λ e. n (back axis (zero_of_factor _ there steep e)) in
        let s = minus _ _ (zero_of_factor _ _ some (on_line_first (first_of_two axis (normal f)) (second_of_two axis (normal f)) (dropped axis (normal f)) (offset f)
        (first_of_two axis (normal g)) (second_of_two axis (normal g)) (dropped axis (normal g)) (offset g)
        (first_of_two axis (vector x)) (second_of_two axis (vector x)) (dropped axis (vector x)) x.w
        (first_of_two axis (vector (as_rational a))) (second_of_two axis (vector (as_rational a))) (dropped axis (vector (as_rational a)))
        (first_of_two axis (vector (as_rational b))) (second_of_two axis (vector (as_rational b))) (dropped axis (vector (as_rational b))) zx za zb ka kb t)) in
        let r = minus _ _ (zero_of_factor _ _ some (on_line_second (first_of_two axis (normal f)) (second_of_two axis (normal f)) (dropped axis (normal f)) (offset f)
        (first_of_two axis (normal g)) (second_of_two axis (normal g)) (dropped axis (normal g)) (offset g)
        (first_of_two axis (vector x)) (second_of_two axis (vector x)) (dropped axis (vector x)) x.w
        (first_of_two axis (vector (as_rational a))) (second_of_two axis (vector (as_rational a))) (dropped axis (vector (as_rational a)))
        (first_of_two axis (vector (as_rational b))) (second_of_two axis (vector (as_rational b))) (dropped axis (vector (as_rational b))) zx za zb ka kb t)) in
        differ (same_point axis a b (sym r) s (third_same (first_of_two axis (normal f)) (second_of_two axis (normal f)) (dropped axis (normal f)) (offset f)
        (first_of_two axis (vector (as_rational a))) (second_of_two axis (vector (as_rational a))) (dropped axis (vector (as_rational a)))
        (first_of_two axis (vector (as_rational b))) (second_of_two axis (vector (as_rational b))) (dropped axis (vector (as_rational b))) steep za zb (sym r) s))
      where
        back : (axis : Axis) → first_of_two axis (normal g) *ℤ first_of_two axis (vector x) +ℤ (second_of_two axis (normal g) *ℤ second_of_two axis (vector x)
            +ℤ (dropped axis (normal g) *ℤ dropped axis (vector x) +ℤ offset g *ℤ x.w)) ≡ pos 0 → side_rational g x ≡ pos 0
        back DropX e = side_rational-linear g x ∙ moved ((normal g).x *ℤ x.x) ((normal g).y *ℤ x.y) ((normal g).z *ℤ x.z) (offset g *ℤ x.w) e
          where
            moved : (a b c d : ℤ) → b +ℤ (c +ℤ (a +ℤ d)) ≡ pos 0 → a +ℤ (b +ℤ (c +ℤ d)) ≡ pos 0
            moved a b c d e = omega (arith, ints)
        back DropY e = side_rational-linear g x ∙ moved ((normal g).x *ℤ x.x) ((normal g).y *ℤ x.y) ((normal g).z *ℤ x.z) (offset g *ℤ x.w) e
          where
            moved : (a b c d : ℤ) → a +ℤ (c +ℤ (b +ℤ d)) ≡ pos 0 → a +ℤ (b +ℤ (c +ℤ d)) ≡ pos 0
            moved a b c d e = omega (arith, ints)
        back DropZ e = side_rational-linear g x ∙ e
