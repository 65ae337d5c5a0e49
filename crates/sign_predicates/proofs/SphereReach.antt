-- How far the points in a sphere are from a point on it.
use Rattle.std.proofs.Common.{◌≡◌, ℕ, zero, suc, ◌+◌, ◌*◌, ◌/◌, ◌≤◌, ℤ, pos, ◌-ℤ◌, ◌*ℤ◌, inl, inr, [], ap, sym, subst, arith}
use Rattle.std.specs.Prelude.{◌≤ℤ◌, negsuc, unsigned_abs}
use Rattle.std.proofs.lemmas.Bool.{cases_lt}
use Rattle.std.proofs.lemmas.Int.{ints}
use Rattle.std.proofs.Math.Nat.{mul-le-mul_left, le_of_mul-le-mul_right, le-div_iff_mul-le}
use Rattle.exact_algebra.proofs.Size.{abs_mul}
use Rattle.exact_algebra.proofs.Signs.{pred_of}
use Rattle.exact_algebra.proofs.Ring.{Expr, ring, same, ◌⊕◌, ◌⊖◌, ◌⊗◌}
use Rattle.sign_predicates.specs.Point.{Point, from_to}
use Rattle.sign_predicates.specs.Orientation.{dot, det, orient, IsPositive, volume}
use Rattle.sign_predicates.specs.Sphere.{in_sphere}
use Rattle.sign_predicates.specs.Reach.{pull, sizes, AreWithin}
use Rattle.sign_predicates.specs.declared.tetrahedron.Corners.{Corners}
use Rattle.sign_predicates.proofs.Terms.{PointE, pointE, cornersE, of_point, of_corners, from_toE, dotE, crossE, square_lengthE, in_sphereE, volumeE}

combinedE : Expr → Expr → Expr → Expr → Expr → Expr → Expr
combinedE k x m y n z = k ⊗ x ⊖ m ⊗ y ⊕ n ⊗ z

abbrev pullE : PointE → PointE → PointE → PointE
pullE b c d = record {
  x = square_lengthE b ⊗ (crossE c d).x ⊖ square_lengthE c ⊗ (crossE b d).x ⊕ square_lengthE d ⊗ (crossE b c).x;
  y = square_lengthE b ⊗ (crossE c d).y ⊖ square_lengthE c ⊗ (crossE b d).y ⊕ square_lengthE d ⊗ (crossE b c).y;
  z = square_lengthE b ⊗ (crossE c d).z ⊖ square_lengthE c ⊗ (crossE b d).z ⊕ square_lengthE d ⊗ (crossE b c).z;
}

-- the sphere's sum from the first corner
pub in_sphere-pull : (t : Corners) (e : Point) → in_sphere t e
    ≡ dot (pull (from_to t.a t.b) (from_to t.a t.c) (from_to t.a t.d)) (from_to t.a e) -ℤ orient t.a t.b t.c t.d *ℤ dot (from_to t.a e) (from_to t.a e)
unfolding same det orient in_sphere pull
in_sphere-pull t e =
    let s = cornersE 0 in
    let q = from_toE s.a (pointE 12) in
    ring (in_sphereE s (pointE 12))
    (dotE (pullE (from_toE s.a s.b) (from_toE s.a s.c) (from_toE s.a s.d)) q ⊖ volumeE s ⊗ dotE q q) tt (of_corners t (of_point e []))

-- ---- a product with the greatest of three numbers

bounded : (v k x y z l m n : ℕ) → x ≤ k → y ≤ k → z ≤ k → v * (k * k) ≤ l * x + m * y + n * z → v * k ≤ l + m + n
bounded v zero x y z l m n hx hy hz h = omega arith
bounded v (suc k) x y z l m n hx hy hz h =
    le_of_mul-le-mul_right {k = suc k} (omega (arith, h, mul-le-mul_left l hx, mul-le-mul_left m hy, mul-le-mul_left n hz)) (omega arith)

-- each of three numbers, where the sum of their squares is bounded so
pub all_bounded : (v x y z l m n : ℕ) → v * (x * x + y * y + z * z) ≤ l * x + m * y + n * z → (v * x ≤ l + m + n) × (v * y ≤ l + m + n) × (v * z ≤ l + m + n)
all_bounded v x y z l m n h = elim (cases_lt x y) [
  | inl a ↦ elim (cases_lt y z) [
    | inl b ↦ at z (omega arith) (omega arith) (omega arith) (omega arith)
    | inr b ↦ at y (omega arith) (omega arith) (omega arith) (omega arith)
  ]
  | inr a ↦ elim (cases_lt x z) [
    | inl b ↦ at z (omega arith) (omega arith) (omega arith) (omega arith)
    | inr b ↦ at x (omega arith) (omega arith) (omega arith) (omega arith)
  ]
]
  where
    at : (k : ℕ) → x ≤ k → y ≤ k → z ≤ k → k * k ≤ x * x + y * y + z * z → (v * x ≤ l + m + n) × (v * y ≤ l + m + n) × (v * z ≤ l + m + n)
    at k hx hy hz sum =
        let most = bounded v k x y z l m n hx hy hz (omega (arith, mul-le-mul_left v sum)) in
        (omega (arith, mul-le-mul_left v hx), omega (arith, mul-le-mul_left v hy), omega (arith, mul-le-mul_left v hz))

prod_le : (p q : ℤ) → (p *ℤ q) ≤ℤ pos (unsigned_abs p * unsigned_abs q)
prod_le p q = by (p *ℤ q) (unsigned_abs p * unsigned_abs q) (abs_mul p q (unsigned_abs p) (unsigned_abs q) (omega arith) (omega arith))
  where
    by : (z : ℤ) (n : ℕ) → unsigned_abs z ≤ n → z ≤ℤ pos n
    by (pos m) n h = omega (arith, ints)
    by (negsuc m) n h = omega (arith, ints)

square_abs : (q : ℤ) → q *ℤ q ≡ pos (unsigned_abs q * unsigned_abs q)
square_abs (pos n) = omega (arith, ints)
square_abs (negsuc n) = omega (arith, ints)

-- ---- the reach

-- a positive number of times a sum of squares, where it is at most such a sum of products
sum_bounded : (v : ℕ) (p q : Point) → (pos v *ℤ dot q q) ≤ℤ dot p q
    → v * (unsigned_abs q.x * unsigned_abs q.x + unsigned_abs q.y * unsigned_abs q.y + unsigned_abs q.z * unsigned_abs q.z) ≤ unsigned_abs p.x * unsigned_abs q.x + unsigned_abs p.y * unsigned_abs q.y + unsigned_abs p.z * unsigned_abs q.z
sum_bounded v p q h =
    let squares : dot q q ≡ pos (unsigned_abs q.x * unsigned_abs q.x + unsigned_abs q.y * unsigned_abs q.y + unsigned_abs q.z * unsigned_abs q.z) =
    omega (arith, ints, square_abs q.x, square_abs q.y, square_abs q.z) in
    let times = ap (λ d. pos v *ℤ d) squares in
    omega (arith, ints, h, times, prod_le p.x q.x, prod_le p.y q.y, prod_le p.z q.z)

pub law_reach : (t : Corners) (e : Point) → IsPositive t → pos 0 ≤ℤ in_sphere t e → AreWithin (sizes (pull (from_to t.a t.b) (from_to t.a t.c) (from_to t.a t.d)) / unsigned_abs (volume t)) t.a e
law_reach t e p h = within (orient t.a t.b t.c t.d) (pred_of (orient t.a t.b t.c t.d) p) (in_sphere-pull t e)
  where
    d : Point
    d = pull (from_to t.a t.b) (from_to t.a t.c) (from_to t.a t.d)

    q : Point
    q = from_to t.a e

    within : (o : ℤ) → (n : ℕ) × (o ≡ pos (suc n)) → in_sphere t e ≡ dot d q -ℤ o *ℤ dot q q → AreWithin (sizes d / unsigned_abs o) t.a e
    within o (n, is) sum =
        let below : (pos (suc n) *ℤ dot q q) ≤ℤ dot d q = subst (λ m. (m *ℤ dot q q) ≤ℤ dot d q) is (omega (arith, ints, h, sum)) in
        let each = all_bounded (suc n) (unsigned_abs q.x) (unsigned_abs q.y) (unsigned_abs q.z) (unsigned_abs d.x) (unsigned_abs d.y) (unsigned_abs d.z) (sum_bounded (suc n) d q below) in
        let count : unsigned_abs o ≡ suc n = ap unsigned_abs is in
        let quotient : (m : ℕ) → suc n * m ≤ sizes d → m ≤ sizes d / unsigned_abs o =
        λ m l. subst (λ k. m ≤ sizes d / k) (sym count) ((le-div_iff_mul-le {k = suc n} (omega arith)).1 (omega (arith, l))) in
        record { x = quotient (unsigned_abs q.x) each.0; y = quotient (unsigned_abs q.y) each.1; z = quotient (unsigned_abs q.z) each.2 }
