-- Products of numbers as contracts write them, over ℕ and over ℤ.
use Rattle.std.proofs.Common.{◌≡◌, ℕ, ◌+◌, ◌*◌, ◌^◌, ◌≤◌, ℤ, pos, negsuc, ◌*ℤ◌, sym, ap, ◌∙◌, arith, min, true, false}
use Rattle.std.specs.Prelude.{unsigned_abs, int_le, int_lt, nat_lt}
use Rattle.std.specs.Int.{int_min}
use Rattle.std.proofs.lemmas.Int.{ints}
use Rattle.std.proofs.lemmas.Nat.{mul-le}

pub square_abs : (z : ℤ) → z *ℤ z ≡ pos (unsigned_abs z * unsigned_abs z)
square_abs (pos n) = omega (arith, ints)
square_abs (negsuc n) = omega (arith, ints)

-- a number that is not above 0 is over no natural number
pub not_over : (most : ℕ) (x v : ℤ) → x ≡ v → int_lt (pos 0) x ≡ false → int_lt (pos 0) x ≡ int_lt (pos most) v
not_over most x v is none = none ∙ sym (below v (ap (int_lt (pos 0)) (sym is) ∙ none))
  where
    below : (z : ℤ) → int_lt (pos 0) z ≡ false → int_lt (pos most) z ≡ false
    below (pos n) h = grind (arith, ints, h)
    below (negsuc n) h = grind (arith, ints)

pub min_pos : (a b : ℕ) → pos (min a b) ≡ int_min (pos a) (pos b)
min_pos a b = grind (arith, ints)

-- the test over ℕ that the code makes is the one over ℤ
pub slim_test : (o u v s n : ℕ) (volume shortest center : ℤ) → v ≡ unsigned_abs volume → pos s ≡ shortest → pos n ≡ center
    → nat_lt (4 * (o * o) * (v * v) * s) (u * u * n) ≡ int_lt (pos (4 * (o * o)) *ℤ (volume *ℤ volume) *ℤ shortest) (pos (u * u) *ℤ center)
slim_test o u v s n volume shortest center vi si ni =
    let vv : pos (v * v) ≡ volume *ℤ volume = ap (λ m. pos (m * m)) vi ∙ sym (square_abs volume) in
    λ t. int_lt (pos (4 * (o * o)) *ℤ vv t *ℤ si t) (pos (u * u) *ℤ ni t)

pub regrouped : (o v s : ℕ) → 2 * v * (2 * v) * (o * o * s) ≡ 4 * (o * o) * (v * v) * s
regrouped o v s = omega arith

-- the least of two, over ℕ and over ℤ
pub least_is : (a b m : ℕ) (x y : ℤ) → m ≡ min a b → pos a ≡ x → pos b ≡ y → pos m ≡ int_min x y
least_is a b m x y e h k = ap pos e ∙ min_pos a b ∙ (λ t. int_min (h t) (k t))

-- the products of short numbers
pub short_left : (o v : ℕ) → o ≤ 2 ^ 10 → v ≤ 2 ^ 38 → 4 * (o * o) * (v * v) ≤ 2 ^ 98
short_left o v ho hv =
    let oo = mul-le o o (2 ^ 10) (2 ^ 10) ho ho in
    let vv = mul-le v v (2 ^ 38) (2 ^ 38) hv hv in
    let all = mul-le (4 * (o * o)) (v * v) (4 * (2 ^ 10 * 2 ^ 10)) (2 ^ 38 * 2 ^ 38) (omega (arith, oo)) vv in
    omega (arith, all)

pub short_edge : (o v s : ℕ) → o ≤ 2 ^ 10 → v ≤ 2 ^ 38 → s ≤ 2 ^ 26 → 4 * (o * o) * (v * v) * s ≤ 2 ^ 124
short_edge o v s ho hv hs =
    let all = mul-le (4 * (o * o) * (v * v)) s (2 ^ 98) (2 ^ 26) (short_left o v ho hv) hs in
    omega (arith, all)

pub short_right : (u x y z : ℕ) → u ≤ 2 ^ 10 → x ≤ 2 ^ 53 → y ≤ 2 ^ 53 → z ≤ 2 ^ 53 → u * u * (x * x + y * y + z * z) ≤ 3 * 2 ^ 126
short_right u x y z hu hx hy hz =
    let uu = mul-le u u (2 ^ 10) (2 ^ 10) hu hu in
    let xx = mul-le x x (2 ^ 53) (2 ^ 53) hx hx in
    let yy = mul-le y y (2 ^ 53) (2 ^ 53) hy hy in
    let zz = mul-le z z (2 ^ 53) (2 ^ 53) hz hz in
    let all = mul-le (u * u) (x * x + y * y + z * z) (2 ^ 10 * 2 ^ 10) (3 * (2 ^ 53 * 2 ^ 53)) uu (omega (arith, xx, yy, zz)) in
    omega (arith, all)

-- a number that is not at most 0 is above 0
pub is_above : (x v : ℤ) → x ≡ v → int_le x (pos 0) ≡ false → int_lt (pos 0) v ≡ true
is_above x v is h = above v (ap (λ z. int_le z (pos 0)) (sym is) ∙ h)
  where
    above : (z : ℤ) → int_le z (pos 0) ≡ false → int_lt (pos 0) z ≡ true
    above (pos n) e = grind (arith, ints, e)
    above (negsuc n) e = grind (arith, ints, e)

-- the test of an angle over ℕ is the one over ℤ
pub angle_test : (o u a s t : ℕ) (d x y : ℤ) → a ≡ unsigned_abs d → pos s ≡ x → pos t ≡ y
    → nat_lt (s * t * o) (a * a * u) ≡ int_lt (pos o *ℤ (x *ℤ y)) (pos u *ℤ (d *ℤ d))
angle_test o u a s t d x y ai si ti =
    let square : pos (a * a) ≡ d *ℤ d = ap (λ m. pos (m * m)) ai ∙ sym (square_abs d) in
    let low : s * t * o ≡ o * (s * t) = omega arith in
    let high : a * a * u ≡ u * (a * a) = omega arith in
    (λ i. nat_lt (low i) (high i)) ∙ (λ i. int_lt (pos o *ℤ (si i *ℤ ti i)) (pos u *ℤ square i))
