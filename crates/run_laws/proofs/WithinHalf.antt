-- Coordinates that rounding moves by at most half of a unit.
use Rattle.std.proofs.Common.{◌≡◌, ℕ, zero, suc, cond, ◌+◌, ◌-◌, ◌*◌, ◌/◌, ◌%◌, ◌^◌, ◌<◌, ◌≤◌, Bool, true, false, ℤ, pos, negsuc, ◌-ℤ◌, ◌*ℤ◌, unsigned_abs, Option, Some, None, refl, sym, ap, subst, ◌∙◌, arith, inl, inr}
use Rattle.std.specs.Prelude.{int_lt, neg_ℤ, min}
use Rattle.std.proofs.lemmas.Bool.{cases_lt, cond-true, cond-false, le-leb, le-ltb, lt-leb}
use Rattle.std.proofs.lemmas.Int.{ints}
use Rattle.std.proofs.lemmas.Nat.{div-add-mod', mod_below, pow-add}
use Rattle.std.proofs.Math.Nat.{mul-le-mul_right}
use Rattle.tet_text.specs.Decimals.{Scaled, lowest, signed, with_sign}
use Rattle.tet_text.proofs.Numerals.{pow10_pos}
use Rattle.tet_text.proofs.Scaling.{lowest_is}
use Rattle.run_laws.specs.Rounded.{AreWithinHalf, RoundedNearLaw, MultipleNearLaw}
use Rattle.tetfit_run.specs.Units.{multiple_near, nearest_multiple, or_same, size_by}
use Rattle.grid_coords.specs.Rounding.{nearest_whole, rounded}

-- two numbers differ by at most half of a third
record AreNear (x y most : ℕ) : Type 0 where
  pub low : 2 * x ≤ 2 * y + most
  pub high : 2 * y ≤ 2 * x + most

near_times : (x y most p : ℕ) → AreNear x y most → AreNear (x * p) (y * p) (most * p)
near_times x y most p n =
    let low = mul-le-mul_right p n.low in
    let high = mul-le-mul_right p n.high in
    let a : 2 * x * p ≡ 2 * (x * p) = grind arith in
    let b : (2 * y + most) * p ≡ 2 * (y * p) + most * p = grind arith in
    let c : 2 * y * p ≡ 2 * (y * p) = grind arith in
    let d : (2 * x + most) * p ≡ 2 * (x * p) + most * p = grind arith in
    record { low = omega (arith, low, a, b); high = omega (arith, high, c, d) }

-- the nearest multiple
nearest : (k over under : ℕ) → 0 < k * under → AreNear over (nearest_multiple k over under * under) (k * under)
unfolding nearest_multiple
nearest k over under some =
    let top = 2 * over + k * under in
    let q = top / (2 * k * under) in
    let twice : 2 * k * under ≡ 2 * (k * under) = grind arith in
    let whole = div-add-mod' top (2 * k * under) in
    let rest = mod_below top (2 * k * under) (omega (arith, some, twice)) in
    let same : q * (2 * k * under) ≡ 2 * (q * k * under) = grind arith in
    record { low = omega (arith, whole, rest, same, twice); high = omega (arith, whole, rest, same, twice) }

same : {x y most a b c : ℕ} → x ≡ a → y ≡ b → most ≡ c → AreNear x y most → AreNear a b c
same e f g n = rw (sym e, sym f, sym g) n

turned : (x y z : ℕ) → x * y * z ≡ x * z * y
turned x y z = grind arith

grouped : (k s l t : ℕ) → t ≡ s * l → k * s * l ≡ k * t
grouped k s l t e = rw e (grind arith)

-- ---- differences of numbers of one sign

signed_times : (b : Bool) (n p : ℕ) → signed b n *ℤ pos p ≡ signed b (n * p)
signed_times false n p = refl
signed_times true zero p = let none : 0 * p ≡ 0 = omega arith in rw none refl
signed_times true (suc n) p = refl

up : (b : Bool) (x t : ℕ) → unsigned_abs (signed b x -ℤ signed b (x + t)) ≡ t
up false x t = omega (arith, ints)
up true x t = omega (arith, ints)

down : (b : Bool) (y t : ℕ) → unsigned_abs (signed b (y + t) -ℤ signed b y) ≡ t
down false y t = omega (arith, ints)
down true y t = omega (arith, ints)

near_up : (x t p most : ℕ) → AreNear (x * p) ((x + t) * p) most → 2 * t * p ≤ most
near_up x t p most n =
    let a : (x + t) * p ≡ x * p + t * p = grind arith in
    let b : 2 * t * p ≡ 2 * (t * p) = grind arith in
    let high = n.high in omega (arith, high, a, b)

near_down : (y t p most : ℕ) → AreNear ((y + t) * p) (y * p) most → 2 * t * p ≤ most
near_down y t p most n =
    let a : (y + t) * p ≡ y * p + t * p = grind arith in
    let b : 2 * t * p ≡ 2 * (t * p) = grind arith in
    let low = n.low in omega (arith, low, a, b)

gap : (b : Bool) (x y p most : ℕ) → AreNear (x * p) (y * p) most → 2 * unsigned_abs (signed b x -ℤ signed b y) * p ≤ most
gap b x y p most n =
    elim (cases_lt x y) [
      | inl lt ↦
          let t = y - x in
          let e : y ≡ x + t = omega (arith, lt) in
          let is = ap (λ (z : ℕ). unsigned_abs (signed b x -ℤ signed b z)) e ∙ up b x t in
          subst (λ (z : ℕ). 2 * z * p ≤ most) (sym is) (near_up x t p most (subst (λ (z : ℕ). AreNear (x * p) (z * p) most) e n))
      | inr le ↦
          let t = x - y in
          let e : x ≡ y + t = omega (arith, le) in
          let is = ap (λ (z : ℕ). unsigned_abs (signed b z -ℤ signed b y)) e ∙ down b y t in
          subst (λ (z : ℕ). 2 * z * p ≤ most) (sym is) (near_down y t p most (subst (λ (z : ℕ). AreNear (z * p) (y * p) most) e n))
    ]

-- ---- rounded numbers

-- a number is its size with its sign
sign_of : (z : ℤ) → z ≡ signed (int_lt z (pos 0)) (unsigned_abs z)
sign_of (pos n) = rw (le-ltb n 0 (omega arith)) refl
sign_of (negsuc n) = refl

-- the number with this size in units of 10^-m is within half of k units of the last decimal
put : (k m size : ℕ) (u d : Scaled) → unsigned_abs u.value ≡ k → u.scale ≡ m → AreNear (unsigned_abs d.value * 10 ^ m) (size * 10 ^ d.scale) (k * 10 ^ d.scale)
    → AreWithinHalf u d (with_sign (int_lt d.value (pos 0)) (lowest size m))
put k m size u d k-is m-is n =
    let b = int_lt d.value (pos 0) in
    let low = lowest size m in
    let x = unsigned_abs d.value * 10 ^ low.1 in
    let y = low.0 * 10 ^ d.scale in
    let front : unsigned_abs d.value * 10 ^ m * 10 ^ low.1 ≡ x * 10 ^ m = grind arith in
    let reduced = lowest_is size m in
    let back : size * 10 ^ d.scale * 10 ^ low.1 ≡ y * 10 ^ m = regroup size (10 ^ d.scale) (10 ^ low.1) low.0 (10 ^ m) reduced in
    let whole : k * 10 ^ d.scale * 10 ^ low.1 ≡ k * 10 ^ (d.scale + low.1) = grouped k (10 ^ d.scale) (10 ^ low.1) (10 ^ (d.scale + low.1)) (pow-add 10 d.scale low.1) in
    let far = near_times (unsigned_abs d.value * 10 ^ m) (size * 10 ^ d.scale) (k * 10 ^ d.scale) (10 ^ low.1) n in
    let near : AreNear (x * 10 ^ m) (y * 10 ^ m) (k * 10 ^ (d.scale + low.1)) = same front back whole far in
    let own : d.value *ℤ pos (10 ^ low.1) ≡ signed b x = ap (λ (z : ℤ). z *ℤ pos (10 ^ low.1)) (sign_of d.value) ∙ signed_times b (unsigned_abs d.value) (10 ^ low.1) in
    let other = signed_times b low.0 (10 ^ d.scale) in
    rw (own, other, k-is, m-is) (gap b x y (10 ^ m) (k * 10 ^ (d.scale + low.1)) near)
  where
    regroup : (size s l low t : ℕ) → low * t ≡ size * l → size * s * l ≡ low * s * t
    regroup size s l low t e = turned size s l ∙ ap (λ (z : ℕ). z * s) (sym e) ∙ turned low t s

-- ---- both roundings

-- n × 10^raise / 10^lower is n / 10^s in units of 10^-m
scaled_near : (k n m s : ℕ) (size : ℕ) → AreNear (n * 10 ^ (m - s)) (size * 10 ^ (s - m)) (k * 10 ^ (s - m)) → AreNear (n * 10 ^ m) (size * 10 ^ s) (k * 10 ^ s)
scaled_near k n m s size near =
    same (tens n (m - s) (min m s) m (omega arith)) (tens size (s - m) (min m s) s (omega arith)) (tens k (s - m) (min m s) s (omega arith))
    (near_times (n * 10 ^ (m - s)) (size * 10 ^ (s - m)) (k * 10 ^ (s - m)) (10 ^ min m s) near)
  where
    tens : (n a b c : ℕ) → a + b ≡ c → n * 10 ^ a * 10 ^ b ≡ n * 10 ^ c
    tens n a b c e = grouped n (10 ^ a) (10 ^ b) (10 ^ c) (ap (λ (t : ℕ). 10 ^ t) (sym e) ∙ pow-add 10 a b)

-- a number that stays
stays : (u d : Scaled) → AreWithinHalf u d d
stays u d =
    let z = d.value *ℤ pos (10 ^ d.scale) in
    let none : unsigned_abs (z -ℤ z) ≡ 0 = still z in
    let nothing : 2 * 0 * 10 ^ u.scale ≡ 0 = omega arith in
    rw none (omega (arith, nothing))
  where
    still : (z : ℤ) → unsigned_abs (z -ℤ z) ≡ 0
    still z = omega (arith, ints)

whole_is : (n t : ℕ) → nearest_multiple 1 n (10 ^ t) ≡ nearest_whole n t
unfolding nearest_multiple nearest_whole
whole_is n t =
    let a : 1 * 10 ^ t ≡ 10 ^ t = omega arith in
    let b : 2 * 1 * 10 ^ t ≡ 2 * 10 ^ t = omega arith in
    rw (a, b) (once ((2 * n + 10 ^ t) / (2 * 10 ^ t)))
  where
    once : (q : ℕ) → q * 1 ≡ q
    once q = omega arith

unit_some : (t : ℕ) → 0 < 1 * 10 ^ t
unit_some t = let some = pow10_pos t in omega (arith, some)

pub rounded_near : RoundedNearLaw
unfolding rounded
rounded_near m d =
    elim (cases_lt m d.scale) [
      | inl lt ↦
          let n = unsigned_abs d.value in
          let t = d.scale - m in
          let size = nearest_whole n t in
          let u : Scaled = record { value = pos 1; scale = m } in
          let near = subst (λ (z : ℕ). AreNear n (z * 10 ^ t) (1 * 10 ^ t)) (whole_is n t) (nearest 1 n (10 ^ t) (unit_some t)) in
          let none : m - d.scale ≡ 0 = omega (arith, lt) in
          let own : n ≡ n * 10 ^ (m - d.scale) = rw none (omega arith) in
          let far = subst (λ (z : ℕ). AreNear z (size * 10 ^ t) (1 * 10 ^ t)) own near in
          rw (cond-false _ _ _ (lt-leb d.scale m lt)) (put 1 m size u d refl refl (scaled_near 1 n m d.scale size far))
      | inr le ↦ rw (cond-true _ _ _ (le-leb d.scale m le)) (stays (record { value = pos 1; scale = m }) d)
    ]

some_is : (b : Bool) (x y : ℕ) → cond b (Some x) None ≡ Some y → x ≡ y
some_is true x y e = cc
some_is false x y e = absurd (cc)

or_near : (k : ℕ) (u d : Scaled) (o : Option ℕ) → unsigned_abs u.value ≡ k
    → ((size : ℕ) → o ≡ Some size → AreNear (unsigned_abs d.value * 10 ^ u.scale) (size * 10 ^ d.scale) (k * 10 ^ d.scale)) → AreWithinHalf u d (or_same u.scale d o)
or_near k u d None is near = stays u d
or_near k u d (Some size) is near = put k u.scale size u d is refl (near size refl)

multiples_near : (k n raise lower size : ℕ) → 0 < k → size_by k n raise lower ≡ Some size → AreNear (n * 10 ^ raise) (size * 10 ^ lower) (k * 10 ^ lower)
unfolding size_by
multiples_near k n raise lower size some e =
    let over = n * 10 ^ raise in
    let m = nearest_multiple k over (10 ^ lower) in
    let is = some_is _ m size e in
    subst (λ (z : ℕ). AreNear over (z * 10 ^ lower) (k * 10 ^ lower)) is (nearest k over (10 ^ lower) (product k (10 ^ lower) some (pow10_pos lower)))
  where
    product : (a b : ℕ) → 0 < a → 0 < b → 0 < a * b
    product a zero x y = absurd (omega arith)
    product a (suc b) x y = omega arith

pub multiple_near_law : MultipleNearLaw
unfolding multiple_near
multiple_near_law u d some =
    let k = unsigned_abs u.value in
    let n = unsigned_abs d.value in
    or_near k u d (size_by k n (u.scale - d.scale) (d.scale - u.scale)) refl
    (λ size e. scaled_near k n u.scale d.scale size (multiples_near k n (u.scale - d.scale) (d.scale - u.scale) size some e))
