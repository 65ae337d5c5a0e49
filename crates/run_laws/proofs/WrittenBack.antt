-- Coordinates that are measured from an origin, and written.
use Rattle.std.proofs.Common.{◌≡◌, ◌≢◌, ℕ, zero, suc, ◌+◌, ◌-◌, ◌*◌, ◌/◌, ◌%◌, ◌^◌, ◌<◌, ◌≤◌, Bool, true, false, ℤ, pos, negsuc, refl, sym, ap, ◌∙◌, subst, arith, inl, inr}
use Rattle.std.specs.Prelude.{◌+ℤ◌, ◌-ℤ◌, ◌*ℤ◌, neg_ℤ, int_lt, nat_lt, unsigned_abs, if◌then◌else◌}
use Rattle.std.proofs.lemmas.Bool.{cond-true, cond-false, eqb-true, le-ltb, lt-ltb, cases_Bool, ne_eqb}
use Rattle.std.proofs.lemmas.Int.{ints, unsigned_abs-mul}
use Rattle.std.proofs.Math.Nat.{one-le-pow}
use Rattle.std.proofs.lemmas.Nat.{mul-pow, pow-add}
use Rattle.exact_algebra.proofs.IntLaws.{add_mul_z, mul_assoc_z}
use Rattle.tet_text.specs.Decimals.{Scaled, IsDecimal, lowest, signed, with_sign}
use Rattle.tet_text.proofs.Scaling.{abs_signed, lowest_tens}
use Rattle.grid_coords.specs.Origins.{decimal_from, moved, parts_from}
use Rattle.grid_coords.specs.Units.{grid_coordinate, is_negative, units, IsDecimalOnGrid}
use Rattle.grid_coords.specs.declared.grid.Grid.{Grid}
use Rattle.run_laws.specs.Measured.{WrittenBackLaw}

-- ---- sizes with signs

of_size : (n : ℤ) → signed (int_lt n (pos 0)) (unsigned_abs n) ≡ n
of_size (pos n) = ap (λ b. signed b n) (le-ltb n 0 (omega arith))
of_size (negsuc n) = refl

-- a size in units, with the sign of another one
signed_times : (b : Bool) (n k : ℕ) → signed b (n * k) ≡ signed b n *ℤ pos k
signed_times false n k = refl
signed_times true zero k = grind (arith, ints)
signed_times true (suc n) zero = let e : suc n * 0 ≡ 0 = omega arith in ap (signed true) e ∙ grind (arith, ints)
signed_times true (suc n) (suc k) = refl

sign_times : (n : ℤ) (k : ℕ) → 0 < k → int_lt (n *ℤ pos k) (pos 0) ≡ int_lt n (pos 0)
sign_times (pos n) k some = le-ltb (n * k) 0 (omega arith) ∙ sym (le-ltb n 0 (omega arith))
sign_times (negsuc n) zero some = absurd (omega arith)
sign_times (negsuc n) (suc k) some =
    let e : suc n * suc k ≡ suc k + n * suc k = grind arith in
    ap (λ z. int_lt z (pos 0)) (sym (signed_times true (suc n) (suc k))) ∙ below (suc n * suc k) (omega arith)
  where
    below : (m : ℕ) → 0 < m → int_lt (signed true m) (pos 0) ≡ true
    below zero none = absurd (omega arith)
    below (suc m) more = refl

-- ---- lowest terms

whole_lowest : (n s : ℕ) → (0 < s → n % 10 ≢ 0) → lowest n s ≡ (n, s)
whole_lowest n zero none = refl
whole_lowest n (suc s) none = cond-false _ _ _ (ne_eqb (n % 10) 0 (none (omega arith)))

-- a number with a last digit has one less tens
last_kept : (w v : ℤ) (s : ℕ) → 0 < s → unsigned_abs v % 10 ≢ 0 → unsigned_abs (v -ℤ w *ℤ pos (10 ^ s)) % 10 ≢ 0
last_kept w v zero some last = absurd (omega arith)
last_kept w v (suc s) some last = λ none.
    let n = v -ℤ w *ℤ pos (10 ^ suc s) in
    let b = int_lt n (pos 0) in
    let k = unsigned_abs n / 10 in
    let size : unsigned_abs n ≡ k * 10 = omega arith in
    let n-is : n ≡ signed b k *ℤ pos 10 = sym (of_size n) ∙ ap (signed b) size ∙ signed_times b k 10 in
    let tens : pos (10 ^ suc s) ≡ pos (10 ^ s) *ℤ pos 10 = ap pos (let e : 10 ^ suc s ≡ 10 ^ s * 10 = grind arith in e) in
    let w-is : w *ℤ pos (10 ^ suc s) ≡ (w *ℤ pos (10 ^ s)) *ℤ pos 10 = ap (λ (z : ℤ). w *ℤ z) tens ∙ sym (mul_assoc_z w (pos (10 ^ s)) (pos 10)) in
    let y = signed b k +ℤ w *ℤ pos (10 ^ s) in
    let sum : v ≡ n +ℤ w *ℤ pos (10 ^ suc s) = omega (arith, ints) in
    let all : v ≡ y *ℤ pos 10 = sum ∙ (λ j. n-is j +ℤ w-is j) ∙ sym (add_mul_z (signed b k) (w *ℤ pos (10 ^ s)) (pos 10)) in
    let abs : unsigned_abs v ≡ unsigned_abs y * 10 = ap unsigned_abs all ∙ unsigned_abs-mul y (pos 10) in
    last (omega arith)

-- ---- what is written

-- the sum of a difference and what was taken away, in smaller units
summed : (v w : ℤ) (s k : ℕ) → (v -ℤ w *ℤ pos (10 ^ s)) *ℤ pos (10 ^ k) +ℤ w *ℤ pos (10 ^ (s + k)) ≡ v *ℤ pos (10 ^ k)
summed v w s k =
    let tens : pos (10 ^ (s + k)) ≡ pos (10 ^ s) *ℤ pos (10 ^ k) = ap pos (pow-add 10 s k) in
    let w-is : w *ℤ pos (10 ^ (s + k)) ≡ (w *ℤ pos (10 ^ s)) *ℤ pos (10 ^ k) = ap (λ (z : ℤ). w *ℤ z) tens ∙ sym (mul_assoc_z w (pos (10 ^ s)) (pos (10 ^ k))) in
    let a = v -ℤ w *ℤ pos (10 ^ s) in
    let whole : a +ℤ w *ℤ pos (10 ^ s) ≡ v = omega (arith, ints) in
    ap (λ (z : ℤ). a *ℤ pos (10 ^ k) +ℤ z) w-is ∙ sym (add_mul_z a (w *ℤ pos (10 ^ s)) (pos (10 ^ k))) ∙ ap (λ (z : ℤ). z *ℤ pos (10 ^ k)) whole

-- units of a grid in units of its decimals and halvings
in_parts : (n t h : ℕ) → n * 10 ^ t * 2 ^ h * 5 ^ h ≡ n * 10 ^ (t + h)
in_parts n t h =
    let both : 2 ^ h * 5 ^ h ≡ 10 ^ h = sym (mul-pow 2 5 h) in
    let e : n * 10 ^ t * 2 ^ h * 5 ^ h ≡ n * (10 ^ t * (2 ^ h * 5 ^ h)) = grind arith in
    e ∙ ap (λ (m : ℕ). n * (10 ^ t * m)) both ∙ ap (λ (m : ℕ). n * m) (sym (pow-add 10 t h))

pub written_back : WrittenBackLaw
unfolding decimal_from moved units
written_back w g d is small on = go
  where
    n : ℤ
    n = d.value -ℤ w *ℤ pos (10 ^ d.scale)

    b : Bool
    b = int_lt n (pos 0)

    low : lowest (unsigned_abs n) d.scale ≡ (unsigned_abs n, d.scale)
    low = whole_lowest (unsigned_abs n) d.scale (λ some. last_kept w d.value d.scale some (is.no_trailing_zero some))

    moved_is : moved w d ≡ record { value = n; scale = d.scale }
    moved_is =
        cond-true _ _ _ (lt-ltb _ _ small) ∙ ap (with_sign b) low ∙ ap (λ (z : ℤ). record { value = z; scale = d.scale }) (of_size n)

    few : d.scale ≤ g.decimals
    few = subst (λ (e : Scaled). e.scale ≤ g.decimals) moved_is on.whole

    t : ℕ
    t = g.decimals - d.scale

    at : grid_coordinate g (moved w d) ≡ signed b (unsigned_abs n * 10 ^ t * 2 ^ g.halvings)
    at = ap (grid_coordinate g) moved_is

    fives : signed b (unsigned_abs n * 10 ^ t * 2 ^ g.halvings) *ℤ pos (5 ^ g.halvings) ≡ n *ℤ pos (10 ^ (t + g.halvings))
    fives =
        sym (signed_times b (unsigned_abs n * 10 ^ t * 2 ^ g.halvings) (5 ^ g.halvings)) ∙ ap (signed b) (in_parts (unsigned_abs n) t g.halvings)
        ∙ signed_times b (unsigned_abs n) (10 ^ (t + g.halvings)) ∙ ap (λ (z : ℤ). z *ℤ pos (10 ^ (t + g.halvings))) (of_size n)

    scale : g.decimals + g.halvings ≡ d.scale + (t + g.halvings)
    scale = omega (arith, few)

    parts : parts_from w g (grid_coordinate g (moved w d)) ≡ d.value *ℤ pos (10 ^ (t + g.halvings))
    parts =
        ap (parts_from w g) at ∙ (λ j. fives j +ℤ w *ℤ pos (10 ^ scale j)) ∙ summed d.value w d.scale (t + g.halvings)

    size : unsigned_abs (d.value *ℤ pos (10 ^ (t + g.halvings))) ≡ unsigned_abs d.value * 10 ^ (t + g.halvings)
    size = unsigned_abs-mul d.value (pos (10 ^ (t + g.halvings)))

    sign : int_lt (d.value *ℤ pos (10 ^ (t + g.halvings))) (pos 0) ≡ int_lt d.value (pos 0)
    sign = sign_times d.value (10 ^ (t + g.halvings)) (one-le-pow (t + g.halvings) 10 (omega arith))

    back : lowest (unsigned_abs d.value * 10 ^ (t + g.halvings)) (d.scale + (t + g.halvings)) ≡ (unsigned_abs d.value, d.scale)
    back = lowest_tens (unsigned_abs d.value) d.scale (t + g.halvings) ∙ whole_lowest (unsigned_abs d.value) d.scale is.no_trailing_zero

    go : decimal_from w g (grid_coordinate g (moved w d)) ≡ d
    go =
        (λ j. with_sign (int_lt (parts j) (pos 0)) (lowest (unsigned_abs (parts j)) (scale j)))
        ∙ (λ j. with_sign (sign j) (lowest (size j) (d.scale + (t + g.halvings))))
        ∙ ap (with_sign (int_lt d.value (pos 0))) back ∙ ap (λ (z : ℤ). record { value = z; scale = d.scale }) (of_size d.value)
