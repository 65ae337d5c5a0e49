-- How large a term of Ring.antt can be, and that a machine which computes it at a width does not overflow.
use Rattle.std.proofs.Common.{◌≡◌, ℕ, zero, suc, ◌+◌, ◌*◌, ◌^◌, ◌≤◌, ◌<◌, arith, refl, sym, ap, subst, ◌∙◌, Bool, true, false, List, [], ◌∷◌, FitsSigned, to_z, of_z}
use Rattle.std.specs.Prelude.{pos, ℤ, ◌+ℤ◌, ◌-ℤ◌, ◌*ℤ◌, neg_ℤ, T, unsigned_abs, ◌&&◌, ltb}
use Rattle.std.proofs.lemmas.Int.{ints, unsigned_abs-mul, fits_signed_from_abs, to_z-of_z}
use Rattle.std.proofs.lemmas.Nat.{mul-le}
use native.Mathlib.Nat.{le_refl}
use lib.Dec.{ltb→lt}
use lib.IntN.{+ℤ_idl}
use lib.Signed.{mag}
use mir.Syntax.{Width}
use mir.Val.{hbits}
use Rattle.exact_algebra.proofs.Ring.{Expr, num, var, add, sub, mul, neg, eval, nth}

-- ---- sums and products

pub abs_add : (a b : ℤ) (m n : ℕ) → unsigned_abs a ≤ m → unsigned_abs b ≤ n → unsigned_abs (a +ℤ b) ≤ m + n
abs_add a b m n h k = omega (arith, ints)

pub abs_neg : (a : ℤ) (m : ℕ) → unsigned_abs a ≤ m → unsigned_abs (neg_ℤ a) ≤ m
abs_neg a m h = omega (arith, ints)

pub abs_sub : (a b : ℤ) (m n : ℕ) → unsigned_abs a ≤ m → unsigned_abs b ≤ n → unsigned_abs (a -ℤ b) ≤ m + n
abs_sub a b m n h k = abs_add a (neg_ℤ b) m n h (abs_neg b n k)

pub abs_mul : (a b : ℤ) (m n : ℕ) → unsigned_abs a ≤ m → unsigned_abs b ≤ n → unsigned_abs (a *ℤ b) ≤ m * n
abs_mul a b m n h k = rw unsigned_abs-mul (mul-le (unsigned_abs a) (unsigned_abs b) m n h k)

-- ---- terms

abbrev pub nth_bound : List ℕ → ℕ → ℕ
nth_bound [] n = 0
nth_bound (b ∷ bs) zero = b
nth_bound (b ∷ bs) (suc n) = nth_bound bs n

-- the most that a term's absolute value can be, where those of the variables are at most the list's
abbrev pub bound : List ℕ → Expr → ℕ
bound β (num k) = unsigned_abs k
bound β (var i) = nth_bound β i
bound β (add a b) = bound β a + bound β b
bound β (sub a b) = bound β a + bound β b
bound β (mul a b) = bound β a * bound β b
bound β (neg a) = bound β a

-- each value's absolute value is at most its bound
abbrev pub AllWithin : List ℕ → List ℤ → Type 0
AllWithin β [] = Unit {0}
AllWithin [] (x ∷ xs) = ⊥
AllWithin (b ∷ bs) (x ∷ xs) = (unsigned_abs x ≤ b) × AllWithin bs xs

nth_within : (β : List ℕ) (ρ : List ℤ) (i : ℕ) → AllWithin β ρ → unsigned_abs (nth ρ i) ≤ nth_bound β i
nth_within β [] i h = omega arith
nth_within [] (x ∷ xs) i h = absurd h
nth_within (b ∷ bs) (x ∷ xs) zero h = h.0
nth_within (b ∷ bs) (x ∷ xs) (suc i) h = nth_within bs xs i h.1

pub eval_within : (β : List ℕ) (ρ : List ℤ) (e : Expr) → AllWithin β ρ → unsigned_abs (eval ρ e) ≤ bound β e
eval_within β ρ (num k) h = le_refl (unsigned_abs k)
eval_within β ρ (var i) h = nth_within β ρ i h
eval_within β ρ (add a b) h = abs_add (eval ρ a) (eval ρ b) (bound β a) (bound β b) (eval_within β ρ a h) (eval_within β ρ b h)
eval_within β ρ (sub a b) h = abs_sub (eval ρ a) (eval ρ b) (bound β a) (bound β b) (eval_within β ρ a h) (eval_within β ρ b h)
eval_within β ρ (mul a b) h = abs_mul (eval ρ a) (eval ρ b) (bound β a) (bound β b) (eval_within β ρ a h) (eval_within β ρ b h)
eval_within β ρ (neg a) h = abs_neg (eval ρ a) (bound β a) (eval_within β ρ a h)

-- ---- the machine

-- what code computes for a term at the width: each step's result goes to bits and is read again. Code's `-x` is `0 - x`
abbrev pub machine : Width → List ℤ → Expr → ℤ
machine w ρ (num k) = k
machine w ρ (var i) = to_z w (of_z w (nth ρ i))
machine w ρ (add a b) = to_z w (of_z w (machine w ρ a +ℤ machine w ρ b))
machine w ρ (sub a b) = to_z w (of_z w (machine w ρ a -ℤ machine w ρ b))
machine w ρ (mul a b) = to_z w (of_z w (machine w ρ a *ℤ machine w ρ b))
machine w ρ (neg a) = to_z w (of_z w (pos 0 -ℤ machine w ρ a))

-- each step fits
abbrev pub steps_fit : Width → List ℕ → Expr → Bool
steps_fit w β (num k) = ltb (unsigned_abs k) (2 ^ hbits w)
steps_fit w β (var i) = ltb (nth_bound β i) (2 ^ hbits w)
steps_fit w β (add a b) = ltb (bound β a + bound β b) (2 ^ hbits w) && (steps_fit w β a && steps_fit w β b)
steps_fit w β (sub a b) = ltb (bound β a + bound β b) (2 ^ hbits w) && (steps_fit w β a && steps_fit w β b)
steps_fit w β (mul a b) = ltb (bound β a * bound β b) (2 ^ hbits w) && (steps_fit w β a && steps_fit w β b)
steps_fit w β (neg a) = ltb (bound β a) (2 ^ hbits w) && steps_fit w β a

first : (a b : Bool) → T (a && b) → T a
first true b h = tt
first false b h = h

second : (a b : Bool) → T (a && b) → T b
second true b h = h
second false b h = absurd h

fits_of : (w : Width) (z : ℤ) (n : ℕ) → unsigned_abs z ≤ n → T (ltb n (2 ^ hbits w)) → FitsSigned w z
fits_of w z n h t = fits_signed_from_abs w z (omega (arith, ltb→lt n (2 ^ hbits w) t))

-- a step's result, given its operands'
stepped : (w : Width) (x z : ℤ) (n : ℕ) → x ≡ z → unsigned_abs z ≤ n → T (ltb n (2 ^ hbits w)) → to_z w (of_z w x) ≡ z
stepped w x z n e h t = let f : FitsSigned w z = fits_of w z n h t in ap (λ y. to_z w (of_z w y)) e ∙ to_z-of_z w z f

pub machine_is : (w : Width) (β : List ℕ) (ρ : List ℤ) (e : Expr) → AllWithin β ρ → T (steps_fit w β e) → machine w ρ e ≡ eval ρ e
machine_is w β ρ (num k) h t = refl
machine_is w β ρ (var i) h t = stepped w (nth ρ i) (nth ρ i) (nth_bound β i) refl (nth_within β ρ i h) t
machine_is w β ρ (add a b) h t =
    let u = second (ltb (bound β a + bound β b) (2 ^ hbits w)) (steps_fit w β a && steps_fit w β b) t in
    stepped w (machine w ρ a +ℤ machine w ρ b) (eval ρ a +ℤ eval ρ b) (bound β a + bound β b)
    (ap (λ x. x +ℤ machine w ρ b) (machine_is w β ρ a h (first (steps_fit w β a) (steps_fit w β b) u)) ∙ ap (λ x. eval ρ a +ℤ x) (machine_is w β ρ b h (second (steps_fit w β a) (steps_fit w β b) u)))
    (eval_within β ρ (add a b) h) (first (ltb (bound β a + bound β b) (2 ^ hbits w)) (steps_fit w β a && steps_fit w β b) t)
machine_is w β ρ (sub a b) h t =
    let u = second (ltb (bound β a + bound β b) (2 ^ hbits w)) (steps_fit w β a && steps_fit w β b) t in
    stepped w (machine w ρ a -ℤ machine w ρ b) (eval ρ a -ℤ eval ρ b) (bound β a + bound β b)
    (ap (λ x. x -ℤ machine w ρ b) (machine_is w β ρ a h (first (steps_fit w β a) (steps_fit w β b) u)) ∙ ap (λ x. eval ρ a -ℤ x) (machine_is w β ρ b h (second (steps_fit w β a) (steps_fit w β b) u)))
    (eval_within β ρ (sub a b) h) (first (ltb (bound β a + bound β b) (2 ^ hbits w)) (steps_fit w β a && steps_fit w β b) t)
machine_is w β ρ (mul a b) h t =
    let u = second (ltb (bound β a * bound β b) (2 ^ hbits w)) (steps_fit w β a && steps_fit w β b) t in
    stepped w (machine w ρ a *ℤ machine w ρ b) (eval ρ a *ℤ eval ρ b) (bound β a * bound β b)
    (ap (λ x. x *ℤ machine w ρ b) (machine_is w β ρ a h (first (steps_fit w β a) (steps_fit w β b) u)) ∙ ap (λ x. eval ρ a *ℤ x) (machine_is w β ρ b h (second (steps_fit w β a) (steps_fit w β b) u)))
    (eval_within β ρ (mul a b) h) (first (ltb (bound β a * bound β b) (2 ^ hbits w)) (steps_fit w β a && steps_fit w β b) t)
machine_is w β ρ (neg a) h t =
    let u = second (ltb (bound β a) (2 ^ hbits w)) (steps_fit w β a) t in
    stepped w (pos 0 -ℤ machine w ρ a) (neg_ℤ (eval ρ a)) (bound β a) (+ℤ_idl (neg_ℤ (machine w ρ a)) ∙ ap neg_ℤ (machine_is w β ρ a h u))
    (eval_within β ρ (neg a) h) (first (ltb (bound β a) (2 ^ hbits w)) (steps_fit w β a) t)

-- `machine_is`, before the last result goes to bits: what an overflow goal asks
abbrev pub raw : Width → List ℤ → Expr → ℤ
raw w ρ (num k) = k
raw w ρ (var i) = nth ρ i
raw w ρ (add a b) = machine w ρ a +ℤ machine w ρ b
raw w ρ (sub a b) = machine w ρ a -ℤ machine w ρ b
raw w ρ (mul a b) = machine w ρ a *ℤ machine w ρ b
raw w ρ (neg a) = pos 0 -ℤ machine w ρ a

-- an overflow goal
pub raw_fits : (w : Width) (β : List ℕ) (ρ : List ℤ) (e : Expr) → AllWithin β ρ → T (steps_fit w β e) → FitsSigned w (raw w ρ e)
raw_fits w β ρ (num k) h t = fits_of w k (unsigned_abs k) (le_refl (unsigned_abs k)) t
raw_fits w β ρ (var i) h t = fits_of w (nth ρ i) (nth_bound β i) (nth_within β ρ i h) t
raw_fits w β ρ (add a b) h t =
    let u = second (ltb (bound β a + bound β b) (2 ^ hbits w)) (steps_fit w β a && steps_fit w β b) t in
    subst (FitsSigned w) (sym (ap (λ x. x +ℤ machine w ρ b) (machine_is w β ρ a h (first (steps_fit w β a) (steps_fit w β b) u)) ∙ ap (λ x. eval ρ a +ℤ x) (machine_is w β ρ b h (second (steps_fit w β a) (steps_fit w β b) u))))
    (fits_of w (eval ρ a +ℤ eval ρ b) (bound β a + bound β b) (eval_within β ρ (add a b) h) (first (ltb (bound β a + bound β b) (2 ^ hbits w)) (steps_fit w β a && steps_fit w β b) t))
raw_fits w β ρ (sub a b) h t =
    let u = second (ltb (bound β a + bound β b) (2 ^ hbits w)) (steps_fit w β a && steps_fit w β b) t in
    subst (FitsSigned w) (sym (ap (λ x. x -ℤ machine w ρ b) (machine_is w β ρ a h (first (steps_fit w β a) (steps_fit w β b) u)) ∙ ap (λ x. eval ρ a -ℤ x) (machine_is w β ρ b h (second (steps_fit w β a) (steps_fit w β b) u))))
    (fits_of w (eval ρ a -ℤ eval ρ b) (bound β a + bound β b) (eval_within β ρ (sub a b) h) (first (ltb (bound β a + bound β b) (2 ^ hbits w)) (steps_fit w β a && steps_fit w β b) t))
raw_fits w β ρ (mul a b) h t =
    let u = second (ltb (bound β a * bound β b) (2 ^ hbits w)) (steps_fit w β a && steps_fit w β b) t in
    subst (FitsSigned w) (sym (ap (λ x. x *ℤ machine w ρ b) (machine_is w β ρ a h (first (steps_fit w β a) (steps_fit w β b) u)) ∙ ap (λ x. eval ρ a *ℤ x) (machine_is w β ρ b h (second (steps_fit w β a) (steps_fit w β b) u))))
    (fits_of w (eval ρ a *ℤ eval ρ b) (bound β a * bound β b) (eval_within β ρ (mul a b) h) (first (ltb (bound β a * bound β b) (2 ^ hbits w)) (steps_fit w β a && steps_fit w β b) t))
raw_fits w β ρ (neg a) h t =
    let u = second (ltb (bound β a) (2 ^ hbits w)) (steps_fit w β a) t in
    subst (FitsSigned w) (sym (+ℤ_idl (neg_ℤ (machine w ρ a)) ∙ ap neg_ℤ (machine_is w β ρ a h u)))
    (fits_of w (neg_ℤ (eval ρ a)) (bound β a) (eval_within β ρ (neg a) h) (first (ltb (bound β a) (2 ^ hbits w)) (steps_fit w β a) t))

-- ---- values that are equal to others, as a call's result to what it ensures

abbrev pub AllSame : List ℤ → List ℤ → Type 0
AllSame [] [] = Unit {0}
AllSame [] (y ∷ ys) = ⊥
AllSame (x ∷ xs) [] = ⊥
AllSame (x ∷ xs) (y ∷ ys) = (x ≡ y) × AllSame xs ys

same_list : (ρ σ : List ℤ) → AllSame ρ σ → ρ ≡ σ
same_list [] [] h = refl
same_list [] (y ∷ ys) h = absurd h
same_list (x ∷ xs) [] h = absurd h
same_list (x ∷ xs) (y ∷ ys) h = ap (λ z. z ∷ xs) h.0 ∙ ap (λ zs. y ∷ zs) (same_list xs ys h.1)

-- a number that went to bits and is read again
pub back : (w : Width) (n : ℕ) (z : ℤ) → T (ltb n (2 ^ hbits w)) → unsigned_abs z ≤ n → to_z w (of_z w z) ≡ z
back w n z t h = stepped w z z n refl h t

-- a term's value at such values
pub eval_at : (ρ σ : List ℤ) (e : Expr) → AllSame ρ σ → eval ρ e ≡ eval σ e
eval_at ρ σ e s = ap (λ τ. eval τ e) (same_list ρ σ s)

-- what the code computes, and that no step of it overflows
pub machine_at : (w : Width) (β : List ℕ) (ρ σ : List ℤ) (e : Expr) → AllSame ρ σ → AllWithin β σ → T (steps_fit w β e) → machine w ρ e ≡ eval σ e
machine_at w β ρ σ e s h t = ap (λ τ. machine w τ e) (same_list ρ σ s) ∙ machine_is w β σ e h t

pub raw_fits_at : (w : Width) (β : List ℕ) (ρ σ : List ℤ) (e : Expr) → AllSame ρ σ → AllWithin β σ → T (steps_fit w β e) → FitsSigned w (raw w ρ e)
raw_fits_at w β ρ σ e s h t = subst (λ τ. FitsSigned w (raw w τ e)) (sym (same_list ρ σ s)) (raw_fits w β σ e h t)

-- a call's result that went to bits and is read again: `read w c.f.result c.f.type_inv`
pub read : (w : Width) (z : ℤ) → mag z < 2 ^ hbits w → to_z w (of_z w z) ≡ z
read w z h = let f : FitsSigned w z = record { sfits = h } in to_z-of_z w z f

-- ---- values of another width, as under `x as i128`

abbrev pub cast : Width → List ℤ → List ℤ
cast w [] = []
cast w (z ∷ zs) = to_z w (of_z w z) ∷ cast w zs

abbrev pub all_below : ℕ → List ℕ → Bool
all_below n [] = true
all_below n (b ∷ bs) = ltb b n && all_below n bs

cast_same : (w : Width) (β : List ℕ) (σ : List ℤ) → AllWithin β σ → T (all_below (2 ^ hbits w) β) → AllSame (cast w σ) σ
cast_same w β [] h t = tt
cast_same w [] (z ∷ zs) h t = absurd h
cast_same w (b ∷ bs) (z ∷ zs) h t =
    (back w b z (first (ltb b (2 ^ hbits w)) (all_below (2 ^ hbits w) bs) t) h.0, cast_same w bs zs h.1 (second (ltb b (2 ^ hbits w)) (all_below (2 ^ hbits w) bs) t))

-- `machine_is` and `raw_fits` at the width w, where the variables are cast from the width v
pub machine_cast : (w v : Width) (β : List ℕ) (σ : List ℤ) (e : Expr) → AllWithin β σ → T (steps_fit w β e) → T (all_below (2 ^ hbits v) β) → machine w (cast v σ) e ≡ eval σ e
machine_cast w v β σ e h t u = machine_at w β (cast v σ) σ e (cast_same v β σ h u) h t

pub raw_fits_cast : (w v : Width) (β : List ℕ) (σ : List ℤ) (e : Expr) → AllWithin β σ → T (steps_fit w β e) → T (all_below (2 ^ hbits v) β) → FitsSigned w (raw w (cast v σ) e)
raw_fits_cast w v β σ e h t u = raw_fits_at w β (cast v σ) σ e (cast_same v β σ h u) h t
