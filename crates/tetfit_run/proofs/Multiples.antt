-- The nearest multiples of numbers.
use Rattle.std.proofs.Common.{◌≡◌, ℕ, ◌+◌, ◌*◌, ◌/◌, ◌^◌, ◌<◌, ◌≤◌, refl, sym, ap, ◌∙◌, true, false, nat_lt, Option, Some, None, SomeIff, arith}
use Rattle.std.proofs.Math.Nat.{mul-le-mul_right, mul_assoc}
use Rattle.std.proofs.lemmas.Bool.{lt-ltb, le-ltb}
use Rattle.std.proofs.lemmas.Nat.{div_below}
use Rattle.tet_text.proofs.Numerals.{tens_le}
use Rattle.tetfit_run.specs.Units.{if_short, nearest_multiple, size_by}

-- a number far below the unit is nearest to nothing
pub nearest_nothing : (k over lower : ℕ) → 2 ≤ k → over < 10 ^ 36 → 35 < lower → nearest_multiple k over (10 ^ lower) ≡ 0
unfolding nearest_multiple
nearest_nothing k over lower least small far =
    let large = tens_le 36 lower far in
    let twice = mul-le-mul_right (10 ^ lower) least in
    let same = mul_assoc 2 k (10 ^ lower) in
    let none : (2 * over + k * 10 ^ lower) / (2 * k * 10 ^ lower) < 1 =
    div_below (2 * over + k * 10 ^ lower) (2 * k * 10 ^ lower) 1 (omega (arith, large, twice, same)) (omega (arith, large, twice, same)) in
    let zero : (2 * over + k * 10 ^ lower) / (2 * k * 10 ^ lower) ≡ 0 = omega (arith, none) in
    let nothing : 0 * k ≡ 0 = omega arith in ap (λ (q : ℕ). q * k) zero ∙ nothing

-- a number over the limit has no size
pub size_over : (k n raise lower over : ℕ) → over ≡ n * 10 ^ raise → 10 ^ 36 ≤ over → size_by k n raise lower ≡ None
unfolding size_by
size_over k n raise lower over is le = let e = le-ltb (n * 10 ^ raise) (10 ^ 36) (omega (arith, is, le)) in rw e refl

-- nor where the multiple is over it
pub size_long : (k n raise lower over size : ℕ) → over ≡ n * 10 ^ raise → over < 10 ^ 36 → size ≡ nearest_multiple k over (10 ^ lower) → 10 ^ 36 ≤ size
    → size_by k n raise lower ≡ None
unfolding size_by
size_long k n raise lower over size is lt e le =
    let here : nat_lt over (10 ^ 36) ≡ true = lt-ltb over (10 ^ 36) lt in
    let far : nat_lt size (10 ^ 36) ≡ false = le-ltb size (10 ^ 36) le in
    ap (λ (m : ℕ). if_short m (nearest_multiple k m (10 ^ lower))) (sym is) ∙ ap (if_short over) (sym e) ∙ both here far
  where
    both : nat_lt over (10 ^ 36) ≡ true → nat_lt size (10 ^ 36) ≡ false → if_short over size ≡ None
    both here far = rw here (rw far refl)

-- and else it is the multiple
pub size_short : (k n raise lower over size : ℕ) → over ≡ n * 10 ^ raise → over < 10 ^ 36 → size ≡ nearest_multiple k over (10 ^ lower) → size < 10 ^ 36
    → size_by k n raise lower ≡ Some size
unfolding size_by
size_short k n raise lower over size is lt e small =
    ap (λ (m : ℕ). if_short m (nearest_multiple k m (10 ^ lower))) (sym is) ∙ ap (if_short over) (sym e)
    ∙ both (lt-ltb over (10 ^ 36) lt) (lt-ltb size (10 ^ 36) small)
  where
    both : nat_lt over (10 ^ 36) ≡ true → nat_lt size (10 ^ 36) ≡ true → if_short over size ≡ Some size
    both here there = rw here (rw there refl)

-- ---- products that are tested

pub over_is : (n raise tens : ℕ) (r : Option ℕ) (over : ℕ) → tens ≡ 10 ^ raise → SomeIff r (n * tens < 2 ^ 128) (n * tens) → r ≡ Some over → over ≡ n * 10 ^ raise
over_is n raise tens None over e h is = absurd (cc)
over_is n raise tens (Some m) over e h is = cc

pub over_far : (n raise tens : ℕ) (r : Option ℕ) → tens ≡ 10 ^ raise → SomeIff r (n * tens < 2 ^ 128) (n * tens) → r ≡ None → 10 ^ 36 ≤ n * 10 ^ raise
over_far n raise tens (Some m) e h is = absurd (cc)
over_far n raise tens None e h is = let same = ap (λ (t : ℕ). n * t) e in omega (arith, h, same)
