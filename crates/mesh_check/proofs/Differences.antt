-- Numbers less whole numbers, and the first point with one of too many digits.
use Rattle.std.specs.Int.{w128}
use Rattle.std.proofs.Common.{◌≡◌, to_z, of_z, ◌&&◌, take, ◌++◌, [], ℕ, ◌+◌, ◌*◌, ◌/◌, ◌^◌, ◌<◌, ◌≤◌, ℤ, pos, true, false, List, length, get_or, drop, ◌∷◌, Option, Some, None, sym, ap, ◌∙◌, subst, arith, inl, inr, suc}
use Rattle.std.specs.Prelude.{unsigned_abs, ◌*ℤ◌, ◌-ℤ◌, int_lt, not, map, Ok, Err}
use Rattle.std.proofs.Math.Nat.{le-div_iff_mul-le, mul-le-mul_right}
use Rattle.std.proofs.Math.Seq.{drop-cons}
use Rattle.std.proofs.lemmas.Bool.{cond-true, cond-false, le-ltb, lt-ltb, cases_lt, cases_Bool}
use Rattle.std.proofs.lemmas.Int.{unsigned_abs-mul, ints}
use Rattle.std.proofs.lemmas.List.{at_drop_all, map_more, take_all}
use Rattle.tet_text.specs.Decimals.{Scaled, lowest, signed, with_sign}
use Rattle.tet_text.proofs.Numerals.{pow10_pos, tens_le}
use Rattle.tet_text.proofs.Scaling.{abs_signed, lowest_is}
use Rattle.grid_coords.proofs.Moved.{moved_is}
use Rattle.grid_coords.specs.Choice.{unless_over}
use Rattle.grid_coords.specs.Origins.{moved, moved_point}
use Rattle.grid_coords.specs.declared.origin.WholePoint.{WholePoint}
use Rattle.grid_coords.specs.declared.points.DecimalPoint.{DecimalPoint}
use Rattle.mesh_check.specs.Moving.{difference, is_short, is_short_from, first_long, moved_from, moved_within, moved_point_within, IsDifference}

-- ---- whole numbers in units of a decimal

pub over_quotient : (w t most : ℕ) → 0 < t → most / t < w → most < w * t
over_quotient w t most some over =
    elim (cases_lt most (w * t)) [
      | inl lt ↦ lt
      | inr le ↦ let within = (le-div_iff_mul-le {k = t} {x = w} {y = most} some).1 le in absurd (omega arith)
    ]

pub within_quotient : (w t most : ℕ) → 0 < t → w ≤ most / t → w * t ≤ most
within_quotient w t most some within = (le-div_iff_mul-le {k = t} {x = w} {y = most} some).0 within

-- the same of what the code has: n of w, and t of ten to the power of s
pub over_from : (n w t s : ℕ) → n ≡ w → t ≡ 10 ^ s → 2 * 10 ^ 36 / t < n → 2 * 10 ^ 36 < w * 10 ^ s
over_from n w t s n-is t-is over =
    over_quotient w (10 ^ s) (2 * 10 ^ 36) (pow10_pos s)
    (subst (λ (k : ℕ). 2 * 10 ^ 36 / k < w) t-is (subst (λ (k : ℕ). 2 * 10 ^ 36 / t < k) n-is over))

pub within_from : (n w t s : ℕ) → n ≡ w → t ≡ 10 ^ s → n ≤ 2 * 10 ^ 36 / t → w * 10 ^ s ≤ 2 * 10 ^ 36
within_from n w t s n-is t-is within =
    within_quotient w (10 ^ s) (2 * 10 ^ 36) (pow10_pos s)
    (subst (λ (k : ℕ). w ≤ 2 * 10 ^ 36 / k) t-is (subst (λ (k : ℕ). k ≤ 2 * 10 ^ 36 / t) n-is within))

-- a whole number but 0 in units of more than 36 decimals
pub fine_far : (w s : ℕ) → 0 < w → 36 < s → 2 * 10 ^ 36 < w * 10 ^ s
fine_far w s some fine =
    let le = tens_le 37 s (omega arith) in
    let more : 1 * 10 ^ s ≤ w * 10 ^ s = mul-le-mul_right (10 ^ s) (let one : 1 ≤ w = omega arith in one) in
    omega arith

-- ---- numbers of too many digits

-- a decimal less a whole number over twice the limit
pub far_is_long : (w : ℤ) (d : Scaled) → unsigned_abs d.value < 10 ^ 36 → 2 * 10 ^ 36 < unsigned_abs w * 10 ^ d.scale → is_short w d ≡ false
far_is_long w d small far =
    let t = w *ℤ pos (10 ^ d.scale) in
    let size : unsigned_abs t ≡ unsigned_abs w * 10 ^ d.scale = unsigned_abs-mul w (pos (10 ^ d.scale)) in
    let long : 10 ^ 36 ≤ unsigned_abs (d.value -ℤ t) = omega (arith, ints) in
    le-ltb _ _ long

pub within_short : (w : ℤ) (d : Scaled) → is_short w d ≡ true → moved_within w d ≡ Some (moved w d)
unfolding moved_within
within_short w d short = cond-true _ _ _ short

pub within_long : (w : ℤ) (d : Scaled) → is_short w d ≡ false → moved_within w d ≡ None
unfolding moved_within
within_long w d long = cond-false _ _ _ long

pub long_is : (w : ℤ) (d : Scaled) (n : ℤ) → n ≡ difference w d → 10 ^ 36 ≤ unsigned_abs n → moved_within w d ≡ None
long_is w d n n-is many = within_long w d (le-ltb _ _ (subst (λ (z : ℤ). 10 ^ 36 ≤ unsigned_abs z) n-is many))

pub short_is : (w : ℤ) (d : Scaled) (n v : ℤ) (k : ℕ) (p : ℕ × ℕ) → n ≡ difference w d → k ≡ unsigned_abs n → k < 10 ^ 36 → p ≡ lowest k d.scale
    → v ≡ signed (int_lt n (pos 0)) p.0 → Some (record { value = to_z w128 (of_z w128 v); scale = p.1 }) ≡ moved_within w d
short_is w d n v k p n-is k-is small p-is v-is =
    let few : unsigned_abs (difference w d) < 10 ^ 36 = subst (λ (z : ℤ). unsigned_abs z < 10 ^ 36) n-is (subst (λ (m : ℕ). m < 10 ^ 36) k-is small) in
    ap (λ (m : Scaled). Some m) (moved_is w d n v k p n-is k-is small p-is v-is) ∙ sym (within_short w d (lt-ltb _ _ few))

none_long : (w : ℤ) (d : Scaled) → moved_within w d ≡ None → is_short w d ≡ false
none_long w d none =
    elim (cases_Bool (is_short w d)) [
      | inl short ↦ let some = within_short w d short in absurd (cc)
      | inr long ↦ long
    ]

-- what a number is that is moved
pub record IsMoved (w : ℤ) (d m : Scaled) : Type 0 where
  pub short : is_short w d ≡ true
  pub is : m ≡ moved w d

some_moved : (w : ℤ) (d m : Scaled) → moved_within w d ≡ Some m → IsMoved w d m
some_moved w d m some =
    elim (cases_Bool (is_short w d)) [
      | inl short ↦ let is = within_short w d short in record { short = short; is = cc }
      | inr long ↦ let none = within_long w d long in absurd (cc)
    ]

-- ---- points

point_long : (w : WholePoint) (p : DecimalPoint) → is_short_from w p ≡ false → moved_point_within w p ≡ None
unfolding moved_point_within
point_long w p long = cond-false _ _ _ long

pub long_x : (w : WholePoint) (p : DecimalPoint) → moved_within w.x p.x ≡ None → moved_point_within w p ≡ None
long_x w p x = point_long w p (λ j. none_long w.x p.x x j && (is_short w.y p.y && is_short w.z p.z))

pub long_y : (w : WholePoint) (p : DecimalPoint) (a : Scaled) → moved_within w.x p.x ≡ Some a → moved_within w.y p.y ≡ None → moved_point_within w p ≡ None
long_y w p a x y = point_long w p (λ j. (some_moved w.x p.x a x).short j && (none_long w.y p.y y j && is_short w.z p.z))

pub long_z : (w : WholePoint) (p : DecimalPoint) (a b : Scaled) → moved_within w.x p.x ≡ Some a → moved_within w.y p.y ≡ Some b → moved_within w.z p.z ≡ None → moved_point_within w p ≡ None
long_z w p a b x y z =
    point_long w p (λ j. (some_moved w.x p.x a x).short j && ((some_moved w.y p.y b y).short j && none_long w.z p.z z j))

pub point_moved : (w : WholePoint) (p : DecimalPoint) (a b c : Scaled) → moved_within w.x p.x ≡ Some a → moved_within w.y p.y ≡ Some b → moved_within w.z p.z ≡ Some c
    → Some (record { x = a; y = b; z = c; line = p.line }) ≡ moved_point_within w p
unfolding moved_point_within
point_moved w p a b c x y z =
    let mx = some_moved w.x p.x a x in
    let my = some_moved w.y p.y b y in
    let mz = some_moved w.z p.z c z in
    let short : is_short_from w p ≡ true = λ j. mx.short j && (my.short j && mz.short j) in
    let same : record { x = a; y = b; z = c; line = p.line } ≡ moved_point w p = λ j. record { x = mx.is j; y = my.is j; z = mz.is j; line = p.line } in
    ap (λ (q : DecimalPoint). Some q) same ∙ sym (cond-true _ _ _ short)

-- ---- what a moved number is

pub moved_exact : (w : ℤ) (d : Scaled) → is_short w d ≡ true → IsDifference w d (moved w d)
unfolding moved
moved_exact w d short =
    let n = difference w d in
    let low = lowest (unsigned_abs n) d.scale in
    let is : moved w d ≡ with_sign (int_lt n (pos 0)) low = cond-true _ _ _ short in
    subst (IsDifference w d) (sym is) (record {
      size = ap (λ (k : ℕ). k * 10 ^ d.scale) (abs_signed (int_lt n (pos 0)) low.0) ∙ lowest_is (unsigned_abs n) d.scale;
      sign = ap (signed (int_lt n (pos 0))) (sym (abs_signed (int_lt n (pos 0)) low.0));
    })

-- ---- the first point with a coordinate of too many digits, front to back

pub point_none : (w : WholePoint) (p : DecimalPoint) → moved_point_within w p ≡ None → is_short_from w p ≡ false
unfolding moved_point_within
point_none w p none =
    elim (cases_Bool (is_short_from w p)) [
      | inl short ↦ let some : moved_point_within w p ≡ Some (moved_point w p) = cond-true _ _ _ short in absurd (cc)
      | inr long ↦ long
    ]

-- what a point is that is moved
pub record IsPointMoved (w : WholePoint) (p q : DecimalPoint) : Type 0 where
  pub short : is_short_from w p ≡ true
  pub is : q ≡ moved_point w p

pub point_some : (w : WholePoint) (p q : DecimalPoint) → moved_point_within w p ≡ Some q → IsPointMoved w p q
unfolding moved_point_within
point_some w p q some =
    elim (cases_Bool (is_short_from w p)) [
      | inl short ↦ let is : moved_point_within w p ≡ Some (moved_point w p) = cond-true _ _ _ short in record { short = short; is = cc }
      | inr long ↦ let none : moved_point_within w p ≡ None = cond-false _ _ _ long in absurd (cc)
    ]

-- the rest of a list from the place of p on
from_here : {X : Type 0} (xs : List X) (i : ℕ) (x : X) → i < length xs → x ≡ get_or xs i x → drop i xs ≡ x ∷ drop (i + 1) xs
from_here xs i x lt is =
    let e : suc i ≡ i + 1 = omega arith in
    drop-cons xs i x lt ∙ ap (λ y. y ∷ drop (suc i) xs) (sym is) ∙ ap (λ (j : ℕ). x ∷ drop j xs) e

pub first_more : (w : WholePoint) (ps : List DecimalPoint) (i : ℕ) (p : DecimalPoint) → i < length ps → p ≡ get_or ps i p → is_short_from w p ≡ true → first_long w (drop i ps) ≡ first_long w (drop (i + 1) ps)
unfolding first_long
first_more w ps i p lt is short = ap (first_long w) (from_here ps i p lt is) ∙ cond-false _ _ _ (ap not short)

pub first_here : (w : WholePoint) (ps : List DecimalPoint) (i : ℕ) (p : DecimalPoint) → i < length ps → p ≡ get_or ps i p → is_short_from w p ≡ false → first_long w (drop i ps) ≡ Some p
unfolding first_long
first_here w ps i p lt is long = ap (first_long w) (from_here ps i p lt is) ∙ cond-true _ _ _ (ap not long)

pub first_all : (w : WholePoint) (ps : List DecimalPoint) (i : ℕ) → length ps ≤ i → first_long w (drop i ps) ≡ None
unfolding first_long
first_all w ps i le = at_drop_all (first_long w) ps i le

-- ---- all points

pub refused_here : (w : WholePoint) (ps : List DecimalPoint) (p : DecimalPoint) → first_long w ps ≡ Some p → moved_from w ps ≡ Err (record { line = p.line })
unfolding moved_from
refused_here w ps p first = ap (λ (o : Option DecimalPoint). unless_over o (map (moved_point w) ps)) first

pub all_moved : (w : WholePoint) (ps : List DecimalPoint) → first_long w ps ≡ None → moved_from w ps ≡ Ok (map (moved_point w) ps)
unfolding moved_from
all_moved w ps first = ap (λ (o : Option DecimalPoint). unless_over o (map (moved_point w) ps)) first

-- one more point is moved
pub list_more : (w : WholePoint) (ps : List DecimalPoint) (i : ℕ) (p q : DecimalPoint) (list more : List DecimalPoint) → i < length ps → p ≡ get_or ps i p → q ≡ moved_point w p
    → list ≡ map (moved_point w) (take i ps) → more ≡ list ++ q ∷ [] → more ≡ map (moved_point w) (take (i + 1) ps)
list_more w ps i p q list more lt is q-is list-is more-is =
    more-is ∙ (λ j. list-is j ++ (q-is ∙ ap (moved_point w) is) j ∷ []) ∙ sym (map_more (moved_point w) ps i p lt)

pub list_all : (w : WholePoint) (ps : List DecimalPoint) (i : ℕ) (list : List DecimalPoint) → length ps ≤ i → list ≡ map (moved_point w) (take i ps) → list ≡ map (moved_point w) ps
list_all w ps i list le is = is ∙ ap (map (moved_point w)) (take_all i ps le)
