-- A number that is whole on a grid is exact in millionths of its unit.
use Rattle.std.proofs.Common.{◌≡◌, ℕ, ◌+◌, ◌*◌, ◌/◌, ◌^◌, ◌<◌, ◌≤◌, ℤ, pos, negsuc, ◌*ℤ◌, ◌<ℤ◌, ◌≤ℤ◌, Bool, true, false, unsigned_abs, refl, sym, ap, ◌∙◌, arith}
use Rattle.std.specs.Prelude.{int_lt}
use Rattle.std.proofs.lemmas.Bool.{cond-true, le-leb, le-ltb}
use Rattle.std.proofs.lemmas.Int.{ints, unsigned_abs-mul}
use Rattle.std.proofs.lemmas.Nat.{pow-add}
use Rattle.std.proofs.Math.Nat.{mul-div_cancel}
use Rattle.std.proofs.Math.IntN.{*ℤ_comm}
use Rattle.exact_algebra.proofs.Signs.{mul_nonneg, mul_neg}
use Rattle.tet_text.specs.Decimals.{Scaled, signed}
use Rattle.tet_text.proofs.Numerals.{pow10_pos}
use Rattle.grid_coords.specs.declared.grid.Grid.{Grid}
use Rattle.grid_coords.specs.declared.points.DecimalPoint.{DecimalPoint}
use Rattle.grid_coords.specs.Rounding.{nearest_whole}
use Rattle.grid_coords.specs.Units.{limit, capped, is_negative}
use Rattle.node_files.specs.LeastGrid.{units_on, coordinate_on, point_on, IsInUnits, IsPointInUnits}
use Rattle.node_files.proofs.LowestTerms.{units_are}
use Rattle.tetwhere_run.specs.Nearest.{millionths, nearest_coordinate, nearest_point}
use Rattle.tetwhere_run.specs.Corners.{AreEqual, AreEqualPoints, in_millionths}
use Rattle.tetwhere_run.proofs.Tens.{nearest_of_whole}

pub cancel : (a b n : ℕ) → 0 < n → a * n ≡ b * n → a ≡ b
cancel a b n some e = sym (mul-div_cancel a some) ∙ ap (λ (m : ℕ). m / n) e ∙ mul-div_cancel b some

-- so many units, by another decimal of the same number: v / 10^s is w / 10^t
units_alike : (v w ten two u s t : ℕ) → 0 < t → v * t ≡ w * s → w * ten * two ≡ u * t → v * ten * two ≡ u * s
units_alike v w ten two u s t some same units =
    let left : v * ten * two * t ≡ v * t * ten * two = omega arith in
    let middle : w * s * ten * two ≡ w * ten * two * s = omega arith in
    let right : u * t * s ≡ u * s * t = omega arith in
    cancel (v * ten * two) (u * s) t some (left ∙ ap (λ (m : ℕ). m * ten * two) same ∙ middle ∙ ap (λ (m : ℕ). m * s) units ∙ right)

sizes_alike : (d e : Scaled) → AreEqual d e → unsigned_abs d.value * 10 ^ e.scale ≡ unsigned_abs e.value * 10 ^ d.scale
sizes_alike d e same = sym (unsigned_abs-mul d.value (pos (10 ^ e.scale))) ∙ ap unsigned_abs same ∙ unsigned_abs-mul e.value (pos (10 ^ d.scale))

not_both : (x y : ℤ) → pos 0 ≤ℤ x → y <ℤ pos 0 → x ≡ y → ⊥
not_both x y h k e = omega (arith, ints)

below : (b n : ℕ) → 0 < n → (negsuc b *ℤ pos n) <ℤ pos 0
below b n some = let product = mul_neg (pos n) (negsuc b) (omega (arith, ints)) (omega (arith, ints)) in let e = *ℤ_comm (negsuc b) (pos n) in rw e product

-- equal numbers have one sign
pub signs_alike : (a b : ℤ) (m n : ℕ) → 0 < m → 0 < n → a *ℤ pos m ≡ b *ℤ pos n → int_lt a (pos 0) ≡ int_lt b (pos 0)
signs_alike (pos a) (pos b) m n some other same = le-ltb a 0 (omega arith) ∙ sym (le-ltb b 0 (omega arith))
signs_alike (negsuc a) (negsuc b) m n some other same = refl
signs_alike (pos a) (negsuc b) m n some other same = absurd (not_both (pos a *ℤ pos m) (negsuc b *ℤ pos n) (mul_nonneg (pos a) (pos m) (omega (arith, ints)) (omega (arith, ints))) (below b n other) same)
signs_alike (negsuc a) (pos b) m n some other same = absurd (not_both (pos b *ℤ pos n) (negsuc a *ℤ pos m) (mul_nonneg (pos b) (pos n) (omega (arith, ints)) (omega (arith, ints))) (below a m some) (sym same))

-- a whole number of units is as many millions of millionths
units_exact : (g : Grid) (q : Scaled) (u : ℕ) → unsigned_abs q.value * 10 ^ g.decimals * 2 ^ g.halvings ≡ u * 10 ^ q.scale → millionths g q ≡ u * 1000000
unfolding millionths
units_exact g q u is =
    let n = unsigned_abs q.value in
    let tens : n * 10 ^ (g.decimals + 6) * 2 ^ g.halvings ≡ n * (10 ^ g.decimals * 1000000) * 2 ^ g.halvings = ap (λ (t : ℕ). n * t * 2 ^ g.halvings) (pow-add 10 g.decimals 6) in
    let out : n * (10 ^ g.decimals * 1000000) * 2 ^ g.halvings ≡ n * 10 ^ g.decimals * 2 ^ g.halvings * 1000000 = omega arith in
    let last : u * 10 ^ q.scale * 1000000 ≡ u * 1000000 * 10 ^ q.scale = omega arith in
    ap (λ (m : ℕ). nearest_whole m q.scale) (tens ∙ out ∙ ap (λ (m : ℕ). m * 1000000) is ∙ last) ∙ nearest_of_whole (u * 1000000) q.scale

signed_millions : (b : Bool) (u : ℕ) → signed b (u * 1000000) ≡ signed b u *ℤ pos 1000000
signed_millions true u = omega (arith, ints)
signed_millions false u = omega (arith, ints)

-- a query's coordinate that is a whole number of units keeps it
pub coordinate_kept : (g : Grid) (q d : Scaled) → AreEqual q d → IsInUnits g d → nearest_coordinate g q ≡ coordinate_on g d *ℤ pos 1000000
coordinate_kept g q d same on =
    let u = units_on g d in
    let units = units_alike (unsigned_abs q.value) (unsigned_abs d.value) (10 ^ g.decimals) (2 ^ g.halvings) u (10 ^ q.scale) (10 ^ d.scale) (pow10_pos d.scale) (sizes_alike q d same) (units_are g d on.fives on.twos) in
    let within : u * 1000000 ≤ limit * 1000000 = let small = on.small in omega arith in
    let sign = signs_alike q.value d.value (10 ^ d.scale) (10 ^ q.scale) (pow10_pos d.scale) (pow10_pos q.scale) same in
    ap (λ (n : ℕ). signed (is_negative q) (capped n)) (units_exact g q u units) ∙ ap (signed (is_negative q)) (cond-true _ _ _ (le-leb (u * 1000000) (limit * 1000000) within))
    ∙ ap (λ (b : Bool). signed b (u * 1000000)) sign ∙ signed_millions (is_negative d) u

-- and so does a query that is a point with such coordinates
pub point_kept : (g : Grid) (q p : DecimalPoint) → AreEqualPoints q p → IsPointInUnits g p → nearest_point g q ≡ in_millionths (point_on g p)
point_kept g q p same on = λ i. record {
  x = coordinate_kept g q.x p.x same.x on.x i;
  y = coordinate_kept g q.y p.y same.y on.y i;
  z = coordinate_kept g q.z p.z same.z on.z i;
  w = pos 1000000;
}
