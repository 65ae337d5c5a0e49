-- Equal numbers less one whole number are equal.
use Rattle.std.proofs.Common.{◌≡◌, ℕ, ◌*◌, ◌^◌, ◌<◌, ℤ, pos, ◌*ℤ◌, Bool, true, false, unsigned_abs, sym, ap, ◌∙◌, arith, [], ◌∷◌}
use Rattle.std.specs.Prelude.{◌-ℤ◌, ◌&&◌, int_lt, neg_ℤ}
use Rattle.std.proofs.Math.IntN.{pos-*ℤ-pos}
use Rattle.exact_algebra.proofs.Ring.{var, neg, sub, mul, ring, same}
use Rattle.std.proofs.lemmas.Bool.{and_parts}
use Rattle.std.proofs.lemmas.Int.{unsigned_abs-mul}
use Rattle.tet_text.specs.Decimals.{Scaled, signed}
use Rattle.tet_text.proofs.Numerals.{pow10_pos}
use Rattle.grid_coords.specs.Origins.{moved}
use Rattle.mesh_check.specs.Moving.{difference, is_short}
use Rattle.mesh_check.proofs.Differences.{moved_exact}
use Rattle.tetwhere_run.specs.Corners.{AreEqual, MovedPointLaw}
use Rattle.tetwhere_run.proofs.Exact.{cancel, signs_alike}

-- a difference in other units
spread : (v w s t : ℤ) → (v -ℤ w *ℤ s) *ℤ t ≡ v *ℤ t -ℤ w *ℤ (s *ℤ t)
unfolding same
spread v w s t = ring (mul (sub (var 0) (mul (var 1) (var 2))) (var 3)) (sub (mul (var 0) (var 3)) (mul (var 1) (mul (var 2) (var 3)))) tt (v ∷ w ∷ s ∷ t ∷ [])

turned : (x w s t : ℤ) → x -ℤ w *ℤ (s *ℤ t) ≡ x -ℤ w *ℤ (t *ℤ s)
unfolding same
turned x w s t = ring (sub (var 0) (mul (var 1) (mul (var 2) (var 3)))) (sub (var 0) (mul (var 1) (mul (var 3) (var 2)))) tt (x ∷ w ∷ s ∷ t ∷ [])

differences_alike : (w : ℤ) (d e : Scaled) → AreEqual d e → difference w d *ℤ pos (10 ^ e.scale) ≡ difference w e *ℤ pos (10 ^ d.scale)
differences_alike w d e is =
    let s = pos (10 ^ d.scale) in
    let t = pos (10 ^ e.scale) in
    spread d.value w s t ∙ turned (d.value *ℤ t) w s t ∙ ap (λ (x : ℤ). x -ℤ w *ℤ (t *ℤ s)) is ∙ sym (spread e.value w t s)

-- the sizes m and n of equal numbers, x / s and y / t in other units: m s is x a, and n t is y b
sizes_alike : (m n x y s t a b : ℕ) → 0 < s → 0 < t → m * s ≡ x * a → n * t ≡ y * b → x * t ≡ y * s → m * b ≡ n * a
sizes_alike m n x y s t a b some other one two is =
    let left : m * b * s * t ≡ m * s * b * t = omega arith in
    let middle : x * a * b * t ≡ x * t * a * b = omega arith in
    let next : y * s * a * b ≡ y * b * a * s = omega arith in
    let right : n * t * a * s ≡ n * a * s * t = omega arith in
    cancel (m * b) (n * a) s some (cancel (m * b * s) (n * a * s) t other (
    left ∙ ap (λ (k : ℕ). k * b * t) one ∙ middle ∙ ap (λ (k : ℕ). k * a * b) is ∙ next ∙ ap (λ (k : ℕ). k * a * s) (sym two) ∙ right))

signed_times : (b : Bool) (u t : ℕ) → signed b u *ℤ pos t ≡ signed b (u * t)
unfolding same
signed_times true u t = ring (mul (neg (var 0)) (var 1)) (neg (mul (var 0) (var 1))) tt (pos u ∷ pos t ∷ []) ∙ ap neg_ℤ (pos-*ℤ-pos u t)
signed_times false u t = pos-*ℤ-pos u t

-- a number less a whole number is the same for equal numbers
pub moved_alike : (w : ℤ) (d e : Scaled) → AreEqual d e → is_short w d ≡ true → is_short w e ≡ true → AreEqual (moved w d) (moved w e)
moved_alike w d e is short other =
    let m = moved w d in
    let n = moved w e in
    let one = moved_exact w d short in
    let two = moved_exact w e other in
    let x = difference w d in
    let y = difference w e in
    let s = 10 ^ d.scale in
    let t = 10 ^ e.scale in
    let a = 10 ^ m.scale in
    let b = 10 ^ n.scale in
    let alike = differences_alike w d e is in
    let products : unsigned_abs x * t ≡ unsigned_abs y * s = sym (unsigned_abs-mul x (pos t)) ∙ ap unsigned_abs alike ∙ unsigned_abs-mul y (pos s) in
    let size = sizes_alike (unsigned_abs m.value) (unsigned_abs n.value) (unsigned_abs x) (unsigned_abs y) s t a b (pow10_pos d.scale) (pow10_pos e.scale) one.size two.size products in
    let sign = signs_alike x y t s (pow10_pos e.scale) (pow10_pos d.scale) alike in
    ap (λ (z : ℤ). z *ℤ pos b) one.sign ∙ signed_times (int_lt x (pos 0)) (unsigned_abs m.value) b
    ∙ ap (signed (int_lt x (pos 0))) size ∙ ap (λ (c : Bool). signed c (unsigned_abs n.value * a)) sign
    ∙ sym (signed_times (int_lt y (pos 0)) (unsigned_abs n.value) a) ∙ ap (λ (z : ℤ). z *ℤ pos a) (sym two.sign)

pub moved_corner : MovedPointLaw
moved_corner w query p query_short p_short is =
    let qx = and_parts (is_short w.x query.x) (is_short w.y query.y && is_short w.z query.z) query_short in
    let qyz = and_parts (is_short w.y query.y) (is_short w.z query.z) qx.1 in
    let px = and_parts (is_short w.x p.x) (is_short w.y p.y && is_short w.z p.z) p_short in
    let pyz = and_parts (is_short w.y p.y) (is_short w.z p.z) px.1 in
    record {
      x = moved_alike w.x query.x p.x is.x qx.0 px.0;
      y = moved_alike w.y query.y p.y is.y qyz.0 pyz.0;
      z = moved_alike w.z query.z p.z is.z qyz.1 pyz.1;
    }
