-- The signs of points in a larger unit.
use Rattle.std.proofs.Common.{◌≡◌, ℕ, ◌<◌, ℤ, pos, ◌+ℤ◌, ◌*ℤ◌, ◌<ℤ◌, [], ◌∷◌, sym, ap, subst, ◌∙◌, arith}
use Rattle.std.specs.Prelude.{int_lt}
use Rattle.std.proofs.lemmas.Int.{ints}
use Rattle.exact_algebra.proofs.Ring.{Expr, var, ring, same, ◌⊗◌}
use Rattle.exact_algebra.proofs.Signs.{mul_pos, mul_neg, by_sign}
use Rattle.sign_predicates.proofs.Terms.{PointE, pointE, of_point, orientE}
use Rattle.sign_predicates.proofs.Lifting.{sphere_sign}
use Rattle.sign_predicates.specs.Point.{Point, origin}
use Rattle.sign_predicates.specs.Orientation.{orient, det}
use Rattle.sign_predicates.specs.Sphere.{in_sphere, HaveOneSign}
use Rattle.sign_predicates.specs.Sign.{IsSignOf}
use Rattle.sign_predicates.specs.Lifted.{IsInFrame}
use Rattle.sign_predicates.specs.declared.lifted.Frame.{Frame}
use Rattle.sign_predicates.specs.declared.tetrahedron.Corners.{Corners}
use Rattle.sign_predicates.specs.declared.tetrahedron.Sign.{Sign}
use Rattle.sign_predicates.specs.declared.tetrahedron.Sign.TheVariants.{Below, Zero, Above}
use Rattle.geo_laws.specs.Delaunay.{point, corners}
use Rattle.run_laws.specs.LeastGrids.{times, SameSignsLaw}

abbrev timesE : Expr → PointE → PointE
timesE s v = record { x = s ⊗ v.x; y = s ⊗ v.y; z = s ⊗ v.z }

orient_times : (f : ℕ) (a b c d : Point) → orient (times f a) (times f b) (times f c) (times f d) ≡ pos f *ℤ (pos f *ℤ pos f) *ℤ orient a b c d
unfolding same det orient
orient_times f a b c d =
    let S = var 0 in
    ring (orientE (timesE S (pointE 1)) (timesE S (pointE 4)) (timesE S (pointE 7)) (timesE S (pointE 10))) (S ⊗ (S ⊗ S) ⊗ orientE (pointE 1) (pointE 4) (pointE 7) (pointE 10)) tt
    (pos f ∷ of_point a (of_point b (of_point c (of_point d []))))

-- two numbers with one sign
one_sign : (s : Sign) (y z : ℤ) → IsSignOf s y → IsSignOf s z → HaveOneSign y z
one_sign Below y z h k = record { below = grind (arith, ints); above = grind (arith, ints) }
one_sign Zero y z h k = record { below = ap (λ (x : ℤ). int_lt x (pos 0)) (h ∙ sym k); above = ap (λ (x : ℤ). int_lt (pos 0) x) (h ∙ sym k) }
one_sign Above y z h k = record { below = grind (arith, ints); above = grind (arith, ints) }

times_none : (k : ℤ) → k *ℤ pos 0 ≡ pos 0
times_none k = omega (arith, ints)

multiple_sign : (k z y : ℤ) → pos 0 <ℤ k → y ≡ k *ℤ z → HaveOneSign y z
multiple_sign k z y h e =
    subst (λ (x : ℤ). HaveOneSign x z) (sym e)
    (by_sign z
    (λ i. one_sign Below (k *ℤ z) z (mul_neg k z h i) i)
    (λ i. one_sign Zero (k *ℤ z) z (ap (λ (x : ℤ). k *ℤ x) i ∙ times_none k) i)
    (λ i. one_sign Above (k *ℤ z) z (mul_pos k z h i) i))

cube_pos : (f : ℕ) → 0 < f → pos 0 <ℤ (pos f *ℤ (pos f *ℤ pos f))
cube_pos f h = let p : pos 0 <ℤ pos f = omega (arith, ints) in mul_pos (pos f) (pos f *ℤ pos f) p (mul_pos (pos f) (pos f) p p)

in_origin : (f : ℕ) (q : Point) → IsInFrame (record { corner = origin; step = f }) q (times f q)
in_origin f q = record { x_is = none _; y_is = none _; z_is = none _ }
  where
    none : (z : ℤ) → z ≡ pos 0 +ℤ z
    none z = omega (arith, ints)

sphere_times : (f : ℕ) (t : Corners) (e : Point) → 0 < f
    → HaveOneSign (in_sphere (record { a = times f t.a; b = times f t.b; c = times f t.c; d = times f t.d }) (times f e)) (in_sphere t e)
sphere_times f t e some =
    by_sign (in_sphere t e) (λ i. at Below i) (λ i. at Zero i) (λ i. at Above i)
  where
    at : (s : Sign) → IsSignOf s (in_sphere t e) → HaveOneSign (in_sphere (record { a = times f t.a; b = times f t.b; c = times f t.c; d = times f t.d }) (times f e)) (in_sphere t e)
    at s i =
        let frame : Frame = record { corner = origin; step = f } in
        one_sign s _ _
        (sphere_sign s t e i frame _ (times f e) some (record { a_in = in_origin f t.a; b_in = in_origin f t.b; c_in = in_origin f t.c; d_in = in_origin f t.d }) (in_origin f e)) i

pub same_signs : SameSignsLaw
same_signs f ps qs multiples = record {
  orientations = λ a b c d.
      multiple_sign (pos f *ℤ (pos f *ℤ pos f)) (orient (point qs a) (point qs b) (point qs c) (point qs d)) _ (cube_pos f multiples.some)
      ((λ j. orient (multiples.at a j) (multiples.at b j) (multiples.at c j) (multiples.at d j)) ∙ orient_times f (point qs a) (point qs b) (point qs c) (point qs d));
  spheres = λ t e.
      subst (λ (z : ℤ). HaveOneSign z (in_sphere (corners qs t) (point qs e)))
      (sym (λ j. in_sphere (record { a = multiples.at t.a j; b = multiples.at t.b j; c = multiples.at t.c j; d = multiples.at t.d j }) (multiples.at e j)))
      (sphere_times f (corners qs t) (point qs e) multiples.some);
}
