-- The point that is equally far from the corners of a tetrahedron, by Cramer's rule.
use Rattle.std.proofs.Common.{◌≡◌, ℤ, pos, negsuc, ◌+ℤ◌, ◌*ℤ◌, [], ◌∷◌, sym, ap, ◌∙◌, arith}
use Rattle.std.specs.Prelude.{◌<ℤ◌}
use Rattle.std.proofs.lemmas.Int.{ints}
use Rattle.exact_algebra.proofs.Ring.{Expr, num, var, ring, ring_given, given, same, ◌⊕◌, ◌⊖◌, ◌⊗◌}
use Rattle.exact_algebra.proofs.Signs.{cancel_mul}
use Rattle.sign_predicates.specs.Point.{Point, RationalPoint, from_to, from_to_rational}
use Rattle.sign_predicates.specs.Orientation.{dot, det, volume, IsPositive}
use Rattle.sign_predicates.specs.Sphere.{square_length}
use Rattle.sign_predicates.specs.Reach.{pull}
use Rattle.sign_predicates.specs.declared.tetrahedron.Corners.{Corners}
use Rattle.sign_predicates.proofs.Terms.{PointE, RationalE, pointE, rationalE, of_point, of_rational, from_toE, from_to_rationalE, dotE, crossE, detE, square_lengthE}
use Rattle.sign_predicates.proofs.Vectors.{orient_is}
use Rattle.tet_shapes.specs.Shape.{to_center}
use Rattle.tet_shapes.specs.Laws.{square_to, IsCenter, CenterIs}

abbrev pullE : PointE → PointE → PointE → PointE
pullE b c d = record {
  x = square_lengthE b ⊗ (crossE c d).x ⊖ square_lengthE c ⊗ (crossE b d).x ⊕ square_lengthE d ⊗ (crossE b c).x;
  y = square_lengthE b ⊗ (crossE c d).y ⊖ square_lengthE c ⊗ (crossE b d).y ⊕ square_lengthE d ⊗ (crossE b c).y;
  z = square_lengthE b ⊗ (crossE c d).z ⊖ square_lengthE c ⊗ (crossE b d).z ⊕ square_lengthE d ⊗ (crossE b c).z;
}

-- ---- the vector to the center along each of the three

pull_first : (b c d : Point) → dot (pull b c d) b ≡ det b c d *ℤ square_length b
unfolding same det pull
pull_first b c d =
    let B = pointE 0 in
    let C = pointE 3 in
    let D = pointE 6 in
    ring (dotE (pullE B C D) B) (detE B C D ⊗ square_lengthE B) tt (of_point b (of_point c (of_point d [])))

pull_second : (b c d : Point) → dot (pull b c d) c ≡ det b c d *ℤ square_length c
unfolding same det pull
pull_second b c d =
    let B = pointE 0 in
    let C = pointE 3 in
    let D = pointE 6 in
    ring (dotE (pullE B C D) C) (detE B C D ⊗ square_lengthE C) tt (of_point b (of_point c (of_point d [])))

pull_third : (b c d : Point) → dot (pull b c d) d ≡ det b c d *ℤ square_length d
unfolding same det pull
pull_third b c d =
    let B = pointE 0 in
    let C = pointE 3 in
    let D = pointE 6 in
    ring (dotE (pullE B C D) D) (detE B C D ⊗ square_lengthE D) tt (of_point b (of_point c (of_point d [])))

-- the point a + n / (2 v), with the denominator 2 v
abbrev moved : Point → Point → ℤ → RationalPoint
moved a n v = record { x = a.x *ℤ (pos 2 *ℤ v) +ℤ n.x; y = a.y *ℤ (pos 2 *ℤ v) +ℤ n.y; z = a.z *ℤ (pos 2 *ℤ v) +ℤ n.z; w = pos 2 *ℤ v }

abbrev movedE : PointE → PointE → Expr → RationalE
movedE a n v = record { x = a.x ⊗ (num (pos 2) ⊗ v) ⊕ n.x; y = a.y ⊗ (num (pos 2) ⊗ v) ⊕ n.y; z = a.z ⊗ (num (pos 2) ⊗ v) ⊕ n.z; w = num (pos 2) ⊗ v }

-- it is as far from b as from a
as_far : (a b n : Point) (v : ℤ) → dot n (from_to a b) ≡ v *ℤ square_length (from_to a b) → square_to b (moved a n v) ≡ square_to a (moved a n v)
unfolding same
as_far a b n v e =
    let A = pointE 0 in
    let B = pointE 3 in
    let N = pointE 6 in
    let V = var 9 in
    let q = movedE A N V in
    ring_given (square_lengthE (from_to_rationalE B q)) (square_lengthE (from_to_rationalE A q))
    (given (num (negsuc 3) ⊗ V) (dotE N (from_toE A B)) (V ⊗ square_lengthE (from_toE A B)) ∷ []) tt
    (of_point a (of_point b (of_point n (v ∷ [])))) (e, tt)

far_from_first : (a n : Point) (v : ℤ) → square_to a (moved a n v) ≡ square_length n
unfolding same
far_from_first a n v =
    let A = pointE 0 in
    let N = pointE 3 in
    ring (square_lengthE (from_to_rationalE A (movedE A N (var 6)))) (square_lengthE N) tt (of_point a (of_point n (v ∷ [])))

pub center_is : (t : Corners) → IsPositive t → CenterIs t
center_is t h =
    let b = from_to t.a t.b in
    let c = from_to t.a t.c in
    let d = from_to t.a t.d in
    let v = volume t in
    let is = orient_is t.a t.b t.c t.d in
    record {
      there = omega (arith, ints, h);
      equally_far = record {
        b = as_far t.a t.b (to_center t) v (pull_first b c d ∙ ap (λ z. z *ℤ square_length b) is);
        c = as_far t.a t.c (to_center t) v (pull_second b c d ∙ ap (λ z. z *ℤ square_length c) is);
        d = as_far t.a t.d (to_center t) v (pull_third b c d ∙ ap (λ z. z *ℤ square_length d) is);
      };
      far = far_from_first t.a (to_center t) v;
    }

-- ---- any such point

-- as far from b as from a: along the vector to b it is half as far as b
halfway : (a b : Point) (p : RationalPoint) → pos 0 <ℤ p.w → square_to b p ≡ square_to a p
    → pos 2 *ℤ dot (from_to_rational a p) (from_to a b) ≡ p.w *ℤ square_length (from_to a b)
unfolding same
halfway a b p h e =
    let A = pointE 0 in
    let B = pointE 3 in
    let P = rationalE 6 in
    let to = from_to_rationalE A P in
    let edge = from_toE A B in
    cancel_mul p.w (pos 2 *ℤ dot (from_to_rational a p) (from_to a b)) (p.w *ℤ square_length (from_to a b)) h
    (ring_given (P.w ⊗ (num (pos 2) ⊗ dotE to edge)) (P.w ⊗ (P.w ⊗ square_lengthE edge))
    (given (num (negsuc 0)) (square_lengthE (from_to_rationalE B P)) (square_lengthE to) ∷ []) tt
    (of_point a (of_point b (of_rational p []))) (e, tt))

-- so it is given by Cramer's rule
pub record IsSolved (v w : ℤ) (p n : Point) : Type 0 where
  pub x : pos 2 *ℤ v *ℤ p.x ≡ w *ℤ n.x
  pub y : pos 2 *ℤ v *ℤ p.y ≡ w *ℤ n.y
  pub z : pos 2 *ℤ v *ℤ p.z ≡ w *ℤ n.z

solved : (b c d p : Point) (w : ℤ) → pos 2 *ℤ dot p b ≡ w *ℤ square_length b → pos 2 *ℤ dot p c ≡ w *ℤ square_length c
    → pos 2 *ℤ dot p d ≡ w *ℤ square_length d → IsSolved (det b c d) w p (pull b c d)
unfolding same det pull
solved b c d p w hb hc hd =
    let B = pointE 0 in
    let C = pointE 3 in
    let D = pointE 6 in
    let P = pointE 9 in
    let W = var 12 in
    let ρ = of_point b (of_point c (of_point d (of_point p (w ∷ [])))) in
    let twice = num (pos 2) in
    let lb = twice ⊗ dotE P B in
    let lc = twice ⊗ dotE P C in
    let ld = twice ⊗ dotE P D in
    let rb = W ⊗ square_lengthE B in
    let rc = W ⊗ square_lengthE C in
    let rd = W ⊗ square_lengthE D in
    let N = pullE B C D in
    let V = detE B C D in
    record {
      x = ring_given (twice ⊗ V ⊗ P.x) (W ⊗ N.x) (given (crossE C D).x lb rb ∷ given (crossE D B).x lc rc ∷ given (crossE B C).x ld rd ∷ []) tt ρ (hb, (hc, (hd, tt)));
      y = ring_given (twice ⊗ V ⊗ P.y) (W ⊗ N.y) (given (crossE C D).y lb rb ∷ given (crossE D B).y lc rc ∷ given (crossE B C).y ld rd ∷ []) tt ρ (hb, (hc, (hd, tt)));
      z = ring_given (twice ⊗ V ⊗ P.z) (W ⊗ N.z) (given (crossE C D).z lb rb ∷ given (crossE D B).z lc rc ∷ given (crossE B C).z ld rd ∷ []) tt ρ (hb, (hc, (hd, tt)));
    }

squared : (v w : ℤ) (p n : Point) → IsSolved v w p n → square_length p *ℤ (pos 4 *ℤ (v *ℤ v)) ≡ square_length n *ℤ (w *ℤ w)
unfolding same
squared v w p n s =
    let V = var 0 in
    let W = var 1 in
    let P = pointE 2 in
    let N = pointE 5 in
    let twice = num (pos 2) in
    ring_given (square_lengthE P ⊗ (num (pos 4) ⊗ (V ⊗ V))) (square_lengthE N ⊗ (W ⊗ W))
    (given (twice ⊗ V ⊗ P.x ⊕ W ⊗ N.x) (twice ⊗ V ⊗ P.x) (W ⊗ N.x)
    ∷ given (twice ⊗ V ⊗ P.y ⊕ W ⊗ N.y) (twice ⊗ V ⊗ P.y) (W ⊗ N.y)
    ∷ given (twice ⊗ V ⊗ P.z ⊕ W ⊗ N.z) (twice ⊗ V ⊗ P.z) (W ⊗ N.z) ∷ []) tt
    (v ∷ w ∷ of_point p (of_point n [])) (s.x, (s.y, (s.z, tt)))

pub radius_is : (t : Corners) (p : RationalPoint) → pos 0 <ℤ p.w → IsCenter t p
    → square_to t.a p *ℤ (pos 4 *ℤ (volume t *ℤ volume t)) ≡ square_length (to_center t) *ℤ (p.w *ℤ p.w)
radius_is t p h e =
    let b = from_to t.a t.b in
    let c = from_to t.a t.c in
    let d = from_to t.a t.d in
    let q = from_to_rational t.a p in
    ap (λ v. square_to t.a p *ℤ (pos 4 *ℤ (v *ℤ v))) (sym (orient_is t.a t.b t.c t.d))
    ∙ squared (det b c d) p.w q (pull b c d) (solved b c d q p.w (halfway t.a t.b p h e.b) (halfway t.a t.c p h e.c) (halfway t.a t.d p h e.d))
