-- The corners of a positive tetrahedron lie in it, in millionths too.
use Rattle.std.proofs.Common.{◌≡◌, ◌⊎◌, inl, inr, ℤ, pos, ◌*ℤ◌, ◌≤ℤ◌, Bool, true, false, cond, List, [], ◌∷◌, Some, refl, ap, ◌∙◌, arith}
use Rattle.std.specs.Prelude.{find, int_le}
use Rattle.std.proofs.lemmas.Int.{ints}
use Rattle.exact_algebra.proofs.Ring.{num, ring, same, ◌⊗◌}
use Rattle.exact_algebra.proofs.Signs.{nonneg_of_pos, nonneg_same}
use Rattle.sign_predicates.proofs.Terms.{PointE, RationalE, pointE, triangleE, of_point, of_triangle, sideE, side_rationalE}
use Rattle.sign_predicates.specs.Point.{Point}
use Rattle.sign_predicates.specs.Orientation.{Triangle, faces, volume, side, side_rational, orient, orient_rational, det, IsPositive, InClosed, in_closed}
use Rattle.sign_predicates.specs.declared.tetrahedron.Corners.{Corners}
use Rattle.sign_predicates.proofs.Places.{Place, IsOther, same_or_other, corner, opposite, side-own, side-other}
use Rattle.geo_laws.proofs.Places.{all_faces}
use Rattle.geo_laws.proofs.Members.{IsMember, here, there}
use Rattle.crossing_laws.proofs.Tests.{le_test, all_test}
use Rattle.tetwhere_run.specs.Corners.{in_millionths}

abbrev in_millionthsE : PointE → RationalE
in_millionthsE p = record { x = p.x ⊗ num (pos 1000000); y = p.y ⊗ num (pos 1000000); z = p.z ⊗ num (pos 1000000); w = num (pos 1000000) }

-- the side of a point in millionths
side-millionths : (f : Triangle) (p : Point) → side_rational f (in_millionths p) ≡ side f p *ℤ pos 1000000
unfolding same det orient orient_rational
side-millionths f p = ring (side_rationalE (triangleE 0) (in_millionthsE (pointE 9))) (sideE (triangleE 0) (pointE 9) ⊗ num (pos 1000000)) tt (of_triangle f (of_point p []))

times_least : (n : ℤ) → pos 0 ≤ℤ n → pos 0 ≤ℤ (n *ℤ pos 1000000)
times_least n h = omega (arith, ints)

corner_closed : (t : Corners) → IsPositive t → (v : Place) → InClosed t (in_millionths (corner t v))
corner_closed t p v = all_faces (λ f. pos 0 ≤ℤ side_rational f (in_millionths (corner t v))) t (λ u. nonneg_same _ _ (side-millionths (opposite t u) (corner t v)) (times_least _ (by u (same_or_other u v))))
  where
    by : (u : Place) → (u ≡ v) ⊎ IsOther u v → pos 0 ≤ℤ side (opposite t u) (corner t v)
    by u (inl e) = nonneg_same _ _ (ap (λ w. side (opposite t w) (corner t v)) e ∙ side-own t v) (nonneg_of_pos (volume t) p)
    by u (inr o) = nonneg_same _ (pos 0) (side-other t u v o) (omega (arith, ints))

pub corner_held : (t : Corners) → IsPositive t → (v : Place) → in_closed t (in_millionths (corner t v)) ≡ true
corner_held t p v =
    let x = in_millionths (corner t v) in
    all_test (λ f. int_le (pos 0) (side_rational f x)) (λ f. pos 0 ≤ℤ side_rational f x) (λ f h. le_test (pos 0) (side_rational f x) h) (faces t) (corner_closed t p v)

-- where some element passes, a first one does
pub first_found : {X : Type 0} (test : X → Bool) (xs : List X) (x : X) → IsMember x xs → test x ≡ true → (y : X) × (find test xs ≡ Some y)
first_found test [] x m is = elim m [ ]
first_found test (y ∷ xs) x here is = (y, ap (λ b. cond b (Some y) (find test xs)) is)
first_found test (y ∷ xs) x (there m) is = go (test y) (first_found test xs x m is)
  where
    go : (b : Bool) → (z : _) × (find test xs ≡ Some z) → (z : _) × (cond b (Some y) (find test xs) ≡ Some z)
    go true rest = (y, refl)
    go false rest = rest
