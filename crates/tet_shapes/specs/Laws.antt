-- What `to_center` is: it leads to the one point that is equally far from all corners.
use Rattle.std.specs.Prelude.{◌≡◌, ◌↔◌, ◌*◌, IsTrue, ℤ, pos, ◌+ℤ◌, ◌*ℤ◌, ◌<ℤ◌}
use Rattle.sign_predicates.specs.Point.{Point, RationalPoint, from_to_rational}
use Rattle.sign_predicates.specs.Orientation.{volume, IsPositive}
use Rattle.sign_predicates.specs.Sphere.{square_length}
use Rattle.sign_predicates.specs.declared.tetrahedron.Corners.{Corners}
use Rattle.tet_shapes.specs.Shape.{to_center, shortest_square, is_slim}
use Rattle.tet_shapes.specs.declared.shape.Ratio.{Ratio}

-- the square of the distance of a point from a rational point, times the square of its denominator
abbrev pub square_to : Point → RationalPoint → ℤ
square_to a p = square_length (from_to_rational a p)

-- the rational point is equally far from all corners
pub record IsCenter (t : Corners) (p : RationalPoint) : Type 0 where
  pub b : square_to t.b p ≡ square_to t.a p
  pub c : square_to t.c p ≡ square_to t.a p
  pub d : square_to t.d p ≡ square_to t.a p

-- the center of the sphere through the corners
abbrev pub center : Corners → RationalPoint
center t = let w = pos 2 *ℤ volume t in let n = to_center t in
    record { x = t.a.x *ℤ w +ℤ n.x; y = t.a.y *ℤ w +ℤ n.y; z = t.a.z *ℤ w +ℤ n.z; w = w }

-- it has a denominator above 0, is equally far from all corners, and so far from the first as `to_center` says
pub record CenterIs (t : Corners) : Type 0 where
  pub there : pos 0 <ℤ (center t).w
  pub equally_far : IsCenter t (center t)
  pub far : square_to t.a (center t) ≡ square_length (to_center t)

abbrev pub CircumcenterLaw : Type 0
CircumcenterLaw = (t : Corners) → IsPositive t → CenterIs t

-- any point that is equally far from all corners is so far from them
abbrev pub RadiusLaw : Type 0
RadiusLaw = (t : Corners) (p : RationalPoint) → pos 0 <ℤ p.w → IsCenter t p
    → square_to t.a p *ℤ (pos 4 *ℤ (volume t *ℤ volume t)) ≡ square_length (to_center t) *ℤ (p.w *ℤ p.w)

-- the point is further from the first corner than r times the shortest edge: the squares, without denominators
abbrev pub IsFurther : Ratio → Corners → RationalPoint → Type 0
IsFurther r t p =
    (pos (r.over * r.over) *ℤ (p.w *ℤ p.w) *ℤ shortest_square t) <ℤ (pos (r.under * r.under) *ℤ square_to t.a p)

-- a positive tetrahedron is slim exactly where the point that is equally far from all corners is so far from them
abbrev pub SlimLaw : Type 0
SlimLaw = (r : Ratio) (t : Corners) (p : RationalPoint) → IsPositive t → pos 0 <ℤ p.w → IsCenter t p
    → IsTrue (is_slim r t) ↔ IsFurther r t p
