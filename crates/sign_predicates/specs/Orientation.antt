-- On which side of a plane a point lies, and tetrahedra as the meet of four such sides.
use Rattle.std.specs.Prelude.{◌≡◌, ◌≢◌, ℕ, ◌==◌, if◌then◌else◌, ℤ, pos, ◌+ℤ◌, ◌-ℤ◌, ◌*ℤ◌, ◌<ℤ◌, ◌≤ℤ◌, Bool, int_lt, int_le, List, [], ◌∷◌}
use Rattle.std.specs.List.{AllByRecursion, list_all}
use Rattle.sign_predicates.specs.declared.tetrahedron.Corners.{Corners}
use Rattle.sign_predicates.specs.Point.{Point, RationalPoint, from_to, from_to_rational}

abbrev pub dot : Point → Point → ℤ
dot u v = u.x *ℤ v.x +ℤ u.y *ℤ v.y +ℤ u.z *ℤ v.z

abbrev pub cross : Point → Point → Point
cross u v = record { x = u.y *ℤ v.z -ℤ u.z *ℤ v.y; y = u.z *ℤ v.x -ℤ u.x *ℤ v.z; z = u.x *ℤ v.y -ℤ u.y *ℤ v.x }

-- the determinant of three vectors
unfoldable pub det : Point → Point → Point → ℤ
det u v w = u.x *ℤ (v.y *ℤ w.z -ℤ v.z *ℤ w.y) -ℤ u.y *ℤ (v.x *ℤ w.z -ℤ v.z *ℤ w.x) +ℤ u.z *ℤ (v.x *ℤ w.y -ℤ v.y *ℤ w.x)

-- orient3d: above 0 where d lies on the positive side of the plane through a, b and c, and 0 where d lies on that plane
unfoldable pub orient : Point → Point → Point → Point → ℤ
orient a b c d = det (from_to a b) (from_to a c) (from_to a d)

-- orient3d of a rational point, times its w: above 0 where p lies on the positive side of the plane through a, b and c,
-- and 0 on it
unfoldable pub orient_rational : Point → Point → Point → RationalPoint → ℤ
orient_rational a b c p = det (from_to a b) (from_to a c) (from_to_rational a p)

-- the corners of a triangle
pub record Triangle : Type 0 where
  pub a : Point
  pub b : Point
  pub c : Point

-- six times the volume: above 0 where the tetrahedron is positive
abbrev pub volume : Corners → ℤ
volume t = orient t.a t.b t.c t.d

abbrev pub IsPositive : Corners → Type 0
IsPositive t = pos 0 <ℤ volume t

-- the face opposite a corner: of a positive tetrahedron each has that corner on its positive side
abbrev pub opposite_a : Corners → Triangle
opposite_a t = record { a = t.b; b = t.d; c = t.c }

abbrev pub opposite_b : Corners → Triangle
opposite_b t = record { a = t.a; b = t.c; c = t.d }

abbrev pub opposite_c : Corners → Triangle
opposite_c t = record { a = t.a; b = t.d; c = t.b }

abbrev pub opposite_d : Corners → Triangle
opposite_d t = record { a = t.a; b = t.b; c = t.c }

-- the face opposite the corner in this place, from 0
abbrev pub opposite_face : Corners → ℕ → Triangle
opposite_face t k = if k == 0 then opposite_a t else (if k == 1 then opposite_b t else (if k == 2 then opposite_c t else opposite_d t))

abbrev pub faces : Corners → List Triangle
faces t = opposite_a t ∷ opposite_b t ∷ opposite_c t ∷ opposite_d t ∷ []

-- on which side of the plane through the triangle a point lies
abbrev pub side : Triangle → Point → ℤ
side f p = orient f.a f.b f.c p

abbrev pub side_rational : Triangle → RationalPoint → ℤ
side_rational f p = orient_rational f.a f.b f.c p

-- p is strictly inside the positive tetrahedron t: it is on the positive side of each face
abbrev pub StrictlyInside : Corners → RationalPoint → Type 0
StrictlyInside t p = AllByRecursion (λ f. pos 0 <ℤ side_rational f p) (faces t)

-- p lies in the closed tetrahedron
abbrev pub InClosed : Corners → RationalPoint → Type 0
InClosed t p = AllByRecursion (λ f. pos 0 ≤ℤ side_rational f p) (faces t)

-- p lies on no plane through a face of t
abbrev pub OffFacePlanes : Corners → RationalPoint → Type 0
OffFacePlanes t p = AllByRecursion (λ f. side_rational f p ≢ pos 0) (faces t)

-- the first two as tests
abbrev pub strictly_inside : Corners → RationalPoint → Bool
strictly_inside t p = list_all (λ f. int_lt (pos 0) (side_rational f p)) (faces t)

abbrev pub in_closed : Corners → RationalPoint → Bool
in_closed t p = list_all (λ f. int_le (pos 0) (side_rational f p)) (faces t)

-- a vector at right angles to the triangle
abbrev pub normal : Triangle → Point
normal f = cross (from_to f.a f.b) (from_to f.a f.c)

-- the triangle's corners are not on a line, and so there is one plane through them
abbrev pub SpansPlane : Triangle → Type 0
SpansPlane f = ¬ ((normal f).x ≡ pos 0 × (normal f).y ≡ pos 0 × (normal f).z ≡ pos 0)
