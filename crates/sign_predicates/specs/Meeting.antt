-- Segments and triangles as the means of their corners, and whether two of them have a point in common.
use Rattle.std.specs.Prelude.{◌≡◌, ℕ, ◌+◌, ◌<◌, pos, ◌+ℤ◌, ◌*ℤ◌}
use Rattle.sign_predicates.specs.Point.{Point, RationalPoint, SomeRational}
use Rattle.sign_predicates.specs.Orientation.{Triangle, StrictlyInside}
use Rattle.sign_predicates.specs.declared.tetrahedron.Corners.{Corners}
use Rattle.sign_predicates.specs.declared.triangle.GridTriangle.{GridTriangle}

-- x is the mean of the triangle's corners under these weights, which are not all 0
pub record IsMeanOf (f : Triangle) (i j k : ℕ) (x : RationalPoint) : Type 0 where
  pub some : 0 < i + j + k
  pub x_is : (pos i *ℤ f.a.x +ℤ pos j *ℤ f.b.x +ℤ pos k *ℤ f.c.x) *ℤ x.w ≡ x.x *ℤ pos (i + j + k)
  pub y_is : (pos i *ℤ f.a.y +ℤ pos j *ℤ f.b.y +ℤ pos k *ℤ f.c.y) *ℤ x.w ≡ x.y *ℤ pos (i + j + k)
  pub z_is : (pos i *ℤ f.a.z +ℤ pos j *ℤ f.b.z +ℤ pos k *ℤ f.c.z) *ℤ x.w ≡ x.z *ℤ pos (i + j + k)

-- x lies in the closed triangle: it is a mean of the corners. The corners may lie on a line, or be one point
abbrev pub InTriangle : Triangle → RationalPoint → Type 0
InTriangle f x = (i j k : ℕ) × IsMeanOf f i j k x

abbrev pub triangle_of : Point → Point → Point → Triangle
triangle_of a b c = record { a = a; b = b; c = c }

abbrev pub grid_triangle : GridTriangle → Triangle
grid_triangle f = triangle_of f.a f.b f.c

-- the closed segment is the triangle with its second end twice
abbrev pub segment : Point → Point → Triangle
segment p q = record { a = p; b = q; c = q }

-- some point lies in both closed triangles
abbrev pub TrianglesMeet : Triangle → Triangle → Type 0
TrianglesMeet f g = SomeRational (λ x. InTriangle f x × InTriangle g x)

-- some point of the closed segment lies in the closed triangle
abbrev pub SegmentMeetsTriangle : Point → Point → Triangle → Type 0
SegmentMeetsTriangle p q f = TrianglesMeet (segment p q) f

-- some point strictly inside the positive tetrahedron lies in the closed triangle
abbrev pub TriangleEnters : Corners → Triangle → Type 0
TriangleEnters t f = SomeRational (λ x. StrictlyInside t x × InTriangle f x)
