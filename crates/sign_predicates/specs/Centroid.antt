-- The centroid of a tetrahedron, and on which side of a wall over a triangle's side a point lies.
use Rattle.std.specs.Prelude.{◌≡◌, ◌≢◌, ◌⊎◌, ℤ, pos, ◌+ℤ◌}
use Rattle.sign_predicates.specs.Point.{Point, RationalPoint, from_to, from_to_rational}
use Rattle.sign_predicates.specs.Orientation.{dot, cross}
use Rattle.sign_predicates.specs.Sign.{IsSignOf}
use Rattle.sign_predicates.specs.declared.tetrahedron.Corners.{Corners}
use Rattle.sign_predicates.specs.declared.tetrahedron.Sign.{Sign}

-- four times the centroid, over 4
abbrev pub centroid : Corners → RationalPoint
centroid t = record { x = t.a.x +ℤ t.b.x +ℤ t.c.x +ℤ t.d.x; y = t.a.y +ℤ t.b.y +ℤ t.c.y +ℤ t.d.y; z = t.a.z +ℤ t.b.z +ℤ t.c.z +ℤ t.d.z; w = pos 4 }

-- seen against the direction n: above 0 where the way from p over q to x turns counterclockwise
abbrev pub turn_rational : Point → Point → Point → RationalPoint → ℤ
turn_rational n p q x = dot n (cross (from_to p q) (from_to_rational p x))

-- the sign of the first coordinate that is not 0, or of the last one
abbrev pub IsFirstSignOf : Sign → Point → Type 0
IsFirstSignOf s n = ((n.x ≢ pos 0) × IsSignOf s n.x) ⊎ ((n.x ≡ pos 0) × (((n.y ≢ pos 0) × IsSignOf s n.y)
    ⊎ ((n.y ≡ pos 0) × IsSignOf s n.z)))
