-- Facets: the region that their polygons bound, their triangles, and the rows that they cross.
use Rattle.std.specs.Prelude.{◌≡◌, ℕ, ◌+◌, ◌<◌, ◌%◌, ℤ, pos, neg_ℤ, ◌+ℤ◌, ◌-ℤ◌, ◌*ℤ◌, int_lt, int_le, nat_lt, Bool, false, not, ◌&&◌, ◌||◌, ◌==◌, if◌then◌else◌, Option, Some, None, List, [], ◌∷◌, map, filter, flat_map, length, count_by, find, Contains, Any}
use Rattle.std.specs.List.{list_all, list_any}
use Rattle.sign_predicates.specs.Point.{Point, RationalPoint, from_to, from_to_rational, EachRational, SomeRational}
use Rattle.sign_predicates.specs.Orientation.{dot, cross, orient, StrictlyInside, orient_rational}
use Rattle.sign_predicates.specs.Sphere.{is_outside}
use Rattle.geo_laws.specs.Delaunay.{point, corners, numbers_from, numbers_below}
use Rattle.geo_laws.specs.Simplex.{InSimplex, has_number}
use Rattle.geo_laws.specs.Faces.{face_numbers}
use Rattle.geo_laws.specs.declared.faces.Face.{Face}
use Rattle.geo_laws.specs.Segment.{sides, is_zero, is_zero_vector}
use Rattle.geo_laws.specs.declared.tetrahedra.Tet.{Tet}
use Rattle.geo_laws.specs.declared.complex.Piece.{Piece}
use Rattle.geo_laws.specs.declared.complex.FacetTriangle.{FacetTriangle}

-- a facet: its polygons, as lists of corners, and its hole points
pub record Facet : Type 0 where
  pub polygons : List (List ℕ)
  pub holes : List RationalPoint

-- ---- the plane

-- three points are not on a line
abbrev pub spans_plane : List Point → ℕ → ℕ → ℕ → Bool
spans_plane ps a b c = not (is_zero_vector (cross (from_to (point ps a) (point ps b)) (from_to (point ps a) (point ps c))))

abbrev pub all_corners : Facet → List ℕ
all_corners f = flat_map (λ p. p) f.polygons

-- the first three corners that are not on a line
abbrev pub plane : List Point → Facet → Option (ℕ × ℕ × ℕ)
plane ps f =
    find (λ t. spans_plane ps t.0 t.1 t.2)
    (flat_map (λ a. flat_map (λ b. map (λ c. (a, b, c)) (all_corners f)) (all_corners f)) (all_corners f))

-- any four corners of the facet lie in one plane
abbrev pub IsFlat : List Point → Facet → Type 0
IsFlat ps f = (a b c d : ℕ)
    → Contains (all_corners f) a → Contains (all_corners f) b → Contains (all_corners f) c → Contains (all_corners f) d
    → orient (point ps a) (point ps b) (point ps c) (point ps d) ≡ pos 0

-- ---- two coordinates

-- the axis that is dropped
pub data Axis : Type 0 where
  DropX : Axis
  DropY : Axis
  DropZ : Axis

abbrev pub size : ℤ → ℤ
size n = if int_lt n (pos 0) then neg_ℤ n else n

-- the first axis on which the normal is largest in size
abbrev pub axis_of : Point → Axis
axis_of n =
    if int_le (size n.y) (size n.x) && int_le (size n.z) (size n.x) then DropX
    else (if int_le (size n.z) (size n.y) then DropY else DropZ)

abbrev pub first_of_two : Axis → Point → ℤ
first_of_two DropX v = v.y
first_of_two DropY v = v.x
first_of_two DropZ v = v.x

abbrev pub second_of_two : Axis → Point → ℤ
second_of_two DropX v = v.z
second_of_two DropY v = v.z
second_of_two DropZ v = v.y

-- in the two coordinates: the determinant of two vectors, 0 where they are along one line
abbrev pub cross_of_two : Axis → Point → Point → ℤ
cross_of_two axis u v = first_of_two axis u *ℤ second_of_two axis v -ℤ second_of_two axis u *ℤ first_of_two axis v

-- and the sum of their products, not above 0 where the angle between them is right or more
abbrev pub dot_of_two : Axis → Point → Point → ℤ
dot_of_two axis u v = first_of_two axis u *ℤ first_of_two axis v +ℤ second_of_two axis u *ℤ second_of_two axis v

-- Whether the ray from x along the first coordinate meets the side from a to b. Its lower end belongs to a side, and its upper end doesn't.
-- u and v lead from a and b to x.
abbrev pub crosses_ray : Axis → Point → Point → Bool
crosses_ray axis u v =
    let turn = cross_of_two axis u v in
    let a_is_below = int_le (pos 0) (second_of_two axis u) in
    let b_is_below = int_le (pos 0) (second_of_two axis v) in
    (a_is_below && not b_is_below && int_lt (pos 0) turn) || (b_is_below && not a_is_below && int_lt turn (pos 0))

-- ---- the region

-- whether x lies on the segment
abbrev pub is_on_piece : List Point → Piece → RationalPoint → Bool
is_on_piece ps s x =
    let u = from_to_rational (point ps s.a) x in
    let v = from_to_rational (point ps s.b) x in
    is_zero_vector (cross u v) && int_le (dot u v) (pos 0)

-- Whether x lies on the segment in the two coordinates: there it is on the line of the segment's ends, and not beyond one of them.
-- How far x is from the segment along the dropped axis doesn't matter
abbrev pub is_over_piece : List Point → Axis → Piece → RationalPoint → Bool
is_over_piece ps axis s x =
    let u = from_to_rational (point ps s.a) x in
    let v = from_to_rational (point ps s.b) x in
    is_zero (cross_of_two axis u v) && int_le (dot_of_two axis u v) (pos 0)

-- the polygons with three or more corners
abbrev pub areas : Facet → List (List ℕ)
areas f = filter (λ p. nat_lt 2 (length p)) f.polygons

-- x lies on a side of one of these
abbrev pub is_on_side : List Point → Facet → RationalPoint → Bool
is_on_side ps f x = list_any (λ p. list_any (λ s. is_on_piece ps s x) (sides p)) (areas f)

-- in the two coordinates x lies on a side of any polygon of the facet, also of one with two corners
abbrev pub is_over_side : List Point → Axis → Facet → RationalPoint → Bool
is_over_side ps axis f x = list_any (λ p. list_any (λ s. is_over_piece ps axis s x) (sides p)) f.polygons

-- the polygon is round x: an odd number of its sides crosses a ray from x
abbrev pub is_round : List Point → Axis → List ℕ → RationalPoint → Bool
is_round ps axis polygon x =
    count_by (λ s. crosses_ray axis (from_to_rational (point ps s.a) x) (from_to_rational (point ps s.b) x)) (sides polygon) % 2 == 1

abbrev pub same : Bool → Bool → Bool
same a b = if a then b else not b

-- the polygons of the facet that are round the one point are those round the other
abbrev pub is_round_alike : List Point → Axis → Facet → RationalPoint → RationalPoint → Bool
is_round_alike ps axis f x y = list_all (λ p. same (is_round ps axis p x) (is_round ps axis p y)) (areas f)

-- The hole point h leaves x in the facet: it lies on a side of a polygon, and so counts for nothing, or other polygons are round it than
-- round x. Hole points are taken by the two coordinates: they are rounded, and so may be off the facet's plane
abbrev pub keeps : List Point → Axis → Facet → RationalPoint → RationalPoint → Bool
keeps ps axis f x h = is_over_side ps axis f h || not (is_round_alike ps axis f x h)

-- x, on the facet's plane, lies on a side of a polygon with three or more corners, or such a polygon is round it and each hole point leaves
-- it in
abbrev pub is_within : List Point → Axis → Facet → RationalPoint → Bool
is_within ps axis f x = is_on_side ps f x || list_any (λ p. is_round ps axis p x) (areas f) && list_all (keeps ps axis f x) f.holes

-- x lies on the plane through these three corners, and within the facet there
abbrev pub is_within_plane : List Point → Facet → RationalPoint → Option (ℕ × ℕ × ℕ) → Bool
is_within_plane ps f x None = false
is_within_plane ps f x (Some t) =
    is_zero (orient_rational (point ps t.0) (point ps t.1) (point ps t.2) x)
    && is_within ps (axis_of (cross (from_to (point ps t.0) (point ps t.1)) (from_to (point ps t.0) (point ps t.2)))) f x

-- whether x lies in the region of the facet
abbrev pub in_region : List Point → Facet → RationalPoint → Bool
in_region ps f x = is_within_plane ps f x (plane ps f)

-- ---- triangles

-- a point off the plane through three points, on its positive side
abbrev pub apex : Point → Point → Point → Point
apex a b c = let n = cross (from_to a b) (from_to a c) in record { x = a.x +ℤ n.x; y = a.y +ℤ n.y; z = a.z +ℤ n.z }

-- Whether e, with the number m and on the plane of the triangle, is outside of the triangle's circle.
-- The apex stands as the fourth corner: any other point off the plane would give the same, and its number never decides.
abbrev pub is_outside_circle : List Point → ℕ → ℕ → ℕ → ℕ → Bool
is_outside_circle ps a b c m =
    is_outside (record { a = point ps a; b = point ps b; c = point ps c; d = apex (point ps a) (point ps b) (point ps c) })
    (record { a = a; b = b; c = c; d = length ps }) (point ps m) m

-- three times the centroid, over 3
abbrev pub triangle_centroid : Point → Point → Point → RationalPoint
triangle_centroid a b c = record { x = a.x +ℤ b.x +ℤ c.x; y = a.y +ℤ b.y +ℤ c.y; z = a.z +ℤ b.z +ℤ c.z; w = pos 3 }

-- the plane through the triangle holds the point
abbrev pub is_on_plane : List Point → ℕ → ℕ → ℕ → ℕ → Bool
is_on_plane ps a b c i = is_zero (orient (point ps a) (point ps b) (point ps c) (point ps i))

-- a triangle's corners, without its facet
abbrev pub corner_numbers : FacetTriangle → List ℕ
corner_numbers t = t.a ∷ t.b ∷ t.c ∷ []

-- whether the ascending triangle is one of the facet: on its plane, with an empty circle there, and with its centroid in the region
abbrev pub is_facet_triangle : List Point → Facet → FacetTriangle → Bool
is_facet_triangle ps f t =
    spans_plane ps t.a t.b t.c
    && list_all (is_on_plane ps t.a t.b t.c) (all_corners f)
    && list_all (λ i. has_number (corner_numbers t) i || not (is_on_plane ps t.a t.b t.c i) || is_outside_circle ps t.a t.b t.c i)
    (numbers_below (length ps))
    && in_region ps f (triangle_centroid (point ps t.a) (point ps t.b) (point ps t.c))

-- all ascending threes of numbers below n, ascending
abbrev pub threes : ℕ → ℕ → List FacetTriangle
threes facet n =
    flat_map (λ a. flat_map (λ b. map (λ c. record { facet = facet; a = a; b = b; c = c }) (numbers_from (b + 1) n))
    (numbers_from (a + 1) n)) (numbers_below n)

-- the triangles of a facet, by its number
abbrev pub facet_triangles : List Point → ℕ → Facet → List FacetTriangle
facet_triangles ps number f = filter (is_facet_triangle ps f) (threes number (length ps))

-- ---- points on facets. From here on a complex is the list of the triangles of its facets

-- x lies on the facet
abbrev pub IsOnFacet : List Point → List FacetTriangle → ℕ → RationalPoint → Type 0
IsOnFacet ps ts facet x = Any (λ t. (t.facet ≡ facet) × InSimplex ps (corner_numbers t) x) ts

abbrev pub IsOnSomeFacet : List Point → List FacetTriangle → RationalPoint → Type 0
IsOnSomeFacet ps ts x = Any (λ t. InSimplex ps (corner_numbers t) x) ts

-- each point of the face lies on the facet
abbrev pub LiesIn : List Point → List FacetTriangle → ℕ → Face → Type 0
LiesIn ps ts facet face = EachRational (λ x. InSimplex ps (face_numbers face) x → IsOnFacet ps ts facet x)

abbrev pub LiesInSome : List Point → List FacetTriangle → Face → Type 0
LiesInSome ps ts face = (facet : ℕ) × LiesIn ps ts facet face

-- some point strictly inside the row lies on the facet
abbrev pub IsCrossed : List Point → List FacetTriangle → Tet → ℕ → Type 0
IsCrossed ps ts t facet = SomeRational (λ x. StrictlyInside (corners ps t) x × IsOnFacet ps ts facet x)

-- no facet crosses the row
abbrev pub IsUncrossed : List Point → List FacetTriangle → Tet → Type 0
IsUncrossed ps ts t = (facet : ℕ) → ¬ IsCrossed ps ts t facet

-- two facets cross the row
abbrev pub IsTangled : List Point → List FacetTriangle → Tet → Type 0
IsTangled ps ts t = (f g : ℕ) × (f < g) × IsCrossed ps ts t f × IsCrossed ps ts t g
