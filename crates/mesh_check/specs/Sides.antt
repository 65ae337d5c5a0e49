-- The sides of faces on which tetrahedra lie, and the tetrahedra that lie on them.
use Rattle.std.specs.Prelude.{◌≡◌, ◌⊎◌, ℕ, ◌<◌, ◌≤◌, ◌==◌, ◌&&◌, Bool, ℤ, pos, int_lt, if◌then◌else◌, min, List, length, Option, Some, None}
use Rattle.sign_predicates.specs.Point.{Point}
use Rattle.geo_laws.specs.declared.faces.Face.{Face}
use Rattle.geo_laws.specs.declared.tetrahedra.Tet.{Tet}
use Rattle.mesh_check.specs.Corners.{point_in, face_in}
use Rattle.mesh_check.specs.Defects.{point_side}
use Rattle.mesh_check.specs.Searches.{IsLeastOf}
use Rattle.mesh_check.specs.declared.same_side.FaceSide.{FaceSide}
use Rattle.geo_laws.specs.Delaunay.{row_at}

abbrev pub side_of_face : Face → ℕ → FaceSide
side_of_face f side = record { a = f.a; b = f.b; c = f.c; side = side }

abbrev pub same_side : FaceSide → FaceSide → Bool
same_side p q = p.a == q.a && (p.b == q.b && (p.c == q.c && p.side == q.side))

-- 0 below 0, 1 at 0, 2 above it
abbrev pub sign_code : ℤ → ℕ
sign_code z = if int_lt z (pos 0) then 0 else (if int_lt (pos 0) z then 2 else 1)

-- the side of the face opposite a corner on which that corner lies: 0 below it, 1 on its plane, 2 above it
unfoldable pub side_at : List Point → Tet → ℕ → FaceSide
side_at ps t k = side_of_face (face_in t k) (sign_code (point_side ps (face_in t k) (point_in t k)))

-- the tetrahedron lies on the side, with one of its first n corners opposite the face
abbrev pub HasSideBelow : List Point → Tet → ℕ → FaceSide → Type 0
HasSideBelow ps t n q = (k : ℕ) × (k < n) × (side_at ps t k ≡ q)

abbrev pub HasFaceSide : List Point → Tet → FaceSide → Type 0
HasFaceSide ps t q = HasSideBelow ps t 4 q

-- the sides are of one face, and not its two strict sides
pub record AreAlike (p q : FaceSide) : Type 0 where
  pub a : p.a ≡ q.a
  pub b : p.b ≡ q.b
  pub c : p.c ≡ q.c
  pub side : (p.side ≡ q.side) ⊎ ((p.side ≡ 1) ⊎ (q.side ≡ 1))

-- the row at a place is there, from a place on, and lies on the side
abbrev pub IsLaterOn : List Point → List Tet → ℕ → FaceSide → ℕ → Type 0
IsLaterOn ps rows from q k = (from ≤ k) × (k < length rows) × HasFaceSide ps (row_at rows k) q

-- the map gives for each side the first tetrahedron, from a place on, that lies on it
abbrev pub AreFirstsFrom : List Point → List Tet → ℕ → (FaceSide → Option ℕ) → Type 0
AreFirstsFrom ps rows from look = (q : FaceSide) → IsLeastOf (IsLaterOn ps rows from q) (look q)

-- the tetrahedron at place j, from a place on, lies on the same side of the face, or a sign is 0
abbrev pub IsLaterLike : List Point → List Tet → ℕ → FaceSide → ℕ → Type 0
IsLaterLike ps rows from p j = (q : FaceSide) × AreAlike p q × IsLaterOn ps rows from q j

-- the row at place j is a later one that shares the face opposite one of the first n corners of t, and lies on the same
-- side of it
abbrev pub MeetsLater : List Point → List Tet → ℕ → Tet → ℕ → ℕ → Type 0
MeetsLater ps rows from t n j = (k : ℕ) × (k < n) × IsLaterLike ps rows from (side_at ps t k) j

-- the least of two numbers that may be missing
abbrev pub lesser_of : Option ℕ → Option ℕ → Option ℕ
lesser_of None b = b
lesser_of (Some x) None = Some x
lesser_of (Some x) (Some y) = Some (min x y)

-- the map gives the tetrahedron's place for the sides of its first n corners, and is unchanged elsewhere
abbrev pub IsPutBelow : List Point → Tet → ℕ → ℕ → (FaceSide → Option ℕ) → (FaceSide → Option ℕ) → Type 0
IsPutBelow ps t n place old new =
    (q : FaceSide) → HasSideBelow ps t n q × (new q ≡ Some place) ⊎ (¬ HasSideBelow ps t n q × (new q ≡ old q))

-- the pair of a place and the place that it meets, or, where it meets none, the pair that was found before
abbrev pub paired : ℕ → Option ℕ → Option (ℕ × ℕ) → Option (ℕ × ℕ)
paired place (Some two) found = Some (place, two)
paired place None found = found
