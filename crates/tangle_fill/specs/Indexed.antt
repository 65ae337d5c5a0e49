-- Tetrahedra indexed by the sides of faces on which they lie.
use Rattle.std.specs.Prelude.{◌≡◌, Bool, ◌==◌, ◌&&◌, false, IsTrue, cond, All, Contains, Some, None, IfSome}
use Rattle.std.specs.List.{list_any}
use Rattle.indexmap.specs.IndexMap.{IndexMap, get}
use Rattle.geo_laws.specs.OrientedFace.{Face}
use Rattle.geo_laws.specs.declared.tetrahedra.Tet.{Tet}
use Rattle.crossing_laws.specs.Crossing.{faces_of}
use Rattle.tangle_fill.specs.declared.growth.FaceSide.{FaceSide}
use Rattle.tangle_fill.specs.declared.growth.Growth.{Growth}

-- the two sides are given by the same corners in the same order
abbrev pub same_face_side : FaceSide → FaceSide → Bool
same_face_side p q = (p.face.a == q.face.a && p.face.b == q.face.b) && p.face.c == q.face.c

abbrev pub face_side_of : Face → FaceSide
face_side_of f = record { face = record { a = f.a; b = f.b; c = f.c } }

-- the tetrahedron has this face with its corners in this order
abbrev pub has_side : Tet → FaceSide → Bool
has_side t q = list_any (λ f. same_face_side (face_side_of f) q) (faces_of t)

-- the index maps each face of the tetrahedra to its tetrahedron, and has no other key
pub record IsIndexed (g : Growth) : Type 0 where
  pub found : (q : FaceSide) → IfSome (get same_face_side g.sides q) (λ t. Contains g.rows t × IsTrue (has_side t q))
  pub none : (q : FaceSide) → get same_face_side g.sides q ≡ None → All (λ t. has_side t q ≡ false) g.rows

-- the index maps the one side to the tetrahedron, and all others as before
abbrev pub IsSidePut : {S : Type 0} → IndexMap FaceSide Tet S → IndexMap FaceSide Tet S → FaceSide → Tet → Type 0
IsSidePut old new p row = (q : FaceSide) → get same_face_side new q ≡ cond (same_face_side p q) (Some row) (get same_face_side old q)
