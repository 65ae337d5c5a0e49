-- Tetrahedra on the two sides of a face that are locally Delaunay.
use Rattle.std.specs.Prelude.{IsTrue, List, AllPairs, Contains}
use Rattle.sign_predicates.specs.Point.{Point}
use Rattle.geo_laws.specs.OrientedFace.{reversed}
use Rattle.geo_laws.specs.declared.faces.Face.{Face}
use Rattle.geo_laws.specs.declared.tetrahedra.Tet.{Tet}
use Rattle.geo_laws.specs.declared.complex.FacetTriangle.{FacetTriangle}
use Rattle.tangle_laws.specs.Tangle.{lies_on}
use Rattle.tangle_laws.specs.Growth.{ShareNoSide}
use Rattle.tangle_fill.specs.Fill.{as_oriented, AreSmooth, IsWhole}
use Rattle.tangle_fill.specs.Indexed.{IsIndexed}
use Rattle.tangle_fill.specs.declared.growth.Growth.{Growth}

-- tetrahedra on the two sides of the face are locally Delaunay
abbrev pub IsSmoothAt : List Point → List FacetTriangle → List Tet → Face → Type 0
IsSmoothAt ps ts rows face = (s t : Tet) → Contains rows s → Contains rows t → IsTrue (lies_on (as_oriented face) s)
    → IsTrue (lies_on (reversed (as_oriented face)) t) → AreSmooth ps ts s t

-- where the tetrahedron lies on the face's positive side, those on the face's two sides are locally Delaunay
abbrev pub IsSmoothBelow : List Point → List FacetTriangle → List Tet → Tet → Face → Type 0
IsSmoothBelow ps ts rows row face = IsTrue (lies_on (as_oriented face) row) → IsSmoothAt ps ts rows face

-- a growth over the whole hull, of which no two tetrahedra lie on one side of a face
pub record IsWholeGrowth (ps : List Point) (ts : List FacetTriangle) (g : Growth) : Type 0 where
  pub whole : IsWhole ps ts g.rows
  pub one_a_side : AllPairs ShareNoSide g.rows
  pub indexed : IsIndexed g
