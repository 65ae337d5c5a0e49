-- A mesh with the subfaces that stop a flood fill.
use Rattle.std.specs.Prelude.{◌≡◌, List, map}
use Rattle.sign_predicates.specs.Point.{Point}
use Rattle.geo_laws.specs.declared.tetrahedra.Tet.{Tet}
use Rattle.geo_laws.specs.declared.complex.FacetTriangle.{FacetTriangle}
use Rattle.incidence.specs.Chains.{face_of_triangle}
use Rattle.incidence.specs.Pairs.{pairs_of}
use Rattle.hole_carve.specs.declared.walled.Walled.{Walled}

-- the tetrahedra on the points, with the triangles as subfaces
pub record IsWalledBy (ps : List Point) (ts : List FacetTriangle) (rows : List Tet) (mesh : Walled) : Type 0 where
  pub points_are : mesh.points.now ≡ ps
  pub rows_are : mesh.list.now ≡ rows
  pub closes : mesh.closed ≡ map face_of_triangle ts
  pub pairs : mesh.pairs ≡ pairs_of mesh.list.now
