-- The list of which the mesh of a complex is what carving keeps is the constrained Delaunay triangulation of its points and facets.
use Rattle.std.specs.Prelude.{◌≡◌, true, List, AllPairs, Contains}
use Rattle.sign_predicates.specs.Point.{Point}
use Rattle.geo_laws.specs.Complex.{Complex}
use Rattle.geo_laws.specs.Delaunay.{RowBefore}
use Rattle.geo_laws.specs.Segment.{is_side}
use Rattle.geo_laws.specs.declared.complex.FacetTriangle.{FacetTriangle}
use Rattle.geo_laws.specs.declared.complex.Piece.{Piece}
use Rattle.geo_laws.specs.declared.tetrahedra.Tet.{Tet}
use Rattle.path_laws.specs.KeptMesh.{IsWholeMesh}
use Rattle.constrained_laws.specs.Constrained.{HasEachPoint}
use Rattle.complex_mesh.specs.Meshing.{IsComplexMesh}
use Rattle.complex_mesh.specs.Protection.{IsMeshable}
use Rattle.complex_mesh.specs.declared.mesh.ComplexMesh.{ComplexMesh}
use Rattle.complex_mesh.specs.declared.mesh.MeshOptions.{MeshOptions}

-- Two lists that fill the hull face to face, have the facets as faces and are locally Delaunay across each other face have
-- the same tetrahedra where each point is a corner in both, whatever ties there are
abbrev pub ConstrainedOnceLaw : Type 0
ConstrainedOnceLaw = (ps : List Point) (ts : List FacetTriangle) (rows other : List Tet) → IsWholeMesh ps ts rows → IsWholeMesh ps ts other
    → HasEachPoint ps rows → HasEachPoint ps other → AllPairs RowBefore rows → AllPairs RowBefore other → rows ≡ other

-- what the whole list has beyond being a mesh
pub record IsConstrainedWhole (o : MeshOptions) (ps : List Point) (c : Complex) (m : ComplexMesh) (mesh : IsComplexMesh o ps c m)
    : Type 0 where
  -- each point is a corner of a tetrahedron
  pub each_point : HasEachPoint m.points mesh.whole
  -- each subsegment is an edge of one
  pub edges : (p : Piece) → Contains mesh.rest p → is_side mesh.whole p ≡ true
  -- there is no other such list of the points and the triangles of the facets
  pub only : (other : List Tet) → IsWholeMesh m.points m.triangles other → HasEachPoint m.points other → AllPairs RowBefore other
      → other ≡ mesh.whole

-- The mesh of a complex is part of such a list
abbrev pub ConstrainedMeshLaw : Type 0
ConstrainedMeshLaw = (o : MeshOptions) (ps : List Point) (c : Complex) (m : ComplexMesh) → IsMeshable o.halvings o.budget ps c
    → (mesh : IsComplexMesh o ps c m) → IsConstrainedWhole o ps c m mesh
