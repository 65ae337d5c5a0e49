-- A valid complex has a mesh.
use Rattle.std.specs.Prelude.{◌≡◌, ◌⊎◌, List}
use Rattle.sign_predicates.specs.Point.{Point}
use Rattle.geo_laws.specs.Complex.{Complex}
use Rattle.geo_laws.specs.Delaunay.{delaunay_rows, AreCoplanar}
use Rattle.geo_laws.specs.Facet.{Facet}
use Rattle.geo_laws.specs.declared.complex.FacetTriangle.{FacetTriangle}
use Rattle.geo_laws.specs.declared.complex.Piece.{Piece}
use Rattle.simplex_meets.specs.Crossing.{AreTrianglesMet}
use Rattle.facet_recover.specs.Refilled.{AreUntangled}
use Rattle.tangle_laws.specs.Tangle.{AnomalyHolds}
use Rattle.tangle_laws.specs.declared.anomaly.Anomaly.{Anomaly}
use Rattle.complex_mesh.specs.Meshing.{IsMeshFault}
use Rattle.complex_mesh.specs.Protection.{IsProtectedComplex, complex_triangles}
use Rattle.complex_mesh.specs.declared.fault.MeshFault.{MeshFault}
use Rattle.complex_mesh.specs.declared.fault.MeshFault.TheVariants.{NoMemory}
use Rattle.complex_mesh.specs.declared.mesh.MeshOptions.{MeshOptions}

-- The points are not all in one plane, the facets are flat, any two pieces of the segments are properly met, protection ends with some
-- points and pieces, and there the triangles of the facets are properly met with each other and with the pieces
pub record IsValid (o : MeshOptions) (ps : List Point) (c : Complex) : Type 0 where
  pub segs : List Piece
  pub fs : List Facet
  pub qs : List Point
  pub rest : List Piece
  pub solid : ¬ AreCoplanar ps
  pub protected : IsProtectedComplex o ps c segs fs qs rest
  pub met : AreTrianglesMet qs (complex_triangles qs fs) rest

-- no two facets cross a Delaunay tetrahedron, or no anomaly holds
abbrev pub HasNoAnomaly : List Point → List FacetTriangle → Type 0
HasNoAnomaly qs ts = AreUntangled qs ts (delaunay_rows qs) ⊎ ((a : Anomaly) → ¬ AnomalyHolds qs ts a)

-- A valid complex without an anomaly has a mesh: the only fault is out of memory
abbrev pub ValidComplexLaw : Type 0
ValidComplexLaw = (o : MeshOptions) (ps : List Point) (c : Complex) (v : IsValid o ps c) → HasNoAnomaly v.qs (complex_triangles v.qs v.fs)
    → (fault : MeshFault) → IsMeshFault o ps c fault → fault ≡ NoMemory
