-- The causes of the steps' faults, as causes of the whole.
use Rattle.std.proofs.Common.{◌≡◌, List, [], Some, None, sym, subst, ◌∙◌}
use Rattle.std.specs.Prelude.{All}
use Rattle.sign_predicates.specs.Point.{Point}
use Rattle.geo_laws.specs.Complex.{Complex, facets, HasCornersOf}
use Rattle.geo_laws.specs.Delaunay.{delaunay_rows, AreCoplanar}
use Rattle.geo_laws.specs.Facet.{Facet, IsFlat}
use Rattle.geo_laws.specs.Segment.{pieces}
use Rattle.geo_laws.specs.declared.tetrahedra.Tet.{Tet}
use Rattle.geo_laws.specs.declared.complex.Piece.{Piece}
use Rattle.geo_laws.specs.declared.complex.FacetTriangle.{FacetTriangle}
use Rattle.complex_laws.specs.SoundComplex.{facet_numbered}
use Rattle.facet_laws.proofs.FlatTest.{law_flat}
use Rattle.facet_plane.specs.Flat.{IsFirstNotFlat}
use Rattle.facet_plane.specs.declared.flat.NotFlat.{NotFlat as Bent}
use Rattle.segment_protect.specs.Ends.{IsProtectFault}
use Rattle.segment_protect.specs.declared.fault.ProtectFault.{ProtectFault}
use Rattle.segment_protect.specs.declared.fault.ProtectFault.TheVariants as protection
use Rattle.simplex_meets.specs.Crossing.{AreTrianglesMet, IsPlaneFault}
use Rattle.simplex_meets.specs.declared.crossing.PlaneFault.{PlaneFault}
use Rattle.simplex_meets.specs.declared.crossing.PlaneFault.TheVariants as planes
use Rattle.facet_recover.specs.Refilled.{IsCause}
use Rattle.facet_recover.specs.declared.recover.RecoverFault.{RecoverFault}
use Rattle.facet_recover.specs.declared.recover.RecoverFault.TheVariants as recovery
use Rattle.complex_mesh.specs.Faults.{protect_fault, plane_fault, recover_fault}
use Rattle.complex_mesh.specs.Protection.{AreMeshed, IsProtectedComplex, complex_triangles}
use Rattle.complex_mesh.specs.Steps.{IsCrossingFault, IsTangleFault}
use Rattle.complex_mesh.specs.Meshing.{IsMeshFault, IsProtectionFault}
use Rattle.complex_mesh.specs.declared.fault.MeshFault.{MeshFault}
use Rattle.complex_mesh.specs.declared.fault.MeshFault.TheVariants.{Flat, NotFlat, SegmentsCross, GridEnd, BudgetEnd, Crossing, NoFill, NoMemory}
use Rattle.complex_mesh.specs.declared.mesh.MeshOptions.{MeshOptions}
use Rattle.complex_mesh.proofs.Triangles.{coplanar_flat}

-- where a facet is not flat, the points are not all in one plane
pub not_flat_cause : (o : MeshOptions) (ps : List Point) (c : Complex) (bent : Bent) → HasCornersOf ps c → IsFirstNotFlat ps (facets c) bent → IsMeshFault o ps c (NotFlat bent.facet bent.four)
not_flat_cause o ps c bent on h = (solid, h)
  where
    never : None ≡ Some bent.four → ⊥
    never e = cc

    solid : ¬ AreCoplanar ps
    solid flat =
        never (sym ((law_flat ps (facet_numbered (facets c) bent.facet)).1 (coplanar_flat ps c on flat bent.facet h.there)) ∙ h.four (record { polygons = []; holes = [] }))

pub protect_cause : (o : MeshOptions) (ps : List Point) (c : Complex) (segs : List Piece) (fs : List Facet) → All (IsFlat ps) (facets c) → AreMeshed o.keep_facets ps c segs fs
    → (f : ProtectFault) → IsProtectFault o.halvings o.budget ps (pieces ps segs) f → IsProtectionFault o ps c (protect_fault f)
protect_cause o ps c segs fs flat meshed protection.Flat h = h
protect_cause o ps c segs fs flat meshed (protection.SegmentsCross one two) h = (segs, fs, h.0, flat, meshed, h.1)
protect_cause o ps c segs fs flat meshed (protection.GridEnd piece) h = (segs, fs, flat, meshed, h.0, h.1)
protect_cause o ps c segs fs flat meshed (protection.BudgetEnd made piece) h = (segs, fs, flat, meshed, h.0, h.1, h.2)
protect_cause o ps c segs fs flat meshed protection.NoMemory h = tt

-- a cause why protection does not end with points is one why there is no mesh
pub protection_cause : (o : MeshOptions) (ps : List Point) (c : Complex) (f : MeshFault) → IsProtectionFault o ps c f → IsMeshFault o ps c f
protection_cause o ps c Flat h = h
protection_cause o ps c (NotFlat facet four) h = h
protection_cause o ps c (SegmentsCross one two) h = h
protection_cause o ps c (GridEnd piece) h = h
protection_cause o ps c (BudgetEnd made piece) h = h
protection_cause o ps c (Crossing one two) h = absurd h
protection_cause o ps c (NoFill anomaly) h = absurd h
protection_cause o ps c NoMemory h = h

pub plane_cause : (qs : List Point) (rest : List Piece) (fs : List Facet) (ts : List FacetTriangle) → ts ≡ complex_triangles qs fs → (f : PlaneFault) → IsPlaneFault qs ts rest f → IsCrossingFault qs rest fs (plane_fault f)
plane_cause qs rest fs ts e f h = by f (subst (λ us. IsPlaneFault qs us rest f) e h)
  where
    by : (f : PlaneFault) → IsPlaneFault qs (complex_triangles qs fs) rest f → IsCrossingFault qs rest fs (plane_fault f)
    by (planes.Crossing one two) h = h
    by planes.NoMemory h = tt

pub recover_cause : (qs : List Point) (ts : List FacetTriangle) (rows : List Tet) → rows ≡ delaunay_rows qs → (f : RecoverFault) → IsCause qs ts rows f → IsTangleFault qs ts (recover_fault f)
recover_cause qs ts rows e f h = by f (subst (λ us. IsCause qs ts us f) e h)
  where
    by : (f : RecoverFault) → IsCause qs ts (delaunay_rows qs) f → IsTangleFault qs ts (recover_fault f)
    by (recovery.NoFill anomaly) h = h
    by recovery.NoMemory h = tt

pub crossing_cause : (o : MeshOptions) (ps : List Point) (c : Complex) (segs : List Piece) (fs : List Facet) (qs : List Point) (rest : List Piece) → IsProtectedComplex o ps c segs fs qs rest → (f : MeshFault)
    → IsCrossingFault qs rest fs f → IsMeshFault o ps c f
crossing_cause o ps c segs fs qs rest p (Crossing one two) h = (segs, fs, qs, rest, p, h)
crossing_cause o ps c segs fs qs rest p NoMemory h = tt
crossing_cause o ps c segs fs qs rest p Flat h = absurd h
crossing_cause o ps c segs fs qs rest p (NotFlat facet four) h = absurd h
crossing_cause o ps c segs fs qs rest p (SegmentsCross one two) h = absurd h
crossing_cause o ps c segs fs qs rest p (GridEnd piece) h = absurd h
crossing_cause o ps c segs fs qs rest p (BudgetEnd made piece) h = absurd h
crossing_cause o ps c segs fs qs rest p (NoFill anomaly) h = absurd h

pub tangle_cause : (o : MeshOptions) (ps : List Point) (c : Complex) (segs : List Piece) (fs : List Facet) (qs : List Point) (rest : List Piece) (ts : List FacetTriangle) → IsProtectedComplex o ps c segs fs qs rest
    → ts ≡ complex_triangles qs fs → AreTrianglesMet qs ts rest → (f : MeshFault) → IsTangleFault qs ts f → IsMeshFault o ps c f
tangle_cause o ps c segs fs qs rest ts p e met (NoFill anomaly) h =
    let k = subst (λ us. IsTangleFault qs us (NoFill anomaly)) e h in
    (segs, fs, qs, rest, p, subst (λ us. AreTrianglesMet qs us rest) e met, k.0, k.1)
tangle_cause o ps c segs fs qs rest ts p e met NoMemory h = tt
tangle_cause o ps c segs fs qs rest ts p e met Flat h = absurd h
tangle_cause o ps c segs fs qs rest ts p e met (NotFlat facet four) h = absurd h
tangle_cause o ps c segs fs qs rest ts p e met (SegmentsCross one two) h = absurd h
tangle_cause o ps c segs fs qs rest ts p e met (GridEnd piece) h = absurd h
tangle_cause o ps c segs fs qs rest ts p e met (BudgetEnd made piece) h = absurd h
tangle_cause o ps c segs fs qs rest ts p e met (Crossing one two) h = absurd h
