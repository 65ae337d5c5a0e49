-- The whole list of the mesh of a complex is the constrained Delaunay triangulation.
use Rattle.std.proofs.Common.{◌≡◌, ℕ, ◌≤◌, Bool, true, false, not, None, List, [], length, refl, sym, arith}
use Rattle.std.specs.Prelude.{All, Contains}
use Rattle.std.specs.List.{slice_index_or}
use Rattle.sign_predicates.specs.Point.{Point}
use Rattle.geo_laws.specs.Complex.{Complex}
use Rattle.geo_laws.specs.Delaunay.{all_numbers, delaunay_rows, HasDistinctPoints}
use Rattle.geo_laws.specs.Facet.{corner_numbers}
use Rattle.geo_laws.specs.Mesh.{ends}
use Rattle.geo_laws.specs.Segment.{pieces, is_side, first_missing}
use Rattle.geo_laws.specs.Simplex.{ProperlyMet}
use Rattle.geo_laws.specs.declared.complex.Piece.{Piece}
use Rattle.geo_laws.proofs.Corners.{all_within, on_of_among}
use Rattle.geo_laws.proofs.Members.{IsMember, member_of}
use Rattle.crossing_laws.proofs.Tests.{never}
use Rattle.path_laws.specs.KeptMesh.{IsWholeMesh}
use Rattle.segment_protect.proofs.Splits.{each_member}
use Rattle.segment_protect.proofs.Start.{protectable_start}
use Rattle.complex_laws.proofs.SomeRow.{law_some_row}
use Rattle.recovery_laws.specs.Recovery.{IsRecovery}
use Rattle.recovery_laws.proofs.Ended.{IsKept, ended, none_found}
use Rattle.constrained_laws.specs.Constrained.{HasEachPoint, HasTetrahedron}
use Rattle.constrained_laws.proofs.EachPoint.{law_each_point}
use Rattle.constrained_laws.proofs.Grown.{whole_of_grown}
use Rattle.constrained_laws.proofs.Edges.{law_kept_piece}
use Rattle.complex_mesh.specs.Meshing.{IsComplexMesh}
use Rattle.complex_mesh.specs.Protection.{IsMeshable}
use Rattle.complex_mesh.specs.declared.mesh.ComplexMesh.{ComplexMesh}
use Rattle.complex_mesh.specs.declared.mesh.MeshOptions.{MeshOptions}
use Rattle.complex_mesh.proofs.Protected.{still_distinct, recovery, solid}
use Rattle.run_laws.specs.Constrained.{ConstrainedMeshLaw}
use Rattle.run_laws.proofs.Once.{law_constrained_once}

-- the subsegments that protection leaves are edges of Delaunay tetrahedra
left_edge : (o : MeshOptions) (ps : List Point) (c : Complex) (m : ComplexMesh) → IsMeshable o.halvings o.budget ps c → (mesh : IsComplexMesh o ps c m) → (p : Piece) → Contains mesh.rest p → is_side (delaunay_rows m.points) p ≡ true
left_edge o ps c m given mesh p l = found (is_side (delaunay_rows m.points) p) (none_found (λ q. not (is_side (delaunay_rows m.points) q)) mesh.rest at_end.1 p (member_of mesh.rest p l))
  where
    r : IsRecovery o.halvings o.budget ps mesh.segs mesh.fs m.points mesh.rest m.triangles
    r = recovery o ps c mesh.segs mesh.fs m.points mesh.rest given mesh.protected m.triangles mesh.triangles mesh.met

    found : (b : Bool) → not b ≡ false → b ≡ true
    found true e = refl
    found false e = absurd (never (sym e))

    none : (s : Piece) → IsMember s [] → ⊥
    none s n = elim n [ ]

    self_most : (n : ℕ) → n ≤ n
    self_most n = omega arith

    first_kept : IsKept ps o.halvings [] ps (pieces ps mesh.segs)
    first_kept = record {
      can = protectable_start ps (pieces ps mesh.segs) o.halvings r.start r.can_split.1;
      begins = record { long = self_most (length ps); same = λ i h. refl };
      covered = λ s n. absurd (none s n);
    }

    at_end : IsKept ps o.halvings [] m.points mesh.rest × (first_missing m.points mesh.rest ≡ None)
    at_end = ended ps o.halvings [] (λ s n. absurd (none s n)) m.points mesh.rest o.budget ps (pieces ps mesh.segs) r.ends first_kept

pub constrained_mesh : ConstrainedMeshLaw
constrained_mesh o ps c m given mesh = record {
  each_point = each;
  edges = λ p l. law_kept_piece m.points m.triangles mesh.whole whole_mesh each p (left_edge o ps c m given mesh p l) (met p l);
  only = λ other whole each_other ascending. law_constrained_once m.points m.triangles other mesh.whole whole whole_mesh each_other each ascending mesh.refilled.ascending;
}
  where
    whole_mesh : IsWholeMesh m.points m.triangles mesh.whole
    whole_mesh = whole_of_grown m.points m.triangles (delaunay_rows m.points) mesh.whole mesh.refilled

    distinct : HasDistinctPoints m.points
    distinct = still_distinct o ps c mesh.segs mesh.fs m.points mesh.rest given mesh.protected

    some : HasTetrahedron m.points
    some =
        let t = law_some_row m.points (solid o ps c mesh.segs mesh.fs m.points mesh.rest given mesh.protected m.triangles mesh.triangles mesh.met) in
        (t.0, on_of_among m.points (all_numbers m.points) t.0 (all_within m.points) t.1.is_on, t.1.is_positive)

    each : HasEachPoint m.points mesh.whole
    each = law_each_point m.points m.triangles mesh.whole distinct some whole_mesh mesh.admissible

    met : (p : Piece) → Contains mesh.rest p → All (λ k. ProperlyMet m.points (corner_numbers k) (ends p)) m.triangles
    met p l k d h = each_member (λ q. ProperlyMet m.points (corner_numbers (slice_index_or m.triangles k d)) (ends q)) mesh.rest (mesh.met.triangles_meet_pieces k d h) p (member_of mesh.rest p l)
