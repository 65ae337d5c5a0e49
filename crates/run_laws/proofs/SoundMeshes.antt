-- The meshes that are made are apart, and locally Delaunay off the facets.
use Rattle.std.proofs.Common.{[], List, arith}
use Rattle.sign_predicates.specs.Point.{Point}
use Rattle.geo_laws.specs.Complex.{Complex}
use Rattle.geo_laws.specs.Delaunay.{all_numbers, delaunay_rows}
use Rattle.geo_laws.proofs.Corners.{all_within}
use Rattle.geo_laws.proofs.DelaunayList.{law_delaunay_list}
use Rattle.crossing_laws.proofs.DelaunayApart.{delaunay_apart}
use Rattle.complex_laws.proofs.ComplexMesh.{law_hull_mesh}
use Rattle.complex_mesh.specs.Meshing.{IsComplexMesh}
use Rattle.complex_mesh.specs.declared.mesh.ComplexMesh.{ComplexMesh}
use Rattle.complex_mesh.specs.declared.mesh.MeshOptions.{MeshOptions}
use Rattle.run_laws.specs.WrittenMesh.{IsApartMesh}
use Rattle.run_laws.proofs.Kept.{kept_apart}
use Rattle.run_laws.proofs.Written.{written}
use Rattle.run_laws.specs.SoundMeshes.{SoundComplexLaw, SoundPointsLaw}

-- the Delaunay list is apart
delaunay_mesh : (ps : List Point) → IsApartMesh ps [] (delaunay_rows ps)
delaunay_mesh ps =
    let list = law_delaunay_list ps in
    record {
      apart = delaunay_apart ps (all_numbers ps) (all_within ps) (delaunay_rows ps) list;
      ascending = list.ascending;
      locally_delaunay = (law_hull_mesh ps (delaunay_rows ps) list).locally_delaunay;
    }

-- and so is the mesh of a complex
complex_mesh : (o : MeshOptions) (ps : List Point) (c : Complex) (m : ComplexMesh) → IsComplexMesh o ps c m → IsApartMesh m.points m.triangles m.tetrahedra
complex_mesh o ps c m is = record {
  apart = kept_apart m.points is.whole m.tetrahedra (λ k d lt. (is.refilled.positive k d lt).0) (λ k d lt. (is.refilled.positive k d lt).1) is.refilled.ascending is.refilled.triangulation.covers is.carved.kept.of_whole is.carved.ascending;
  ascending = is.carved.ascending;
  locally_delaunay = is.mesh.locally_delaunay;
}

pub sound_points : SoundPointsLaw
sound_points ps c all faces are = written ps [] c (delaunay_rows ps) all faces (delaunay_mesh ps) (λ k d lt. absurd (omega arith)) are

pub sound_complex : SoundComplexLaw
sound_complex o ps c m is all faces are = written m.points m.triangles c m.tetrahedra all faces (complex_mesh o ps c m is) is.facets_there are
