-- After protection each facet that is meshed is flat and bounded by pieces that are sides, so its triangles cover it.
use Rattle.std.proofs.Common.{◌≡◌, ◌<◌, ℕ, List, length, sym, subst}
use Rattle.std.specs.Prelude.{All, Contains}
use Rattle.sign_predicates.specs.Point.{Point}
use Rattle.geo_laws.specs.Complex.{Complex}
use Rattle.geo_laws.specs.Facet.{Facet}
use Rattle.geo_laws.specs.Segment.{pieces}
use Rattle.geo_laws.specs.declared.complex.Piece.{Piece}
use Rattle.facet_laws.proofs.InnerCover.{law_bounded_cover}
use Rattle.facet_laws.proofs.Threes.{law_facet_list}
use Rattle.complex_laws.specs.SoundComplex.{IsSoundFacet, HasTriangles, facet_numbered}
use Rattle.segment_protect.specs.Spots.{HasTwoEnds}
use Rattle.segment_protect.specs.Ends.{IsStart}
use Rattle.segment_protect.proofs.PieceLaws.{pieces_cut}
use Rattle.recovery_laws.specs.Pieces.{HasProtected}
use Rattle.recovery_laws.proofs.Pieces.{law_protected_pieces}
use Rattle.recovery_laws.proofs.ProtectedComplex.{law_sound}
use Rattle.complex_mesh.specs.Covered.{IsCoveredAt}
use Rattle.complex_mesh.specs.Protection.{IsMeshable, IsProtectedComplex, complex_triangles, triangles_at}
use Rattle.complex_mesh.specs.declared.mesh.ComplexMesh.{ComplexMesh}
use Rattle.complex_mesh.specs.declared.mesh.MeshOptions.{MeshOptions}
use Rattle.complex_mesh.proofs.Protected.{meshed_two_ends, meshed_sound}
use Rattle.complex_mesh.proofs.Triangles.{has_triangles}

module _ (o : MeshOptions) (ps : List Point) (c : Complex) (m : ComplexMesh) (segs : List Piece) (fs : List Facet) (rest : List Piece)
    (given : IsMeshable o.halvings o.budget ps c) (protected : IsProtectedComplex o ps c segs fs m.points rest)
    (triangles : m.triangles ≡ complex_triangles m.points fs) where
  on : All (HasTwoEnds (length ps)) segs
  on = meshed_two_ends o.keep_facets ps c segs fs given.corners protected.meshed

  start : IsStart ps (pieces ps segs) o.halvings
  start = record { distinct = given.distinct; multiples = given.multiples; cut = pieces_cut ps segs given.distinct on }

  after : HasProtected ps m.points segs
  after = law_protected_pieces o.halvings o.budget ps m.points segs rest on start protected.can_split protected.ends

  sound : (k : ℕ) → k < length fs → IsSoundFacet m.points segs (facet_numbered fs k)
  sound k l =
      law_sound ps m.points segs (facet_numbered fs k) after.begins
      (meshed_sound o.keep_facets ps c segs fs given.distinct given.corners protected.flat protected.meshed k l)

  has : HasTriangles m.points fs m.triangles
  has = subst (HasTriangles m.points fs) (sym triangles) (has_triangles m.points fs)

  pub covered_at : (k : ℕ) → k < length fs → IsCoveredAt m.points m.triangles segs fs k
  covered_at k l = let s = sound k l in record {
    covers = λ p e. law_bounded_cover m.points k (facet_numbered fs k) p segs after.distinct s.on e s.flat s.bounded after.has_pieces;
    there = λ t inside.
        let is = ((law_facet_list m.points k (facet_numbered fs k) t).0 inside).of_facet in
        (has.exactly t).1 (subst (λ n. n < length fs) (sym is) l, subst (λ n. Contains (triangles_at m.points fs n) t) (sym is) inside);
  }
