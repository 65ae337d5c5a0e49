-- The mesh of a complex without segments and facets, with its hull kept: the Delaunay list of its points, and no other.
use Rattle.std.proofs.Common.{◌≡◌, ◌≢◌, ℕ, ◌<◌, false, true, List, [], Option, Some, None, refl, sym, ap, subst, ◌∙◌, arith}
use Rattle.std.specs.Prelude.{AllPairs, Contains, IsSome, IsTrue}
use Rattle.std.specs.List.{slice_index_or}
use Rattle.std.proofs.lemmas.Bool.{true≢false}
use Rattle.std.proofs.lemmas.List.Elements.{All-nil, Contains-get_or}
use Rattle.sign_predicates.specs.Point.{Point}
use Rattle.geo_laws.specs.Complex.{empty_complex}
use Rattle.geo_laws.specs.Delaunay.{AreCoplanar, delaunay_rows}
use Rattle.geo_laws.specs.Laws.{IsTriangulation}
use Rattle.geo_laws.specs.Mesh.{IsMesh}
use Rattle.geo_laws.specs.Path.{HullOnly, KeepHull}
use Rattle.geo_laws.specs.Segment.{pieces, protect, Protected}
use Rattle.geo_laws.specs.Simplex.{ProperlyMet}
use Rattle.geo_laws.specs.declared.complex.Piece.{Piece}
use Rattle.geo_laws.specs.declared.tetrahedra.Tet.{Tet}
use Rattle.geo_laws.proofs.DelaunayList.{law_delaunay_list, triangulation_of_rows}
use Rattle.segment_protect.specs.Crossing.{AreMet}
use Rattle.tangle_laws.specs.Tangle.{IsAdmissible}
use Rattle.tangle_laws.proofs.Steps.{law_uncrossed as law_uncrossed_row}
use Rattle.path_laws.specs.Places.{IsFilling}
use Rattle.complex_laws.specs.ComplexMesh.{HasNoCrossing, IsCarved}
use Rattle.complex_laws.proofs.ComplexMesh.{law_all_kept, law_hull_mesh, law_uncrossed}
use Rattle.facet_recover.specs.Refilled.{HasTangle}
use Rattle.complex_mesh.specs.Meshing.{IsComplexMesh, IsMeshFault}
use Rattle.complex_mesh.specs.Protection.{IsMeshable, IsProtectedComplex, complex_triangles}
use Rattle.complex_mesh.specs.Steps.{IsKeptMesh, IsRecovered}
use Rattle.complex_mesh.specs.declared.fault.MeshFault.{MeshFault}
use Rattle.complex_mesh.specs.declared.fault.MeshFault.TheVariants.{NoFill, NoMemory}
use Rattle.complex_mesh.specs.declared.mesh.ComplexMesh.{ComplexMesh}
use Rattle.complex_mesh.specs.declared.mesh.MeshOptions.{MeshOptions}
use Rattle.complex_mesh.proofs.Kept.{complex_mesh_of}
use Rattle.complex_mesh.proofs.OneAnswer.{law_no_fault}

abbrev pub hull_kept : MeshOptions
hull_kept = record { halvings = 12; budget = 100000; keep_hull = true; keep_facets = false; regions = false }

no_pairs : {X : Type 0} (R : X → X → Type 0) → AllPairs R []
no_pairs R i j d l k = absurd (omega (arith, k))

below_none : (f : ℕ) → f < 0 → ⊥
below_none f h = omega arith

-- nothing is crossed
none_crossed : (ps : List Point) → HasNoCrossing ps []
none_crossed ps t l facet h = let k = h.2.1 in below_none k.0 k.2

-- so each Delaunay tetrahedron is admissible
none_hidden : (ps : List Point) (t : Tet) → Contains (delaunay_rows ps) t → IsAdmissible ps [] t
none_hidden ps t l = law_uncrossed_row ps [] t (((law_delaunay_list ps).exactly t).0 l) (none_crossed ps t l)

none_tangled : (ps : List Point) → HasTangle ps [] (delaunay_rows ps) → ⊥
none_tangled ps tangle = let t = tangle.is_tangled in none_crossed ps tangle.row tangle.is_row t.0 t.3

ends_same : (ps qs : List Point) (rest other : List Piece) → Protected ps rest ≡ Protected qs other → qs ≡ ps
ends_same ps qs rest other e = cc

no_marks : (marks : Option (List (Option ℕ))) → (IsSome marks → IsTrue false) → marks ≡ None
no_marks None h = refl
no_marks (Some marks) h = absurd (true≢false (sym (h refl)))

module _ (ps : List Point) (solid : ¬ AreCoplanar ps) (given : IsMeshable 12 100000 ps empty_complex) where
  hull_mesh : IsMesh HullOnly ps [] [] (delaunay_rows ps)
  hull_mesh = law_hull_mesh ps (delaunay_rows ps) (law_delaunay_list ps)

  triangulation : IsTriangulation ps (delaunay_rows ps)
  triangulation = triangulation_of_rows ps (delaunay_rows ps) refl

  filling : IsFilling ps [] (delaunay_rows ps)
  filling = record {
    is_on = λ k d l. (hull_mesh.positive k d l).0;
    positive = λ k d l. (hull_mesh.positive k d l).1;
    covers = triangulation.covers;
    properly_met = triangulation.properly_met;
    facets_kept = All-nil _;
  }

  recovered : IsRecovered ps [] (delaunay_rows ps)
  recovered = record {
    refilled = record {
      positive = hull_mesh.positive;
      ascending = hull_mesh.ascending;
      triangulation = triangulation;
      kept = λ t l n. l;
      facets = All-nil _;
      locally_delaunay = hull_mesh.locally_delaunay;
    };
    admissible = λ k d l. none_hidden ps (slice_index_or (delaunay_rows ps) k d) (Contains-get_or (delaunay_rows ps) k d l);
    by_sides = λ untangled. (law_uncrossed ps [] (delaunay_rows ps) (none_crossed ps)).1 refl;
    whole_mesh = record { filling = filling; arranged = λ k d l. (hull_mesh.positive k d l).2; locally_delaunay = hull_mesh.locally_delaunay };
  }

  protected : IsProtectedComplex hull_kept ps empty_complex [] [] ps []
  protected = record {
    flat = All-nil _;
    meshed = record {
      group = λ f. f;
      inner = λ f s. false;
      merging = record { groups = λ f h. absurd (below_none f h); sides_of = λ f s h. absurd (below_none f h) };
      segments_are = refl;
      facets_are = refl;
    };
    can_split = (solid, no_pairs (AreMet ps));
    ends = refl;
  }

  made : ComplexMesh
  made = record { points = ps; triangles = []; tetrahedra = delaunay_rows ps; marks = None }

  kept : IsKeptMesh hull_kept empty_complex (delaunay_rows ps) made
  unfolding made
  kept = record {
    carved = (law_all_kept ps [] (delaunay_rows ps) (delaunay_rows ps) filling hull_mesh.ascending).1 refl;
    marked = (λ h. absurd (true≢false (sym h)), λ h. absurd (true≢false (sym h)));
    marks = tt;
  }

  pub has_mesh : IsComplexMesh hull_kept ps empty_complex (record { points = ps; triangles = []; tetrahedra = delaunay_rows ps; marks = None })
  unfolding made
  has_mesh =
      complex_mesh_of hull_kept ps empty_complex made [] [] ps [] [] (delaunay_rows ps) given protected refl
      (record { triangles_meet = no_pairs (ProperlyMet ps); triangles_meet_pieces = All-nil _ }) recovered refl refl kept

  pub one_mesh : (m : ComplexMesh) → IsComplexMesh hull_kept ps empty_complex m → m ≡ record { points = ps; triangles = []; tetrahedra = delaunay_rows ps; marks = None }
  one_mesh m h =
      let meshed = h.protected.meshed in
      let points = ends_same ps m.points [] h.rest (subst (λ segs. protect 12 100000 ps (pieces ps segs) ≡ Protected m.points h.rest) meshed.segments_are h.protected.ends) in
      let triangles : m.triangles ≡ [] = h.triangles ∙ ap (complex_triangles m.points) meshed.facets_are in
      let none = subst (HasNoCrossing m.points) (sym triangles) (none_crossed m.points) in
      let whole = (law_uncrossed m.points m.triangles h.whole none).0 (h.by_sides (λ t l tangle. none t l tangle.0 tangle.3)) ∙ ap delaunay_rows points in
      let carved = subst (λ rows. IsCarved KeepHull ps [] [] rows m.tetrahedra) whole
      (subst (λ ts. IsCarved KeepHull ps ts [] h.whole m.tetrahedra) triangles (subst (λ qs. IsCarved KeepHull qs m.triangles [] h.whole m.tetrahedra) points h.carved)) in
      let rows = (law_all_kept ps [] (delaunay_rows ps) m.tetrahedra filling hull_mesh.ascending).0 carved in
      let marks = no_marks m.marks h.marked.0 in
      λ i. record { points = points i; triangles = triangles i; tetrahedra = rows i; marks = marks i }

  -- and no cause why there is none, but want of memory
  pub no_fault : (fault : MeshFault) → fault ≢ NoMemory → IsMeshFault hull_kept ps empty_complex fault → ⊥
  no_fault (NoFill anomaly) n (segs, fs, qs, rest, ended, met, tangle, holds) =
      none_tangled qs (subst (λ gs. HasTangle qs (complex_triangles qs gs) (delaunay_rows qs)) ended.meshed.facets_are tangle)
  no_fault NoMemory n cause = n refl
  no_fault fault n cause = law_no_fault hull_kept ps empty_complex _ has_mesh fault tt cause
