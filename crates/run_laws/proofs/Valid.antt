-- Each cause why a complex has no mesh is against its being valid.
use Rattle.std.proofs.Common.{◌≡◌, inl, inr, Bool, true, false, List, map, length, refl, ap, sym, subst, ◌∙◌}
use Rattle.sign_predicates.specs.Point.{Point}
use Rattle.geo_laws.specs.Complex.{Complex, facets}
use Rattle.geo_laws.specs.Delaunay.{delaunay_rows, numbers_below}
use Rattle.geo_laws.specs.Facet.{Facet}
use Rattle.geo_laws.specs.Segment.{pieces, protect, ProtectionEnd, Protected, GridEnd as GridEndOf, BudgetEnd as BudgetEndOf}
use Rattle.geo_laws.specs.declared.complex.Piece.{Piece}
use Rattle.simplex_meets.specs.Crossing.{AreTrianglesMet}
use Rattle.facet_recover.specs.Refilled.{HasTangle}
use Rattle.merged_facets.proofs.MergedOnce.{law_one_merging}
use Rattle.segment_protect.specs.Crossing.{ArePiecesPairwiseMet}
use Rattle.tangle_laws.specs.Tangle.{AnomalyHolds}
use Rattle.tangle_laws.specs.declared.anomaly.Anomaly.{Anomaly}
use Rattle.complex_mesh.specs.Protection.{AreMeshed, complex_triangles}
use Rattle.complex_mesh.specs.declared.fault.MeshFault.TheVariants.{Flat, NotFlat, SegmentsCross, GridEnd, BudgetEnd, Crossing, NoFill, NoMemory}
use Rattle.complex_mesh.specs.declared.mesh.MeshOptions.{MeshOptions}
use Rattle.complex_mesh.proofs.OneAnswerParts.{flat_none, segments_none, parts_none}
use Rattle.run_laws.specs.Valid.{IsValid, HasNoAnomaly, ValidComplexLaw}

-- ---- what is meshed, and how protection ends, is one

-- the segments and facets
record AreSame (segs also : List Piece) (fs gs : List Facet) : Type 0 where
  segments_same : segs ≡ also
  facets_same : fs ≡ gs

meshed_same : (keep : Bool) (ps : List Point) (c : Complex) (segs also : List Piece) (fs gs : List Facet) → AreMeshed keep ps c segs fs → AreMeshed keep ps c also gs → AreSame segs also fs gs
meshed_same true ps c segs also fs gs h k = record { segments_same = h.0 ∙ sym k.0; facets_same = h.1 ∙ sym k.1 }
meshed_same false ps c segs also fs gs h k =
    let one = law_one_merging ps c h.group h.inner k.group k.inner h.merging k.merging in
    record {
      segments_same = h.segments_are ∙ one.0 ∙ sym k.segments_are;
      facets_same = h.facets_are ∙ (λ j. map (λ n. one.1 n j) (numbers_below (length c.facets))) ∙ sym k.facets_are;
    }

-- the points and pieces with which it ends
record EndSame (qs rs : List Point) (rest also : List Piece) : Type 0 where
  points_same : qs ≡ rs
  pieces_same : rest ≡ also

end_same : (qs rs : List Point) (rest also : List Piece) → Protected qs rest ≡ Protected rs also → EndSame qs rs rest also
end_same qs rs rest also e = record { points_same = ap points_of e; pieces_same = ap pieces_of e }
  where
    points_of : ProtectionEnd → List Point
    points_of (Protected ps ss) = ps
    points_of end = qs

    pieces_of : ProtectionEnd → List Piece
    pieces_of (Protected ps ss) = ss
    pieces_of end = rest

-- ---- a valid complex

module _ (o : MeshOptions) (ps : List Point) (c : Complex) (v : IsValid o ps c) where
  segments_as : (also : List Piece) (gs : List Facet) → AreMeshed o.keep_facets ps c also gs → v.segs ≡ also
  segments_as also gs h = (meshed_same o.keep_facets ps c v.segs also v.fs gs v.protected.meshed h).segments_same

  facets_as : (also : List Piece) (gs : List Facet) → AreMeshed o.keep_facets ps c also gs → v.fs ≡ gs
  facets_as also gs h = (meshed_same o.keep_facets ps c v.segs also v.fs gs v.protected.meshed h).facets_same

  pieces_met : (also : List Piece) (gs : List Facet) → AreMeshed o.keep_facets ps c also gs → ArePiecesPairwiseMet ps (pieces ps also)
  pieces_met also gs h = subst (λ (ss : List Piece). ArePiecesPairwiseMet ps (pieces ps ss)) (segments_as also gs h) v.protected.can_split.1

  -- protection ends so, whatever segments are meshed
  ends_as : (also : List Piece) (gs : List Facet) (end : ProtectionEnd) → AreMeshed o.keep_facets ps c also gs → protect o.halvings o.budget ps (pieces ps also) ≡ end → Protected v.qs v.rest ≡ end
  ends_as also gs end h e = sym v.protected.ends ∙ ap (λ ss. protect o.halvings o.budget ps (pieces ps ss)) (segments_as also gs h) ∙ e

  triangles_met : (rs : List Point) (gs : List Facet) (also : List Piece) → v.qs ≡ rs → v.fs ≡ gs → v.rest ≡ also → AreTrianglesMet rs (complex_triangles rs gs) also
  triangles_met rs gs also e f g =
      subst (λ (n : List Piece). AreTrianglesMet rs (complex_triangles rs gs) n) g
      (subst (λ (n : List Facet). AreTrianglesMet rs (complex_triangles rs n) v.rest) f
      (subst (λ (n : List Point). AreTrianglesMet n (complex_triangles n v.fs) v.rest) e v.met))

  no_grid_end : (piece : Piece) → Protected v.qs v.rest ≡ GridEndOf piece → ⊥
  no_grid_end piece e = cc

  no_budget_end : (piece : Piece) → Protected v.qs v.rest ≡ BudgetEndOf piece → ⊥
  no_budget_end piece e = cc

  no_anomaly : (a : Anomaly) → HasNoAnomaly v.qs (complex_triangles v.qs v.fs) → HasTangle v.qs (complex_triangles v.qs v.fs) (delaunay_rows v.qs) → AnomalyHolds v.qs (complex_triangles v.qs v.fs) a → ⊥
  no_anomaly a (inl untangled) tangle holds = untangled tangle.row tangle.is_row tangle.is_tangled
  no_anomaly a (inr none) tangle holds = none a holds

  no_anomaly_of : (a : Anomaly) (rs : List Point) (gs : List Facet) → rs ≡ v.qs → gs ≡ v.fs → HasNoAnomaly v.qs (complex_triangles v.qs v.fs)
      → HasTangle rs (complex_triangles rs gs) (delaunay_rows rs) → AnomalyHolds rs (complex_triangles rs gs) a → ⊥
  no_anomaly_of a rs gs e f none tangle holds =
      no_anomaly a none
      (subst (λ (n : List Facet). HasTangle v.qs (complex_triangles v.qs n) (delaunay_rows v.qs)) f
      (subst (λ (n : List Point). HasTangle n (complex_triangles n gs) (delaunay_rows n)) e tangle))
      (subst (λ (n : List Facet). AnomalyHolds v.qs (complex_triangles v.qs n) a) f (subst (λ (n : List Point). AnomalyHolds n (complex_triangles n gs) a) e holds))

pub valid_complex : ValidComplexLaw
valid_complex o ps c v none Flat h = absurd (v.solid h)
valid_complex o ps c v none (NotFlat facet four) h = absurd (flat_none ps (facets c) (record { facet = facet; four = four }) h.1 v.protected.flat)
valid_complex o ps c v none (SegmentsCross one two) h = absurd (segments_none ps (pieces ps h.0) one two h.5 (pieces_met o ps c v h.0 h.1 h.4))
valid_complex o ps c v none (GridEnd piece) h = absurd (no_grid_end o ps c v piece (ends_as o ps c v h.0 h.1 (GridEndOf piece) h.3 h.5))
valid_complex o ps c v none (BudgetEnd made piece) h = absurd (no_budget_end o ps c v piece (ends_as o ps c v h.0 h.1 (BudgetEndOf piece) h.3 h.6))
valid_complex o ps c v none (Crossing one two) h =
    let k = h.4 in
    let e = end_same v.qs h.2 v.rest h.3 (ends_as o ps c v h.0 h.1 (Protected h.2 h.3) k.meshed k.ends) in
    absurd (parts_none h.2 (complex_triangles h.2 h.1) h.3 one two h.5 (triangles_met o ps c v h.2 h.1 h.3 e.points_same (facets_as o ps c v h.0 h.1 k.meshed) e.pieces_same))
valid_complex o ps c v none (NoFill anomaly) h =
    let k = h.4 in
    let e = end_same v.qs h.2 v.rest h.3 (ends_as o ps c v h.0 h.1 (Protected h.2 h.3) k.meshed k.ends) in
    absurd (no_anomaly_of o ps c v anomaly h.2 h.1 (sym e.points_same) (sym (facets_as o ps c v h.0 h.1 k.meshed)) none h.6 h.7)
valid_complex o ps c v none NoMemory h = refl
