use Rattle.std.proofs.Common.{inl, inr, Bool, pos, sym, subst, ap, ◌∙◌}
use Rattle.std.specs.Prelude.{ℕ, if◌then◌else◌, slice_index_or}
use Rattle.std.proofs.lemmas.Bool.{true≢false}
use Rattle.incidence.specs.HalfFaces.{used}
use Rattle.mesh_files.specs.FaceRows.{IsFaceMarker, is_on_hull}
use Rattle.mesh_files.specs.FacetFaces.{IsTriangleIn}
use Rattle.mesh_files.proofs.markers.row_at.Goals.{then-all-via-then-all, then-all-via-else-all+then-on_hull}
use Rattle.mesh_files.proofs.markers.row_at.Goals as goal

pub returns-in-Some-clause-row : goal.returns-in-Some-clause-row
returns-in-Some-clause-row c d =
    let same = ap (λ u. u.face) (sym (c.use_at.ensures.same d)) in
    record {
      corners_are = c.in_facet.ensures.corners ∙ same;
      marker_is = subst (λ g. IsFaceMarker (IsTriangleIn c.args.facets.now g) c.args.complex.now.facets (is_on_hull c.args.list.now (slice_index_or (used c.args.list.now c.args.uses.now) c.args.at d).face) c.in_facet.result.marker) same
          (inl (c.in-Some.facet, c.in-Some.ensures, c.in_facet.ensures.marker));
      asked = inr (inr (c.in-Some.facet, subst (λ g. IsTriangleIn c.args.facets.now g c.in-Some.facet) same c.in-Some.ensures.0));
    }

pub returns-then-all-clause-row : goal.returns-then-all-clause-row
returns-then-all-clause-row c d =
    let same = ap (λ u. u.face) (sym (c.use_at.ensures.same d)) in
    let hull = c.is_of_one_row-on_hull.ensures d in
    record {
      corners_are = c.in_no_facet.ensures.corners ∙ same;
      marker_is = inr (subst (λ g. ¬ ((facet : ℕ) × IsTriangleIn c.args.facets.now g facet)) same c.in_default.ensures, c.in_no_facet.ensures.marker ∙ ap (λ (b : Bool). if b then pos 1 else pos 0) hull);
      asked = elim c.then-all.branch [ then-all-via-then-all w ↦ inl w.if-all.true | then-all-via-else-all+then-on_hull w ↦ inr (inl (sym hull ∙ w.if-on_hull.true)) ];
    }

pub returns-clause-row : goal.returns-clause-row
returns-clause-row c d r w =
    let same = ap (λ u. u.face) (sym (c.use_at.ensures.same d)) in
    elim w.asked [
      | inl h ↦ true≢false (sym h ∙ c.if-all.false)
      | inr k ↦ elim k [
        | inl h ↦ true≢false (sym h ∙ sym (c.is_of_one_row-on_hull.ensures d) ∙ c.if-on_hull.false)
        | inr h ↦ subst (λ g. ¬ ((facet : ℕ) × IsTriangleIn c.args.facets.now g facet)) same c.in_default.ensures h
      ]
    ]
