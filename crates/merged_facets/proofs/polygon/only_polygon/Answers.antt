use Rattle.std.proofs.Common.{ap, sym, ◌∙◌, refl}
use Rattle.geo_laws.specs.Complex.{corner_lists}
use Rattle.std.specs.Prelude.{slice_range}
use Rattle.merged_facets.specs.Merged.{only_polygon}
use Rattle.merged_facets.proofs.OnlyPolygons.{facet_is, none_of_count, none_of_holes, none_of_few, one, one_polygon, run_length, flat, not_empty}
use Rattle.merged_facets.proofs.polygon.only_polygon.Goals as goal
use Rattle.merged_facets.proofs.polygon.only_polygon.Goals.{then-parts-eq1+then-is_empty+else-corners-gt2, else-parts-eq1, else-parts-eq1-via-then-parts-eq1+else-is_empty, else-parts-eq1-via-else-parts-eq1}

pub returns-then-corners-gt2 : goal.returns-then-corners-gt2
returns-then-corners-gt2 c =
    let x = c.facet-parts.result.now in
    let h = c.facet-parts.ensures in
    let p = c.corners-corners.result.now in
    sym (ap only_polygon (facet_is c.args.complex.now c.args.facet x c.requires h.value)
    ∙ ap (λ qs. only_polygon (flat qs x.holes)) (one_polygon c.args.complex.now.polygons x.first x.past p c.if-parts-eq1.true h.range c.corners-corners.ensures)
    ∙ one p x.holes (c.if-is_empty.ensures.0 refl) c.if-corners-gt2.true)

pub returns : goal.returns
returns c =
    let x = c.facet-parts.result.now in
    let h = c.facet-parts.ensures in
    let ps = c.args.complex.now.polygons in
    sym (ap only_polygon (facet_is c.args.complex.now c.args.facet x c.requires h.value)
    ∙ elim c.if-parts-eq1.branch [
      | then-parts-eq1+then-is_empty+else-corners-gt2 w ↦
          let p = w.corners-corners.result.now in
          ap (λ qs. only_polygon (flat qs x.holes)) (one_polygon ps x.first x.past p w.if-parts-eq1.true h.range w.corners-corners.ensures)
          ∙ none_of_few p x.holes w.if-corners-gt2.false
      | else-parts-eq1 w ↦ elim w.else-parts-eq1.branch [
        | else-parts-eq1-via-then-parts-eq1+else-is_empty v ↦
            none_of_holes (corner_lists (slice_range ps x.first x.past)) x.holes (not_empty v.is_empty.result x.holes v.is_empty.ensures v.if-is_empty.false)
        | else-parts-eq1-via-else-parts-eq1 v ↦
            let e = run_length ps x.first x.past h.order h.range in
            none_of_count (corner_lists (slice_range ps x.first x.past)) x.holes (λ f. v.if-parts-eq1.false (sym e ∙ f))
      ]
    ])
