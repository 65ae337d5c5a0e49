use Rattle.std.proofs.Common.{◌≡◌, ◌+◌, ◌-◌, suc, length, ap, arith, refl, ◌++◌, [], ◌∷◌, ◌∙◌, List, ℕ, length-append, set}
use Rattle.std.proofs.lemmas.List.{length-map}
use Rattle.std.proofs.lemmas.Result.{err_from_is_err_and}
use Rattle.geo_laws.specs.Complex.{Complex, Polygon, with_polygon}
use Rattle.geo_laws.specs.Stored.{polygon_at, polygons_at}
use Rattle.geo_laws.specs.declared.complex.Facet.{Facet}
use Rattle.geo_laws.specs.declared.complex.Span.{Span}
use Rattle.geo_laws.proofs.Complexes.{polygons_kept, polygons_pushed, within_pushed, last_changed, last_follows, last_past, length_change_last}
use Rattle.geo_laws.proofs.complex.Complex.add_polygon.Goals as goal

pub returns-in_err-push-clause-err : goal.returns-in_err-push-clause-err
returns-in_err-push-clause-err c =
    let p = err_from_is_err_and c.from_residual-in_err-push.result c.from_residual-in_err-push.ensures.1 in
    let inside = c.self.inside in
    let more = inside.corners ++ c.args.corners.now in
    let view : List Polygon → Complex = λ ps. record { polygons = ps; facets = inside.facets.items; holes = inside.holes; regions = inside.regions } in
    rw p.1 (ap view (ap (λ (cs : List ℕ). polygons_at cs c.push.new.self) c.in_ok-extend_from_slice.ensures.ok ∙ ap (polygons_at more) c.in_err-push.ensures.err ∙ polygons_kept inside.corners c.args.corners.now inside.polygons c.self.invariant.within) ∙ c.self.view_is)

pub overflow_add-facet : goal.overflow_add-facet
overflow_add-facet c =
    let inside = c.self.inside in
    let some : length inside.facets.items ≡ suc (c.len-last.result - 1) = omega (arith, c.requires.facet, ap (λ (v : Complex). length v.facets) c.self.view_is, c.len-last.ensures) in
    let past = last_past (length inside.polygons) inside.facets.items (c.len-last.result - 1) c.index_mut-facet.result.now c.self.invariant.following some c.index_mut-facet.ensures.value in
    omega (arith, past, c.requires.few, ap (λ (v : Complex). length v.polygons) c.self.view_is, length-map inside.polygons (polygon_at inside.corners))

pub invariant_of-self-2 : goal.invariant_of-self-2
invariant_of-self-2 c =
    let inside = c.self.inside in
    let before = c.self.invariant in
    let own = c.args.corners.now in
    let first = c.len-first.result in
    let past = c.len-past.result in
    let span : Span = record { first = first; past = past; line = c.args.line } in
    let some : length inside.facets.items ≡ suc (c.len-last.result - 1) = omega (arith, c.requires.facet, ap (λ (v : Complex). length v.facets) c.self.view_is, c.len-last.ensures) in
    let raise : Facet → Facet = λ f. record f { past = f.past + 1 } in
    let changed = last_changed raise inside.facets.items (c.len-last.result - 1) c.index_mut-facet.result.now some c.index_mut-facet.ensures.value in
    let extended = c.in_ok-extend_from_slice.ensures.ok in
    let pushed = c.in_ok-push.ensures.ok in
    let to : past ≡ length (inside.corners ++ own) = c.len-past.ensures.count ∙ ap length extended in
    let following = last_follows 0 (length inside.polygons) inside.facets.items raise (λ f. (refl, refl)) (omega arith) before.following in
    let counted : length (inside.polygons ++ span ∷ []) ≡ length inside.polygons + 1 = length-append inside.polygons (span ∷ []) in
    let count = ap (λ (v : Complex). length v.polygons) c.self.view_is in
    rw (changed, extended, pushed) (record {
      within = within_pushed inside.corners own inside.polygons first past c.args.line before.within c.len-first.ensures.count to;
      following = rw counted following;
      few_polygons = omega (arith, c.requires.few, counted, count, length-map inside.polygons (polygon_at inside.corners));
      few_facets = omega (arith, before.few_facets, length_change_last raise inside.facets.items);
      few_regions = before.few_regions;
    })

pub returns-clause-ok : goal.returns-clause-ok
returns-clause-ok c =
    let inside = c.self.inside in
    let own = c.args.corners.now in
    let first = c.len-first.result in
    let past = c.len-past.result in
    let span : Span = record { first = first; past = past; line = c.args.line } in
    let some : length inside.facets.items ≡ suc (c.len-last.result - 1) = omega (arith, c.requires.facet, ap (λ (v : Complex). length v.facets) c.self.view_is, c.len-last.ensures) in
    let raise : Facet → Facet = λ f. record f { past = f.past + 1 } in
    let changed = last_changed raise inside.facets.items (c.len-last.result - 1) c.index_mut-facet.result.now some c.index_mut-facet.ensures.value in
    let extended = c.in_ok-extend_from_slice.ensures.ok in
    let pushed = c.in_ok-push.ensures.ok in
    let to : past ≡ length (inside.corners ++ own) = c.len-past.ensures.count ∙ ap length extended in
    let polygons = ap (λ (cs : List ℕ). polygons_at cs c.push.new.self) extended ∙ ap (polygons_at (inside.corners ++ own)) pushed ∙ polygons_pushed inside.corners own inside.polygons first past c.args.line c.self.invariant.within c.len-first.ensures.count to in
    let view : List Polygon → List Facet → Complex = λ ps fs. record { polygons = ps; facets = fs; holes = inside.holes; regions = inside.regions } in
    let last = c.index_mut-facet.result.now in
    let fs = set inside.facets.items (c.len-last.result - 1) (record last { past = last.past + 1 }) in
    let ps = polygons_at inside.corners inside.polygons ++ record { corners = own; line = c.args.line } ∷ [] in
    ap (λ (qs : List Polygon). view qs fs) polygons ∙ ap (view ps) changed ∙ ap (with_polygon own c.args.line) c.self.view_is
