use Rattle.std.proofs.Common.{◌≡◌, ◌-◌, suc, length, ap, arith, refl, ◌∙◌, List}
use Rattle.std.proofs.lemmas.Result.{on_ok_weaker}
use Rattle.geo_laws.specs.Complex.{Complex, with_facet_hole}
use Rattle.geo_laws.specs.Stored.{polygons_at}
use Rattle.geo_laws.specs.declared.complex.Facet.{Facet}
use Rattle.geo_laws.proofs.Complexes.{hole_pushed, last_changed, last_stays, length_change_last}
use Rattle.geo_laws.proofs.complex.Complex.add_facet_hole.Goals as goal

pub invariant_of-self : goal.invariant_of-self
invariant_of-self c =
    let inside = c.self.inside in
    let before = c.self.invariant in
    let holes = c.push.new.self in
    let change : Facet → Facet = λ f. record f { holes = holes } in
    let some : length inside.facets.items ≡ suc (c.len-last.result - 1) = omega (arith, c.requires, ap (λ (v : Complex). length v.facets) c.self.view_is, c.len-last.ensures) in
    let changed = last_changed change inside.facets.items (c.len-last.result - 1) c.index_mut-facet.result.now some c.index_mut-facet.ensures.value in
    rw changed (record {
      within = before.within;
      following = last_stays 0 (length inside.polygons) inside.facets.items change (λ f. (refl, refl)) before.following;
      few_polygons = before.few_polygons;
      few_facets = omega (arith, before.few_facets, length_change_last change inside.facets.items);
      few_regions = before.few_regions;
    })

pub returns-clause-ok : goal.returns-clause-ok
returns-clause-ok c =
    let inside = c.self.inside in
    let some : length inside.facets.items ≡ suc (c.len-last.result - 1) = omega (arith, c.requires, ap (λ (v : Complex). length v.facets) c.self.view_is, c.len-last.ensures) in
    let with_facets : List Facet → Complex = λ fs. record { polygons = polygons_at inside.corners inside.polygons; facets = fs; holes = inside.holes; regions = inside.regions } in
    on_ok_weaker c.push.result
    (λ pushed. ap with_facets (hole_pushed inside.facets.items (c.len-last.result - 1) c.index_mut-facet.result.now c.args.at c.push.new.self some c.index_mut-facet.ensures.value pushed) ∙ ap (with_facet_hole c.args.at) c.self.view_is)
    c.push.ensures.ok
