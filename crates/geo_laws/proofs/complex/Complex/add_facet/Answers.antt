use Rattle.std.proofs.Common.{length, ap, arith, length-append, [], ◌∷◌}
use Rattle.geo_laws.specs.Complex.{Complex}
use Rattle.geo_laws.specs.declared.complex.Facet.{Facet}
use Rattle.geo_laws.proofs.Complexes.{facet_follows}
use Rattle.geo_laws.proofs.complex.Complex.add_facet.Goals as goal

pub invariant_of-self-2 : goal.invariant_of-self-2
invariant_of-self-2 c =
    let inside = c.self.inside in
    let before = c.self.invariant in
    let made : Facet = record { first = c.len-place.result; past = c.len-place.result; holes = c.new.result; marker = c.args.marker } in
    rw c.in_ok-push.ensures.items (record {
      within = before.within;
      following = facet_follows 0 (length inside.polygons) inside.facets.items made before.following c.len-place.ensures.count c.len-place.ensures.count;
      few_polygons = before.few_polygons;
      few_facets = omega (arith, c.requires, ap (λ (v : Complex). length v.facets) c.self.view_is, length-append inside.facets.items (made ∷ []));
      few_regions = before.few_regions;
    })
