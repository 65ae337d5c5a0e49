use Rattle.std.proofs.Common.{◌<◌, length, ap, arith}
use Rattle.std.proofs.lemmas.List.{length-map}
use Rattle.geo_laws.specs.Complex.{Complex}
use Rattle.geo_laws.specs.Stored.{polygon_at}
use Rattle.geo_laws.proofs.Complexes.{facet_there}
use Rattle.geo_laws.proofs.complex.Complex.facet.Goals as goal

pub returns-clause-order : goal.returns-clause-order
returns-clause-order c =
    let few : c.args.i < length c.self.inside.facets.items = omega (arith, c.requires, ap (λ (v : Complex). length v.facets) c.self.view_is) in
    (facet_there 0 (length c.self.inside.polygons) c.self.inside.facets.items c.args.i c.index.result.now c.self.invariant.following few c.index.ensures).0

pub returns-clause-range : goal.returns-clause-range
returns-clause-range c =
    let few : c.args.i < length c.self.inside.facets.items = omega (arith, c.requires, ap (λ (v : Complex). length v.facets) c.self.view_is) in
    let there = facet_there 0 (length c.self.inside.polygons) c.self.inside.facets.items c.args.i c.index.result.now c.self.invariant.following few c.index.ensures in
    omega (arith, there.1, length-map c.self.inside.polygons (polygon_at c.self.inside.corners), ap (λ (v : Complex). length v.polygons) c.self.view_is)
