use Rattle.std.proofs.Common.{◌∙◌, ap, length}
use Rattle.std.proofs.lemmas.Result.{on_ok_weaker}
use Rattle.geo_laws.proofs.Complexes.{length_change_last}
use Rattle.geo_laws.specs.Complex.{Complex}
use Rattle.array_meshes.proofs.parts.add_facet_hole.Goals as goal

pub returns-clause-facets : goal.returns-clause-facets
returns-clause-facets c =
    on_ok_weaker c.add_facet_hole.result (λ made. ap (λ (v : Complex). length v.facets) made ∙ length_change_last _ c.args.made.now.facets) c.add_facet_hole.ensures.ok
