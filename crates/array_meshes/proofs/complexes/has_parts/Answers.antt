use Rattle.std.proofs.Common.{All, subst, refl, take_all}
use Rattle.std.proofs.lemmas.List.Elements.{All-more}
use Rattle.array_meshes.specs.Complexes.{IsFacetThere}
use Rattle.array_meshes.proofs.complexes.has_parts.Goals as goal

pub loop-facet-preserved : goal.loop-facet-preserved
loop-facet-preserved c =
    All-more (IsFacetThere c.args.complex.now) c.args.complex.now.facets.now c.loop-facet.facet-index _ c.loop-facet-test.true c.loop-facet.invariant (c.if-not-is_facet_there.ensures.0 refl)

pub returns : goal.returns
returns c = (λ h. subst (All (IsFacetThere c.args.complex.now)) (take_all c.loop-facet.facet-index c.args.complex.now.facets.now c.loop-facet-test.false) c.loop-facet.invariant, λ h. refl)
