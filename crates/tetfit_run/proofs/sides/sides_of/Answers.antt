use Rattle.tetfit_run.proofs.FacetSides.{sides_there}
use Rattle.tetfit_run.proofs.sides.sides_of.Goals as goal

pub returns : goal.returns
returns c = sides_there c.args.complex.now c.args.facet c.facet-span.result.now c.sides_in.result c.facet-span.ensures.value c.sides_in.ensures
