use Rattle.std.proofs.Common.{◌∙◌, sym, subst}
use Rattle.std.specs.Prelude.{All}
use Rattle.tetfit_run.specs.Sides.{IsSideOn}
use Rattle.tetfit_run.proofs.FacetSides.{sides_on}
use Rattle.tetfit_run.proofs.sides.first_open.Goals as goal

pub index_of-requires : goal.index_of-requires
index_of-requires c =
    let ps = c.args.points.now in
    subst (All (IsSideOn ps)) (sym (c.as_slice-sides.ensures ∙ c.in_ok-list.ensures)) (sides_on ps c.args.complex.now c.requires)

pub first_of-requires-clause-on : goal.first_of-requires-clause-on
first_of-requires-clause-on c =
    let ps = c.args.points.now in
    subst (All (IsSideOn ps)) (sym (c.as_slice-sides.ensures ∙ c.in_ok-list.ensures)) (sides_on ps c.args.complex.now c.requires)
