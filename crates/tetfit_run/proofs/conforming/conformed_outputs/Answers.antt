use Rattle.std.proofs.Common.{◌∙◌, Option, sym, subst}
use Rattle.std.specs.Prelude.{IfSome}
use Rattle.refining.specs.Outputs.{ConformingMeshed}
use Rattle.refining.specs.declared.goal.Goal.{Goal}
use Rattle.run_steps.specs.declared.outputs.Outputs.{Outputs}
use Rattle.tetfit_run.specs.Measured.{tried, IsTried}
use Rattle.tetfit_run.specs.Outputs.{fit_limits, IsConformedBy}
use Rattle.tetfit_run.specs.Trying.{at_decimals}
use Rattle.tetfit_run.proofs.Measured.{first_is, in_place_among, tried_few}
use Rattle.tetfit_run.proofs.conforming.conformed_outputs.Goals as goal

pub conformed_at-requires-clause-ranges : goal.conformed_at-requires-clause-ranges
conformed_at-requires-clause-ranges g c =
    let options = c.args.wanted.now.options in
    let input = c.args.input.now in
    let first = c.first_tried-first.result in
    let n = c.refined_decimals-decimals.result in
    let is = first_is options input c.as_slice-points.result.now first c.requires.origin c.as_slice-points.ensures c.first_tried-first.ensures.value in
    let among : IsTried options input n = in_place_among options input first n is c.refined_decimals-decimals.ensures.given in
    c.requires.ranges n (tried_few options input n among)

pub returns-in-Some-2-clause-made : goal.returns-in-Some-2-clause-made
returns-in-Some-2-clause-made g c =
    let wanted = c.args.wanted.now in
    let input = c.args.input.now in
    let first = c.first_tried-first.result in
    let n = c.refined_decimals-decimals.result in
    let at = at_decimals n wanted.options in
    let is = first_is wanted.options input c.as_slice-points.result.now first c.requires.origin c.as_slice-points.ensures c.first_tried-first.ensures.value in
    let made = subst (λ (o : Option Outputs). IfSome o (ConformingMeshed c.in-Some.goal fit_limits at (tried at input))) c.in-Some-2.is c.in_ok-outputs.ensures.made in
    subst (λ (bounds : Option Goal). IsConformedBy bounds wanted.options input n c.in-Some-2.outputs) (sym c.in-Some.is)
    (record {
      decimals = c.args.refused.now.decimals;
      status = c.args.refused.now.end.status;
      fitted = c.requires.refused.0;
      off_grid = c.is_off_some_grid.ensures c.if-not-is_off_some_grid.false;
      within = in_place_among wanted.options input first n is c.refined_decimals-decimals.ensures.given;
      made = made;
      some = sym c.is_empty.ensures ∙ c.if-not-is_empty.true;
    })
