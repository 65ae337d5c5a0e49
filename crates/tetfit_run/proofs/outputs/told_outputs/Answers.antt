use Rattle.std.proofs.Common.{◌≡◌, List, sym, subst, arith}
use Rattle.grid_coords.specs.declared.points.DecimalPoint.{DecimalPoint}
use Rattle.tetfit_run.specs.Hints.{moved_text}
use Rattle.tetfit_run.specs.Outputs.{IsFittedTo}
use Rattle.std.specs.Prelude.{Ok}
use Rattle.tetfit_run.proofs.Fitted.{fitted_told}
use Rattle.tetfit_run.proofs.Measured.{tried_few}
use Rattle.tetfit_run.proofs.outputs.told_outputs.Goals as goal

pub final_outputs-requires-clause-ranges : goal.final_outputs-requires-clause-ranges
final_outputs-requires-clause-ranges g c = λ m le.
    let few = tried_few c.args.wanted.now.options c.args.input.now c.args.fitted.decimals c.requires.fitted.within in
    c.requires.ranges m (omega (arith, le, few))

pub moved_text-requires : goal.moved_text-requires
moved_text-requires g c = (c.requires.ranges 0 (omega arith)).unit

pub returns-clause-made : goal.returns-clause-made
returns-clause-made g c =
    let f = c.args.fitted in
    let w = c.args.wanted.now in
    let i = c.args.input.now in
    let last = c.in_ok-last.last in
    let more = c.in_ok-more.more in
    let made = fitted_told w i f.decimals last.decimals f.outputs last.outputs more c.requires.fitted c.requires.some c.in_ok-last.ensures.outputs
    (subst (λ (ps : List DecimalPoint). more ≡ moved_text w.options last.decimals ps) c.as_slice.ensures c.in_ok-more.ensures) in
    subst (λ o. IsFittedTo w i (Ok o)) (sym c.outputs_at.ensures) made
