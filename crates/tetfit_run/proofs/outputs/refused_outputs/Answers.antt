use Rattle.std.proofs.Common.{◌≡◌, List, Option, Ok, refl, sym, subst, arith}
use Rattle.std.specs.Prelude.{IfSome}
use Rattle.grid_coords.specs.declared.points.DecimalPoint.{DecimalPoint}
use Rattle.tetfit_run.specs.Hints.{moved_text}
use Rattle.tetfit_run.specs.Outputs.{IsConformedBy, IsFittedTo, fit_limits}
use Rattle.tetfit_run.specs.declared.fitting.Fitted.{Fitted}
use Rattle.tetfit_run.proofs.Fitted.{conformed_told, unfitted_is}
use Rattle.tetfit_run.proofs.Measured.{tried_few}
use Rattle.tetfit_run.proofs.outputs.refused_outputs.Goals as goal

pub hint_of-requires-clause-ranges : goal.hint_of-requires-clause-ranges
hint_of-requires-clause-ranges g c =
    let decimals = c.args.refused.decimals in
    c.requires.ranges decimals (tried_few c.args.wanted.now.options c.args.model.now.input decimals c.requires.refused.0.within)

pub moved_text-requires : goal.moved_text-requires
moved_text-requires g c = (c.requires.ranges 0 (omega arith)).unit

pub returns-in-Some-clause-made : goal.returns-in-Some-clause-made
returns-in-Some-clause-made g c =
    let wanted = c.args.wanted.now in
    let input = c.args.model.now.input in
    let last = c.in-Some.last in
    let more = c.in_ok-more.more in
    let final = subst (λ (made : Option Fitted). IfSome made (λ final. IsConformedBy wanted.goal wanted.options input final.decimals final.outputs)) c.in-Some.is c.in_ok-last.ensures.made in
    let moved = subst (λ (ps : List DecimalPoint). more ≡ moved_text wanted.options last.decimals ps) c.as_slice.ensures c.in_ok-more.ensures in
    subst (λ o. IsFittedTo wanted input (Ok o)) (sym c.outputs_at.ensures) (conformed_told wanted input last.decimals last.outputs more final moved)

pub returns-clause-stopped : goal.returns-clause-stopped
returns-clause-stopped g c =
    unfitted_is c.args.wanted.now.options c.args.model.now fit_limits c.fit_limits.result c.args.refused c.in_ok-hint.field-0 refl c.fit_limits.ensures.values c.requires.refused c.in_ok-hint.ensures
