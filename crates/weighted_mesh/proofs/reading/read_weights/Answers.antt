use Rattle.std.proofs.Common.{◌≡◌, ◌+◌, length, ◌∷◌, [], ◌++◌, sym, ap, subst, ◌∙◌, arith, Err, length-append}
use Rattle.std.specs.Prelude.{All}
use Rattle.std.proofs.lemmas.List.Elements.{All-push}
use Rattle.std.proofs.lemmas.Result.{err_from_is_err_and}
use Rattle.sign_predicates.specs.Weighted.{IsWeight}
use Rattle.sign_predicates.proofs.WeightedTerms.{weight_back}
use Rattle.weighted_mesh.specs.Weights.{ReadsWeights, weights_behind}
use Rattle.weighted_mesh.proofs.ListedWeights.{weights_from, one_read, one_refused, all_read, refused}
use Rattle.weighted_mesh.proofs.reading.read_weights.Goals as goal

pub returns-in_err-weight-clause-value : goal.returns-in_err-weight-clause-value
returns-in_err-weight-clause-value c =
    let table = c.args.table.now in
    let fault = c.in_err-weight.field-0.0 in
    let is = c.loop-i.invariant.0 ∙ one_refused table (length table.listed) c.loop-i.i fault c.loop-i.weights (omega arith) (sym c.in_err-weight.ensures.value) in
    let p = err_from_is_err_and c.from_residual-in_err-weight.result c.from_residual-in_err-weight.ensures.1 in
    let same : c.from_residual-in_err-weight.result ≡ Err fault = p.1 ∙ ap Err p.2 in
    subst (ReadsWeights table) (sym same) (refused table fault is)

pub loop-i-preserved : goal.loop-i-preserved
loop-i-preserved c =
    let table = c.args.table.now in
    let w = c.in_ok-weight.weight in
    let rest = weights_from table (length table.listed) (c.loop-i.i + 1) in
    let read = c.loop-i.invariant.0 ∙ one_read table (length table.listed) c.loop-i.i w c.loop-i.weights (omega arith) (sym c.in_ok-weight.ensures.value) in
    let long = c.loop-i.invariant.1 in
    let ok : c.push.new.self ≡ c.loop-i.weights ++ w ∷ [] = c.in_ok-push.ensures.ok ∙ ap (λ v. c.loop-i.weights ++ v ∷ []) (weight_back w c.in_ok-weight.ensures.small) in (
      read ∙ ap (λ ws. weights_behind ws rest) (sym ok),
      ap (λ ws. length ws) ok ∙ omega (arith, length-append c.loop-i.weights (w ∷ [])),
      subst (All IsWeight) (sym ok) (All-push IsWeight c.loop-i.weights w c.loop-i.invariant.2 c.in_ok-weight.ensures.small),
    )

pub returns-clause-value : goal.returns-clause-value
returns-clause-value c = let table = c.args.table.now in c.loop-i.invariant.0 ∙ all_read table (length table.listed) c.loop-i.i c.loop-i.weights (omega arith)
