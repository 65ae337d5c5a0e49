use Rattle.std.proofs.Common.{refl, sym}
use Rattle.tetfit_run.proofs.Multiples.{size_long, size_over, size_short, over_far, over_is}
use Rattle.tetfit_run.proofs.units.size_by.Goals as goal

pub returns-in_err-over-clause-value : goal.returns-in_err-over-clause-value
returns-in_err-over-clause-value c =
    rw c.from_residual.ensures (sym (size_over c.args.step c.args.number c.args.raise c.args.lower _ refl (over_far c.args.number c.args.raise c.pow.result c.checked_mul.result c.pow.ensures c.checked_mul.ensures c.in_err-over.was)))

pub returns-then-over-ge-LIMIT-clause-value : goal.returns-then-over-ge-LIMIT-clause-value
returns-then-over-ge-LIMIT-clause-value c =
    let is = over_is c.args.number c.args.raise c.pow.result c.checked_mul.result c.in_ok-over.over c.pow.ensures c.checked_mul.ensures c.in_ok-over.was in
    sym (size_over c.args.step c.args.number c.args.raise c.args.lower c.in_ok-over.over is c.if-over-ge-LIMIT.true)

pub returns-then-size-lt-LIMIT-clause-value : goal.returns-then-size-lt-LIMIT-clause-value
returns-then-size-lt-LIMIT-clause-value c =
    let is = over_is c.args.number c.args.raise c.pow.result c.checked_mul.result c.in_ok-over.over c.pow.ensures c.checked_mul.ensures c.in_ok-over.was in
    sym (size_short c.args.step c.args.number c.args.raise c.args.lower c.in_ok-over.over c.nearest_below-size.result is c.if-over-ge-LIMIT.false c.nearest_below-size.ensures c.if-size-lt-LIMIT.true)

pub returns-else-size-lt-LIMIT-clause-value : goal.returns-else-size-lt-LIMIT-clause-value
returns-else-size-lt-LIMIT-clause-value c =
    let is = over_is c.args.number c.args.raise c.pow.result c.checked_mul.result c.in_ok-over.over c.pow.ensures c.checked_mul.ensures c.in_ok-over.was in
    sym (size_long c.args.step c.args.number c.args.raise c.args.lower c.in_ok-over.over c.nearest_below-size.result is c.if-over-ge-LIMIT.false c.nearest_below-size.ensures c.if-size-lt-LIMIT.false)
