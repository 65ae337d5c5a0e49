use Rattle.std.proofs.Common.{subst, arith}
use Rattle.tetfit_run.specs.Grids.{ArePassedBetween}
use Rattle.tetfit_run.specs.Measured.{first_tried}
use Rattle.tetfit_run.proofs.Measured.{first_among, first_is, last_is, next_among, of_near, tried_few}
use Rattle.tetfit_run.proofs.Tries.{refused_behind}
use Rattle.tetfit_run.proofs.fitting.fit_input.Goals as goal

pub loop-outputs-init : goal.loop-outputs-init
loop-outputs-init c =
    let options = c.args.options.now in
    let input = c.args.input.now in
    let first = c.first_tried-decimals.result in
    let is = first_is options input c.as_slice-points.result.now first c.requires.origin c.as_slice-points.ensures c.first_tried-decimals.ensures.value in
    record { within = first_among options input first is; finer = λ n less le. absurd (omega (arith, is, less, le)) }

pub loop-outputs-preserved : goal.loop-outputs-preserved
loop-outputs-preserved c =
    let options = c.args.options.now in
    let input = c.args.input.now in
    let m = c.loop-outputs.decimals in
    let next = c.next_tried-decimals in
    let first = c.first_tried-decimals.result in
    let last = c.last_tried-last.result in
    let status = c.in-Err.end.status in
    let refused = c.goes_on.ensures.on c.if-not-goes_on.false in
    let passed = subst (λ ps. ArePassedBetween c.args.limits.grid options.origin ps next.result m) c.as_slice-points.ensures next.ensures.passed in
    let is = first_is options input c.as_slice-points.result.now first c.requires.origin c.as_slice-points.ensures c.first_tried-decimals.ensures.value in
    record {
      within = next_among options input last m next.result c.loop-outputs.invariant.within (last_is options input first last is c.last_tried-last.ensures) refused.0 next.ensures.less;
      finer = refused_behind c.args.limits options input (first_tried options input) m next.result status refused.1 c.in-Err.ensures.answer passed c.loop-outputs.invariant.finer;
    }

pub next_tried-decimals-requires-clause-near : goal.next_tried-decimals-requires-clause-near
next_tried-decimals-requires-clause-near c =
    let m = c.loop-outputs.decimals in
    let few = tried_few c.args.options.now c.args.input.now m c.loop-outputs.invariant.within in
    of_near c.args.options.now.origin m (c.requires.ranges m few).near
