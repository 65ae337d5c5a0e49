use Rattle.std.proofs.Common.{◌≡◌, false, subst, arith}
use Rattle.tet_shapes.specs.Worst.{is_below_degrees}
use Rattle.tet_shapes.proofs.Thresholds.{none_below_zero}
use Rattle.tet_shapes.proofs.worst.degrees_of.Goals as goal

pub returns-after-loop-degrees-clause-none : goal.returns-after-loop-degrees-clause-none
returns-after-loop-degrees-clause-none c =
    let zero : 0 ≡ c.loop-degrees.degrees = omega (arith, c.loop-degrees-test.false) in
    subst (λ n. is_below_degrees n c.args.t.now ≡ false) zero (none_below_zero c.args.t.now)
