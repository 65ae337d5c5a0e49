use Rattle.std.proofs.Common.{arith}
use Rattle.binary_floats.proofs.Halves.{tens_few, units_few}
use Rattle.binary_floats.proofs.nearest.nearest_size.Goals as goal

pub pow-requires : goal.pow-requires
pow-requires c = omega (arith, tens_few c.args.decimals c.requires.decimals)

pub overflow_mul-units : goal.overflow_mul-units
overflow_mul-units c =
    let few = units_few c.from.result c.pow.result (omega (arith, c.from.ensures, c.count_of.ensures.bound)) (omega (arith, tens_few c.args.decimals c.requires.decimals, c.pow.ensures)) in
    omega (arith, few)

pub nearest_whole-requires-clause-n : goal.nearest_whole-requires-clause-n
nearest_whole-requires-clause-n c =
    units_few c.from.result c.pow.result (omega (arith, c.from.ensures, c.count_of.ensures.bound)) (omega (arith, tens_few c.args.decimals c.requires.decimals, c.pow.ensures))
