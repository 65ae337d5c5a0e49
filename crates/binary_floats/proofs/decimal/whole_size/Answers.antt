use Rattle.std.proofs.Common.{◌≤◌, ◌*◌, ◌^◌, ◌-◌, arith}
use Rattle.std.proofs.Math.Nat.{mul-le-mul}
use Rattle.std.proofs.Math.Pow.{pow_mono}
use Rattle.binary_floats.proofs.decimal.whole_size.Goals as goal

pub pow-requires : goal.pow-requires
pow-requires c =
    let few : c.exponent_of.result - 150 ≤ 104 = omega arith in
    let h : 2 ^ (c.exponent_of.result - 150) ≤ 2 ^ 104 = pow_mono few in
    omega (arith, h)

pub overflow_mul-size : goal.overflow_mul-size
overflow_mul-size c =
    let few : c.exponent_of.result - 150 ≤ 104 = omega arith in
    let h : 2 ^ (c.exponent_of.result - 150) ≤ 2 ^ 104 = pow_mono few in
    let small : c.from.result ≤ 2 ^ 24 - 1 = omega arith in
    let power : c.pow.result ≤ 2 ^ 104 = omega (arith, h, c.pow.ensures) in
    let product : c.from.result * c.pow.result ≤ (2 ^ 24 - 1) * 2 ^ 104 = mul-le-mul small power in
    omega (arith, product)
