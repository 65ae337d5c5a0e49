use Rattle.std.proofs.Common.{◌^◌, ◌≤◌, arith}
use Rattle.std.proofs.lemmas.Nat.{mul-le}
use Rattle.std.proofs.Math.Nat.{pow-le-pow_right}
use Rattle.grid_coords.proofs.printing.with_fives.Goals as goal

pub pow-requires : goal.pow-requires
pow-requires c =
    let le : 5 ^ c.args.halvings ≤ 5 ^ 18 = pow-le-pow_right (omega arith) c.requires in
    omega arith

pub overflow_mul-result : goal.overflow_mul-result
overflow_mul-result c =
    let le : 5 ^ c.args.halvings ≤ 5 ^ 18 = pow-le-pow_right (omega arith) c.requires in
    let product = mul-le c.from.result c.pow.result (2 ^ 32) (5 ^ 18) (omega arith) (omega arith) in
    search (arith)

pub returns-clause-small : goal.returns-clause-small
returns-clause-small c =
    let le : 5 ^ c.args.halvings ≤ 5 ^ 18 = pow-le-pow_right (omega arith) c.requires in
    let product = mul-le c.from.result c.pow.result (2 ^ 32) (5 ^ 18) (omega arith) (omega arith) in
    search (arith)
