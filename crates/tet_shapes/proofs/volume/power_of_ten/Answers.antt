use Rattle.std.proofs.Common.{◌^◌, ◌≤◌, ℕ, arith}
use Rattle.std.proofs.Math.Nat.{one-le-pow, pow-le-pow_right}
use Rattle.tet_shapes.proofs.volume.power_of_ten.Goals as goal

small : (k : ℕ) → k ≤ 36 → 10 ^ k ≤ 10 ^ 36
small k h = pow-le-pow_right (omega arith) h

pub pow-requires : goal.pow-requires
pow-requires c = omega (arith, small c.args.exponent c.requires)

pub returns-clause-some : goal.returns-clause-some
returns-clause-some c = rw c.pow.ensures (one-le-pow c.args.exponent 10 (omega arith))

pub returns-clause-small : goal.returns-clause-small
returns-clause-small c = rw c.pow.ensures (small c.args.exponent c.requires)
