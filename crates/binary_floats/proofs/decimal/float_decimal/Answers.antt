use Rattle.std.proofs.Common.{arith}
use Rattle.tet_text.proofs.Scaling.{lowest_is_decimal}
use Rattle.binary_floats.proofs.decimal.float_decimal.Goals as goal

pub signed-requires-2 : goal.signed-requires-2
signed-requires-2 c = rw c.without_trailing_zeros-size.ensures (lowest_is_decimal c.in_ok-number.number c.in_ok-number.places (omega (arith, c.in_ok-number.ensures.bound)))
