use Rattle.std.proofs.Common.{sym, arith}
use Rattle.tet_text.proofs.Numerals.{tens_le, pow10_pos}
use Rattle.tetwhere_run.proofs.Tens.{nothing_left}
use Rattle.tetwhere_run.proofs.nearest.over_tens.Goals as goal

pub returns-then-tens-gt38-clause-value : goal.returns-then-tens-gt38-clause-value
returns-then-tens-gt38-clause-value c = sym (nothing_left c.args.number c.args.tens c.requires c.if-tens-gt38.true)

pub pow-requires : goal.pow-requires
pow-requires c = omega (arith, tens_le c.args.tens 38 c.if-tens-gt38.false)

pub nonzero_div-result : goal.nonzero_div-result
nonzero_div-result c = omega (arith, pow10_pos c.args.tens)
