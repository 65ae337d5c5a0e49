use Rattle.std.proofs.Common.{sym, arith}
use Rattle.tet_text.proofs.Numerals.{pow10_pos, tens_le}
use Rattle.tetfit_run.proofs.Multiples.{nearest_nothing}
use Rattle.tetfit_run.proofs.units.nearest_below.Goals as goal

pub returns-then-lower-gt35 : goal.returns-then-lower-gt35
returns-then-lower-gt35 c = sym (nearest_nothing c.args.step c.args.over c.args.lower c.requires.step.0 c.requires.over c.if-lower-gt35.true)

pub pow-requires : goal.pow-requires
pow-requires c = omega (arith, tens_le c.args.lower 35 c.if-lower-gt35.false)

pub nearest_multiple-requires-clause-under : goal.nearest_multiple-requires-clause-under
nearest_multiple-requires-clause-under c =
    let some = pow10_pos c.args.lower in
    let few = tens_le c.args.lower 35 c.if-lower-gt35.false in
    let is = c.pow.ensures in
    (omega (arith, some, is), omega (arith, few, is))
