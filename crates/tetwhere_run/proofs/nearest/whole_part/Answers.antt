use Rattle.std.proofs.Common.{◌^◌, arith}
use Rattle.tet_text.proofs.Numerals.{pow10_pos}
use Rattle.tetwhere_run.proofs.Tens.{small_parts, twos_le, whole_part_by_parts}
use Rattle.tetwhere_run.proofs.nearest.whole_part.Goals as goal

pub pow-factor-requires : goal.pow-factor-requires
pow-factor-requires c = omega (arith, twos_le c.args.doublings 65 c.requires.doublings)

pub nonzero_div-result : goal.nonzero_div-result
nonzero_div-result c = rw c.pow-unit.ensures (pow10_pos c.args.tens)

pub nonzero_rem-result : goal.nonzero_rem-result
nonzero_rem-result c = rw c.pow-unit.ensures (pow10_pos c.args.tens)

pub nonzero_div-result-2 : goal.nonzero_div-result-2
nonzero_div-result-2 c = rw c.pow-unit.ensures (pow10_pos c.args.tens)

pub overflow_mul-result : goal.overflow_mul-result
overflow_mul-result c =
    let small = small_parts c.args.number c.args.tens c.args.doublings c.pow-unit.result c.pow-factor.result c.requires.tens c.requires.doublings c.requires.whole c.pow-unit.ensures c.pow-factor.ensures in
    let le = small.whole in search (arith)

pub overflow_mul-result-2 : goal.overflow_mul-result-2
overflow_mul-result-2 c =
    let small = small_parts c.args.number c.args.tens c.args.doublings c.pow-unit.result c.pow-factor.result c.requires.tens c.requires.doublings c.requires.whole c.pow-unit.ensures c.pow-factor.ensures in
    let le = small.part in search (arith)

pub overflow_add-result : goal.overflow_add-result
overflow_add-result c =
    let small = small_parts c.args.number c.args.tens c.args.doublings c.pow-unit.result c.pow-factor.result c.requires.tens c.requires.doublings c.requires.whole c.pow-unit.ensures c.pow-factor.ensures in
    let le = small.whole in let over = small.part_over in search (arith)

pub returns-clause-small : goal.returns-clause-small
returns-clause-small c =
    let small = small_parts c.args.number c.args.tens c.args.doublings c.pow-unit.result c.pow-factor.result c.requires.tens c.requires.doublings c.requires.whole c.pow-unit.ensures c.pow-factor.ensures in
    let le = small.whole in let over = small.part_over in omega arith

pub returns-clause-value : goal.returns-clause-value
returns-clause-value c = rw (c.pow-unit.ensures, c.pow-factor.ensures) (whole_part_by_parts c.args.number (2 ^ c.args.doublings) (10 ^ c.args.tens) (pow10_pos c.args.tens))
