use Rattle.std.proofs.Common.{refl, sym, arith}
use Rattle.tet_text.proofs.Numerals.{tens_le, pow10_pos}
use Rattle.grid_coords.specs.Rounding.{nearest_whole}
use Rattle.grid_coords.proofs.Nearest.{nearest_nothing}
use Rattle.grid_coords.proofs.rounding.nearest.Goals as goal

pub returns-then-steps-gt36-clause-value : goal.returns-then-steps-gt36-clause-value
returns-then-steps-gt36-clause-value c = sym (nearest_nothing c.args.number c.args.steps c.requires.small c.if-steps-gt36.true)

pub pow-unit-requires : goal.pow-unit-requires
pow-unit-requires c = omega (arith, tens_le c.args.steps 36 c.if-steps-gt36.false)

pub overflow_add-result : goal.overflow_add-result
overflow_add-result c = let le = tens_le c.args.steps 36 c.if-steps-gt36.false in search (arith)

pub overflow_mul-result-2 : goal.overflow_mul-result-2
overflow_mul-result-2 c = let le = tens_le c.args.steps 36 c.if-steps-gt36.false in search (arith)

pub nonzero_div-result : goal.nonzero_div-result
nonzero_div-result c = omega (arith, pow10_pos c.args.steps)

pub returns-clause-value : goal.returns-clause-value
unfolding nearest_whole
returns-clause-value c = rw c.pow-unit.ensures refl
