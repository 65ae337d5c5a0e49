use Rattle.std.proofs.Common.{refl, arith}
use Rattle.tet_text.proofs.Numerals.{tens_le, pow10_pos}
use Rattle.grid_coords.specs.Rounding.{nearest_whole}
use Rattle.grid_coords.proofs.rounding.nearest_narrow.Goals as goal

pub overflow_add-result : goal.overflow_add-result
overflow_add-result c = let le = tens_le c.args.steps 18 c.requires.few in search (arith)

pub overflow_mul-result-2 : goal.overflow_mul-result-2
overflow_mul-result-2 c = let le = tens_le c.args.steps 18 c.requires.few in search (arith)

pub nonzero_div-result : goal.nonzero_div-result
nonzero_div-result c = omega (arith, pow10_pos c.args.steps)

pub returns : goal.returns
unfolding nearest_whole
returns c = rw c.pow-unit.ensures refl
