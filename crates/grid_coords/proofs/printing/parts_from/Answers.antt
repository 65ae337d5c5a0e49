use Rattle.std.specs.Int.{w128}
use Rattle.std.proofs.Common.{◌≡◌, ℤ, ◌+◌, ◌*◌, ◌^◌, ◌≤◌, pos, w32, w64, to_z, of_z, ◌∙◌, arith, sym, subst}
use Rattle.std.specs.Prelude.{unsigned_abs, ◌+ℤ◌, ◌*ℤ◌}
use Rattle.std.proofs.lemmas.Int.{to_z-of_z, ints}
use Rattle.tet_text.proofs.Numerals.{tens_le}
use Rattle.grid_coords.proofs.Moved.{more_tens}
use Rattle.grid_coords.proofs.printing.parts_from.Goals as goal

pub tens_of-requires-clause-near : goal.tens_of-requires-clause-near
tens_of-requires-clause-near c =
    let g = c.args.grid.now in
    let back = to_z-of_z w64 c.args.w c.ranges.w in
    let some = more_tens (unsigned_abs c.args.w) g.decimals g.halvings (10 ^ 17) c.requires.near in
    let le = tens_le g.halvings 18 c.requires.halvings in
    subst (λ (z : ℤ). unsigned_abs z * 10 ^ (g.decimals + g.halvings) ≤ 10 ^ 35) (sym back) (omega arith)

pub returns-clause-value : goal.returns-clause-value
returns-clause-value c =
    let five = c.fives_of.ensures.value in
    let ten = c.tens_of.ensures.value in
    let sum : to_z w128 (of_z w128 (to_z w128 (of_z w128 c.fives_of.result) +ℤ to_z w128 (of_z w128 c.tens_of.result))) ≡ c.fives_of.result +ℤ c.tens_of.result = omega (arith, ints, c.fives_of.ensures.small, c.tens_of.ensures.small) in
    let g = c.args.grid.now in
    let same-c = to_z-of_z w32 c.args.coordinate c.ranges.coordinate in
    let same-w = to_z-of_z w64 c.args.w c.ranges.w in
    sum ∙ (λ j. five j +ℤ ten j) ∙ (λ j. same-c j *ℤ pos (5 ^ g.halvings) +ℤ same-w j *ℤ pos (10 ^ (g.decimals + g.halvings)))
