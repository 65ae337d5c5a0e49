use Rattle.std.specs.Int.{w128}
use Rattle.std.proofs.Common.{◌≡◌, ℤ, ◌^◌, ◌<◌, ap, ◌∙◌, arith, pos, to_z, of_z, w64}
use Rattle.std.specs.Prelude.{◌-ℤ◌, ◌*ℤ◌}
use Rattle.std.proofs.lemmas.Int.{to_z-of_z, ints}
use Rattle.tet_text.proofs.Scaling.{lowest_le}
use Rattle.grid_coords.specs.Origins.{moved}
use Rattle.grid_coords.proofs.Moved.{decimal_kept, moved_is, unmoved_is}
use Rattle.grid_coords.proofs.moving.moved.Goals as goal

pub invariant_of-result-2 : goal.invariant_of-result-2
invariant_of-result-2 c = decimal_kept _ c.unsigned_abs-2.result _ c.signed-value.result c.without_trailing_zeros-size.result (search arith) c.without_trailing_zeros-size.ensures c.signed-value.ensures

pub signed-value-requires : goal.signed-value-requires
signed-value-requires c =
    let small : c.unsigned_abs-2.result < 10 ^ 36 = search arith in
    let le = lowest_le c.unsigned_abs-2.result c.d.inside.scale in
    rw c.without_trailing_zeros-size.ensures (omega arith)

pub returns-then-unsigned_abs-ge-LIMIT : goal.returns-then-unsigned_abs-ge-LIMIT
returns-then-unsigned_abs-ge-LIMIT c =
    let d = c.d.inside in
    let back = to_z-of_z w64 c.args.w c.ranges.w in
    let t = c.tens_of.ensures.value ∙ ap (λ (z : ℤ). z *ℤ pos (10 ^ d.scale)) back in
    let n-is : to_z w128 (of_z w128 (to_z w128 (of_z w128 d.value) -ℤ to_z w128 (of_z w128 c.tens_of.result))) ≡ d.value -ℤ c.tens_of.result = omega (arith, ints, c.tens_of.ensures.small, c.d.invariant.small) in
    unmoved_is c.args.w _ _ (n-is ∙ ap (λ (z : ℤ). d.value -ℤ z) t) (omega (arith, c.unsigned_abs.ensures.value)) ∙ ap (moved c.args.w) c.d.view_is

pub returns : goal.returns
returns c =
    let d = c.d.inside in
    let back = to_z-of_z w64 c.args.w c.ranges.w in
    let t = c.tens_of.ensures.value ∙ ap (λ (z : ℤ). z *ℤ pos (10 ^ d.scale)) back in
    let n-is : to_z w128 (of_z w128 (to_z w128 (of_z w128 d.value) -ℤ to_z w128 (of_z w128 c.tens_of.result))) ≡ d.value -ℤ c.tens_of.result = omega (arith, ints, c.tens_of.ensures.small, c.d.invariant.small) in
    moved_is c.args.w _ _ c.signed-value.result c.unsigned_abs-2.result c.without_trailing_zeros-size.result (n-is ∙ ap (λ (z : ℤ). d.value -ℤ z) t) c.unsigned_abs-2.ensures.value (search arith) c.without_trailing_zeros-size.ensures c.signed-value.ensures
    ∙ ap (moved c.args.w) c.d.view_is
