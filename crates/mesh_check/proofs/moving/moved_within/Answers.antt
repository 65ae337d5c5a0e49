use Rattle.std.specs.Int.{w128}
use Rattle.std.proofs.Common.{◌≡◌, ℤ, ◌*◌, ◌^◌, ◌<◌, ap, ◌∙◌, arith, pos, to_z, of_z, w64, sym, None, subst}
use Rattle.std.specs.Prelude.{◌-ℤ◌, ◌*ℤ◌, unsigned_abs}
use Rattle.std.proofs.lemmas.Int.{to_z-of_z, ints}
use Rattle.tet_text.proofs.Scaling.{lowest_le}
use Rattle.tet_text.specs.Decimals.{Scaled}
use Rattle.grid_coords.proofs.Moved.{decimal_kept}
use Rattle.mesh_check.specs.Moving.{moved_within}
use Rattle.mesh_check.proofs.Differences.{far_is_long, long_is, short_is, within_long}
use Rattle.mesh_check.proofs.moving.moved_within.Goals as goal

pub returns-in_err-n : goal.returns-in_err-n
returns-in_err-n c =
    let d : Scaled = record { value = c.d.inside.value; scale = c.d.inside.scale } in
    let back = to_z-of_z w64 c.args.w c.ranges.w in
    let far = subst (λ (z : ℤ). 2 * 10 ^ 36 < unsigned_abs z * 10 ^ d.scale) back (c.tens_within.ensures.none c.in_err-n.was) in
    let none : moved_within c.args.w d ≡ None = within_long c.args.w d (far_is_long c.args.w d c.d.invariant.small far) in
    rw c.from_residual.ensures (sym none ∙ ap (moved_within c.args.w) c.d.view_is)

pub returns-then-unsigned_abs-ge-LIMIT : goal.returns-then-unsigned_abs-ge-LIMIT
returns-then-unsigned_abs-ge-LIMIT c =
    let d : Scaled = record { value = c.d.inside.value; scale = c.d.inside.scale } in
    let back = to_z-of_z w64 c.args.w c.ranges.w in
    let t = c.in_ok-n.ensures.value ∙ ap (λ (z : ℤ). z *ℤ pos (10 ^ d.scale)) back in
    let n-is : to_z w128 (of_z w128 (to_z w128 (of_z w128 d.value) -ℤ to_z w128 (of_z w128 c.in_ok-n.field-0))) ≡ d.value -ℤ c.in_ok-n.field-0 = omega (arith, ints, c.in_ok-n.ensures.small, c.d.invariant.small) in
    sym (long_is c.args.w d _ (n-is ∙ ap (λ (z : ℤ). d.value -ℤ z) t) (omega (arith, c.unsigned_abs.ensures.value))) ∙ ap (moved_within c.args.w) c.d.view_is

pub signed-value-requires : goal.signed-value-requires
signed-value-requires c =
    let small : c.unsigned_abs-2.result < 10 ^ 36 = search arith in
    let le = lowest_le c.unsigned_abs-2.result c.d.inside.scale in
    rw c.without_trailing_zeros-size.ensures (omega arith)

pub invariant_of-result : goal.invariant_of-result
invariant_of-result c = decimal_kept _ c.unsigned_abs-2.result _ c.signed-value.result c.without_trailing_zeros-size.result (search arith) c.without_trailing_zeros-size.ensures c.signed-value.ensures

pub returns : goal.returns
returns c =
    let d : Scaled = record { value = c.d.inside.value; scale = c.d.inside.scale } in
    let back = to_z-of_z w64 c.args.w c.ranges.w in
    let t = c.in_ok-n.ensures.value ∙ ap (λ (z : ℤ). z *ℤ pos (10 ^ d.scale)) back in
    let n-is : to_z w128 (of_z w128 (to_z w128 (of_z w128 d.value) -ℤ to_z w128 (of_z w128 c.in_ok-n.field-0))) ≡ d.value -ℤ c.in_ok-n.field-0 = omega (arith, ints, c.in_ok-n.ensures.small, c.d.invariant.small) in
    short_is c.args.w d _ c.signed-value.result c.unsigned_abs-2.result c.without_trailing_zeros-size.result (n-is ∙ ap (λ (z : ℤ). d.value -ℤ z) t) c.unsigned_abs-2.ensures.value (search arith) c.without_trailing_zeros-size.ensures c.signed-value.ensures
    ∙ ap (moved_within c.args.w) c.d.view_is
