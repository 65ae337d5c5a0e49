use Rattle.std.specs.Int.{w128}
use Rattle.std.proofs.Common.{◌≡◌, ◌*◌, ◌^◌, ◌<◌, ◌≤◌, pos, to_z, of_z, ap, ◌∙◌, arith, subst, sym, ℕ}
use Rattle.std.specs.Prelude.{unsigned_abs}
use Rattle.std.proofs.lemmas.Int.{to_z_pos, ints, unsigned_abs-mul}
use Rattle.tet_text.proofs.Numerals.{pow10_pos, tens_le}
use Rattle.grid_coords.proofs.Moved.{product_is, product_fits}
use Rattle.mesh_check.proofs.Differences.{fine_far, over_from, within_from}
use Rattle.mesh_check.proofs.moving.tens_within.Goals as goal

pub returns-then-scale-gt36-clause-none : goal.returns-then-scale-gt36-clause-none
returns-then-scale-gt36-clause-none c =
    λ _. fine_far (unsigned_abs c.args.w) c.args.scale (omega (arith, ints)) (omega arith)

pub pow-tens-requires : goal.pow-tens-requires
pow-tens-requires c = omega (arith, tens_le c.args.scale 36 (omega arith))

pub nonzero_div-tens : goal.nonzero_div-tens
nonzero_div-tens c = rw c.pow-tens.ensures (pow10_pos c.args.scale)

pub returns-then-from-tens-clause-none : goal.returns-then-from-tens-clause-none
returns-then-from-tens-clause-none c =
    λ _. over_from c.from.result (unsigned_abs c.args.w) c.pow-tens.result c.args.scale (omega (arith, ints)) c.pow-tens.ensures c.if-from-tens.true

pub overflow_mul-result : goal.overflow_mul-result
overflow_mul-result c =
    let le = within_from c.from.result (unsigned_abs c.args.w) c.pow-tens.result c.args.scale (omega (arith, ints)) c.pow-tens.ensures c.if-from-tens.false in
    let few = tens_le c.args.scale 36 (omega arith) in
    let tens = to_z_pos w128 c.pow-tens.result (omega arith) ∙ ap pos c.pow-tens.ensures in
    let whole : to_z w128 (of_z w128 c.from-2.result) ≡ c.args.w = omega (arith, ints) in
    product_fits _ _ c.args.w (pos (10 ^ c.args.scale)) whole tens (subst (λ (n : ℕ). n < 2 ^ 127) (sym (unsigned_abs-mul c.args.w (pos (10 ^ c.args.scale)))) (omega arith))

pub returns-clause-value : goal.returns-clause-value
returns-clause-value c =
    let le = within_from c.from.result (unsigned_abs c.args.w) c.pow-tens.result c.args.scale (omega (arith, ints)) c.pow-tens.ensures c.if-from-tens.false in
    let few = tens_le c.args.scale 36 (omega arith) in
    let tens = to_z_pos w128 c.pow-tens.result (omega arith) ∙ ap pos c.pow-tens.ensures in
    let whole : to_z w128 (of_z w128 c.from-2.result) ≡ c.args.w = omega (arith, ints) in
    product_is _ _ c.args.w (pos (10 ^ c.args.scale)) whole tens (subst (λ (n : ℕ). n < 2 ^ 127) (sym (unsigned_abs-mul c.args.w (pos (10 ^ c.args.scale)))) (omega arith))

pub returns-clause-small : goal.returns-clause-small
returns-clause-small c =
    let le = within_from c.from.result (unsigned_abs c.args.w) c.pow-tens.result c.args.scale (omega (arith, ints)) c.pow-tens.ensures c.if-from-tens.false in
    let value = returns-clause-value c in
    subst (λ (n : ℕ). n ≤ 2 * 10 ^ 36) (sym (ap unsigned_abs value ∙ unsigned_abs-mul c.args.w (pos (10 ^ c.args.scale)))) le
