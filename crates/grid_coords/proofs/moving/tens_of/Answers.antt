use Rattle.std.specs.Int.{w128}
use Rattle.std.proofs.Common.{◌≡◌, ◌^◌, ◌<◌, ◌≤◌, pos, to_z, of_z, ap, ◌∙◌, arith, subst, sym, ℕ}
use Rattle.std.specs.Prelude.{unsigned_abs}
use Rattle.std.proofs.lemmas.Int.{to_z_pos, ints, fits_signed_from_abs, unsigned_abs-mul}
use Rattle.tet_text.proofs.Numerals.{tens_le}
use Rattle.grid_coords.proofs.Moved.{product_is, product_fits}
use Rattle.grid_coords.proofs.moving.tens_of.Goals as goal

pub pow-tens-requires : goal.pow-tens-requires
pow-tens-requires c = omega (arith, tens_le c.args.steps 35 c.requires.fine)

pub overflow_cast-tens : goal.overflow_cast-tens
overflow_cast-tens c = let le = tens_le c.args.steps 35 c.requires.fine in fits_signed_from_abs w128 (pos c.pow-tens.result) (omega arith)

pub overflow_mul-result : goal.overflow_mul-result
overflow_mul-result c =
    let le = tens_le c.args.steps 35 c.requires.fine in
    let tens = to_z_pos w128 c.pow-tens.result (omega arith) ∙ ap pos c.pow-tens.ensures in
    let whole : to_z w128 (of_z w128 c.from.result) ≡ c.args.w = omega (arith, ints) in
    product_fits _ _ c.args.w (pos (10 ^ c.args.steps)) whole tens (subst (λ (n : ℕ). n < 2 ^ 127) (sym (unsigned_abs-mul c.args.w (pos (10 ^ c.args.steps)))) (omega arith))

pub returns-clause-value : goal.returns-clause-value
returns-clause-value c =
    let le = tens_le c.args.steps 35 c.requires.fine in
    let tens = to_z_pos w128 c.pow-tens.result (omega arith) ∙ ap pos c.pow-tens.ensures in
    let whole : to_z w128 (of_z w128 c.from.result) ≡ c.args.w = omega (arith, ints) in
    product_is _ _ c.args.w (pos (10 ^ c.args.steps)) whole tens (subst (λ (n : ℕ). n < 2 ^ 127) (sym (unsigned_abs-mul c.args.w (pos (10 ^ c.args.steps)))) (omega arith))

pub returns-clause-small : goal.returns-clause-small
returns-clause-small c =
    let value = returns-clause-value c in
    subst (λ (n : ℕ). n ≤ 10 ^ 35) (sym (ap unsigned_abs value ∙ unsigned_abs-mul c.args.w (pos (10 ^ c.args.steps)))) c.requires.near
