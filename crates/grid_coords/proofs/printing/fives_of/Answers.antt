use Rattle.std.specs.Int.{w128}
use Rattle.std.proofs.Common.{◌≡◌, ◌*◌, ◌^◌, ◌<◌, ◌≤◌, pos, to_z, of_z, ap, ◌∙◌, arith, subst, sym, ℕ}
use Rattle.std.specs.Prelude.{unsigned_abs}
use Rattle.std.proofs.lemmas.Int.{to_z_pos, ints, fits_signed_from_abs, unsigned_abs-mul}
use Rattle.std.proofs.lemmas.Nat.{mul-le}
use Rattle.std.proofs.Math.Nat.{pow-le-pow_right}
use Rattle.grid_coords.proofs.Moved.{product_is, product_fits}
use Rattle.grid_coords.proofs.printing.fives_of.Goals as goal

pub pow-fives-requires : goal.pow-fives-requires
pow-fives-requires c =
    let le : 5 ^ c.args.halvings ≤ 5 ^ 18 = pow-le-pow_right (omega arith) c.requires in
    omega arith

pub overflow_cast-fives : goal.overflow_cast-fives
overflow_cast-fives c =
    let le : 5 ^ c.args.halvings ≤ 5 ^ 18 = pow-le-pow_right (omega arith) c.requires in
    fits_signed_from_abs w128 (pos c.pow-fives.result) (omega arith)

pub overflow_mul-result : goal.overflow_mul-result
overflow_mul-result c =
    let le : 5 ^ c.args.halvings ≤ 5 ^ 18 = pow-le-pow_right (omega arith) c.requires in
    let fives = to_z_pos w128 c.pow-fives.result (omega arith) ∙ ap pos c.pow-fives.ensures in
    let same : to_z w128 (of_z w128 c.from.result) ≡ c.args.coordinate = omega (arith, ints) in
    let product = mul-le (unsigned_abs c.args.coordinate) (5 ^ c.args.halvings) (2 ^ 32) (5 ^ 18) (omega (arith, ints)) le in
    product_fits _ _ c.args.coordinate (pos (5 ^ c.args.halvings)) same fives (subst (λ (n : ℕ). n < 2 ^ 127) (sym (unsigned_abs-mul c.args.coordinate (pos (5 ^ c.args.halvings)))) (omega arith))

pub returns-clause-value : goal.returns-clause-value
returns-clause-value c =
    let le : 5 ^ c.args.halvings ≤ 5 ^ 18 = pow-le-pow_right (omega arith) c.requires in
    let fives = to_z_pos w128 c.pow-fives.result (omega arith) ∙ ap pos c.pow-fives.ensures in
    let same : to_z w128 (of_z w128 c.from.result) ≡ c.args.coordinate = omega (arith, ints) in
    let product = mul-le (unsigned_abs c.args.coordinate) (5 ^ c.args.halvings) (2 ^ 32) (5 ^ 18) (omega (arith, ints)) le in
    product_is _ _ c.args.coordinate (pos (5 ^ c.args.halvings)) same fives (subst (λ (n : ℕ). n < 2 ^ 127) (sym (unsigned_abs-mul c.args.coordinate (pos (5 ^ c.args.halvings)))) (omega arith))

pub returns-clause-small : goal.returns-clause-small
returns-clause-small c =
    let le : 5 ^ c.args.halvings ≤ 5 ^ 18 = pow-le-pow_right (omega arith) c.requires in
    let product = mul-le (unsigned_abs c.args.coordinate) (5 ^ c.args.halvings) (2 ^ 32) (5 ^ 18) (omega (arith, ints)) le in
    subst (λ (n : ℕ). n ≤ 2 ^ 32 * 5 ^ 18) (sym (ap unsigned_abs (returns-clause-value c) ∙ unsigned_abs-mul c.args.coordinate (pos (5 ^ c.args.halvings)))) product
