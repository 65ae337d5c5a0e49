use Rattle.std.proofs.Common.{◌≡◌, ◌∙◌, ap, ℕ, ◌*◌, ◌^◌, arith}
use Rattle.binary_floats.proofs.Places.{unit_small, fives_small, number_small, started}
use Rattle.binary_floats.proofs.place.start.Goals as goal

pub pow-unit-requires : goal.pow-unit-requires
pow-unit-requires c = omega (arith, unit_small c.args.steps.now.halvings c.args.first c.requires.halvings c.requires.first)

pub pow-quarter-requires : goal.pow-quarter-requires
pow-quarter-requires c = omega (arith, fives_small c.args.first (omega arith))

product : (c : goal.After-from) → 4 * c.from.result * c.pow-quarter.result ≡ 4 * c.args.steps.now.count * 5 ^ c.args.first
product c = ap (λ (n : ℕ). 4 * n * c.pow-quarter.result) c.from.ensures ∙ ap (λ (q : ℕ). 4 * c.args.steps.now.count * q) c.pow-quarter.ensures

pub overflow_mul-number-2 : goal.overflow_mul-number-2
overflow_mul-number-2 c =
    let e : 4 * c.from.result * c.pow-quarter.result ≡ 4 * c.args.steps.now.count * 5 ^ c.args.first = product c in
    omega (arith, e, number_small c.args.steps.now.count c.args.first c.requires.count (omega arith))

pub returns : goal.returns
returns c = started c.args.steps.now c.args.first _ _ _ c.requires.count c.requires.halvings c.requires.first c.pow-unit.ensures c.pow-quarter.ensures (ap (λ (n : ℕ). 4 * n * c.pow-quarter.result) c.from.ensures)
