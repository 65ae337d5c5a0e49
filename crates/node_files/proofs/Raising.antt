-- Numbers times powers of two bases, within the limit.
use Rattle.std.proofs.Common.{◌≡◌, ℕ, ◌*◌, ◌^◌, Some, None, sym, ap, ◌∙◌, arith}
use Rattle.std.specs.Prelude.{option_and_then}
use Rattle.grid_coords.specs.Units.{limit, if_at_most}
use Rattle.grid_coords.proofs.Products.{within_twice, pow_some}

pub twice_none : (n a b : ℕ) → if_at_most limit (n * 5 ^ a) ≡ None → if_at_most limit (n * 5 ^ a * 2 ^ b) ≡ None
twice_none n a b none =
    sym (within_twice limit (n * 5 ^ a) (2 ^ b) (pow_some 2 b (omega arith))) ∙ ap (option_and_then (λ m. if_at_most limit (m * 2 ^ b))) none

pub twice_some : (n a b m k : ℕ) → if_at_most limit (n * 5 ^ a) ≡ Some m → k ≡ m → if_at_most limit (k * 2 ^ b) ≡ if_at_most limit (n * 5 ^ a * 2 ^ b)
twice_some n a b m k some is =
    ap (λ (j : ℕ). if_at_most limit (j * 2 ^ b)) is
    ∙ sym (sym (within_twice limit (n * 5 ^ a) (2 ^ b) (pow_some 2 b (omega arith))) ∙ ap (option_and_then (λ j. if_at_most limit (j * 2 ^ b))) some)
