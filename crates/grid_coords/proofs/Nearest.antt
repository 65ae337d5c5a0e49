-- The nearest whole number.
use Rattle.std.proofs.Common.{◌≡◌, ℕ, ◌+◌, ◌*◌, ◌/◌, ◌^◌, ◌<◌, arith}
use Rattle.std.proofs.lemmas.Nat.{div_below}
use Rattle.tet_text.proofs.Numerals.{tens_le, pow10_pos}
use Rattle.grid_coords.specs.Rounding.{nearest_whole}

pub nearest_nothing : (n k : ℕ) → n < 10 ^ 36 → 36 < k → nearest_whole n k ≡ 0
unfolding nearest_whole
nearest_nothing n k small far =
    let large = tens_le 37 k far in
    let one : (2 * n + 10 ^ k) / (2 * 10 ^ k) < 1 = div_below (2 * n + 10 ^ k) (2 * 10 ^ k) 1 (omega arith) (omega arith) in
    omega arith

pub nearest_small : (n k : ℕ) → n < 10 ^ 36 → nearest_whole n k < 10 ^ 36
unfolding nearest_whole
nearest_small n k small =
    let some = pow10_pos k in
    div_below (2 * n + 10 ^ k) (2 * 10 ^ k) (10 ^ 36) (omega arith) (omega arith)
