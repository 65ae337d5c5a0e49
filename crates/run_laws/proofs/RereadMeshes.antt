-- Coordinates that are read back from their texts.
use Rattle.std.proofs.Common.{◌≡◌, ℕ, ◌+◌, ◌*◌, ◌%◌, ◌^◌, ◌<◌, ◌≤◌, ℤ, pos, unsigned_abs, sym, ap, subst, ◌∙◌, arith, lit<}
use Rattle.std.specs.Prelude.{int_lt}
use Rattle.std.proofs.Math.Nat.{pow-le-pow_right, mul-le-mul, lt_of_le_of_lt}
use Rattle.tet_text.specs.Decimals.{IsDecimal, lowest, signed}
use Rattle.tet_text.proofs.Scaling.{abs_signed, lowest_is_decimal}
use Rattle.tet_text.proofs.Reread.{printed_law}
use Rattle.grid_coords.specs.Units.{limit, decimal_of_units}
use Rattle.grid_coords.specs.declared.grid.Grid.{Grid}
use Rattle.grid_coords.proofs.Printed.{number_at}
use Rattle.run_laws.specs.LeastGrids.{RereadLaw}

product_le : (m n p q : ℕ) → m ≤ p → n ≤ q → m * n ≤ p * q
product_le m n p q h k = mul-le-mul h k

few_fives : (k : ℕ) → k ≤ 18 → 5 ^ k ≤ 5 ^ 18
few_fives k h = pow-le-pow_right (omega arith) h

size_small : (n k : ℕ) → n ≤ limit → k ≤ 18 → n * 5 ^ k < 10 ^ 36
size_small n k h l = within (n * 5 ^ k) (product_le n (5 ^ k) limit (5 ^ 18) h (few_fives k l))
  where
    within : (m : ℕ) → m ≤ limit * 5 ^ 18 → m < 10 ^ 36
    within m le = lt_of_le_of_lt le (lit< tt)

is_decimal : (g : Grid) (c : ℤ) → unsigned_abs c ≤ limit → g.halvings ≤ 18 → IsDecimal (decimal_of_units g c)
unfolding decimal_of_units
is_decimal g c small few =
    let low = lowest (unsigned_abs c * 5 ^ g.halvings) (g.decimals + g.halvings) in
    let d = lowest_is_decimal (unsigned_abs c * 5 ^ g.halvings) (g.decimals + g.halvings) (size_small (unsigned_abs c) g.halvings small few) in
    let size : unsigned_abs (signed (int_lt c (pos 0)) low.0) ≡ low.0 = abs_signed (int_lt c (pos 0)) low.0 in
    record {
      small = subst (λ (n : ℕ). n < 10 ^ 36) (sym size) d.small;
      no_trailing_zero = λ some e. d.no_trailing_zero some (ap (λ (n : ℕ). n % 10) (sym size) ∙ e);
    }

pub reread : RereadLaw
reread g c small few short = (printed_law (decimal_of_units g c) (is_decimal g c small few) short, number_at g c)
