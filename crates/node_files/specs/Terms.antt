-- Decimals as fractions in lowest terms.
use Rattle.std.specs.Prelude.{◌≡◌, ◌≢◌, ℕ, zero, suc, ◌*◌, ◌/◌, ◌%◌, ◌^◌, ◌<◌, ◌==◌, unsigned_abs, if◌then◌else◌}
use Rattle.tet_text.specs.Decimals.{Scaled}
use Rattle.node_files.specs.declared.terms.Terms.{Terms}

-- n / b^steps with no common factor b: its numerator, and the number of factors b left in the denominator
abbrev pub divided_out : ℕ → ℕ → ℕ → ℕ × ℕ
divided_out b n zero = (n, 0)
divided_out b n (suc steps) = if n % b == 0 then divided_out b (n / b) steps else (n, suc steps)

-- the size of a number in lowest terms: numerator / (2^twos × 5^fives)
abbrev pub terms_of : Scaled → Terms
terms_of d =
    let odd = divided_out 2 (unsigned_abs d.value) d.scale in
    let numerator = divided_out 5 odd.0 d.scale in
    record { numerator = numerator.0; twos = odd.1; fives = numerator.1 }

-- the terms are those of the number value / 10^scale, in size, and nothing more can be cancelled
pub record AreLowestTerms (d : Scaled) (t : Terms) : Type 0 where
  pub same : unsigned_abs d.value * (2 ^ t.twos * 5 ^ t.fives) ≡ t.numerator * 10 ^ d.scale
  pub no_two : 0 < t.twos → t.numerator % 2 ≢ 0
  pub no_five : 0 < t.fives → t.numerator % 5 ≢ 0

-- each number has terms, and they are those of `terms_of`
abbrev pub TermsLaw : Type 0
TermsLaw = (d : Scaled) → AreLowestTerms d (terms_of d)
