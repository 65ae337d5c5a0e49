-- Numbers on one side of another one.
use Rattle.std.specs.Prelude.{◌⊎◌, ℤ, ◌<ℤ◌}

-- four numbers are all less than x, or all greater
abbrev pub AreBelowOrAbove : ℤ → ℤ → ℤ → ℤ → ℤ → Type 0
AreBelowOrAbove a b c d x = (a <ℤ x) × (b <ℤ x) × (c <ℤ x) × (d <ℤ x) ⊎ (x <ℤ a) × (x <ℤ b) × (x <ℤ c) × (x <ℤ d)
