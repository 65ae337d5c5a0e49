-- The first places at which something holds.
use Rattle.std.specs.Prelude.{ℕ, ◌<◌, Option, Some, None}
use Rattle.mesh_check.specs.Defects.{PairBefore}

-- the first number of which P holds, or none where it holds of no number
abbrev pub IsLeastOf : (ℕ → Type 0) → Option ℕ → Type 0
IsLeastOf P None = (i : ℕ) → ¬ P i
IsLeastOf P (Some i) = P i × ((k : ℕ) → k < i → ¬ P k)

-- the first pair, by its first number and then by its second, of which P holds, or none where it holds of no pair
abbrev pub IsLeastPair : (ℕ → ℕ → Type 0) → Option (ℕ × ℕ) → Type 0
IsLeastPair P None = (i k : ℕ) → ¬ P i k
IsLeastPair P (Some p) = P p.0 p.1 × ((i k : ℕ) → PairBefore (i, k) p → ¬ P i k)
