-- Groups of numbers, each named by its least member.
use Rattle.std.specs.Prelude.{◌≡◌, ℕ, ◌<◌, ◌≤◌, ◌==◌, if◌then◌else◌, min, max, List, length, get_or}

-- each number leads to itself or to a lesser one
abbrev pub IsForest : List ℕ → Type 0
IsForest down = (i : ℕ) → i < length down → get_or down i 0 ≤ i

-- A number has the label of the one that it leads to, at most the number itself; one that leads to itself is its own
-- label. The label of a number is the one at which its path down ends
pub record AreLabels (down : List ℕ) (label : ℕ → ℕ) : Type 0 where
  pub least : (i : ℕ) → label i ≤ i
  pub again : (i : ℕ) → label (label i) ≡ label i
  pub kept : (i : ℕ) → i < length down → label (get_or down i 0) ≡ label i
  pub own : (i : ℕ) → i < length down → get_or down i 0 ≡ i → label i ≡ i

-- with the groups of two labels made one
abbrev pub joined_label : ℕ → ℕ → (ℕ → ℕ) → ℕ → ℕ
joined_label m n label i = if label i == max m n then min m n else label i

-- each number below n leads to itself
pub record IsIdentity (down : List ℕ) (n : ℕ) : Type 0 where
  pub long : length down ≡ n
  pub each : (i : ℕ) → i < n → get_or down i 0 ≡ i
