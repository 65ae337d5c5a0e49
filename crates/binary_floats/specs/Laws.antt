-- That the decimal of a float is the shortest that reads back as it.
use Rattle.std.specs.Prelude.{◌≡◌, ◌≢◌, ℕ, ◌+◌, ◌-◌, ◌*◌, ◌%◌, ◌^◌, ◌<◌, ◌≤◌, Bool, true, false, ◌==◌, Some, None}
use Rattle.binary_floats.specs.declared.steps.Steps.{Steps}
use Rattle.binary_floats.specs.Shortest.{shortest}

-- a middle between two floats belongs to the one whose count is even
abbrev pub IsReachedBy : Bool → ℕ → ℕ → Type 0
IsReachedBy true a b = a ≤ b
IsReachedBy false a b = a < b

-- number / 10^places lies between the middles to the next floats: all is counted in parts of 2^(halvings + 2) times 10^places
pub record ReadsBack (s : Steps) (places number : ℕ) : Type 0 where
  pub above : IsReachedBy (s.count % 2 == 0) (4 * s.count * 10 ^ places) (number * 2 ^ (s.halvings + 2) + s.below * 10 ^ places)
  pub under : IsReachedBy (s.count % 2 == 0) (number * 2 ^ (s.halvings + 2)) (4 * s.count * 10 ^ places + 2 * 10 ^ places)

-- how far number / 10^places is from the float, in the same parts
abbrev pub distance : Steps → ℕ → ℕ → ℕ
distance s places number =
    (number * 2 ^ (s.halvings + 2) - 4 * s.count * 10 ^ places) + (4 * s.count * 10 ^ places - number * 2 ^ (s.halvings + 2))

-- number / 10^places reads back as the float, no decimal with fewer places does, and none with as many is nearer; of two as near it is even
pub record IsShortest (s : Steps) (places number : ℕ) : Type 0 where
  pub reads_back : ReadsBack s places number
  pub fewest : (fewer other : ℕ) → fewer < places → ReadsBack s fewer other → ⊥
  pub nearest : (other : ℕ) → ReadsBack s places other → distance s places number ≤ distance s places other
  pub even : (other : ℕ) → ReadsBack s places other → other ≢ number
      → distance s places other ≡ distance s places number → number % 2 ≡ 0

-- one is found, and it is such a decimal
abbrev pub ShortestLaw : Type 0
ShortestLaw =
    (s : Steps) → (1 ≤ s.below → shortest s ≢ None)
    × ((places number : ℕ) → shortest s ≡ Some (number, places) → IsShortest s places number)
