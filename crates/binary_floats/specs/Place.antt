-- A float times a power of ten, as the search for its decimal goes on from place to place.
use Rattle.std.specs.Prelude.{◌≡◌, ℕ, ◌+◌, ◌-◌, ◌*◌, ◌/◌, ◌%◌, ◌^◌, ◌<◌, ◌≤◌}
use Rattle.binary_floats.specs.declared.steps.Steps.{Steps}
use Rattle.binary_floats.specs.declared.place.Place.{Place}

-- the tens of the places are left out as fives: their twos go off the unit
pub record IsDecimalPlace (s : Steps) (places : ℕ) (p : Place) : Type 0 where
  pub number : 4 * s.count * 5 ^ places ≡ p.whole * p.unit + p.rest
  pub rest : p.rest < p.unit
  pub unit : p.unit ≡ 2 ^ (s.halvings + 2 - places)
  pub quarter : p.quarter ≡ 5 ^ places
  pub unit_fits : p.unit ≤ 2 ^ 120
  pub quarter_fits : p.quarter ≤ 2 ^ 121
  pub whole_fits : p.whole ≤ 2 ^ 100

-- ten times as much
pub record IsNextPlace (p next : Place) : Type 0 where
  pub whole : next.whole ≡ p.whole * 10 + p.rest * 5 / (p.unit / 2)
  pub rest : next.rest ≡ p.rest * 5 % (p.unit / 2)
  pub unit : next.unit ≡ p.unit / 2
  pub quarter : next.quarter ≡ p.quarter * 5
