use Rattle.std.proofs.Common.{◌≡◌, ◌+◌, ◌-◌}
use Rattle.binary_floats.specs.Shortest.{least_places, shortest}
use Rattle.binary_floats.specs.Place.{IsDecimalPlace}
use Rattle.binary_floats.proofs.place.shortest.Given as goal

-- nothing reads back with fewer places
abbrev pub invariant-loop-places : goal.invariant-loop-places
invariant-loop-places l = record {
  place : IsDecimalPlace l.steps l.places l.place;
  left : least_places (l.steps.halvings + 1 - l.places) l.places l.steps ≡ shortest l.steps;
}
