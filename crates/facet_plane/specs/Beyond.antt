-- Boxes apart from a point in two coordinates, and what a box tells of the sides in it that a ray crosses.
use Rattle.std.specs.Prelude.{◌≡◌, ◌⊎◌, ℤ, pos, ◌<ℤ◌, int_le}
use Rattle.sign_predicates.specs.Point.{Point}
use Rattle.geo_laws.specs.Facet.{Axis, first_of_two, second_of_two}
use Rattle.facet_plane.specs.declared.outline.Crossing.{Crossing}
use Rattle.facet_plane.specs.declared.outline.Crossing.TheVariants.{Never, Between, Unknown}

-- both are above 0, or both are below
abbrev pub AreBeyond : ℤ → ℤ → Type 0
AreBeyond m n = (pos 0 <ℤ m) × (pos 0 <ℤ n) ⊎ (m <ℤ pos 0) × (n <ℤ pos 0)

-- the vectors lead to a point from two that it is beyond, along one of the two coordinates
abbrev pub IsBeyondBoth : Axis → Point → Point → Type 0
IsBeyondBoth axis u v = AreBeyond (first_of_two axis u) (first_of_two axis v) ⊎ AreBeyond (second_of_two axis u) (second_of_two axis v)

-- What the vectors to a point from the least and the greatest corner of a box tell: all in the box is above the point, or none is, or all
-- is behind the point; or the point is behind all
abbrev pub Tells : Axis → Point → Point → Crossing → Type 0
Tells axis u v Never =
    (int_le (pos 0) (second_of_two axis u) ≡ int_le (pos 0) (second_of_two axis v))
    ⊎ (pos 0 <ℤ first_of_two axis u) × (pos 0 <ℤ first_of_two axis v)
Tells axis u v Between = (first_of_two axis u <ℤ pos 0) × (first_of_two axis v <ℤ pos 0)
Tells axis u v Unknown = Unit {0}
