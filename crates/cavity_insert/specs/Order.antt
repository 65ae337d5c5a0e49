-- An order of the points of a list.
use Rattle.std.specs.Prelude.{ℕ, List, map}
use Rattle.std.specs.List.Sorted.{IsPermutation}
use Rattle.geo_laws.specs.Delaunay.{numbers_below}
use Rattle.cavity_insert.specs.declared.order.Turn.{Turn}

-- the numbers of the turns
abbrev pub turn_numbers : List Turn → List ℕ
turn_numbers turns = map (λ t. t.number) turns

-- each number below n has one turn, and no other has any
abbrev pub IsOrderOf : ℕ → List Turn → Type 0
IsOrderOf n turns = IsPermutation (numbers_below n) (turn_numbers turns)
