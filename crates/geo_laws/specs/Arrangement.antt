-- The arrangements of a row's numbers that keep its orientation.
use Rattle.std.specs.Prelude.{◌≤◌}
use Rattle.geo_laws.specs.declared.tetrahedra.Tet.{Tet}

-- the last three numbers turned
abbrev pub rotate : Tet → Tet
rotate t = record { a = t.a; b = t.c; c = t.d; d = t.b }

-- the first two numbers exchanged, and the last two
abbrev pub swap_both : Tet → Tet
swap_both t = record { a = t.b; b = t.a; c = t.d; d = t.c }

-- an even arrangement of t comes from it by such turns and exchanges
pub data IsEvenOf (t : Tet) : Tet → Type 0 where
  itself : IsEvenOf t t
  rotated : (s : Tet) → IsEvenOf t s → IsEvenOf t (rotate s)
  swapped : (s : Tet) → IsEvenOf t s → IsEvenOf t (swap_both s)

-- no other number is below the first
abbrev pub HasLeastFirst : Tet → Type 0
HasLeastFirst t = (t.a ≤ t.b) × (t.a ≤ t.c) × (t.a ≤ t.d)

-- none of the last two numbers is below the second
abbrev pub HasLeastSecond : Tet → Type 0
HasLeastSecond t = (t.b ≤ t.c) × (t.b ≤ t.d)
