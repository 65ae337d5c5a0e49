-- The rows of a mesh's slots, each in the least even arrangement of the slot's corners.
use Rattle.std.specs.Prelude.{◌≡◌, ◌↔◌, ℕ, ◌<◌, List, length, Option, Some, AllPairs, Contains}
use Rattle.geo_laws.specs.Arrangement.{IsEvenOf, HasLeastFirst, HasLeastSecond}
use Rattle.geo_laws.specs.Delaunay.{RowBefore}
use Rattle.geo_laws.specs.declared.tetrahedra.Tet.{Tet as Row}
use Rattle.mesh_arena.specs.Mesh.{SlotValue, corners_at}
use Rattle.mesh_arena.specs.declared.slot.Corner.{Corner}
use Rattle.point_locate.specs.Place.{row_corners, IsAt}

-- these are the corners of a tetrahedron of points, and the row is its least even arrangement
pub record IsRowOf (cs : List Corner) (row : Row) : Type 0 where
  pub four : Row
  pub is : cs ≡ row_corners four
  pub even : IsEvenOf four row
  pub first : HasLeastFirst row
  pub second : HasLeastSecond row

-- these are the rows of the slots below n
pub record AreRowsBelow (slots : List (Option SlotValue)) (rows : List Row) (n : ℕ) : Type 0 where
  pub from : (row : Row) → Contains rows row → (s : ℕ) × IsAt slots (λ cs. IsRowOf cs row) s
  pub to : (s : ℕ) → s < n → (t : Row) → corners_at slots s ≡ Some (row_corners t) → (row : Row) × Contains rows row
      × IsRowOf (row_corners t) row

-- the list has these rows, each once, ascending
pub record IsListOf (rows list : List Row) : Type 0 where
  pub exactly : (row : Row) → Contains list row ↔ Contains rows row
  pub ascending : AllPairs RowBefore list

-- the list has the rows of all these slots, each once, ascending
pub record AreSortedRowsOf (slots : List (Option SlotValue)) (list : List Row) : Type 0 where
  pub rows : List Row
  pub below : AreRowsBelow slots rows (length slots)
  pub listed : IsListOf rows list
