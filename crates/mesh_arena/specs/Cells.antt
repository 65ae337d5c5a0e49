-- How an `Arena` lays out its slots. No public clause cites this module.
use Rattle.std.specs.Prelude.{◌≡◌, ℕ, Bool, true, false, not, zero, suc, ◌+◌, ◌-◌, ◌/◌, ◌%◌, ◌≤◌, ◌==◌, min, List, [], ◌∷◌, map, length, Option, Some, None, is_some}
use Rattle.std.specs.Prelude.{count_by, slice_get, slice_index_or, nat_lt, if◌then◌else◌}
use Rattle.mesh_arena.specs.declared.cell.Cell.{Cell}
use Rattle.mesh_arena.specs.declared.arena.SlotFace.{SlotFace}
use Rattle.mesh_arena.specs.declared.slot.Corner.{Corner}
use Rattle.mesh_arena.specs.declared.slot.Corner.TheVariants.{Point, Ghost}
use Rattle.mesh_arena.specs.Mesh.{SlotValue, at, IsArenaMesh}

-- the number that is kept of a corner
abbrev pub kept_number : Corner → ℕ
kept_number (Point i) = i
kept_number Ghost = 0

-- A link is one number for a face: the slot behind it times 16, and the place of the shared face in that slot, or 4 where there is none,
-- and 8 more where the corner opposite the face is the point at infinity. The first link of a free cell has the next free cell and 5
abbrev pub slot_in : ℕ → ℕ
slot_in link = link / 16

abbrev pub link_face : ℕ → ℕ
link_face link = link % 8

abbrev pub is_infinite : ℕ → Bool
is_infinite link = (link / 8) % 2 == 1

-- the corner with this number and link
abbrev pub corner_with : ℕ → ℕ → Corner
corner_with number link = if is_infinite link then Ghost else Point number

abbrev pub corners_in : List ℕ → List ℕ → List Corner
corners_in [] links = []
corners_in (number ∷ numbers) [] = []
corners_in (number ∷ numbers) (link ∷ links) = corner_with number link ∷ corners_in numbers links

abbrev pub cell_corners : Cell → List Corner
cell_corners c = corners_in c.points c.links

-- the slot and face behind a face, if there is one
abbrev pub side_to : ℕ → Option SlotFace
side_to link = if nat_lt (link_face link) 4 then Some (at (slot_in link) (link_face link)) else None

abbrev pub sides_in : List ℕ → List (Option SlotFace)
sides_in links = map side_to links

abbrev pub tet_in : Cell → SlotValue
tet_in c = record { corners = corners_in c.points c.links; sides = sides_in c.links }

-- whether the cell is live
abbrev pub live_in : Cell → Bool
live_in c = not (link_face (slice_index_or c.links 0 0) == 5)

-- a live cell with four corners and no neighbor
pub record IsUnlinked (c : Cell) : Type 0 where
  pub live : live_in c ≡ true
  pub corners : length (cell_corners c) ≡ 4
  pub sides : sides_in c.links ≡ None ∷ None ∷ None ∷ None ∷ []

-- the next free cell, where this one is free
abbrev pub next_of : Cell → ℕ
next_of c = slot_in (slice_index_or c.links 0 0)

-- the tetrahedron of a live cell
abbrev pub tet_of : Cell → Option SlotValue
tet_of c = if live_in c then Some (tet_in c) else None

-- from this place on, *n* free cells each name the next, and the last names the end of the cells
abbrev pub IsFreeList : List Cell → ℕ → ℕ → Type 0
IsFreeList cells zero at = at ≡ length cells
IsFreeList cells (suc count) at = (c : Cell) × (slice_get cells at ≡ Some c) × (live_in c ≡ false)
    × IsFreeList cells count (next_of c)

-- the most slots of an arena, so that a place fits 28 bits and so does the number past the end
abbrev pub most_cells : ℕ
most_cells = 268435455

-- `live` counts the live cells, and the list from `next` holds every free one
pub record IsCounted (cells : List Cell) (live next : ℕ) : Type 0 where
  pub counted : live ≡ count_by is_some (map tet_of cells)
  pub free : ℕ
  pub total : live + free ≡ length cells
  pub linked : IsFreeList cells free next

pub record AreSoundCells (cells : List Cell) (live next : ℕ) : Type 0 where
  pub counted : IsCounted cells live next
  pub mesh : IsArenaMesh (map tet_of cells)
  pub small : length cells ≤ most_cells

-- there is room for the star over a rim of `spare` faces, among the cells, and on the list of the star
pub record IsReady (cells : List Cell) (live next spare capacity slots : ℕ) : Type 0 where
  pub sound : AreSoundCells cells live next
  pub room : spare ≤ min capacity most_cells - live
  pub star : spare ≤ slots
