-- The edges of a star, and what a table of them has met. No public clause cites this module.
use Rattle.std.specs.Prelude.{◌≡◌, ℕ, ◌+◌, ◌*◌, min, max, ◌<◌, ◌≤◌, ◌⊎◌, ◌==◌, if◌then◌else◌, List, length, map, All, Option, Some}
use Rattle.std.specs.Prelude.{None, slice_get, slice_index_or}
use Rattle.mesh_arena.specs.declared.slot.Corner.{Corner}
use Rattle.mesh_arena.specs.declared.slot.Corner.TheVariants.{Point, Ghost}
use Rattle.mesh_arena.specs.declared.arena.SlotFace.{SlotFace}
use Rattle.mesh_arena.specs.declared.edge.Edge.{Edge}
use Rattle.mesh_arena.specs.declared.edge.End.{End}
use Rattle.mesh_arena.specs.declared.rows.LastRow.{LastRow}
use Rattle.mesh_arena.specs.declared.square.MetFace.{MetFace}
use Rattle.mesh_arena.specs.declared.hashed.Met.{Met}

-- a number of its own for each corner
abbrev pub corner_key : Corner → ℕ
corner_key (Point i) = i + 1
corner_key Ghost = 0

-- the edge between the corners with these numbers
abbrev pub edge_of : ℕ → ℕ → Edge
edge_of a b = record { low = min a b; high = max a b }

abbrev pub edge_between : Corner → Corner → Edge
edge_between x y = edge_of (corner_key x) (corner_key y)

-- no corner had a row in a later round, and one that had one in this round has that one
pub record AreRows (corners : List ℕ) (last : List LastRow) (round : ℕ) : Type 0 where
  pub some : 0 < round
  pub few : length corners ≤ 64
  pub all : All (λ l. l.round ≤ round) last
  pub has : (corner : ℕ) (d : LastRow) → corner < length last → (slice_index_or last corner d).round ≡ round
      → slice_get corners (slice_index_or last corner d).row ≡ Some corner

-- corners are added that have had no row
abbrev pub AreKept : List LastRow → List LastRow → Type 0
AreKept old new = (corner : ℕ) (d : LastRow) → corner < length new
    → ((slice_index_or new corner d).round ≡ 0) ⊎ ((corner < length old) × (slice_index_or new corner d ≡ slice_index_or old corner d))

-- the place in a square of the edge from one row to another
abbrev pub square_place : ℕ → ℕ → ℕ
square_place a b = a * 64 + b

-- in each row of a square the number of a corner, and in each place the face that an edge was met at, or nothing
pub record SquareValue : Type 0 where
  pub rows : List ℕ
  pub faces : List (Option SlotFace)

-- what a place has, if it is of this round
abbrev pub met_face : ℕ → MetFace → Option SlotFace
met_face round m = if m.round == round then Some (record { slot = m.slot; face = m.face }) else None

abbrev pub faces_in : List MetFace → ℕ → List (Option SlotFace)
faces_in met round = map (met_face round) met

-- no place is of a later round, and those of this round lie between rows that are taken
pub record IsSquare (met : List MetFace) (round : ℕ) (rows : List ℕ) : Type 0 where
  pub some : 0 < round
  pub all : All (λ m. m.round ≤ round) met
  pub few : length met ≤ 4096
  pub between : (row other : ℕ) (face : SlotFace) → other < 64
      → slice_index_or (faces_in met round) (square_place row other) None ≡ Some face → (row < length rows) × (other < length rows)

-- the edge has the corners in two rows for ends, and was met at this face
pub record IsInSquare (square : SquareValue) (edge : Edge) (face : SlotFace) : Type 0 where
  pub row : ℕ
  pub other_row : ℕ
  pub below : row < 64
  pub other_below : other_row < 64
  pub first : ℕ
  pub second : ℕ
  pub is_first : slice_get square.rows row ≡ Some first
  pub is_second : slice_get square.rows other_row ≡ Some second
  pub ends : edge ≡ edge_of first second
  pub is : slice_index_or square.faces (square_place row other_row) None ≡ Some face

-- the row of the end has its number
pub record IsRowEnd (rows : List ℕ) (end : End) : Type 0 where
  pub most : end.row ≤ 64
  pub has : end.row < 64 → slice_get rows end.row ≡ Some end.number

-- the rows keep their numbers
abbrev pub KeepsRows : List ℕ → List ℕ → Type 0
KeepsRows old new = (row number : ℕ) → slice_get old row ≡ Some number → slice_get new row ≡ Some number

-- in each place of a table by hashes an edge and the face that it was met at, or nothing
abbrev pub Meetings : Type 0
Meetings = List (Option (Edge × SlotFace))

-- what a place has, if it is of this round
abbrev pub meeting_of : ℕ → Met → Option (Edge × SlotFace)
meeting_of round m =
    if m.round == round then Some (record { low = m.low; high = m.high }, record { slot = m.slot; face = m.face }) else None

abbrev pub meetings_in : List Met → ℕ → Meetings
meetings_in met round = map (meeting_of round) met

-- no place is of a later round
pub record AreMetUpTo (met : List Met) (round : ℕ) : Type 0 where
  pub some : 0 < round
  pub all : All (λ m. m.round ≤ round) met

-- this edge was met at this face
pub record IsHashed (table : Meetings) (edge : Edge) (face : SlotFace) : Type 0 where
  pub place : ℕ
  pub is : slice_index_or table place None ≡ Some (edge, face)

-- what a table has in its square and by hashes
pub record Table : Type 0 where
  pub square : SquareValue
  pub hashed : Meetings

abbrev pub IsEdgeMet : Table → Edge → SlotFace → Type 0
IsEdgeMet table edge face = IsInSquare table.square edge face ⊎ IsHashed table.hashed edge face

-- no edge was met
abbrev pub MeetsNone : (Edge → SlotFace → Type 0) → Type 0
MeetsNone met = (e : Edge) (s : SlotFace) → met e s → ⊥

-- no edge was met besides
abbrev pub AddsNone : (Edge → SlotFace → Type 0) → (Edge → SlotFace → Type 0) → Type 0
AddsNone old new = (e : Edge) (s : SlotFace) → new e s → old e s

-- at most this was met besides
abbrev pub AddsOnly : (Edge → SlotFace → Type 0) → (Edge → SlotFace → Type 0) → Edge → SlotFace → Type 0
AddsOnly old new edge face = (e : Edge) (s : SlotFace) → new e s → old e s ⊎ ((e ≡ edge) × (s ≡ face))
