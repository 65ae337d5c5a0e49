-- The steps of a surgery. The corners of the star are read while the cavity stands. Then the cavity is cut out, and the star is put over
-- the rim, first in the places that were freed last.
use Rattle.std.specs.Prelude.{◌≡◌, ◌≢◌, ℕ, ◌<◌, ◌⊎◌, List, [], length, Option, Some, None, slice_index_or, slice_set, option_map}
use Rattle.mesh_arena.specs.declared.slot.Corner.{Corner}
use Rattle.mesh_arena.specs.declared.slot.RimFace.{RimFace}
use Rattle.mesh_arena.specs.declared.star.StarSlot.{StarSlot}
use Rattle.mesh_arena.specs.Mesh.{SlotValue, corners_at, IsLive, link_behind, at, OnFace, Off, AllDiffer}
use Rattle.mesh_arena.specs.Cells.{cell_corners, IsUnlinked}
use Rattle.mesh_arena.specs.Star.{rim_at, face_side, behind_rim}
use Rattle.mesh_arena.specs.StarLinks.{Has}

-- past the end of a list
abbrev pub no_slot : StarSlot
no_slot = record { cell = record { points = []; links = [] }; face = 0; slot = 0 }

abbrev pub star_at : List StarSlot → ℕ → StarSlot
star_at star r = slice_index_or star r no_slot

-- the corners of the slot that is to stand over the face r
abbrev pub star_corners : List StarSlot → ℕ → List Corner
star_corners star r = cell_corners (star_at star r).cell

-- a slot for each of the first n faces, with no neighbor: it has the corners of the slot behind the face, p in place of the corner opposite
-- it
pub record Plans (slots : List (Option SlotValue)) (rim : List RimFace) (p : Corner) (star : List StarSlot) (n : ℕ) : Type 0 where
  pub len : length star ≡ n
  pub bare : (r : ℕ) → r < n → IsUnlinked (star_at star r).cell
  pub face : (r : ℕ) → r < n → (star_at star r).face ≡ (behind_rim slots rim r).face
  pub corners : (r : ℕ) → r < n
      → Some (star_corners star r) ≡ option_map
      (λ cs. slice_set cs (behind_rim slots rim r).face p) (corners_at slots (behind_rim slots rim r).slot)

-- the face of the slot s has the same corners as the face opposite the place j of these
pub record FitsFace (slots : List (Option SlotValue)) (s i : ℕ) (cs : List Corner) (j : ℕ) : Type 0 where
  pub to : (x : Corner) → OnFace slots s i x → Has cs j x
  pub from : (x : Corner) → Has cs j x → OnFace slots s i x

-- a new slot with these corners stands behind the face i of s, and nothing else changed
pub record AddsOver (old new : List (Option SlotValue)) (s i : ℕ) (made : ℕ) (cs : List Corner) (j : ℕ) : Type 0 where
  pub fresh : corners_at old made ≡ None
  pub made_corners : corners_at new made ≡ Some cs
  pub corners : (u : ℕ) → u ≢ made → corners_at new u ≡ corners_at old u
  pub to : link_behind new s i ≡ Some (at made j)
  pub bare : (k : ℕ) → k ≢ j → link_behind new made k ≡ None
  pub others : (u k : ℕ) → Off u k s i → u ≢ made → link_behind new u k ≡ link_behind old u k

-- the faces of the rim differ and have no neighbor, and each fits the slot that is to stand over it
pub record CanAdd (slots : List (Option SlotValue)) (rim : List RimFace) (star : List StarSlot) : Type 0 where
  pub live : (r : ℕ) → r < length rim → IsLive slots (rim_at rim r).slot.index
  pub below : (r : ℕ) → r < length rim → (rim_at rim r).face < 4
  pub free : (r : ℕ) → r < length rim → face_side slots (rim_at rim r) ≡ None
  pub once : (r q : ℕ) → r < length rim → q < length rim → (rim_at rim r).slot.index ≡ (rim_at rim q).slot.index
      → (rim_at rim r).face ≡ (rim_at rim q).face → r ≡ q
  pub bare : (r : ℕ) → r < length rim → IsUnlinked (star_at star r).cell
  pub face : (r : ℕ) → r < length rim → (star_at star r).face < 4
  pub differ : (r : ℕ) → r < length rim → AllDiffer (star_corners star r)
  pub fits : (r : ℕ) → r < length rim
      → FitsFace slots (rim_at rim r).slot.index (rim_at rim r).face (star_corners star r) (star_at star r).face

-- the slot over the face r
pub record IsOver (old new : List (Option SlotValue)) (rim : List RimFace) (star : List StarSlot) (r : ℕ) : Type 0 where
  pub is : face_side new (rim_at rim r) ≡ Some (at (behind_rim new rim r).slot (star_at star r).face)
  pub fresh : corners_at old (behind_rim new rim r).slot ≡ None
  pub corners : corners_at new (behind_rim new rim r).slot ≡ Some (star_corners star r)
  pub bare : (k : ℕ) → k ≢ (star_at star r).face → link_behind new (behind_rim new rim r).slot k ≡ None

-- a slot was added over each of the first n faces, and nothing else changed
pub record AddsStar (old new : List (Option SlotValue)) (rim : List RimFace) (star : List StarSlot) (n : ℕ) : Type 0 where
  pub over : (r : ℕ) → r < n → IsOver old new rim star r
  pub apart : (r q : ℕ) → r < n → q < n → (behind_rim new rim r).slot ≡ (behind_rim new rim q).slot → r ≡ q
  pub kept : (u : ℕ) → IsLive old u → corners_at new u ≡ corners_at old u
  pub live : (u : ℕ) → IsLive new u → IsLive old u ⊎ ((r : ℕ) × (r < n) × ((behind_rim new rim r).slot ≡ u))
  pub sides : (u k : ℕ) → IsLive old u → ((r : ℕ) → r < n → Off u k (rim_at rim r).slot.index (rim_at rim r).face)
      → link_behind new u k ≡ link_behind old u k

-- this is the slot over the face r
pub record StandsOver (slots : List (Option SlotValue)) (rim : List RimFace) (r : ℕ) (s : StarSlot) : Type 0 where
  pub slot : s.slot ≡ (behind_rim slots rim r).slot
  pub face : s.face ≡ (behind_rim slots rim r).face
  pub corners : corners_at slots s.slot ≡ Some (cell_corners s.cell)

abbrev pub AreOverRim : List (Option SlotValue) → List RimFace → List StarSlot → Type 0
AreOverRim slots rim star = (r : ℕ) → r < length rim → StandsOver slots rim r (star_at star r)
