-- The value of an `Arena` in contracts: a list of slots, each free or with a tetrahedron.
use Rattle.std.specs.Prelude.{◌≡◌, ◌≢◌, ℕ, ◌+◌, ◌<◌, ◌≤◌, ◌⊎◌, List, [], ◌∷◌, length, map, slice_index_or, slice_set}
use Rattle.std.specs.Prelude.{Option, Some, None, IsSome, option_map}
use Rattle.mesh_arena.specs.declared.slot.Corner.{Corner}
use Rattle.mesh_arena.specs.declared.slot.Corner.TheVariants.{Point as Numbered, Ghost}
use Rattle.mesh_arena.specs.declared.arena.SlotFace.{SlotFace}
use Rattle.mesh_arena.specs.declared.slot.SlotCorners.{SlotCorners}

-- the four corners of a live slot, and for each face the slot and face on its other side
pub record SlotValue : Type 0 where
  pub corners : List Corner
  pub sides : List (Option SlotFace)

-- Nothing at a free slot; how many faces a rim may have whose star needs no allocation; and how many more slots fit with none
pub record Mesh : Type 0 where
  pub slots : List (Option SlotValue)
  pub spare : ℕ
  pub room : ℕ

-- what stands in a slot
abbrev pub tet_at : List (Option SlotValue) → ℕ → Option SlotValue
tet_at slots s = slice_index_or slots s None

-- the corners of a slot, if it is live
abbrev pub corners_at : List (Option SlotValue) → ℕ → Option (List Corner)
corners_at slots s = option_map (λ t. t.corners) (tet_at slots s)

abbrev pub IsLive : List (Option SlotValue) → ℕ → Type 0
IsLive slots s = IsSome (corners_at slots s)

abbrev pub corner_in : Option (List Corner) → ℕ → Corner
corner_in None i = Ghost
corner_in (Some cs) i = slice_index_or cs i Ghost

-- a corner of a slot
abbrev pub corner : List (Option SlotValue) → ℕ → ℕ → Corner
corner slots s i = corner_in (corners_at slots s) i

abbrev pub side_in : Option SlotValue → ℕ → Option SlotFace
side_in None i = None
side_in (Some t) i = slice_index_or t.sides i None

-- the slot and face behind a face
abbrev pub link_behind : List (Option SlotValue) → ℕ → ℕ → Option SlotFace
link_behind slots s i = side_in (tet_at slots s) i

-- the place of a face
abbrev pub at : ℕ → ℕ → SlotFace
at s i = record { slot = s; face = i }

-- x is one of the three corners of the face opposite corner i
pub record OnFace (slots : List (Option SlotValue)) (s i : ℕ) (x : Corner) : Type 0 where
  pub place : ℕ
  pub within : place < 4
  pub off : place ≢ i
  pub is : corner slots s place ≡ x

-- the two faces have the same corners
pub record SameFace (slots : List (Option SlotValue)) (s i t j : ℕ) : Type 0 where
  pub to : (x : Corner) → OnFace slots s i x → OnFace slots t j x
  pub from : (x : Corner) → OnFace slots t j x → OnFace slots s i x

-- each live slot has four corners and four sides
abbrev pub IsShaped : List (Option SlotValue) → Type 0
IsShaped slots = (s : ℕ) (t : SlotValue) → tet_at slots s ≡ Some t → (length t.corners ≡ 4) × (length t.sides ≡ 4)

-- the corners of a live slot differ; neighbors are mutual, differ, and share the face's corners
pub record IsArenaMesh (slots : List (Option SlotValue)) : Type 0 where
  pub shaped : IsShaped slots
  pub differ : (s i j : ℕ) → IsLive slots s → i < 4 → j < 4 → corner slots s i ≡ corner slots s j → i ≡ j
  pub back : (s i : ℕ) (b : SlotFace) → link_behind slots s i ≡ Some b → link_behind slots b.slot b.face ≡ Some (at s i)
  pub apart : (s i : ℕ) (b : SlotFace) → link_behind slots s i ≡ Some b → b.slot ≢ s
  pub shared : (s i : ℕ) (b : SlotFace) → link_behind slots s i ≡ Some b → SameFace slots s i b.slot b.face

-- another face
abbrev pub Off : ℕ → ℕ → ℕ → ℕ → Type 0
Off u k s i = (u ≢ s) ⊎ (k ≢ i)

-- the slots and their corners stay, and so does each side but these two, which become one another's
pub record Links (old new : List (Option SlotValue)) (s i t j : ℕ) : Type 0 where
  pub len : length new ≡ length old
  pub corners : (u : ℕ) → corners_at new u ≡ corners_at old u
  pub first : link_behind new s i ≡ Some (at t j)
  pub second : link_behind new t j ≡ Some (at s i)
  pub others : (u k : ℕ) → Off u k s i → Off u k t j → link_behind new u k ≡ link_behind old u k

-- the corners of a tetrahedron, which are the points with these numbers
abbrev pub numbered_corners : List ℕ → List Corner
numbered_corners ns = map Numbered ns

abbrev pub corner_list : SlotCorners → List Corner
corner_list c = c.a ∷ c.b ∷ c.c ∷ c.d ∷ []

-- no corner stands twice
abbrev pub AllDiffer : List Corner → Type 0
AllDiffer cs = (i j : ℕ) → i < 4 → j < 4 → slice_index_or cs i Ghost ≡ slice_index_or cs j Ghost → i ≡ j

-- A free place becomes a live slot with these corners and no neighbor, and all else stays. The place is an old one where one is free, and
-- else the one past the end
pub record Takes (old new : List (Option SlotValue)) (s : ℕ) (cs : List Corner) : Type 0 where
  pub free : corners_at old s ≡ None
  pub made : corners_at new s ≡ Some cs
  pub bare : (i : ℕ) → link_behind new s i ≡ None
  pub corners : (u : ℕ) → u ≢ s → corners_at new u ≡ corners_at old u
  pub sides : (u k : ℕ) → link_behind new u k ≡ link_behind old u k
  pub reuses : (u : ℕ) → u < length old → corners_at old u ≡ None → s < length old
  pub within : s < length old → length new ≡ length old
  pub past : length old ≤ s → (s ≡ length old) × (length new ≡ length old + 1)

-- the tetrahedron with this behind the face
abbrev pub tet_with : SlotValue → ℕ → Option SlotFace → SlotValue
tet_with t i b = record t { sides = slice_set t.sides i b }
