-- The faces of a rim, and what stands behind them.
use Rattle.std.specs.Prelude.{ℕ, List, Option, Some, None, slice_index_or}
use Rattle.mesh_arena.specs.declared.arena.SlotFace.{SlotFace}
use Rattle.mesh_arena.specs.declared.slot.RimFace.{RimFace}
use Rattle.mesh_arena.specs.Mesh.{SlotValue, link_behind, at}

abbrev pub behind : Option SlotFace → SlotFace
behind None = at 0 0
behind (Some b) = b

-- past the end of a list
abbrev pub no_face : RimFace
no_face = record { slot = record { index = 0 }; face = 0 }

abbrev pub rim_at : List RimFace → ℕ → RimFace
rim_at rim r = slice_index_or rim r no_face

-- what stands behind a face
abbrev pub face_side : List (Option SlotValue) → RimFace → Option SlotFace
face_side slots f = link_behind slots f.slot.index f.face

-- the slot and face behind a face of the rim: in the cavity before the star is added, and then in the star
abbrev pub behind_rim : List (Option SlotValue) → List RimFace → ℕ → SlotFace
behind_rim slots rim r = behind (face_side slots (rim_at rim r))
