-- How the slots of a star are linked with one another.
use Rattle.std.proofs.Common.{◌≡◌, ℕ, List, map, get_or, Option, Some, option_map, sym, ap, ◌∙◌}
use Rattle.mesh_arena.specs.declared.cell.Cell.{Cell}
use Rattle.mesh_arena.specs.declared.slot.Corner.{Corner}
use Rattle.mesh_arena.specs.declared.slot.Corner.TheVariants.{Ghost}
use Rattle.mesh_arena.specs.Mesh.{SlotValue, corners_at, corner_in, IsLive, corner, OnFace, SameFace}
use Rattle.mesh_arena.specs.Cells.{corners_in, tet_of}
use Rattle.mesh_arena.specs.StarLinks.{Has}
use Rattle.mesh_arena.proofs.Cells.{live_cell}

-- the corners of a live cell
pub cell_corners : (cells : List Cell) (s : ℕ) (c : Cell) → IsLive (map tet_of cells) s → c ≡ get_or cells s c → corners_at (map tet_of cells) s ≡ Some (corners_in c.points c.links)
cell_corners cells s c live read = ap (option_map (λ (t : SlotValue). t.corners)) (live_cell cells s c c live read).3

module _ (slots : List (Option SlotValue)) (s : ℕ) (cs : List Corner) (is : corners_at slots s ≡ Some cs) where
  read : (m : ℕ) → corner slots s m ≡ get_or cs m Ghost
  read m = ap (λ (o : Option (List Corner)). corner_in o m) is

  pub OnFace-has : (i : ℕ) (x : Corner) → Has cs i x → OnFace slots s i x
  OnFace-has i x h = record { place = h.place; within = h.within; off = h.differs; is = read h.place ∙ h.is }

  pub Has-on_face : (i : ℕ) (x : Corner) → OnFace slots s i x → Has cs i x
  Has-on_face i x h = record { place = h.place; within = h.within; differs = h.off; is = sym (read h.place) ∙ h.is }

pub SameFace-covers : (slots : List (Option SlotValue)) (s i t j : ℕ) (cs ds : List Corner) → corners_at slots s ≡ Some cs → corners_at slots t ≡ Some ds → ((x : Corner) → Has cs i x → Has ds j x) → ((x : Corner) → Has ds j x → Has cs i x) → SameFace slots s i t j
SameFace-covers slots s i t j cs ds is_s is_t to from =
    record {
      to = λ x on. OnFace-has slots t ds is_t j x (to x (Has-on_face slots s cs is_s i x on));
      from = λ x on. OnFace-has slots s cs is_s i x (from x (Has-on_face slots t ds is_t j x on));
    }

pub covers-SameFace : (slots : List (Option SlotValue)) (s i t j : ℕ) (cs ds : List Corner) → corners_at slots s ≡ Some cs → corners_at slots t ≡ Some ds → SameFace slots s i t j → ((x : Corner) → Has cs i x → Has ds j x) × ((x : Corner) → Has ds j x → Has cs i x)
covers-SameFace slots s i t j cs ds is_s is_t same = (
  λ x h. Has-on_face slots t ds is_t j x (same.to x (OnFace-has slots s cs is_s i x h)),
  λ x h. Has-on_face slots s cs is_s i x (same.from x (OnFace-has slots t ds is_t j x h)),
)
