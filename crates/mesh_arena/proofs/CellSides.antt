-- How a cell keeps the sides of a slot.
use Rattle.std.proofs.Common.{◌≡◌, ℕ, zero, suc, ◌<◌, List, [], ◌∷◌, length, get_or, set, Option, Some, None, nat_lt, if◌then◌else◌, refl, ap, ◌∙◌, arith}
use Rattle.std.proofs.lemmas.Bool.{lt-ltb}
use Rattle.std.proofs.lemmas.List.{map-set}
use Rattle.mesh_arena.specs.declared.arena.SlotFace.{SlotFace}
use Rattle.mesh_arena.specs.declared.cell.Cell.{Cell}
use Rattle.mesh_arena.specs.declared.slot.Corner.{Corner}
use Rattle.mesh_arena.specs.Mesh.{SlotValue, at, tet_with}
use Rattle.mesh_arena.specs.Cells.{corner_with, corners_in, is_infinite, slot_in, link_face, side_to, sides_in, tet_in}

-- what a link leads to
pub side_to-parts : (link slot face : ℕ) → slot_in link ≡ slot → link_face link ≡ face → face < 4 → side_to link ≡ Some (at slot face)
side_to-parts link slot face s f below = rw (s, f) (yes face below)
  where
    yes : (face : ℕ) → face < 4 → (if nat_lt face 4 then Some (at slot face) else None) ≡ Some (at slot face)
    yes face below = rw (lt-ltb face 4 below) refl

-- a link to another slot and face leaves the corners
corners_in-set : (numbers links : List ℕ) (i link : ℕ) → i < length links → is_infinite link ≡ is_infinite (get_or links i 0) → corners_in numbers (set links i link) ≡ corners_in numbers links
corners_in-set [] links i link h e = refl
corners_in-set (n ∷ ns) [] zero link h e = refl
corners_in-set (n ∷ ns) [] (suc i) link h e = refl
corners_in-set (n ∷ ns) (x ∷ xs) zero link h e = rw e refl
corners_in-set (n ∷ ns) (x ∷ xs) (suc i) link h e = ap (λ rest. corner_with n x ∷ rest) (corners_in-set ns xs i link (omega arith) e)

-- and becomes the side behind its face
pub tet_in-set : (c : Cell) (i link : ℕ) (b : Option SlotFace) → i < length c.links → is_infinite link ≡ is_infinite (get_or c.links i 0) → side_to link ≡ b
    → tet_in (record { points = c.points; links = set c.links i link }) ≡ tet_with (tet_in c) i b
tet_in-set c i link b h e s = by_parts (corners_in-set c.points c.links i link h e) (map-set side_to c.links i link ∙ ap (set (sides_in c.links) i) s)
  where
    by_parts : {xs : List Corner} {ys : List (Option SlotFace)} → xs ≡ corners_in c.points c.links → ys ≡ set (sides_in c.links) i b → ◌≡◌ {A = SlotValue} (record { corners = xs; sides = ys }) (tet_with (tet_in c) i b)
    by_parts p q = rw (p, q) refl
