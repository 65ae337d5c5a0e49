-- The slots of the mesh of one tetrahedron, and how they are linked.
use Rattle.std.specs.Prelude.{◌≡◌, ℕ, zero, suc, nat_lt, is_some, is_none, List, [], ◌∷◌, map, Option, Some, None, not, Bool, ◌&&◌, ◌||◌, ◌==◌, if◌then◌else◌}
use Rattle.std.specs.List.{slice_index_or}
use Rattle.geo_laws.specs.declared.tetrahedra.Tet.{Tet as Row}
use Rattle.mesh_arena.specs.Mesh.{SlotValue, corners_at, link_behind, at}
use Rattle.mesh_arena.specs.declared.arena.SlotFace.{SlotFace}
use Rattle.mesh_arena.specs.declared.slot.Corner.{Corner}
use Rattle.mesh_arena.specs.declared.slot.Corner.TheVariants.{Point as Numbered, Ghost}
use Rattle.cavity_insert.specs.declared.start.Shared.{Shared}

-- a corner of the tetrahedron by its place, or the point at infinity
abbrev pub corner_by_place : Row → ℕ → Corner
corner_by_place t zero = Numbered t.a
corner_by_place t (suc zero) = Numbered t.b
corner_by_place t (suc (suc zero)) = Numbered t.c
corner_by_place t (suc (suc (suc zero))) = Numbered t.d
corner_by_place t k = Ghost

-- the places of the corners of a slot: of the tetrahedron itself, and of the ghosts over its faces, turned outward
abbrev pub start_places : ℕ → Option (List ℕ)
start_places zero = Some (0 ∷ 1 ∷ 2 ∷ 3 ∷ [])
start_places (suc zero) = Some (1 ∷ 2 ∷ 3 ∷ 4 ∷ [])
start_places (suc (suc zero)) = Some (0 ∷ 3 ∷ 2 ∷ 4 ∷ [])
start_places (suc (suc (suc zero))) = Some (0 ∷ 1 ∷ 3 ∷ 4 ∷ [])
start_places (suc (suc (suc (suc zero)))) = Some (0 ∷ 2 ∷ 1 ∷ 4 ∷ [])
start_places s = None

abbrev pub named_corners : Row → Option (List ℕ) → Option (List Corner)
named_corners t None = None
named_corners t (Some places) = Some (map (corner_by_place t) places)

-- what stands behind a face, if these pairs of faces are linked
abbrev pub behind_face : List Shared → ℕ → ℕ → Option SlotFace
behind_face [] s k = None
behind_face (l ∷ ls) s k =
    if s == l.slot && k == l.face then Some (at l.behind l.back)
    else if s == l.behind && k == l.back then Some (at l.slot l.face)
    else behind_face ls s k

-- the slots are the tetrahedron and its ghosts, with their corners in these places; and just these pairs of faces are linked
pub record AreStartSlots (slots : List (Option SlotValue)) (t : Row) (linked : List Shared) : Type 0 where
  pub corners : (s : ℕ) → corners_at slots s ≡ named_corners t (start_places s)
  pub sides : (s k : ℕ) → link_behind slots s k ≡ behind_face linked s k

-- a pair of faces with the same corners
abbrev pub pair : ℕ → ℕ → ℕ → ℕ → Shared
pair s i t j = record { slot = s; face = i; behind = t; back = j }

-- the faces of the tetrahedron and its ghosts, the last pair first
abbrev pub row_links : List Shared
row_links = pair 0 3 4 3 ∷ pair 0 2 3 3 ∷ pair 0 1 2 3 ∷ pair 0 0 1 3 ∷ []

-- and those of the ghosts with one another
abbrev pub start_links : List Shared
start_links = pair 3 2 4 1 ∷ pair 2 1 4 2 ∷ pair 2 2 3 1 ∷ pair 1 2 4 0 ∷ pair 1 1 3 0 ∷ pair 1 0 2 0 ∷ row_links

-- the place of the corner in this place of a slot
abbrev pub corner_place_in : Option (List ℕ) → ℕ → ℕ
corner_place_in None m = 9
corner_place_in (Some places) m = slice_index_or places m 9

-- whether x is the place of a corner off the place j
abbrev pub has_off : Option (List ℕ) → ℕ → ℕ → Bool
has_off places j x =
    (not (0 == j) && corner_place_in places 0 == x) || ((not (1 == j) && corner_place_in places 1 == x)
    || ((not (2 == j) && corner_place_in places 2 == x) || (not (3 == j) && corner_place_in places 3 == x)))

-- whether the corners off the place i are corners off the place j
abbrev pub covers : Option (List ℕ) → ℕ → Option (List ℕ) → ℕ → Bool
covers one i two j =
    (0 == i || has_off two j (corner_place_in one 0)) && ((1 == i || has_off two j (corner_place_in one 1))
    && ((2 == i || has_off two j (corner_place_in one 2)) && (3 == i || has_off two j (corner_place_in one 3))))

-- whether these two faces have the same corners and nothing behind them yet
abbrev pub fits_behind : List Shared → Shared → Bool
fits_behind linked p =
    (is_some (start_places p.slot) && is_some (start_places p.behind)) && ((not (p.slot == p.behind)
    && (nat_lt p.face 4 && nat_lt p.back 4))
    && ((covers (start_places p.slot) p.face (start_places p.behind) p.back
    && covers (start_places p.behind) p.back (start_places p.slot) p.face)
    && (is_none (behind_face linked p.slot p.face) && is_none (behind_face linked p.behind p.back))))
