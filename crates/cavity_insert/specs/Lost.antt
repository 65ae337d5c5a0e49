-- The edges that an insertion removes.
use Rattle.std.specs.Prelude.{ℕ, ◌⊎◌, List, Option, Contains}
use Rattle.sign_predicates.specs.Point.{Point}
use Rattle.mesh_arena.specs.Mesh.{SlotValue}
use Rattle.point_locate.specs.Place.{IsAt}
use Rattle.cavity_insert.specs.Living.{IsDelaunaySide, HasBoth}

-- each two corners of the slot's tetrahedron are among the numbers
abbrev pub IsToldOf : List ℕ → List (Option SlotValue) → ℕ → Type 0
IsToldOf lost slots u = (a b : ℕ) → IsAt slots (λ cs. HasBoth cs a b) u → Contains lost a × Contains lost b

-- each edge of the old Delaunay list is an edge of the new one, or both its ends are among the numbers
abbrev pub AreLostSides : List Point → List Point → List ℕ → Type 0
AreLostSides before after lost = (a b : ℕ) → IsDelaunaySide before a b → IsDelaunaySide after a b ⊎ (Contains lost a × Contains lost b)
