-- Queries at points of the mesh.
use Rattle.std.specs.Prelude.{◌≡◌, ℕ, ◌^◌, ◌<◌, ◌*ℤ◌, pos, true, List, length, Some, Any, Contains, HoldsAt}
use Rattle.sign_predicates.specs.Point.{Point, RationalPoint}
use Rattle.tet_text.specs.Decimals.{Scaled}
use Rattle.geo_laws.specs.Delaunay.{point, numbers}
use Rattle.geo_laws.specs.declared.tetrahedra.Tet.{Tet}
use Rattle.grid_coords.specs.Origins.{moved_point}
use Rattle.grid_coords.specs.declared.origin.WholePoint.{WholePoint}
use Rattle.grid_coords.specs.declared.points.DecimalPoint.{DecimalPoint}
use Rattle.mesh_check.specs.Moving.{is_short_from}
use Rattle.row_cells.specs.Parts.{ArePositiveOn}
use Rattle.row_cells.specs.Where.{first_holding}
use Rattle.tetwhere_run.specs.Locating.{IsSettledMesh}
use Rattle.tetwhere_run.specs.Nearest.{nearest_point}
use Rattle.tetwhere_run.specs.declared.settling.Settled.{Settled}

-- value / 10^scale is one number for both
abbrev pub AreEqual : Scaled → Scaled → Type 0
AreEqual d e = d.value *ℤ pos (10 ^ e.scale) ≡ e.value *ℤ pos (10 ^ d.scale)

-- each coordinate is one number for both
pub record AreEqualPoints (p q : DecimalPoint) : Type 0 where
  pub x : AreEqual p.x q.x
  pub y : AreEqual p.y q.y
  pub z : AreEqual p.z q.z

-- equal points less a point with whole coordinates are equal, so that these laws are true of a mesh and queries that are measured from it
abbrev pub MovedPointLaw : Type 0
MovedPointLaw = (w : WholePoint) (query p : DecimalPoint) → is_short_from w query ≡ true → is_short_from w p ≡ true
    → AreEqualPoints query p → AreEqualPoints (moved_point w query) (moved_point w p)

-- a grid point, over the denominator 10^6
abbrev pub in_millionths : Point → RationalPoint
in_millionths p = record { x = p.x *ℤ pos 1000000; y = p.y *ℤ pos 1000000; z = p.z *ℤ pos 1000000; w = pos 1000000 }

-- a query that is a point of the mesh, as decimal numbers, is rounded to exactly that point
abbrev pub KeptPointLaw : Type 0
KeptPointLaw = (ps : List DecimalPoint) (s : Settled) (i : ℕ) (query : DecimalPoint)
    → IsSettledMesh ps s → i < length ps → HoldsAt (AreEqualPoints query) ps i
    → nearest_point s.grid query ≡ in_millionths (point s.points i)

-- the point with this number is a corner of a row
abbrev pub IsCornerOfRow : List Tet → ℕ → Type 0
IsCornerOfRow rows i = Any (λ t. Contains (numbers t) i) rows

-- and where all rows are positive and that point is a corner of one, some row holds the query
abbrev pub HeldCornerLaw : Type 0
HeldCornerLaw = (ps : List DecimalPoint) (s : Settled) (rows : List Tet) (i : ℕ) (query : DecimalPoint)
    → IsSettledMesh ps s → ArePositiveOn s.points rows → IsCornerOfRow rows i → HoldsAt (AreEqualPoints query) ps i
    → (row : ℕ) × (first_holding s.points rows (nearest_point s.grid query) ≡ Some row)
