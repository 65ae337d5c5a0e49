-- The 32 parts into which each axis is cut, and the cells that they make up. Lengths along an axis are counted in grid units from -2^29 on.
use Rattle.std.specs.Prelude.{◌≡◌, ◌↔◌, ℕ, ◌+◌, ◌*◌, ◌<◌, ◌≤◌, ℤ, pos, ◌-ℤ◌, ◌*ℤ◌, ◌≤ℤ◌, Bool, true, ◌&&◌, List, map, filter, All, nat_le, nat_eq, if◌then◌else◌}
use Rattle.sign_predicates.specs.Point.{Point, RationalPoint, SomeRational}
use Rattle.sign_predicates.specs.declared.tetrahedron.Corners.{Corners}
use Rattle.sign_predicates.specs.Orientation.{IsPositive, InClosed}
use Rattle.geo_laws.specs.Delaunay.{corners, numbers_below, IsOn}
use Rattle.geo_laws.specs.declared.tetrahedra.Tet.{Tet}
use Rattle.row_cells.specs.declared.boxes.RowBox.{RowBox}
use Rattle.row_cells.specs.declared.boxes.Span.{Span}
use Rattle.row_cells.specs.declared.cells.RowCells.{RowCells}
use Rattle.row_cells.specs.declared.parts.Axis.{Axis}
use Rattle.row_cells.specs.declared.parts.Axis.TheVariants.{X, Y, Z}
use Rattle.row_cells.specs.declared.parts.Cut.{Cut}
use Rattle.row_cells.specs.declared.parts.Cuts.{Cuts}
use Rattle.row_cells.specs.Boxes.{box_of, boxes_of, AreOnGrid}

-- from where to where the box reaches along an axis
abbrev pub span_along : Axis → RowBox → Span
span_along X b = b.x
span_along Y b = b.y
span_along Z b = b.z

-- the box has a coordinate between the two ends, both included
abbrev pub reaches : Axis → ℕ → ℕ → RowBox → Bool
reaches axis from to b = nat_le (span_along axis b).low to && nat_le from (span_along axis b).high

-- where a part begins and the one before it ends: the first begins where the grid does, the last ends where the grid does
abbrev pub mark : Cut → ℕ → ℕ
mark cut s = if nat_eq s 0 then 0 else if nat_eq s 32 then 1073741824 else cut.low + cut.width * s

-- the tetrahedra that reach into the part s along an axis, in their order
abbrev pub part_of : Axis → Cut → ℕ → List RowBox → List RowBox
part_of axis cut s boxes = filter (reaches axis (mark cut s) (mark cut (s + 1))) boxes

-- for each of the 32 parts along an axis the tetrahedra that reach into it
abbrev pub cut_parts : Axis → Cut → List RowBox → List (List RowBox)
cut_parts axis cut boxes = map (λ s. part_of axis cut s boxes) (numbers_below 32)

-- for each part along y its parts along z
abbrev pub strips_of : Cut → Cut → List RowBox → List (List (List RowBox))
strips_of y z boxes = map (λ s. cut_parts Z z (part_of Y y s boxes)) (numbers_below 32)

-- For each part along x, along y and along z the tetrahedra that reach into all three, in their order
abbrev pub cells_of : Cuts → List RowBox → List (List (List (List RowBox)))
cells_of cuts boxes = map (λ s. strips_of cuts.y cuts.z (part_of X cuts.x s boxes)) (numbers_below 32)

-- no part is empty
pub record AreWide (cuts : Cuts) : Type 0 where
  pub x : 0 < cuts.x.width
  pub y : 0 < cuts.y.width
  pub z : 0 < cuts.z.width

-- the corners of each tetrahedron are points, and each tetrahedron is positive
abbrev pub ArePositiveOn : List Point → List Tet → Type 0
ArePositiveOn ps rows = All (λ t. IsOn ps t × IsPositive (corners ps t)) rows

-- for each cell the tetrahedra that reach into it, with their boxes; all lie on the grid
pub record StandsFor (ps : List Point) (rows : List Tet) (c : RowCells) : Type 0 where
  pub cells : c.cells ≡ cells_of c.cuts (boxes_of ps rows)
  pub wide : AreWide c.cuts
  pub grid : All (λ t. AreOnGrid (corners ps t)) rows

-- ---- what lies between two ends along x, as a set of points

-- an end, as a coordinate
abbrev pub cell_end : ℕ → ℤ
cell_end n = pos n -ℤ pos 536870912

-- the point lies between them
pub record IsBetweenEnds (from to : ℕ) (x : RationalPoint) : Type 0 where
  pub left : (cell_end from *ℤ x.w) ≤ℤ x.x
  pub right : x.x ≤ℤ (cell_end to *ℤ x.w)

-- some point of the closed tetrahedron does
abbrev pub MeetsSlab : ℕ → ℕ → Corners → Type 0
MeetsSlab from to t = SomeRational (λ x. InClosed t x × IsBetweenEnds from to x)

-- a tetrahedron reaches into a slab exactly where its closed tetrahedron meets it
abbrev pub ReachLaw : Type 0
ReachLaw = (place from to : ℕ) (t : Corners) → from ≤ to → IsPositive t → AreOnGrid t
    → (reaches X from to (box_of place t) ≡ true) ↔ MeetsSlab from to t
