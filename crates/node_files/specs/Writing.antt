-- Point lists as text.
use Rattle.std.specs.Prelude.{◌≡◌, ℕ, ◌+◌, ◌*◌, ◌≤◌, ℤ, pos, Bool, List, [], ◌∷◌, ◌++◌, length, map, take, drop, replicate, Option, Some, None, if◌then◌else◌}
use Rattle.tet_text.specs.Printing.{decimal_text}
use Rattle.sign_predicates.specs.Point.{Point}
use Rattle.grid_coords.specs.declared.grid.Grid.{Grid}
use Rattle.grid_coords.specs.Origins.{text_from, IsNear}
use Rattle.grid_coords.specs.Units.{grid_text}
use Rattle.grid_coords.specs.declared.origin.WholePoint.{WholePoint}
use Rattle.node_files.specs.Folding.{IsFolded}
use Rattle.node_files.specs.declared.table.NodeTable.{NodeTable}

abbrev pub whole_text : ℤ → List ℕ
whole_text n = decimal_text (record { value = n; scale = 0 })

-- each field behind a space, 32
unfoldable pub fields_text : List (List ℕ) → List ℕ
fields_text [] = []
fields_text (field ∷ fields) = 32 ∷ field ++ fields_text fields

-- a number and fields behind it, with a line feed, 10
unfoldable pub line_text : ℤ → List (List ℕ) → List ℕ
line_text number fields = whole_text number ++ (fields_text fields ++ 10 ∷ [])

abbrev pub place_fields : Grid → Point → List (List ℕ)
place_fields g p = grid_text g p.x ∷ grid_text g p.y ∷ grid_text g p.z ∷ []

-- the coordinates of a point that is measured from an origin, where there is one
abbrev pub fields_from : Option WholePoint → Grid → Point → List (List ℕ)
fields_from None g p = place_fields g p
fields_from (Some o) g p = text_from o.x g p.x ∷ text_from o.y g p.y ∷ text_from o.z g p.z ∷ []

-- the line of the point with this number
abbrev pub point_line : Option WholePoint → Grid → ℕ → Point → List (List ℕ) → List ℤ → List ℕ
point_line o g number p attributes markers = line_text (pos number) (fields_from o g p ++ (attributes ++ map whole_text markers))

-- the lines of points with their numbers from this one on, `each` attributes and `marks` markers a point
unfoldable pub point_lines : Option WholePoint → Grid → ℕ → ℕ → ℕ → List Point → List (List ℕ) → List ℤ → List ℕ
point_lines o g each marks number [] attributes markers = []
point_lines o g each marks number (p ∷ ps) attributes markers =
    point_line o g number p (take each attributes) (take marks markers)
    ++ point_lines o g each marks (number + 1) ps (drop each attributes) (drop marks markers)

-- the lines of points that all have these attributes and markers
unfoldable pub like_lines : Option WholePoint → Grid → ℕ → List Point → List (List ℕ) → List ℤ → List ℕ
like_lines o g number [] attributes markers = []
like_lines o g number (p ∷ ps) attributes markers = point_line o g number p attributes markers
    ++ like_lines o g (number + 1) ps attributes markers

-- how many markers a point has
abbrev pub mark_count : Bool → ℕ
mark_count flag = if flag then 1 else 0

-- <# of points> 3 <# of attributes> <marker flag>
abbrev pub head_line : NodeTable → ℕ → List ℕ
head_line table count = line_text (pos count) (whole_text (pos 3) ∷ whole_text (pos table.attribute_count) ∷ whole_text
    (pos (mark_count table.flag)) ∷ [])

-- the first line, all listed points of the table, and the added ones with these attributes and markers
unfoldable pub list_text : Option WholePoint → NodeTable → List Point → ℕ → List (List ℕ) → List ℤ → List ℕ
list_text o table added first attributes markers =
    head_line table (length table.listed + length added)
    ++ (point_lines o table.grid table.attribute_count (mark_count table.flag) first table.listed table.attributes table.markers
    ++ like_lines o table.grid (first + length table.listed) added attributes markers)

-- where the added points have attributes '0', 48, and the marker 0, and coordinates are measured from an origin
abbrev pub node_text_from : Option WholePoint → NodeTable → List Point → ℕ → List ℕ
node_text_from o table added first = list_text o table added first (replicate table.attribute_count (48 ∷ []))
    (replicate (mark_count table.flag) (pos 0))

-- and with no origin
abbrev pub node_text : NodeTable → List Point → ℕ → List ℕ
node_text table added first = node_text_from None table added first

-- where there is an origin, it is near the grid
abbrev pub IsNearGrid : Option WholePoint → Grid → Type 0
IsNearGrid None g = Unit {0}
IsNearGrid (Some o) g = IsNear g.decimals o

-- each listed point has as many attributes as stated and a marker where the flag is set, the grid is halved at most 18 times, and equal
-- points are folded
pub record IsNodeTable (table : NodeTable) : Type 0 where
  pub attributes : length table.attributes ≡ table.attribute_count * length table.listed
  pub markers : length table.markers ≡ mark_count table.flag * length table.listed
  pub halvings : table.grid.halvings ≤ 18
  pub folded : IsFolded table.listed table.points table.names table.folded
