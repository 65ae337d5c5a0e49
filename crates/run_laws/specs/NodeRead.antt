-- Point lists, read back.
use Rattle.std.specs.Prelude.{◌≡◌, ℕ, ◌+◌, ◌*◌, ◌<◌, ◌≤◌, unsigned_abs, ℤ, pos, List, [], ◌∷◌, ◌++◌, length, replicate, All, Ok}
use Rattle.std.specs.List.{flat_map}
use Rattle.sign_predicates.specs.Point.{Point}
use Rattle.tet_text.specs.Lines.{content_lines}
use Rattle.grid_coords.specs.Units.{limit, decimal_of_units}
use Rattle.grid_coords.specs.declared.grid.Grid.{Grid}
use Rattle.node_files.specs.Node.{node_of}
use Rattle.node_files.specs.Writing.{mark_count, node_text}
use Rattle.node_files.specs.declared.node_text.NodeText.{NodeText}
use Rattle.node_files.specs.declared.table.NodeTable.{NodeTable}
use Rattle.run_laws.specs.LeastGrids.{ArePointsAt}
use Rattle.run_laws.specs.Reread.{IsShortNumber, IsPlainField}

-- a coordinate of at most `wide` grid units in size, with at most 35 decimals
pub record IsLegible (wide : ℕ) (g : Grid) (c : ℤ) : Type 0 where
  pub small : unsigned_abs c ≤ wide
  pub short : (decimal_of_units g c).scale ≤ 35

pub record IsLegiblePoint (wide : ℕ) (g : Grid) (p : Point) : Type 0 where
  pub x : IsLegible wide g p.x
  pub y : IsLegible wide g p.y
  pub z : IsLegible wide g p.z

-- points with as many attributes each as stated, at most 100, which are fields, and with markers of at most 18 digits where the flag is set
pub record IsPlainTable (table : NodeTable) : Type 0 where
  pub few : table.attribute_count ≤ 100
  pub attributes : length table.attributes ≡ table.attribute_count * length table.listed
  pub plain : All IsPlainField table.attributes
  pub markers : length table.markers ≡ mark_count table.flag * length table.listed
  pub short : All (λ m. IsShortNumber (unsigned_abs m)) table.markers
  pub halvings : table.grid.halvings ≤ 18

-- the attributes and markers of the listed points, and those of the added ones, which are all '0', 48, and 0
abbrev pub attributes_behind : NodeTable → List Point → List (List ℕ)
attributes_behind table added = table.attributes ++ flat_map (λ p. replicate table.attribute_count (48 ∷ [])) added

abbrev pub markers_behind : NodeTable → List Point → List ℤ
markers_behind table added = table.markers ++ flat_map (λ p. replicate (mark_count table.flag) (pos 0)) added

-- what is read back: points that are numbered from the first number on, with the decimals, the attributes and the markers of the listed
-- points and the added ones
pub record IsReadBack (wide : ℕ) (table : NodeTable) (added : List Point) (first : ℕ) (text : NodeText) : Type 0 where
  pub numbered : 0 < length (table.listed ++ added) → text.first ≡ first
  pub decimals : ArePointsAt wide table.grid (table.listed ++ added) text.decimals
  pub attributes : text.attributes ≡ attributes_behind table added
  pub markers : text.markers ≡ markers_behind table added

-- `.node`: the text of points is read back as their decimals, with their attributes and markers
abbrev pub NodeReadLaw : Type 0
NodeReadLaw = (wide : ℕ) → wide ≤ limit → (table : NodeTable) (added : List Point) (first : ℕ) → IsPlainTable table → first ≤ 1
    → IsShortNumber (first + length (table.listed ++ added))
    → All (IsLegiblePoint wide table.grid) (table.listed ++ added)
    → (text : NodeText) × ((total : ℕ) → node_of total (content_lines (node_text table added first)) ≡ Ok text)
    × IsReadBack wide table added first text
