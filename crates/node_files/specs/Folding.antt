-- Equal points of a list, taken as one.
use Rattle.std.specs.Prelude.{◌≡◌, ◌≢◌, ◌↔◌, ℕ, ◌<◌, List, ◌++◌, length, map, AllPairs, Contains, slice_index}
use Rattle.std.specs.List.{range_with_len}
use Rattle.sign_predicates.specs.Point.{Point}
use Rattle.geo_laws.specs.Delaunay.{point}
use Rattle.node_files.specs.declared.table.NodeTable.{NodeTable}

-- the point at this place is equal to no earlier one
abbrev pub IsKeptPoint : List Point → ℕ → Type 0
IsKeptPoint ps i = (i < length ps) × ((j : ℕ) → j < i → point ps j ≢ point ps i)

-- `points` are those of the listed points that are equal to no earlier one, in order; `names` has the place of each of them in the list,
-- and `folded` has for each listed point the place of the one of them that is equal to it
pub record IsFolded (listed points : List Point) (names folded : List ℕ) : Type 0 where
  pub ascending : AllPairs (λ i j. i < j) names
  pub kept : (i : ℕ) → Contains names i ↔ IsKeptPoint listed i
  pub points_are : points ≡ map (point listed) names
  pub as_many : length folded ≡ length listed
  pub equal : (i : ℕ) → i < length listed → (slice_index folded i < length points) × (point points (slice_index folded i) ≡ point listed i)

-- the names of a table's points and of `added` points behind them: those of the table, and for the added ones the
-- numbers behind all its listed points
abbrev pub names_with : NodeTable → ℕ → List ℕ
names_with table added = table.names ++ range_with_len (length table.listed) added
