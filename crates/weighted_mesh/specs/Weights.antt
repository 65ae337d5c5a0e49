-- The weights of the points of a list: first attributes, in squares of grid units.
use Rattle.std.specs.Prelude.{◌≡◌, ℕ, ◌*◌, ℤ, pos, List, [], ◌∷◌, ◌++◌, map, ◌==◌, if◌then◌else◌, slice_index, Option, Some, None, Result, Ok, Err}
use Rattle.std.specs.Option.{option_map, ok_or}
use Rattle.std.specs.List.{slice_index_or}
use Rattle.geo_laws.specs.Delaunay.{all_numbers}
use Rattle.tet_text.specs.Decimals.{Scaled, signed, decimal_of}
use Rattle.tet_text.specs.Faults.{not_a_number}
use Rattle.grid_coords.specs.Rounding.{rounded}
use Rattle.grid_coords.specs.Units.{is_negative, units, if_at_most}
use Rattle.grid_coords.specs.declared.grid.Grid.{Grid}
use Rattle.node_files.specs.declared.table.NodeTable.{NodeTable}
use Rattle.weighted_mesh.specs.declared.weight_fault.WeightFault.{WeightFault}
use Rattle.weighted_mesh.specs.declared.weight_fault.WeightFault.TheVariants as faults

-- the greatest size of a weight, 2^46
abbrev pub weight_limit : ℕ
weight_limit = 70368744177664

-- the number, rounded to twice the grid's decimals, in squares of grid units, where it is then at most 2^46 of them in size
unfoldable pub weight_units : Grid → Scaled → Option ℤ
weight_units g d =
    let r = rounded (2 * g.decimals) d in
    option_map (signed (is_negative r)) (if_at_most weight_limit (units (2 * g.decimals) (2 * g.halvings) r))

-- the weight that a text of this line writes, unless it is no decimal or too heavy
abbrev pub weight_of_decimal : Grid → ℕ → Option Scaled → Result ℤ WeightFault
weight_of_decimal g line None = Err (faults.Text (not_a_number line))
weight_of_decimal g line (Some d) = ok_or (weight_units g d) (faults.TooHeavy line)

abbrev pub weight_in : Grid → ℕ → List ℕ → Result ℤ WeightFault
weight_in g line text = weight_of_decimal g line (decimal_of text)

-- the line of a listed point, and its first attribute as it is written
abbrev pub line_of_weight : NodeTable → ℕ → ℕ
line_of_weight table i = slice_index (map (λ p. p.line) table.decimals) i

abbrev pub first_attribute : NodeTable → ℕ → List ℕ
first_attribute table i = slice_index_or table.attributes (i * table.attribute_count) []

-- the weight of a listed point, from its first attribute; 0 where the points have none
abbrev pub weight_of : NodeTable → ℕ → Result ℤ WeightFault
weight_of table i = if table.attribute_count == 0 then Ok (pos 0) else weight_in table.grid (line_of_weight table i)
    (first_attribute table i)

-- these weights and those that follow, if none of them is refused
abbrev pub weights_behind : List ℤ → Result (List ℤ) WeightFault → Result (List ℤ) WeightFault
weights_behind front (Ok ws) = Ok (front ++ ws)
weights_behind front (Err fault) = Err fault

-- all of the weights, or the first that is refused
unfoldable pub all_of : List (Result ℤ WeightFault) → Result (List ℤ) WeightFault
all_of [] = Ok []
all_of (Ok w ∷ others) = weights_behind (w ∷ []) (all_of others)
all_of (Err fault ∷ others) = Err fault

-- the weights of all listed points, or the fault of the first that is refused
abbrev pub weights_of : NodeTable → Result (List ℤ) WeightFault
weights_of table = all_of (map (weight_of table) (all_numbers table.listed))

-- the result is that of `weights_of`, unless memory ran out
abbrev pub ReadsWeights : NodeTable → Result (List ℤ) WeightFault → Type 0
ReadsWeights table (Err faults.NoMemory) = Unit {0}
ReadsWeights table result = weights_of table ≡ result
