-- How large points are that are put on their grid.
use Rattle.std.proofs.Common.{◌≡◌, ◌⊎◌, inl, inr, ℕ, zero, suc, ◌*◌, ◌^◌, ◌<◌, ◌≤◌, unsigned_abs, List, [], ◌∷◌, map, Some, None, Ok, ap, sym, subst, ◌∙◌, arith}
use Rattle.std.specs.Prelude.{All, max, min, find, nat_lt}
use Rattle.std.proofs.lemmas.Bool.{cases_lt, cond-true, cond-false, lt-ltb, le-ltb}
use Rattle.sign_predicates.specs.Point.{Point}
use Rattle.tet_text.specs.Decimals.{Scaled}
use Rattle.tet_text.proofs.Scaling.{abs_signed}
use Rattle.grid_coords.specs.Choice.{grid_of, most_decimals, greatest_size, first_over, is_over, size_of, halvings_for, most_halvings}
use Rattle.grid_coords.specs.Units.{grid_coordinate, grid_point, is_negative, units}
use Rattle.grid_coords.specs.declared.grid.Grid.{Grid}
use Rattle.grid_coords.specs.declared.points.DecimalPoint.{DecimalPoint}
use Rattle.grid_coords.proofs.Sizes.{halvings_le, halvings_fit, none_over, units_small}
use Rattle.node_files.specs.Settling.{IsSettled, rounded_points}
use Rattle.node_files.specs.declared.limits.Limits.{Limits}
use Rattle.node_files.specs.declared.node_text.NodeText.{NodeText}
use Rattle.node_files.specs.declared.table.GridOptions.{GridOptions}
use Rattle.node_files.specs.declared.table.NodeTable.{NodeTable}

-- where no point is too large, none is over the limit
none_large : (wide decimals : ℕ) (ps : List DecimalPoint) → find (is_over wide decimals) ps ≡ None → greatest_size decimals ps ≤ wide
unfolding greatest_size
none_large wide decimals [] e = omega arith
none_large wide decimals (p ∷ ps) e = go (cases_lt wide (size_of decimals p)) (none_large wide decimals ps)
  where
    never : Some p ≡ None → ⊥
    never e = cc

    go : (wide < size_of decimals p) ⊎ (size_of decimals p ≤ wide) → (find (is_over wide decimals) ps ≡ None → greatest_size decimals ps ≤ wide)
        → max (size_of decimals p) (greatest_size decimals ps) ≤ wide
    go (inl over) later = absurd (never (sym (cond-true (nat_lt wide (size_of decimals p)) (Some p) (find (is_over wide decimals) ps) (lt-ltb wide (size_of decimals p) over)) ∙ e))
    go (inr le) later =
        let rest = later (sym (cond-false (nat_lt wide (size_of decimals p)) (Some p) (find (is_over wide decimals) ps) (le-ltb wide (size_of decimals p) le)) ∙ e) in
        omega arith

none_over_limit : (wide decimals : ℕ) (ps : List DecimalPoint) → first_over wide decimals ps ≡ None → greatest_size decimals ps ≤ wide
unfolding first_over
none_over_limit wide decimals ps e = none_large wide decimals ps e

-- each coordinate is at most so large
pub record IsWithin (wide : ℕ) (p : Point) : Type 0 where
  pub x_small : unsigned_abs p.x ≤ wide
  pub y_small : unsigned_abs p.y ≤ wide
  pub z_small : unsigned_abs p.z ≤ wide

coordinate_within : (g : Grid) (wide size : ℕ) (d : Scaled) → units g.decimals 0 d ≤ size → size * 2 ^ g.halvings ≤ wide → unsigned_abs (grid_coordinate g d) ≤ wide
coordinate_within g wide size d small fits =
    let e = abs_signed (is_negative d) (units g.decimals g.halvings d) in
    let le = units_small g.decimals g.halvings size wide d small fits in
    omega arith

point_within : (g : Grid) (wide size : ℕ) (p : DecimalPoint) → size_of g.decimals p ≤ size → size * 2 ^ g.halvings ≤ wide → IsWithin wide (grid_point g p)
point_within g wide size p small fits = record {
  x_small = coordinate_within g wide size p.x (omega arith) fits;
  y_small = coordinate_within g wide size p.y (omega arith) fits;
  z_small = coordinate_within g wide size p.z (omega arith) fits;
}

points_within : (g : Grid) (wide size : ℕ) (ps : List DecimalPoint) → greatest_size g.decimals ps ≤ size → size * 2 ^ g.halvings ≤ wide → All (IsWithin wide) (map (grid_point g) ps)
unfolding greatest_size
points_within g wide size [] small fits i d lt = absurd (omega arith)
points_within g wide size (p ∷ ps) small fits zero d lt = point_within g wide size p (omega arith) fits
points_within g wide size (p ∷ ps) small fits (suc i) d lt = points_within g wide size ps (omega arith) fits i d (omega arith)

-- a grid that is chosen is halved at most 18 times, and holds all points within its bound
chosen : (wide most : ℕ) (ps : List DecimalPoint) (g : Grid) → grid_of wide most ps ≡ Ok g → (g.halvings ≤ 18) × All (IsWithin wide) (map (grid_point g) ps)
unfolding grid_of
chosen wide most ps g e =
    let decimals = most_decimals ps in
    let size = greatest_size decimals ps in
    let halvings = halvings_for wide (min most_halvings most) size in
    let both = none_over (first_over wide decimals ps) (record { decimals = decimals; halvings = halvings }) g e in
    let fits = halvings_fit wide (min most_halvings most) size (none_over_limit wide decimals ps both.0) in
    let few = halvings_le wide (min most_halvings most) size in
    let least : min most_halvings most ≤ 18 = omega arith in
    let on : All (IsWithin wide) (map (grid_point (record { decimals = decimals; halvings = halvings })) ps) = points_within (record { decimals = decimals; halvings = halvings }) wide size ps (omega arith) fits in
    subst (λ (k : Grid). (k.halvings ≤ 18) × All (IsWithin wide) (map (grid_point k) ps)) both.1 (omega arith, on)

-- the listed points of a table that is settled
pub settled_within : (limits : Limits) (text : NodeText) (options : GridOptions) (table : NodeTable) → IsSettled limits text options table → (table.grid.halvings ≤ 18) × All (IsWithin limits.grid) table.listed
settled_within limits text options table is =
    let c = chosen limits.grid options.halvings (rounded_points options.decimals text.decimals) table.grid is.on.on in
    let listed : table.listed ≡ map (grid_point table.grid) (rounded_points options.decimals text.decimals) = ap (λ (t : NodeTable). t.listed) is.is in
    (c.0, subst (All (IsWithin limits.grid)) (sym listed) c.1)
