-- Origins that are near the grid of points that are rounded.
use Rattle.std.proofs.Common.{◌≡◌, ℕ, ◌≤◌, List, [], ◌∷◌, map, Option, Some, None, Ok, subst, ap, arith}
use Rattle.std.specs.Prelude.{IfSome}
use Rattle.grid_coords.specs.declared.grid.Grid.{Grid}
use Rattle.grid_coords.specs.declared.origin.WholePoint.{WholePoint}
use Rattle.grid_coords.specs.declared.points.DecimalPoint.{DecimalPoint}
use Rattle.grid_coords.specs.Choice.{most_decimals, first_over, grid_of}
use Rattle.grid_coords.specs.Origins.{IsNearBy}
use Rattle.grid_coords.proofs.Moved.{near_fewer, rounded_scale}
use Rattle.grid_coords.proofs.Sizes.{none_over}
use Rattle.node_files.specs.Settling.{rounded_point, rounded_points}
use Rattle.node_files.specs.Writing.{IsNearGrid}

most_rounded : (m : ℕ) (ps : List DecimalPoint) → most_decimals (map (rounded_point m) ps) ≤ m
unfolding most_decimals
most_rounded m [] = omega arith
most_rounded m (p ∷ ps) =
    let rest = most_rounded m ps in
    let x = rounded_scale m p.x in
    let y = rounded_scale m p.y in
    let z = rounded_scale m p.z in
    omega arith

grid_decimals : (wide halvings : ℕ) (ps : List DecimalPoint) (g : Grid) → grid_of wide halvings ps ≡ Ok g → most_decimals ps ≡ g.decimals
unfolding grid_of
grid_decimals wide halvings ps g is = ap (λ (h : Grid). h.decimals) (none_over (first_over wide (most_decimals ps) ps) _ g is).1

-- the grid of points that are rounded to the decimals of an origin is near it
pub near_grid : (o : Option WholePoint) (d : Option ℕ) (wide halvings : ℕ) (ps : List DecimalPoint) (g : Grid) → IfSome o (IsNearBy d)
    → grid_of wide halvings (rounded_points d ps) ≡ Ok g → IsNearGrid o g
near_grid None d wide halvings ps g near is = tt
near_grid (Some w) None wide halvings ps g near is = absurd near
near_grid (Some w) (Some m) wide halvings ps g near is =
    near_fewer g.decimals m w (subst (λ (n : ℕ). n ≤ m) (grid_decimals wide halvings (map (rounded_point m) ps) g is) (most_rounded m ps)) near
