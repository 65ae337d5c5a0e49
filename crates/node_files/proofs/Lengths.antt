-- How many points a settled list has.
use Rattle.std.proofs.Common.{◌≡◌, ℕ, length, List, map, Option, Some, None, Bool, true, false, ◌*◌, arith, refl, ◌∙◌, ap}
use Rattle.std.proofs.lemmas.List.{length-map}
use Rattle.sign_predicates.specs.Point.{Point}
use Rattle.grid_coords.specs.declared.grid.Grid.{Grid}
use Rattle.grid_coords.specs.declared.points.DecimalPoint.{DecimalPoint}
use Rattle.grid_coords.specs.Units.{grid_point}
use Rattle.std.specs.Prelude.{if◌then◌else◌}
use Rattle.node_files.specs.Writing.{mark_count}
use Rattle.node_files.specs.Settling.{rounded_points, rounded_point}

rounded_length : (decimals : Option ℕ) (ps : List DecimalPoint) → length (rounded_points decimals ps) ≡ length ps
rounded_length None ps = refl
rounded_length (Some decimals) ps = length-map ps (rounded_point decimals)

-- as many as its text
pub settled_length : (decimals : Option ℕ) (g : Grid) (ps qs rs : List DecimalPoint) (points : List Point) → qs ≡ rounded_points decimals ps → rs ≡ qs → points ≡ map (grid_point g) rs → length points ≡ length ps
settled_length decimals g ps qs rs points rounded same placed = ap length placed ∙ length-map rs (grid_point g) ∙ ap length (same ∙ rounded) ∙ rounded_length decimals ps

-- a marker for each point, or none
pub shares : (flag : Bool) (n : ℕ) → (if flag then n else 0) ≡ mark_count flag * n
shares true n = omega arith
shares false n = omega arith
