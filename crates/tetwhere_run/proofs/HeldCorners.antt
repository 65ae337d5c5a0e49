-- Queries at points of the mesh are rounded to these, and are held where these are corners.
use Rattle.std.proofs.Common.{◌≡◌, ℕ, ◌<◌, List, length, get_or, Ok, sym, ap, subst, ◌∙◌, arith}
use Rattle.std.specs.Prelude.{Contains}
use Rattle.std.proofs.lemmas.List.{length-map, get_or-map, get_or_default}
use Rattle.sign_predicates.specs.Point.{Point, origin}
use Rattle.sign_predicates.specs.Orientation.{in_closed}
use Rattle.geo_laws.specs.Delaunay.{point, corners, numbers, numbers_below}
use Rattle.geo_laws.specs.declared.tetrahedra.Tet.{Tet}
use Rattle.geo_laws.proofs.Corners.{corner_of, on_corner}
use Rattle.geo_laws.proofs.Members.{in_range}
use Rattle.geo_laws.proofs.Places.{corner-point}
use Rattle.grid_coords.specs.declared.grid.Grid.{Grid}
use Rattle.grid_coords.specs.declared.points.DecimalPoint.{DecimalPoint}
use Rattle.node_files.specs.LeastGrid.{coarsest, first_over_units, least_grid_of, point_on, IsPointInUnits}
use Rattle.node_files.proofs.Greatest.{points_on}
use Rattle.row_cells.specs.Boxes.{row}
use Rattle.row_cells.specs.Where.{row_holds}
use Rattle.tetwhere_run.specs.Grid.{where_grid}
use Rattle.tetwhere_run.specs.Nearest.{nearest_point}
use Rattle.tetwhere_run.specs.Corners.{in_millionths, KeptPointLaw, HeldCornerLaw}
use Rattle.tetwhere_run.proofs.Factors.{chosen}
use Rattle.tetwhere_run.proofs.Exact.{point_kept}
use Rattle.tetwhere_run.proofs.ClosedCorners.{corner_held, first_found}

-- each point is on its least grid
on_least : (ps : List DecimalPoint) (g : Grid) → least_grid_of where_grid ps ≡ Ok g → (i : ℕ) (d : DecimalPoint) → i < length ps → IsPointInUnits g (get_or ps i d)
unfolding least_grid_of
on_least ps g is i d lt =
    let same = chosen (first_over_units where_grid (coarsest ps) ps) (coarsest ps) g is in
    subst (λ (h : Grid). IsPointInUnits h (get_or ps i d)) same.1 (points_on where_grid ps (omega arith) same.0 i d lt)

pub kept_point : KeptPointLaw
kept_point ps s i query settled lt equal =
    let p = get_or ps i query in
    let same = get_or-map (point_on s.grid) ps i query origin lt in
    point_kept s.grid query p (equal query) (on_least ps s.grid settled.grid i query lt) ∙ ap in_millionths (sym same ∙ ap (λ (l : List Point). get_or l i origin) (sym settled.points))

pub held_corner : HeldCornerLaw
held_corner ps s rows i query settled positive of_row equal =
    let k = of_row.0 in
    let within = of_row.2 in
    let none : Tet = record { a = 0; b = 0; c = 0; d = 0 } in
    let t = row rows k in
    let same : t ≡ of_row.1 = get_or_default rows k none of_row.1 within ∙ of_row.3 in
    let on = positive k none within in
    let c = corner_of t i (subst (λ (r : Tet). Contains (numbers r) i) (sym same) of_row.4) in
    let count : length s.points ≡ length ps = ap length settled.points ∙ length-map ps (point_on s.grid) in
    let lt : i < length ps = let below = on_corner s.points t on.0 c.0 in let e = c.1 in omega arith in
    let here = ap (point s.points) c.1 ∙ sym (corner-point s.points t c.0) in
    let kept = kept_point ps s i query settled lt equal ∙ ap in_millionths here in
    let held = ap (in_closed (corners s.points t)) kept ∙ corner_held (corners s.points t) on.1 c.0 in
    first_found (row_holds s.points rows (nearest_point s.grid query)) (numbers_below (length rows)) k (in_range 0 (length rows) k (omega arith) (omega arith)) held
