-- The grid of the five points, and that no two are equal.
use Rattle.std.proofs.Common.{◌≡◌, ◌≢◌, ℕ, ◌+◌, ◌*◌, ◌<◌, Bool, true, not, List, [], ◌∷◌, ◌++◌, take, length, map, Ok, refl, sym, ap, subst, ◌∙◌}
use Rattle.std.proofs.lemmas.Bool.{eq-eqb, true≢false}
use Rattle.std.specs.List.{list_all}
use Rattle.std.specs.Prelude.{unsigned_abs, ◌==◌}
use Rattle.grid_coords.specs.declared.grid.Grid.{Grid}
use Rattle.grid_coords.specs.Choice.{grid_of, most_decimals, greatest_size, first_over, halvings_for, largest}
use Rattle.grid_coords.specs.Units.{grid_point, units}
use Rattle.sign_predicates.specs.Point.{Point, origin}
use Rattle.geo_laws.specs.Delaunay.{point}
use Rattle.geo_laws.proofs.Members.{at_place, each_true}
use Rattle.node_files.specs.Folding.{IsFolded}
use Rattle.node_files.proofs.Folds.{fold_none, fold_new}
use Rattle.run_laws.proofs.Reading.{stated_points}
use Rattle.run_laws.proofs.WorkedRows.{at, grid_points}

abbrev pub pyramid_grid : Grid
pyramid_grid = record { decimals = 0; halvings = 12 }

pub grid_is : grid_of 8388608 12 stated_points ≡ Ok pyramid_grid
unfolding grid_of most_decimals greatest_size first_over halvings_for largest units
grid_is = refl

pub points_are : map (grid_point pyramid_grid) stated_points ≡ grid_points
unfolding units
points_are = refl

abbrev pub places : List ℕ
places = 0 ∷ 1 ∷ 2 ∷ 3 ∷ 4 ∷ []

-- the place of a point on a line that keeps the five points apart
abbrev measure : Point → ℕ
measure p = unsigned_abs p.x + 3 * unsigned_abs p.y + 11 * unsigned_abs p.z

-- no point of the list has the measure of this one
abbrev is_new : List Point → Point → Bool
is_new ps p = list_all (λ q. not (measure q == measure p)) ps

new : (ps : List Point) (p : Point) → is_new ps p ≡ true → (k : ℕ) → k < length ps → point ps k ≢ p
new ps p h k l e =
    let differ = subst (λ (q : Point). not (measure q == measure p) ≡ true) e (each_true (λ q. not (measure q == measure p)) ps h (point ps k) (at_place ps k origin l)) in
    absurd (true≢false (sym differ ∙ ap not (eq-eqb (measure p) (measure p) refl)))

-- a new point is kept, under its own number
pub step : (ps : List Point) (ns : List ℕ) (p : Point) → is_new ps p ≡ true → IsFolded ps ps ns ns → IsFolded (ps ++ p ∷ []) (ps ++ p ∷ []) (ns ++ length ps ∷ []) (ns ++ length ps ∷ [])
step ps ns p h folded = fold_new ps ps ns ns p folded (new ps p h)

-- no two of the five are equal
pub folded_are : IsFolded grid_points grid_points places places
folded_are =
    step (take 4 grid_points) (take 4 places) (at 1 1 2) refl
    (step (take 3 grid_points) (take 3 places) (at 0 2 0) refl
    (step (take 2 grid_points) (take 2 places) (at 2 2 0) refl
    (step (take 1 grid_points) (take 1 places) (at 2 0 0) refl
    (step [] [] (at 0 0 0) refl fold_none))))
