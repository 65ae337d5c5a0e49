-- Points of a grid, as decimals, and the same points on the least grid of these.
use Rattle.std.specs.Prelude.{◌≡◌, ℕ, ◌+◌, ◌-◌, ◌*◌, ◌^◌, ◌<◌, ◌≤◌, ℤ, pos, ◌*ℤ◌, unsigned_abs, List, map, length, slice_index_or, None, Some, Result, Ok, MatchResult}
use Rattle.sign_predicates.specs.Point.{Point}
use Rattle.sign_predicates.specs.Orientation.{orient}
use Rattle.sign_predicates.specs.Sphere.{in_sphere, HaveOneSign}
use Rattle.geo_laws.specs.Delaunay.{point, corners}
use Rattle.geo_laws.specs.declared.tetrahedra.Tet.{Tet}
use Rattle.tet_text.specs.Decimals.{decimal_of}
use Rattle.grid_coords.specs.Units.{limit, decimal_of_units, grid_text, IsNumberAt}
use Rattle.grid_coords.specs.declared.grid.Grid.{Grid}
use Rattle.grid_coords.specs.declared.points.DecimalPoint.{DecimalPoint}
use Rattle.node_files.specs.LeastGrid.{least_grid_of, coarsest, point_on}
use Rattle.node_files.specs.SettlingLeast.{SettlesLeast}
use Rattle.node_files.specs.declared.grid_fault.GridFault.{GridFault}
use Rattle.node_files.specs.declared.grid_fault.GridFault.TheVariants as faults

-- ---- points as decimals

-- the decimals are the numbers that the coordinates are in units of the grid, each at most `wide` in size
pub record IsPointAt (wide : ℕ) (g : Grid) (p : Point) (d : DecimalPoint) : Type 0 where
  pub x_is : IsNumberAt g p.x d.x
  pub y_is : IsNumberAt g p.y d.y
  pub z_is : IsNumberAt g p.z d.z
  pub x_small : unsigned_abs p.x ≤ wide
  pub y_small : unsigned_abs p.y ≤ wide
  pub z_small : unsigned_abs p.z ≤ wide

-- the decimals are those of the points, in order
pub record ArePointsAt (wide : ℕ) (g : Grid) (ps : List Point) (ds : List DecimalPoint) : Type 0 where
  pub long : length ds ≡ length ps
  pub at : (i : ℕ) (d : DecimalPoint) → i < length ds → IsPointAt wide g (point ps i) (slice_index_or ds i d)

-- ---- the same points in a larger unit

abbrev pub times : ℕ → Point → Point
times f p = record { x = pos f *ℤ p.x; y = pos f *ℤ p.y; z = pos f *ℤ p.z }

-- each point of the first list is f times that of the second
pub record AreMultiples (f : ℕ) (ps qs : List Point) : Type 0 where
  pub some : 0 < f
  pub long : length qs ≡ length ps
  pub at : (i : ℕ) → point ps i ≡ times f (point qs i)

-- how many units of a grid are one of a coarser one
abbrev pub ratio : Grid → Grid → ℕ
ratio g least = 5 ^ (g.decimals - least.decimals) * 2 ^ ((g.decimals + g.halvings) - (least.decimals + least.halvings))

-- the decimals fit their least grid, which is no finer than the grid of the points, and on which these are the same points in a larger unit
pub record FitsLeast (wide : ℕ) (g : Grid) (ps : List Point) (ds : List DecimalPoint) : Type 0 where
  pub fits : least_grid_of wide ds ≡ Ok (coarsest ds)
  pub fewer_decimals : (coarsest ds).decimals ≤ g.decimals
  pub coarser : (coarsest ds).decimals + (coarsest ds).halvings ≤ g.decimals + g.halvings
  pub same : AreMultiples (ratio g (coarsest ds)) ps (map (point_on (coarsest ds)) ds)

-- ---- the laws

-- Decimals of points of a grid fit their least grid
abbrev pub FittingLaw : Type 0
FittingLaw = (wide : ℕ) (g : Grid) (ps : List Point) (ds : List DecimalPoint) → ArePointsAt wide g ps ds → FitsLeast wide g ps ds

-- Decimals of points of a grid settle on their least grid, where they are not too many and are not rounded: no
-- coordinate is out of range
abbrev pub SettlingLaw : Type 0
SettlingLaw = (wide : ℕ) (g : Grid) (ps : List Point) (ds : List DecimalPoint) → ArePointsAt wide g ps ds → (most : ℕ) → length ps ≤ most
    → (result : Result (List Point) GridFault) → SettlesLeast wide ds None most result
    → MatchResult result (AreMultiples (ratio g (coarsest ds)) ps) (λ fault. fault ≡ faults.NoMemory)

-- Points in a larger unit have the same orientations, and lie on the same sides of spheres
pub record HaveSameSigns (ps qs : List Point) : Type 0 where
  pub orientations : (a b c d : ℕ)
      → HaveOneSign (orient (point ps a) (point ps b) (point ps c) (point ps d))
      (orient (point qs a) (point qs b) (point qs c) (point qs d))
  pub spheres : (t : Tet) (e : ℕ) → HaveOneSign (in_sphere (corners ps t) (point ps e)) (in_sphere (corners qs t) (point qs e))

abbrev pub SameSignsLaw : Type 0
SameSignsLaw = (f : ℕ) (ps qs : List Point) → AreMultiples f ps qs → HaveSameSigns ps qs

-- The text of a coordinate is read back as its decimal, which is exactly that number of grid units. With more than 35
-- decimals it has more digits than a decimal may have
abbrev pub RereadLaw : Type 0
RereadLaw = (g : Grid) (c : ℤ) → unsigned_abs c ≤ limit → g.halvings ≤ 18 → (decimal_of_units g c).scale ≤ 35
    → (decimal_of (grid_text g c) ≡ Some (decimal_of_units g c)) × IsNumberAt g c (decimal_of_units g c)
