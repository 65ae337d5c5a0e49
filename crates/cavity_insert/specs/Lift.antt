-- The requirements of the insphere test of a lifted point.
use Rattle.std.specs.Prelude.{ℕ, ◌<◌, List, length, Contains}
use Rattle.sign_predicates.specs.Point.{Point}
use Rattle.sign_predicates.specs.Orientation.{IsPositive}
use Rattle.geo_laws.specs.Delaunay.{corners, numbers}
use Rattle.geo_laws.specs.declared.tetrahedra.Tet.{Tet as Row}
use Rattle.point_locate.specs.Place.{AreOn, row_corners}

-- a positive tetrahedron of points, and a further point
pub record IsRowFor (ps : List Point) (t : Row) (p : ℕ) : Type 0 where
  pub on : AreOn ps (row_corners t)
  pub positive : IsPositive (corners ps t)
  pub inside : p < length ps
  pub further : ¬ Contains (numbers t) p
