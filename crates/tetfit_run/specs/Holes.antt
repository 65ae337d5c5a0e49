-- Complexes without their hole points.
use Rattle.std.specs.Prelude.{◌≡◌, ℕ, [], length, take, drop}
use Rattle.geo_laws.specs.Complex.{Complex, AreFollowing}
use Rattle.run_steps.specs.declared.input.Input.{Input}
use Rattle.run_steps.specs.declared.mesh.Bound.{Bound}

-- the input without the hole points of its complex; those of facets stay
abbrev pub without_holes : Input → Input
without_holes input = record input { complex = record input.complex { holes = [] } }

-- the points and the complex on their grid, without hole points
abbrev pub without_hole_points : Bound → Bound
without_hole_points bound = record bound { complex = record bound.complex { holes = [] } }

-- the first facets of a complex, with their polygons; the facets behind them begin where these polygons end
pub record IsCopiedTo (c : Complex) (i : ℕ) (made : Complex) : Type 0 where
  pub facets : made.facets ≡ take i c.facets
  pub polygons : made.polygons ≡ take (length made.polygons) c.polygons
  pub following : AreFollowing (length made.polygons) (drop i c.facets) (length c.polygons)
  pub no_holes : made.holes ≡ []
  pub no_regions : made.regions ≡ []
