-- How many tetrahedra of a mesh are beyond bounds.
use Rattle.std.specs.Prelude.{ℕ, List, Option}
use Rattle.std.specs.Option.{option_map}
use Rattle.sign_predicates.specs.Point.{Point}
use Rattle.geo_laws.specs.declared.tetrahedra.Tet.{Tet}
use Rattle.refining.specs.declared.counts.Counts.{Counts}
use Rattle.refining.specs.declared.goal.ShapeBounds.{ShapeBounds}
use Rattle.tet_shapes.specs.Angle.{flat_count}
use Rattle.tet_shapes.specs.Bounds.{large_count}
use Rattle.tet_shapes.specs.Shape.{slim_count}
use Rattle.tet_shapes.specs.declared.bounds.VolumeBounds.{VolumeBounds}
use Rattle.tet_shapes.specs.declared.shape.Ratio.{Ratio}

-- the number of all tetrahedra in which six times the volume is over the bound that holds in their region, where volumes are bounded
abbrev pub over_in : Option VolumeBounds → List Point → List Tet → Option (List (Option ℕ)) → Option ℕ
over_in volumes ps rows marks = option_map (λ bounds. large_count bounds marks ps rows) volumes

-- the number of all tetrahedra whose circumradius is over the ratio times their shortest edge, where there is such a bound
abbrev pub slim_in : Option Ratio → List Point → List Tet → Option ℕ
slim_in ratio ps rows = option_map (λ ratio. slim_count ratio ps rows) ratio

-- the number of all tetrahedra with a dihedral angle below the one with this squared cosine, where there is such an aim
abbrev pub flat_in : Option Ratio → List Point → List Tet → Option ℕ
flat_in cosine ps rows = option_map (λ cosine. flat_count cosine ps rows) cosine

-- how many of all tetrahedra are beyond each bound
abbrev pub counts_of : ShapeBounds → List Point → List Tet → Option (List (Option ℕ)) → Counts
counts_of shapes ps rows marks = record {
  over = over_in shapes.volumes ps rows marks;
  slim = slim_in shapes.ratio ps rows;
  flat = flat_in shapes.cosine ps rows;
}
