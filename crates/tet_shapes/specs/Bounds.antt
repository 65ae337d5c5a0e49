-- Bounds on the volumes of tetrahedra, by the regions in which they are.
use Rattle.std.specs.Prelude.{ℕ, min, pos, Bool, false, List, map, Option, Some, None, option_and_then, nat_le, count_by, slice_index_or, if◌then◌else◌}
use Rattle.std.specs.List.{enumerate_from}
use Rattle.std.specs.Option.{option_map}
use Rattle.sign_predicates.specs.Point.{Point}
use Rattle.sign_predicates.specs.declared.tetrahedron.Corners.{Corners}
use Rattle.geo_laws.specs.Delaunay.{corners}
use Rattle.geo_laws.specs.declared.tetrahedra.Tet.{Tet}
use Rattle.grid_coords.specs.declared.grid.Grid.{Grid}
use Rattle.tet_text.specs.Decimals.{Scaled}
use Rattle.tet_shapes.specs.Shape.{is_large}
use Rattle.tet_shapes.specs.Volume.{most_volume}
use Rattle.tet_shapes.specs.declared.bounds.VolumeBounds.{VolumeBounds}

-- the bound that the volume limit of a region gives; one with more than 36 decimals gives none
abbrev pub limit_most : Grid → Scaled → Option ℕ
limit_most grid limit = if nat_le limit.scale 36 then Some (most_volume grid limit) else None

-- the bounds by a volume, where one is given, and by the limits of regions
abbrev pub volume_bounds : Grid → Option Scaled → List (Option Scaled) → VolumeBounds
volume_bounds grid volume limits = record {
  most = option_map (most_volume grid) volume;
  regions = map (option_and_then (limit_most grid)) limits;
}

-- the bound of a region, where it has one
abbrev pub region_most : List (Option ℕ) → Option ℕ → Option ℕ
region_most regions None = None
region_most regions (Some region) = slice_index_or regions region None

-- the lesser of two bounds, of those that there are
abbrev pub lesser : Option ℕ → Option ℕ → Option ℕ
lesser None other = other
lesser (Some most) None = Some most
lesser (Some most) (Some other) = Some (min most other)

-- the bound of a tetrahedron with this mark: the lesser of that of all and that of its region
abbrev pub most_of : VolumeBounds → Option ℕ → Option ℕ
most_of bounds mark = lesser bounds.most (region_most bounds.regions mark)

-- the mark of the tetrahedron at a place, and none where there are no marks
abbrev pub mark_at : Option (List (Option ℕ)) → ℕ → Option ℕ
mark_at None place = None
mark_at (Some marks) place = slice_index_or marks place None

-- six times the volume is over the bound, where there is one
abbrev pub is_over : Option ℕ → Corners → Bool
is_over None t = false
is_over (Some most) t = is_large (pos most) t

-- how many of the tetrahedra are over their bounds
abbrev pub large_count : VolumeBounds → Option (List (Option ℕ)) → List Point → List Tet → ℕ
large_count bounds marks ps rows =
    count_by (λ r. is_over (most_of bounds (mark_at marks r.0)) (corners ps r.1)) (enumerate_from 0 rows)
