-- Coordinates of points of a mesh, as its files have them, and where a mesh is worst.
use Rattle.std.specs.Prelude.{ℕ, List, [], ◌++◌, codes, Option, None, Some}
use Rattle.std.specs.Fmt.{decimal}
use Rattle.sign_predicates.specs.Point.{Point}
use Rattle.node_files.specs.Writing.{fields_from}
use Rattle.refining.specs.declared.watch.Frame.{Frame}
use Rattle.refining.specs.declared.worst.LargeRatio.{LargeRatio}
use Rattle.refining.specs.declared.worst.SmallAngle.{SmallAngle}
use Rattle.solver_files.specs.Mesh.{spaced}

-- where a corner of a tetrahedron is
abbrev pub where_text : Frame → Point → List ℕ
where_text frame p = codes " at " ++ spaced (fields_from frame.origin frame.grid p)

-- its coordinates in parentheses
unfoldable pub on_grid_text : Frame → Point → List ℕ
on_grid_text frame p = codes " (" ++ spaced (fields_from frame.origin frame.grid p) ++ codes ")"

-- the least dihedral angle and where it is, where one is below the aim
abbrev pub least_text : Frame → Option SmallAngle → List ℕ
least_text frame None = []
least_text frame (Some small) = codes " least angle " ++ decimal small.degrees ++ where_text frame small.at

-- the greatest ratio and where it is, where one is over the bound
abbrev pub greatest_text : Frame → Option LargeRatio → List ℕ
greatest_text frame None = []
greatest_text frame (Some large) =
    codes " greatest ratio over " ++ decimal large.times ++ codes " times the bound" ++ where_text frame large.at
