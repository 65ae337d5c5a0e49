use Rattle.std.proofs.Common.{◌≡◌, take}
use Rattle.std.specs.Prelude.{count_by}
use Rattle.geo_laws.specs.Delaunay.{corners}
use Rattle.tet_shapes.specs.Angle.{is_flat}
use Rattle.tet_shapes.proofs.count.count_flat.Given as goal

abbrev pub invariant-loop-i : goal.invariant-loop-i
invariant-loop-i l = l.count ≡ count_by (λ row. is_flat l.bound (corners l.points row)) (take l.i l.rows)
