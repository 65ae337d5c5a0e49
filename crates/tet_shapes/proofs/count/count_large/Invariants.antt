use Rattle.std.proofs.Common.{◌≡◌, take}
use Rattle.std.specs.Prelude.{count_by}
use Rattle.std.specs.List.{enumerate_from}
use Rattle.geo_laws.specs.Delaunay.{corners}
use Rattle.tet_shapes.specs.Bounds.{is_over, mark_at, most_of}
use Rattle.tet_shapes.proofs.count.count_large.Given as goal

abbrev pub invariant-loop-i : goal.invariant-loop-i
invariant-loop-i l =
    l.count ≡ count_by (λ r. is_over (most_of l.bounds (mark_at l.marks r.0)) (corners l.points r.1)) (take l.i (enumerate_from 0 l.rows))
