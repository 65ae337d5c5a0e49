use Rattle.std.proofs.Common.{◌≡◌, ℕ, length, take}
use Rattle.std.specs.List.{list_any}
use Rattle.geo_laws.specs.Delaunay.{has_corner}
use Rattle.weighted_mesh.proofs.hidden.hidden_count.Given as goal
use Rattle.geo_laws.specs.Marks.{is_marked}

abbrev pub invariant-loop-row : goal.invariant-loop-row
invariant-loop-row l =
    (length l.marks.items ≡ l.count) × ((i : ℕ) → is_marked l.marks.items i ≡ list_any (λ t. has_corner t i) (take l.row-index l.rows))
