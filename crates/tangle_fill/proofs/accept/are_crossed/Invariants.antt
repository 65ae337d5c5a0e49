use Rattle.std.specs.List.{AllWithin}
use Rattle.tangle_fill.proofs.accept.are_crossed.Given as goal
use Rattle.geo_laws.specs.Facet.{IsUncrossed}

abbrev pub invariant-loop-i : goal.invariant-loop-i
invariant-loop-i l = AllWithin (λ t. ¬ IsUncrossed l.points l.triangles t) l.rows 0 l.i
