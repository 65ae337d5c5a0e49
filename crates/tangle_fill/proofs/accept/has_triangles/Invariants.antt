use Rattle.std.specs.List.{AllWithin}
use Rattle.tangle_fill.specs.Accept.{HasTriangle}
use Rattle.tangle_fill.proofs.accept.has_triangles.Given as goal

abbrev pub invariant-loop-i : goal.invariant-loop-i
invariant-loop-i l = AllWithin (HasTriangle l.growth.rows) l.triangles 0 l.i
