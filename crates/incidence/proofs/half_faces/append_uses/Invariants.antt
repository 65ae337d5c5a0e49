use Rattle.std.proofs.Common.{◌≡◌, ◌++◌, take}
use Rattle.incidence.specs.HalfFaces.{used}
use Rattle.incidence.proofs.half_faces.append_uses.Given as goal

abbrev pub invariant-loop-half : goal.invariant-loop-half
invariant-loop-half l = l.uses.items ≡ l.fn.uses.items ++ used l.list (take l.half-index l.halves)
