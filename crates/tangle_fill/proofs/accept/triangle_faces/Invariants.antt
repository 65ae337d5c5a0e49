use Rattle.tangle_fill.specs.Accept.{AreTriangleFaces}
use Rattle.tangle_fill.proofs.accept.triangle_faces.Given as goal

abbrev pub invariant-loop-i : goal.invariant-loop-i
invariant-loop-i l = AreTriangleFaces l.triangles l.faces
