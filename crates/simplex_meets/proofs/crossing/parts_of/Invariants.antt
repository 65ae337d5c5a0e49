use Rattle.std.proofs.Common.{◌≡◌, ◌++◌, map, take}
use Rattle.simplex_meets.specs.declared.complex_parts.Part.TheVariants.{Triangle, Segment}
use Rattle.simplex_meets.proofs.crossing.parts_of.Given as goal

abbrev pub invariant-loop-i : goal.invariant-loop-i
invariant-loop-i l = l.parts.items ≡ map Triangle (take l.i l.triangles)

abbrev pub invariant-loop-i-2 : goal.invariant-loop-i-2
invariant-loop-i-2 l = l.parts.items ≡ map Triangle l.triangles ++ map Segment (take l.i l.pieces)
