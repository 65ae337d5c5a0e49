use Rattle.std.proofs.Common.{take, List}
use Rattle.geo_laws.specs.declared.tetrahedra.Tet.{Tet}
use Rattle.facet_recover.specs.Missing.{AreMissing, AreListed}
use Rattle.facet_recover.proofs.missing.unmarked.Given as goal

abbrev pub invariant-loop-i : goal.invariant-loop-i
invariant-loop-i l = (rows : List Tet) → AreListed l.triangles rows l.listed → AreMissing (take l.i l.triangles) rows l.missing
