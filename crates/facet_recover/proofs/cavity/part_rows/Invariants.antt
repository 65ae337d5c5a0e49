use Rattle.std.proofs.Common.{take}
use Rattle.facet_recover.specs.Parted.{IsParted}
use Rattle.facet_recover.specs.Stars.{IsStarFrom}
use Rattle.facet_recover.proofs.cavity.part_rows.Given as goal

abbrev pub invariant-loop-i : goal.invariant-loop-i
invariant-loop-i l =
    record {
      parted : IsParted l.points l.triangles (take l.i l.list) l.kept l.crossed;
      star : IsStarFrom l.points l.list l.tree l.i l.star;
    }
