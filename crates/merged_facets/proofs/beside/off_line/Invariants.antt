use Rattle.std.proofs.Common.{◌≡◌, drop}
use Rattle.std.specs.Prelude.{find}
use Rattle.merged_facets.specs.Beside.{is_off}
use Rattle.merged_facets.proofs.beside.off_line.Given as goal

-- the corners so far are on the line
abbrev pub invariant-loop-i : goal.invariant-loop-i
invariant-loop-i l = find (is_off l.points l.s) (drop l.i l.corners) ≡ find (is_off l.points l.s) l.corners
